-- The targets and parts of the program, by the definitions; what gathering returns.
use Rattle.std.specs.Prelude.{◌≡◌, ℕ, List, [], ◌∷◌, map, Result, Ok, Err}
use Rattle.std.specs.declared.vec.Vec.{Vec}
use Rattle.chunk_model.specs.Tables.{Table}
use Rattle.chunk_model.specs.Verdicts.{sent_by}
use Rattle.chunk_table.specs.VerdictMeanings.{sent_view}
use Rattle.node_model.specs.Letters.{HalfFault, half_excess, half_overflow}
use Rattle.node_model.specs.RouterRequests as requested
use Rattle.node_model.specs.RouterNext as nexts
use Rattle.node_model.specs.States as states
use Rattle.pipeline_eval.specs.Rows as evaluated
use Rattle.pipeline_model.specs.Halves as halves
use Rattle.pipeline_eval.specs.declared.fault.EvalFault.{EvalFault}
use Rattle.pipeline_eval.specs.declared.fault.EvalFault.TheVariants.{Overflow, TooMuch, Memory}
use Rattle.pipeline_eval.specs.declared.rows.Rows.{Rows}
use Rattle.protocol_model.specs.Bodies.{rows_view}
use Rattle.value_model.specs.Keys.{Span}
use Rattle.read_parts.specs.declared.parts.Part.{Part}
use Rattle.read_parts.specs.declared.parts.Target.{Target}

abbrev pub target_view : Target → states.Target
target_view t = record { shard = t.shard.0; sent = sent_view t.sent }

abbrev pub part_view : Part → states.Part
part_view p = record { shard = p.shard.0; rows = rows_view p.rows }

-- these shards, with the versions that a router with the table sends to each
abbrev pub targets_to : Table → (shards : List ℕ) → List states.Target
targets_to t shards = map (λ shard. record { shard = shard; sent = sent_by t shard }) shards

-- which shards a read of these spans at a time is sent to, by a table
abbrev pub targets_by : Table → (at : ℕ) → List Span → List states.Target
targets_by t at span = targets_to t (requested.owners_of_span t at span)

-- the rows of the only part
abbrev pub alone : Result halves.Rows HalfFault → Result (List halves.Rows) HalfFault
alone (Ok rows) = Ok (rows ∷ [])
alone (Err fault) = Err fault

-- why a read has no rows, where a half has none
abbrev pub IsFaultOf : HalfFault → EvalFault → Type 0
IsFaultOf fault Overflow = fault ≡ half_overflow
IsFaultOf fault (TooMuch bytes) = fault ≡ half_excess bytes
IsFaultOf fault Memory = ⊥

-- The rows of all parts, in order of the targets, or why the first that has none has none. Nothing is said where memory runs out.
abbrev pub IsGathered : {Z : Type 0} → List states.Target → List states.Part → Result (Vec Rows Z) EvalFault → Type 0
IsGathered targets parts (Ok all) = nexts.rows_of targets parts ≡ Ok (map evaluated.rows_of all.items)
IsGathered targets parts (Err Overflow) = nexts.rows_of targets parts ≡ Err half_overflow
IsGathered targets parts (Err (TooMuch bytes)) = nexts.rows_of targets parts ≡ Err (half_excess bytes)
IsGathered targets parts (Err Memory) = Unit {0}
