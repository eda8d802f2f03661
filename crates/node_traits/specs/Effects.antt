-- The results of a step.
use Rattle.std.specs.Prelude.{◌≡◌, ℕ, ◌+◌, List, [], ◌∷◌, map, Bool, true, false, ◌||◌, nat_le, if◌then◌else◌}
use Rattle.std.specs.List.{AllByRecursion}
use Rattle.node_model.specs.Exchanges.{reply_put}
use Rattle.node_model.specs.Journal.{Kept, record_kept}
use Rattle.node_model.specs.Lacks.{most_steps, last_time}
use Rattle.node_model.specs.Letters.{Letter, Input, Reply, Effect}
use Rattle.node_model.specs.RecordFormat.{spelled}
use Rattle.shard_records.specs.Readable.{IsReadable}
use Rattle.node_model.specs.States.{NodeState}
use Rattle.node_model.specs.Steps.{Step}
use Rattle.node_traits.specs.Calls.{LogCall, Appended, LeftOff}
use Rattle.node_traits.specs.declared.outputs.ToLink.{ToLink}
use Rattle.node_traits.specs.declared.outputs.NotTaken.{NotTaken}
use Rattle.node_traits.specs.declared.outputs.NotTaken.TheVariants.{Disk, Steps, Memory}

-- the bytes of a reply
abbrev pub put_by : Reply → List ℕ
put_by r = reply_put r.number r.request r.document

-- the replies that are requested, as bytes for their links
abbrev pub puts_of : List Reply → List ToLink
puts_of [] = []
puts_of (r ∷ replies) = if r.request.more then puts_of replies else record { link = r.link; bytes = put_by r } ∷ puts_of replies

-- what is written, as the records of a journal
abbrev pub spellings : List Kept → List (List ℕ)
spellings kept = map (λ k. spelled 1 (record_kept k)) kept

-- each has an encoding that determines it
abbrev pub AreReadable : List Kept → Type 0
AreReadable kept = AllByRecursion (λ k. IsReadable (record_kept k)) kept

-- A step is planned: nothing is written yet; these are its messages, replies and records.
pub record StepPlanned (old : NodeState) (input : Input) (mail : List Letter) (replies : List ToLink) (records : List (List ℕ)) (new : NodeState) : Type 0 where
  pub effect : Effect
  pub step : Step old input effect new
  pub sent : effect.mail ≡ mail
  pub told : replies ≡ puts_of effect.replies
  pub readable : AreReadable effect.written
  pub spelled : records ≡ spellings effect.written

-- A step was taken: these messages and replies are sent, and its records were appended.
pub record StepDone (old : NodeState) (input : Input) (mail : List Letter) (replies : List ToLink) (call : LogCall) (new : NodeState) : Type 0 where
  pub effect : Effect
  pub step : Step old input effect new
  pub sent : effect.mail ≡ mail
  pub told : replies ≡ puts_of effect.replies
  pub readable : AreReadable effect.written
  pub kept : Appended call (spellings effect.written)

-- A disk failed: the records of a step are stored or they aren't. Nothing is said of the state of the node.
pub record StepBroken (old : NodeState) (input : Input) (call : LogCall) : Type 0 where
  pub effect : Effect
  pub new : NodeState
  pub step : Step old input effect new
  pub readable : AreReadable effect.written
  pub left : LeftOff call (spellings effect.written)

-- one thing holds where a disk failed, with its count of faults, and another with each other fault
abbrev pub ByNotTaken : NotTaken → (ℕ → Type 0) → Type 0 → Type 0
ByNotTaken (Disk faults) failed unchanged = failed faults
ByNotTaken Steps failed unchanged = unchanged
ByNotTaken Memory failed unchanged = unchanged

-- the fault is that of the last step
abbrev pub is_at_last : NotTaken → Bool
is_at_last (Disk faults) = false
is_at_last Steps = true
is_at_last Memory = false

-- the count of steps after a fault
abbrev pub steps_after : NotTaken → ℕ → ℕ
steps_after Steps n = n
steps_after fault n = n + 1

-- a count of steps is at its end, or the time of its node or of what comes to it (`is_last` of node_model, of these three)
abbrev pub is_at_end : (steps own brought : ℕ) → Bool
is_at_end steps own brought = nat_le most_steps steps || (nat_le last_time own || nat_le last_time brought)
