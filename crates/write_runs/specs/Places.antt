-- Statements that are to be sent, with the shards that they can be sent to (own).
use Rattle.std.specs.Prelude.{ℕ, List, [], ◌∷◌, map, filter, not, ◌==◌, Option, Some, None}
use Rattle.chunk_model.specs.Tables.{Table}
use Rattle.chunk_model.specs.Verdicts.{sent_by}
use Rattle.node_model.specs.Letters.{Statement}
use Rattle.node_model.specs.RouterRequests.{shard_for}
use Rattle.node_model.specs.States.{Run}
use Rattle.reply_model.specs.Outcomes.{Try}
use Rattle.write_runs.specs.declared.places.Place.{Place}

abbrev pub first_in : {X : Type 0} → List X → Option X
first_in [] = None
first_in (x ∷ xs) = Some x

-- of the statements that can be sent, the index of each and its shard
abbrev pub all_placed : Table → List (List Try) → List Statement → List (ℕ × ℕ)
all_placed t tries [] = []
all_placed t tries (s ∷ statements) = elim (shard_for t tries s) [
  | None ↦ all_placed t tries statements
  | Some shard ↦ (s.number.index, shard) ∷ all_placed t tries statements
]

abbrev pub place_view : Place → ℕ × ℕ
place_view p = (p.index, p.shard.0)

-- the shards of places, in order of the first place of each
abbrev pub shards_among : List (ℕ × ℕ) → List ℕ
shards_among [] = []
shards_among (p ∷ places) = p.1 ∷ filter (λ other. not (other == p.1)) (shards_among places)

-- the indices at the places of a shard
abbrev pub indices_to : ℕ → List (ℕ × ℕ) → List ℕ
indices_to shard places = map (λ (p : ℕ × ℕ). p.0) (filter (λ (p : ℕ × ℕ). p.1 == shard) places)

-- a run to each of these shards
abbrev pub runs_to : Table → List ℕ → List (ℕ × ℕ) → List Run
runs_to t shards places = map (λ shard. record { shard = shard; sent = sent_by t shard; indices = indices_to shard places }) shards
