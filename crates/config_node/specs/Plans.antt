-- The catalogue after a step.
use Rattle.std.specs.Prelude.{ℕ, List, ◌∷◌, Option, Some, None}
use Rattle.chunk_model.specs.Changes.{Change}
use Rattle.node_model.specs.Journal.{change_record}
use Rattle.node_model.specs.States.{NodeState, catalogue_state}
use Rattle.shard_records.specs.Sizes.{IsWritableRecord}

-- the changes with one more, if there is one
abbrev pub changes_with : Option Change → List Change → List Change
changes_with None changes = changes
changes_with (Some x) changes = x ∷ changes

-- the catalogue at that time, with the change
abbrev pub at_then : (me time : ℕ) → Option Change → List Change → NodeState
at_then me time change changes = catalogue_state (record { me = me; time = time; changes = changes_with change changes })

-- the record of a change can be written
abbrev pub IsWritableChange : Change → Type 0
IsWritableChange x = IsWritableRecord (change_record x)
