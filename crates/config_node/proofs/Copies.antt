-- The record of a change is written from copies of its parts.
use Rattle.std.proofs.Common.{◌≡◌, ◌++◌, ℕ, List, subst}
use Rattle.std.specs.Prelude.{Result, OnOk}
use Rattle.chunk_model.specs.Changes.{Change}
use Rattle.node_model.specs.Journal.{change_record}
use Rattle.record_model.specs.RecordFormat.{spelled}

-- the bytes of one change are those of an equal one
pub written_as : {A E : Type 0} (x y : Change) (r : Result A E) (new old : List ℕ) → x ≡ y → OnOk r (new ≡ old ++ spelled 1 (change_record x))
    → OnOk r (new ≡ old ++ spelled 1 (change_record y))
written_as x y r new old same written = subst (λ z. OnOk r (new ≡ old ++ spelled 1 (change_record z))) same written
