-- A time above all versions is above those of the keys of a batch.
use Rattle.std.proofs.Common.{◌≡◌, ℕ, ◌<◌, List, [], ◌∷◌, Option, Some, None, refl}
use Rattle.std.specs.Prelude.{IfSome}
use Rattle.bson_values.specs.Tree.{Datum}
use Rattle.record_model.specs.Moves.{MovedDocument}
use Rattle.mvcc_collection.specs.Collections.{last_in}
use Rattle.mvcc_collection.specs.declared.collection.Collection.{Collection}
use Rattle.migration_recipient.specs.Applied.{IsLater}

if_below : (time : ℕ) (last : Option ℕ) → ((t : ℕ) → last ≡ Some t → t < time) → IfSome last (λ t. t < time)
if_below time None below = tt
if_below time (Some t) below = below t refl

pub later_than_all : (c : Collection) (time : ℕ) → ((k : Datum) (t : ℕ) → last_in c k ≡ Some t → t < time) → (docs : List MovedDocument) → IsLater c time docs
later_than_all c time below [] = tt
later_than_all c time below (m ∷ docs) = (if_below time (last_in c m.key) (below m.key), later_than_all c time below docs)
