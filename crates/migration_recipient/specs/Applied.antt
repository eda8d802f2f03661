-- What is done with the members of a batch (own).
use Rattle.std.specs.Prelude.{◌≡◌, ℕ, ◌+◌, ◌≤◌, ◌<◌, List, Option, Some, None, IfSome, Bool, true, ◌&&◌, nat_lt, nat_le, if◌then◌else◌}
use Rattle.std.specs.List.{AllByRecursion}
use Rattle.bson_values.specs.Tree.{Datum}
use Rattle.value_compare.specs.Order.{same_value}
use Rattle.record_model.specs.Moves.{MovedDocument}
use Rattle.mvcc_collection.specs.Collections.{at_in, last_in, room_in}
use Rattle.mvcc_collection.specs.declared.collection.Collection.{Collection}

-- there is room for a version of each key
abbrev pub HasRoom : Collection → List MovedDocument → Type 0
HasRoom c docs = AllByRecursion (λ m. 1 ≤ room_in c m.key) docs

-- all versions of each key are earlier
abbrev pub IsLater : Collection → ℕ → List MovedDocument → Type 0
IsLater c time docs = AllByRecursion (λ m. IfSome (last_in c m.key) (λ t. t < time)) docs

abbrev pub is_earlier : Option ℕ → ℕ → Bool
is_earlier None time = true
is_earlier (Some last) time = nat_lt last time

-- the key has this document, or none, from the time on
pub record IsPut (m : MovedDocument) (time : ℕ) (old new : Collection) : Type 0 where
  pub documents : (k : Datum) (t : ℕ) → at_in new k t ≡ (if same_value m.key k && nat_le time t then m.document else at_in old k t)
  pub last : (k : Datum) → last_in new k ≡ (if same_value m.key k then Some time else last_in old k)
  pub rooms : (k : Datum) → room_in old k ≤ room_in new k + (if same_value m.key k then 1 else 0)

-- nothing is to be seen of it
pub record IsSame (old new : Collection) : Type 0 where
  pub documents : (k : Datum) (t : ℕ) → at_in new k t ≡ at_in old k t
  pub last : (k : Datum) → last_in new k ≡ last_in old k
  pub rooms : (k : Datum) → room_in old k ≤ room_in new k
