-- What a chain of the program is as plain data.
use Rattle.std.specs.Prelude.{ℕ, ◌<◌, List, [], ◌∷◌, ◌++◌, Option, Some, None, IfSome, map}
use Rattle.std.specs.Arc.{arc_value}
use Rattle.std.specs.List.Sorted.{IsNonDecreasingBy}
use Rattle.std.specs.Option.{option_map}
use Rattle.std.specs.declared.vec.Vec.{Vec}
use Rattle.mvcc_collection.specs.Chains.{Dated, Past, last_time}
use Rattle.mvcc_collection.specs.declared.chain.Version.{Version}

abbrev pub dated : Version → Dated
dated v = (v.time.0, option_map arc_value v.document)

-- older versions, and the last after them
abbrev pub dated_with : Option Version → List Version → List Dated
dated_with None older = map dated older
dated_with (Some last) older = map dated older ++ dated last ∷ []

-- where there is no last version, there is room for it
abbrev pub room_with : Option Version → ℕ
room_with None = 1
room_with (Some last) = 0

abbrev pub past_of : {Z : Type 0} → Option Version → Vec Version Z → Past
past_of last older = record { versions = dated_with last older.items; room = room_with last }

-- older versions by rising time, and the last later than they
pub record AreRising (last : Option Version) (older : List Version) : Type 0 where
  pub sorted : IsNonDecreasingBy (λ v. v.time.0) older
  pub later : IfSome last (λ v. IfSome (last_time (map dated older)) (λ t. t < v.time.0))
