-- References to values as the values that they point to.
use Rattle.std.specs.Prelude.{List, map}
use denote.Ref.{Bor}
use Rattle.bson_values.specs.declared.value.Value.{Value}
use Rattle.bson_values.specs.View.{datum_of}
use Rattle.bson_model.specs.Tree.{Datum}

abbrev pub seen : List (Bor Value) → List Datum
seen values = map (λ v. datum_of v.now) values
