-- The first values of two names, found in one pass.
use Rattle.std.proofs.Common.{ℕ, List, Option}
use Rattle.std.specs.Option.{option_or}
use Rattle.bson_model.specs.Tree.{Datum, get}
use Rattle.bson_values.specs.declared.value.Field.{Field}
use Rattle.bson_values.specs.View.{fields_of}

-- the value that was found, or else the first value of that name in what is left
abbrev pub found_or_left : Option Datum → List ℕ → List Field → Option Datum
found_or_left found name left = option_or found (get name (fields_of left))
