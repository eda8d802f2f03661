-- Documents of more than one field.
use Rattle.std.proofs.Common.{◌≡◌, ◌≤◌, List, [], ◌∷◌, length, refl, None, arith}
use Rattle.bson_values.specs.declared.value.Field.{Field}
use Rattle.bson_values.specs.View.{fields_of}
use Rattle.command_model.specs.AdminCommands.{only_id}

pub some_fields : (ms : List Field) → 2 ≤ length ms → None ≡ only_id (fields_of ms)
some_fields [] two = absurd (omega arith)
some_fields (first ∷ []) two = absurd (omega arith)
some_fields (first ∷ second ∷ ms) two = refl
