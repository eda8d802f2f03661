-- The fields before other fields.
use Rattle.std.specs.Prelude.{◌≡◌, ℕ, List, [], ◌∷◌, Some}
use Rattle.bson_model.specs.Tree.{Datum}
use Rattle.base_model.specs.Names.{full_name}
use Rattle.command_model.specs.Forms.{string_or}
use Rattle.bson_values.specs.declared.value.Field.{Field}

-- the names, the last first
abbrev pub names_given : List (List ℕ) → List Field → List (List ℕ)
names_given names [] = names
names_given names (m ∷ fields) = names_given (m.name ∷ names) fields

-- the namespace of the database and the collection that a command's own field names
abbrev pub NamesCollection : List ℕ → (database : List ℕ) → Datum → Type 0
NamesCollection namespace database value = namespace ≡ full_name database (string_or [] (Some value))

-- the namespace that a command's own field names in full
abbrev pub NamesInFull : List ℕ → Datum → Type 0
NamesInFull namespace value = namespace ≡ string_or [] (Some value)
