-- A code that determines a specification or a key: a direction is a number, a part is a number and its value.
use Rattle.std.specs.Prelude.{◌≡◌, ℕ, List, refl, ◌==◌, if◌then◌else◌}
use Rattle.std.specs.Coded.{Coded, code_by, coded_list, coded×, coded_ℕ}
use Rattle.bson_model.specs.Tree.{Datum, null_value}
use Rattle.value_compare.specs.Code.{datum_code}
use Rattle.query_model.specs.Paths.{Path}
use Rattle.pipeline_model.specs.SortKeys.{Direction, ascending, descending, SortField, KeyPart, empty_array, value_part}

abbrev pub direction_number : Direction → ℕ
direction_number ascending = 0
direction_number descending = 1

abbrev pub direction_from : ℕ → Direction
direction_from n = if n == 0 then ascending else descending

abbrev pub direction_back : (d : Direction) → direction_from (direction_number d) ≡ d
direction_back ascending = refl
direction_back descending = refl

abbrev pub direction_code : Coded Direction
direction_code = code_by ℕ coded_ℕ direction_number direction_from direction_back

abbrev pub field_code : Coded SortField
field_code =
    code_by (Path × Direction) (coded× (coded_list (coded_list coded_ℕ)) direction_code) (λ f. (f.path, f.direction))
    (λ p. record { path = p.0; direction = p.1 }) (λ f. refl)

abbrev pub spec_code : Coded (List SortField)
spec_code = coded_list field_code

abbrev pub part_parts : KeyPart → ℕ × Datum
part_parts empty_array = (0, null_value)
part_parts (value_part d) = (1, d)

abbrev pub part_from : ℕ × Datum → KeyPart
part_from parts = if parts.0 == 0 then empty_array else value_part parts.1

abbrev pub part_back : (p : KeyPart) → part_from (part_parts p) ≡ p
part_back empty_array = refl
part_back (value_part d) = refl

abbrev pub part_code : Coded KeyPart
part_code = code_by (ℕ × Datum) (coded× coded_ℕ datum_code) part_parts part_from part_back

abbrev pub key_code : Coded (List KeyPart)
key_code = coded_list part_code
