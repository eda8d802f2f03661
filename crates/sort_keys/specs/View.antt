-- Specifications and keys of the program as plain data.
use Rattle.std.specs.Prelude.{List, map, Option, option_map}
use Rattle.bson_values.specs.View.{datum_of}
use Rattle.pipeline_model.specs.SortKeys as model
use Rattle.pipeline_model.specs.SortKeys.{ascending, descending, empty_array, value_part}
use Rattle.sort_keys.specs.declared.parser.Direction.{Direction}
use Rattle.sort_keys.specs.declared.parser.Direction.TheVariants.{Ascending, Descending}
use Rattle.sort_keys.specs.declared.parser.SortField.{SortField}
use Rattle.sort_keys.specs.declared.parts.KeyPart.{KeyPart}
use Rattle.sort_keys.specs.declared.parts.KeyPart.TheVariants as kept
use Rattle.sort_keys.specs.declared.parts.Part.{Part}
use Rattle.sort_keys.specs.declared.parts.Part.TheVariants as lent

abbrev pub direction_of : Direction → model.Direction
direction_of Ascending = ascending
direction_of Descending = descending

abbrev pub field_of : SortField → model.SortField
field_of f = record { path = f.path; direction = direction_of f.direction }

abbrev pub sort_fields_of : List SortField → List model.SortField
sort_fields_of fields = map field_of fields

abbrev pub part_of : KeyPart → model.KeyPart
part_of kept.EmptyArray = empty_array
part_of (kept.Value v) = value_part (datum_of v)

abbrev pub parts_of : List KeyPart → List model.KeyPart
parts_of parts = map part_of parts

-- a borrowed part
abbrev pub part_seen : Part → model.KeyPart
part_seen lent.EmptyArray = empty_array
part_seen (lent.Value v) = value_part (datum_of v.now)

abbrev pub best_seen : Option Part → Option model.KeyPart
best_seen best = option_map part_seen best
