-- Documents with their keys.
use Rattle.std.specs.Prelude.{◌≡◌, Bool}
use Rattle.std.specs.Arc.{arc_value}
use Rattle.std.specs.Ordering.{is_lt}
use Rattle.bson_values.specs.Tree.{Fields}
use Rattle.pipeline_model.specs.SortKeys.{SortSpec, order_keys, sort_key}
use Rattle.pipeline_eval.specs.declared.sorting.Keyed.{Keyed}

abbrev pub document_of : Keyed → Fields
document_of row = arc_value row.document

abbrev pub keys_before : SortSpec → Keyed → Keyed → Bool
keys_before spec a b = is_lt (order_keys spec a.key b.key)

abbrev pub HasKey : SortSpec → Keyed → Type 0
HasKey spec row = row.key ≡ sort_key spec (document_of row)
