-- Sort keys and their order (MongoDB manual, "$sort", "Comparison/Sort Order": arrays). Own: what an empty array and a path into
-- an array sort by.
use Rattle.std.specs.Prelude.{ℕ, suc, ℤ, pos, negsuc, List, [], ◌∷◌, ◌++◌, map, flat_map, Bool, Result, Ok, Err, ok_or, nat_lt, if◌then◌else◌}
use Rattle.std.specs.declared.cmp.Ordering.{Ordering}
use Rattle.std.specs.declared.cmp.Ordering.TheVariants.{Less, Equal, Greater}
use Rattle.std.specs.Ordering.{ordering_then, nat_cmp, on, then_cmp, is_lt, int_eq}
use Rattle.bson_model.specs.Tree.{Datum, array_value, null_value, min_key_value, no_items, item, Fields, no_fields, field}
use Rattle.value_model.specs.Order.{order}
use Rattle.query_model.specs.Paths.{Path, elements, values_at, has_gap}
use Rattle.query_model.specs.Queries.{QueryFault, bad_operand}
use Rattle.query_model.specs.Reading.{◌>>=◌}
use Rattle.pipeline_model.specs.Operands.{read_name, whole_number}

pub data Direction : Type 0 where
  ascending : Direction
  descending : Direction

pub record SortField : Type 0 where
  pub path : Path
  pub direction : Direction

abbrev pub SortSpec : Type 0
SortSpec = List SortField

-- what a document sorts by at one path: a value, or the mark of an empty array, which is above MinKey and below null
pub data KeyPart : Type 0 where
  empty_array : KeyPart
  value_part : Datum → KeyPart

abbrev pub part_rank : KeyPart → ℕ
part_rank (value_part min_key_value) = 0
part_rank empty_array = 1
part_rank (value_part d) = 2

abbrev pub part_value : KeyPart → Datum
part_value empty_array = null_value
part_value (value_part d) = d

abbrev pub order_parts : KeyPart → KeyPart → Ordering
order_parts = then_cmp (on part_rank nat_cmp) (on part_value order)

-- an order as it is, or the other way round
abbrev pub directed : {K : Type 0} → Direction → (K → K → Ordering) → K → K → Ordering
directed ascending R x y = R x y
directed descending R x y = R y x

abbrev pub parts_of_value : Datum → List KeyPart
parts_of_value (array_value no_items) = empty_array ∷ []
parts_of_value (array_value (item d ds)) = map value_part (elements (item d ds))
parts_of_value d = value_part d ∷ []

abbrev pub null_if : Bool → List KeyPart
null_if b = if b then value_part null_value ∷ [] else []

-- the values at the path, each array replaced by its elements, and null where there is a gap
abbrev pub parts_at : Path → Fields → List KeyPart
parts_at path document = flat_map parts_of_value (values_at path document) ++ null_if (has_gap path document)

-- the first of those that none comes before
abbrev pub first_from : (KeyPart → KeyPart → Ordering) → KeyPart → List KeyPart → KeyPart
first_from R best [] = best
first_from R best (p ∷ ps) = first_from R (if is_lt (R p best) then p else best) ps

abbrev pub first_part : (KeyPart → KeyPart → Ordering) → List KeyPart → KeyPart
first_part R [] = value_part null_value
first_part R (p ∷ ps) = first_from R p ps

-- the least part upwards, the greatest downwards, null where there is none
abbrev pub key_part : SortField → Fields → KeyPart
key_part by document = first_part (directed by.direction order_parts) (parts_at by.path document)

abbrev pub sort_key : SortSpec → Fields → List KeyPart
sort_key spec document = map (λ by. key_part by document) spec

-- path by path, each in its direction; the keys of a specification are equally long
abbrev pub order_keys : SortSpec → List KeyPart → List KeyPart → Ordering
order_keys [] ps qs = Equal
order_keys (by ∷ spec) [] [] = Equal
order_keys (by ∷ spec) [] (q ∷ qs) = Less
order_keys (by ∷ spec) (p ∷ ps) [] = Greater
order_keys (by ∷ spec) (p ∷ ps) (q ∷ qs) = ordering_then (directed by.direction order_parts p q) (order_keys spec ps qs)

abbrev pub order_documents : SortSpec → Fields → Fields → Ordering
order_documents spec = on (sort_key spec) (order_keys spec)

-- a document comes before another
abbrev pub comes_before : SortSpec → Fields → Fields → Bool
comes_before spec a b = is_lt (order_documents spec a b)

abbrev pub direction_of : ℤ → Result Direction QueryFault
direction_of z = if int_eq z (pos 1) then Ok ascending else if int_eq z (negsuc 0) then Ok descending else Err bad_operand

abbrev pub read_direction : Datum → Result Direction QueryFault
read_direction d = ok_or (whole_number d) bad_operand >>= direction_of

abbrev pub read_sort_fields : Fields → Result SortSpec QueryFault
read_sort_fields no_fields = Ok []
read_sort_fields (field name d ms) = do
  path ← read_name name
  direction ← read_direction d
  others ← read_sort_fields ms
  Ok (record { path = path; direction = direction } ∷ others)

abbrev pub field_count : Fields → ℕ
field_count no_fields = 0
field_count (field name d ms) = suc (field_count ms)

abbrev pub most_sort_fields : ℕ
most_sort_fields = 32

-- the specification that a document is, or the first fault: too many fields, and then those of the fields in order
abbrev pub read_sort : Fields → Result SortSpec QueryFault
read_sort document = if nat_lt most_sort_fields (field_count document) then Err bad_operand else read_sort_fields document
