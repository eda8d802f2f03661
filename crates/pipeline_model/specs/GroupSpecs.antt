-- Which documents are specifications of groups (MongoDB manual, "$group": Syntax; "Accumulators"). Own: an `_id` that is no
-- document; the accumulators `$sum`, `$min`, `$max` and `$count` alone; names are not tested.
use Rattle.std.specs.Prelude.{ℕ, List, [], ◌∷◌, Bool, true, ◌&&◌, Result, Ok, Err, ok_or, codes, if◌then◌else◌}
use Rattle.std.specs.List.{list_all}
use Rattle.std.specs.Str.{bytes_eq}
use Rattle.bson_model.specs.Tree.{Datum, document_value, Fields, no_fields, field}
use Rattle.query_model.specs.Queries.{QueryFault, unknown_operator, bad_operand, named}
use Rattle.query_model.specs.Reading.{◌>>=◌}
use Rattle.pipeline_model.specs.Operands.{Operand, is_plain, read_operand}
use Rattle.pipeline_model.specs.SortKeys.{Direction, ascending, descending}

pub data Accumulator : Type 0 where
  sum_accumulator : Operand → Accumulator
  count_accumulator : Accumulator
  -- the least value (ascending) or the greatest
  extreme_accumulator : Direction → Operand → Accumulator

-- a field of a group's document
pub record GroupField : Type 0 where
  pub name : List ℕ
  pub accumulator : Accumulator

pub record GroupSpec : Type 0 where
  -- what documents are grouped by
  pub key : Operand
  pub fields : List GroupField

abbrev pub is_plain_field : GroupField → Bool
is_plain_field f = elim f.accumulator [ sum_accumulator x ↦ is_plain x | count_accumulator ↦ true | extreme_accumulator direction x ↦ is_plain x ]

abbrev pub is_plain_group : GroupSpec → Bool
is_plain_group spec = is_plain spec.key && list_all is_plain_field spec.fields

pub data AccumulatorName : Type 0 where
  sum_name : AccumulatorName
  min_name : AccumulatorName
  max_name : AccumulatorName
  count_name : AccumulatorName

abbrev pub accumulators : List (List ℕ × AccumulatorName)
accumulators = (codes "$sum", sum_name) ∷ (codes "$min", min_name) ∷ (codes "$max", max_name) ∷ (codes "$count", count_name) ∷ []

abbrev pub accumulate : AccumulatorName → Datum → Result Accumulator QueryFault
accumulate sum_name d = read_operand d >>= λ x. Ok (sum_accumulator x)
accumulate min_name d = read_operand d >>= λ x. Ok (extreme_accumulator ascending x)
accumulate max_name d = read_operand d >>= λ x. Ok (extreme_accumulator descending x)
accumulate count_name (document_value no_fields) = Ok count_accumulator
accumulate count_name d = Err bad_operand

-- a document of one field, an accumulator
abbrev pub read_accumulator : Datum → Result Accumulator QueryFault
read_accumulator (document_value (field name d no_fields)) = ok_or (named accumulators name) unknown_operator >>= λ which. accumulate which d
read_accumulator d = Err bad_operand

-- the keys and the other fields that were read
pub record GroupParts : Type 0 where
  pub keys : List Operand
  pub fields : List GroupField

abbrev pub with_key : Operand → GroupParts → GroupParts
with_key x parts = record { keys = x ∷ parts.keys; fields = parts.fields }

abbrev pub with_field : GroupField → GroupParts → GroupParts
with_field f parts = record { keys = parts.keys; fields = f ∷ parts.fields }

abbrev pub read_group_field : List ℕ → Datum → Result (GroupParts → GroupParts) QueryFault
read_group_field name d =
    if bytes_eq name (codes "_id") then (read_operand d >>= λ x. Ok (with_key x))
    else (read_accumulator d >>= λ accumulator. Ok (with_field (record { name = name; accumulator = accumulator })))

abbrev pub read_group_fields : Fields → Result GroupParts QueryFault
read_group_fields no_fields = Ok (record { keys = []; fields = [] })
read_group_fields (field name d ms) = do
  add ← read_group_field name d
  others ← read_group_fields ms
  Ok (add others)

abbrev pub with_one_key : GroupParts → Result GroupSpec QueryFault
with_one_key parts = elim parts.keys [
  | [] ↦ Err bad_operand
  | x
      ∷ xs ↦ elim xs [ [] ↦ Ok (record { key = x; fields = parts.fields }) | y ∷ ys ↦ Err bad_operand ]
]

-- the specification that a document is, or the first fault: of the fields in order, and then that there is not exactly one `_id`
abbrev pub read_group : Fields → Result GroupSpec QueryFault
read_group document = read_group_fields document >>= with_one_key
