-- Operands of stages: values at paths, and constants (MongoDB manual, "Aggregation Expressions", "Field Path"; "Literals"). Own:
-- no constant is a document or an array; an array on the way is one step, as in a query.
use Rattle.std.specs.Prelude.{ℕ, ℤ, List, [], ◌∷◌, Bool, true, Option, Some, None, Result, Ok, Err, filter_map, option_and_then, ◌==◌, if◌then◌else◌}
use Rattle.std.specs.Result.{result_map_both}
use Rattle.std.specs.Str.{byte}
use Rattle.bson_model.specs.Tree.{Datum, document_value, array_value, string_value, int32_value, int64_value, Items, no_items, item, Fields, get}
use Rattle.query_model.specs.Paths.{Path, read_path, elements, as_document, is_scalar}
use Rattle.query_model.specs.Queries.{QueryFault, bad_operand, path_fault}
use Rattle.query_model.specs.Reading.{◌>>=◌}

abbrev pub items_of : List Datum → Items
items_of [] = no_items
items_of (d ∷ ds) = item d (items_of ds)

-- The value at what is left of a path. In an array: the array of the values of those of its elements that are documents and
-- have one.
abbrev pub value_from : Path → Datum → Option Datum
value_from [] d = Some d
value_from (part ∷ parts) (document_value ms) = option_and_then (value_from parts) (get part ms)
value_from (part ∷ parts) (array_value ds) =
    Some (array_value (items_of (filter_map (λ ms. option_and_then (value_from parts) (get part ms)) (filter_map as_document (elements ds)))))
value_from (part ∷ parts) d = None

-- the value at a path in a document; a path has a part
abbrev pub value_at : Path → Fields → Option Datum
value_at [] document = None
value_at (part ∷ parts) document = option_and_then (value_from parts) (get part document)

pub data Operand : Type 0 where
  path_operand : Path → Operand
  constant_operand : Datum → Operand

-- what an operand is in a document
abbrev pub value_of : Operand → Fields → Option Datum
value_of (path_operand path) document = value_at path document
value_of (constant_operand d) document = Some d

-- no constant has values inside, as none has that is read
abbrev pub is_plain : Operand → Bool
is_plain (path_operand path) = true
is_plain (constant_operand d) = is_scalar d

-- what a string names after its $
abbrev pub named_path : List ℕ → Option (List ℕ)
named_path [] = None
named_path (b ∷ name) = if b == byte "$" then Some name else None

abbrev pub read_name : List ℕ → Result Path QueryFault
read_name name = result_map_both (λ path. path) path_fault (read_path name)

abbrev pub read_operand : Datum → Result Operand QueryFault
read_operand (string_value s) = elim (named_path s) [
  | None ↦ Ok (constant_operand (string_value s))
  | Some name ↦ read_name name >>= λ path. Ok
      (path_operand path)
]
read_operand (document_value ms) = Err bad_operand
read_operand (array_value ds) = Err bad_operand
read_operand d = Ok (constant_operand d)

abbrev pub whole_number : Datum → Option ℤ
whole_number (int32_value z) = Some z
whole_number (int64_value z) = Some z
whole_number d = None
