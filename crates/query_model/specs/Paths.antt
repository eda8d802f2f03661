-- Paths, and the values at them in a document (MongoDB manual, "Dot Notation", "Query on Embedded/Nested Documents" and
-- "Query an Array of Embedded Documents"). Own: an array is one step, so that only those of its elements that are documents
-- are gone into; no part is an index, and a part of digits alone is refused.
use Rattle.std.specs.Prelude.{◌≡◌, ℕ, List, [], ◌∷◌, length, Bool, true, false, ◌||◌, Option, Some, None, Result, Ok, Err, is_none, nat_lt, ◌==◌, if◌then◌else◌, filter_map, flat_map}
use Rattle.std.specs.List.{list_any}
use Rattle.std.specs.Str.{all_ascii_digits, byte}
use Rattle.bson_model.specs.Tree.{Datum, document_value, array_value, Items, no_items, item, Fields, get}

pub data PathFault : Type 0 where
  -- the path or a part is empty
  empty_part : PathFault
  -- a part has digits and nothing else
  digits_part : PathFault
  -- a part begins with $
  dollar_part : PathFault
  -- more parts than are supported
  too_long : PathFault

-- the names of the fields to go through, outermost first
abbrev pub Path : Type 0
Path = List (List ℕ)

abbrev pub most_parts : ℕ
most_parts = 100

abbrev pub into_first : ℕ → Path → Path
into_first b [] = (b ∷ []) ∷ []
into_first b (part ∷ parts) = (b ∷ part) ∷ parts

-- what is between the dots
abbrev pub parts_of : List ℕ → Path
parts_of [] = [] ∷ []
parts_of (b ∷ name) = if b == byte "." then [] ∷ parts_of name else into_first b (parts_of name)

abbrev pub begins_with_dollar : List ℕ → Bool
begins_with_dollar [] = false
begins_with_dollar (b ∷ name) = b == byte "$"

abbrev pub part_fault : List ℕ → Option PathFault
part_fault [] = Some empty_part
part_fault part =
    if all_ascii_digits part then Some digits_part
    else if begins_with_dollar part then Some dollar_part
    else None

-- the fault of the first part that has one
abbrev pub first_fault : Path → Option PathFault
first_fault [] = None
first_fault (part ∷ parts) = elim (part_fault part) [ None ↦ first_fault parts | Some fault ↦ Some fault ]

-- a path is too long only where no part has a fault
abbrev pub checked_path : Path → Result Path PathFault
checked_path parts = elim (first_fault parts) [ None ↦ if nat_lt most_parts (length parts) then Err too_long else Ok parts | Some fault ↦ Err fault ]

abbrev pub read_path : List ℕ → Result Path PathFault
read_path name = checked_path (parts_of name)

-- a path that some name is
abbrev pub IsPath : Path → Type 0
IsPath path = (name : List ℕ) × (read_path name ≡ Ok path)

abbrev pub elements : Items → List Datum
elements no_items = []
elements (item d ds) = d ∷ elements ds

-- the elements of an array; another value has none
abbrev pub elements_of : Datum → List Datum
elements_of (array_value ds) = elements ds
elements_of d = []

abbrev pub as_document : Datum → Option Fields
as_document (document_value ms) = Some ms
as_document d = None

abbrev pub is_scalar : Datum → Bool
is_scalar (document_value ms) = false
is_scalar (array_value ds) = false
is_scalar d = true

-- the documents whose fields a path's next part names: a document itself, and those in an array
abbrev pub documents_in : Datum → List Fields
documents_in (document_value ms) = ms ∷ []
documents_in d = filter_map as_document (elements_of d)

-- the next part's values, each the first field of that name
abbrev pub values_named : List ℕ → Datum → List Datum
values_named part d = filter_map (get part) (documents_in d)

-- the values at a path from a value on
abbrev pub values_from : Path → Datum → List Datum
values_from [] d = d ∷ []
values_from (part ∷ parts) d = flat_map (values_from parts) (values_named part d)

-- a document on the way has no field of the next name, or a value on the way is neither document nor array
abbrev pub gap_from : Path → Datum → Bool
gap_from [] d = false
gap_from (part ∷ parts) d =
    is_scalar d || list_any (λ document. is_none (get part document)) (documents_in d) || list_any (gap_from parts) (values_named part d)

-- the values at a path in a document
abbrev pub values_at : Path → Fields → List Datum
values_at path document = values_from path (document_value document)

abbrev pub has_gap : Path → Fields → Bool
has_gap path document = gap_from path (document_value document)

-- the values, and the elements of those that are arrays
abbrev pub candidates_at : Path → Fields → List Datum
candidates_at path document = flat_map (λ d. d ∷ elements_of d) (values_at path document)
