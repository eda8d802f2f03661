-- Groups (MongoDB manual, "$group", "$sum", "$min", "$max", "$count (aggregation accumulator)"; "Group Key and Null"). A document is
-- a row by itself; rows whose keys compare equal are joined into one. So the rows of parts join as documents do. Own: which of
-- the spellings that compare equal is shown is left open; a sum is exact, and of whole numbers.
use Rattle.std.specs.Prelude.{◌≡◌, ℕ, ◌+◌, ◌-◌, ◌^◌, ℤ, pos, negsuc, ◌+ℤ◌, List, [], ◌∷◌, map, filter, filter_map, Contains, Bool, true, false, ◌&&◌, Option, Some, None, option_map, option_and_then, unwrap_or, int_lt, int_le, codes, if◌then◌else◌}
use Rattle.std.specs.List.{list_any, AllByRecursion}
use Rattle.std.specs.Ordering.{is_lt}
use Rattle.bson_model.specs.Tree.{Datum, null_value, int32_value, int64_value, Fields, no_fields, field}
use Rattle.value_model.specs.Order.{order, same_value}
use Rattle.query_model.specs.Holds.{is_null}
use Rattle.pipeline_model.specs.Operands.{value_of}
use Rattle.pipeline_model.specs.SortKeys.{Direction, directed}
use Rattle.pipeline_model.specs.GroupSpecs.{Accumulator, sum_accumulator, count_accumulator, extreme_accumulator, GroupField, GroupSpec}

-- what an accumulator has
pub data Cell : Type 0 where
  -- the exact sum, and whether each number in it is an int32
  sum_cell : ℤ → Bool → Cell
  count_cell : ℕ → Cell
  -- null over nothing
  extreme_cell : Datum → Cell

pub record PartialRow : Type 0 where
  pub key : Datum
  pub cells : List Cell

-- the summand that a value is
abbrev pub summand : Option Datum → Cell
summand (Some (int32_value z)) = sum_cell z true
summand (Some (int64_value z)) = sum_cell z false
summand v = sum_cell (pos 0) true

abbrev pub own_cell : Accumulator → Fields → Cell
own_cell (sum_accumulator x) document = summand (value_of x document)
own_cell count_accumulator document = count_cell 1
own_cell (extreme_accumulator direction x) document = extreme_cell (unwrap_or (value_of x document) null_value)

-- the row that one document is
abbrev pub own_row : GroupSpec → Fields → PartialRow
own_row spec document = record { key = unwrap_or (value_of spec.key document) null_value; cells = map (λ f. own_cell f.accumulator document) spec.fields }

abbrev pub total : List Cell → ℤ
total [] = pos 0
total (sum_cell z narrow ∷ cells) = z +ℤ total cells
total (cell ∷ cells) = total cells

abbrev pub all_narrow : List Cell → Bool
all_narrow [] = true
all_narrow (sum_cell z narrow ∷ cells) = narrow && all_narrow cells
all_narrow (cell ∷ cells) = all_narrow cells

abbrev pub count_of : List Cell → ℕ
count_of [] = 0
count_of (count_cell n ∷ cells) = n + count_of cells
count_of (cell ∷ cells) = count_of cells

-- the values that are not null
abbrev pub values_in : List Cell → List Datum
values_in [] = []
values_in (extreme_cell d ∷ cells) = if is_null d then values_in cells else d ∷ values_in cells
values_in (cell ∷ cells) = values_in cells

-- null over nothing, else one of the values that none comes before
abbrev pub IsExtreme : Direction → List Datum → Datum → Type 0
IsExtreme direction [] d = d ≡ null_value
IsExtreme direction (v ∷ vs) d = Contains (v ∷ vs) d × AllByRecursion (λ w. is_lt (directed direction order w d) ≡ false) (v ∷ vs)

-- a cell is made of these
abbrev pub IsCell : Accumulator → List Cell → Cell → Type 0
IsCell (sum_accumulator x) cells cell = cell ≡ sum_cell (total cells) (all_narrow cells)
IsCell count_accumulator cells cell = cell ≡ count_cell (count_of cells)
IsCell (extreme_accumulator direction x) cells cell = (d : Datum) × (cell ≡ extreme_cell d) × IsExtreme direction (values_in cells) d

abbrev pub first_of : List Cell → Option Cell
first_of [] = None
first_of (cell ∷ cells) = Some cell

abbrev pub behind_first : List Cell → List Cell
behind_first [] = []
behind_first (cell ∷ cells) = cells

-- the cells of each column
abbrev pub AreCells : List GroupField → List (List Cell) → List Cell → Type 0
AreCells [] columns cells = cells ≡ []
AreCells (f ∷ fields) columns [] = ⊥
AreCells (f ∷ fields) columns (cell ∷ cells) = IsCell f.accumulator (filter_map first_of columns) cell × AreCells fields (map behind_first columns) cells

abbrev pub has_key : Datum → PartialRow → Bool
has_key key row = same_value key row.key

abbrev pub rows_with : Datum → List PartialRow → List PartialRow
rows_with key rows = filter (has_key key) rows

-- a row with the key of one of the rows, made of those with that key
pub record IsMade (spec : GroupSpec) (rows : List PartialRow) (row : PartialRow) : Type 0 where
  pub key : Contains (map (λ r. r.key) rows) row.key
  pub cells : AreCells spec.fields (map (λ r. r.cells) (rows_with row.key rows)) row.cells

-- no two rows have one key
abbrev pub AreApart : List PartialRow → Type 0
AreApart [] = Unit {0}
AreApart (row ∷ rows) = AllByRecursion (λ other. has_key row.key other ≡ false) rows × AreApart rows

-- one row of each key
pub record IsJoined (spec : GroupSpec) (rows joined : List PartialRow) : Type 0 where
  pub each : AllByRecursion (IsMade spec rows) joined
  pub apart : AreApart joined
  pub every : AllByRecursion (λ row. list_any (has_key row.key) joined ≡ true) rows

-- the rows that documents are grouped into
abbrev pub IsGrouped : GroupSpec → List Fields → List PartialRow → Type 0
IsGrouped spec docs rows = IsJoined spec (map (own_row spec) docs) rows

abbrev pub fits_in : ℕ → ℤ → Bool
fits_in bits z = int_le (negsuc (2 ^ bits - 1)) z && int_lt z (pos (2 ^ bits))

-- an int32 where it fits, else an int64
abbrev pub count_value : ℕ → Datum
count_value n = if fits_in 31 (pos n) then int32_value (pos n) else int64_value (pos n)

-- what a cell shows; a sum outside int64 shows nothing
abbrev pub shown : Cell → Option Datum
shown (sum_cell z narrow) = if narrow && fits_in 31 z then Some (int32_value z) else if fits_in 63 z then Some (int64_value z) else None
shown (count_cell n) = Some (count_value n)
shown (extreme_cell d) = Some d

abbrev pub shown_fields : List GroupField → List Cell → Option Fields
shown_fields [] cells = Some no_fields
shown_fields (f ∷ fields) [] = Some no_fields
shown_fields (f ∷ fields) (cell ∷ cells) = option_and_then (λ d. option_map (field f.name d) (shown_fields fields cells)) (shown cell)

abbrev pub row_document : GroupSpec → PartialRow → Option Fields
row_document spec row = option_map (field (codes "_id") row.key) (shown_fields spec.fields row.cells)

-- the document of each row, `_id` first; none where some sum is outside int64
abbrev pub documents_of : GroupSpec → List PartialRow → Option (List Fields)
documents_of spec [] = Some []
documents_of spec (row ∷ rows) = option_and_then (λ document. option_map (λ documents. document ∷ documents) (documents_of spec rows)) (row_document spec row)
