-- A row that comes is taken into the cells that are kept: what a loop over documents, or over the rows of parts, does.
use Rattle.std.proofs.Common.{◌≡◌, ◌+◌, ◌<◌, List, [], ◌∷◌, ◌++◌, map, length, refl, sym, ap, ◌∙◌, subst, arith}
use Rattle.std.specs.Prelude.{◌+ℤ◌, Bool, true, false, ◌&&◌, Contains, filter_map, if◌then◌else◌}
use Rattle.std.specs.List.{AllByRecursion}
use Rattle.std.specs.Ordering.{is_lt}
use lib.IntN.{pos, +ℤ_idr}
use Rattle.std.proofs.lemmas.List.{append-nil, map-append}
use Rattle.std.proofs.lemmas.List.Elements.{Contains-append_left, Contains-append_right, filter_map-append, All-contains, All-from_recursion}
use Rattle.bson_model.specs.Tree.{Datum, null_value}
use Rattle.value_model.specs.Order.{order}
use Rattle.value_model.proofs.Flat.{order_total}
use Rattle.query_model.specs.Holds.{is_null}
use Rattle.pipeline_model.specs.Operands.{Operand}
use Rattle.pipeline_model.specs.SortKeys.{Direction, directed}
use Rattle.pipeline_model.specs.GroupSpecs.{Accumulator, sum_accumulator, count_accumulator, extreme_accumulator, GroupField}
use Rattle.pipeline_model.specs.Groups.{Cell, sum_cell, count_cell, extreme_cell, total, all_narrow, count_of, values_in, IsExtreme, IsCell, first_of, behind_first, AreCells}
use Rattle.pipeline_model.proofs.EachElement.{every_append, every_implies}
use Rattle.pipeline_model.proofs.JoinedCells.{total_append, narrow_append, count_append, values_append, none_null}
use Rattle.pipeline_model.proofs.SortOrder.{directed_total, below_chain, below_one_way}

-- a cell of nothing
abbrev pub empty_cell : Accumulator → Cell
empty_cell (sum_accumulator x) = sum_cell (pos 0) true
empty_cell count_accumulator = count_cell 0
empty_cell (extreme_accumulator direction x) = extreme_cell null_value

pub empty_is : (by : Accumulator) → IsCell by [] (empty_cell by)
empty_is (sum_accumulator x) = refl
empty_is count_accumulator = refl
empty_is (extreme_accumulator direction x) = (null_value, refl, refl)

-- of the value that is kept and one that comes
abbrev pub better : Direction → Datum → Datum → Datum
better direction kept d = if is_null d then kept else if is_null kept then d else if is_lt (directed direction order d kept) then d else kept

-- a cell of another form than the accumulator's is passed over
abbrev pub absorb : Accumulator → Cell → Cell → Cell
absorb (sum_accumulator x) (sum_cell z narrow) (sum_cell y also) = sum_cell (z +ℤ y) (narrow && also)
absorb count_accumulator (count_cell n) (count_cell m) = count_cell (n + m)
absorb (extreme_accumulator direction x) (extreme_cell kept) (extreme_cell d) = extreme_cell (better direction kept d)
absorb by kept cell = kept

and_true : (b : Bool) → (b && true) ≡ b
and_true true = refl
and_true false = refl

module _ (direction : Direction) where
  abbrev Low : Datum → List Datum → Type 0
  Low d vs = AllByRecursion (λ w. is_lt (directed direction order w d) ≡ false) vs

  never_below : (b : Bool) (d : Datum) → is_lt (directed direction order d d) ≡ b → b ≡ false
  never_below true d e = sym e ∙ below_one_way (directed_total order direction order_total) d d e
  never_below false d e = refl

  not_below_itself : (d : Datum) → is_lt (directed direction order d d) ≡ false
  not_below_itself d = never_below (is_lt (directed direction order d d)) d refl

  last_there : (vs : List Datum) (d : Datum) → Contains (vs ++ d ∷ []) d
  last_there vs d = Contains-append_right vs (d ∷ []) d (0, omega arith, refl)

  of_some : (vs : List Datum) (d : Datum) → 0 < length vs → Contains vs d → Low d vs → IsExtreme direction vs d
  of_some [] d some there low = absurd (omega arith)
  of_some (v ∷ vs) d some there low = (there, low)

  taken : (b : Bool) (v : Datum) (vs : List Datum) (kept d : Datum) → is_lt (directed direction order d kept) ≡ b → IsExtreme direction (v ∷ vs) kept →
      IsExtreme direction ((v ∷ vs) ++ d ∷ []) (if b then d else kept)
  taken true v vs kept d e h =
      let o = directed_total order direction order_total in (
        last_there (v ∷ vs) d,
        every_append (λ w. is_lt (directed direction order w d) ≡ false) (v ∷ vs) (d ∷ [])
            (every_implies (λ w. is_lt (directed direction order w kept) ≡ false) (λ w. is_lt (directed direction order w d) ≡ false)
            (λ w low. below_chain o d kept w (below_one_way o kept d e) low) (v ∷ vs) h.1) (not_below_itself d, tt),
      )
  taken false v vs kept d e h = (
    Contains-append_left (v ∷ vs) (d ∷ []) kept h.0,
    every_append (λ w. is_lt (directed direction order w kept) ≡ false) (v ∷ vs) (d ∷ []) h.1 (e, tt),
  )

  -- a value that is not null comes
  one_more : (vs : List Datum) (kept d : Datum) → AllByRecursion (λ w. is_null w ≡ false) vs → IsExtreme direction vs kept →
      IsExtreme direction (vs ++ d ∷ []) (if is_null kept then d else if is_lt (directed direction order d kept) then d else kept)
  one_more [] kept d plain h =
      subst (λ k. IsExtreme direction (d ∷ []) (if is_null k then d else if is_lt (directed direction order d k) then d else k)) (sym h)
      ((0, omega arith, refl), (not_below_itself d, tt))
  one_more (v ∷ vs) kept d plain h =
      let found : is_null kept ≡ false =
      All-contains (λ w. is_null w ≡ false) (v ∷ vs) kept (All-from_recursion (λ w. is_null w ≡ false) (v ∷ vs) plain) h.0 in
      subst (λ b. IsExtreme direction ((v ∷ vs) ++ d ∷ []) (if b then d else if is_lt (directed direction order d kept) then d else kept)) (sym found)
      (taken (is_lt (directed direction order d kept)) v vs kept d refl h)

  extreme_absorbed : (b : Bool) (vs : List Datum) (kept d : Datum) → AllByRecursion (λ w. is_null w ≡ false) vs → IsExtreme direction vs kept →
      IsExtreme direction (vs ++ (if b then [] else d ∷ []))
      (if b then kept else if is_null kept then d else if is_lt (directed direction order d kept) then d else kept)
  extreme_absorbed true vs kept d plain h = subst (λ l. IsExtreme direction l kept) (sym (append-nil vs)) h
  extreme_absorbed false vs kept d plain h = one_more vs kept d plain h

same_values : (cells : List Cell) (cell : Cell) → values_in (cell ∷ []) ≡ [] → values_in (cells ++ cell ∷ []) ≡ values_in cells
same_values cells cell e = values_append cells (cell ∷ []) ∙ ap (λ l. values_in cells ++ l) e ∙ append-nil (values_in cells)

absorbed_sum : (x : Operand) (cells : List Cell) (cell : Cell) →
    absorb (sum_accumulator x) (sum_cell (total cells) (all_narrow cells)) cell ≡ sum_cell (total (cells ++ cell ∷ [])) (all_narrow (cells ++ cell ∷ []))
absorbed_sum x cells (sum_cell y also) =
    (λ i. sum_cell (total cells +ℤ sym (+ℤ_idr y) i) (all_narrow cells && sym (and_true also) i))
    ∙ (λ i. sum_cell (sym (total_append cells (sum_cell y also ∷ [])) i) (sym (narrow_append cells (sum_cell y also ∷ [])) i))
absorbed_sum x cells (count_cell n) =
    (λ i. sum_cell (sym (+ℤ_idr (total cells)) i) (sym (and_true (all_narrow cells)) i))
    ∙ (λ i. sum_cell (sym (total_append cells (count_cell n ∷ [])) i) (sym (narrow_append cells (count_cell n ∷ [])) i))
absorbed_sum x cells (extreme_cell d) =
    (λ i. sum_cell (sym (+ℤ_idr (total cells)) i) (sym (and_true (all_narrow cells)) i))
    ∙ (λ i. sum_cell (sym (total_append cells (extreme_cell d ∷ [])) i) (sym (narrow_append cells (extreme_cell d ∷ [])) i))

absorbed_count : (cells : List Cell) (cell : Cell) → absorb count_accumulator (count_cell (count_of cells)) cell ≡ count_cell (count_of (cells ++ cell ∷ []))
absorbed_count cells (sum_cell z narrow) = ap count_cell (omega (arith, count_append cells (sum_cell z narrow ∷ [])))
absorbed_count cells (count_cell n) = ap count_cell (omega (arith, count_append cells (count_cell n ∷ [])))
absorbed_count cells (extreme_cell d) = ap count_cell (omega (arith, count_append cells (extreme_cell d ∷ [])))

absorbed_extreme : (direction : Direction) (x : Operand) (cells : List Cell) (kept : Datum) (cell : Cell) → IsExtreme direction (values_in cells) kept →
    IsCell (extreme_accumulator direction x) (cells ++ cell ∷ []) (absorb (extreme_accumulator direction x) (extreme_cell kept) cell)
absorbed_extreme direction x cells kept (sum_cell z narrow) h =
    (kept, refl, subst (λ l. IsExtreme direction l kept) (sym (same_values cells (sum_cell z narrow) refl)) h)
absorbed_extreme direction x cells kept (count_cell n) h = (kept, refl, subst (λ l. IsExtreme direction l kept) (sym (same_values cells (count_cell n) refl)) h)
absorbed_extreme direction x cells kept (extreme_cell d) h = (
  better direction kept d,
  refl,
  subst (λ l. IsExtreme direction l (better direction kept d)) (sym (values_append cells (extreme_cell d ∷ [])))
      (extreme_absorbed direction (is_null d) (values_in cells) kept d (none_null cells) h),
)

-- a cell that is made of some takes in one more
pub absorbed : (by : Accumulator) (cells : List Cell) (kept cell : Cell) → IsCell by cells kept → IsCell by (cells ++ cell ∷ []) (absorb by kept cell)
absorbed (sum_accumulator x) cells kept cell h =
    subst (λ k. absorb (sum_accumulator x) k cell ≡ sum_cell (total (cells ++ cell ∷ [])) (all_narrow (cells ++ cell ∷ []))) (sym h) (absorbed_sum x cells cell)
absorbed count_accumulator cells kept cell h =
    subst (λ k. absorb count_accumulator k cell ≡ count_cell (count_of (cells ++ cell ∷ []))) (sym h) (absorbed_count cells cell)
absorbed (extreme_accumulator direction x) cells kept cell h =
    subst (λ k. IsCell (extreme_accumulator direction x) (cells ++ cell ∷ []) (absorb (extreme_accumulator direction x) k cell)) (sym h.1)
    (absorbed_extreme direction x cells h.0 cell h.2)

-- the cells of a row take in those of another
abbrev pub absorb_row : List GroupField → List Cell → List Cell → List Cell
absorb_row [] kept cells = []
absorb_row (f ∷ fields) [] cells = []
absorb_row (f ∷ fields) (k ∷ kept) [] = k ∷ absorb_row fields kept []
absorb_row (f ∷ fields) (k ∷ kept) (cell ∷ cells) = absorb f.accumulator k cell ∷ absorb_row fields kept cells

abbrev pub empty_row : List GroupField → List Cell
empty_row fields = map (λ f. empty_cell f.accumulator) fields

pub empty_row_is : (fields : List GroupField) → AreCells fields [] (empty_row fields)
empty_row_is [] = refl
empty_row_is (f ∷ fields) = (empty_is f.accumulator, empty_row_is fields)

pub row_absorbed : (fields : List GroupField) (columns : List (List Cell)) (kept cells : List Cell) → AreCells fields columns kept →
    AreCells fields (columns ++ cells ∷ []) (absorb_row fields kept cells)
row_absorbed [] columns kept cells h = refl
row_absorbed (f ∷ fields) columns [] cells h = absurd h
row_absorbed (f ∷ fields) columns (k ∷ kept) [] h = (
  subst (λ l. IsCell f.accumulator l k) (sym (filter_map-append first_of columns ([] ∷ []) ∙ append-nil (filter_map first_of columns))) h.0,
  subst (λ l. AreCells fields l (absorb_row fields kept [])) (sym (map-append behind_first columns ([] ∷ [])))
      (row_absorbed fields (map behind_first columns) kept [] h.1),
)
row_absorbed (f ∷ fields) columns (k ∷ kept) (cell ∷ cells) h = (
  subst (λ l. IsCell f.accumulator l (absorb f.accumulator k cell)) (sym (filter_map-append first_of columns ((cell ∷ cells) ∷ [])))
      (absorbed f.accumulator (filter_map first_of columns) k cell h.0),
  subst (λ l. AreCells fields l (absorb_row fields kept cells)) (sym (map-append behind_first columns ((cell ∷ cells) ∷ [])))
      (row_absorbed fields (map behind_first columns) kept cells h.1),
)
