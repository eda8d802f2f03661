-- No stage makes documents deeper.
use Rattle.std.proofs.Common.{◌≡◌, ℕ, zero, suc, ◌≤◌, ℤ, pos, List, [], ◌∷◌, map, take, drop, length, refl, sym, subst, arith}
use Rattle.std.specs.Prelude.{Bool, true, false, ◌&&◌, cond, filter, filter_map, Contains, Option, Some, None, option_map, option_and_then, unwrap_or, if◌then◌else◌}
use Rattle.std.specs.List.{AllByRecursion, list_all}
use Rattle.std.specs.Cmp.{first_so, second_so}
use Rattle.std.proofs.lemmas.List.{take-append-drop}
use Rattle.std.proofs.lemmas.List.Elements.{All-contains, All-from_recursion}
use Rattle.bson_model.specs.Tree.{Datum, document_value, array_value, null_value, int32_value, int64_value, Fields, field, value_depth, document_depth}
use Rattle.query_model.specs.Paths.{is_scalar}
use Rattle.query_model.specs.Holds.{holds, is_null}
use Rattle.pipeline_model.specs.Operands.{Operand, path_operand, constant_operand, is_plain, value_of, value_at}
use Rattle.pipeline_model.specs.Projections.{Projection, project}
use Rattle.pipeline_model.specs.SortKeys.{Direction}
use Rattle.pipeline_model.specs.GroupSpecs.{Accumulator, sum_accumulator, count_accumulator, extreme_accumulator, GroupField, GroupSpec, is_plain_field, is_plain_group}
use Rattle.pipeline_model.specs.Groups.{Cell, sum_cell, count_cell, extreme_cell, PartialRow, summand, own_cell, own_row, values_in, IsExtreme, IsCell, first_of, behind_first, AreCells, has_key, rows_with, IsMade, IsGrouped, fits_in, shown, shown_fields, row_document, documents_of}
use Rattle.pipeline_model.specs.Stages.{Stage, is_plain_stage}
use Rattle.pipeline_model.specs.Runs.{Outcome, listed, overflowed, Runs, no_stage_run, match_run, project_run, group_run, overflow_run, sort_run, skip_run, limit_run, count_run, count_documents}
use Rattle.pipeline_model.proofs.EachElement.{every_left, every_right, every_permuted, every_implies}
use Rattle.pipeline_model.proofs.Depths.{IsInside, inside_more, value_inside, project_within}

module _ (n : ℕ) (some : 1 ≤ n) where
  abbrev pub Fit : List Fields → Type 0
  Fit docs = AllByRecursion (λ document. document_depth document ≤ n) docs

  -- a cell's value fits into a document of n levels
  abbrev FitsCell : Cell → Type 0
  FitsCell (extreme_cell d) = suc (value_depth d) ≤ n
  FitsCell cell = Unit {0}

  abbrev FitCells : List Cell → Type 0
  FitCells cells = AllByRecursion FitsCell cells

  scalar_level : (d : Datum) → is_scalar d ≡ true → value_depth d ≡ 0
  scalar_level (document_value ms) e = absurd (cc e)
  scalar_level (array_value ds) e = absurd (cc e)
  scalar_level d e = refl

  operand_inside : (x : Operand) (document : Fields) → is_plain x ≡ true → document_depth document ≤ n → IsInside n (value_of x document)
  operand_inside (path_operand path) document e h = inside_more (document_depth document) n (value_at path document) h (value_inside path document)
  operand_inside (constant_operand d) document e h = omega (arith, scalar_level d e)

  or_null : (o : Option Datum) → IsInside n o → suc (value_depth (unwrap_or o null_value)) ≤ n
  or_null None h = some
  or_null (Some d) h = h

  summand_fits : (o : Option Datum) → FitsCell (summand o)
  summand_fits (Some (int32_value z)) = tt
  summand_fits (Some (int64_value z)) = tt
  summand_fits o = tt

  abbrev plain_accumulator : Accumulator → Bool
  plain_accumulator by = elim by [ sum_accumulator x ↦ is_plain x | count_accumulator ↦ true | extreme_accumulator direction x ↦ is_plain x ]

  own_fits : (by : Accumulator) (document : Fields) → plain_accumulator by ≡ true → document_depth document ≤ n → FitsCell (own_cell by document)
  own_fits (sum_accumulator x) document e h = summand_fits (value_of x document)
  own_fits count_accumulator document e h = tt
  own_fits (extreme_accumulator direction x) document e h = or_null (value_of x document) (operand_inside x document e h)

  own_cells_fit : (fields : List GroupField) (document : Fields) → list_all is_plain_field fields ≡ true → document_depth document ≤ n →
      FitCells (map (λ f. own_cell f.accumulator document) fields)
  own_cells_fit [] document e h = tt
  own_cells_fit (f ∷ fields) document e h = (
    own_fits f.accumulator document (first_so (is_plain_field f) (list_all is_plain_field fields) e) h,
    own_cells_fit fields document (second_so (is_plain_field f) (list_all is_plain_field fields) e) h,
  )

  -- a group whose key and values fit
  pub record FitsRow (row : PartialRow) : Type 0 where
    pub key : suc (value_depth row.key) ≤ n
    pub cells : FitCells row.cells

  own_rows_fit : (spec : GroupSpec) (docs : List Fields) → is_plain_group spec ≡ true → Fit docs → AllByRecursion FitsRow (map (own_row spec) docs)
  own_rows_fit spec [] e h = tt
  own_rows_fit spec (document ∷ docs) e h = (
    record {
      key = or_null (value_of spec.key document) (operand_inside spec.key document (first_so (is_plain spec.key) (list_all is_plain_field spec.fields) e) h.0);
      cells = own_cells_fit spec.fields document (second_so (is_plain spec.key) (list_all is_plain_field spec.fields) e) h.0;
    },
    own_rows_fit spec docs e h.1,
  )

  value_if : (b : Bool) (d : Datum) (vs : List Datum) → suc (value_depth d) ≤ n → AllByRecursion (λ v. suc (value_depth v) ≤ n) vs →
      AllByRecursion (λ v. suc (value_depth v) ≤ n) (if b then vs else d ∷ vs)
  value_if true d vs h k = k
  value_if false d vs h k = (h, k)

  values_fit : (cells : List Cell) → FitCells cells → AllByRecursion (λ v. suc (value_depth v) ≤ n) (values_in cells)
  values_fit [] h = tt
  values_fit (sum_cell z narrow ∷ cells) h = values_fit cells h.1
  values_fit (count_cell k ∷ cells) h = values_fit cells h.1
  values_fit (extreme_cell d ∷ cells) h = value_if (is_null d) d (values_in cells) h.0 (values_fit cells h.1)

  there_fits : (vs : List Datum) (d : Datum) → AllByRecursion (λ v. suc (value_depth v) ≤ n) vs → Contains vs d → suc (value_depth d) ≤ n
  there_fits vs d h there = All-contains (λ v. suc (value_depth v) ≤ n) vs d (All-from_recursion (λ v. suc (value_depth v) ≤ n) vs h) there

  extreme_fits : (direction : Direction) (vs : List Datum) (d : Datum) → AllByRecursion (λ v. suc (value_depth v) ≤ n) vs → IsExtreme direction vs d →
      suc (value_depth d) ≤ n
  extreme_fits direction [] d h e = subst (λ v. suc (value_depth v) ≤ n) (sym e) some
  extreme_fits direction (v ∷ vs) d h e = there_fits (v ∷ vs) d h e.0

  cell_fits : (by : Accumulator) (cells : List Cell) (cell : Cell) → FitCells cells → IsCell by cells cell → FitsCell cell
  cell_fits (sum_accumulator x) cells cell h e = subst FitsCell (sym e) tt
  cell_fits count_accumulator cells cell h e = subst FitsCell (sym e) tt
  cell_fits (extreme_accumulator direction x) cells cell h e = subst FitsCell (sym e.1) (extreme_fits direction (values_in cells) e.0 (values_fit cells h) e.2)

  firsts_fit : (columns : List (List Cell)) → AllByRecursion FitCells columns → FitCells (filter_map first_of columns)
  firsts_fit [] h = tt
  firsts_fit ([] ∷ columns) h = firsts_fit columns h.1
  firsts_fit ((cell ∷ cells) ∷ columns) h = (h.0.0, firsts_fit columns h.1)

  others_fit : (columns : List (List Cell)) → AllByRecursion FitCells columns → AllByRecursion FitCells (map behind_first columns)
  others_fit [] h = tt
  others_fit ([] ∷ columns) h = (tt, others_fit columns h.1)
  others_fit ((cell ∷ cells) ∷ columns) h = (h.0.1, others_fit columns h.1)

  cells_fit : (fields : List GroupField) (columns : List (List Cell)) (cells : List Cell) → AllByRecursion FitCells columns →
      AreCells fields columns cells → FitCells cells
  cells_fit [] columns cells h e = subst FitCells (sym e) tt
  cells_fit (f ∷ fields) columns [] h e = absurd e
  cells_fit (f ∷ fields) columns (cell ∷ cells) h e = (
    cell_fits f.accumulator (filter_map first_of columns) cell (firsts_fit columns h) e.0,
    cells_fit fields (map behind_first columns) cells (others_fit columns h) e.1,
  )

  class_if : (b : Bool) (row : PartialRow) (rows : List PartialRow) → FitsRow row → AllByRecursion FitCells (map (λ r. r.cells) rows) →
      AllByRecursion FitCells (map (λ r. r.cells) (cond b (row ∷ rows) rows))
  class_if true row rows h k = (h.cells, k)
  class_if false row rows h k = k

  class_fits : (key : Datum) (rows : List PartialRow) → AllByRecursion FitsRow rows → AllByRecursion FitCells (map (λ r. r.cells) (rows_with key rows))
  class_fits key [] h = tt
  class_fits key (row ∷ rows) h = class_if (has_key key row) row (rows_with key rows) h.0 (class_fits key rows h.1)

  keys_fit : (rows : List PartialRow) → AllByRecursion FitsRow rows → AllByRecursion (λ v. suc (value_depth v) ≤ n) (map (λ r. r.key) rows)
  keys_fit [] h = tt
  keys_fit (row ∷ rows) h = (h.0.key, keys_fit rows h.1)

  pub made_fits : (spec : GroupSpec) (rows : List PartialRow) (row : PartialRow) → AllByRecursion FitsRow rows → IsMade spec rows row → FitsRow row
  made_fits spec rows row h made = record {
    key = there_fits (map (λ r. r.key) rows) row.key (keys_fit rows h) made.key;
    cells = cells_fit spec.fields (map (λ r. r.cells) (rows_with row.key rows)) row.cells (class_fits row.key rows h) made.cells;
  }

  either_fits : (b : Bool) (z : ℤ) (o : Option Datum) → IsInside n o → IsInside n (if b then Some (int32_value z) else o)
  either_fits true z o h = some
  either_fits false z o h = h

  long_fits : (b : Bool) (z : ℤ) → IsInside n (if b then Some (int64_value z) else None)
  long_fits true z = some
  long_fits false z = tt

  count_fits : (b : Bool) (z : ℤ) → suc (value_depth (if b then int32_value z else int64_value z)) ≤ n
  count_fits true z = some
  count_fits false z = some

  shown_fits : (cell : Cell) → FitsCell cell → IsInside n (shown cell)
  shown_fits (sum_cell z narrow) h = either_fits (narrow && fits_in 31 z) z (if fits_in 63 z then Some (int64_value z) else None) (long_fits (fits_in 63 z) z)
  shown_fits (count_cell k) h = count_fits (fits_in 31 (pos k)) (pos k)
  shown_fits (extreme_cell d) h = h

  abbrev FitsIf : Option Fields → Type 0
  FitsIf None = Unit {0}
  FitsIf (Some ms) = document_depth ms ≤ n

  with_field : (name : List ℕ) (d : Datum) (o : Option Fields) → suc (value_depth d) ≤ n → FitsIf o → FitsIf (option_map (field name d) o)
  with_field name d None h k = tt
  with_field name d (Some ms) h k = omega arith

  then_fits : (name : List ℕ) (o : Option Datum) (rest : Option Fields) → IsInside n o → FitsIf rest →
      FitsIf (option_and_then (λ d. option_map (field name d) rest) o)
  then_fits name None rest h k = tt
  then_fits name (Some d) rest h k = with_field name d rest h k

  fields_fit : (fields : List GroupField) (cells : List Cell) → FitCells cells → FitsIf (shown_fields fields cells)
  fields_fit [] cells h = some
  fields_fit (f ∷ fields) [] h = some
  fields_fit (f ∷ fields) (cell ∷ cells) h = then_fits f.name (shown cell) (shown_fields fields cells) (shown_fits cell h.0) (fields_fit fields cells h.1)

  row_fits : (spec : GroupSpec) (row : PartialRow) → FitsRow row → FitsIf (row_document spec row)
  row_fits spec row h = with_field _ row.key (shown_fields spec.fields row.cells) h.key (fields_fit spec.fields row.cells h.cells)

  abbrev FitIf : Option (List Fields) → Type 0
  FitIf None = Unit {0}
  FitIf (Some docs) = Fit docs

  one_more_fits : (o : Option Fields) (rest : Option (List Fields)) → FitsIf o → FitIf rest →
      FitIf (option_and_then (λ document. option_map (λ documents. document ∷ documents) rest) o)
  one_more_fits None rest h k = tt
  one_more_fits (Some document) None h k = tt
  one_more_fits (Some document) (Some documents) h k = (h, k)

  documents_fit : (spec : GroupSpec) (rows : List PartialRow) → AllByRecursion FitsRow rows → FitIf (documents_of spec rows)
  documents_fit spec [] h = tt
  documents_fit spec (row ∷ rows) h = one_more_fits (row_document spec row) (documents_of spec rows) (row_fits spec row h.0) (documents_fit spec rows h.1)

  pub grouped_fit : (spec : GroupSpec) (docs : List Fields) (rows : List PartialRow) (documents : List Fields) → is_plain_group spec ≡ true → Fit docs →
      IsGrouped spec docs rows → documents_of spec rows ≡ Some documents → Fit documents
  grouped_fit spec docs rows documents plain h grouped e =
      subst FitIf e (documents_fit spec rows (every_implies (IsMade spec (map (own_row spec) docs)) FitsRow
      (λ row made. made_fits spec (map (own_row spec) docs) row (own_rows_fit spec docs plain h) made) rows grouped.each))

  kept_if : (b : Bool) (document : Fields) (docs : List Fields) → document_depth document ≤ n → Fit docs → Fit (cond b (document ∷ docs) docs)
  kept_if true document docs h k = (h, k)
  kept_if false document docs h k = k

  filter_fits : (test : Fields → Bool) (docs : List Fields) → Fit docs → Fit (filter test docs)
  filter_fits test [] h = tt
  filter_fits test (document ∷ docs) h = kept_if (test document) document (filter test docs) h.0 (filter_fits test docs h.1)

  projected_fit : (rules : Projection) (docs : List Fields) → Fit docs → Fit (map (project rules) docs)
  projected_fit rules [] h = tt
  projected_fit rules (document ∷ docs) h = (omega (arith, project_within rules document, h.0), projected_fit rules docs h.1)

  taken_fit : (k : ℕ) (docs : List Fields) → Fit docs → Fit (take k docs)
  taken_fit k docs h = every_left (λ document. document_depth document ≤ n) (take k docs) (drop k docs) (subst Fit (sym (take-append-drop k docs)) h)

  rest_fits : (k : ℕ) (docs : List Fields) → Fit docs → Fit (drop k docs)
  rest_fits k docs h = every_right (λ document. document_depth document ≤ n) (take k docs) (drop k docs) (subst Fit (sym (take-append-drop k docs)) h)

  counted_fit : (name : List ℕ) (k : ℕ) → Fit (count_documents name k)
  counted_fit name zero = tt
  counted_fit name (suc k) = (omega (arith, count_fits (fits_in 31 (pos (suc k))) (pos (suc k))), tt)

  abbrev FitOutcome : Outcome → Type 0
  FitOutcome (listed docs) = Fit docs
  FitOutcome overflowed = Unit {0}

  outcome_fits : {stages : List Stage} {docs : List Fields} {out : Outcome} → Runs stages docs out → list_all is_plain_stage stages ≡ true → Fit docs →
      FitOutcome out
  outcome_fits (no_stage_run docs) e h = h
  outcome_fits (match_run asked rest docs out run) e h = outcome_fits run e (filter_fits (holds asked) docs h)
  outcome_fits (project_run rules rest docs out run) e h = outcome_fits run e (projected_fit rules docs h)
  outcome_fits (sort_run spec rest docs sorted out moved up run) e h = outcome_fits run e
      (every_permuted (λ document. document_depth document ≤ n) docs sorted moved h)
  outcome_fits (skip_run k rest docs out run) e h = outcome_fits run e (rest_fits k docs h)
  outcome_fits (limit_run k rest docs out run) e h = outcome_fits run e (taken_fit k docs h)
  outcome_fits (count_run name rest docs out run) e h = outcome_fits run e (counted_fit name (length docs))
  outcome_fits (group_run spec rest docs rows documents out grouped shown run) e h =
      outcome_fits run (second_so (is_plain_group spec) (list_all is_plain_stage rest) e)
      (grouped_fit spec docs rows documents (first_so (is_plain_group spec) (list_all is_plain_stage rest) e) h grouped shown)
  outcome_fits (overflow_run spec rest docs rows grouped none) e h = tt

-- no stage makes documents deeper than the deepest of its input, or than one level
pub run_fits : (n : ℕ) (stages : List Stage) (docs documents : List Fields) → 1 ≤ n → list_all is_plain_stage stages ≡ true →
    AllByRecursion (λ document. document_depth document ≤ n) docs → Runs stages docs (listed documents) →
    AllByRecursion (λ document. document_depth document ≤ n) documents
run_fits n stages docs documents some e h run = outcome_fits n some run e h
