-- The rows of documents and of parts, joined, are the rows of all documents.
use Rattle.std.proofs.Common.{◌≡◌, List, [], ◌∷◌, ◌++◌, map, refl, sym, ap, subst}
use Rattle.std.specs.Prelude.{true, false, Option, Some, flat_map, unwrap_or}
use Rattle.std.specs.List.{AllZip}
use lib.IntN.{ℤ, +ℤ_idl}
use Rattle.bson_model.specs.Tree.{Datum, null_value, int32_value, int64_value, Fields}
use Rattle.pipeline_model.specs.GroupSpecs.{Accumulator, sum_accumulator, count_accumulator, extreme_accumulator, GroupField, GroupSpec}
use Rattle.pipeline_model.specs.Groups.{Cell, sum_cell, extreme_cell, PartialRow, summand, own_cell, own_row, IsJoined, IsGrouped}
use Rattle.pipeline_model.specs.Operands.{Operand, value_of}
use Rattle.pipeline_model.specs.SortKeys.{Direction}
use Rattle.pipeline_model.proofs.Absorbed.{absorb, absorb_row, better, empty_cell, empty_row}
use Rattle.pipeline_model.proofs.JoinedRows.{grouped_parts}
use Rattle.pipeline_model.proofs.KeptRows.{new_row}

sum_alone : (x : Operand) (v : Option Datum) → absorb (sum_accumulator x) (empty_cell (sum_accumulator x)) (summand v) ≡ summand v
sum_alone x (Some (int32_value z)) = ap (λ (t : ℤ). sum_cell t true) (+ℤ_idl z)
sum_alone x (Some (int64_value z)) = ap (λ (t : ℤ). sum_cell t false) (+ℤ_idl z)
sum_alone x v = refl

extreme_alone : (direction : Direction) (d : Datum) → better direction null_value d ≡ d
extreme_alone direction null_value = refl
extreme_alone direction d = refl

cell_alone : (by : Accumulator) (document : Fields) → absorb by (empty_cell by) (own_cell by document) ≡ own_cell by document
cell_alone (sum_accumulator x) document = sum_alone x (value_of x document)
cell_alone count_accumulator document = refl
cell_alone (extreme_accumulator direction x) document = ap (λ (d : Datum). extreme_cell d) (extreme_alone direction (unwrap_or (value_of x document) null_value))

cells_alone : (fields : List GroupField) (document : Fields) →
    absorb_row fields (empty_row fields) (map (λ f. own_cell f.accumulator document) fields) ≡ map (λ f. own_cell f.accumulator document) fields
cells_alone [] document = refl
cells_alone (f ∷ fields) document = λ i. cell_alone f.accumulator document i ∷ cells_alone fields document i

nothing_joined : (spec : GroupSpec) → IsJoined spec [] []
nothing_joined spec = record { each = tt; apart = tt; every = tt }

own_alone : (spec : GroupSpec) (document : Fields) → IsGrouped spec (document ∷ []) (own_row spec document ∷ [])
own_alone spec document =
    let row : PartialRow = own_row spec document in
    subst (λ (cells : List Cell). IsJoined spec (row ∷ []) (record { key = row.key; cells = cells } ∷ [])) (cells_alone spec.fields document)
    (new_row spec [] row [] [] refl (nothing_joined spec))

module _ (spec : GroupSpec) (parts : List (List Fields)) (partials : List (List PartialRow)) where
  pub record With (docs : List Fields) : Type 0 where
    pub all : List (List Fields)
    pub rows : List (List PartialRow)
    pub grouped : AllZip (IsGrouped spec) all rows
    pub documents : flat_map (λ p. p) all ≡ docs ++ flat_map (λ p. p) parts
    pub flat : flat_map (λ p. p) rows ≡ map (own_row spec) docs ++ flat_map (λ p. p) partials

  with_documents : AllZip (IsGrouped spec) parts partials → (docs : List Fields) → With docs
  with_documents h [] = record { all = parts; rows = partials; grouped = h; documents = refl; flat = refl }
  with_documents h (document ∷ docs) =
      let others = with_documents h docs in
      record {
        all = (document ∷ []) ∷ others.all;
        rows = (own_row spec document ∷ []) ∷ others.rows;
        grouped = (own_alone spec document, others.grouped);
        documents = ap (λ (l : List Fields). document ∷ l) others.documents;
        flat = ap (λ (l : List PartialRow). own_row spec document ∷ l) others.flat;
      }

  pub of_documents : (docs : List Fields) (rows : List PartialRow) → AllZip (IsGrouped spec) parts partials →
      IsJoined spec (map (own_row spec) docs ++ flat_map (λ p. p) partials) rows → IsGrouped spec (docs ++ flat_map (λ p. p) parts) rows
  of_documents docs rows h joined =
      let w = with_documents h docs in
      subst (λ (l : List Fields). IsGrouped spec l rows) w.documents
      (grouped_parts spec w.all w.rows rows w.grouped (subst (λ (l : List PartialRow). IsJoined spec l rows) (sym w.flat) joined))
