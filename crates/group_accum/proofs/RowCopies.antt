-- Copies of rows are equal to the rows.
use Rattle.std.proofs.Common.{◌≡◌, List, [], ◌∷◌, map, refl}
use Rattle.std.specs.List.{AllZip}
use Rattle.std.specs.Vec.{vec_len}
use Rattle.std.specs.declared.vec.Vec.{Vec}
use Rattle.bson_model.specs.Tree.{Datum}
use Rattle.group_accum.specs.declared.absorb.Cell.{Cell}
use Rattle.group_accum.specs.Rows.{rows_of}
use Rattle.group_accum.specs.View.{cell_of}

-- from what holds of copies of keys and of cells
module _ (Keys : Datum → Datum → Type 0) (Cells : Cell → Cell → Type 0) (same_key : (key copy : Datum) → Keys key copy → copy ≡ key) (same_cell : (cell copy : Cell) → Cells cell copy → cell_of copy ≡ cell_of cell) where
  copied_cells : (cells copies : List Cell) → AllZip Cells cells copies → map cell_of copies ≡ map cell_of cells
  copied_cells [] [] h = refl
  copied_cells [] (copy ∷ copies) h = absurd h
  copied_cells (cell ∷ cells) [] h = absurd h
  copied_cells (cell ∷ cells) (copy ∷ copies) h = let same = same_cell cell copy h.0 in let others = copied_cells cells copies h.1 in cc

  pub copied_rows : {Z : Type 0} (rows copies : List (Datum × Vec Cell Z)) →
      AllZip (λ row copy. Keys row.0 copy.0 × (AllZip Cells row.1.items copy.1.items × (vec_len copy.1 ≡ vec_len row.1))) rows copies → rows_of copies ≡ rows_of rows
  copied_rows [] [] h = refl
  copied_rows [] (copy ∷ copies) h = absurd h
  copied_rows (row ∷ rows) [] h = absurd h
  copied_rows (row ∷ rows) (copy ∷ copies) h =
      let key = same_key row.0 copy.0 h.0.0 in
      let cells = copied_cells row.1.items copy.1.items h.0.1.0 in
      let others = copied_rows rows copies h.1 in
      cc
