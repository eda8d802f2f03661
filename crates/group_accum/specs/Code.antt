-- A code that determines a specification or a row, of the numbers, paths and values in it.
use Rattle.std.specs.Prelude.{◌≡◌, ◌⊎◌, ℕ, ℤ, List, Bool, refl}
use Rattle.std.proofs.Common.{inl, inr}
use Rattle.std.specs.Coded.{Coded, code_by, coded×, coded⊎, coded_list, coded_ℕ, coded_ℤ, coded_bool}
use Rattle.bson_model.specs.Tree.{Datum}
use Rattle.query_model.specs.Paths.{Path}
use Rattle.projection.specs.Code.{path_code}
use Rattle.value_compare.specs.Code.{datum_code}
use Rattle.pipeline_model.specs.GroupSpecs.{Accumulator, sum_accumulator, count_accumulator, extreme_accumulator, GroupField, GroupSpec}
use Rattle.pipeline_model.specs.Groups.{Cell, sum_cell, count_cell, extreme_cell, PartialRow}
use Rattle.pipeline_model.specs.Operands.{Operand, path_operand, constant_operand}
use Rattle.pipeline_model.specs.SortKeys.{ascending, descending}
use Rattle.group_accum.specs.Rows.{Partials}

abbrev pub operand_parts : Operand → Path ⊎ Datum
operand_parts (path_operand path) = inl path
operand_parts (constant_operand d) = inr d

abbrev pub operand_from : Path ⊎ Datum → Operand
operand_from (inl path) = path_operand path
operand_from (inr d) = constant_operand d

abbrev pub operand_back : (x : Operand) → operand_from (operand_parts x) ≡ x
operand_back (path_operand path) = refl
operand_back (constant_operand d) = refl

abbrev pub operand_code : Coded Operand
operand_code = code_by (Path ⊎ Datum) (coded⊎ path_code datum_code) operand_parts operand_from operand_back

-- an operand that is summed, a mark for counts, and an operand whose least or greatest value is taken
abbrev pub AccumulatorParts : Type 0
AccumulatorParts = Operand ⊎ (ℕ ⊎ (Operand ⊎ Operand))

abbrev pub accumulator_parts : Accumulator → AccumulatorParts
accumulator_parts (sum_accumulator x) = inl x
accumulator_parts count_accumulator = inr (inl 0)
accumulator_parts (extreme_accumulator ascending x) = inr (inr (inl x))
accumulator_parts (extreme_accumulator descending x) = inr (inr (inr x))

abbrev pub accumulator_from : AccumulatorParts → Accumulator
accumulator_from (inl x) = sum_accumulator x
accumulator_from (inr (inl n)) = count_accumulator
accumulator_from (inr (inr (inl x))) = extreme_accumulator ascending x
accumulator_from (inr (inr (inr x))) = extreme_accumulator descending x

abbrev pub accumulator_back : (by : Accumulator) → accumulator_from (accumulator_parts by) ≡ by
accumulator_back (sum_accumulator x) = refl
accumulator_back count_accumulator = refl
accumulator_back (extreme_accumulator ascending x) = refl
accumulator_back (extreme_accumulator descending x) = refl

abbrev pub accumulator_code : Coded Accumulator
accumulator_code =
    code_by AccumulatorParts (coded⊎ operand_code (coded⊎ coded_ℕ (coded⊎ operand_code operand_code))) accumulator_parts accumulator_from accumulator_back

abbrev pub group_field_code : Coded GroupField
group_field_code =
    code_by (List ℕ × Accumulator) (coded× (coded_list coded_ℕ) accumulator_code) (λ f. (f.name, f.accumulator))
    (λ p. record { name = p.0; accumulator = p.1 }) (λ f. refl)

abbrev pub group_code : Coded GroupSpec
group_code =
    code_by (Operand × List GroupField) (coded× operand_code (coded_list group_field_code)) (λ s. (s.key, s.fields)) (λ p. record { key = p.0; fields = p.1 })
    (λ s. refl)

abbrev pub CellParts : Type 0
CellParts = (ℤ × Bool) ⊎ (ℕ ⊎ Datum)

abbrev pub cell_parts : Cell → CellParts
cell_parts (sum_cell total narrow) = inl (total, narrow)
cell_parts (count_cell n) = inr (inl n)
cell_parts (extreme_cell d) = inr (inr d)

abbrev pub cell_from : CellParts → Cell
cell_from (inl p) = sum_cell p.0 p.1
cell_from (inr (inl n)) = count_cell n
cell_from (inr (inr d)) = extreme_cell d

abbrev pub cell_back : (cell : Cell) → cell_from (cell_parts cell) ≡ cell
cell_back (sum_cell total narrow) = refl
cell_back (count_cell n) = refl
cell_back (extreme_cell d) = refl

abbrev pub cell_code : Coded Cell
cell_code = code_by CellParts (coded⊎ (coded× coded_ℤ coded_bool) (coded⊎ coded_ℕ datum_code)) cell_parts cell_from cell_back

abbrev pub row_code : Coded PartialRow
row_code =
    code_by (Datum × List Cell) (coded× datum_code (coded_list cell_code)) (λ r. (r.key, r.cells)) (λ p. record { key = p.0; cells = p.1 }) (λ r. refl)

abbrev pub partials_code : Coded Partials
partials_code =
    code_by (List PartialRow × ℕ) (coded× (coded_list row_code) coded_ℕ) (λ p. (p.rows, p.documents)) (λ p. record { rows = p.0; documents = p.1 }) (λ p. refl)
