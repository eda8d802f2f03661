-- The parts of a specification and of groups as plain data.
use Rattle.bson_values.specs.View.{datum_of}
use Rattle.pipeline_model.specs.GroupSpecs as model
use Rattle.pipeline_model.specs.GroupSpecs.{sum_accumulator, count_accumulator, extreme_accumulator, sum_name, min_name, max_name, count_name}
use Rattle.pipeline_model.specs.Groups as groups
use Rattle.pipeline_model.specs.Groups.{sum_cell, count_cell, extreme_cell}
use Rattle.pipeline_model.specs.Operands as operands
use Rattle.pipeline_model.specs.Operands.{path_operand, constant_operand}
use Rattle.pipeline_model.specs.SortKeys.{Direction, ascending, descending}
use Rattle.group_accum.specs.declared.absorb.Cell.{Cell}
use Rattle.group_accum.specs.declared.absorb.Cell.TheVariants as cells
use Rattle.group_accum.specs.declared.parser.AccumulatorName.{AccumulatorName}
use Rattle.group_accum.specs.declared.parser.AccumulatorName.TheVariants as names
use Rattle.group_accum.specs.declared.spec.Accumulator.{Accumulator}
use Rattle.group_accum.specs.declared.spec.Accumulator.TheVariants as accumulators
use Rattle.group_accum.specs.declared.spec.Extreme as extremes
use Rattle.group_accum.specs.declared.spec.Extreme.TheVariants.{Least, Greatest}
use Rattle.group_accum.specs.declared.spec.GroupField.{GroupField}
use Rattle.group_accum.specs.declared.spec.Operand.{Operand}
use Rattle.group_accum.specs.declared.spec.Operand.TheVariants.{Path, Constant}

abbrev pub operand_of : Operand → operands.Operand
operand_of (Path path) = path_operand path
operand_of (Constant value) = constant_operand (datum_of value)

abbrev pub direction_of : extremes.Extreme → Direction
direction_of Least = ascending
direction_of Greatest = descending

abbrev pub accumulator_of : Accumulator → model.Accumulator
accumulator_of (accumulators.Sum operand) = sum_accumulator (operand_of operand)
accumulator_of accumulators.Count = count_accumulator
accumulator_of (accumulators.Extreme extreme operand) = extreme_accumulator (direction_of extreme) (operand_of operand)

abbrev pub group_field_of : GroupField → model.GroupField
group_field_of f = record { name = f.name; accumulator = accumulator_of f.accumulator }

abbrev pub name_of : AccumulatorName → model.AccumulatorName
name_of names.Sum = sum_name
name_of names.Min = min_name
name_of names.Max = max_name
name_of names.Count = count_name

abbrev pub cell_of : Cell → groups.Cell
cell_of (cells.Sum total narrow) = sum_cell total narrow
cell_of (cells.Count n) = count_cell n
cell_of (cells.Extreme value) = extreme_cell (datum_of value)
