-- Reading the fields of a specification one after the other.
use Rattle.std.specs.Prelude.{ℕ, List, ◌++◌, map, Result, Ok, ok_or}
use Rattle.query_model.specs.Queries.{QueryFault, named, unknown_operator}
use Rattle.query_model.specs.Reading.{◌>>=◌}
use Rattle.bson_model.specs.Tree.{Datum}
use Rattle.pipeline_model.specs.GroupSpecs.{Accumulator, accumulate, accumulators, extreme_accumulator, GroupParts}
use Rattle.pipeline_model.specs.Operands.{read_operand}
use Rattle.pipeline_model.specs.SortKeys.{Direction}
use Rattle.group_accum.specs.View.{group_field_of, operand_of}
use Rattle.group_accum.specs.declared.parser.Parts.{Parts}

-- the parts already read
abbrev pub parts_of : Parts → GroupParts
parts_of parts = record { keys = map operand_of parts.keys.items; fields = map group_field_of parts.fields.items }

-- these parts, and then those
abbrev pub joined_parts : GroupParts → GroupParts → GroupParts
joined_parts front back = record { keys = front.keys ++ back.keys; fields = front.fields ++ back.fields }

-- the parts already read, and the result of reading the rest
abbrev pub with_parts : GroupParts → Result GroupParts QueryFault → Result GroupParts QueryFault
with_parts front read = read >>= λ others. Ok (joined_parts front others)

-- a field, and the result of reading the rest
abbrev pub then_field : Result (GroupParts → GroupParts) QueryFault → Result GroupParts QueryFault → Result GroupParts QueryFault
then_field read others = read >>= λ add. others >>= λ parts. Ok (add parts)

-- the least or the greatest value of an operand
abbrev pub read_extreme : Direction → Datum → Result Accumulator QueryFault
read_extreme direction d = read_operand d >>= λ x. Ok (extreme_accumulator direction x)

-- the accumulator of that name with an operand
abbrev pub read_named : List ℕ → Datum → Result Accumulator QueryFault
read_named name d = ok_or (named accumulators name) unknown_operator >>= λ which. accumulate which d
