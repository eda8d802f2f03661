use Rattle.std.proofs.Common.{[]}
use Rattle.std.specs.Prelude.{false}
use Rattle.bson_model.specs.Faults.{short_fault, length_fault, type_fault, string_fault, boolean_fault, trailing_fault, walks_on, walks_to_fault}
use Rattle.bson_model.proofs.Walks.{behind_no_name}
use Rattle.bson_model.proofs.examples.faults.Goals as goal

pub returns-clause-short : goal.returns-clause-short
returns-clause-short c = walks_to_fault short_fault 0

pub returns-clause-length : goal.returns-clause-length
returns-clause-length c = walks_to_fault length_fault 0

pub returns-clause-type_byte : goal.returns-clause-type_byte
returns-clause-type_byte c = walks_on 4 (record { is_array = false; end = 5 }) [] _ (walks_to_fault (type_fault 1) 4)

pub returns-clause-text : goal.returns-clause-text
returns-clause-text c = walks_on 4 (record { is_array = false; end = 7 }) [] _ (walks_to_fault string_fault 5)

pub returns-clause-boolean : goal.returns-clause-boolean
returns-clause-boolean c = walks_on 4 (record { is_array = false; end = 8 }) [] _ (behind_no_name _ 5 _ _ (walks_to_fault boolean_fault 6))

pub returns-clause-trailing : goal.returns-clause-trailing
returns-clause-trailing c = walks_on 4 (record { is_array = false; end = 6 }) [] _ (walks_to_fault trailing_fault 4)
