use Rattle.bson_values.proofs.FirstFault as first
use Rattle.bson_values.proofs.reader.one_fault.Goals as goal

pub returns : goal.returns
returns c = first.one_fault
