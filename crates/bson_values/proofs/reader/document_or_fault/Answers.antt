use Rattle.bson_values.proofs.FirstFault as first
use Rattle.bson_values.proofs.reader.document_or_fault.Goals as goal

pub returns-clause-either : goal.returns-clause-either
returns-clause-either c = first.document_or_fault

pub returns-clause-never_both : goal.returns-clause-never_both
returns-clause-never_both c = first.never_both
