use Rattle.std.proofs.Common.{rules}
use Rattle.bson_values.specs.Readers.{whole_at, document_at}
use Rattle.bson_values.proofs.reader.read_exactly.Goals as goal

pub returns-in_err-document : goal.returns-in_err-document
unfolding whole_at document_at
returns-in_err-document c = search rules

pub returns : goal.returns
unfolding whole_at document_at
returns c = search rules
