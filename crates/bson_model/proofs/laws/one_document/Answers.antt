-- The bytes before a part of an encoding determine where the part ends.
use Rattle.bson_model.proofs.OneDocument.{one_document}
use Rattle.bson_model.proofs.laws.one_document.Goals as goal

pub returns : goal.returns
returns c = one_document
