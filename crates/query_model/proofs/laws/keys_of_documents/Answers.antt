use Rattle.query_model.proofs.DocumentKeys.{keys_of_documents}
use Rattle.query_model.proofs.laws.keys_of_documents.Goals as goal

pub returns : goal.returns
returns c = keys_of_documents
