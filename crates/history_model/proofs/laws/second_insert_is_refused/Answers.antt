-- The first insert results in a document, which exists until the second.
use Rattle.history_model.proofs.LegalHistories.{second_insert_is_refused}
use Rattle.history_model.proofs.laws.second_insert_is_refused.Goals as goal

pub returns : goal.returns
returns c = second_insert_is_refused
