-- Nothing is handed out before the first batch.
use Rattle.move_model.proofs.Relation.{start_kept}
use Rattle.move_model.proofs.laws.copies_keep_their_relation.Goals as goal

pub returns-clause-start : goal.returns-clause-start
returns-clause-start c = start_kept
