-- By cases on the operation and the document.
use Rattle.history_model.proofs.LegalHistories.{refused_leaves}
use Rattle.history_model.proofs.laws.refused_leaves.Goals as goal

pub returns : goal.returns
returns c = refused_leaves
