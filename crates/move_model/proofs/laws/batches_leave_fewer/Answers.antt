-- Fewer documents are after the cursor, or fewer keys are changed.
use Rattle.move_model.proofs.Progress.{fewer}
use Rattle.move_model.proofs.laws.batches_leave_fewer.Goals as goal

pub returns : goal.returns
returns c = fewer
