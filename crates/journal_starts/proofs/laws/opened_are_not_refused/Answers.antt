use Rattle.journal_starts.proofs.Starts.{opened_are_not_refused}
use Rattle.journal_starts.proofs.laws.opened_are_not_refused.Goals as goal

pub returns : goal.returns
returns c = opened_are_not_refused
