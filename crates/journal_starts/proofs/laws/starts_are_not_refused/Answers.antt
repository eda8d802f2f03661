use Rattle.journal_starts.proofs.Starts.{starts_are_not_refused}
use Rattle.journal_starts.proofs.laws.starts_are_not_refused.Goals as goal

pub returns : goal.returns
returns c = starts_are_not_refused
