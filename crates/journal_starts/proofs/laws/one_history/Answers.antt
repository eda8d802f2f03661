use Rattle.journal_starts.proofs.OneReading.{one_history}
use Rattle.journal_starts.proofs.laws.one_history.Goals as goal

pub returns : goal.returns
returns c = one_history
