-- Each entry is placed first.
use Rattle.history_laws.proofs.Merging.{one_alone}
use Rattle.history_laws.proofs.laws.one_journal.Goals as goal

pub returns-clause-alone : goal.returns-clause-alone
returns-clause-alone c = one_alone
