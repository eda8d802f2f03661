-- Each entry follows those before it.
use Rattle.history_laws.proofs.MergedLegal.{legal_journal}
use Rattle.history_laws.proofs.laws.legal_journals.Goals as goal

pub returns : goal.returns
returns c = legal_journal
