-- No entry of the second journal writes the key of one of the first.
use Rattle.std.proofs.Common.{refl}
use Rattle.history_laws.specs.SampleJournals.{first_journal, second_journal}
use Rattle.history_laws.proofs.Documents.{apart_by_own}
use Rattle.history_laws.proofs.examples.two_journals.Goals as goal

pub returns-clause-apart : goal.returns-clause-apart
returns-clause-apart c = ((apart_by_own first_journal second_journal ((refl, (refl, tt)), ((refl, (refl, tt)), tt)), tt), (tt, tt))
