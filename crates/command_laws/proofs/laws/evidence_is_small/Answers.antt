use Rattle.command_laws.proofs.SmallAnswers.{evidence_within}
use Rattle.command_laws.proofs.laws.evidence_is_small.Goals as goal

pub returns : goal.returns
returns c evidence document small is = evidence_within evidence document small is
