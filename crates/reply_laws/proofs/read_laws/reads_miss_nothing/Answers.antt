-- What is stored at a time is what the last entry of then left.
use Rattle.std.proofs.Common.{subst}
use Rattle.reply_laws.proofs.SpanReads.{runs_last, runs_none}
use Rattle.reply_laws.proofs.read_laws.reads_miss_nothing.Goals as goal
use Rattle.history_model.specs.History.{Legal}
use Rattle.reply_model.specs.Reads.{MayGive}

pub returns-clause-last : goal.returns-clause-last
returns-clause-last c account earlier later e reading key time out one all at gives early hits none =
    runs_last earlier later e reading key time out (subst (λ l. Legal l) all one.legal) at (subst (λ l. MayGive l reading time out) all gives) early hits none

pub returns-clause-none : goal.returns-clause-none
returns-clause-none c account reading key time out one at gives none = runs_none account.history reading key time out at gives none
