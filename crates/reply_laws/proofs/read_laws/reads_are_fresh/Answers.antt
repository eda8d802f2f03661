-- A router knew all times that it had returned.
use Rattle.reply_facts.proofs.Freshness.{reads_at_least, reads_after, greatest_at_least}
use Rattle.reply_laws.proofs.read_laws.reads_are_fresh.Goals as goal

pub returns-clause-now : goal.returns-clause-now
returns-clause-now c account a s t reading before now one told w asks none shows shown =
    reads_at_least account one a s t reading before now told w asks none shows shown

pub returns-clause-reached : goal.returns-clause-reached
returns-clause-reached c account a t reading after now one told asks none wants shown =
    reads_after account one a t reading after now told asks none wants shown

pub returns-clause-greatest : goal.returns-clause-greatest
returns-clause-greatest c account a s t before greatest one told w shows says =
    greatest_at_least account one a s t before greatest told w shows says
