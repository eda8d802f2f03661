-- What is in a span at a time stays until an entry that touches it.
use Rattle.reply_laws.proofs.SpanReads.{gives_before}
use Rattle.reply_laws.proofs.read_laws.reads_stay.Goals as goal

pub returns : goal.returns
returns c account reading before time out one gives less none = gives_before account.history reading before time out gives less none
