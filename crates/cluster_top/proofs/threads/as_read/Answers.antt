use Rattle.cluster_top.proofs.Asked.{asked_as_read}
use Rattle.cluster_top.proofs.threads.as_read.Goals as goal

pub returns : goal.returns
returns c = λ meant is. asked_as_read c.args.request meant is
