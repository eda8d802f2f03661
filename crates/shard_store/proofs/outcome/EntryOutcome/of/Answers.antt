use Rattle.shard_store.proofs.Faults.{reply_back}
use Rattle.std.proofs.Common.{rules}
use Rattle.shard_store.proofs.outcome.EntryOutcome.of.Goals as goal

pub returns : goal.returns
returns c = λ outcome is. reply_back outcome c.args.reply.now _ is (search rules)
