-- All entries are on the first shard.
use Rattle.reply_facts.proofs.Freshness.{one_entry}
use Rattle.reply_laws.proofs.laws.one_entry.Goals as goal

pub returns : goal.returns
returns c account d e one i j same = one_entry account one d e i j same
