-- A router knew the times of all that it had returned.
use Rattle.reply_facts.proofs.Freshness.{reaches}
use Rattle.reply_laws.proofs.read_laws.reads_reach_writes.Goals as goal

pub returns : goal.returns
returns c account a s t write dones d before time outcome reading one told w says i is asks none shown =
    reaches account one a s t write dones d before time outcome reading told w says i is asks none shown
