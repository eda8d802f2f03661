use Rattle.node_replay.proofs.LawProofs.{no_message_reads_ahead}
use Rattle.node_replay.proofs.laws.no_message_reads_ahead.Goals as goal

pub returns : goal.returns
returns c = no_message_reads_ahead
