use Rattle.node_replay.proofs.LawProofs.{replayed_shard_is_one_history}
use Rattle.node_replay.proofs.laws.replayed_shard_is_one_history.Goals as goal

pub returns : goal.returns
returns c = replayed_shard_is_one_history
