use Rattle.node_replay.proofs.LawProofs.{steps_store_what_may_follow}
use Rattle.node_replay.proofs.laws.steps_store_what_may_follow.Goals as goal

pub returns : goal.returns
returns c = steps_store_what_may_follow
