use Rattle.node_replay.proofs.LawProofs.{runs_replay}
use Rattle.node_replay.proofs.laws.runs_replay.Goals as goal

pub returns : goal.returns
returns c = runs_replay
