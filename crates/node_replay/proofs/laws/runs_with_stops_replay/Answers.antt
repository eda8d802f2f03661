use Rattle.node_replay.proofs.LawProofs.{runs_with_stops_replay}
use Rattle.node_replay.proofs.laws.runs_with_stops_replay.Goals as goal

pub returns : goal.returns
returns c = runs_with_stops_replay
