use Rattle.node_replay.proofs.LawProofs.{runs_with_stops_hold}
use Rattle.node_replay.proofs.laws.runs_with_stops_hold.Goals as goal

pub returns : goal.returns
returns c = runs_with_stops_hold
