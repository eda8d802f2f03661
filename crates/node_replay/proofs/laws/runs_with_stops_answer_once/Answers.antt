use Rattle.node_replay.proofs.LawProofs.{runs_with_stops_answer_once}
use Rattle.node_replay.proofs.laws.runs_with_stops_answer_once.Goals as goal

pub returns : goal.returns
returns c = runs_with_stops_answer_once
