use Rattle.node_replay.proofs.LawProofs.{runs_with_stops_keep_journals}
use Rattle.node_replay.proofs.laws.runs_with_stops_keep_journals.Goals as goal

pub returns : goal.returns
returns c = runs_with_stops_keep_journals
