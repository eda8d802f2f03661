use Rattle.node_replay.proofs.LawProofs.{replayed_catalogue_has_changes}
use Rattle.node_replay.proofs.laws.replayed_catalogue_has_changes.Goals as goal

pub returns : goal.returns
returns c = replayed_catalogue_has_changes
