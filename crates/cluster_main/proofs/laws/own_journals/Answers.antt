use Rattle.cluster_main.proofs.OwnNames.{own_names}
use Rattle.cluster_main.proofs.laws.own_journals.Goals as goal

pub returns : goal.returns
returns c = own_names
