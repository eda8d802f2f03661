use Rattle.restart_laws.proofs.ReachedCalls.{reached_nodes_may_stop}
use Rattle.restart_laws.proofs.calls.reached_nodes_may_stop.Goals as goal

pub returns : goal.returns
returns c = reached_nodes_may_stop
