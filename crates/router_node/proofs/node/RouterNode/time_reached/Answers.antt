use Rattle.std.proofs.Common.{rules}
use Rattle.router_node.proofs.node.RouterNode.time_reached.Goals as goal

pub returns-in-Some : goal.returns-in-Some
returns-in-Some c = search rules
