use Rattle.std.proofs.Common.{map, take}
use Rattle.router_node.specs.Nexts.{next_at}
use Rattle.router_requests.specs.Works.{open_view}
use Rattle.router_node.specs.AllNext.{AreNext}
use Rattle.router_node.specs.RouterStates.{router_of}
use Rattle.router_node.proofs.AllNexts.{none_next}
use Rattle.router_node.proofs.node.RouterNode.learned.Given as goal

abbrev pub invariant-loop-request : goal.invariant-loop-request
invariant-loop-request l =
    AreNext (λ q. next_at (router_of l.self) l.time.0 l.told q) (map (λ q. open_view l.self.me.0 l.self.life q.value) (take l.request-index l.requests)) l.all
