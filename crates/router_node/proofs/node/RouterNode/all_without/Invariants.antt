use Rattle.std.proofs.Common.{map, take}
use Rattle.command_replies.specs.Refusals.{refusal_view}
use Rattle.node_model.specs.RouterNext as nexts
use Rattle.protocol_model.specs.Tables.{at_view}
use Rattle.router_requests.specs.Works.{open_view}
use Rattle.router_node.specs.AllNext.{AreNext}
use Rattle.router_node.specs.RouterStates.{router_of}
use Rattle.router_node.proofs.AllNexts.{none_next}
use Rattle.router_node.proofs.node.RouterNode.all_without.Given as goal

abbrev pub invariant-loop-request : goal.invariant-loop-request
invariant-loop-request l =
    AreNext (λ q. nexts.table_refused (router_of l.self) l.time.0 l.namespace l.create (at_view l.at) (refusal_view l.refusal) q) (map (λ q. open_view l.self.me.0 l.self.life q.value) (take l.request-index l.requests)) l.all
