use Rattle.std.specs.Prelude.{None}
use Rattle.protocol_model.proofs.Lacks.{are_missed, router_unasked}
use Rattle.router_node.specs.RouterStates.{router_of, state_of}
use Rattle.router_node.proofs.node.RouterNode.missed.Goals as goal

pub returns-clause-told : goal.returns-clause-told
returns-clause-told c = λ i.
    are_missed (state_of c.args.self.now) i c.args.steps None c.missed.result (router_unasked (router_of c.args.self.now) i) c.missed.ensures.told
