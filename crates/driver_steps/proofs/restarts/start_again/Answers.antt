use Rattle.std.proofs.Common.{ℕ, List, subst, sym}
use Rattle.node_model.specs.States.{NodeState}
use Rattle.driver_steps.specs.Restarts.{IsOpenedAs}
use Rattle.driver_steps.proofs.restarts.start_again.Goals as goal

pub returns-in-Ok-node-clause-opened : goal.returns-in-Ok-node-clause-opened
returns-in-Ok-node-clause-opened g c told =
    subst (λ (s : NodeState). IsOpenedAs (g.O.Opens.part c.args.opener.now c.args.at) (g.L.Log.facts.records c.args.seat.now.log) s)
    (sym c.keep_count.ensures.state)
    (subst (λ (l : List (List ℕ)). IsOpenedAs (g.O.Opens.part c.args.opener.now c.args.at) l (g.N.Node.state c.in-Ok-node.node)) (c.in-Ok.ensures.found told)
    c.in-Ok-node.ensures)
