use Rattle.std.proofs.Common.{ℕ, subst}
use Rattle.std.specs.Prelude.{IfOk}
use Rattle.node_cell.specs.Courses.{node_facts}
use Rattle.conn_server.specs.Conversations.{AreServed, link_facts}
use Rattle.conn_server.proofs.server.serve.Goals as goal

-- the numbers have the place of the first router
pub returns-clause-served : goal.returns-clause-served
returns-clause-served g c =
    subst (λ (k : ℕ). IfOk c.serve_named.result (λ s. AreServed (node_facts g.N.Node.state g.N.Node.steps (λ m. g.N.Mail.Mail.letter m) g.N.Node.meaning g.L.Log.facts)
    (link_facts g.A.Link.Source.tells g.A.Link.Source.left g.A.Link.Sink.tells g.A.Link.Sink.held g.A.Link.Sink.noted g.A.Link.Link.is_closed)
    k c.args.seats.items s.nodes.items s.links.items)) c.in-Ok.ensures.routers c.serve_named.ensures.served
