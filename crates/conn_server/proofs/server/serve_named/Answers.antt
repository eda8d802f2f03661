use Rattle.std.proofs.Common.{◌∙◌, ap, arith, length}
use Rattle.node_cell.specs.Courses.{node_facts}
use Rattle.conn_server.specs.Conversations.{link_facts}
use Rattle.conn_server.proofs.Serving.{served_as}
use Rattle.conn_server.proofs.server.serve_named.Goals as goal

pub serve_ready-requires-clause-all : goal.serve_ready-requires-clause-all
serve_ready-requires-clause-all g c =
    omega (arith, c.in-Ok.ensures.len, c.args.seats.ok.0, ap length (ap (λ t. t.shared.key.seats.value.items) c.in-Ok.ensures.start ∙ c.requires.start))

pub returns-in-Ok-clause-served : goal.returns-in-Ok-clause-served
returns-in-Ok-clause-served g c =
    served_as (node_facts g.N.Node.state g.N.Node.steps (λ m. g.N.Mail.Mail.letter m) g.N.Node.meaning g.L.Log.facts)
    (link_facts g.A.Link.Source.tells g.A.Link.Source.left g.A.Link.Sink.tells g.A.Link.Sink.held g.A.Link.Sink.noted g.A.Link.Link.is_closed)
    _ c.args.numbers.routers _ c.args.seats.items c.serve_ready.result.nodes.items c.serve_ready.result.links.items
    c.in-Ok.ensures.routers (ap (λ t. t.shared.key.seats.value.items) c.in-Ok.ensures.start ∙ c.requires.start) c.serve_ready.ensures.served
