use Rattle.node_cell.specs.Courses.{node_facts}
use Rattle.conn_server.specs.Conversations.{link_facts}
use Rattle.conn_server.proofs.Exchanged.{all_served}
use Rattle.conn_server.proofs.server.serve_ready.Goals as goal

pub returns-clause-served : goal.returns-clause-served
returns-clause-served g c =
    all_served (node_facts g.N.Node.state g.N.Node.steps (λ m. g.N.Mail.Mail.letter m) g.N.Node.meaning g.L.Log.facts)
    (link_facts g.A.Link.Source.tells g.A.Link.Source.left g.A.Link.Sink.tells g.A.Link.Sink.held g.A.Link.Sink.noted g.A.Link.Link.is_closed)
    c.args.ready.shared.book.routers c.into_parts-spoken.ensures.0 c.args.ready.shared.book.table.shared.key.seats.value.items c.close_cells-nodes.result.items
    c.into_parts-spoken.result.1.items c.into_parts-spoken.result.0.items c.close_cells-nodes.ensures.run c.into_parts-spoken.ensures.1
