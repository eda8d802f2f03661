use Rattle.std.proofs.Common.{arith}
use Rattle.node_cell.specs.Courses.{node_facts}
use Rattle.node_cell.proofs.Closing.{final_at}
use Rattle.node_cell.proofs.numbers.Book.close.Goals as goal

pub free-requires : goal.free-requires
free-requires g c k less = absurd (omega (arith, c.args.self.no_slot, c.close_with-closed.ensures.counts.1, less))

pub returns : goal.returns
returns g c =
    final_at (node_facts g.N.Node.state g.N.Node.steps (λ m. g.N.Mail.Mail.letter m) g.N.Node.meaning g.L.Log.facts)
    c.args.self.table.shared.key.routers c.args.self.routers c.args.self.routers_are c.args.self.table.shared.key.seats.value.items c.args.pass.id
    c.args.pass.me.0 _ _ c.close_with-closed.ensures.values.2
