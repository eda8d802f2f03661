use Rattle.std.proofs.Common.{◌∙◌, sym, arith}
use Rattle.node_cell.specs.Courses.{node_facts}
use Rattle.node_cell.proofs.Passes.{joins}
use Rattle.node_cell.proofs.numbers.Book.join.Goals as goal

pub join_seat-requires : goal.join_seat-requires
join_seat-requires g c = (
  c.requires.pass ∙ sym c.args.self.now.named,
  c.requires.other.0 ∙ sym c.args.self.now.named,
  c.requires.other.1,
  omega (arith, c.args.self.now.one_word),
  joins (node_facts g.N.Node.state g.N.Node.steps (λ m. g.N.Mail.Mail.letter m) g.N.Node.meaning g.L.Log.facts)
      c.args.self.now.table.shared.key.routers c.args.self.now.table.shared.key.seats.value.items c.args.pass.now.id c.args.pass.now.me.0
      c.args.other.id c.args.other.me.0,
)
