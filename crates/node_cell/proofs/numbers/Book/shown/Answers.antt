use Rattle.std.proofs.Common.{◌∙◌, sym, arith}
use Rattle.node_cell.specs.Courses.{node_facts}
use Rattle.node_cell.proofs.Marks.{shows}
use Rattle.node_cell.proofs.numbers.Book.shown.Goals as goal

pub split_seat-requires : goal.split_seat-requires
split_seat-requires g c = (
  c.requires ∙ sym c.args.self.now.named,
  omega (arith, c.args.self.now.one_word),
  shows (node_facts g.N.Node.state g.N.Node.steps (λ m. g.N.Mail.Mail.letter m) g.N.Node.meaning g.L.Log.facts)
      c.args.self.now.table.shared.key.routers c.args.self.now.table.shared.key.seats.value.items c.args.pass.now.id c.args.pass.now.me.0,
)
