use Rattle.std.proofs.Common.{◌∙◌, sym, arith}
use Rattle.node_cell.specs.Courses.{node_facts}
use Rattle.node_cell.proofs.Passes.{boards}
use Rattle.node_cell.proofs.numbers.Numbers.named.Goals as goal

pub split_seat-board-requires : goal.split_seat-board-requires
split_seat-board-requires g c = (
  c.requires.of ∙ sym c.requires.table,
  omega (arith, c.args.self.one_word),
  boards (node_facts g.N.Node.state g.N.Node.steps (λ m. g.N.Mail.Mail.letter m) g.N.Node.meaning g.L.Log.facts)
      c.args.self.table.shared.key.routers c.args.self.table.shared.key.seats.value.items c.args.pass.now.id c.args.pass.now.me.0,
)
