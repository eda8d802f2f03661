use Rattle.std.proofs.Common.{rules}
use Rattle.node_cell.specs.Courses.{node_facts}
use Rattle.node_cell.proofs.Passes.{begins_with}
use Rattle.node_cell.proofs.numbers.Numbers.new.Goals as goal

pub of_words-requires : goal.of_words-requires
of_words-requires g c =
    begins_with (node_facts g.N.Node.state g.N.Node.steps (λ m. g.N.Mail.Mail.letter m) g.N.Node.meaning g.L.Log.facts) c.args.routers
    c.args.seats.now.items c.of.result.value.items (search rules) (search rules) c.requires.small c.see_all.ensures.durable
