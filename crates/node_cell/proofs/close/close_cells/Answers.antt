use Rattle.std.proofs.Common.{rules}
use Rattle.node_cell.specs.Courses.{node_facts}
use Rattle.node_cell.proofs.Closing.{run_ends, sit_from}
use Rattle.node_cell.proofs.Standing.{sit_as, sit_learnt}
use Rattle.node_cell.proofs.close.close_cells.Goals as goal

pub returns-clause-places : goal.returns-clause-places
returns-clause-places g c = sit_from (node_facts g.N.Node.state g.N.Node.steps (λ m. g.N.Mail.Mail.letter m) g.N.Node.meaning g.L.Log.facts) g.K.Numbering.routers _ 0 c.gather.new.pass.me.0.held c.gather.new.ended.items c.gather.ensures.sit

pub returns-clause-run : goal.returns-clause-run
returns-clause-run g c =
    run_ends (node_facts g.N.Node.state g.N.Node.steps (λ m. g.N.Mail.Mail.letter m) g.N.Node.meaning g.L.Log.facts) c.args.book.routers c.args.book.table.shared.key.seats.value.items c.learn.new.pass.me.0 c.gather.new.ended.items c.args.notes.items
    c.close.ensures.0 c.close.ensures.1 c.learn.new.pass.id
    (sit_as (node_facts g.N.Node.state g.N.Node.steps (λ m. g.N.Mail.Mail.letter m) g.N.Node.meaning g.L.Log.facts) c.args.book.routers g.K.Numbering.routers c.args.book.routers_named _ c.learn.new.pass.me.0.held c.gather.new.ended.items
    (sit_learnt (node_facts g.N.Node.state g.N.Node.steps (λ m. g.N.Mail.Mail.letter m) g.N.Node.meaning g.L.Log.facts) g.K.Numbering.routers c.gather.new.pass.me.0 c.learn.new.pass.me.0 c.gather.new.ended.items c.gather.ensures.sit c.learn.ensures.held
    c.learn.ensures.kept))
    (search rules) c.learn.ensures.notes c.close.ensures.2
