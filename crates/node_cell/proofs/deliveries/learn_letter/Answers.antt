use Rattle.std.proofs.Common.{rules, ◌∙◌, ap}
use Rattle.node_cell.specs.Courses.{node_facts}
use Rattle.node_cell.proofs.Closing.{part_self}
use Rattle.node_cell.proofs.Standing.{delivered_known, free_both, held_same, part_next}
use Rattle.node_cell.proofs.deliveries.learn_letter.Goals as goal

pub returns-then-to-at-clause-kept : goal.returns-then-to-at-clause-kept
returns-then-to-at-clause-kept g c = part_self c.args.pass.now.me.0

pub returns-clause-held : goal.returns-clause-held
returns-clause-held g c =
    held_same c.args.pass.now.me.0 c.note.inside.pass.me.0 c.join.new.pass.me.0 (ap (λ m. m.0) c.join.ensures.1) c.note.invariant.2

pub returns-clause-kept : goal.returns-clause-kept
returns-clause-kept g c =
    part_next c.args.pass.now.me.0 c.args.pass.now.me.0 c.note.inside.pass.me.0 c.join.new.pass.me.0 (ap (λ m. m.0) c.join.ensures.1)
    (part_self c.args.pass.now.me.0)

pub returns-clause-known : goal.returns-clause-known
returns-clause-known g c =
    delivered_known (node_facts g.N.Node.state g.N.Node.steps (λ m. g.N.Mail.Mail.letter m) g.N.Node.meaning g.L.Log.facts) g.K.Numbering.routers c.args.at
    c.args.pass.now.me.0 c.note.inside.pass.me.0 c.letter.inside.note c.join.new.pass.me.0 c.letter.invariant.0 (g.N.Node.meaning c.letter.inside.input)
    (ap (λ m. m.0) c.join.ensures.1) c.note.view_is c.letter.invariant.1 (c.letter.invariant.2 ∙ search rules) c.letter.invariant.3

pub returns-clause-free : goal.returns-clause-free
returns-clause-free g c =
    free_both c.args.pass.now.me c.join.new.pass.me c.note.inside.pass.me c.join.ensures.1 c.requires.free c.note.invariant.1
