use Rattle.std.proofs.Common.{sym, ap, subst, map, arith}
use Rattle.node_cell.specs.Courses.{node_facts}
use Rattle.node_cell.specs.Deliveries.{AreKnown}
use Rattle.node_cell.proofs.Seen.{added_on, known_left, none_added, on_any, parts_among}
use Rattle.node_cell.proofs.Standing.{sits_still}
use Rattle.node_cell.proofs.deliveries.take_some.Goals as goal

pub returns-in-Ok-clause-sits : goal.returns-in-Ok-clause-sits
returns-in-Ok-clause-sits g c =
    sits_still (node_facts g.N.Node.state g.N.Node.steps (λ m. g.N.Mail.Mail.letter m) g.N.Node.meaning g.L.Log.facts) g.K.Numbering.routers c.take_group.new.placed
    c.take_group.new.pass.me.0 c.add_steps.new.pass.me.0 (ap (λ m. m.0) c.add_steps.ensures.pass) c.take_group.ensures.sits

pub returns-in-Ok-clause-known : goal.returns-in-Ok-clause-known
returns-in-Ok-clause-known g c =
    on_any _ c.passed_over.result
    (subst (λ v. AreKnown g.N.Node.meaning g.K.Numbering.routers (map (λ m. g.N.Mail.Mail.letter m) v.seen) c.args.placed.now.at c.take_group.new.inputs.items)
    (sym (ap (λ m. m.0) c.add_steps.ensures.pass))
    (known_left (node_facts g.N.Node.state g.N.Node.steps (λ m. g.N.Mail.Mail.letter m) g.N.Node.meaning g.L.Log.facts) g.K.Numbering.routers c.args.placed.now.at c.args.pass.now.me.0 c.take_group.new.pass.me.0 c.args.inputs.now.items
    c.take_group.new.inputs.items c.in-Ok.ensures.left c.in-Ok.ensures.grows c.requires.known))

pub returns-in-Ok-clause-fewer : goal.returns-in-Ok-clause-fewer
returns-in-Ok-clause-fewer g c = on_any _ c.passed_over.result c.in-Ok.ensures.fewer

pub returns-in-Ok-clause-added : goal.returns-in-Ok-clause-added
returns-in-Ok-clause-added g c =
    added_on (map (λ p. p.input.value) c.in-Ok.group.parts.items) c.args.inputs.now.items c.args.steps.now.items c.add_steps.new.steps.items
    (parts_among c.args.inputs.now.items c.in-Ok.group.parts.items c.in-Ok.ensures.on) c.add_steps.ensures.added

pub returns-in-Err-clause-added : goal.returns-in-Err-clause-added
returns-in-Err-clause-added g c = none_added c.args.inputs.now.items c.args.steps.now.items

pub add_steps-requires-clause-room : goal.add_steps-requires-clause-room
add_steps-requires-clause-room g c =
    omega (arith, c.requires.room, c.in-Ok.ensures.count, c.in-Ok.group.parts.ok.0, c.args.inputs.now.ok.0)

pub returns-in-Ok-clause-room : goal.returns-in-Ok-clause-room
returns-in-Ok-clause-room g c =
    on_any _ c.passed_over.result
    (omega (
      arith,
      c.requires.room,
      c.in-Ok.ensures.count,
      c.add_steps.ensures.len,
      c.add_steps.ensures.capacity,
      c.in-Ok.group.parts.ok.0,
      c.args.inputs.now.ok.0,
      c.take_group.new.inputs.ok.0,
    ))
