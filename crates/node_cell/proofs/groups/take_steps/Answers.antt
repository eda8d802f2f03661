use Rattle.std.proofs.Common.{sym, ap, subst, refl}
use Rattle.std.specs.Prelude.{Some}
use Rattle.node_cell.specs.Courses.{node_facts}
use Rattle.node_cell.specs.Standing.{MayTake, Sits}
use Rattle.node_cell.specs.Views.{given_by}
use Rattle.node_cell.proofs.Seen.{out_count}
use Rattle.node_cell.proofs.Standing.{group_may, sits_after, sits_halted}
use Rattle.node_cell.proofs.groups.take_steps.Goals as goal

pub place-number-requires-clause-may : goal.place-number-requires-clause-may
place-number-requires-clause-may g c =
    subst (λ l. MayTake (node_facts g.N.Node.state g.N.Node.steps (λ m. g.N.Mail.Mail.letter m) g.N.Node.meaning g.L.Log.facts) g.K.Numbering.routers
    c.args.pass.now.me.0 (given_by g.L.Log.facts c.args.placed.now.at l c.step_group.new.seat)) (sym c.deref.ensures.value)
    (group_may (node_facts g.N.Node.state g.N.Node.steps (λ m. g.N.Mail.Mail.letter m) g.N.Node.meaning g.L.Log.facts) g.K.Numbering.routers
    c.args.placed.now c.step_group.new.seat c.args.pass.now.me.0 c.in-Ok.group.parts.items c.args.inputs.now.items
    c.requires.works c.requires.sits (λ since w k stands. c.in-Ok.ensures.taken since w k stands) c.in-Ok.ensures.counted c.step_group.ensures.below
    (record { place = c.step_group.ensures.place; faults = c.in-Ok.ensures.calm }) c.in-Ok.ensures.on c.requires.known (c.device.ensures.durable c.in-Ok.ensures.«open»))

pub returns-in-Ok-clause-sits : goal.returns-in-Ok-clause-sits
returns-in-Ok-clause-sits g c =
    sits_after (node_facts g.N.Node.state g.N.Node.steps (λ m. g.N.Mail.Mail.letter m) g.N.Node.meaning g.L.Log.facts) g.K.Numbering.routers
    c.args.placed.now c.step_group.new.seat c.args.pass.now.me.0 c.place-number.new.pass.me.0
    (given_by g.L.Log.facts c.args.placed.now.at _ c.step_group.new.seat) c.place-number.result
    c.requires.works c.requires.sits refl c.in-Ok.ensures.«open» (ap (λ m. m.0) c.place-number.ensures.pass)

pub returns-in-Err-clause-sits : goal.returns-in-Err-clause-sits
returns-in-Err-clause-sits g c =
    subst (λ h. Sits (node_facts g.N.Node.state g.N.Node.steps (λ m. g.N.Mail.Mail.letter m) g.N.Node.meaning g.L.Log.facts) g.K.Numbering.routers (record { at = c.args.placed.now.at; halt = Some h; seat = c.step_group.new.seat }) c.args.pass.now.me.0)
    (sym c.halt_of-halt.ensures)
    (sits_halted (node_facts g.N.Node.state g.N.Node.steps (λ m. g.N.Mail.Mail.letter m) g.N.Node.meaning g.L.Log.facts) g.K.Numbering.routers
    c.args.placed.now c.step_group.new.seat c.args.pass.now.me.0 c.args.inputs.now.items c.in-Err.fault c.requires.works c.requires.sits c.requires.known
    c.in-Err.ensures.broken c.in-Err.ensures.faults c.step_group.ensures.place)

pub returns-in-Ok-clause-count : goal.returns-in-Ok-clause-count
returns-in-Ok-clause-count g c =
    out_count c.args.inputs.now.items c.in-Ok.group.parts.items c.in-Ok.group.fault c.step_group.new.inputs.items c.in-Ok.ensures.out
