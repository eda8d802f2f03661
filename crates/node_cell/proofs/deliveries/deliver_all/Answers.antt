use Rattle.node_cell.specs.Courses.{node_facts}
use Rattle.node_cell.proofs.Lists.{all_none}
use Rattle.node_cell.proofs.Seen.{steps_on}
use Rattle.node_cell.proofs.Standing.{sits_learnt}
use Rattle.node_cell.proofs.deliveries.deliver_all.Goals as goal

pub take_all-requires-clause-sits : goal.take_all-requires-clause-sits
take_all-requires-clause-sits g c =
    sits_learnt (node_facts g.N.Node.state g.N.Node.steps (λ m. g.N.Mail.Mail.letter m) g.N.Node.meaning g.L.Log.facts) g.K.Numbering.routers c.args.placed.now
    c.args.pass.now.me.0 c.learn_letters.new.pass.me.0 c.requires.sits c.learn_letters.ensures.held c.learn_letters.ensures.kept

pub returns-in-Ok-clause-steps : goal.returns-in-Ok-clause-steps
returns-in-Ok-clause-steps g c =
    steps_on c.in-Ok.inputs.items c.args.letters.items c.take_all.result.steps.items c.in-Ok.ensures.among c.take_all.ensures.steps

pub returns-in-Err-clause-sits : goal.returns-in-Err-clause-sits
returns-in-Err-clause-sits g c =
    sits_learnt (node_facts g.N.Node.state g.N.Node.steps (λ m. g.N.Mail.Mail.letter m) g.N.Node.meaning g.L.Log.facts) g.K.Numbering.routers c.args.placed.now
    c.args.pass.now.me.0 c.learn_letters.new.pass.me.0 c.requires.sits c.learn_letters.ensures.held c.learn_letters.ensures.kept

pub returns-in-Err-clause-steps : goal.returns-in-Err-clause-steps
returns-in-Err-clause-steps g c = all_none _ c.nothing.result.steps.items c.nothing.ensures
