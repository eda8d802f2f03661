use Rattle.std.proofs.Common.{◌∙◌, ◌++◌, ◌∷◌, [], sym, ap}
use Rattle.node_cell.specs.Courses.{node_facts}
use Rattle.node_cell.proofs.Seen.{on_first}
use Rattle.node_cell.proofs.Standing.{sits_still}
use Rattle.node_cell.proofs.deliveries.take_one.Goals as goal

pub returns-in-Some-clause-sits : goal.returns-in-Some-clause-sits
returns-in-Some-clause-sits g c =
    sits_still (node_facts g.N.Node.state g.N.Node.steps (λ m. g.N.Mail.Mail.letter m) g.N.Node.meaning g.L.Log.facts) g.K.Numbering.routers c.take_group.new.placed
    c.take_group.new.pass.me.0 c.stepped.new.pass.me.0 (ap (λ m. m.0) c.stepped.ensures.pass) c.take_group.ensures.sits

pub returns-in-Some-clause-taken : goal.returns-in-Some-clause-taken
returns-in-Some-clause-taken g c = (
  ap (λ t. t.at) c.stepped.ensures.step,
  ap (λ t. t.input) c.stepped.ensures.step
      ∙ on_first c.push_back_reserved.new.self.items c.args.input c.in-Some.part c.in-Ok-take_group.group.parts.items c.pop_front.new.self.items
      (c.push_back_reserved.ensures.items ∙ ap (λ l. l ++ c.args.input ∷ []) c.in-Ok.ensures.items)
      (sym c.from_vec.ensures.items ∙ c.in-Some.ensures.items) c.in-Ok-take_group.ensures.on,
)
