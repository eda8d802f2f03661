use Rattle.std.proofs.Common.{rules, ap, arith}
use Rattle.node_cell.specs.Courses.{node_facts}
use Rattle.node_cell.proofs.Standing.{free_both, sit_list, sit_next}
use Rattle.node_cell.proofs.close.gather.Goals as goal

pub nodes-preserved : goal.nodes-preserved
nodes-preserved g c = record {
  table = c.join.ensures.0;
  free = free_both c.nodes.pass.me c.join.new.pass.me c.into_parts-placed.result.1.me c.join.ensures.1 c.nodes.invariant.free
      c.into_parts-placed.ensures.pass.1;
  len = omega (arith, c.nodes.invariant.len, c.push_reserved.ensures.len, c.in-Some.ensures.cases);
  place = omega (arith, c.nodes.invariant.place, c.push_reserved.ensures.len);
  room = omega (arith, c.nodes.invariant.room, c.push_reserved.ensures.capacity);
  sit = sit_list (node_facts g.N.Node.state g.N.Node.steps (λ m. g.N.Mail.Mail.letter m) g.N.Node.meaning g.L.Log.facts) g.K.Numbering.routers _ c.join.new.pass.me.0.held _ _ c.push_reserved.ensures.items
      (sit_next (node_facts g.N.Node.state g.N.Node.steps (λ m. g.N.Mail.Mail.letter m) g.N.Node.meaning g.L.Log.facts) g.K.Numbering.routers c.nodes.at c.nodes.pass.me.0 c.into_parts-placed.result.1.me.0 c.join.new.pass.me.0 c.nodes.ended.items
      c.into_parts-placed.result.0 c.nodes.invariant.sit c.into_parts-placed.ensures.sits (search rules) (search rules) (ap (λ m. m.0) c.join.ensures.1));
}
