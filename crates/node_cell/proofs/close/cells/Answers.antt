use Rattle.std.proofs.Common.{arith}
use Rattle.node_cell.proofs.Standing.{open_next, own_first, pass_next}
use Rattle.node_cell.proofs.close.cells.Goals as goal

pub new-guarded-requires-clause-held : goal.new-guarded-requires-clause-held
new-guarded-requires-clause-held g c =
    own_first c.nodes.at c.in-Some.seat c.nodes.waiting.items c.pop_front.new.self.items c.nodes.pass.me c.nodes.invariant.pass c.in-Some.ensures.items
    c.first-own.result.me c.first-own.ensures.first.1

pub new-guarded-requires-clause-open : goal.new-guarded-requires-clause-open
new-guarded-requires-clause-open g c =
    (open_next g.L.Log.facts.is_open c.in-Some.seat c.nodes.waiting.items c.pop_front.new.self.items c.in-Some.ensures.items c.nodes.invariant.are_open).0

pub nodes-preserved : goal.nodes-preserved
nodes-preserved g c = record {
  table = c.first-own.ensures.pass.0;
  pass = pass_next c.nodes.at c.in-Some.seat c.nodes.waiting.items c.pop_front.new.self.items c.nodes.pass.me c.nodes.invariant.pass c.in-Some.ensures.items
      c.first-own.new.pass.me c.first-own.ensures.pass.1;
  are_open = (open_next g.L.Log.facts.is_open c.in-Some.seat c.nodes.waiting.items c.pop_front.new.self.items c.in-Some.ensures.items
      c.nodes.invariant.are_open).1;
  len = omega (arith, c.nodes.invariant.len, c.push_reserved.ensures.len, c.in-Some.ensures.cases);
  place = omega (arith, c.nodes.invariant.place, c.in-Some.ensures.cases);
  room = omega (arith, c.nodes.invariant.room, c.push_reserved.ensures.capacity);
}
