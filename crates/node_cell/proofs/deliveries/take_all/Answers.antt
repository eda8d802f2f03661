use Rattle.std.proofs.Common.{◌∙◌, refl, sym, subst, map, arith}
use Rattle.node_cell.specs.Deliveries.{AreKnown}
use Rattle.node_cell.proofs.Lists.{all_none, are_among_on, are_among_same}
use Rattle.node_cell.proofs.Seen.{left_among, steps_more}
use Rattle.node_cell.proofs.deliveries.take_all.Goals as goal

pub groups-init : goal.groups-init
groups-init g c = record {
  table = c.requires.table;
  free = c.requires.free;
  sits = c.requires.sits;
  place = refl;
  known = subst (λ l. AreKnown g.N.Node.meaning g.K.Numbering.routers (map (λ m. g.N.Mail.Mail.letter m) c.args.pass.now.me.0.seen) c.args.placed.now.at l)
      (sym c.from_vec-left.ensures.items) c.requires.known;
  some = are_among_same c.from_vec-left.result.items c.args.inputs.items c.from_vec-left.ensures.items;
  room = omega (arith, c.len.ensures, c.in-Ok.ensures.len, c.in-Ok.ensures.exact, c.from_vec-left.ensures.len);
  taken = all_none _ c.in-Ok.steps.items c.in-Ok.ensures.items;
}

pub groups-preserved : goal.groups-preserved
groups-preserved g c = record {
  table = c.take_some.ensures.table;
  free = c.take_some.ensures.free;
  sits = c.take_some.ensures.sits;
  place = c.take_some.ensures.place ∙ c.groups.invariant.place;
  known = subst (λ k. AreKnown g.N.Node.meaning g.K.Numbering.routers (map (λ m. g.N.Mail.Mail.letter m) c.take_some.new.pass.me.0.seen) k c.take_some.new.inputs.items)
      (sym c.take_some.ensures.place) c.in-Ok-take_some.ensures.known;
  some = are_among_on c.take_some.new.inputs.items c.groups.left.items c.args.inputs.items
      (left_among c.groups.left.items c.take_some.new.inputs.items c.in-Ok-take_some.ensures.left) c.groups.invariant.some;
  room = c.in-Ok-take_some.ensures.room;
  taken = steps_more c.args.inputs.items c.groups.left.items c.groups.steps.items c.take_some.new.steps.items c.groups.invariant.some c.groups.invariant.taken
      c.take_some.ensures.added;
}

pub returns-in-Err-clause-steps : goal.returns-in-Err-clause-steps
returns-in-Err-clause-steps g c = all_none _ c.nothing.result.steps.items c.nothing.ensures

pub returns-in-Err-take_some-clause-steps : goal.returns-in-Err-take_some-clause-steps
returns-in-Err-take_some-clause-steps g c =
    steps_more c.args.inputs.items c.groups.left.items c.groups.steps.items c.take_some.new.steps.items c.groups.invariant.some c.groups.invariant.taken
    c.take_some.ensures.added
