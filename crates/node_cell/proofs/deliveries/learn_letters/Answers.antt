use Rattle.std.proofs.Common.{◌∙◌, map, refl, arith}
use Rattle.node_cell.specs.Courses.{node_facts}
use Rattle.node_cell.specs.Standing.{IsKnown}
use Rattle.node_cell.proofs.Closing.{part_self}
use Rattle.node_cell.proofs.Lists.{all_grown, all_none, are_among_of, are_among_same, among_next}
use Rattle.node_cell.proofs.Seen.{known_more, part_then}
use Rattle.node_cell.proofs.deliveries.learn_letters.Goals as goal

pub letters-init : goal.letters-init
letters-init g c = record {
  table = c.requires.table;
  free = c.requires.free;
  held = refl;
  kept = part_self c.args.pass.now.me.0;
  known = all_none _ c.in-Ok.all.items c.in-Ok.ensures.items;
  among = all_none _ c.in-Ok.all.items c.in-Ok.ensures.items;
  left = are_among_same c.from_vec-left.result.items c.args.letters.items c.from_vec-left.ensures.items;
  room = omega (arith, c.len.ensures, c.in-Ok.ensures.len, c.in-Ok.ensures.exact, c.from_vec-left.ensures.len);
}

pub returns-in-Err-clause-kept : goal.returns-in-Err-clause-kept
returns-in-Err-clause-kept g c = part_self c.args.pass.now.me.0

pub letters-preserved-in-Some-learn_letter : goal.letters-preserved-in-Some-learn_letter
letters-preserved-in-Some-learn_letter g c =
    let next = among_next c.in-Some.letter c.letters.left.items c.pop_front.new.self.items c.args.letters.items c.in-Some.ensures.items c.letters.invariant.left in
    record {
      table = c.learn_letter.ensures.table;
      free = c.learn_letter.ensures.free;
      held = c.learn_letter.ensures.held ∙ c.letters.invariant.held;
      kept = part_then c.args.pass.now.me.0 c.letters.pass.me.0 c.learn_letter.new.pass.me.0 c.letters.invariant.kept c.learn_letter.ensures.kept;
      known = all_grown (λ i. IsKnown g.K.Numbering.routers (map (λ m. g.N.Mail.Mail.letter m) c.learn_letter.new.pass.me.0.seen) c.args.at (g.N.Node.meaning i))
          c.letters.all.items c.push_reserved.new.self.items c.in-Some-learn_letter.input c.push_reserved.ensures.items
          (known_more (node_facts g.N.Node.state g.N.Node.steps (λ m. g.N.Mail.Mail.letter m) g.N.Node.meaning g.L.Log.facts) g.K.Numbering.routers c.args.at c.letters.pass.me.0 c.learn_letter.new.pass.me.0 c.letters.all.items c.learn_letter.ensures.kept
          c.letters.invariant.known) c.in-Some-learn_letter.ensures.known;
      among = all_grown _ c.letters.all.items c.push_reserved.new.self.items c.in-Some-learn_letter.input c.push_reserved.ensures.items
          c.letters.invariant.among (are_among_of c.in-Some.letter c.in-Some-learn_letter.input c.args.letters.items c.in-Some-learn_letter.ensures.same next.0);
      left = next.1;
      room = omega (arith, c.letters.invariant.room, c.push_reserved.ensures.len, c.push_reserved.ensures.capacity, c.in-Some.ensures.cases);
    }

pub letters-preserved : goal.letters-preserved
letters-preserved g c =
    let next = among_next c.in-Some.letter c.letters.left.items c.pop_front.new.self.items c.args.letters.items c.in-Some.ensures.items c.letters.invariant.left in
    record {
      table = c.learn_letter.ensures.table;
      free = c.learn_letter.ensures.free;
      held = c.learn_letter.ensures.held ∙ c.letters.invariant.held;
      kept = part_then c.args.pass.now.me.0 c.letters.pass.me.0 c.learn_letter.new.pass.me.0 c.letters.invariant.kept c.learn_letter.ensures.kept;
      known = known_more (node_facts g.N.Node.state g.N.Node.steps (λ m. g.N.Mail.Mail.letter m) g.N.Node.meaning g.L.Log.facts) g.K.Numbering.routers c.args.at c.letters.pass.me.0 c.learn_letter.new.pass.me.0 c.letters.all.items
          c.learn_letter.ensures.kept c.letters.invariant.known;
      among = c.letters.invariant.among;
      left = next.1;
      room = omega (arith, c.letters.invariant.room, c.in-Some.ensures.cases);
    }
