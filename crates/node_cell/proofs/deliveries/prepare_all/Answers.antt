use Rattle.std.proofs.Common.{map, arith}
use Rattle.node_cell.specs.Deliveries.{Delivers}
use Rattle.node_cell.proofs.Lists.{all_grown, all_none, are_among_self}
use Rattle.node_cell.proofs.Seen.{message_next}
use Rattle.node_cell.proofs.deliveries.prepare_all.Goals as goal

pub letters-init : goal.letters-init
letters-init g c = record {
  left = are_among_self (map (λ m. g.N.Mail.Mail.letter m) c.args.letters.items);
  prepared = all_none (λ i. Delivers g.N.Node.meaning (map (λ m. g.N.Mail.Mail.letter m) c.args.letters.items) i) c.in-Ok.all.items c.in-Ok.ensures.items;
  room = omega (arith, c.len.ensures, c.in-Ok.ensures.len, c.in-Ok.ensures.exact);
}

pub letters-preserved : goal.letters-preserved
letters-preserved g c =
    let next = message_next (λ m. g.N.Mail.Mail.letter m) (map (λ m. g.N.Mail.Mail.letter m) c.args.letters.items) c.in-Some.letter c.letters.letters.items c.pop_front.new.self.items
    c.in-Some.ensures.items c.letters.invariant.left in
    record {
      left = next.1;
      prepared = all_grown (λ i. Delivers g.N.Node.meaning (map (λ m. g.N.Mail.Mail.letter m) c.args.letters.items) i) c.letters.all.items c.push_reserved.new.self.items
          c.prepare.result c.push_reserved.ensures.items c.letters.invariant.prepared (g.N.Mail.Mail.letter c.in-Some.letter, next.0, c.prepare.ensures);
      room = omega (arith, c.letters.invariant.room, c.push_reserved.ensures.len, c.push_reserved.ensures.capacity, c.in-Some.ensures.cases);
    }
