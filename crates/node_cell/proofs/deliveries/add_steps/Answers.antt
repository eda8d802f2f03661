use Rattle.std.proofs.Common.{rules, ◌∙◌, refl, sym, ap, subst, map, arith}
use Rattle.node_cell.specs.Deliveries.{AreSeenFrom}
use Rattle.node_cell.proofs.Lists.{are_among_of, are_among_same}
use Rattle.node_cell.proofs.Seen.{next_seen, none_added, one_added, parts_next}
use Rattle.node_cell.proofs.deliveries.add_steps.Goals as goal

pub parts-init : goal.parts-init
parts-init g c = record {
  table = c.requires.table;
  pass = refl;
  seen = subst (λ l. AreSeenFrom (λ m. g.N.Mail.Mail.letter m) c.args.pass.now.me.0 c.args.first c.args.at l) (sym c.from_vec-left.ensures.items) c.requires.seen;
  some = are_among_same (map (λ p. p.input.value) c.from_vec-left.result.items) (map (λ p. p.input.value) c.args.parts.items)
      (ap (λ l. map (λ p. p.input.value) l) c.from_vec-left.ensures.items);
  added = none_added (map (λ p. p.input.value) c.args.parts.items) c.args.steps.now.items;
  fits = search rules;
  len = omega (arith, c.from_vec-left.ensures.len);
  capacity = refl;
}

pub stepped-step-requires-clause-seen : goal.stepped-step-requires-clause-seen
stepped-step-requires-clause-seen g c =
    (next_seen (λ m. g.N.Mail.Mail.letter m) c.args.pass.now.me.0 c.parts.pass.me.0 c.parts.number _ c.args.at c.in-Some.part c.parts.left.items c.pop_front.new.self.items
    (ap (λ m. m.0) c.parts.invariant.pass) c.in-Some.ensures.items refl c.parts.invariant.seen).0

pub parts-preserved : goal.parts-preserved
parts-preserved g c =
    let next = parts_next (map (λ p. p.input.value) c.args.parts.items) c.in-Some.part c.parts.left.items c.pop_front.new.self.items c.in-Some.ensures.items
    c.parts.invariant.some in
    record {
      table = c.stepped-step.ensures.table;
      pass = c.stepped-step.ensures.pass ∙ c.parts.invariant.pass;
      seen = (next_seen (λ m. g.N.Mail.Mail.letter m) c.args.pass.now.me.0 c.args.pass.now.me.0 c.parts.number _ c.args.at c.in-Some.part
          c.parts.left.items c.pop_front.new.self.items refl c.in-Some.ensures.items refl c.parts.invariant.seen).1;
      some = next.1;
      added = one_added (map (λ p. p.input.value) c.args.parts.items) c.args.steps.now.items c.parts.steps.items c.push_reserved.new.self.items c.stepped-step.result
          c.parts.invariant.added c.push_reserved.ensures.items
          (are_among_of c.in-Some.part.input.value c.stepped-step.result.taken.input (map (λ p. p.input.value) c.args.parts.items)
          (ap (λ t. t.input) c.stepped-step.ensures.step) next.0);
      fits = search rules;
      len = omega (arith, c.parts.invariant.len, c.push_reserved.ensures.len, c.in-Some.ensures.cases);
      capacity = c.push_reserved.ensures.capacity ∙ c.parts.invariant.capacity;
    }
