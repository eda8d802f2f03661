use Rattle.std.proofs.Common.{ℕ, List, [], refl, sym, ap, subst, arith}
use Rattle.std.specs.Prelude.{length}
use Rattle.group_steps.specs.Collected.{Collects}
use Rattle.group_steps.specs.Parts.{parts_of}
use Rattle.group_steps.proofs.Inputs.{more_out, next_among, next_left, none_collected, none_lost, none_on, none_out, one_lost}
use Rattle.group_steps.proofs.group.collect.Goals as goal

pub inputs-init : goal.inputs-init
inputs-init g c = record {
  led = none_collected (λ m. g.N.Mail.Mail.letter m) g.N.Node.meaning c.new-parts.result.items (g.N.Node.state c.args.node.now)
      (g.N.Node.steps c.args.node.now) c.new-collected.result.records c.new-parts.ensures.items c.new-collected.ensures;
  on = none_on c.args.inputs.now.items c.new-parts.result.items c.new-parts.ensures.items;
  left = ([], refl);
  out = none_out c.args.inputs.now.items c.new-parts.result.items c.new-parts.ensures.items;
  counted = omega (arith, ap (λ (l : List _). length l) c.new-parts.ensures.items);
  below = λ less. less;
}

pub inputs-preserved : goal.inputs-preserved
inputs-preserved g c = record {
  led = c.step_on.ensures.led (g.N.Node.state c.args.node.now) (g.N.Node.steps c.args.node.now) c.inputs.invariant.led;
  on = c.step_on.ensures.on c.args.inputs.now.items
      (next_among c.args.inputs.now.items c.inputs.inputs.items c.in-Some.input c.pop_front.new.self.items c.inputs.invariant.left c.in-Some.ensures.items)
      c.inputs.invariant.on;
  left = next_left c.args.inputs.now.items c.inputs.inputs.items c.in-Some.input c.pop_front.new.self.items c.inputs.invariant.left c.in-Some.ensures.items;
  out = more_out c.args.inputs.now.items c.inputs.inputs.items c.in-Some.input c.pop_front.new.self.items c.inputs.parts.items c.step_on.new.parts.items
      c.inputs.invariant.out c.in-Some.ensures.items c.in-Ok.ensures.taken;
  counted = omega (arith, c.step_on.ensures.counted, c.inputs.invariant.counted);
  below = λ less. c.step_on.ensures.below (c.inputs.invariant.below less);
}

pub returns-in-Err-clause-led : goal.returns-in-Err-clause-led
returns-in-Err-clause-led g c =
    subst (λ (r : List (List ℕ)). Collects (g.N.Node.state c.args.node.now) (g.N.Node.steps c.args.node.now)
    (parts_of (λ m. g.N.Mail.Mail.letter m) g.N.Node.meaning c.step_on.new.parts.items) r (g.N.Node.state c.step_on.new.node)
    (g.N.Node.steps c.step_on.new.node)) (sym c.into_records.ensures)
    (c.step_on.ensures.led (g.N.Node.state c.args.node.now) (g.N.Node.steps c.args.node.now) c.inputs.invariant.led)

pub returns-in-Err-clause-on : goal.returns-in-Err-clause-on
returns-in-Err-clause-on g c =
    c.step_on.ensures.on c.args.inputs.now.items
    (next_among c.args.inputs.now.items c.inputs.inputs.items c.in-Some.input c.pop_front.new.self.items c.inputs.invariant.left c.in-Some.ensures.items)
    c.inputs.invariant.on

pub returns-in-Err-clause-left : goal.returns-in-Err-clause-left
returns-in-Err-clause-left g c =
    next_left c.args.inputs.now.items c.inputs.inputs.items c.in-Some.input c.pop_front.new.self.items c.inputs.invariant.left c.in-Some.ensures.items

pub returns-then-len-ge-MOST_STEPS-clause-led : goal.returns-then-len-ge-MOST_STEPS-clause-led
returns-then-len-ge-MOST_STEPS-clause-led g c =
    subst (λ (r : List (List ℕ)). Collects (g.N.Node.state c.args.node.now) (g.N.Node.steps c.args.node.now)
    (parts_of (λ m. g.N.Mail.Mail.letter m) g.N.Node.meaning c.step_on.new.parts.items) r (g.N.Node.state c.step_on.new.node)
    (g.N.Node.steps c.step_on.new.node))
    (sym c.into_records-then-len-ge-MOST_STEPS.ensures) (c.step_on.ensures.led (g.N.Node.state c.args.node.now) (g.N.Node.steps c.args.node.now) c.inputs.invariant.led)

pub returns-then-len-ge-MOST_STEPS-clause-on : goal.returns-then-len-ge-MOST_STEPS-clause-on
returns-then-len-ge-MOST_STEPS-clause-on g c =
    c.step_on.ensures.on c.args.inputs.now.items
    (next_among c.args.inputs.now.items c.inputs.inputs.items c.in-Some.input c.pop_front.new.self.items c.inputs.invariant.left c.in-Some.ensures.items)
    c.inputs.invariant.on

pub returns-then-len-ge-MOST_STEPS-clause-left : goal.returns-then-len-ge-MOST_STEPS-clause-left
returns-then-len-ge-MOST_STEPS-clause-left g c =
    next_left c.args.inputs.now.items c.inputs.inputs.items c.in-Some.input c.pop_front.new.self.items c.inputs.invariant.left c.in-Some.ensures.items

pub returns-in-Err-clause-out : goal.returns-in-Err-clause-out
returns-in-Err-clause-out g c =
    one_lost c.args.inputs.now.items c.inputs.inputs.items c.in-Some.input c.pop_front.new.self.items c.inputs.parts.items c.step_on.new.parts.items c.in-Err.e
    c.inputs.invariant.out c.in-Some.ensures.items c.in-Err.ensures.not_taken

pub returns-then-len-ge-MOST_STEPS-clause-out : goal.returns-then-len-ge-MOST_STEPS-clause-out
returns-then-len-ge-MOST_STEPS-clause-out g c =
    none_lost c.args.inputs.now.items c.pop_front.new.self.items c.step_on.new.parts.items
    (more_out c.args.inputs.now.items c.inputs.inputs.items c.in-Some.input c.pop_front.new.self.items c.inputs.parts.items c.step_on.new.parts.items
    c.inputs.invariant.out c.in-Some.ensures.items c.in-Ok.ensures.taken)
