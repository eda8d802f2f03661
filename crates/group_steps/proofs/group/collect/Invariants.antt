use Rattle.std.proofs.Common.{◌≡◌, ◌++◌, map, ◌+◌, ◌<◌, ◌≤◌, ◌^◌, length}
use Rattle.std.specs.VecDeque.{deque_len}
use Rattle.group_steps.specs.Collected.{Collects}
use Rattle.group_steps.specs.Parts.{AreLeft, AreOn, parts_of}
use Rattle.group_steps.proofs.group.collect.Given as goal

abbrev pub invariant-inputs : goal.invariant-inputs
invariant-inputs g l = record {
  led : Collects (g.N.Node.state l.fn.node) (g.N.Node.steps l.fn.node) (parts_of (λ m. g.N.Mail.Mail.letter m) g.N.Node.meaning l.parts.items)
      l.collected.records (g.N.Node.state l.node) (g.N.Node.steps l.node);
  on : AreOn l.fn.inputs.items l.parts.items;
  left : AreLeft l.fn.inputs.items l.inputs.items;
  out : l.fn.inputs.items ≡ map (λ p. p.input.value) l.parts.items ++ l.inputs.items;
  counted : g.N.Node.steps l.fn.node + length l.parts.items ≤ g.N.Node.steps l.node;
  below : g.N.Node.steps l.fn.node < 2 ^ 56 → g.N.Node.steps l.node < 2 ^ 56;
}

abbrev pub decreases-inputs : goal.decreases-inputs
decreases-inputs g l = deque_len l.inputs
