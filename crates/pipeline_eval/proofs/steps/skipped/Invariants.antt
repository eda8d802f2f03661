-- The result is what is left without those that are still to be skipped.
use Rattle.std.proofs.Common.{◌≡◌, ◌-◌, drop}
use Rattle.pipeline_eval.proofs.steps.skipped.Given as goal

abbrev pub invariant-loop : goal.invariant-loop
invariant-loop l = drop (l.count - l.counter) l.left.items ≡ drop l.count l.fn.documents.items
