use Rattle.std.proofs.Common.{◌≡◌, drop}
use Rattle.node_model.specs.RouterNext.{is_answered}
use Rattle.write_runs.specs.Runs.{answers_view}
use Rattle.router_writes.proofs.noted.is_answered.Given as goal

abbrev pub invariant-loop-answer : goal.invariant-loop-answer
invariant-loop-answer l = is_answered l.ordered (answers_view (drop l.answer-index l.answers)) ≡ is_answered l.ordered (answers_view l.answers)
