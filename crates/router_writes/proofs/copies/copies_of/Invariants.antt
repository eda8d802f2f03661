use Rattle.std.proofs.Common.{◌≡◌, ◌++◌, drop}
use Rattle.write_runs.specs.Runs.{answers_view}
use Rattle.router_writes.proofs.copies.copies_of.Given as goal

abbrev pub invariant-loop-answer : goal.invariant-loop-answer
invariant-loop-answer l = answers_view l.copies.items ++ answers_view (drop l.answer-index l.answers) ≡ answers_view l.answers
