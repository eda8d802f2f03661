use Rattle.std.proofs.Common.{◌≡◌, ◌++◌, drop, map}
use Rattle.reply_model.specs.Outcomes.{dones_from}
use Rattle.protocol_model.specs.Statements.{done_view}
use Rattle.write_runs.specs.Runs.{answers_view}
use Rattle.router_writes.proofs.answers.dones_of.Given as goal

abbrev pub invariant-loop-answer : goal.invariant-loop-answer
invariant-loop-answer l =
    map done_view l.dones.items ++ dones_from l.index (answers_view (drop l.answer-index l.answers)) ≡ dones_from 0 (answers_view l.answers)
