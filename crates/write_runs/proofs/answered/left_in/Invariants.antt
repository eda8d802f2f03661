use Rattle.std.proofs.Common.{◌≡◌, take}
use Rattle.std.specs.Prelude.{filter, not}
use Rattle.reply_model.specs.Outcomes.{has_outcome}
use Rattle.write_runs.specs.Runs.{answers_view}
use Rattle.write_runs.proofs.answered.left_in.Given as goal

abbrev pub invariant-loop-index : goal.invariant-loop-index
invariant-loop-index l = l.left.items ≡ filter (λ i. not (has_outcome (answers_view l.answers) i)) (take l.index-index l.indices)
