use Rattle.std.proofs.Common.{◌≡◌, drop}
use Rattle.std.specs.List.{list_any}
use Rattle.reply_model.specs.Outcomes.{has_outcome}
use Rattle.write_runs.specs.Runs.{answers_view}
use Rattle.write_runs.proofs.answered.is_served.Given as goal

abbrev pub invariant-loop-index : goal.invariant-loop-index
invariant-loop-index l =
    list_any (has_outcome (answers_view l.answers)) (drop l.index-index l.indices) ≡ list_any (has_outcome (answers_view l.answers)) l.indices
