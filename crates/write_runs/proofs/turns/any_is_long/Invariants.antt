use Rattle.std.proofs.Common.{◌≡◌, drop, length}
use Rattle.std.specs.Prelude.{nat_lt}
use Rattle.std.specs.List.{list_any}
use Rattle.node_model.specs.States.{Run}
use Rattle.write_runs.specs.Runs.{runs_view}
use Rattle.write_runs.proofs.turns.any_is_long.Given as goal

abbrev pub invariant-loop-run : goal.invariant-loop-run
invariant-loop-run l =
    list_any (λ (run : Run). nat_lt 1 (length run.indices)) (runs_view (drop l.run-index l.runs)) ≡ list_any (λ (run : Run). nat_lt 1 (length run.indices)) (runs_view l.runs)
