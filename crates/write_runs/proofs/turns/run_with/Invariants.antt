use Rattle.std.proofs.Common.{◌≡◌, List, Option, drop}
use Rattle.node_model.specs.RouterNext.{run_with}
use Rattle.protocol_model.specs.declared.statement.StatementOutcome.{StatementOutcome}
use Rattle.write_runs.specs.Runs.{course_view, runs_view}
use Rattle.write_runs.proofs.turns.run_with.Given as goal

abbrev pub invariant-loop-run : goal.invariant-loop-run
invariant-loop-run l = (answers : List (Option StatementOutcome)) →
    run_with l.turn l.first (course_view answers l.tries l.runs) (runs_view (drop l.run-index l.runs))
    ≡ run_with l.turn l.first (course_view answers l.tries l.runs) (runs_view l.runs)
