use Rattle.std.proofs.Common.{◌≡◌, drop}
use Rattle.write_runs.specs.Marks.{in_one_of}
use Rattle.write_runs.specs.Runs.{runs_view}
use Rattle.write_runs.proofs.marks.have_index.Given as goal

abbrev pub invariant-loop-run : goal.invariant-loop-run
invariant-loop-run l = in_one_of (runs_view (drop l.run-index l.runs)) l.index ≡ in_one_of (runs_view l.runs) l.index
