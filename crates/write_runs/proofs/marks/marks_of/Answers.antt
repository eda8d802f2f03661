use Rattle.std.proofs.Common.{ℕ, arith}
use Rattle.std.specs.List.{list_any}
use Rattle.node_model.specs.RouterRequests.{has_index}
use Rattle.write_runs.proofs.Marking.{all_marked, from_none, marks_seen}
use Rattle.write_runs.specs.declared.run.Run.{Run}
use Rattle.write_runs.proofs.marks.marks_of.Goals as goal

pub returns : goal.returns
returns c =
    marks_seen c.loop-run.marks.items c.args.runs.now
    (from_none c.args.count c.in_ok-marks.marks.items c.loop-run.marks.items (λ i. list_any (λ (run : Run). has_index run.indices.items i) c.args.runs.now)
    c.in_ok-marks.ensures c.loop-run.invariant.long
    (all_marked (λ (i : ℕ) (run : Run). has_index run.indices.items i) c.in_ok-marks.marks.items c.loop-run.marks.items c.args.runs.now c.loop-run.run-index
    (omega (arith, c.loop-run-test.false)) c.loop-run.invariant.marks))
