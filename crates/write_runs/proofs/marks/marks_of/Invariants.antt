use Rattle.std.proofs.Common.{◌≡◌, length, take}
use Rattle.std.specs.List.{list_any}
use Rattle.node_model.specs.RouterRequests.{has_index}
use Rattle.write_runs.proofs.Marking.{Marked}
use Rattle.write_runs.specs.declared.run.Run.{Run}
use Rattle.write_runs.proofs.marks.marks_of.Given as goal

abbrev pub invariant-loop-run : goal.invariant-loop-run
invariant-loop-run l = record {
  long : length l.marks.items ≡ length l.initial.marks.items;
  marks : Marked l.initial.marks.items l.marks.items (λ i. list_any (λ (run : Run). has_index run.indices.items i) (take l.run-index l.runs));
}
