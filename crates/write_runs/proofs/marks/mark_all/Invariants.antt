use Rattle.std.proofs.Common.{◌≡◌, ◌==◌, length, take}
use Rattle.std.specs.List.{list_any}
use Rattle.write_runs.proofs.Marking.{Marked}
use Rattle.write_runs.proofs.marks.mark_all.Given as goal

abbrev pub invariant-loop-index : goal.invariant-loop-index
invariant-loop-index l = record {
  long : length l.marks.items ≡ length l.fn.marks.items;
  marks : Marked l.fn.marks.items l.marks.items (λ i. list_any (λ j. j == i) (take l.index-index l.indices));
}
