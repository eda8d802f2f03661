-- The sum of those that were counted, and that of what is left, are the sum of all.
use Rattle.std.proofs.Common.{◌≡◌, ◌<◌, ◌+◌, ◌^◌, drop, map}
use Rattle.std.specs.Prelude.{sum_by}
use Rattle.pipeline_model.specs.Lengths.{cell_length}
use Rattle.group_accum.specs.Sizes.{capped}
use Rattle.group_accum.specs.View.{cell_of}
use Rattle.group_accum.proofs.sizes.cells_size.Given as goal

abbrev pub invariant-loop-cell : goal.invariant-loop-cell
invariant-loop-cell l = record {
  fits : l.size < 2 ^ 64;
  sum : capped (l.size + sum_by cell_length (map cell_of (drop l.cell-index l.cells))) ≡ capped (sum_by cell_length (map cell_of l.cells));
}
