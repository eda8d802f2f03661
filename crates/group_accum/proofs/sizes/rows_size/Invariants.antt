-- The sum of those that were counted, and that of what is left, are the sum of all.
use Rattle.std.proofs.Common.{◌≡◌, ◌<◌, ◌+◌, ◌^◌}
use Rattle.std.specs.Prelude.{sum_by}
use Rattle.pipeline_model.specs.Lengths.{row_length}
use Rattle.group_accum.specs.Rows.{rows_of}
use Rattle.group_accum.specs.Sizes.{capped}
use Rattle.group_accum.proofs.sizes.rows_size.Given as goal

abbrev pub invariant-loop-key : goal.invariant-loop-key
invariant-loop-key l = record {
  fits : l.size < 2 ^ 64;
  sum : capped (l.size + sum_by row_length (rows_of l.key-iterator)) ≡ capped (sum_by row_length (rows_of l.initial.key-iterator));
}
