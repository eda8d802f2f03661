-- The sum of the parts that were visited, and that of the parts that are left, are the whole sum.
use Rattle.std.proofs.Common.{◌≡◌, ◌<◌, ◌+◌, ◌^◌, drop, map}
use Rattle.std.specs.Prelude.{sum_by}
use Rattle.pipeline_eval.specs.Rows.{rows_of}
use Rattle.pipeline_model.specs.Halves.{count_in_part}
use Rattle.group_merge.proofs.joins.count_of_all.Given as goal

abbrev pub invariant-loop-part : goal.invariant-loop-part
invariant-loop-part l = record {
  fits : l.count < 2 ^ 62;
  sum : l.count + sum_by count_in_part (map rows_of (drop l.part-index l.parts)) ≡ sum_by count_in_part (map rows_of l.parts);
}
