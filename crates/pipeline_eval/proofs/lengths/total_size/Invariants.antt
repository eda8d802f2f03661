-- The sum of those that were counted, and that of what is left, are the sum of all.
use Rattle.std.proofs.Common.{◌≡◌, ◌<◌, ◌+◌, ◌^◌, drop, map}
use Rattle.std.specs.Arc.{arc_value}
use Rattle.pipeline_model.specs.Lengths.{documents_length}
use Rattle.group_accum.specs.Sizes.{capped}
use Rattle.pipeline_eval.proofs.lengths.total_size.Given as goal

abbrev pub invariant-loop-document : goal.invariant-loop-document
invariant-loop-document l = record {
  fits : l.total < 2 ^ 64;
  sum : capped (l.total + documents_length (map arc_value (drop l.document-index l.documents))) ≡ capped (documents_length (map arc_value l.documents));
}
