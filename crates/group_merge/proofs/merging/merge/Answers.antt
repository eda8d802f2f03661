use Rattle.std.proofs.Common.{map}
use Rattle.std.specs.Arc.{arc_value}
use Rattle.pipeline_lang.specs.Halves.{merge_of}
use Rattle.pipeline_eval.specs.Rows.{rows_of}
use Rattle.group_merge.proofs.Joined.{goes_on}
use Rattle.group_merge.proofs.merging.merge.Goals as goal

pub returns : goal.returns
returns c = record {
  answers =
      goes_on _ (merge_of c.args.by.now) (map rows_of c.args.parts.items) (map arc_value c.in_ok-start.start.items) c.eval.result c.in_ok-start.ensures.joins
      c.eval.ensures.answers;
}
