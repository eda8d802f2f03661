use Rattle.std.proofs.Common.{List, map, ap, ◌∙◌}
use Rattle.std.specs.Prelude.{sum_by}
use Rattle.pipeline_model.specs.Halves.{count_in_part}
use Rattle.pipeline_eval.specs.declared.rows.Rows.{Rows}
use Rattle.pipeline_eval.specs.Rows.{rows_of}
use Rattle.group_merge.proofs.Joined.{counts_joined}
use Rattle.group_merge.proofs.merging.join_counts.Goals as goal

pub returns : goal.returns
returns c = record {
  joins = counts_joined c.args.name.now (map rows_of c.args.parts.items) c.in_ok-count.count _ c.in_ok-one.ensures
      (c.in_ok-count.ensures ∙ ap (λ (l : List Rows). sum_by count_in_part (map rows_of l)) c.deref.ensures.value);
}
