use Rattle.std.proofs.Common.{refl, ap, ◌∙◌}
use Rattle.std.specs.Arc.{arc_value}
use Rattle.bson_values.specs.Tree.{Fields}
use Rattle.pipeline_model.specs.SortKeys.{sort_key}
use Rattle.pipeline_eval.specs.Keyed.{document_of}
use Rattle.pipeline_eval.proofs.Sorts.{has_key_too, next_put}
use Rattle.pipeline_eval.proofs.sorting.with_keys.Goals as goal

pub rows-preserved : goal.rows-preserved
rows-preserved c = record {
  documents =
      next_put document_of arc_value c.rows.rows.items _ (record { key = c.in_ok-key.key; document = c.in-Some.document }) c.rows.rest.items
      c.pop_front.new.self.items c.in-Some.document _ c.in_ok-push.ensures.items c.in-Some.ensures.items refl c.rows.invariant.documents;
  keys =
      has_key_too c.args.spec.now c.rows.rows.items _ (record { key = c.in_ok-key.key; document = c.in-Some.document }) c.in_ok-push.ensures.items
      (c.in_ok-key.ensures ∙ ap (λ (d : Fields). sort_key c.args.spec.now d) c.deref.ensures) c.rows.invariant.keys;
}
