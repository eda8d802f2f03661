use Rattle.std.proofs.Common.{[], ◌∷◌, ◌++◌, refl, ap, ◌∙◌}
use Rattle.std.specs.Arc.{arc_value}
use Rattle.bson_values.specs.Tree.{Fields}
use Rattle.pipeline_model.specs.SortKeys.{sort_key}
use Rattle.pipeline_eval.specs.Keyed.{document_of}
use Rattle.pipeline_eval.specs.declared.sorting.Keyed.{Keyed}
use Rattle.pipeline_eval.proofs.Sorts.{has_key_too, next_put}
use Rattle.pipeline_eval.proofs.tops.kept_rows.Goals as goal

pub rows-preserved : goal.rows-preserved
rows-preserved c =
    let row : Keyed = record { key = c.in_ok-key.key; document = c.in-Some.document } in
    let before = c.rows.invariant.seen in
    record {
      cut = c.in_ok-put.ensures.cut;
      seen = (
        before.0 ++ row ∷ [],
        next_put document_of arc_value before.0 _ row c.rows.rest.items c.pop_front.new.self.items c.in-Some.document _ refl
            c.in-Some.ensures.items refl before.1,
        has_key_too c.args.spec.now before.0 _ row refl (c.in_ok-key.ensures ∙ ap (λ (d : Fields). sort_key c.args.spec.now d) c.deref.ensures) before.2,
        c.in_ok-put.ensures.top before.0 before.3,
      );
    }
