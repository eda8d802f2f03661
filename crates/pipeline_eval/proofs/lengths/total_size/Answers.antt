use Rattle.std.proofs.Common.{◌≡◌, arith, subst}
use Rattle.std.specs.Arc.{arc_value}
use Rattle.bson_values.specs.Tree.{Fields}
use Rattle.group_accum.proofs.RowBytes.{sum_next}
use Rattle.group_accum.specs.Sizes.{capped}
use Rattle.pipeline_model.specs.Lengths.{document_length}
use Rattle.pipeline_eval.proofs.lengths.total_size.Goals as goal

pub loop-document-preserved : goal.loop-document-preserved
loop-document-preserved c = record {
  fits = omega arith;
  sum = sum_next document_length arc_value c.args.documents.now c.loop-document.document-index c.document-item.result _ _ _ _ c.loop-document-test.true
      c.document-item.is (subst (λ (d : Fields). c.size.result ≡ capped (document_length d)) c.deref.ensures c.size.ensures) c.saturating_add-total.ensures
      c.loop-document.invariant.sum;
}
