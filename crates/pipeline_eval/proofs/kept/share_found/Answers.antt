use Rattle.std.proofs.Common.{◌+◌, drop}
use Rattle.std.specs.Arc.{arc_value}
use Rattle.field_paths.proofs.FieldLists.{next_one}
use Rattle.pipeline_eval.proofs.Sorts.{next_put}
use Rattle.pipeline_eval.proofs.kept.share_found.Goals as goal

pub loop-document-preserved : goal.loop-document-preserved
loop-document-preserved c =
    let i = c.loop-document.document-index in
    next_put arc_value (λ d. arc_value d.now) c.loop-document.all.items _ c.in_ok-shared.shared (drop i c.args.documents.now)
    (drop (i + 1) c.args.documents.now)
    c.document-item.result _ c.in_ok-push.ensures.items (next_one c.args.documents.now i c.document-item.result c.loop-document-test.true c.document-item.is)
    c.in_ok-shared.ensures c.loop-document.invariant
