use Rattle.std.proofs.Common.{ap, ◌∙◌}
use Rattle.std.specs.Arc.{arc_value}
use Rattle.bson_values.specs.Tree.{Fields}
use Rattle.group_accum.proofs.Steps.{mapped_next}
use Rattle.pipeline_model.specs.Projections.{project}
use Rattle.pipeline_eval.proofs.steps.projected.Goals as goal

pub loop-document-preserved : goal.loop-document-preserved
loop-document-preserved c =
    mapped_next arc_value arc_value (project c.args.rules.now) c.loop-document.left.items _ c.in_ok-shared.shared
    c.args.documents.now c.loop-document.document-index c.document-item.result _ c.loop-document-test.true c.document-item.is c.in_ok-push.ensures.items
    (c.in_ok-shared.ensures.ok ∙ c.in_ok-shown.ensures.document ∙ ap (λ (d : Fields). project c.args.rules.now d) c.deref.ensures) c.loop-document.invariant
