use Rattle.std.proofs.Common.{ap, ◌∙◌, map, rules}
use Rattle.std.specs.Arc.{arc_value}
use Rattle.std.proofs.lemmas.Fn.{filter_same}
use Rattle.query_model.specs.Holds.{holds}
use Rattle.pipeline_eval.proofs.Loops.{map_filtered}
use Rattle.pipeline_eval.proofs.steps.matching.Goals as goal

pub returns : goal.returns
returns c =
    ap (λ ds. map arc_value ds) (filter_same _ (λ d. holds c.args.asked.now (arc_value d)) _ (λ d b f t. search rules) _ _ c.retain.ensures.filtered)
    ∙ map_filtered arc_value (holds c.args.asked.now) c.args.documents.items
