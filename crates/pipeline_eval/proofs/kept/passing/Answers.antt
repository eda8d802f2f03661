use Rattle.std.proofs.Common.{ap, ◌∙◌, map, rules}
use Rattle.std.specs.Arc.{arc_value}
use Rattle.std.proofs.lemmas.Fn.{filter_same}
use Rattle.query_model.specs.Holds.{holds}
use Rattle.pipeline_eval.proofs.Loops.{map_filtered}
use Rattle.pipeline_eval.proofs.kept.passing.Goals as goal

pub returns : goal.returns
returns c =
    ap (λ ds. map (λ d. arc_value d.now) ds)
    (filter_same _ (λ d. holds c.args.asked.now (arc_value d.now)) _ (λ d b f t. search rules) _ _ c.retain.ensures.filtered)
    ∙ map_filtered (λ d. arc_value d.now) (holds c.args.asked.now) c.sifted-left.result.items ∙ c.sifted-left.ensures
