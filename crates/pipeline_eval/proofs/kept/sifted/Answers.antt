use Rattle.std.proofs.Common.{ap, ◌∙◌, map, rules}
use Rattle.std.specs.Prelude.{filter}
use Rattle.std.specs.Arc.{arc_value}
use Rattle.std.proofs.lemmas.Fn.{filter_same}
use Rattle.query_model.specs.Holds.{holds}
use Rattle.match_expr.specs.Sieves.{lets_pass}
use Rattle.pipeline_eval.proofs.Sifted.{filter_sifted}
use Rattle.pipeline_eval.proofs.kept.sifted.Goals as goal

pub returns-in-Some : goal.returns-in-Some
returns-in-Some c =
    ap (λ ds. filter (holds c.args.asked.now) (map (λ d. arc_value d.now) ds))
    (filter_same _ (λ d. lets_pass c.in-Some.sieve (arc_value d.now)) _ (λ d b f t. search rules) _ _ c.retain.ensures.filtered)
    ∙ filter_sifted (λ d. arc_value d.now) (holds c.args.asked.now) (lets_pass c.in-Some.sieve) c.in-Some.ensures c.args.documents.items
