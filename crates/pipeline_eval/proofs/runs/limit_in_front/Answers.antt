use Rattle.std.proofs.Common.{List, ◌∷◌, map, sym, ap, ◌∙◌}
use Rattle.group_accum.proofs.Steps.{none_mapped}
use Rattle.pipeline_lang.specs.declared.stage.Stage as lang
use Rattle.pipeline_lang.specs.View.{stage_of}
use Rattle.pipeline_model.specs.Stages.{Stage}
use Rattle.pipeline_eval.specs.Evals.{limit_in_front}
use Rattle.pipeline_eval.proofs.Evaluated.{no_limit}
use Rattle.pipeline_eval.proofs.runs.limit_in_front.Goals as goal

pub returns-in_default : goal.returns-in_default
returns-in_default c = sym (ap (λ (ss : List Stage). limit_in_front ss) (none_mapped stage_of c.args.stages.now c.in_default.ensures.cases))

pub returns-in-Limit : goal.returns-in-Limit
returns-in-Limit c =
    sym (ap (λ (ss : List lang.Stage). limit_in_front (map stage_of ss)) c.in-Some.ensures.cases.0
    ∙ ap (λ (s : lang.Stage). limit_in_front (stage_of s ∷ map stage_of c.in-Some._rest.now)) c.in-Limit.is)

pub returns-in_default-first : goal.returns-in_default-first
returns-in_default-first c =
    sym (ap (λ (ss : List lang.Stage). limit_in_front (map stage_of ss)) c.in-Some.ensures.cases.0
    ∙ no_limit c.in-Some.first.now (map stage_of c.in-Some._rest.now) c.in_default-first.not-Limit)
