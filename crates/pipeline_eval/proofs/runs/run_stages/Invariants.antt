-- The stages that are left, on the present documents, have the result of all stages.
use Rattle.std.proofs.Common.{length, map}
use Rattle.std.specs.Arc.{arc_value}
use Rattle.pipeline_model.specs.Runs.{Outcome, Runs}
use Rattle.pipeline_lang.specs.View.{stage_of}
use Rattle.pipeline_eval.proofs.runs.run_stages.Given as goal

abbrev pub invariant-stages : goal.invariant-stages
invariant-stages l = (out : Outcome) → Runs (map stage_of l.behind) (map arc_value l.left.items) out →
    Runs (map stage_of l.stages) (map arc_value l.initial.left.items) out

abbrev pub decreases-stages : goal.decreases-stages
decreases-stages l = length l.behind
