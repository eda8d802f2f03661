-- The stages that are left narrow the limits as all do.
use Rattle.std.proofs.Common.{◌≡◌, length, map}
use Rattle.pipeline_lang.specs.View.{stage_of}
use Rattle.pipeline_model.specs.Split.{narrowed_by_stages}
use Rattle.query_model.specs.KeySpans.{no_limits}
use Rattle.pipeline_split.proofs.front.span_of_stages.Given as goal

abbrev pub invariant-stages : goal.invariant-stages
invariant-stages l = narrowed_by_stages (map stage_of l.rest) l.limits ≡ narrowed_by_stages (map stage_of l.stages) no_limits

abbrev pub decreases-stages : goal.decreases-stages
decreases-stages l = length l.rest
