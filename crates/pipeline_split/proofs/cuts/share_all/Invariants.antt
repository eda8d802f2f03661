-- The stages that were copied and those that are left are all.
use Rattle.std.proofs.Common.{◌≡◌, ◌++◌, drop, map}
use Rattle.pipeline_lang.specs.View.{stage_of}
use Rattle.pipeline_split.proofs.cuts.share_all.Given as goal

abbrev pub invariant-loop-stage : goal.invariant-loop-stage
invariant-loop-stage l = map stage_of l.all.items ++ map stage_of (drop l.stage-index l.stages) ≡ map stage_of l.stages
