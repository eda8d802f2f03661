use Rattle.std.proofs.Common.{◌∙◌, sym, map}
use Rattle.node_model.specs.RouterNext.{also_part}
use Rattle.read_parts.proofs.Come.{not_all, passed}
use Rattle.read_parts.specs.Parts.{part_view, target_view}
use Rattle.read_parts.proofs.parts.have_all_come.Goals as goal

pub loop-target-preserved : goal.loop-target-preserved
loop-target-preserved c = λ told.
    passed target_view (also_part (map part_view c.args.parts.now) c.args.sender.0 told) c.args.targets.now c.loop-target.target-index _ c.loop-target-test.true
    (sym (c.has_come.ensures told) ∙ c.if-not-has_come.false)
    ∙ c.loop-target.invariant told

pub returns-then-not-has_come-clause-some : goal.returns-then-not-has_come-clause-some
returns-then-not-has_come-clause-some c = λ told is.
    not_all target_view (also_part (map part_view c.args.parts.now) c.args.sender.0 told) c.args.targets.now c.loop-target.target-index _ c.loop-target-test.true _
    (sym (c.has_come.ensures told) ∙ c.if-not-has_come.true) (c.loop-target.invariant told)
