use Rattle.std.proofs.Common.{ap, ◌∙◌, ◌||◌, ℕ, List, false, get_or}
use Rattle.node_model.specs.RouterRequests.{has_index}
use Rattle.write_runs.proofs.Marking.{from_none}
use Rattle.write_runs.proofs.marks.marks_of_run.Goals as goal

pub returns : goal.returns
returns c =
    from_none c.args.count c.in_ok-marks.marks.items c.mark_all.new.marks.items (λ i. has_index c.args.run.now.indices.items i)
    c.in_ok-marks.ensures c.mark_all.ensures.length
    (λ i less. c.mark_all.ensures.marks i less ∙ ap (λ (l : List ℕ). get_or c.in_ok-marks.marks.items i false || has_index l i) c.deref.ensures.value)
