use Rattle.pipeline_eval.proofs.Evaluated.{group_overflows, was_grouped}
use Rattle.pipeline_eval.proofs.runs.run_group.Goals as goal

pub returns-in-Ok : goal.returns-in-Ok
returns-in-Ok c = record {
  does = was_grouped _ _ _ _ c.in_ok-shared.ensures c.in_ok-groups.ensures.rows _ _ c.in_ok-groups.ensures.spec c.in-Ok.ensures.shows;
}

pub returns-in-Err-Overflow : goal.returns-in-Err-Overflow
returns-in-Err-Overflow c = record {
  does = group_overflows _ _ _ _ c.in_ok-shared.ensures c.in_ok-groups.ensures.rows _ c.in_ok-groups.ensures.spec
      (rw c.in-Err-Overflow.field-0-is at c.in-Err-Overflow.ensures.shows);
}
