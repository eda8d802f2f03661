use Rattle.pipeline_laws.proofs.OutsideSpan.{split_half_outside, split_run_outside}
use Rattle.pipeline_laws.proofs.laws.outside_the_span_adds_nothing.Goals as goal

pub returns-clause-halves : goal.returns-clause-halves
returns-clause-halves c = split_half_outside

pub returns-clause-whole : goal.returns-clause-whole
returns-clause-whole c = split_run_outside
