use Rattle.pipeline_laws.proofs.OutsideSpan.{split_half_lists}
use Rattle.pipeline_laws.proofs.laws.halves_never_overflow.Goals as goal

pub returns : goal.returns
returns c = split_half_lists
