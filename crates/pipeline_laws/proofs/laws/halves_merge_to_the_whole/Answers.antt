use Rattle.std.proofs.Common.{inl, inr}
use Rattle.pipeline_laws.proofs.MergedHalves.{halves_merge}
use Rattle.pipeline_laws.proofs.laws.halves_merge_to_the_whole.Goals as goal

pub returns-clause-any : goal.returns-clause-any
returns-clause-any c stages half merge parts rows out e small halves merged = halves_merge stages half merge parts rows out (inr small) e halves merged

pub returns-clause-few : goal.returns-clause-few
returns-clause-few c stages half merge parts rows out e few halves merged = halves_merge stages half merge parts rows out (inl few) e halves merged
