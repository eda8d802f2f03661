use Rattle.group_merge.proofs.Joined.{come_joined}
use Rattle.group_merge.proofs.merging.join_as_they_come.Goals as goal

pub returns : goal.returns
returns c = record { joins = come_joined _ _ c.in_ok-all.ensures }
