use Rattle.group_merge.proofs.Joined.{groups_joined, groups_overflow}
use Rattle.group_merge.proofs.merging.join_groups.Goals as goal

pub returns-in-Ok : goal.returns-in-Ok
returns-in-Ok c = record { joins = groups_joined _ _ _ _ c.in_ok-shared.ensures c.in_ok-groups.ensures.rows _ _ c.in_ok-groups.ensures.spec c.in-Ok.ensures.shows }

pub returns-in-Err-Overflow : goal.returns-in-Err-Overflow
returns-in-Err-Overflow c = record { joins = groups_overflow _ _ _ _ c.in_ok-shared.ensures c.in_ok-groups.ensures.rows _ c.in_ok-groups.ensures.spec (rw c.in-Err-Overflow.field-0-is at c.in-Err-Overflow.ensures.shows) }
