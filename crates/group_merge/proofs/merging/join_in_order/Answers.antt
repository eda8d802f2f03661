use Rattle.group_merge.proofs.Joined.{in_order_joined}
use Rattle.group_merge.proofs.merging.join_in_order.Goals as goal

pub returns : goal.returns
returns c = record {
  joins = in_order_joined _ _ _ _ c.in_ok-all.ensures c.in_ok-in_order.ensures.permutes c.in_ok-in_order.ensures.sorted c.in_ok-in_order.ensures.stable;
}
