use Rattle.std.specs.Vec.Iter.{into_iter_items}
use Rattle.update_ops.proofs.Sorting.{sort_goes_on}
use Rattle.update_ops.proofs.order.sorted.Goals as goal

pub loop-entry-preserved : goal.loop-entry-preserved
loop-entry-preserved c =
    sort_goes_on c.loop-entry.by_path.entries c.put_entry.new.by_path.entries (into_iter_items c.loop-entry.entry-iterator) (into_iter_items c.next.new.self)
    c.in-Some.entry _ c.in-Some.ensures.steps.0 c.in_ok-put_entry.ensures c.loop-entry.invariant
