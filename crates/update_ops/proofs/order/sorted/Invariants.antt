-- Inserting what is left into what is there results in what all result in.
use Rattle.std.proofs.Common.{◌≡◌, []}
use Rattle.std.specs.Vec.Iter.{into_iter_items}
use Rattle.query_model.specs.Changes.{put_among}
use Rattle.update_ops.specs.View.{edits_of, entries_of}
use Rattle.update_ops.proofs.order.sorted.Given as goal

abbrev pub invariant-loop-entry : goal.invariant-loop-entry
invariant-loop-entry l =
    put_among (entries_of l.by_path.entries) (edits_of (into_iter_items l.entry-iterator)) ≡ put_among [] (edits_of l.fn.edits.items)
