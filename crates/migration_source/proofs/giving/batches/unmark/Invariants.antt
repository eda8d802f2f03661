use Rattle.std.proofs.Common.{◌≡◌, drop}
use Rattle.std.specs.Prelude.{is_some}
use Rattle.std.specs.BTreeMap.{get_by}
use Rattle.std.specs.List.Sorted.{IsStrictlySortedBy}
use Rattle.std.specs.Map.{keys_of}
use Rattle.bson_values.specs.Tree.{Datum}
use Rattle.value_compare.specs.Order.{order}
use Rattle.migration_source.specs.Changed.{changed_among}
use Rattle.migration_source.proofs.Unmarks.{keys_left, without}
use Rattle.migration_source.proofs.giving.batches.unmark.Given as goal

-- without the keys that are left, the changed ones are those without all
abbrev pub invariant-loop-moved : goal.invariant-loop-moved
invariant-loop-moved l = record {
  whole : without (keys_left (drop l.moved-index l.docs)) (changed_among l.marks.entries)
      ≡ without (keys_left l.docs) (changed_among l.fn.marks.entries);
  places : (k : Datum) → is_some (get_by (order k) l.marks) ≡ is_some (get_by (order k) l.fn.marks);
  sorted : IsStrictlySortedBy order (keys_of l.marks.entries);
}
