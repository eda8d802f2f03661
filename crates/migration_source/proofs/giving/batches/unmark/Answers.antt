-- One key more is unmarked.
use Rattle.std.proofs.Common.{◌≡◌, ◌∙◌, false, ap}
use Rattle.std.specs.Prelude.{is_some}
use Rattle.std.specs.BTreeMap.{is_at}
use Rattle.std.specs.Map.{lookup}
use Rattle.value_compare.specs.Order.{order}
use Rattle.migration_source.proofs.Changes.{Entries, places_stay}
use Rattle.migration_source.proofs.Unmarks.{all_unmarked, next_unmarked}
use Rattle.migration_source.proofs.giving.batches.unmark.Goals as goal

pub loop-moved-preserved : goal.loop-moved-preserved
loop-moved-preserved c =
    let at = c.loop-moved in
    let m = c.moved-item.result in
    let set = c.unmark_one.ensures.entries in
    record {
      whole = next_unmarked c.args.docs.now at.moved-index m c.loop-moved-test.true c.moved-item.is at.marks.entries c.unmark_one.new.marks.entries _
          at.invariant.sorted set at.invariant.whole;
      places = λ k.
          ap (λ (l : Entries). is_some (lookup (is_at (order k)) l)) set ∙ places_stay m.key k false at.marks.entries ∙ at.invariant.places k;
      sorted = c.unmark_one.ensures.sorted;
    }

pub returns-clause-changed : goal.returns-clause-changed
returns-clause-changed c =
    let at = c.loop-moved in
    all_unmarked c.args.docs.now at.moved-index at.marks.entries _ c.loop-moved-test.false at.invariant.whole
