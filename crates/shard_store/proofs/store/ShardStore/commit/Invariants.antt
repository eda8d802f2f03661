use Rattle.std.proofs.Common.{◌≡◌, ◌≤◌, ◌++◌, length}
use Rattle.std.specs.Prelude.{map}
use Rattle.std.specs.List.{AllByRecursion}
use Rattle.std.specs.Vec.Iter.{into_iter_items, into_iter_len}
use Rattle.session_book.specs.Books.{room_in}
use Rattle.shard_store.specs.Collections.{room_under}
use Rattle.shard_store.specs.Entries.{entry_view}
use Rattle.shard_store.specs.Outcomes.{statement_of}
use Rattle.shard_store.specs.Plans.{AreNext, made_by}
use Rattle.shard_store.specs.Stores.{entries_of, last_of, shard_of}
use Rattle.shard_store.specs.declared.entry.Planned.{Planned}
use Rattle.shard_store.proofs.store.ShardStore.commit.Given as goal

abbrev pub invariant-loop-planned : goal.invariant-loop-planned
invariant-loop-planned l = record {
  len : into_iter_len l.planned-iterator ≡ length (into_iter_items l.planned-iterator);
  next : AreNext (entries_of l.self) (last_of l.self) l.namespace l.fn.plan.number l.fn.plan.id (into_iter_items l.planned-iterator);
  whole : entries_of l.self ++ map (entry_view (shard_of l.self) l.namespace) (into_iter_items l.planned-iterator)
      ≡ entries_of l.fn.self ++ made_by (shard_of l.fn.self) l.namespace l.fn.plan;
  last : last_of l.self ≤ l.fn.plan.last.0;
  past : AllByRecursion (λ (p : Planned). p.time.0 ≤ l.fn.plan.last.0) (into_iter_items l.planned-iterator);
  shard : shard_of l.self ≡ shard_of l.fn.self;
  versions : AllByRecursion (λ (p : Planned). 1 ≤ room_under l.self.collections l.namespace p.key) (into_iter_items l.planned-iterator);
  notes : length (into_iter_items l.planned-iterator) ≤ room_in l.self.book (statement_of l.fn.plan.number l.fn.plan.id 0).session;
}
