-- What contracts see of a store.
use Rattle.std.specs.Prelude.{◌≤◌, ℕ, List, length}
use Rattle.std.specs.List.{AllByRecursion}
use Rattle.node_model.specs.History.{Entry}
use Rattle.session_book.specs.Books.{room_in}
use Rattle.shard_store.specs.Entries.{entries_kept}
use Rattle.shard_store.specs.Collections.{room_under}
use Rattle.shard_store.specs.Outcomes.{statement_of}
use Rattle.shard_store.specs.declared.plan.EntryPlan.{EntryPlan}
use Rattle.shard_store.specs.declared.entry.Planned.{Planned}
use Rattle.shard_store.specs.declared.store.ShardStore.{ShardStore}

-- the entries, in order
abbrev pub entries_of : ShardStore → List Entry
entries_of store = entries_kept store.shard.0 store.entries.items

-- the time of the last entry, or 0
abbrev pub last_of : ShardStore → ℕ
last_of store = store.last.0

-- the shard's number among the nodes
abbrev pub shard_of : ShardStore → ℕ
shard_of store = store.shard.0

-- there is room for the entries of a plan
pub record HasRoom (store : ShardStore) (namespace : List ℕ) (plan : EntryPlan) : Type 0 where
  pub versions : AllByRecursion (λ (p : Planned). 1 ≤ room_under store.collections namespace p.key) plan.planned.items
  pub notes : length plan.planned.items ≤ room_in store.book (statement_of plan.number plan.id 0).session
