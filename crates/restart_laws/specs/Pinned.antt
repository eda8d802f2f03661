-- What was read stays as it was read: the journal of the node that read says all up to the time of the read (docs/JOURNAL.md, "Records": the kinds 03 and 25,
-- ceilings; MongoDB manual, "Read Concern snapshot": reads at one cluster time).
use Rattle.std.specs.Prelude.{◌≡◌, ℕ, ◌<◌, ◌≤◌, List, None}
use Rattle.std.specs.List.{AllByRecursion}
use Rattle.chunk_model.specs.Changes.{Change, create_change, split_change, commit_change}
use Rattle.node_model.specs.Journal.{changes_kept, greatest_kept}
use Rattle.node_model.specs.Letters.{at_time, Body, table_told, half_ask, Letter}
use Rattle.node_model.specs.Service.{documents_at}
use Rattle.node_model.specs.World.{Held, World, journal_at, entries_at}

-- where the change creates a collection of this name, it is later than a time
abbrev pub CreatesLater : (namespace : List ℕ) → (at : ℕ) → Change → Type 0
CreatesLater namespace at (create_change c) = c.namespace ≡ namespace → at < c.at
CreatesLater namespace at (split_change s) = Unit {0}
CreatesLater namespace at (commit_change c) = Unit {0}

-- Documents that a shard took for a read are those that the entries of its journal leave at the time of the read, in the span of the half; that there was no
-- collection at the time of a read is so by the catalogue's journal; and neither time is above all that its journal stores.
abbrev pub IsPinnedBy : List Held → (sender : ℕ) → Body → Type 0
IsPinnedBy nodes sender (half_ask id turn namespace at half documents) =
    (documents ≡ documents_at (entries_at nodes sender) namespace at half) × (at ≤ greatest_kept (journal_at nodes sender))
IsPinnedBy nodes sender (table_told namespace create (at_time at) None) =
    AllByRecursion (CreatesLater namespace at) (changes_kept (journal_at nodes 0)) × (at ≤ greatest_kept (journal_at nodes 0))
IsPinnedBy nodes sender body = Unit {0}

-- what a message says of a read is so by the journals
abbrev pub IsPinned : World → Letter → Type 0
IsPinned w m = IsPinnedBy w.nodes m.sender m.body
