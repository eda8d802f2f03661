-- What the records of a journal store, where they replay (MongoDB manual, "Retryable Writes": a statement is applied once; "Sharded
-- Cluster Balancer" and "Split Chunks in a Sharded Cluster": what changes there are).
use Rattle.std.specs.Prelude.{◌≡◌, ◌≤◌, List, [], ◌∷◌, true}
use Rattle.std.specs.List.{AllByRecursion}
use Rattle.value_model.specs.Keys.{is_key}
use Rattle.chunk_model.specs.Changes.{Change, create_change, split_change, time_of}
use Rattle.chunk_model.specs.Placement.{AreFitting}
use Rattle.history_model.specs.History.{Entry, Legal}
use Rattle.record_model.specs.RecordContents.{KeepEntries}
use Rattle.record_model.specs.Records.{Record, create_record, split_record}
use Rattle.reply_model.specs.OneHistory.{AreNumbered}
use Rattle.node_replay.specs.Durable.{DurableCatalogue, DurableShard}

-- The records of a shard keep its entries, and no others. These are one legal history of an unsharded collection, with each statement
-- at most once, and no number of a statement occurs twice.
pub record IsHistory (records : List Record) (d : DurableShard) : Type 0 where
  pub kept : KeepEntries d.me records d.entries
  pub legal : Legal d.entries
  pub numbered : AreNumbered d.entries
  pub past : AllByRecursion (λ (e : Entry). e.time ≤ d.top) d.entries

-- the changes that records store, after these, newest first
abbrev pub changes_over : List Change → List Record → List Change
changes_over older [] = older
changes_over older (create_record c ∷ records) = changes_over (create_change c ∷ older) records
changes_over older (split_record s ∷ records) = changes_over (split_change s ∷ older) records
changes_over older (r ∷ records) = changes_over older records

-- the key of a split is one that a document may have: it is so in each record that can be encoded (MongoDB manual, "Split Chunks in a
-- Sharded Cluster")
abbrev pub HasKey : Record → Type 0
HasKey (split_record s) = is_key s.middle ≡ true
HasKey r = Unit {0}

-- the records of the catalogue store its changes, each of which follows those before it
pub record AreChanges (records : List Record) (d : DurableCatalogue) : Type 0 where
  pub kept : d.changes ≡ changes_over [] records
  pub fitting : AreFitting d.changes
  pub past : AllByRecursion (λ x. time_of x ≤ d.top) d.changes
