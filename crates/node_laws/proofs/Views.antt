-- What the journals keep and which times the nodes have, by place, and how both grow.
use Rattle.std.proofs.Common.{◌≡◌, ℕ, ◌<◌, ◌≤◌, List, [], ◌∷◌, ◌++◌}
use Rattle.std.specs.Prelude.{Option, Some, None, max, if◌then◌else◌}
use Rattle.std.specs.List.{AllByRecursion}
use Rattle.chunk_model.specs.Changes.{Change, create_change, split_change, commit_change, time_of}
use Rattle.chunk_model.specs.Tables.{first_shard}
use Rattle.history_model.specs.History.{Entry}
use Rattle.base_model.specs.Identities.{RequestId, same_request}
use Rattle.reply_model.specs.Cursors.{Cursor}
use Rattle.node_model.specs.Journal.{Kept, kept_table, kept_entry, kept_ceiling, kept_change, kept_none, kept_life, kept_block, entries_kept, changes_kept, greatest_kept}
use Rattle.node_model.specs.World.{Held, journal_at}
use Rattle.reply_model.specs.Exchanges.{Asked, Answered}
use Rattle.reply_model.specs.Accounts.{Given, Missed, Account, nothing_stored}

-- the time that a request reads at
pub record Choice : Type 0 where
  pub id : RequestId
  pub at : ℕ

-- no statement of a request from this index on was sent
pub record Reach : Type 0 where
  pub id : RequestId
  pub index : ℕ

-- What is noted of a run beside its world: the times that reads were decided for, the cursors after all replies, the moments that were given and what nodes could
-- not do before the last step, and how far the statements of requests were sent.
pub record Book : Type 0 where
  pub chosen : List Choice
  pub cursors : List Cursor
  pub given : List Given
  pub missed : List Missed
  pub reached : List Reach

-- by place: what the journal stores, and the time up to which it says all, which is the greatest that is stored; and what is noted
pub record View : Type 0 where
  pub journal : ℕ → List Kept
  pub bound : ℕ → ℕ
  pub chosen : List Choice
  pub cursors : List Cursor
  pub given : List Given
  pub missed : List Missed
  pub reached : List Reach

abbrev pub chosen_time : RequestId → List Choice → Option ℕ
chosen_time id [] = None
chosen_time id (c ∷ chosen) = if same_request c.id id then Some c.at else chosen_time id chosen

-- the greatest index that is noted for a request
abbrev pub reach_of : RequestId → List Reach → ℕ
reach_of id [] = 0
reach_of id (x ∷ reached) = if same_request x.id id then max x.index (reach_of id reached) else reach_of id reached

abbrev pub view_of : List Held → Book → View
view_of nodes book = record {
  journal = λ at. journal_at nodes at;
  bound = λ at. greatest_kept (journal_at nodes at);
  chosen = book.chosen;
  cursors = book.cursors;
  given = book.given;
  missed = book.missed;
  reached = book.reached;
}

abbrev pub entries_in : View → ℕ → List Entry
entries_in v at = entries_kept (v.journal at)

-- the changes of the catalogue, newest first
abbrev pub changes_in : View → List Change
changes_in v = changes_kept (v.journal 0)

-- SHARDS AND THE HISTORY

-- The node at this place is the first shard. Nothing moves yet, so that only this one has entries.
abbrev pub IsShardAt : ℕ → Type 0
IsShardAt at = at ≡ first_shard

-- the entries of all shards, which are the first shard's
abbrev pub history_in : View → List Entry
history_in v = entries_in v first_shard

-- What is judged of a view with these requests and replies. The steps of the changes, the tables that routers received and the requests that were not taken are
-- noted elsewhere.
abbrev pub account_in : View → List Asked → List Answered → Account
account_in v asked answered = record {
  changes = changes_in v;
  dated = [];
  history = history_in v;
  asked = asked;
  answered = answered;
  given = v.given;
  learned = [];
  missed = v.missed;
  away = [];
  stored = nothing_stored;
}

-- all shards have passed the time
abbrev pub HavePassed : View → ℕ → Type 0
HavePassed v time = time ≤ v.bound first_shard

-- an entry of a shard that is not above the bound of it, and one that is
abbrev pub IsWithin : (bound : ℕ → ℕ) → Entry → Type 0
IsWithin bound e = IsShardAt e.shard × (e.time ≤ bound e.shard)

abbrev pub IsBeyond : (bound : ℕ → ℕ) → Entry → Type 0
IsBeyond bound e = IsShardAt e.shard × (bound e.shard < e.time)

-- LATER VIEWS

-- currently no change moves a chunk
abbrev pub MovesNothing : Change → Type 0
MovesNothing (create_change c) = Unit {0}
MovesNothing (split_change s) = Unit {0}
MovesNothing (commit_change c) = ⊥

-- An entry and a change of the catalogue come after a time, and the entry is of the shard at this place, which is the first.
abbrev pub IsAbove : (at time : ℕ) → Kept → Type 0
IsAbove at time (kept_entry e) = (e.shard ≡ at) × (time < e.time) × IsShardAt at
IsAbove at time (kept_change x) = (time < time_of x) × MovesNothing x
IsAbove at time (kept_table t) = Unit {0}
IsAbove at time (kept_life n) = Unit {0}
IsAbove at time (kept_block n) = Unit {0}
IsAbove at time (kept_ceiling n) = Unit {0}
IsAbove at time (kept_none n) = Unit {0}

-- the journal at a place with more after it, above a time
pub record Longer (at time : ℕ) (old new : List Kept) : Type 0 where
  pub written : List Kept
  pub same : new ≡ old ++ written
  pub rises : AllByRecursion (IsAbove at time) written

-- more is noted
pub record More {X : Type 0} (old new : List X) : Type 0 where
  pub news : List X
  pub same : new ≡ old ++ news

-- each journal is longer, no time falls, and what was decided and noted stays so
pub record Later (v w : View) : Type 0 where
  pub longer : (at : ℕ) → Longer at (v.bound at) (v.journal at) (w.journal at)
  pub times : (at : ℕ) → v.bound at ≤ w.bound at
  pub decided : More v.chosen w.chosen
  pub given : More v.given w.given
  pub missed : More v.missed w.missed
  pub reached : More v.reached w.reached
