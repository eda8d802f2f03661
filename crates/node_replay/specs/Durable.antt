-- The durable part of a node: what its journal stores of it, and what an opening restores (docs/JOURNAL.md, "The program's journals").
-- Messages, open requests, cursors and parked requests are not durable.
use Rattle.std.specs.Prelude.{ℕ, ◌+◌, List, [], Bool, if◌then◌else◌}
use Rattle.chunk_model.specs.Changes.{Change}
use Rattle.chunk_model.specs.Tables.{Table}
use Rattle.history_model.specs.History.{Entry}
use Rattle.node_model.specs.ShardRows.{top}
use Rattle.node_model.specs.States.{Catalogue, Shard, Router, NodeState, catalogue_state, shard_state, router_state}

-- `top`: the greatest time in the journal; `changes`: newest first
pub record DurableCatalogue : Type 0 where
  pub me : ℕ
  pub top : ℕ
  pub changes : List Change

-- `top`: the greatest time of an entry and of a time at which the shard was read
pub record DurableShard : Type 0 where
  pub me : ℕ
  pub top : ℕ
  pub tables : List Table
  pub entries : List Entry

-- `shards`: how many it knows of, which no journal stores: each start gives them again; `life`: the one that begins next, 1 at first; `blocks`:
-- how many blocks of cursor numbers were taken
pub record DurableRouter : Type 0 where
  pub me : ℕ
  pub shards : ℕ
  pub life : ℕ
  pub blocks : ℕ

pub data DurableState : Type 0 where
  durable_catalogue : DurableCatalogue → DurableState
  durable_shard : DurableShard → DurableState
  durable_router : DurableRouter → DurableState

-- the life after the one that began, or the one that did not begin
abbrev pub next_life : ℕ → (begun : Bool) → ℕ
next_life life begun = if begun then life + 1 else life

-- the durable parts of nodes: of the catalogue with the greatest time that it stored, which its state does not have
abbrev pub catalogue_part : (stored : ℕ) → Catalogue → DurableCatalogue
catalogue_part stored c = record { me = c.me; top = stored; changes = c.changes }

abbrev pub shard_part : Shard → DurableShard
shard_part s = record { me = s.me; top = top s; tables = s.tables; entries = s.entries }

abbrev pub router_part : Router → DurableRouter
router_part r = record { me = r.me; shards = r.shards; life = next_life r.life r.begun; blocks = r.blocks }

-- the durable part of a node whose journal stores no time greater than this one
abbrev pub durable_of : (stored : ℕ) → NodeState → DurableState
durable_of stored (catalogue_state c) = durable_catalogue (catalogue_part stored c)
durable_of stored (shard_state s) = durable_shard (shard_part s)
durable_of stored (router_state r) = durable_router (router_part r)

-- nodes with an empty journal
abbrev pub empty_catalogue : ℕ → DurableCatalogue
empty_catalogue me = record { me = me; top = 0; changes = [] }

abbrev pub empty_shard : ℕ → DurableShard
empty_shard me = record { me = me; top = 0; tables = []; entries = [] }

abbrev pub empty_router : (me shards : ℕ) → DurableRouter
empty_router me shards = record { me = me; shards = shards; life = 1; blocks = 0 }

-- a node of the kind and the number of this one, with an empty journal; a router of as many shards
abbrev pub empty_of : NodeState → DurableState
empty_of (catalogue_state c) = durable_catalogue (empty_catalogue c.me)
empty_of (shard_state s) = durable_shard (empty_shard s.me)
empty_of (router_state r) = durable_router (empty_router r.me r.shards)
