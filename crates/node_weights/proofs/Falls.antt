-- What a step on a message lowers at its node.
use Rattle.std.proofs.Common.{◌≡◌, ℕ, ◌+◌, ◌<◌, ◌≤◌, List, [], ◌∷◌, Bool, true}
use Rattle.std.specs.Prelude.{Some}
use Rattle.chunk_model.specs.Changes.{Change}
use Rattle.chunk_model.specs.Tables.{Table, table_of, with_table}
use Rattle.reply_model.specs.Accounts.{Dated}
use Rattle.node_model.specs.Journal.{kept_change}
use Rattle.node_model.specs.Letters.{At, table_told, Letter, Effect}
use Rattle.node_model.specs.ShardRows.{is_news}
use Rattle.node_model.specs.States.{Shard, NodeState, catalogue_state, shard_state, router_state}
use Rattle.node_model.specs.World.{dated_onto}
use Rattle.node_weights.specs.Weights.{requests_in, turns_in, changes_by, changes_to_come, cost_of, costs_of, parked_in}

-- no change of the catalogue is written
abbrev pub WritesNoChange : Effect → Type 0
WritesNoChange f = (now : ℕ) (changed : List Dated) → dated_onto now changed f.written ≡ changed

-- what the message may change is not yet, or is changed, and no message more may change anything
pub data Spends (m : Letter) (f : Effect) : Type 0 where
  spends_none : WritesNoChange f → changes_to_come f.mail ≤ changes_by m.body → Spends m f
  spends_one : (x : Change) → f.written ≡ kept_change x ∷ [] → 1 + changes_to_come f.mail ≤ changes_by m.body → Spends m f

-- a shard has the same tables as before
abbrev pub SameTables : NodeState → NodeState → Type 0
SameTables (catalogue_state c) (catalogue_state d) = Unit {0}
SameTables (shard_state s) (shard_state t) = t.tables ≡ s.tables
SameTables (router_state r) (router_state q) = Unit {0}
SameTables s t = ⊥

-- the message has a table that is new to the shard
pub record Learns (s t : Shard) (m : Letter) (f : Effect) : Type 0 where
  pub namespace : List ℕ
  pub create : Bool
  pub at : At
  pub table : Table
  pub says : m.body ≡ table_told namespace create at (Some table)
  pub news : is_news table (table_of table.namespace s.tables) ≡ true
  pub learned : t.tables ≡ with_table table s.tables
  pub same : WritesNoChange f
  pub none : changes_to_come f.mail ≡ 0

pub data Falls (old : NodeState) (m : Letter) (f : Effect) (new : NodeState) : Type 0 where
  falls_requests : requests_in new < requests_in old → Falls old m f new
  falls_turns : requests_in new ≤ requests_in old → turns_in new < turns_in old → Falls old m f new
  falls_changes : (s t : Shard) → old ≡ shard_state s → new ≡ shard_state t → Learns s t m f → Falls old m f new
  falls_messages : requests_in new ≤ requests_in old → turns_in new ≤ turns_in old → SameTables old new → Spends m f
      → parked_in new + costs_of f.mail < parked_in old + cost_of m.body → Falls old m f new
