-- Tables outside of the catalogue: each that a node has, a journal stores or a message says is one that the catalogue had, and a message says the one of its own
-- time (own; docs/JOURNAL.md, "Records": the kind 01; docs/NODES.md, "Tables").
use Rattle.std.specs.Prelude.{◌≡◌, ◌≢◌, ℕ, ◌≤◌, List, [], ◌++◌, filter, not, nat_lt, drop, length, Some}
use Rattle.std.specs.List.{AllByRecursion}
use Rattle.chunk_model.specs.Changes.{Change, time_of, known_table}
use Rattle.chunk_model.specs.Tables.{Table}
use Rattle.node_model.specs.Journal.{Kept, kept_table, changes_kept}
use Rattle.node_model.specs.Letters.{Body, table_told, Letter}
use Rattle.node_model.specs.States.{NodeState, catalogue_state, shard_state, router_state, time_of_node}
use Rattle.node_model.specs.World.{Held, World, journal_at}
use Rattle.node_replay.specs.Replays.{latest_in_table}
use Rattle.node_replay.specs.Restarts.{EventOrStop, whole_event, restart_event, stop_event, RunWithStops}
use Rattle.restart_laws.specs.Calls.{Reached}

-- the changes that the catalogue's journal stores, newest first
abbrev pub changes_stored : World → List Change
changes_stored w = changes_kept (journal_at w.nodes 0)

-- TABLES THAT THE CATALOGUE HAD

-- This was the table of the collection after some of the changes, `older`, which were made before all others; and no time in it is later than this one.
-- `changes`: newest first.
pub record WasTable (changes : List Change) (namespace : List ℕ) (time : ℕ) (t : Table) : Type 0 where
  pub newer : List Change
  pub older : List Change
  pub all : changes ≡ newer ++ older
  pub known : known_table namespace older ≡ Some t
  pub latest : latest_in_table t ≤ time

-- the catalogue has changes, and makes its tables of them
abbrev pub tables_in : NodeState → List Table
tables_in (catalogue_state c) = []
tables_in (shard_state s) = s.tables
tables_in (router_state r) = r.tables

-- so is each table that a node has, with no time later than the node
abbrev pub HasTablesOf : List Change → Held → Type 0
HasTablesOf changes h = AllByRecursion (λ (t : Table). WasTable changes t.namespace (time_of_node h.state) t) (tables_in h.state)

-- and each that its journal stores, also where a longer one replaced it
abbrev pub StoresTable : List Change → (time : ℕ) → Kept → Type 0
StoresTable changes time (kept_table t) = WasTable changes t.namespace time t
StoresTable changes time k = Unit {0}

abbrev pub StoresTablesOf : List Change → Held → Type 0
StoresTablesOf changes h = AllByRecursion (StoresTable changes (time_of_node h.state)) h.kept

-- and that of a message, of the collection that it names, with no time later than the message
abbrev pub SaysTable : List Change → (time : ℕ) → Body → Type 0
SaysTable changes time (table_told namespace create at (Some t)) = WasTable changes namespace time t
SaysTable changes time body = Unit {0}

abbrev pub SaysTableOf : List Change → Letter → Type 0
SaysTableOf changes m = SaysTable changes m.time m.body

-- THE TABLE AT A TIME

-- the changes that are not later than a time
abbrev pub changes_up_to : (time : ℕ) → List Change → List Change
changes_up_to time changes = filter (λ (x : Change). not (nat_lt time (time_of x))) changes

-- the table of a message, or that there is none, is what the changes up to its time make of the collection: so each that it does not have is later
abbrev pub SaysTableAt : List Change → (time : ℕ) → Body → Type 0
SaysTableAt changes time (table_told namespace create at table) = known_table namespace (changes_up_to time changes) ≡ table
SaysTableAt changes time body = Unit {0}

abbrev pub SaysTableOfItsTime : List Change → Letter → Type 0
SaysTableOfItsTime changes m = SaysTableAt changes m.time m.body

-- WHILE THE CATALOGUE RUNS

-- the node at this place is not started again
abbrev pub DoesNotStart : (at : ℕ) → EventOrStop → Type 0
DoesNotStart at (whole_event e) = Unit {0}
DoesNotStart at (restart_event place) = place ≢ at
DoesNotStart at (stop_event place e) = place ≢ at

-- From a world that calls led to there is a run to this one in which the catalogue is not started again. Where it is, its time is the greatest that it stored,
-- and messages of before may be later than that.
pub record CatalogueRuns (u w : World) : Type 0 where
  pub others : ℕ
  pub routers : ℕ
  pub reached : Reached others routers u
  pub events : List EventOrStop
  pub run : RunWithStops u events w
  pub no_start : AllByRecursion (DoesNotStart 0) events

-- the messages that were sent since
abbrev pub sent_since : World → World → List Letter
sent_since u w = drop (length u.sent) w.sent
