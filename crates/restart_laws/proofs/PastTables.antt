-- Each table that a node has, a journal stores or a message says is one that the catalogue had, with no time later than the node or the message.
use Rattle.std.proofs.Common.{ℕ, List, [], ◌∷◌, ◌+◌, subst}
use Rattle.std.specs.Prelude.{Some, None}
use Rattle.std.specs.List.{AllByRecursion}
use Rattle.history_model.proofs.Lists.{all_weaken, all_both}
use Rattle.chunk_model.specs.Changes.{Change, create_change, split_change, commit_change}
use Rattle.chunk_model.specs.Tables.{Table}
use Rattle.reply_model.specs.Accounts.{Given}
use Rattle.reply_model.specs.Exchanges.{Asked, Answered}
use Rattle.node_model.specs.Journal.{Kept, kept_table, kept_entry, kept_ceiling, kept_change, kept_none, kept_life, kept_block, record_kept, greatest_kept}
use Rattle.node_model.specs.Letters.{Body, table_ask, table_told, split_ask, split_done, write_ask, write_done, read_ask, half_ask, read_rows, refused, time_ask, time_told, Letter}
use Rattle.node_model.specs.States.{NodeState, catalogue_state, shard_state, router_state, time_of_node}
use Rattle.node_model.specs.World.{Held, World, start}
use Rattle.node_laws.proofs.Views.{View, view_of, changes_in}
use Rattle.node_laws.proofs.Facts.{IsKnownTable, BodyFits, HeldFits, SentFits, StateFits}
use Rattle.node_laws.proofs.Lists.{all_behind}
use Rattle.node_laws.proofs.Places.{EachAt}
use Rattle.node_replay.specs.Durable.{router_part, durable_of, empty_catalogue, empty_router}
use Rattle.node_replay.specs.Holds.{Replays}
use Rattle.node_replay.specs.Replays.{records_of}
use Rattle.node_replay.proofs.Runs.{NodeReplays}
use Rattle.restart_laws.specs.Calls.{Reached, with_mail}
use Rattle.restart_laws.specs.Tables.{WasTable, tables_in, HasTablesOf, StoresTable, StoresTablesOf, SaysTable, SaysTableOf, changes_stored}
use Rattle.restart_laws.proofs.Mail.{calls_are_one_run}
use Rattle.restart_laws.proofs.Replays.{IsRouterRecord, router_along, IsNoTable, catalogue_stores_no_table}
use Rattle.restart_laws.proofs.Runs.{HasTables, StaysWhole, start_whole, runs_with_stops_stay_true}
use Rattle.restart_laws.proofs.StoredTables.{StoresPastTable, StorePastTables}
use Rattle.restart_laws.proofs.TablesInTime.{StoresBy, StateInTime, StoresInTime, known_by}

known_was : (v : View) (time : ℕ) (t : Table) → IsKnownTable v time t → WasTable (changes_in v) t.namespace time t
known_was v time t k = record { newer = k.more; older = k.older; all = k.all; known = k.known; latest = known_by v time t k }

-- WHAT NODES HAVE

state_has : (v : View) (asked : List Asked) (answered : List Answered) (at : ℕ) (kept : List Kept) (s : NodeState) → StateFits v asked answered at kept s
    → AllByRecursion (λ (t : Table). WasTable (changes_in v) t.namespace (time_of_node s) t) (tables_in s)
state_has v asked answered at kept (catalogue_state c) fits = tt
state_has v asked answered at kept (shard_state s) fits =
    all_weaken (IsKnownTable v s.time) (λ (t : Table). WasTable (changes_in v) t.namespace s.time t) s.tables (known_was v s.time) fits.tables
state_has v asked answered at kept (router_state r) fits =
    all_weaken (IsKnownTable v r.time) (λ (t : Table). WasTable (changes_in v) t.namespace r.time t) r.tables (known_was v r.time) fits.tables

nodes_have : (v : View) (asked : List Asked) (answered : List Answered) (given : List Given) (i : ℕ) (nodes : List Held)
    → EachAt (HeldFits v asked answered given) i nodes → AllByRecursion (HasTablesOf (changes_in v)) nodes
nodes_have v asked answered given i [] all = tt
nodes_have v asked answered given i (h ∷ nodes) all =
    (state_has v asked answered i h.kept h.state all.0.state, nodes_have v asked answered given (i + 1) nodes all.1)

-- WHAT JOURNALS STORE

past_in_time : (changes : List Change) (time : ℕ) (k : Kept) → StoresPastTable changes k → StoresBy time k → StoresTable changes time k
past_in_time changes time (kept_table t) past by = record { newer = past.newer; older = past.older; all = past.all; known = past.known; latest = by }
past_in_time changes time (kept_entry e) past by = tt
past_in_time changes time (kept_ceiling n) past by = tt
past_in_time changes time (kept_change x) past by = tt
past_in_time changes time (kept_none n) past by = tt
past_in_time changes time (kept_life n) past by = tt
past_in_time changes time (kept_block n) past by = tt

-- no table is stored
none_stored : (changes : List Change) (time : ℕ) (kept : List Kept) → AllByRecursion IsNoTable (records_of kept)
    → AllByRecursion (StoresTable changes time) kept
none_stored changes time [] none = tt
none_stored changes time (k ∷ kept) none = (by_kind k none.0, none_stored changes time kept none.1)
  where
    by_kind : (k : Kept) → IsNoTable (record_kept k) → StoresTable changes time k
    by_kind (kept_table t) none = absurd none
    by_kind (kept_entry e) none = tt
    by_kind (kept_ceiling n) none = tt
    by_kind (kept_change x) none = tt
    by_kind (kept_none n) none = tt
    by_kind (kept_life n) none = tt
    by_kind (kept_block n) none = tt

-- a router's record is none of a table
routers_none : (kept : List Kept) → AllByRecursion IsRouterRecord (records_of kept) → AllByRecursion IsNoTable (records_of kept)
routers_none [] all = tt
routers_none (k ∷ kept) all = (by_kind k all.0, routers_none kept all.1)
  where
    by_kind : (k : Kept) → IsRouterRecord (record_kept k) → IsNoTable (record_kept k)
    by_kind (kept_table t) is = is
    by_kind (kept_entry e) is = tt
    by_kind (kept_ceiling n) is = tt
    by_kind (kept_change (create_change c)) is = tt
    by_kind (kept_change (split_change s)) is = tt
    by_kind (kept_change (commit_change c)) is = tt
    by_kind (kept_none n) is = tt
    by_kind (kept_life n) is = tt
    by_kind (kept_block n) is = tt

node_stores : (changes : List Change) (kept : List Kept) (s : NodeState) → StorePastTables changes kept s → StateInTime kept s
    → Replays (record { state = s; kept = kept; steps = 0 }) → AllByRecursion (StoresTable changes (time_of_node s)) kept
node_stores changes kept (shard_state s) past in_time replays =
    all_both (StoresPastTable changes) (StoresBy s.time) (StoresTable changes s.time) kept (past_in_time changes s.time) past in_time
node_stores changes kept (catalogue_state c) past in_time replays =
    none_stored changes c.time kept
    (catalogue_stores_no_table (records_of kept) (empty_catalogue c.me) (durable_of (greatest_kept kept) (catalogue_state c)) replays)
node_stores changes kept (router_state r) past in_time replays =
    none_stored changes r.time kept
    (routers_none kept (router_along (records_of kept) (empty_router r.me r.shards) (router_part r) replays).1)

nodes_store : (w : World) → StaysWhole w → AllByRecursion (StoresTablesOf (changes_stored w)) w.nodes
nodes_store w whole =
    all_both (HasTables w) (λ (h : Held). StoresInTime h × NodeReplays h) (StoresTablesOf (changes_stored w)) w.nodes
    (λ h past more. node_stores (changes_stored w) h.kept h.state past more.0 more.1.0) whole.tables
    (all_both StoresInTime NodeReplays (λ (h : Held). StoresInTime h × NodeReplays h) w.nodes (λ h in_time replays. (in_time, replays)) whole.in_time
    whole.replays.nodes)

-- WHAT MESSAGES SAY

body_says : (v : View) (asked : List Asked) (sender receiver time : ℕ) (b : Body) → BodyFits v asked sender receiver time b → SaysTable (changes_in v) time b
body_says v asked sender receiver time (table_told namespace create at (Some t)) fits =
    subst (λ n. WasTable (changes_in v) n time t) fits.1 (known_was v time t fits.0)
body_says v asked sender receiver time (table_told namespace create at None) fits = tt
body_says v asked sender receiver time (table_ask namespace create at) fits = tt
body_says v asked sender receiver time (split_ask id namespace middle) fits = tt
body_says v asked sender receiver time (split_done id found) fits = tt
body_says v asked sender receiver time (write_ask id turn ordered namespace statements sent) fits = tt
body_says v asked sender receiver time (write_done id dones) fits = tt
body_says v asked sender receiver time (read_ask id turn namespace at half sent) fits = tt
body_says v asked sender receiver time (half_ask id turn namespace at half documents) fits = tt
body_says v asked sender receiver time (read_rows id turn rows) fits = tt
body_says v asked sender receiver time (refused what cause) fits = tt
body_says v asked sender receiver time (time_ask id) fits = tt
body_says v asked sender receiver time (time_told id) fits = tt

messages_say : (w : World) → StaysWhole w → AllByRecursion (SaysTableOf (changes_stored w)) w.sent
messages_say w whole =
    let v : View = view_of w.nodes whole.facts.0.book in
    all_weaken (SentFits v w.changed w.asked w.answered w.given) (SaysTableOf (changes_stored w)) w.sent
    (λ (m : Letter) fits. body_says v w.asked m.sender m.receiver m.time m.body fits.0) whole.facts.0.good.letters

-- OVER CALLS

pub reached_tables_are_the_catalogues : (others routers : ℕ) (w : World) → Reached others routers w
    → AllByRecursion (HasTablesOf (changes_stored w)) w.nodes × AllByRecursion (StoresTablesOf (changes_stored w)) w.nodes
    × AllByRecursion (SaysTableOf (changes_stored w)) w.sent
reached_tables_are_the_catalogues others routers w reached =
    let o = calls_are_one_run (start others routers) w reached in
    let whole : StaysWhole (with_mail o.mail w) =
    runs_with_stops_stay_true (start others routers) (with_mail o.mail w) o.events (start_whole others routers) o.run in (
      nodes_have (view_of w.nodes whole.facts.0.book) w.asked w.answered w.given 0 w.nodes whole.facts.0.good.nodes,
      nodes_store (with_mail o.mail w) whole,
      all_behind (SaysTableOf (changes_stored w)) o.mail w.sent (messages_say (with_mail o.mail w) whole),
    )
