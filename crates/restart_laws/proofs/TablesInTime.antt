-- No time in a table that a shard's journal stores is later than the shard, also after a start.
use Rattle.std.proofs.Common.{ℕ, ◌≤◌, List, [], ◌∷◌, ◌++◌, sym, subst, arith, append-nil}
use Rattle.std.specs.List.{AllByRecursion}
use Rattle.history_model.proofs.Lists.{all_weaken, all_append, all_at}
use Rattle.chunk_model.specs.Tables.{Table}
use Rattle.reply_model.specs.Exchanges.{Asked, Answered}
use Rattle.node_model.specs.Journal.{Kept, kept_table, kept_entry, kept_ceiling, kept_change, kept_none, kept_life, kept_block}
use Rattle.node_model.specs.Letters.{Input, Effect}
use Rattle.node_model.specs.ShardRows.{heard, ShardRow, shard_write, shard_repeat, shard_empty, shard_park, shard_waits, shard_stale, shard_read, shard_read_above, shard_rows, shard_excess, shard_overflow, shard_time, shard_learn, shard_known, shard_no_table, shard_skip, shard_moment, shard_opened, shard_client}
use Rattle.node_model.specs.States.{Shard, NodeState, catalogue_state, shard_state, router_state}
use Rattle.node_model.specs.Steps.{Step, catalogue_step, shard_step, router_step, begin_step, other_step}
use Rattle.node_model.specs.World.{Held}
use Rattle.node_laws.proofs.Views.{View}
use Rattle.node_laws.proofs.Facts.{IsKnownTable, StateFits}
use Rattle.node_laws.proofs.ServedStatements.{serves_rises}
use Rattle.node_replay.specs.Replays.{records_of, latest_in_table, latest_time}
use Rattle.node_replay.proofs.Restarts.{became}
use Rattle.restart_laws.proofs.StoredTables.{IsAmong, StoresOwn}
use Rattle.restart_laws.proofs.TableTimes.{known_latest}

-- no time in a table is later
abbrev pub IsBy : (time : ℕ) → Table → Type 0
IsBy time t = latest_in_table t ≤ time

-- nor in one that is stored
abbrev pub StoresBy : (time : ℕ) → Kept → Type 0
StoresBy time (kept_table t) = IsBy time t
StoresBy time (kept_entry e) = Unit {0}
StoresBy time (kept_ceiling n) = Unit {0}
StoresBy time (kept_change x) = Unit {0}
StoresBy time (kept_none n) = Unit {0}
StoresBy time (kept_life n) = Unit {0}
StoresBy time (kept_block n) = Unit {0}

-- so it is of a shard and its time
abbrev pub StateInTime : List Kept → NodeState → Type 0
StateInTime kept (shard_state s) = AllByRecursion (StoresBy s.time) kept
StateInTime kept (catalogue_state c) = Unit {0}
StateInTime kept (router_state r) = Unit {0}

abbrev pub StoresInTime : Held → Type 0
StoresInTime h = StateInTime h.kept h.state

-- and of the tables that it has
abbrev pub HasInTime : NodeState → Type 0
HasInTime (shard_state s) = AllByRecursion (IsBy s.time) s.tables
HasInTime (catalogue_state c) = Unit {0}
HasInTime (router_state r) = Unit {0}

pub known_by : (v : View) (time : ℕ) (t : Table) → IsKnownTable v time t → latest_in_table t ≤ time
known_by v time t k =
    let latest = known_latest v time t k in
    let before = k.begun.before in
    omega (arith, latest, before)

pub tables_in_time : (v : View) (asked : List Asked) (answered : List Answered) (at : ℕ) (kept : List Kept) (s : NodeState)
    → StateFits v asked answered at kept s → HasInTime s
tables_in_time v asked answered at kept (shard_state s) fits =
    all_weaken (IsKnownTable v s.time) (IsBy s.time) s.tables (λ t k. known_by v s.time t k) fits.tables
tables_in_time v asked answered at kept (catalogue_state c) fits = tt
tables_in_time v asked answered at kept (router_state r) fits = tt

-- A STEP

by_later : (early late : ℕ) → early ≤ late → (k : Kept) → StoresBy early k → StoresBy late k
by_later early late le (kept_table t) by = omega (arith, le, by)
by_later early late le (kept_entry e) by = tt
by_later early late le (kept_ceiling n) by = tt
by_later early late le (kept_change x) by = tt
by_later early late le (kept_none n) by = tt
by_later early late le (kept_life n) by = tt
by_later early late le (kept_block n) by = tt

by_own : (time : ℕ) (tables : List Table) → AllByRecursion (IsBy time) tables → (k : Kept) → IsAmong tables k → StoresBy time k
by_own time tables all (kept_table t) own = all_at (IsBy time) t tables all own
by_own time tables all (kept_entry e) own = tt
by_own time tables all (kept_ceiling n) own = tt
by_own time tables all (kept_change x) own = tt
by_own time tables all (kept_none n) own = tt
by_own time tables all (kept_life n) own = tt
by_own time tables all (kept_block n) own = tt

-- the time of a shard does not fall in a step
shard_rises : (s t : Shard) (i : Input) (f : Effect) → ShardRow s i f t → s.time ≤ t.time
shard_rises _ _ _ _ (shard_write s m id turn ordered namespace statements sent d dones made last says fit serves) =
    let later = (serves_rises s.me namespace ordered s.entries (heard s m) statements (d ∷ dones) made last serves).later in
    omega (arith, later)
shard_rises _ _ _ _ (shard_repeat s m id turn ordered namespace statements sent d dones says unfit again) = omega arith
shard_rises _ _ _ _ (shard_empty s m id turn ordered namespace sent says) = omega arith
shard_rises _ _ _ _ (shard_park s m a asks unseen old new) = omega arith
shard_rises _ _ _ _ (shard_waits s m a asks unseen old waits) = omega arith
shard_rises _ _ _ _ (shard_stale s m a met asks unseen old) = omega arith
shard_rises _ _ _ _ (shard_read s m id turn namespace at half sent says fit covered) = omega arith
shard_rises _ _ _ _ (shard_read_above s m id turn namespace at half sent says fit above) = omega arith
shard_rises _ _ _ _ (shard_rows s m id turn namespace at half documents rows says makes few) = omega arith
shard_rises _ _ _ _ (shard_excess s m id turn namespace at half documents rows length n says makes much told) = omega arith
shard_rises _ _ _ _ (shard_overflow s m id turn namespace at half documents says runs) = omega arith
shard_rises _ _ _ _ (shard_time s m id says) = omega arith
shard_rises _ _ _ _ (shard_learn s m namespace create at t says news) = omega arith
shard_rises _ _ _ _ (shard_known s m namespace create at table says none) = omega arith
shard_rises _ _ _ _ (shard_no_table s m namespace node lack says) = omega arith
shard_rises _ _ _ _ (shard_skip s m skips) = omega arith
shard_rises _ _ _ _ (shard_moment s moment) = omega arith
shard_rises _ _ _ _ (shard_opened s) = omega arith
shard_rises _ _ _ _ (shard_client s link number request) = omega arith

pub step_in_time : (kept : List Kept) (s t : NodeState) (i : Input) (f : Effect) → Step s i f t → StateInTime kept s → StoresOwn f.written t → HasInTime t
    → StateInTime (kept ++ f.written) t
step_in_time kept _ _ _ _ (catalogue_step c d i f at row) before own has = tt
step_in_time kept _ _ _ _ (shard_step s t i f at row) before own has =
    all_append (StoresBy t.time) kept f.written
    (all_weaken (StoresBy s.time) (StoresBy t.time) kept (λ k by. by_later s.time t.time (shard_rises s t i f row) k by) before)
    (all_weaken (IsAmong t.tables) (StoresBy t.time) f.written (λ k is. by_own t.time t.tables has k is) own)
step_in_time kept _ _ _ _ (router_step r q i f at row) before own has = tt
step_in_time kept _ _ _ _ (begin_step r q i f closed comes row) before own has = tt
step_in_time kept _ _ _ _ (other_step s m other) before own has = subst (λ k. StateInTime k s) (sym (append-nil kept)) before

-- A START

-- no time in records is above the greatest of them
within : (bound : ℕ) (kept : List Kept) → latest_time (records_of kept) ≤ bound → AllByRecursion (StoresBy bound) kept
within bound [] le = tt
within bound (k ∷ kept) le = (by_kind k le, within bound kept (omega (arith, le)))
  where
    by_kind : (k : Kept) → latest_time (records_of (k ∷ kept)) ≤ bound → StoresBy bound k
    by_kind (kept_table t) le = omega (arith, le)
    by_kind (kept_entry e) le = tt
    by_kind (kept_ceiling n) le = tt
    by_kind (kept_change x) le = tt
    by_kind (kept_none n) le = tt
    by_kind (kept_life n) le = tt
    by_kind (kept_block n) le = tt

pub start_in_time : (h : Held) → StoresInTime (record { state = became h; kept = h.kept; steps = h.steps })
start_in_time h = by_state h.state h.kept
  where
    by_state : (s : NodeState) (kept : List Kept)
        → StoresInTime (record { state = became (record { state = s; kept = kept; steps = h.steps }); kept = kept; steps = h.steps })
    by_state (shard_state s) kept = within (latest_time (records_of kept)) kept (omega arith)
    by_state (catalogue_state c) kept = tt
    by_state (router_state r) kept = tt
