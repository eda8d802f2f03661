-- Each table that a shard's journal stores is one that the catalogue had, and no time in it is above the creation of its collection.
use Rattle.std.proofs.Common.{◌≡◌, ℕ, ◌≤◌, List, [], ◌∷◌, ◌++◌, sym, ap, subst, ◌∙◌, arith, append_assoc, Bool}
use Rattle.std.specs.Prelude.{true, false, Some, map, if◌then◌else◌}
use Rattle.std.specs.List.{AllByRecursion}
use Rattle.std.specs.Str.{bytes_eq}
use Rattle.history_model.specs.History.{Entry, IsIn}
use Rattle.history_model.proofs.Lists.{all_weaken, all_append, all_at, in_first, in_later, in_back}
use Rattle.chunk_model.specs.Catalogue.{Creation}
use Rattle.chunk_model.specs.Tables.{Table, table_of, with_table, is_longer}
use Rattle.chunk_model.specs.Changes.{Change, create_change, known_table}
use Rattle.reply_model.specs.Exchanges.{Asked, Answered}
use Rattle.node_model.specs.Journal.{Kept, kept_table, kept_entry, kept_ceiling, kept_change, kept_none, kept_life, kept_block}
use Rattle.node_model.specs.Letters.{Input, Effect}
use Rattle.node_model.specs.ShardRows.{is_news, ShardRow, shard_write, shard_repeat, shard_empty, shard_park, shard_waits, shard_stale, shard_read, shard_read_above, shard_rows, shard_excess, shard_overflow, shard_time, shard_learn, shard_known, shard_no_table, shard_skip, shard_moment, shard_opened, shard_client}
use Rattle.node_model.specs.States.{Shard, NodeState, catalogue_state, shard_state, router_state}
use Rattle.node_model.specs.Steps.{Step, catalogue_step, shard_step, router_step, begin_step, other_step}
use Rattle.node_laws.proofs.Views.{View, changes_in}
use Rattle.node_laws.proofs.Facts.{IsKnownTable, StateFits, SameKind}
use Rattle.node_replay.specs.Durable.{durable_of}
use Rattle.node_replay.specs.Replays.{latest_in_table}
use Rattle.node_replay.specs.Openings.{opened}
use Rattle.restart_laws.proofs.TableTimes.{known_latest}

-- a table that the catalogue had, of a collection that was created, with no time above that
pub record IsPastTable (changes : List Change) (t : Table) : Type 0 where
  pub newer : List Change
  pub older : List Change
  pub all : changes ≡ newer ++ older
  pub known : known_table t.namespace older ≡ Some t
  pub creation : Creation
  pub begun : IsIn (create_change creation) changes
  pub latest : latest_in_table t ≤ creation.at

abbrev pub StoresPastTable : List Change → Kept → Type 0
StoresPastTable changes (kept_table t) = IsPastTable changes t
StoresPastTable changes (kept_entry e) = Unit {0}
StoresPastTable changes (kept_ceiling n) = Unit {0}
StoresPastTable changes (kept_change x) = Unit {0}
StoresPastTable changes (kept_none n) = Unit {0}
StoresPastTable changes (kept_life n) = Unit {0}
StoresPastTable changes (kept_block n) = Unit {0}

-- so it is of the journal of a shard
abbrev pub StorePastTables : List Change → List Kept → NodeState → Type 0
StorePastTables changes kept (shard_state s) = AllByRecursion (StoresPastTable changes) kept
StorePastTables changes kept (catalogue_state c) = Unit {0}
StorePastTables changes kept (router_state r) = Unit {0}

-- OF A STATE

abbrev pub ArePastTables : List Change → NodeState → Type 0
ArePastTables changes (shard_state s) = AllByRecursion (IsPastTable changes) s.tables
ArePastTables changes (catalogue_state c) = Unit {0}
ArePastTables changes (router_state r) = Unit {0}

known_past : (v : View) (time : ℕ) (t : Table) → IsKnownTable v time t → IsPastTable (changes_in v) t
known_past v time t k =
    let latest = known_latest v time t k in
    record {
      newer = k.more;
      older = k.older;
      all = k.all;
      known = k.known;
      creation = k.begun.creation;
      begun = subst (λ l. IsIn (create_change k.begun.creation) l) (sym k.all) (in_back (create_change k.begun.creation) k.more k.older k.begun.begun);
      latest = omega (arith, latest);
    }

-- the tables of a shard that fits are such
pub past_of : (v : View) (asked : List Asked) (answered : List Answered) (at : ℕ) (kept : List Kept) (s : NodeState) → StateFits v asked answered at kept s
    → ArePastTables (changes_in v) s
past_of v asked answered at kept (shard_state s) fits =
    all_weaken (IsKnownTable v s.time) (IsPastTable (changes_in v)) s.tables (λ t k. known_past v s.time t k) fits.tables
past_of v asked answered at kept (catalogue_state c) fits = tt
past_of v asked answered at kept (router_state r) fits = tt

-- WHAT A STEP STORES

-- a table that is stored is one of these
abbrev pub IsAmong : List Table → Kept → Type 0
IsAmong tables (kept_table t) = IsIn t tables
IsAmong tables (kept_entry e) = Unit {0}
IsAmong tables (kept_ceiling n) = Unit {0}
IsAmong tables (kept_change x) = Unit {0}
IsAmong tables (kept_none n) = Unit {0}
IsAmong tables (kept_life n) = Unit {0}
IsAmong tables (kept_block n) = Unit {0}

-- a shard stores tables that it then has
abbrev pub StoresOwn : List Kept → NodeState → Type 0
StoresOwn written (shard_state s) = AllByRecursion (IsAmong s.tables) written
StoresOwn written (catalogue_state c) = Unit {0}
StoresOwn written (router_state r) = Unit {0}

-- a table that is new is there after that
news_there : (t : Table) (tables : List Table) → is_news t (table_of t.namespace tables) ≡ true → IsIn t (with_table t tables)
news_there t [] news = in_first t []
news_there t (u ∷ tables) news = by_name (bytes_eq u.namespace t.namespace) news (λ n. news_there t tables n)
  where
    by_name : (a : Bool) → is_news t (if a then Some u else table_of t.namespace tables) ≡ true
        → (is_news t (table_of t.namespace tables) ≡ true → IsIn t (with_table t tables))
        → IsIn t (if a then ((if is_longer t u then t else u) ∷ tables) else u ∷ with_table t tables)
    by_name true longer more = by_longer (is_longer t u) longer
      where
        by_longer : (b : Bool) → b ≡ true → IsIn t ((if b then t else u) ∷ tables)
        by_longer true is = in_first t tables
        by_longer false is = absurd (cc)
    by_name false new more = in_later t u (with_table t tables) (more new)

no_tables : (tables : List Table) (made : List Entry) → AllByRecursion (IsAmong tables) (map kept_entry made)
no_tables tables [] = tt
no_tables tables (e ∷ made) = (tt, no_tables tables made)

shard_owns : (s t : Shard) (i : Input) (f : Effect) → ShardRow s i f t → AllByRecursion (IsAmong t.tables) f.written
shard_owns _ _ _ _ (shard_write s m id turn ordered namespace statements sent d dones made last says fit serves) = no_tables s.tables made
shard_owns _ _ _ _ (shard_repeat s m id turn ordered namespace statements sent d dones says unfit again) = tt
shard_owns _ _ _ _ (shard_empty s m id turn ordered namespace sent says) = tt
shard_owns _ _ _ _ (shard_park s m a asks unseen old new) = tt
shard_owns _ _ _ _ (shard_waits s m a asks unseen old waits) = tt
shard_owns _ _ _ _ (shard_stale s m a met asks unseen old) = tt
shard_owns _ _ _ _ (shard_read s m id turn namespace at half sent says fit covered) = tt
shard_owns _ _ _ _ (shard_read_above s m id turn namespace at half sent says fit above) = (tt, tt)
shard_owns _ _ _ _ (shard_rows s m id turn namespace at half documents rows says makes few) = tt
shard_owns _ _ _ _ (shard_excess s m id turn namespace at half documents rows length n says makes much told) = tt
shard_owns _ _ _ _ (shard_overflow s m id turn namespace at half documents says runs) = tt
shard_owns _ _ _ _ (shard_time s m id says) = tt
shard_owns _ _ _ _ (shard_learn s m namespace create at t says news) = (news_there t s.tables news, tt)
shard_owns _ _ _ _ (shard_known s m namespace create at table says none) = tt
shard_owns _ _ _ _ (shard_no_table s m namespace node lack says) = tt
shard_owns _ _ _ _ (shard_skip s m skips) = tt
shard_owns _ _ _ _ (shard_moment s moment) = tt
shard_owns _ _ _ _ (shard_opened s) = tt
shard_owns _ _ _ _ (shard_client s link number request) = tt

pub none_owned : (s : NodeState) → StoresOwn [] s
none_owned (catalogue_state c) = tt
none_owned (shard_state s) = tt
none_owned (router_state r) = tt

pub step_owns : (s t : NodeState) (i : Input) (f : Effect) → Step s i f t → StoresOwn f.written t
step_owns _ _ _ _ (catalogue_step c d i f own row) = tt
step_owns _ _ _ _ (shard_step s t i f own row) = shard_owns s t i f row
step_owns _ _ _ _ (router_step r q i f own row) = tt
step_owns _ _ _ _ (begin_step r q i f closed before row) = tt
step_owns _ _ _ _ (other_step s m other) = none_owned s

-- also where it is then started again
pub opened_owns : (time stored : ℕ) (written : List Kept) (s : NodeState) → StoresOwn written s → StoresOwn written (opened time (durable_of stored s))
opened_owns time stored written (catalogue_state c) own = tt
opened_owns time stored written (shard_state s) own = own
opened_owns time stored written (router_state r) own = tt

-- AFTER A STEP

past_later : (changes later more : List Change) → later ≡ more ++ changes → (k : Kept) → StoresPastTable changes k → StoresPastTable later k
past_later changes later more same (kept_table t) is = record {
  newer = more ++ is.newer;
  older = is.older;
  all = same ∙ ap (λ l. more ++ l) is.all ∙ sym (append_assoc more is.newer is.older);
  known = is.known;
  creation = is.creation;
  begun = subst (λ l. IsIn (create_change is.creation) l) (sym same) (in_back (create_change is.creation) more changes is.begun);
  latest = is.latest;
}
past_later changes later more same (kept_entry e) is = tt
past_later changes later more same (kept_ceiling n) is = tt
past_later changes later more same (kept_change x) is = tt
past_later changes later more same (kept_none n) is = tt
past_later changes later more same (kept_life n) is = tt
past_later changes later more same (kept_block n) is = tt

own_past : (changes : List Change) (tables : List Table) → AllByRecursion (IsPastTable changes) tables → (k : Kept) → IsAmong tables k
    → StoresPastTable changes k
own_past changes tables all (kept_table t) own = all_at (IsPastTable changes) t tables all own
own_past changes tables all (kept_entry e) own = tt
own_past changes tables all (kept_ceiling n) own = tt
own_past changes tables all (kept_change x) own = tt
own_past changes tables all (kept_none n) own = tt
own_past changes tables all (kept_life n) own = tt
own_past changes tables all (kept_block n) own = tt

-- where there are more changes
pub tables_later : (changes later more : List Change) (kept : List Kept) (s : NodeState) → later ≡ more ++ changes → StorePastTables changes kept s
    → StorePastTables later kept s
tables_later changes later more kept (shard_state s) same all =
    all_weaken (StoresPastTable changes) (StoresPastTable later) kept (λ k is. past_later changes later more same k is) all
tables_later changes later more kept (catalogue_state c) same all = tt
tables_later changes later more kept (router_state r) same all = tt

-- and where a node stores more
pub tables_after : (changes later more : List Change) (kept written : List Kept) (old new : NodeState) → SameKind old new → later ≡ more ++ changes
    → StorePastTables changes kept old → StoresOwn written new → ArePastTables later new → StorePastTables later (kept ++ written) new
tables_after changes later more kept written (shard_state s) (shard_state t) kind same all own past =
    all_append (StoresPastTable later) kept written (tables_later changes later more kept (shard_state s) same all)
    (all_weaken (IsAmong t.tables) (StoresPastTable later) written (λ k is. own_past later t.tables past k is) own)
tables_after changes later more kept written (catalogue_state s) (shard_state t) kind same all own past = absurd kind
tables_after changes later more kept written (router_state s) (shard_state t) kind same all own past = absurd kind
tables_after changes later more kept written old (catalogue_state c) kind same all own past = tt
tables_after changes later more kept written old (router_state r) kind same all own past = tt
