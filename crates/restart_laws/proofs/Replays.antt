-- What a journal that replays says of its records: by induction over them.
use Rattle.std.proofs.Common.{◌≡◌, ℕ, ◌+◌, ◌≤◌, List, [], ◌∷◌, refl, subst, arith}
use Rattle.std.specs.Prelude.{max, Bool, true, false, ◌&&◌, ◌==◌, nat_lt, Option, Some, None, if◌then◌else◌}
use Rattle.std.specs.List.{AllByRecursion}
use Rattle.std.specs.Option.{option_map}
use Rattle.std.proofs.lemmas.Bool.{eqb-true}
use Rattle.record_model.specs.Records.{Record, table_record, entry_record, ceiling_record, create_record, split_record, catalogue_ceiling_record, life_record, block_record}
use Rattle.chunk_model.specs.Changes.{create_change, split_change, commit_change}
use Rattle.chunk_model.specs.Tables.{table_of}
use Rattle.node_model.specs.Journal.{Kept, kept_table, kept_entry, kept_ceiling, kept_change, kept_none, kept_life, kept_block, record_kept, time_kept, greatest_kept}
use Rattle.node_model.specs.ShardRows.{is_news}
use Rattle.node_laws.proofs.KnownTables.{all_with}
use Rattle.node_replay.specs.Durable.{DurableCatalogue, DurableShard, DurableRouter, DurableState, durable_catalogue, durable_shard, durable_router, empty_shard}
use Rattle.node_replay.specs.Follow.{may_create, with_change, may_split, entry_from, may_enter, has_table, with_new_table, with_entry}
use Rattle.node_replay.specs.Replays.{follow, replayed, records_of, time_in, latest_in_table, latest_time}
use Rattle.node_replay.proofs.Restarts.{some_is, chosen}

-- what stays true of the durable part along records of some kind, and what is so of each record that may follow
pub along : (P : DurableState → Type 0) (Q R : Record → Type 0)
    → ((d e : DurableState) (r : Record) → P d → Q r → follow d r ≡ Some e → P e × R r)
    → (records : List Record) (d e : DurableState) → P d → AllByRecursion Q records → replayed (Some d) records ≡ Some e
    → P e × AllByRecursion R records
along P Q R step [] d e p all same = (subst P (some_is d e same) p, tt)
along P Q R step (r ∷ records) d e p all same =
    by_next (follow d r) refl (λ x q more. along P Q R step records x e q all.1 more) same
  where
    by_next : (o : Option DurableState) → follow d r ≡ o
        → ((x : DurableState) → P x → replayed (Some x) records ≡ Some e → P e × AllByRecursion R records)
        → replayed o records ≡ Some e → P e × (R r × AllByRecursion R records)
    by_next None is later more = absurd (cc)
    by_next (Some x) is later more =
        let s = step d x r p all.0 is in
        let rest = later x s.0 more in
        (rest.0, (s.1, rest.1))

any_record : (records : List Record) → AllByRecursion (λ r. Unit {0}) records
any_record [] = tt
any_record (r ∷ records) = (tt, any_record records)

-- ROUTERS

-- a later part of a router: no life and no block before its own
abbrev pub IsAfter : DurableRouter → DurableState → Type 0
IsAfter d (durable_router e) = (d.life ≤ e.life) × (d.blocks ≤ e.blocks)
IsAfter d (durable_catalogue e) = ⊥
IsAfter d (durable_shard e) = ⊥

-- a record of a router
abbrev pub IsRouterRecord : Record → Type 0
IsRouterRecord (life_record n) = Unit {0}
IsRouterRecord (block_record n) = Unit {0}
IsRouterRecord r = ⊥

router_step : (first : DurableRouter) (d e : DurableState) (r : Record) → IsAfter first d → Unit {0} → follow d r ≡ Some e
    → IsAfter first e × IsRouterRecord r
router_step first (durable_catalogue d) e r after any same = absurd after
router_step first (durable_shard d) e r after any same = absurd after
router_step first (durable_router d) e (life_record n) after any same = by_test (n == d.life) refl same
  where
    next : DurableRouter
    next = record { me = d.me; shards = d.shards; life = n + 1; blocks = d.blocks }

    by_test : (t : Bool) → (n == d.life) ≡ t → option_map durable_router (if t then Some next else None) ≡ Some e
        → IsAfter first e × IsRouterRecord (life_record n)
    by_test false h none = absurd (cc)
    by_test true h some =
        let own : n ≡ d.life = eqb-true n d.life h in
        let above : first.life ≤ d.life = after.0 in
        (subst (λ x. IsAfter first x) (some_is (durable_router next) e some) (omega (arith, own, above), after.1), tt)
router_step first (durable_router d) e (block_record n) after any same = by_test (nat_lt 1 d.life) (n == d.blocks) refl same
  where
    next : DurableRouter
    next = record { me = d.me; shards = d.shards; life = d.life; blocks = n + 1 }

    by_test : (a b : Bool) → (n == d.blocks) ≡ b → option_map durable_router (if a && b then Some next else None) ≡ Some e
        → IsAfter first e × IsRouterRecord (block_record n)
    by_test false b h none = absurd (cc)
    by_test true false h none = absurd (cc)
    by_test true true h some =
        let own : n ≡ d.blocks = eqb-true n d.blocks h in
        let above : first.blocks ≤ d.blocks = after.1 in
        (subst (λ x. IsAfter first x) (some_is (durable_router next) e some) (after.0, omega (arith, own, above)), tt)
router_step first (durable_router d) e r after any same = absurd (cc)

-- along records a router's lives and blocks go on, and all are records of a router
pub router_along : (records : List Record) (d e : DurableRouter) → replayed (Some (durable_router d)) records ≡ Some (durable_router e)
    → IsAfter d (durable_router e) × AllByRecursion IsRouterRecord records
router_along records d e same = along (IsAfter d) (λ r. Unit {0}) IsRouterRecord (router_step d) records (durable_router d) (durable_router e)
    (omega arith, omega arith) (any_record records) same

-- so a router stores no time
timeless : (k : Kept) → IsRouterRecord (record_kept k) → time_kept k ≡ 0
timeless (kept_life n) is = refl
timeless (kept_block n) is = refl
timeless (kept_table t) is = absurd is
timeless (kept_entry e) is = absurd is
timeless (kept_ceiling n) is = absurd is
timeless (kept_none n) is = absurd is
timeless (kept_change (create_change c)) is = absurd is
timeless (kept_change (split_change s)) is = absurd is
timeless (kept_change (commit_change c)) is = absurd is

none_stored : (kept : List Kept) → AllByRecursion IsRouterRecord (records_of kept) → greatest_kept kept ≡ 0
none_stored [] all = refl
none_stored (k ∷ kept) all =
    let first = timeless k all.0 in
    let more = none_stored kept all.1 in
    omega (arith, first, more)

pub router_stores_none : (kept : List Kept) (d e : DurableRouter) → replayed (Some (durable_router d)) (records_of kept) ≡ Some (durable_router e)
    → greatest_kept kept ≡ 0
router_stores_none kept d e same = none_stored kept (router_along (records_of kept) d e same).1

-- THE CATALOGUE

abbrev pub IsCataloguePart : DurableState → Type 0
IsCataloguePart (durable_catalogue d) = Unit {0}
IsCataloguePart (durable_shard d) = ⊥
IsCataloguePart (durable_router d) = ⊥

abbrev pub IsNoTable : Record → Type 0
IsNoTable (table_record t) = ⊥
IsNoTable r = Unit {0}

catalogue_step : (d e : DurableState) (r : Record) → IsCataloguePart d → Unit {0} → follow d r ≡ Some e → IsCataloguePart e × IsNoTable r
catalogue_step (durable_shard d) e r part any same = absurd part
catalogue_step (durable_router d) e r part any same = absurd part
catalogue_step (durable_catalogue d) e (create_record c) part any same =
    (subst IsCataloguePart (chosen durable_catalogue (may_create d c) (with_change d c.at (create_change c)) e same) tt, tt)
catalogue_step (durable_catalogue d) e (split_record s) part any same =
    (subst IsCataloguePart (chosen durable_catalogue (may_split d s) (with_change d s.at (split_change s)) e same) tt, tt)
catalogue_step (durable_catalogue d) e (catalogue_ceiling_record time) part any same =
    (subst IsCataloguePart (some_is (durable_catalogue (record { me = d.me; top = max d.top time; changes = d.changes })) e same) tt, tt)
catalogue_step (durable_catalogue d) e r part any same = absurd (cc)

-- the catalogue stores no table
pub catalogue_stores_no_table : (records : List Record) (d : DurableCatalogue) (e : DurableState) → replayed (Some (durable_catalogue d)) records ≡ Some e
    → AllByRecursion IsNoTable records
catalogue_stores_no_table records d e same =
    (along IsCataloguePart (λ r. Unit {0}) IsNoTable catalogue_step records (durable_catalogue d) e tt (any_record records) same).1

-- A SHARD

-- no table has a greater time
abbrev pub HasTablesBy : ℕ → DurableState → Type 0
HasTablesBy bound (durable_shard d) = AllByRecursion (λ t. latest_in_table t ≤ bound) d.tables
HasTablesBy bound (durable_catalogue d) = ⊥
HasTablesBy bound (durable_router d) = ⊥

shard_step : (bound : ℕ) (d e : DurableState) (r : Record) → HasTablesBy bound d → time_in r ≤ bound → follow d r ≡ Some e → HasTablesBy bound e × Unit {0}
shard_step bound (durable_catalogue d) e r by within same = absurd by
shard_step bound (durable_router d) e r by within same = absurd by
shard_step bound (durable_shard d) e (table_record t) by within same = (
  subst (λ x. HasTablesBy bound x) (chosen durable_shard (is_news t (table_of t.namespace d.tables)) (with_new_table d t) e same)
      (all_with (λ u. latest_in_table u ≤ bound) t d.tables within by),
  tt,
)
shard_step bound (durable_shard d) e (entry_record w) by within same =
    (subst (λ x. HasTablesBy bound x) (chosen durable_shard (may_enter d w) (with_entry d (entry_from d w)) e same) by, tt)
shard_step bound (durable_shard d) e (ceiling_record time) by within same = (
  subst (λ x. HasTablesBy bound x)
      (chosen durable_shard (nat_lt d.top time && has_table d.tables) (record { me = d.me; top = time; tables = d.tables; entries = d.entries }) e same) by,
  tt,
)
shard_step bound (durable_shard d) e r by within same = absurd (cc)

all_within : (bound : ℕ) (records : List Record) → latest_time records ≤ bound → AllByRecursion (λ r. time_in r ≤ bound) records
all_within bound [] le = tt
all_within bound (r ∷ records) le = (omega (arith, le), all_within bound records (omega (arith, le)))

-- no table of a shard has a time above the greatest in its records
pub shard_tables_within : (records : List Record) (me : ℕ) (e : DurableShard)
    → replayed (Some (durable_shard (empty_shard me))) records ≡ Some (durable_shard e)
    → AllByRecursion (λ t. latest_in_table t ≤ latest_time records) e.tables
shard_tables_within records me e same =
    (along (HasTablesBy (latest_time records)) (λ r. time_in r ≤ latest_time records) (λ r. Unit {0}) (shard_step (latest_time records)) records
    (durable_shard (empty_shard me)) (durable_shard e) tt (all_within (latest_time records) records (omega arith)) same).0
