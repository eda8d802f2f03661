-- What a node is started as on its journal fits, where the node that stored it did.
use Rattle.std.proofs.Common.{◌≡◌, inl, inr, ℕ, ◌<◌, ◌≤◌, List, [], ◌∷◌, ◌++◌, refl, sym, subst, ◌∙◌, arith, Bool}
use Rattle.std.specs.Prelude.{Some, true, false, filter, max, ◌*◌, ◌==◌, ◌&&◌, if◌then◌else◌}
use Rattle.std.specs.List.{AllByRecursion}
use Rattle.std.proofs.lemmas.Bool.{eqb-true}
use Rattle.history_model.proofs.Lists.{all_weaken, all_both}
use Rattle.chunk_model.specs.Changes.{create_change, split_change, commit_change, time_of}
use Rattle.chunk_model.specs.Tables.{Table}
use Rattle.history_model.specs.History.{Entry}
use Rattle.reply_model.specs.Cursors.{Cursor}
use Rattle.reply_model.specs.Exchanges.{Asked, Answered}
use Rattle.reply_model.specs.Accounts.{Given}
use Rattle.node_model.specs.Journal.{Kept, kept_table, kept_entry, kept_ceiling, kept_change, kept_none, kept_life, kept_block, record_kept, entries_kept, changes_kept, time_kept, greatest_kept}
use Rattle.node_model.specs.RouterRows.{block_size}
use Rattle.node_model.specs.ShardRows.{top, greatest_entry}
use Rattle.node_model.specs.States.{Catalogue, Shard, Router, NodeState, catalogue_state, shard_state, router_state}
use Rattle.node_model.specs.World.{Held}
use Rattle.node_laws.proofs.Views.{Reach, View, history_in, changes_in}
use Rattle.node_laws.proofs.WriteFacts.{WasMade}
use Rattle.node_laws.proofs.Facts.{IsKnownTable, CatalogueFits, ShardFits, RouterFits, IsBy, IsMet, IsGiven, is_of, is_of_life, CursorsFit, OwnCursors, HeldFits, SameKind, ToldBelow, IsClosedOrOpen}
use Rattle.node_laws.proofs.GreatestTimes.{entries_within, changes_within}
use Rattle.node_laws.proofs.Growth.{met_max}
use Rattle.node_laws.proofs.Lists.{all_prefix}
use Rattle.node_replay.specs.Durable.{DurableRouter, router_part, next_life, shard_part, durable_of, empty_catalogue, empty_router}
use Rattle.node_replay.specs.Holds.{HoldsOwn, Replays}
use Rattle.node_replay.specs.Replays.{replayed, records_of, time_in, latest_in_table, latest_time}
use Rattle.node_replay.proofs.Restarts.{became, same_top}
use Rattle.restart_laws.proofs.Replays.{router_along, router_stores_none, IsNoTable, catalogue_stores_no_table, shard_tables_within}
use Rattle.restart_laws.proofs.TableTimes.{known_latest}
use Rattle.restart_laws.proofs.StoredTables.{StoresPastTable, StorePastTables}

-- THE TIME OF A START

-- a time that is not above one that was met was met
met_below : (v : View) (given : List Given) (low high : ℕ) → low ≤ high → IsMet v given high → IsMet v given low
met_below v given low high le (inl none) = inl (omega (arith, le, none))
met_below v given low high le (inr (inl (g, i, e))) = inr (inl (g, i, omega (arith, le, e)))
met_below v given low high le (inr (inr (inl (x, i, e)))) = inr (inr (inl (x, i, omega (arith, le, e))))
met_below v given low high le (inr (inr (inr (d, i, e)))) = inr (inr (inr (d, i, omega (arith, le, e))))

module _ (v : View) (given : List Given) (time : ℕ) (met : IsMet v given time) where
  record_met : (k : Kept) → time_kept k ≤ time → StoresPastTable (changes_in v) k → IsMet v given (time_in (record_kept k))
  record_met (kept_table t) le is = inr (inr (inl (create_change is.creation, is.begun, is.latest)))
  record_met (kept_entry e) le is = met_below v given e.time time le met
  record_met (kept_ceiling n) le is = met_below v given n time le met
  record_met (kept_none n) le is = met_below v given n time le met
  record_met (kept_life n) le is = inl refl
  record_met (kept_block n) le is = inl refl
  record_met (kept_change (create_change c)) le is = met_below v given c.at time le met
  record_met (kept_change (split_change s)) le is = met_below v given s.at time le met
  record_met (kept_change (commit_change c)) le is = inl refl

  -- the greatest time in records was met, where that of the node was that stored them
  latest_met : (kept : List Kept) → greatest_kept kept ≤ time → AllByRecursion (StoresPastTable (changes_in v)) kept
      → IsMet v given (latest_time (records_of kept))
  latest_met [] le all = inl refl
  latest_met (k ∷ kept) le all = met_max v given (time_in (record_kept k)) (latest_time (records_of kept))
      (record_met k (omega (arith, le)) all.0) (latest_met kept (omega (arith, le)) all.1)

-- the catalogue stores no table
tabled_none : (v : View) (kept : List Kept) → AllByRecursion IsNoTable (records_of kept) → AllByRecursion (StoresPastTable (changes_in v)) kept
tabled_none v [] all = tt
tabled_none v (k ∷ kept) all = (by_kind k all.0, tabled_none v kept all.1)
  where
    by_kind : (k : Kept) → IsNoTable (record_kept k) → StoresPastTable (changes_in v) k
    by_kind (kept_table t) none = absurd none
    by_kind (kept_entry e) none = tt
    by_kind (kept_ceiling n) none = tt
    by_kind (kept_change x) none = tt
    by_kind (kept_none n) none = tt
    by_kind (kept_life n) none = tt
    by_kind (kept_block n) none = tt

-- THE CATALOGUE AND A SHARD

-- the view with other cursors, and other notes of how far statements were sent
abbrev pub in_notes : List Cursor → List Reach → View → View
in_notes cursors notes v = record {
  journal = v.journal;
  bound = v.bound;
  chosen = v.chosen;
  cursors = cursors;
  given = v.given;
  missed = v.missed;
  reached = notes;
}

-- which is of open requests alone
abbrev pub SameNotes : (notes reached : List Reach) → NodeState → Type 0
SameNotes notes reached (catalogue_state c) = Unit {0}
SameNotes notes reached (shard_state s) = notes ≡ reached
SameNotes notes reached (router_state r) = Unit {0}

catalogue_anew : (asked : List Asked) (at time : ℕ) (kept : List Kept) (c : Catalogue) → greatest_kept kept ≤ time → CatalogueFits asked at kept c
    → CatalogueFits asked at kept (record { me = c.me; time = time; changes = c.changes })
catalogue_anew asked at time kept c le fits = record {
  own = fits.own;
  place = fits.place;
  changes = fits.changes;
  past = all_weaken (λ x. time_of x ≤ greatest_kept kept) (λ x. time_of x ≤ time) (changes_kept kept) (λ x h. omega (arith, h, le)) (changes_within kept);
  fitting = fits.fitting;
  wanted = fits.wanted;
}

-- a table is known by a time that is not below any time in it
known_anew : (v : View) (cursors : List Cursor) (notes : List Reach) (early time : ℕ) (t : Table) → IsKnownTable v early t → latest_in_table t ≤ time
    → IsKnownTable (in_notes cursors notes v) time t
known_anew v cursors notes early time t k le =
    let latest = known_latest v early t k in
    record {
      more = k.more;
      older = k.older;
      all = k.all;
      begun = record { creation = k.begun.creation; begun = k.begun.begun; name = k.begun.name; before = omega (arith, latest, le) };
      known = k.known;
      fitting = k.fitting;
      still = k.still;
    }

abbrev shard_anew_state : ℕ → Shard → Shard
shard_anew_state time s = record { me = s.me; time = time; tables = s.tables; entries = s.entries; ceiling = top s; parked = [] }

shard_anew : (v : View) (cursors : List Cursor) (notes : List Reach) (asked : List Asked) (at time : ℕ) (kept : List Kept) (s : Shard)
    → greatest_kept kept ≤ time → AllByRecursion (λ t. latest_in_table t ≤ time) s.tables → notes ≡ v.reached → ShardFits v asked at kept s
    → ShardFits (in_notes cursors notes v) asked at kept (shard_anew_state time s)
shard_anew v cursors notes asked at time kept s le tables same fits = record {
  own = fits.own;
  came = tt;
  entries = fits.entries;
  tops = same_top s ∙ fits.tops;
  past = subst (λ l. AllByRecursion (λ (e : Entry). e.time ≤ time) l) (sym fits.entries)
      (all_weaken (λ (e : Entry). e.time ≤ greatest_kept kept) (λ (e : Entry). e.time ≤ time) (entries_kept kept) (λ e h. omega (arith, h, le))
      (entries_within kept));
  legal = fits.legal;
  sent = subst (λ l. AllByRecursion (WasMade (history_in v) asked l) s.entries) (sym same) fits.sent;
  numbers = fits.numbers;
  placed = fits.placed;
  parts = fits.parts;
  still = fits.still;
  tables = all_both (IsKnownTable v s.time) (λ t. latest_in_table t ≤ time) (IsKnownTable (in_notes cursors notes v) time) s.tables
      (λ t k h. known_anew v cursors notes s.time time t k h) fits.tables tables;
  parked = tt;
}

-- A ROUTER

-- what is in a life before this one, or in this one where it began, is in a life before the next
before_next : (life now : ℕ) (begun : Bool) (P : Type 0) → IsBy life now begun P → life < next_life now begun
before_next life now true P (inl less) = omega (arith, less)
before_next life now true P (inr (same, is, p)) = omega (arith, same)
before_next life now false P (inl less) = less
before_next life now false P (inr (same, is, p)) = absurd (cc)

abbrev pub router_anew_state : DurableRouter → Router
router_anew_state d = record {
  me = d.me;
  shards = d.shards;
  time = 0;
  life = d.life;
  begun = false;
  moment = 0;
  count = 0;
  tables = [];
  requests = [];
  cursors = [];
  blocks = d.blocks;
  gave = block_size * d.blocks;
}

router_anew : (v w : View) (asked : List Asked) (answered news : List Answered) (at : ℕ) (r : Router) → RouterFits v asked (answered ++ news) at r
    → RouterFits w asked answered at (router_anew_state (router_part r))
router_anew v w asked answered news at r fits =
    record {
      own = fits.own;
      place = fits.place;
      requests = tt;
      different = tt;
      counted = all_weaken (λ (a : Asked). a.id.router ≡ at → IsBy a.id.life r.life r.begun (a.id.count ≤ r.count))
          (λ (a : Asked). a.id.router ≡ at → IsBy a.id.life (next_life r.life r.begun) false (a.id.count ≤ 0)) asked
          (λ a h own. inl (before_next a.id.life r.life r.begun (a.id.count ≤ r.count) (h own))) fits.counted;
      told = all_weaken (λ (t : Answered). t.id.router ≡ at → IsBy t.id.life r.life r.begun (ToldBelow r.time t))
          (λ (t : Answered). t.id.router ≡ at → IsBy t.id.life (next_life r.life r.begun) false (ToldBelow 0 t)) answered
          (λ t h own. inl (before_next t.id.life r.life r.begun (ToldBelow r.time t) (h own)))
          (all_prefix (λ (t : Answered). t.id.router ≡ at → IsBy t.id.life r.life r.begun (ToldBelow r.time t)) answered news fits.told);
      tables = tt;
      closed = all_weaken (λ (a : Asked). a.id.router ≡ at → IsBy a.id.life r.life r.begun (a.id.count ≤ r.count))
          (λ (a : Asked). a.id.router ≡ at → a.id.life ≡ next_life r.life r.begun → IsClosedOrOpen [] answered a) asked
          (λ a h own is. let less = before_next a.id.life r.life r.begun (a.id.count ≤ r.count) (h own) in absurd (omega (arith, less, is))) fits.counted;
      risen = all_weaken (λ (a : Asked). a.id.router ≡ at → IsBy a.id.life r.life r.begun (a.time ≤ r.time))
          (λ (a : Asked). a.id.router ≡ at → IsBy a.id.life (next_life r.life r.begun) false (a.time ≤ 0)) asked
          (λ a h own. inl (before_next a.id.life r.life r.begun (a.time ≤ r.time) (h own))) fits.risen;
    }

-- no cursor is of a life that is to come
none_of_life : (at life : ℕ) (cursors : List Cursor) → AllByRecursion (λ (c : Cursor). c.life < life) (filter (is_of at) cursors)
    → filter (is_of_life at life) cursors ≡ []
none_of_life at life [] all = refl
none_of_life at life (c ∷ cursors) all = by_router (c.router == at) all (λ more. none_of_life at life cursors more)
  where
    by_router : (a : Bool)
        → AllByRecursion (λ (c : Cursor). c.life < life) (if a then c ∷ filter (is_of at) cursors else filter (is_of at) cursors)
        → (AllByRecursion (λ (c : Cursor). c.life < life) (filter (is_of at) cursors) → filter (is_of_life at life) cursors ≡ [])
        → (if a && (c.life == life) then c ∷ filter (is_of_life at life) cursors else filter (is_of_life at life) cursors) ≡ []
    by_router false all more = more all
    by_router true all more = by_life (c.life == life) refl
      where
        by_life : (b : Bool) → (c.life == life) ≡ b
            → (if b then c ∷ filter (is_of_life at life) cursors else filter (is_of_life at life) cursors) ≡ []
        by_life true h = absurd (let same = eqb-true c.life life h in let less = all.0 in omega (arith, same, less))
        by_life false h = more all.1

-- the cursors of the lives before stay, with numbers before those that are given next
cursors_anew : (cursors : List Cursor) (at : ℕ) (r : Router) (d : DurableRouter) → CursorsFit cursors at r → next_life r.life r.begun ≤ d.life
    → r.blocks ≤ d.blocks → CursorsFit cursors at (router_anew_state d)
cursors_anew cursors at r d fits lives blocks =
    let most : r.gave ≤ block_size * r.blocks = fits.most in
    let past : (c : Cursor) → IsGiven r.life r.begun r.gave r.time c → c.life < d.life =
    λ c g. (let less = before_next c.life r.life r.begun (c.time ≤ r.time) g.past in omega (arith, less, lives)) in
    record {
      own = none_of_life at d.life cursors
          (all_weaken (IsGiven r.life r.begun r.gave r.time) (λ (c : Cursor). c.life < d.life) (filter (is_of at) cursors) past fits.given);
      given = all_weaken (IsGiven r.life r.begun r.gave r.time) (IsGiven d.life false (block_size * d.blocks) 0) (filter (is_of at) cursors)
          (λ c g. record { n = g.n; number = g.number; given = (let within = g.given in omega (arith, within, most, blocks)); past = inl (past c g) })
          fits.given;
      most = omega arith;
    }

-- A NODE

-- what was known of the node that stopped
pub record Stood (v : View) (cursors : List Cursor) (notes : List Reach) (asked : List Asked) (answered news : List Answered) (given : List Given) (at : ℕ)
    (first : NodeState) (written : List Kept) (h : Held) : Type 0 where
  pub fits : HeldFits v asked (answered ++ news) given at h
  pub replays : Replays h
  pub holds : HoldsOwn (record { state = became h; kept = h.kept; steps = h.steps })
  pub tables : StorePastTables (changes_in v) h.kept h.state
  pub noted : SameNotes notes v.reached h.state
  -- and, before its last step, of its cursors
  pub kind : SameKind first h.state
  pub early : ℕ
  pub late : ℕ
  pub leads : replayed (Some (durable_of early first)) (records_of written) ≡ Some (durable_of late h.state)
  pub cursors_fit : OwnCursors cursors at first

catalogue_again : (v : View) (cursors : List Cursor) (notes : List Reach) (asked : List Asked) (answered news : List Answered) (given : List Given) (at : ℕ)
    (first : NodeState) (written kept : List Kept) (c : Catalogue)
    → Stood v cursors notes asked answered news given at first written (record { state = catalogue_state c; kept = kept; steps = 0 })
    → HeldFits (in_notes cursors notes v) asked answered given at
    (record { state = became (record { state = catalogue_state c; kept = kept; steps = 0 }); kept = kept; steps = 0 })
catalogue_again v cursors notes asked answered news given at first written kept c s = record {
  state = catalogue_anew asked at (latest_time (records_of kept)) kept c s.holds s.fits.state;
  met = latest_met v given c.time s.fits.met kept s.fits.within
      (tabled_none v kept (catalogue_stores_no_table (records_of kept) (empty_catalogue c.me) (durable_of (greatest_kept kept) (catalogue_state c)) s.replays));
  cursors = tt;
  within = s.holds;
}

shard_again : (v : View) (cursors : List Cursor) (notes : List Reach) (asked : List Asked) (answered news : List Answered) (given : List Given) (at : ℕ)
    (first : NodeState) (written kept : List Kept) (x : Shard)
    → Stood v cursors notes asked answered news given at first written (record { state = shard_state x; kept = kept; steps = 0 })
    → HeldFits (in_notes cursors notes v) asked answered given at
    (record { state = became (record { state = shard_state x; kept = kept; steps = 0 }); kept = kept; steps = 0 })
shard_again v cursors notes asked answered news given at first written kept x s =
    let tops : top x ≡ greatest_kept kept = s.fits.state.tops in
    let same : max (top x) (greatest_entry x.entries) ≡ top x = same_top x in
    let holds : max (top x) (greatest_entry x.entries) ≤ latest_time (records_of kept) = s.holds in
    let within : greatest_kept kept ≤ latest_time (records_of kept) = omega (arith, tops, same, holds) in
    record {
      state = shard_anew v cursors notes asked at (latest_time (records_of kept)) kept x within
          (shard_tables_within (records_of kept) x.me (shard_part x) s.replays) s.noted s.fits.state;
      met = latest_met v given x.time s.fits.met kept s.fits.within s.tables;
      cursors = tt;
      within = within;
    }

router_again : (v : View) (cursors : List Cursor) (notes : List Reach) (asked : List Asked) (answered news : List Answered) (given : List Given) (at : ℕ)
    (first r : Router) (written kept : List Kept)
    → Stood v cursors notes asked answered news given at (router_state first) written (record { state = router_state r; kept = kept; steps = 0 })
    → HeldFits (in_notes cursors notes v) asked answered given at
    (record { state = became (record { state = router_state r; kept = kept; steps = 0 }); kept = kept; steps = 0 })
router_again v cursors notes asked answered news given at first r written kept s =
    let on = (router_along (records_of written) (router_part first) (router_part r) s.leads).0 in
    let none : greatest_kept kept ≡ 0 = router_stores_none kept (empty_router r.me r.shards) (router_part r) s.replays in
    record {
      state = router_anew v (in_notes cursors notes v) asked answered news at r s.fits.state;
      met = inl refl;
      cursors = cursors_anew cursors at first (router_part r) s.cursors_fit on.0 on.1;
      within = omega (arith, none);
    }

-- the node that is started fits
pub opened_fits : (v : View) (cursors : List Cursor) (notes : List Reach) (asked : List Asked) (answered news : List Answered) (given : List Given) (at : ℕ)
    (first state : NodeState) (written kept : List Kept)
    → Stood v cursors notes asked answered news given at first written (record { state = state; kept = kept; steps = 0 })
    → HeldFits (in_notes cursors notes v) asked answered given at
    (record { state = became (record { state = state; kept = kept; steps = 0 }); kept = kept; steps = 0 })
opened_fits v cursors notes asked answered news given at first (catalogue_state c) written kept s =
    catalogue_again v cursors notes asked answered news given at first written kept c s
opened_fits v cursors notes asked answered news given at first (shard_state x) written kept s =
    shard_again v cursors notes asked answered news given at first written kept x s
opened_fits v cursors notes asked answered news given at (router_state first) (router_state r) written kept s =
    router_again v cursors notes asked answered news given at first r written kept s
opened_fits v cursors notes asked answered news given at (catalogue_state c) (router_state r) written kept s = absurd s.kind
opened_fits v cursors notes asked answered news given at (shard_state x) (router_state r) written kept s = absurd s.kind
