-- A node that is started again on its journal has the same durable part; so the journals of runs with stops replay too.
use Rattle.std.proofs.Common.{◌≡◌, inr, ℕ, ◌+◌, ◌≤◌, List, [], ◌∷◌, ◌++◌, refl, sym, ap, subst, ◌∙◌, arith, append-nil}
use Rattle.std.specs.Prelude.{max, Bool, true, false, ◌&&◌, Option, Some, None, nat_lt, if◌then◌else◌}
use Rattle.std.specs.List.{AllByRecursion}
use Rattle.std.specs.Option.{option_map}
use Rattle.chunk_model.specs.Changes.{create_change, split_change}
use Rattle.chunk_model.specs.Tables.{table_of}
use Rattle.record_model.specs.Records.{Record, table_record, entry_record, ceiling_record, create_record, split_record, catalogue_ceiling_record, life_record, block_record}
use Rattle.node_model.specs.Journal.{Kept, greatest_kept}
use Rattle.node_model.specs.Letters.{Input}
use Rattle.node_model.specs.ShardRows.{is_news, top, greatest_entry}
use Rattle.node_model.specs.States.{Shard, NodeState, catalogue_state, shard_state, router_state}
use Rattle.node_model.specs.World.{Held, World, Event, start}
use Rattle.node_replay.specs.Durable.{DurableState, durable_catalogue, durable_shard, durable_router, next_life, durable_of, empty_of}
use Rattle.node_replay.specs.Follow.{may_create, with_change, may_split, entry_from, may_enter, has_table, with_entry}
use Rattle.node_replay.specs.Replays.{follow, replayed, records_of, time_in, latest_time}
use Rattle.node_replay.specs.Openings.{opened, opened_on}
use Rattle.node_replay.specs.Holds.{Holds, HoldsOwn, Replays, MayOpen}
use Rattle.node_replay.specs.ReadTimes.{IsInTime, ComesInTime, ReadsInTime}
use Rattle.node_replay.specs.Restarts.{Restarts, Stops, Gives, gives_request, gives_message, gives_moment, gives_opening, EventOrStop, Occurs, occurs, restarts, stops, RunWithStops, stays, proceeds}
use Rattle.node_replay.proofs.Runs.{NodeReplays, NodeReads, WorldReplays, MoveShows, move_shows, all_got, all_set, step_replays, event_replays, start_replays}
use Rattle.history_model.proofs.Lists.{all_weaken}

-- TIMES

-- the greatest time that later records have to pass
abbrev top_of : DurableState → ℕ
top_of (durable_catalogue d) = d.top
top_of (durable_shard d) = d.top
top_of (durable_router d) = 0

pub some_is : {X : Type 0} (x y : X) → Some x ≡ Some y → x ≡ y
some_is x y e = cc

-- a choice that gives a state gives this one
pub chosen : {X Y : Type 0} (f : X → Y) (t : Bool) (x : X) (y : Y) → option_map f (if t then Some x else None) ≡ Some y → f x ≡ y
chosen f true x y e = some_is (f x) y e
chosen f false x y e = absurd (cc)

follow_top : (d : DurableState) (r : Record) (e : DurableState) → follow d r ≡ Some e → top_of e ≤ max (top_of d) (time_in r)
follow_top (durable_catalogue d) (create_record c) e same =
    subst (λ x. top_of x ≤ max d.top c.at) (chosen durable_catalogue (may_create d c) (with_change d c.at (create_change c)) e same) (omega arith)
follow_top (durable_catalogue d) (split_record s) e same =
    subst (λ x. top_of x ≤ max d.top s.at) (chosen durable_catalogue (may_split d s) (with_change d s.at (split_change s)) e same) (omega arith)
follow_top (durable_catalogue d) (catalogue_ceiling_record time) e same =
    subst (λ x. top_of x ≤ max d.top time) (some_is (durable_catalogue (record { me = d.me; top = max d.top time; changes = d.changes })) e same) (omega arith)
follow_top (durable_catalogue d) r e same = absurd (cc)
follow_top (durable_shard d) (table_record t) e same =
    subst (λ x. top_of x ≤ max d.top (time_in (table_record t))) (chosen durable_shard (is_news t (table_of t.namespace d.tables)) _ e same) (omega arith)
follow_top (durable_shard d) (entry_record w) e same =
    subst (λ x. top_of x ≤ max d.top w.time) (chosen durable_shard (may_enter d w) (with_entry d (entry_from d w)) e same) (omega arith)
follow_top (durable_shard d) (ceiling_record time) e same =
    subst (λ x. top_of x ≤ max d.top time)
    (chosen durable_shard (nat_lt d.top time && has_table d.tables) (record { me = d.me; top = time; tables = d.tables; entries = d.entries }) e same)
    (omega arith)
follow_top (durable_shard d) r e same = absurd (cc)
follow_top (durable_router d) (life_record n) e same =
    subst (λ x. top_of x ≤ max 0 0) (chosen durable_router _ (record { me = d.me; shards = d.shards; life = n + 1; blocks = d.blocks }) e same) (omega arith)
follow_top (durable_router d) (block_record n) e same =
    subst (λ x. top_of x ≤ max 0 0) (chosen durable_router _ (record { me = d.me; shards = d.shards; life = d.life; blocks = n + 1 }) e same) (omega arith)
follow_top (durable_router d) r e same = absurd (cc)

pub replay_top : (records : List Record) (d e : DurableState) → replayed (Some d) records ≡ Some e → top_of e ≤ max (top_of d) (latest_time records)
replay_top [] d e same = subst (λ x. top_of x ≤ max (top_of d) 0) (some_is d e same) (omega arith)
replay_top (r ∷ records) d e same = by_next (follow d r) refl (λ x more. replay_top records x e more) same
  where
    by_next : (o : Option DurableState) → follow d r ≡ o
        → ((x : DurableState) → replayed (Some x) records ≡ Some e → top_of e ≤ max (top_of x) (latest_time records)) → replayed o records ≡ Some e
        → top_of e ≤ max (top_of d) (max (time_in r) (latest_time records))
    by_next None is later more = absurd (cc)
    by_next (Some x) is later more =
        let h = follow_top d r x is in
        let k = later x more in
        omega (arith, h, k)

-- A START

-- the ceiling of a shard that is started is the greatest of all that it stored, and this stays so
pub same_top : (s : Shard) → max (top s) (greatest_entry s.entries) ≡ top s
same_top s = omega arith

pub opened_durable : (time stored : ℕ) (s : NodeState) → durable_of stored (opened time (durable_of stored s)) ≡ durable_of stored s
opened_durable time stored (catalogue_state c) = refl
opened_durable time stored (shard_state s) =
    ap (λ n. durable_shard (record { me = s.me; top = n; tables = s.tables; entries = s.entries })) (same_top s)
opened_durable time stored (router_state r) = refl

pub opened_own : (time stored : ℕ) (s : NodeState) → empty_of (opened time (durable_of stored s)) ≡ empty_of s
opened_own time stored (catalogue_state c) = refl
opened_own time stored (shard_state s) = refl
opened_own time stored (router_state r) = refl

-- nothing is parked and nothing is open
opened_reads : (time : ℕ) (d : DurableState) → ReadsInTime (opened time d)
opened_reads time (durable_catalogue d) = tt
opened_reads time (durable_shard d) = tt
opened_reads time (durable_router d) = tt

opened_holds : (records : List Record) (stored : ℕ) (s : NodeState) → replayed (Some (empty_of s)) records ≡ Some (durable_of stored s) → Holds stored s
    → Holds stored (opened (latest_time records) (durable_of stored s))
opened_holds records stored (catalogue_state c) replays holds =
    let h = replay_top records (empty_of (catalogue_state c)) (durable_of stored (catalogue_state c)) replays in
    omega (arith, h)
opened_holds records stored (shard_state s) replays holds =
    let h = replay_top records (empty_of (shard_state s)) (durable_of stored (shard_state s)) replays in
    omega (arith, h)
opened_holds records stored (router_state r) replays holds = (life_first r.begun, inr refl)
  where
    life_first : (begun : Bool) → 1 ≤ next_life r.life begun
    life_first true = omega arith
    life_first false = holds.0

-- what a node becomes
abbrev pub became : Held → NodeState
became h = opened (latest_time (records_of h.kept)) (durable_of (greatest_kept h.kept) h.state)

pub node_opens : (h : Held) → Replays h → opened_on h.state h.kept ≡ Some (became h)
node_opens h replays = ap (λ o. option_map (opened (latest_time (records_of h.kept))) o) replays

pub opened_is : (h : Held) (new : NodeState) → Replays h → opened_on h.state h.kept ≡ Some new → became h ≡ new
opened_is h new replays opens = some_is (became h) new (sym (node_opens h replays) ∙ opens)

pub opened_replays : (h : Held) (new : NodeState) → NodeReplays h → opened_on h.state h.kept ≡ Some new
    → NodeReplays (record { state = new; kept = h.kept; steps = h.steps }) × ReadsInTime new
opened_replays h new (replays, holds) opens =
    let same : became h ≡ new = opened_is h new replays opens in
    subst (λ s. NodeReplays (record { state = s; kept = h.kept; steps = h.steps }) × ReadsInTime s) same (
      (
        subst (λ e. replayed (Some e) (records_of h.kept) ≡ Some (durable_of (greatest_kept h.kept) (became h)))
            (sym (opened_own (latest_time (records_of h.kept)) (greatest_kept h.kept) h.state))
            (replays ∙ ap (λ d. Some d) (sym (opened_durable (latest_time (records_of h.kept)) (greatest_kept h.kept) h.state))),
        opened_holds (records_of h.kept) (greatest_kept h.kept) h.state replays holds,
      ),
      opened_reads (latest_time (records_of h.kept)) (durable_of (greatest_kept h.kept) h.state),
    )

-- RUNS

restart_replays : (w v : World) (at : ℕ) → WorldReplays w → Restarts w at v → WorldReplays v
restart_replays w v at all m =
    let old : NodeReplays m.old = all_got NodeReplays w.nodes at m.old all.nodes m.here in
    let now = opened_replays m.old m.new old m.opens in
    subst (λ (x : World). WorldReplays x) (sym m.then) (record {
      nodes = all_set NodeReplays w.nodes at (record { state = m.new; kept = m.old.kept ++ []; steps = m.steps }) all.nodes
          (subst (λ k. NodeReplays (record { state = m.new; kept = k; steps = m.steps })) (sym (append-nil m.old.kept)) now.0);
      reads = all_set NodeReads w.nodes at (record { state = m.new; kept = m.old.kept ++ []; steps = m.steps }) all.reads now.1;
      letters = subst (λ l. AllByRecursion IsInTime l) (sym (append-nil w.sent)) all.letters;
    })

stop_replays : (w v : World) (at : ℕ) (i : Input) → WorldReplays w → ComesInTime i → Stops w at i v → WorldReplays v
stop_replays w v at i all input m =
    let old : NodeReplays m.old = all_got NodeReplays w.nodes at m.old all.nodes m.here in
    let s : MoveShows m.old i m.f m.reached = move_shows w at m.old m.reached i m.f all input m.here m.step in
    let kept : List Kept = m.old.kept ++ m.f.written in
    let opens : opened_on m.reached kept ≡ Some m.new =
    ap (λ e. option_map (opened (latest_time (records_of kept))) (replayed (Some e) (records_of kept))) s.follows.own ∙ m.opens in
    let now = opened_replays (record { state = m.reached; kept = kept; steps = m.old.steps + 1 }) m.new
    (step_replays m.old m.reached i m.f (m.old.steps + 1) old input s.follows) opens in
    subst (λ (x : World). WorldReplays x) (sym m.then) (record {
      nodes = all_set NodeReplays w.nodes at (record { state = m.new; kept = kept; steps = m.old.steps + 1 }) all.nodes now.0;
      reads = all_set NodeReads w.nodes at (record { state = m.new; kept = kept; steps = m.old.steps + 1 }) all.reads now.1;
      letters = subst (λ l. AllByRecursion IsInTime l) (sym (append-nil w.sent)) all.letters;
    })

-- a message that is delivered was sent
pub given_in_time : (w : World) (e : Event) (at : ℕ) (i : Input) → WorldReplays w → Gives w e at i → ComesInTime i
given_in_time w _ _ _ all (gives_request at link number request is) = tt
given_in_time w _ _ _ all (gives_message at which m got to) = all_got IsInTime w.sent which m all.letters got
given_in_time w _ _ _ all (gives_moment at moment) = tt
given_in_time w _ _ _ all (gives_opening at) = tt

pub occurs_replays : (w v : World) (e : EventOrStop) → WorldReplays w → Occurs w e v → WorldReplays v
occurs_replays _ _ _ all (occurs w v e h) = event_replays w v e all h
occurs_replays _ _ _ all (restarts w v at m) = restart_replays w v at all m
occurs_replays _ _ _ all (stops w v at e i gives m) = stop_replays w v at i all (given_in_time w e at i all gives) m

pub stopped_replays : (u w : World) (events : List EventOrStop) → WorldReplays u → RunWithStops u events w → WorldReplays w
stopped_replays _ _ _ all (stays w) = all
stopped_replays _ _ _ all (proceeds u v w e events h more) = stopped_replays v w events (occurs_replays u v e all h) more

may_open : (h : Held) → NodeReplays h → MayOpen h
may_open h (replays, holds) = (became h, node_opens h replays)

pub run_with_stops_replays : (others routers : ℕ) (events : List EventOrStop) (w : World) → RunWithStops (start others routers) events w
    → AllByRecursion Replays w.nodes × AllByRecursion MayOpen w.nodes
run_with_stops_replays others routers events w run =
    let all : WorldReplays w = stopped_replays (start others routers) w events (start_replays others routers) run in
    (all_weaken NodeReplays Replays w.nodes (λ h r. r.0) all.nodes, all_weaken NodeReplays MayOpen w.nodes may_open all.nodes)

-- what a step of such a run needs
pub run_with_stops_holds : (others routers : ℕ) (events : List EventOrStop) (w : World) → RunWithStops (start others routers) events w
    → AllByRecursion HoldsOwn w.nodes × ((e : Event) (at : ℕ) (i : Input) → Gives w e at i → ComesInTime i)
run_with_stops_holds others routers events w run =
    let all : WorldReplays w = stopped_replays (start others routers) w events (start_replays others routers) run in
    (all_weaken NodeReplays HoldsOwn w.nodes (λ h r. r.1) all.nodes, λ e at i gives. given_in_time w e at i all gives)

pub run_with_stops_in_time : (others routers : ℕ) (events : List EventOrStop) (w : World) → RunWithStops (start others routers) events w
    → AllByRecursion IsInTime w.sent
run_with_stops_in_time others routers events w run = (stopped_replays (start others routers) w events (start_replays others routers) run).letters
