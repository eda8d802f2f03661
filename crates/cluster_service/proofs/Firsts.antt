-- The world that a call begins in has a catalogue, and as many shards and routers as the calls before it had.
use Rattle.std.specs.Prelude.{◌≡◌, ◌≢◌, ◌⊎◌, ℕ, zero, suc, ◌+◌, ◌-◌, ◌<◌, List, [], ◌∷◌, ◌++◌, length, Option, Some, None}
use Rattle.std.proofs.Common.{refl, sym, ap, subst, inl, inr, ◌∙◌, arith}
use Rattle.std.specs.List.{AllByRecursion, slice_get, slice_set}
use Rattle.std.specs.Option.{option_map}
use Rattle.record_model.specs.Records.{Record}
use Rattle.node_model.specs.Journal.{Kept}
use Rattle.node_model.specs.Letters.{Input}
use Rattle.node_model.specs.States.{NodeState, Router, router_state}
use Rattle.node_model.specs.World.{Held, World, IsRouter, Meets, steps_after, shards_from, routers_from, Event, Happens, comes, delivers, passes, begins as was_opened, start}
use Rattle.node_laws.proofs.StepsKeep.{get_set}
use Rattle.node_replay.specs.Durable.{DurableState, DurableRouter, durable_router, empty_router}
use Rattle.node_replay.specs.Follow.{router_follow}
use Rattle.node_replay.specs.Openings.{opened, opened_on}
use Rattle.node_replay.specs.Replays.{replayed, records_of, latest_time}
use Rattle.node_replay.specs.Restarts.{EventOrStop, Occurs, occurs, restarts, stops, RunWithStops, stays, proceeds}
use Rattle.restart_laws.specs.Calls.{BeginsOn, Calls, this_call, next_call}
use Rattle.history_model.proofs.Lists.{all_append}
use Rattle.node_progress.specs.Firsts.{IsFirst, first_start, first_again}
use Rattle.node_progress.proofs.Bags.{get_other, length_set, same_place}
use Rattle.pipe_driver.proofs.Routers.{happens_stays}
use Rattle.sim_driver.specs.Moves.{MayPlay}
use Rattle.sim_driver.proofs.Plays.{start_count, start_may_play, start_router}
use Rattle.journal_starts.specs.Starts.{BeginsOnFiles, begins_new, begins_again}

-- A ROUTER IS STARTED AS ONE

-- the durable part is that of a router
abbrev pub IsOfRouter : DurableState → Type 0
IsOfRouter e = (r : DurableRouter) × (e ≡ durable_router r)

pub router_replays : (records : List Record) (d : DurableRouter) (e : DurableState) → replayed (Some (durable_router d)) records ≡ Some e → IsOfRouter e
router_replays [] d e is = (d, cc is)
router_replays (r ∷ records) d e is = by_next (λ n. router_replays records n e) (router_follow d r) is
  where
    by_next : ((n : DurableRouter) → replayed (Some (durable_router n)) records ≡ Some e → IsOfRouter e) → (next : Option DurableRouter)
        → replayed (option_map durable_router next) records ≡ Some e → IsOfRouter e
    by_next others None is = absurd (cc is)
    by_next others (Some n) is = others n is

-- the router that a state is of
abbrev router_in : Router → NodeState → Router
router_in other (router_state q) = q
router_in other s = other

router_opens : (r : Router) (kept : List Kept) (new : NodeState) → opened_on (router_state r) kept ≡ Some new → (q : Router) × (new ≡ router_state q)
router_opens r kept new = by_replay (replayed (Some (durable_router (empty_router r.me r.shards))) (records_of kept)) refl
  where
    by_replay : (d : Option DurableState) → replayed (Some (durable_router (empty_router r.me r.shards))) (records_of kept) ≡ d
        → option_map (opened (latest_time (records_of kept))) d ≡ Some new → (q : Router) × (new ≡ router_state q)
    by_replay None same is = absurd (cc is)
    by_replay (Some d) same is =
        let durable = router_replays (records_of kept) (empty_router r.me r.shards) d same in
        let one : opened (latest_time (records_of kept)) d ≡ new = cc is in (
          router_in r (opened (latest_time (records_of kept)) (durable_router durable.0)),
          sym one ∙ ap (λ (e : DurableState). opened (latest_time (records_of kept)) e) durable.1,
        )

-- where the node at a place is started, each router is one afterwards
router_stays : (nodes : List Held) (place at : ℕ) (old : Held) (new : NodeState) (kept stored : List Kept) (steps : ℕ) → slice_get nodes place ≡ Some old
    → opened_on old.state kept ≡ Some new → IsRouter nodes at → IsRouter (slice_set nodes place (record { state = new; kept = stored; steps = steps })) at
router_stays nodes place at old new kept stored steps here opens (r, was, count, got) = by_place (same_place at place)
  where
    started : NodeState → Held
    started s = record { state = s; kept = stored; steps = steps }

    by_place : (at ≡ place) ⊎ (at ≢ place) → IsRouter (slice_set nodes place (record { state = new; kept = stored; steps = steps })) at
    by_place (inl same) =
        let both : Some old ≡ Some (record { state = router_state r; kept = was; steps = count }) = sym here ∙ ap (λ k. slice_get nodes k) (sym same) ∙ got in
        let one : old ≡ record { state = router_state r; kept = was; steps = count } = cc both in
        let state : old.state ≡ router_state r = ap (λ (x : Held). x.state) one in
        let q = router_opens r kept new (subst (λ (s : NodeState). opened_on s kept ≡ Some new) state opens) in
        let set : slice_get (slice_set nodes place (started new)) place ≡ Some (started (router_state q.0)) =
        get_set nodes place old (started new) here ∙ ap (λ (s : NodeState). Some (started s)) q.1 in
        (q.0, stored, steps, subst (λ (k : ℕ). slice_get (slice_set nodes place (started new)) k ≡ Some (started (router_state q.0))) (sym same) set)
    by_place (inr other) = (r, was, count, get_other nodes place at (started new) other ∙ got)

-- ALL NODES

-- there are so many routers, after so many other nodes
record HasNodes (first_router routers : ℕ) (nodes : List Held) : Type 0 where
  count : length nodes ≡ first_router + routers
  each : (router : ℕ) → router < routers → IsRouter nodes (first_router + router)

meets_count : (w v : World) (at : ℕ) (i : Input) → Meets w at i v → length v.nodes ≡ length w.nodes
meets_count w v at i (inl m) =
    ap (λ (x : World). length x.nodes) m.then
    ∙ length_set w.nodes at (record { state = m.new; kept = m.old.kept ++ m.f.written; steps = m.old.steps + 1 })
meets_count w v at i (inr m) =
    ap (λ (x : World). length x.nodes) m.then
    ∙ length_set w.nodes at (record { state = m.old.state; kept = m.old.kept; steps = steps_after m.lack m.old.steps })

pub happens_count : (w v : World) (e : Event) → Happens w e v → length v.nodes ≡ length w.nodes
happens_count _ _ _ (comes w v at link number request router m) = meets_count w v at _ m
happens_count _ _ _ (delivers w v at which letter got to m) = meets_count w v at _ m
happens_count _ _ _ (passes w v at moment m) = meets_count w v at _ m
happens_count _ _ _ (was_opened w v at m) = meets_count w v at _ m

module _ (first_router routers : ℕ) where
  started_has : (w : World) (at : ℕ) (old : Held) (new : NodeState) (kept stored : List Kept) (steps : ℕ) → slice_get w.nodes at ≡ Some old
      → opened_on old.state kept ≡ Some new → HasNodes first_router routers w.nodes
      → HasNodes first_router routers (slice_set w.nodes at (record { state = new; kept = stored; steps = steps }))
  started_has w at old new kept stored steps here opens has = record {
    count = length_set w.nodes at (record { state = new; kept = stored; steps = steps }) ∙ has.count;
    each = λ router below. router_stays w.nodes at (first_router + router) old new kept stored steps here opens (has.each router below);
  }

  occurs_has : (w v : World) (e : EventOrStop) → Occurs w e v → HasNodes first_router routers w.nodes → HasNodes first_router routers v.nodes
  occurs_has _ _ _ (occurs w v e h) has = record {
    count = happens_count w v e h ∙ has.count;
    each = λ router below. happens_stays w v e (first_router + router) h (has.each router below);
  }
  occurs_has _ _ _ (restarts w v at m) has =
      subst (λ (x : World). HasNodes first_router routers x.nodes) (sym m.then) (started_has w at m.old m.new m.old.kept (m.old.kept ++ []) m.steps m.here m.opens has)
  occurs_has _ _ _ (stops w v at e i gives m) has =
      subst (λ (x : World). HasNodes first_router routers x.nodes) (sym m.then)
      (started_has w at m.old m.new (m.old.kept ++ m.f.written) (m.old.kept ++ m.f.written) (m.old.steps + 1) m.here m.opens has)

  run_has : (u w : World) (events : List EventOrStop) → RunWithStops u events w → HasNodes first_router routers u.nodes → HasNodes first_router routers w.nodes
  run_has _ _ _ (stays w) has = has
  run_has _ _ _ (proceeds u v w e events h more) has = run_has v w events more (occurs_has u v e h has)

  begins_has : (u first : World) → BeginsOn u first → HasNodes first_router routers u.nodes → HasNodes first_router routers first.nodes
  begins_has u first b has = subst (λ (x : World). HasNodes first_router routers x.nodes) (sym b.then) (run_has u b.started _ b.starts has)

  calls_have : (u w : World) → Calls u w → HasNodes first_router routers u.nodes → HasNodes first_router routers w.nodes
  calls_have u _ (this_call w events run) has = run_has u w events run has
  calls_have u _ (next_call v first w events calls b run) has = run_has first w events run (begins_has v first b (calls_have u v calls has))

-- THE FIRST WORLD

-- no node has taken a step in it
abbrev pub HaveTakenNone : List Held → Type 0
HaveTakenNone nodes = AllByRecursion (λ (h : Held). h.steps ≡ 0) nodes

shards_taken : (at n : ℕ) → HaveTakenNone (shards_from at n)
shards_taken at zero = tt
shards_taken at (suc n) = (refl, shards_taken (at + 1) n)

routers_taken : (at shards n : ℕ) → HaveTakenNone (routers_from at shards n)
routers_taken at shards zero = tt
routers_taken at shards (suc n) = (refl, routers_taken (at + 1) shards n)

pub first_taken : (first : World) → IsFirst first → HaveTakenNone first.nodes
first_taken _ (first_start others routers) = (
  refl,
  (
    refl,
    all_append (λ (h : Held). h.steps ≡ 0) (shards_from 2 others) (routers_from (1 + others + 1) (others + 1) routers) (shards_taken 2 others)
        (routers_taken (1 + others + 1) (others + 1) routers),
  ),
)
first_taken _ (first_again others routers u first reached b) = subst (λ (x : World). HaveTakenNone x.nodes) (sym b.then) b.counts

start_has : (others routers : ℕ) → HasNodes (others + 2) routers (start others routers).nodes
start_has others routers = record {
  count = start_count others routers;
  each = λ router below. start_router others routers router below;
}

first_has : (others routers : ℕ) (files : List (List ℕ)) (first : World) → BeginsOnFiles others routers files first
    → HasNodes (others + 2) routers first.nodes
first_has others routers files _ (begins_new are) = start_has others routers
first_has others routers files _ (begins_again u first reached are b) =
    begins_has (others + 2) routers u first b (calls_have (others + 2) routers (start others routers) u reached (start_has others routers))

-- a call may be played from it on
begun_may_play : (others routers : ℕ) (files : List (List ℕ)) (first : World) → BeginsOnFiles others routers files first → MayPlay (others + 2) first
begun_may_play others routers files _ (begins_new are) = start_may_play others routers
begun_may_play others routers files _ (begins_again u first reached are b) =
    let has = first_has others routers files first (begins_again u first reached are b) in
    record {
      begins = first_again others routers u first reached b;
      routers = λ router below. has.each router (omega (arith, below, has.count));
    }

-- with so many shards in all
pub first_may_play : (shards routers : ℕ) (files : List (List ℕ)) (first : World) → 0 < shards → BeginsOnFiles (shards - 1) routers files first
    → MayPlay (1 + shards) first
first_may_play shards routers files first some begun =
    let same : shards - 1 + 2 ≡ 1 + shards = omega (arith, some) in
    subst (λ (n : ℕ). MayPlay n first) same (begun_may_play (shards - 1) routers files first begun)
