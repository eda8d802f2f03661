-- Each node of a run is of the kind and the number of its place, also where nodes stop and are started again.
use Rattle.std.proofs.Common.{◌≡◌, inl, inr, ℕ, zero, suc, ◌+◌, List, [], ◌++◌, refl, sym, ap, subst, ◌∙◌, arith}
use Rattle.std.specs.Prelude.{◌<◌, ◌≤◌, Bool, true, false, Some, nat_lt, if◌then◌else◌}
use Rattle.std.proofs.lemmas.Bool.{ltb-true, ltb-false}
use Rattle.std.specs.List.{slice_get, slice_set}
use Rattle.std.specs.Option.{option_map}
use Rattle.chunk_model.specs.Tables.{first_shard}
use Rattle.node_model.specs.Journal.{Kept, greatest_kept}
use Rattle.node_model.specs.Letters.{Input, client_input, letter_input, moment_input, opened_input}
use Rattle.node_model.specs.States.{NodeState}
use Rattle.node_model.specs.World.{Held, World, Moves, steps_after, Misses, Meets, Event, Happens, comes, delivers, passes, begins, start}
use Rattle.node_laws.proofs.Places.{EachAt, each_get, each_set}
use Rattle.node_replay.specs.Durable.{durable_shard, durable_router, empty_of, empty_shard, empty_router}
use Rattle.node_replay.specs.Holds.{Replays}
use Rattle.node_replay.specs.Openings.{opened, opened_on}
use Rattle.node_replay.specs.ReadTimes.{ComesInTime}
use Rattle.node_replay.specs.Replays.{latest_time, records_of, replayed}
use Rattle.node_replay.specs.Restarts.{Restarts, Stops, EventOrStop, Occurs, occurs, restarts, stops, RunWithStops, stays, proceeds}
use Rattle.node_replay.proofs.Restarts.{given_in_time, occurs_replays, opened_is, opened_own}
use Rattle.node_replay.proofs.Runs.{NodeReplays, WorldReplays, all_got, start_replays, step_replays}
use Rattle.node_replay.proofs.Starts.{places_each}
use Rattle.node_replay.proofs.Steps.{StepFollows, step_follows}
use Rattle.restart_laws.specs.Calls.{Reached, with_mail}
use Rattle.restart_laws.proofs.Mail.{calls_are_one_run}
use Rattle.journal_starts.specs.Records.{part_at}

-- a place of a shard, and one of a router
pub shard_part : (others at : ℕ) → first_shard ≤ at → at < first_shard + others + 1 → part_at others at ≡ durable_shard (empty_shard at)
shard_part others zero le less = absurd (omega (arith, le))
shard_part others (suc n) le less = by_test (nat_lt others n) refl
  where
    by_test : (b : Bool) → nat_lt others n ≡ b
        → (if b then durable_router (empty_router (suc n) (others + 1)) else durable_shard (empty_shard (suc n))) ≡ durable_shard (empty_shard (suc n))
    by_test true h = absurd (let beyond = ltb-true others n h in omega (arith, beyond, less))
    by_test false h = refl

pub router_part : (others at : ℕ) → first_shard + others + 1 ≤ at → part_at others at ≡ durable_router (empty_router at (others + 1))
router_part others zero le = absurd (omega (arith, le))
router_part others (suc n) le = by_test (nat_lt others n) refl
  where
    by_test : (b : Bool) → nat_lt others n ≡ b
        → (if b then durable_router (empty_router (suc n) (others + 1)) else durable_shard (empty_shard (suc n)))
        ≡ durable_router (empty_router (suc n) (others + 1))
    by_test true h = refl
    by_test false h = absurd (let within = ltb-false others n h in omega (arith, within, le))

abbrev pub IsOfPlace : (others n : ℕ) → Held → Type 0
IsOfPlace others n h = empty_of h.state ≡ part_at others n

abbrev pub AreOfPlaces : (others : ℕ) → World → Type 0
AreOfPlaces others w = EachAt (IsOfPlace others) 0 w.nodes

-- THE START

start_of_places : (others routers : ℕ) → AreOfPlaces others (start others routers)
start_of_places others routers =
    places_each (IsOfPlace others) others routers refl (λ j le less. sym (shard_part others j le less)) (λ j le. sym (router_part others j le))

-- STEPS

of_places_set : (others : ℕ) (nodes : List Held) (at : ℕ) (old new : Held) → EachAt (IsOfPlace others) 0 nodes → slice_get nodes at ≡ Some old
    → empty_of new.state ≡ empty_of old.state → EachAt (IsOfPlace others) 0 (slice_set nodes at new)
of_places_set others nodes at old new all here same =
    each_set (IsOfPlace others) (IsOfPlace others) 0 at nodes new (λ j h apart p. p) (same ∙ each_get (IsOfPlace others) 0 at nodes old all here) all

-- a node that is started is of the kind and the number of the one that stopped
started_own : (h : Held) (new : NodeState) → Replays h → opened_on h.state h.kept ≡ Some new → empty_of new ≡ empty_of h.state
started_own h new replays opens =
    ap (λ s. empty_of s) (sym (opened_is h new replays opens)) ∙ opened_own (latest_time (records_of h.kept)) (greatest_kept h.kept) h.state

move_of_places : (others : ℕ) (w v : World) (at : ℕ) (i : Input) → WorldReplays w → AreOfPlaces others w → Moves w at i v → AreOfPlaces others v
move_of_places others w v at i all places m =
    let old : NodeReplays m.old = all_got NodeReplays w.nodes at m.old all.nodes m.here in
    let follows : StepFollows (greatest_kept m.old.kept) m.old.state i m.f m.new =
    step_follows (greatest_kept m.old.kept) m.old.state m.new i m.f old.1 m.step in
    subst (λ (x : World). AreOfPlaces others x) (sym m.then)
    (of_places_set others w.nodes at m.old (record { state = m.new; kept = m.old.kept ++ m.f.written; steps = m.old.steps + 1 }) places m.here follows.own)

-- a node that takes no step stays as it is
miss_of_places : (others : ℕ) (w v : World) (at : ℕ) (i : Input) → AreOfPlaces others w → Misses w at i v → AreOfPlaces others v
miss_of_places others w v at i places m =
    subst (λ (x : World). AreOfPlaces others x) (sym m.then)
    (of_places_set others w.nodes at m.old (record { state = m.old.state; kept = m.old.kept; steps = steps_after m.lack m.old.steps }) places m.here refl)

meets_of_places : (others : ℕ) (w v : World) (at : ℕ) (i : Input) → WorldReplays w → AreOfPlaces others w → Meets w at i v → AreOfPlaces others v
meets_of_places others w v at i all places (inl m) = move_of_places others w v at i all places m
meets_of_places others w v at i all places (inr m) = miss_of_places others w v at i places m

event_of_places : (others : ℕ) (w v : World) (e : Event) → WorldReplays w → AreOfPlaces others w → Happens w e v → AreOfPlaces others v
event_of_places others _ _ _ all places (comes w v at link number request is m) = meets_of_places others w v at (client_input link number request) all places m
event_of_places others _ _ _ all places (delivers w v at which l got to m) = meets_of_places others w v at (letter_input l) all places m
event_of_places others _ _ _ all places (passes w v at moment m) = meets_of_places others w v at (moment_input moment) all places m
event_of_places others _ _ _ all places (begins w v at m) = meets_of_places others w v at opened_input all places m

restart_of_places : (others : ℕ) (w v : World) (at : ℕ) → WorldReplays w → AreOfPlaces others w → Restarts w at v → AreOfPlaces others v
restart_of_places others w v at all places m =
    let old : NodeReplays m.old = all_got NodeReplays w.nodes at m.old all.nodes m.here in
    subst (λ (x : World). AreOfPlaces others x) (sym m.then)
    (of_places_set others w.nodes at m.old (record { state = m.new; kept = m.old.kept ++ []; steps = m.steps }) places m.here
    (started_own m.old m.new old.0 m.opens))

stop_of_places : (others : ℕ) (w v : World) (at : ℕ) (i : Input) → WorldReplays w → AreOfPlaces others w → ComesInTime i → Stops w at i v → AreOfPlaces others v
stop_of_places others w v at i all places input m =
    let old : NodeReplays m.old = all_got NodeReplays w.nodes at m.old all.nodes m.here in
    let follows : StepFollows (greatest_kept m.old.kept) m.old.state i m.f m.reached =
    step_follows (greatest_kept m.old.kept) m.old.state m.reached i m.f old.1 m.step in
    let kept : List Kept = m.old.kept ++ m.f.written in
    let opens : opened_on m.reached kept ≡ Some m.new =
    ap (λ e. option_map (opened (latest_time (records_of kept))) (replayed (Some e) (records_of kept))) follows.own ∙ m.opens in
    let now : NodeReplays (record { state = m.reached; kept = kept; steps = 0 }) = step_replays m.old m.reached i m.f 0 old input follows in
    subst (λ (x : World). AreOfPlaces others x) (sym m.then)
    (of_places_set others w.nodes at m.old (record { state = m.new; kept = kept; steps = m.old.steps + 1 }) places m.here
    (started_own (record { state = m.reached; kept = kept; steps = 0 }) m.new now.0 opens ∙ follows.own))

occurs_of_places : (others : ℕ) (w v : World) (e : EventOrStop) → WorldReplays w → AreOfPlaces others w → Occurs w e v → AreOfPlaces others v
occurs_of_places others _ _ _ all places (occurs w v e h) = event_of_places others w v e all places h
occurs_of_places others _ _ _ all places (restarts w v at m) = restart_of_places others w v at all places m
occurs_of_places others _ _ _ all places (stops w v at e i gives m) = stop_of_places others w v at i all places (given_in_time w e at i all gives) m

-- RUNS

run_of_places : (others : ℕ) (u w : World) (events : List EventOrStop) → WorldReplays u → AreOfPlaces others u → RunWithStops u events w → AreOfPlaces others w
run_of_places others _ _ _ all places (stays w) = places
run_of_places others _ _ _ all places (proceeds u v w e events h more) =
    run_of_places others v w events (occurs_replays u v e all h) (occurs_of_places others u v e all places h) more

-- so is each node in the world that calls lead to
pub reached_of_places : (others routers : ℕ) (w : World) → Reached others routers w → AreOfPlaces others w
reached_of_places others routers w r =
    let o = calls_are_one_run (start others routers) w r in
    run_of_places others (start others routers) (with_mail o.mail w) o.events (start_replays others routers) (start_of_places others routers) o.run
