-- What is true of runs with stops is true over calls, each of which begins on the journals that the one before it left.
use Rattle.std.proofs.Common.{◌≡◌, ◌≢◌, ◌⊎◌, inl, inr, Bool, ℕ, zero, suc, ◌+◌, ◌<◌, List, [], ◌∷◌, ◌++◌, refl, sym, ap, subst, ◌∙◌, arith, length-set}
use Rattle.std.specs.Prelude.{Some, length, nat_lt, true, false}
use Rattle.std.proofs.lemmas.Bool.{ltb-true, ltb-false}
use Rattle.std.specs.List.{AllByRecursion, slice_get, slice_set}
use Rattle.std.specs.Option.{option_map}
use Rattle.reply_model.specs.Accounts.{changes_in as changes_of}
use Rattle.reply_model.specs.OneHistory.{OneHistory, AreDifferent, ids_told}
use Rattle.node_model.specs.Journal.{Kept, changes_kept}
use Rattle.node_model.specs.Letters.{Letter, Input, moment_input, nothing}
use Rattle.node_model.specs.States.{NodeState}
use Rattle.node_model.specs.World.{Held, World, is_given, tick, Event, Run, stands, goes, Moves, start, journal_at, account_of}
use Rattle.node_laws.proofs.Lists.{all_behind}
use Rattle.node_replay.specs.Acknowledged.{KeepsJournals, KeepsWrites}
use Rattle.node_replay.specs.Holds.{HoldsOwn, Replays, MayOpen}
use Rattle.node_replay.specs.Openings.{opened, opened_on}
use Rattle.node_replay.specs.Replays.{replayed, records_of, latest_time}
use Rattle.node_replay.specs.ReadTimes.{IsInTime, ComesInTime}
use Rattle.node_replay.specs.Restarts.{Gives, after_start, Restarts, EventOrStop, Occurs, occurs, restarts, whole_event, restart_event, RunWithStops, stays, proceeds}
use Rattle.node_replay.proofs.JournalsStay.{run_with_stops_grows}
use Rattle.node_replay.proofs.OnceRuns.{run_with_stops_once}
use Rattle.node_replay.proofs.Restarts.{became, node_opens, occurs_replays, stopped_replays, run_with_stops_replays, run_with_stops_holds}
use Rattle.node_replay.proofs.Runs.{NodeReplays, WorldReplays, move_shows, step_replays, all_got, start_replays}
use Rattle.restart_laws.proofs.Runs.{runs_with_stops_make_one_history, runs_with_stops_keep_changes, runs_with_stops_keep_writes, runs_with_stops_own_journals}
use Rattle.restart_laws.proofs.Mail.{later_event, mail_gives, calls_are_one_run}
use Rattle.restart_laws.specs.Calls.{wholes, restarts_of, without_mail, with_mail, BeginsOn, Calls, this_call, next_call, Reached, IsOfRun, HaveOwnEntries}

-- A CALL MAY BEGIN

node_at : {X : Type 0} (xs : List X) (at : ℕ) → at < length xs → (x : X) × (slice_get xs at ≡ Some x)
node_at [] at less = absurd (omega (arith, less))
node_at (y ∷ xs) zero less = (y, refl)
node_at (y ∷ xs) (suc at) less = node_at xs at (omega (arith, less))

-- the node as it is started, where it has taken so many steps
abbrev started_node : Held → (steps : ℕ) → Held
started_node h steps = record { state = became h; kept = h.kept ++ []; steps = steps }

-- the world after the node at a place was started
abbrev started_at : World → (at : ℕ) → Held → (steps : ℕ) → World
started_at w at h steps = tick (after_start (is_given w at (moment_input 0)) at h steps nothing (became h))

starts_at : (w : World) (at : ℕ) (h : Held) → slice_get w.nodes at ≡ Some h → WorldReplays w → Occurs w (restart_event at) (started_at w at h 0)
starts_at w at h here all =
    let node : NodeReplays h = all_got NodeReplays w.nodes at h all.nodes here in
    restarts w (started_at w at h 0) at
    (record { old = h; new = became h; steps = 0; here = here; opens = node_opens h node.0; counts = inr (inr refl); then = refl })

-- the nodes before a place have taken no step
abbrev AreAnew : ℕ → List Held → Type 0
AreAnew at nodes = (j : ℕ) (h : Held) → j < at → slice_get nodes j ≡ Some h → h.steps ≡ 0

got_else : {X : Type 0} (xs : List X) (at j : ℕ) (x y : X) → slice_get (slice_set xs at x) j ≡ Some y → (y ≡ x) ⊎ ((j ≢ at) × (slice_get xs j ≡ Some y))
got_else [] at j x y got = absurd (cc)
got_else (z ∷ xs) zero zero x y got = inl (cc)
got_else (z ∷ xs) zero (suc j) x y got = inr ((λ e. cc), got)
got_else (z ∷ xs) (suc at) zero x y got = inr ((λ e. cc), got)
got_else (z ∷ xs) (suc at) (suc j) x y got = by_place (got_else xs at j x y got)
  where
    by_place : (y ≡ x) ⊎ ((j ≢ at) × (slice_get xs j ≡ Some y)) → (y ≡ x) ⊎ ((suc j ≢ suc at) × (slice_get xs j ≡ Some y))
    by_place (inl same) = inl same
    by_place (inr (other, there)) = inr ((λ e. other (omega (arith, e))), there)

anew_more : (nodes : List Held) (at : ℕ) (new : Held) → new.steps ≡ 0 → AreAnew at nodes → AreAnew (at + 1) (slice_set nodes at new)
anew_more nodes at new none all j h less got = by_place (got_else nodes at j new h got)
  where
    before : j ≢ at → j < at
    before other = by_test (nat_lt j at) refl
      where
        by_test : (b : Bool) → nat_lt j at ≡ b → j < at
        by_test true e = ltb-true j at e
        by_test false e = absurd (other (let le = ltb-false j at e in omega (arith, le, less)))

    by_place : (h ≡ new) ⊎ ((j ≢ at) × (slice_get nodes j ≡ Some h)) → h.steps ≡ 0
    by_place (inl same) = ap (λ (x : Held). x.steps) same ∙ none
    by_place (inr (other, there)) = all j h (before other) there

anew_all : (nodes : List Held) → AreAnew (length nodes) nodes → AllByRecursion (λ (h : Held). h.steps ≡ 0) nodes
anew_all [] all = tt
anew_all (h ∷ nodes) all = (all 0 h (omega arith) refl, anew_all nodes (λ j x less got. all (suc j) x (omega (arith, less)) got))

-- a world to which starts lead
pub record StartsTo (w : World) (at n : ℕ) : Type 0 where
  pub world : World
  pub run : RunWithStops w (restarts_of at n) world
  pub anew : AllByRecursion (λ (h : Held). h.steps ≡ 0) world.nodes

starts_from : (w : World) (at n : ℕ) → WorldReplays w → at + n ≡ length w.nodes → AreAnew at w.nodes → StartsTo w at n
starts_from w at zero all same anew =
    record { world = w; run = stays w; anew = anew_all w.nodes (subst (λ k. AreAnew k w.nodes) (let none : at + 0 ≡ at = omega arith in sym none ∙ same) anew) }
starts_from w at (suc n) all same anew =
    let h = node_at w.nodes at (omega (arith, same)) in
    let now : Occurs w (restart_event at) (started_at w at h.0 0) = starts_at w at h.0 h.1 all in
    let one_on : at + 1 + n ≡ length w.nodes = omega (arith, same) in
    let long : length w.nodes ≡ length (slice_set w.nodes at (started_node h.0 0)) = sym (length-set w.nodes at (started_node h.0 0)) in
    let rest = starts_from (started_at w at h.0 0) (at + 1) n (occurs_replays w (started_at w at h.0 0) (restart_event at) all now) (one_on ∙ long)
    (anew_more w.nodes at (started_node h.0 0) refl anew) in
    record {
      world = rest.world;
      run = proceeds w (started_at w at h.0 0) rest.world (restart_event at) (restarts_of (at + 1) n) now rest.run;
      anew = rest.anew;
    }

-- LAWS

-- calls, one after another, are one run, some messages of which are not delivered any more
pub reached_calls_are_one_run : (others routers : ℕ) (w : World) → Reached others routers w → IsOfRun (start others routers) w
reached_calls_are_one_run others routers w r = calls_are_one_run (start others routers) w r

pub reached_calls_make_one_history : (others routers : ℕ) (w : World) → Reached others routers w → OneHistory (account_of w)
reached_calls_make_one_history others routers w r =
    let o = calls_are_one_run (start others routers) w r in
    runs_with_stops_make_one_history others routers o.events (with_mail o.mail w) o.run

pub reached_calls_keep_changes : (others routers : ℕ) (w : World) → Reached others routers w → changes_of w.changed ≡ changes_kept (journal_at w.nodes 0)
reached_calls_keep_changes others routers w r =
    let o = calls_are_one_run (start others routers) w r in
    runs_with_stops_keep_changes others routers o.events (with_mail o.mail w) o.run

pub reached_calls_own_journals : (others routers : ℕ) (w : World) → Reached others routers w → HaveOwnEntries w.nodes
reached_calls_own_journals others routers w r =
    let o = calls_are_one_run (start others routers) w r in
    runs_with_stops_own_journals others routers o.events (with_mail o.mail w) o.run

pub reached_calls_replay : (others routers : ℕ) (w : World) → Reached others routers w → AllByRecursion Replays w.nodes × AllByRecursion MayOpen w.nodes
reached_calls_replay others routers w r =
    let o = calls_are_one_run (start others routers) w r in
    run_with_stops_replays others routers o.events (with_mail o.mail w) o.run

-- what a step of a call needs
pub reached_calls_hold : (others routers : ℕ) (w : World) → Reached others routers w
    → AllByRecursion HoldsOwn w.nodes × ((e : Event) (at : ℕ) (i : Input) → Gives w e at i → ComesInTime i)
reached_calls_hold others routers w r =
    let o = calls_are_one_run (start others routers) w r in
    let h = run_with_stops_holds others routers o.events (with_mail o.mail w) o.run in
    (h.0, λ e at i gives. h.1 (later_event (length o.mail) e) at i (mail_gives o.mail w e at i gives))

pub reached_calls_keep_writes : (others routers : ℕ) (w : World) → Reached others routers w → KeepsWrites w
reached_calls_keep_writes others routers w r =
    let o = calls_are_one_run (start others routers) w r in
    let k : KeepsWrites (with_mail o.mail w) = runs_with_stops_keep_writes others routers o.events (with_mail o.mail w) o.run in
    record {
      legal = k.legal;
      numbers = k.numbers;
      sent = k.sent;
      acknowledged = k.acknowledged;
      fitting = k.fitting;
      one = k.one;
      dated = k.dated;
    }

pub reached_calls_answer_once : (others routers : ℕ) (w : World) → Reached others routers w → AreDifferent (ids_told w.answered)
reached_calls_answer_once others routers w r =
    let o = calls_are_one_run (start others routers) w r in
    run_with_stops_once others routers o.events (with_mail o.mail w) o.run

pub calls_keep_journals : (u w : World) → Calls u w → KeepsJournals u w
calls_keep_journals u w calls p =
    let o = calls_are_one_run u w calls in
    run_with_stops_grows u (with_mail o.mail w) o.events o.run p

pub replays_without : (mail : List Letter) (w : World) → WorldReplays (with_mail mail w) → WorldReplays w
replays_without mail w all = record { nodes = all.nodes; reads = all.reads; letters = all_behind IsInTime mail w.sent all.letters }

pub reached_calls_may_go_on : (others routers : ℕ) (u : World) → Reached others routers u → (first : World) × BeginsOn u first
reached_calls_may_go_on others routers u r =
    let o = calls_are_one_run (start others routers) u r in
    let all : WorldReplays u =
    replays_without o.mail u (stopped_replays (start others routers) (with_mail o.mail u) o.events (start_replays others routers) o.run) in
    let s = starts_from u 0 (length u.nodes) all (omega arith) (λ j h less. absurd (omega (arith, less))) in
    (without_mail s.world, record { started = s.world; starts = s.run; counts = s.anew; then = refl })

-- NODES THAT STOP IN A CALL

-- a run is one in which no node stops
pub run_whole : (u w : World) (events : List Event) → Run u events w → RunWithStops u (wholes events) w
run_whole _ _ _ (stands w) = stays w
run_whole _ _ _ (goes u v w e events h more) = proceeds u v w (whole_event e) (wholes events) (occurs u v e h) (run_whole v w events more)

pub stops_then : (u v w : World) (before events : List EventOrStop) → RunWithStops u before v → RunWithStops v events w → RunWithStops u (before ++ events) w
stops_then _ _ w _ events (stays v) more = more
stops_then _ v w _ events (proceeds u x y e before h run) more = proceeds u x w e (before ++ events) h (stops_then x y w before events run more)

-- a call goes on
pub calls_proceed : (u v w : World) (events : List EventOrStop) → Calls u v → RunWithStops v events w → Calls u w
calls_proceed u _ w events (this_call v before run) more = this_call w (before ++ events) (stops_then u v w before events run more)
calls_proceed u _ w events (next_call x first v before earlier begins run) more =
    next_call x first w (before ++ events) earlier begins (stops_then first v w before events run more)

pub all_of_reached : (others routers : ℕ) (w : World) → Reached others routers w → WorldReplays w
all_of_reached others routers w r =
    let o = calls_are_one_run (start others routers) w r in
    replays_without o.mail w (stopped_replays (start others routers) (with_mail o.mail w) o.events (start_replays others routers) o.run)

-- each node may stop between two steps
pub reached_nodes_may_restart : (others routers at : ℕ) (w : World) (h : Held) → Reached others routers w → slice_get w.nodes at ≡ Some h
    → (v : World) × Restarts w at v
reached_nodes_may_restart others routers at w h r here =
    let node : NodeReplays h = all_got NodeReplays w.nodes at h (all_of_reached others routers w r).nodes here in (
      started_at w at h h.steps,
      record { old = h; new = became h; steps = h.steps; here = here; opens = node_opens h node.0; counts = inl refl; then = refl },
    )

-- and in the step of any event
pub reached_nodes_may_stop : (others routers at : ℕ) (w v : World) (e : Event) (i : Input) → Reached others routers w → Gives w e at i → (m : Moves w at i v)
    → (new : NodeState) × (opened_on m.old.state (m.old.kept ++ m.f.written) ≡ Some new)
reached_nodes_may_stop others routers at w v e i r gives m =
    let all = all_of_reached others routers w r in
    let input : ComesInTime i = (reached_calls_hold others routers w r).1 e at i gives in
    let follows = (move_shows w at m.old m.new i m.f all input m.here m.step).follows in
    let kept : List Kept = m.old.kept ++ m.f.written in
    let h : Held = record { state = m.new; kept = kept; steps = m.old.steps + 1 } in
    let replays : NodeReplays h = step_replays m.old m.new i m.f (m.old.steps + 1) (all_got NodeReplays w.nodes at m.old all.nodes m.here) input follows in (
      became h,
      sym (ap (λ d. option_map (opened (latest_time (records_of kept))) (replayed (Some d) (records_of kept))) follows.own) ∙ node_opens h replays.0,
    )
