-- What was stored and acknowledged stays in every run with stops.
use Rattle.std.proofs.Common.{◌≡◌, inl, inr, ℕ, ◌+◌, ◌≤◌, List, [], ◌∷◌, ◌++◌, refl, sym, ap, subst, ◌∙◌, arith, append-nil}
use Rattle.std.specs.Prelude.{Bool, true, false, Some}
use Rattle.std.specs.List.{AllByRecursion, slice_get, slice_set}
use Rattle.std.specs.Option.{option_map}
use Rattle.chunk_model.specs.Placement.{AreFitting}
use Rattle.history_model.proofs.Lists.{all_weaken, all_at}
use Rattle.history_model.specs.History.{Entry, IsIn}
use Rattle.reply_model.specs.Exchanges.{Asked}
use Rattle.reply_model.specs.Accounts.{changes_in}
use Rattle.reply_model.specs.OneHistory.{ids_asked, AreDifferent}
use Rattle.node_model.specs.Journal.{Kept, changes_kept, greatest_kept}
use Rattle.node_model.specs.Letters.{Letter, Input, client_input, letter_input, moment_input, opened_input, Effect, nothing}
use Rattle.node_model.specs.States.{NodeState, catalogue_state, shard_state, router_state}
use Rattle.node_model.specs.Lacks.{misses}
use Rattle.node_model.specs.Steps.{Step}
use Rattle.node_model.specs.World.{Held, World, Moves, Misses, Meets, steps_after, Event, Happens, comes, delivers, passes, begins, start, journal_at, history_of, asked_by}
use Rattle.node_laws.proofs.Facts.{IsBy}
use Rattle.node_laws.proofs.Places.{EachAt, each_get}
use Rattle.node_laws.proofs.StepsKeep.{got_is_in}
use Rattle.node_replay.specs.Acknowledged.{IsStored}
use Rattle.node_replay.specs.Durable.{durable_of, next_life, catalogue_part}
use Rattle.node_replay.specs.ReadTimes.{ComesInTime}
use Rattle.node_replay.specs.Openings.{opened, opened_on}
use Rattle.node_replay.specs.Replays.{replayed, records_of, latest_time}
use Rattle.node_replay.specs.Restarts.{Restarts, Stops, Gives, gives_request, gives_message, gives_moment, gives_opening, cut_off, EventOrStop, Occurs, occurs, restarts, stops, RunWithStops, stays, proceeds}
use Rattle.node_replay.proofs.CatalogueHistories.{catalogue_changes}
use Rattle.node_replay.proofs.Missed.{IsRefusal, misses_refuse}
use Rattle.node_replay.proofs.Restarts.{opened_is, given_in_time, occurs_replays}
use Rattle.node_replay.proofs.Runs.{NodeReplays, WorldReplays, MoveShows, move_shows, all_got, step_replays, start_replays}
use Rattle.node_replay.proofs.ShardStays.{InputStays}
use Rattle.node_replay.proofs.Starts.{places_each}
use Rattle.node_replay.proofs.StayFacts.{BodyStays, LetterStays, StateStays, HeldStays, Grows}
use Rattle.node_replay.proofs.WorldStays.{StepStays, step_stays, state_grows, ListsStay, WorldStays, with_step, stored_stays, stored_here, world_after}

-- A START

-- of a life that ended nothing is left
ended : (life now : ℕ) (begun : Bool) (P Q : Type 0) → IsBy life now begun P → IsBy life (next_life now begun) false Q
ended life now true P Q (inl less) = inl (omega arith)
ended life now true P Q (inr (e, is, p)) = inl (omega arith)
ended life now false P Q (inl less) = inl less
ended life now false P Q (inr (e, is, p)) = absurd (cc)

opened_stays : (asked : List Asked) (history : List Entry) (at : ℕ) (kept : List Kept) (time stored : ℕ) (s : NodeState)
    → StateStays asked history at kept s → StateStays asked history at kept (opened time (durable_of stored s))
opened_stays asked history at kept time stored (catalogue_state c) s = record { own = s.own; place = s.place; changes = s.changes; keyed = s.keyed }
opened_stays asked history at kept time stored (shard_state x) s = record { own = s.own; place = s.place; entries = s.entries; parked = tt }
opened_stays asked history at kept time stored (router_state r) s = record {
  own = s.own;
  place = s.place;
  requests = tt;
  counted = all_weaken (λ (a : Asked). a.id.router ≡ at → IsBy a.id.life r.life r.begun (a.id.count ≤ r.count))
      (λ (a : Asked). a.id.router ≡ at → IsBy a.id.life (next_life r.life r.begun) false (a.id.count ≤ 0)) asked
      (λ a c e. ended a.id.life r.life r.begun (a.id.count ≤ r.count) (a.id.count ≤ 0) (c e)) s.counted;
}

-- EVENTS

-- the node at a place
pub here_stays : (w : World) (at : ℕ) (old : Held) → WorldStays w → slice_get w.nodes at ≡ Some old
    → StateStays w.asked (history_of w.nodes) at old.kept old.state
here_stays w at old stay here =
    let zero_at : 0 + at ≡ at = omega arith in
    subst (λ n. HeldStays w.asked (history_of w.nodes) n old) zero_at (each_get (HeldStays w.asked (history_of w.nodes)) 0 at w.nodes old stay.each here)

-- a step of it, before a state that it becomes
taken_step : (w : World) (at : ℕ) (i : Input) (old : Held) (f : Effect) (steps : ℕ) (reached new : NodeState) → WorldStays w → NodeReplays old
    → InputStays w.asked (history_of w.nodes) i → slice_get w.nodes at ≡ Some old
    → Step old.state i f reached
    → StepStays w.asked (history_of (with_step w.nodes at old f.written steps new)) w.now at old.kept f reached
taken_step w at i old f steps reached new stay replays input here step =
    step_stays w.asked (history_of w.nodes) (history_of (with_step w.nodes at old f.written steps new)) (stored_stays w.nodes at old f.written steps new here)
    w.now at (greatest_kept old.kept) old.kept old.state reached i f stay.one (stored_here w.nodes at old f.written steps new here)
    (here_stays w at old stay here)
    replays.1 input step

move_stays : (w v : World) (at : ℕ) (i : Input) → WorldStays w → WorldReplays w → InputStays w.asked (history_of w.nodes) i → Moves w at i v
    → WorldStays v
move_stays w v at i stay all input m =
    let s = taken_step w at i m.old m.f (m.old.steps + 1) m.new m.new stay (all_got NodeReplays w.nodes at m.old all.nodes m.here) input m.here m.step in
    subst (λ x. WorldStays x) (sym m.then)
    (world_after w at m.old m.f (m.old.steps + 1) m.new stay m.here m.f.mail m.f.replies s.changes s.node s.letters s.told s.one s.here)

-- a node that takes no step stays as it is, and sends refusals
refusal_stays : (asked : List Asked) (history : List Entry) (m : Letter) → IsRefusal m → LetterStays asked history m
refusal_stays asked history m (what, cause, is) = subst (λ b. BodyStays asked history b) (sym is) tt

miss_stays : (w v : World) (at : ℕ) (i : Input) → WorldStays w → Misses w at i v → WorldStays v
miss_stays w v at i stay m =
    let steps : ℕ = steps_after m.lack m.old.steps in
    let mail : List Letter = (misses m.old.state m.lack i).mail in
    let after : List Entry = history_of (with_step w.nodes at m.old [] steps m.old.state) in
    let g : Grows w.asked (w.asked ++ []) (history_of w.nodes) after =
    record { taken = λ a i. subst (λ l. IsIn a l) (sym (append-nil w.asked)) i; stored = stored_stays w.nodes at m.old [] steps m.old.state m.here } in
    let now = state_grows w.asked [] (history_of w.nodes) after g at m.old.kept m.old.state tt (here_stays w at m.old stay m.here) in
    subst (λ x. WorldStays x) (sym m.then)
    (subst (λ k. ListsStay (slice_set w.nodes at (record { state = m.old.state; kept = k; steps = steps })) (w.sent ++ mail) w.asked w.answered w.changed)
    (append-nil m.old.kept)
    (subst (λ l. ListsStay (with_step w.nodes at m.old [] steps m.old.state) (w.sent ++ mail) l w.answered w.changed) (append-nil w.asked)
    (subst (λ l. ListsStay (with_step w.nodes at m.old [] steps m.old.state) (w.sent ++ mail) (w.asked ++ []) l w.changed) (append-nil w.answered)
    (world_after w at m.old nothing steps m.old.state stay m.here mail [] (inr tt)
    (subst (λ k. StateStays (w.asked ++ []) after at k m.old.state) (sym (append-nil m.old.kept)) now)
    (all_weaken IsRefusal (LetterStays (w.asked ++ []) after) mail (λ x is. refusal_stays (w.asked ++ []) after x is) (misses_refuse m.old.state m.lack i))
    tt (subst (λ l. AreDifferent (ids_asked l)) (sym (append-nil w.asked)) stay.one) tt))))

meets_stays : (w v : World) (at : ℕ) (i : Input) → WorldStays w → WorldReplays w → InputStays w.asked (history_of w.nodes) i → Meets w at i v
    → WorldStays v
meets_stays w v at i stay all input (inl m) = move_stays w v at i stay all input m
meets_stays w v at i stay all input (inr m) = miss_stays w v at i stay m

-- a message that was sent
sent_stays : (w : World) (which : ℕ) (m : Letter) → WorldStays w → slice_get w.sent which ≡ Some m → LetterStays w.asked (history_of w.nodes) m
sent_stays w which m stay got = all_at (LetterStays w.asked (history_of w.nodes)) m w.sent stay.letters (got_is_in w.sent which m got)

event_stays : (w v : World) (e : Event) → WorldStays w → WorldReplays w → Happens w e v → WorldStays v
event_stays _ _ _ stay all (comes w v at link number request is m) = meets_stays w v at (client_input link number request) stay all tt m
event_stays _ _ _ stay all (delivers w v at which l got to m) = meets_stays w v at (letter_input l) stay all (sent_stays w which l stay got) m
event_stays _ _ _ stay all (passes w v at moment m) = meets_stays w v at (moment_input moment) stay all tt m
event_stays _ _ _ stay all (begins w v at m) = meets_stays w v at opened_input stay all tt m

restart_stays : (w v : World) (at : ℕ) → WorldStays w → WorldReplays w → Restarts w at v → WorldStays v
restart_stays w v at stay all m =
    let replays : NodeReplays m.old = all_got NodeReplays w.nodes at m.old all.nodes m.here in
    let g : Grows w.asked (w.asked ++ []) (history_of w.nodes) (history_of (with_step w.nodes at m.old [] m.steps m.new)) =
    record { taken = λ a i. subst (λ l. IsIn a l) (sym (append-nil w.asked)) i; stored = stored_stays w.nodes at m.old [] m.steps m.new m.here } in
    let old = state_grows w.asked [] (history_of w.nodes) (history_of (with_step w.nodes at m.old [] m.steps m.new)) g at m.old.kept m.old.state tt
    (here_stays w at m.old stay m.here) in
    let now = opened_stays (w.asked ++ []) (history_of (with_step w.nodes at m.old [] m.steps m.new)) at m.old.kept
    (latest_time (records_of m.old.kept)) (greatest_kept m.old.kept) m.old.state old in
    subst (λ x. WorldStays x) (sym m.then)
    (world_after w at m.old nothing m.steps m.new stay m.here [] [] (inr tt)
    (subst (λ k. StateStays (w.asked ++ []) (history_of (with_step w.nodes at m.old [] m.steps m.new)) at k m.new) (sym (append-nil m.old.kept))
    (subst (λ s. StateStays (w.asked ++ []) (history_of (with_step w.nodes at m.old [] m.steps m.new)) at m.old.kept s)
    (opened_is m.old m.new replays.0 m.opens) now))
    tt tt (subst (λ l. AreDifferent (ids_asked l)) (sym (append-nil w.asked)) stay.one) tt)

stop_stays : (w v : World) (at : ℕ) (i : Input) → WorldStays w → WorldReplays w → InputStays w.asked (history_of w.nodes) i → ComesInTime i → Stops w at i v
    → WorldStays v
stop_stays w v at i stay all input in_time m =
    let replays : NodeReplays m.old = all_got NodeReplays w.nodes at m.old all.nodes m.here in
    let shows : MoveShows m.old i m.f m.reached = move_shows w at m.old m.reached i m.f all in_time m.here m.step in
    let after : NodeReplays (record { state = m.reached; kept = m.old.kept ++ m.f.written; steps = m.old.steps + 1 }) =
    step_replays m.old m.reached i m.f (m.old.steps + 1) replays in_time shows.follows in
    let opens : opened_on m.reached (m.old.kept ++ m.f.written) ≡ Some m.new =
    ap (λ e. option_map (opened (latest_time (records_of (m.old.kept ++ m.f.written)))) (replayed (Some e) (records_of (m.old.kept ++ m.f.written))))
    shows.follows.own
    ∙ m.opens in
    let s = taken_step w at i m.old m.f (m.old.steps + 1) m.reached m.new stay replays input m.here m.step in
    subst (λ x. WorldStays x) (sym m.then)
    (world_after w at m.old (cut_off m.f) (m.old.steps + 1) m.new stay m.here [] [] s.changes
    (subst (λ x. StateStays (w.asked ++ asked_by w.now m.f.taken) (history_of (with_step w.nodes at m.old m.f.written (m.old.steps + 1) m.new)) at (m.old.kept ++ m.f.written) x)
    (opened_is (record { state = m.reached; kept = m.old.kept ++ m.f.written; steps = m.old.steps + 1 }) m.new after.0 opens)
    (opened_stays (w.asked ++ asked_by w.now m.f.taken) (history_of (with_step w.nodes at m.old m.f.written (m.old.steps + 1) m.new)) at (m.old.kept ++ m.f.written)
    (latest_time (records_of (m.old.kept ++ m.f.written))) (greatest_kept (m.old.kept ++ m.f.written)) m.reached s.node))
    tt tt s.one s.here)

given_stays : (w : World) (e : Event) (at : ℕ) (i : Input) → WorldStays w → Gives w e at i → InputStays w.asked (history_of w.nodes) i
given_stays w _ _ _ stay (gives_request at link number request is) = tt
given_stays w _ _ _ stay (gives_message at which m got to) = sent_stays w which m stay got
given_stays w _ _ _ stay (gives_moment at moment) = tt
given_stays w _ _ _ stay (gives_opening at) = tt

pub occurs_stays : (w v : World) (e : EventOrStop) → WorldStays w → WorldReplays w → Occurs w e v → WorldStays v
occurs_stays _ _ _ stay all (occurs w v e h) = event_stays w v e stay all h
occurs_stays _ _ _ stay all (restarts w v at m) = restart_stays w v at stay all m
occurs_stays _ _ _ stay all (stops w v at e i gives m) = stop_stays w v at i stay all (given_stays w e at i stay gives) (given_in_time w e at i all gives) m

-- RUNS

run_stays : (u w : World) (events : List EventOrStop) → WorldStays u → WorldReplays u → RunWithStops u events w
    → WorldStays w × WorldReplays w
run_stays _ _ _ stay all (stays w) = (stay, all)
run_stays _ _ _ stay all (proceeds u v w e events h more) = run_stays v w events (occurs_stays u v e stay all h) (occurs_replays u v e all h) more

pub start_stays : (others routers : ℕ) → WorldStays (start others routers)
start_stays others routers = record {
  each = places_each (HeldStays [] (history_of (start others routers).nodes)) others routers
      (record { own = refl; place = refl; changes = refl; keyed = tt })
      (λ j le less. record { own = refl; place = omega (arith, le); entries = refl; parked = tt })
      (λ j le. record { own = refl; place = omega (arith, le); requests = tt; counted = tt });
  letters = tt;
  told = tt;
  one = tt;
  dated = refl;
}

-- WHAT IS KEPT

-- the catalogue's part
catalogue_keeps : (asked : List Asked) (history : List Entry) (kept : List Kept) (steps : ℕ) (s : NodeState) → StateStays asked history 0 kept s
    → NodeReplays (record { state = s; kept = kept; steps = steps }) → AreFitting (changes_kept kept)
catalogue_keeps asked history kept steps (shard_state x) stay replays = let e = stay.place in absurd (omega arith)
catalogue_keeps asked history kept steps (router_state r) stay replays = let l = stay.place in absurd (omega arith)
catalogue_keeps asked history kept steps (catalogue_state c) stay replays =
    let h = catalogue_changes c.me (records_of kept) (catalogue_part (greatest_kept kept) c) stay.keyed replays.0 in
    subst (λ l. AreFitting l) stay.changes h.fitting

catalogue_of_nodes : (asked : List Asked) (history : List Entry) (nodes : List Held) → EachAt (HeldStays asked history) 0 nodes
    → AllByRecursion NodeReplays nodes → AreFitting (changes_kept (journal_at nodes 0))
catalogue_of_nodes asked history [] stay all = tt
catalogue_of_nodes asked history (c ∷ nodes) stay all = catalogue_keeps asked history c.kept c.steps c.state stay.0 all.0

-- what is kept of writes, whichever journals store their entries
pub record WritesStay (w : World) : Type 0 where
  pub acknowledged : AllByRecursion (IsStored (history_of w.nodes)) w.answered
  pub fitting : AreFitting (changes_kept (journal_at w.nodes 0))
  pub one : AreDifferent (ids_asked w.asked)
  pub dated : changes_in w.changed ≡ changes_kept (journal_at w.nodes 0)

pub run_with_stops_stays : (others routers : ℕ) (events : List EventOrStop) (w : World) → RunWithStops (start others routers) events w → WritesStay w
run_with_stops_stays others routers events w run =
    let r = run_stays (start others routers) w events (start_stays others routers) (start_replays others routers) run in
    record {
      acknowledged = r.0.told;
      fitting = catalogue_of_nodes w.asked (history_of w.nodes) w.nodes r.0.each r.1.nodes;
      one = r.0.one;
      dated = r.0.dated;
    }
