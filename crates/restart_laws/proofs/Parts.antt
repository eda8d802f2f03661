-- What each node is where its journal is empty stays, also where nodes stop and are started again.
use Rattle.std.proofs.Common.{◌≡◌, inl, inr, ℕ, zero, suc, ◌+◌, List, [], ◌∷◌, ◌++◌, refl, sym, ap, subst, ◌∙◌}
use Rattle.std.specs.Prelude.{Some}
use Rattle.std.specs.List.{slice_get, slice_set}
use Rattle.std.specs.Option.{option_map}
use Rattle.node_model.specs.Journal.{Kept, greatest_kept}
use Rattle.node_model.specs.Letters.{Input, client_input, letter_input, moment_input, opened_input}
use Rattle.node_model.specs.States.{NodeState}
use Rattle.node_model.specs.World.{Held, World, Moves, steps_after, Meets, Event, Happens, comes, delivers, passes, begins}
use Rattle.node_replay.specs.Durable.{DurableState, empty_of}
use Rattle.node_replay.specs.Holds.{Replays}
use Rattle.node_replay.specs.Openings.{opened, opened_on}
use Rattle.node_replay.specs.ReadTimes.{ComesInTime}
use Rattle.node_replay.specs.Replays.{latest_time, records_of, replayed}
use Rattle.node_replay.specs.Restarts.{Restarts, Stops, EventOrStop, Occurs, occurs, restarts, stops, RunWithStops, stays, proceeds}
use Rattle.node_replay.proofs.Restarts.{given_in_time, occurs_replays, opened_is, opened_own}
use Rattle.node_replay.proofs.Runs.{NodeReplays, WorldReplays, all_got, step_replays}
use Rattle.node_replay.proofs.Steps.{StepFollows, step_follows}
use Rattle.restart_laws.specs.Calls.{Reached}
use Rattle.restart_laws.proofs.ReachedCalls.{all_of_reached}

abbrev pub AreParts : (part : ℕ → DurableState) → List Held → Type 0
AreParts part nodes = (at : ℕ) (h : Held) → slice_get nodes at ≡ Some h → empty_of h.state ≡ part at

parts_set : (part : ℕ → DurableState) (nodes : List Held) (at : ℕ) (old new : Held) → AreParts part nodes → slice_get nodes at ≡ Some old
    → empty_of new.state ≡ empty_of old.state → AreParts part (slice_set nodes at new)
parts_set part [] at old new all here same k h got = absurd (cc got)
parts_set part (x ∷ nodes) zero old new all here same zero h got =
    let one : new ≡ h = cc got in
    subst (λ (z : Held). empty_of z.state ≡ part zero) one (same ∙ all zero old here)
parts_set part (x ∷ nodes) zero old new all here same (suc k) h got = all (suc k) h got
parts_set part (x ∷ nodes) (suc at) old new all here same zero h got = all zero h got
parts_set part (x ∷ nodes) (suc at) old new all here same (suc k) h got =
    parts_set (λ n. part (suc n)) nodes at old new (λ n. all (suc n)) here same k h got

-- a node that is started is what the one was that stopped
started_own : (h : Held) (new : NodeState) → Replays h → opened_on h.state h.kept ≡ Some new → empty_of new ≡ empty_of h.state
started_own h new replays opens =
    ap (λ s. empty_of s) (sym (opened_is h new replays opens)) ∙ opened_own (latest_time (records_of h.kept)) (greatest_kept h.kept) h.state

module _ (part : ℕ → DurableState) where
  move_parts : (w v : World) (at : ℕ) (i : Input) → WorldReplays w → AreParts part w.nodes → Moves w at i v → AreParts part v.nodes
  move_parts w v at i all parts m =
      let old : NodeReplays m.old = all_got NodeReplays w.nodes at m.old all.nodes m.here in
      let follows : StepFollows (greatest_kept m.old.kept) m.old.state i m.f m.new =
      step_follows (greatest_kept m.old.kept) m.old.state m.new i m.f old.1 m.step in
      subst (λ (x : World). AreParts part x.nodes) (sym m.then)
      (parts_set part w.nodes at m.old (record { state = m.new; kept = m.old.kept ++ m.f.written; steps = m.old.steps + 1 }) parts m.here follows.own)

  -- a node that takes no step is as it was
  meets_parts : (w v : World) (at : ℕ) (i : Input) → WorldReplays w → AreParts part w.nodes → Meets w at i v → AreParts part v.nodes
  meets_parts w v at i all parts (inl m) = move_parts w v at i all parts m
  meets_parts w v at i all parts (inr m) =
      subst (λ (x : World). AreParts part x.nodes) (sym m.then)
      (parts_set part w.nodes at m.old (record { state = m.old.state; kept = m.old.kept; steps = steps_after m.lack m.old.steps }) parts m.here refl)

  event_parts : (w v : World) (e : Event) → WorldReplays w → AreParts part w.nodes → Happens w e v → AreParts part v.nodes
  event_parts _ _ _ all parts (comes w v at link number request is m) = meets_parts w v at (client_input link number request) all parts m
  event_parts _ _ _ all parts (delivers w v at which l got to m) = meets_parts w v at (letter_input l) all parts m
  event_parts _ _ _ all parts (passes w v at moment m) = meets_parts w v at (moment_input moment) all parts m
  event_parts _ _ _ all parts (begins w v at m) = meets_parts w v at opened_input all parts m

  restart_parts : (w v : World) (at : ℕ) → WorldReplays w → AreParts part w.nodes → Restarts w at v → AreParts part v.nodes
  restart_parts w v at all parts m =
      let old : NodeReplays m.old = all_got NodeReplays w.nodes at m.old all.nodes m.here in
      subst (λ (x : World). AreParts part x.nodes) (sym m.then)
      (parts_set part w.nodes at m.old (record { state = m.new; kept = m.old.kept ++ []; steps = m.steps }) parts m.here
      (started_own m.old m.new old.0 m.opens))

  stop_parts : (w v : World) (at : ℕ) (i : Input) → WorldReplays w → AreParts part w.nodes → ComesInTime i → Stops w at i v → AreParts part v.nodes
  stop_parts w v at i all parts input m =
      let old : NodeReplays m.old = all_got NodeReplays w.nodes at m.old all.nodes m.here in
      let follows : StepFollows (greatest_kept m.old.kept) m.old.state i m.f m.reached =
      step_follows (greatest_kept m.old.kept) m.old.state m.reached i m.f old.1 m.step in
      let kept : List Kept = m.old.kept ++ m.f.written in
      let opens : opened_on m.reached kept ≡ Some m.new =
      ap (λ e. option_map (opened (latest_time (records_of kept))) (replayed (Some e) (records_of kept))) follows.own ∙ m.opens in
      let now : NodeReplays (record { state = m.reached; kept = kept; steps = m.old.steps + 1 }) =
      step_replays m.old m.reached i m.f (m.old.steps + 1) old input follows in
      subst (λ (x : World). AreParts part x.nodes) (sym m.then)
      (parts_set part w.nodes at m.old (record { state = m.new; kept = kept; steps = m.old.steps + 1 }) parts m.here
      (started_own (record { state = m.reached; kept = kept; steps = m.old.steps + 1 }) m.new now.0 opens ∙ follows.own))

  occurs_parts : (w v : World) (e : EventOrStop) → WorldReplays w → AreParts part w.nodes → Occurs w e v → AreParts part v.nodes
  occurs_parts _ _ _ all parts (occurs w v e h) = event_parts w v e all parts h
  occurs_parts _ _ _ all parts (restarts w v at m) = restart_parts w v at all parts m
  occurs_parts _ _ _ all parts (stops w v at e i gives m) = stop_parts w v at i all parts (given_in_time w e at i all gives) m

  run_parts : (u w : World) (events : List EventOrStop) → WorldReplays u → AreParts part u.nodes → RunWithStops u events w → AreParts part w.nodes
  run_parts _ _ _ all parts (stays w) = parts
  run_parts _ _ _ all parts (proceeds u v w e events h more) =
      run_parts v w events (occurs_replays u v e all h) (occurs_parts u v e all parts h) more

  -- what a call does from a world on that calls lead to
  pub reached_parts : (others routers : ℕ) (u w : World) (events : List EventOrStop) → Reached others routers u → AreParts part u.nodes
      → RunWithStops u events w → AreParts part w.nodes
  reached_parts others routers u w events r parts run = run_parts u w events (all_of_reached others routers u r) parts run
