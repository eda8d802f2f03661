-- In every run, also one in which nodes stop and are started again, the journal of each node replays to its durable part.
use Rattle.std.proofs.Common.{◌≡◌, inl, inr, ℕ, ◌+◌, zero, suc, List, [], ◌∷◌, ◌++◌, refl, sym, ap, subst, ◌∙◌, arith}
use Rattle.std.specs.Prelude.{Some}
use Rattle.std.specs.List.{AllByRecursion, slice_get, slice_set}
use Rattle.history_model.proofs.Lists.{all_append, all_weaken}
use Rattle.node_model.specs.Journal.{greatest_kept}
use Rattle.node_model.specs.Letters.{Letter, Input, client_input, letter_input, moment_input, opened_input, Effect}
use Rattle.node_model.specs.States.{NodeState}
use Rattle.node_model.specs.Lacks.{misses}
use Rattle.node_model.specs.Steps.{Step}
use Rattle.node_model.specs.World.{Held, World, Moves, Misses, Meets, steps_after, Event, Happens, comes, delivers, passes, begins, Run, stands, goes, start}
use Rattle.node_replay.specs.Durable.{durable_of, empty_of}
use Rattle.node_replay.specs.Replays.{replayed, records_of}
use Rattle.node_laws.proofs.GreatestTimes.{greatest_both}
use Rattle.node_replay.specs.Holds.{Holds, HoldsOwn, Replays}
use Rattle.node_replay.specs.ReadTimes.{ReadsBy, IsInTime, ComesInTime, ReadsInTime}
use Rattle.node_replay.proofs.Missed.{IsRefusal, misses_refuse}
use Rattle.node_replay.proofs.Replay.{replayed_then}
use Rattle.node_replay.proofs.ReadTimes.{StepInTime, step_in_time}
use Rattle.node_replay.proofs.CatalogueFollows.{stored_with}
use Rattle.node_replay.proofs.Starts.{all_starts}
use Rattle.node_replay.proofs.Steps.{StepFollows, step_follows}

-- what is true of each node at every moment
abbrev pub NodeReplays : Held → Type 0
NodeReplays h = Replays h × HoldsOwn h

abbrev pub NodeReads : Held → Type 0
NodeReads h = ReadsInTime h.state

-- and of all nodes and messages
pub record WorldReplays (w : World) : Type 0 where
  pub nodes : AllByRecursion NodeReplays w.nodes
  pub reads : AllByRecursion NodeReads w.nodes
  pub letters : AllByRecursion IsInTime w.sent

-- LISTS

pub all_got : {X : Type 0} (P : X → Type 0) (xs : List X) (at : ℕ) (x : X) → AllByRecursion P xs → slice_get xs at ≡ Some x → P x
all_got P [] at x all got = absurd (cc)
all_got P (y ∷ xs) zero x all got = let e : y ≡ x = cc in subst P e all.0
all_got P (y ∷ xs) (suc at) x all got = all_got P xs at x all.1 got

pub all_set : {X : Type 0} (P : X → Type 0) (xs : List X) (at : ℕ) (x : X) → AllByRecursion P xs → P x → AllByRecursion P (slice_set xs at x)
all_set P [] at x all p = tt
all_set P (y ∷ xs) zero x all p = (p, all.1)
all_set P (y ∷ xs) (suc at) x all p = (all.0, all_set P xs at x all.1 p)

-- STEPS

pub step_replays : (old : Held) (new : NodeState) (i : Input) (f : Effect) (steps : ℕ) → NodeReplays old → ComesInTime i
    → StepFollows (greatest_kept old.kept) old.state i f new
    → NodeReplays (record { state = new; kept = old.kept ++ f.written; steps = steps })
step_replays old new i f steps (replays, holds) input s =
    let stored : stored_with (greatest_kept old.kept) f ≡ greatest_kept (old.kept ++ f.written) = sym (greatest_both old.kept f.written) in (
      subst (λ e. replayed (Some e) (records_of (old.kept ++ f.written)) ≡ Some (durable_of (greatest_kept (old.kept ++ f.written)) new)) (sym s.own)
          (replayed_then (Some (empty_of old.state)) old.kept f.written (durable_of (greatest_kept old.kept) old.state)
          (durable_of (greatest_kept (old.kept ++ f.written)) new) replays (s.leads ∙ ap (λ n. Some (durable_of n new)) stored)),
      subst (λ n. Holds n new) stored (s.holds input),
    )

-- what a step of a node of a world shows
pub record MoveShows (old : Held) (i : Input) (f : Effect) (new : NodeState) : Type 0 where
  pub follows : StepFollows (greatest_kept old.kept) old.state i f new
  pub in_time : StepInTime f new

pub move_shows : (w : World) (at : ℕ) (old : Held) (new : NodeState) (i : Input) (f : Effect) → WorldReplays w → ComesInTime i
    → slice_get w.nodes at ≡ Some old → Step old.state i f new → MoveShows old i f new
move_shows w at old new i f all input here step =
    let replays : NodeReplays old = all_got NodeReplays w.nodes at old all.nodes here in
    let reads : NodeReads old = all_got NodeReads w.nodes at old all.reads here in
    record {
      follows = step_follows (greatest_kept old.kept) old.state new i f replays.1 step;
      in_time = step_in_time old.state new i f reads input step;
    }

move_replays : (w v : World) (at : ℕ) (i : Input) → WorldReplays w → ComesInTime i → Moves w at i v → WorldReplays v
move_replays w v at i all input m =
    let old : NodeReplays m.old = all_got NodeReplays w.nodes at m.old all.nodes m.here in
    let s : MoveShows m.old i m.f m.new = move_shows w at m.old m.new i m.f all input m.here m.step in
    subst (λ (x : World). WorldReplays x) (sym m.then) (record {
      nodes = all_set NodeReplays w.nodes at (record { state = m.new; kept = m.old.kept ++ m.f.written; steps = m.old.steps + 1 }) all.nodes
          (step_replays m.old m.new i m.f (m.old.steps + 1) old input s.follows);
      reads = all_set NodeReads w.nodes at (record { state = m.new; kept = m.old.kept ++ m.f.written; steps = m.old.steps + 1 }) all.reads s.in_time.state;
      letters = all_append IsInTime w.sent m.f.mail all.letters s.in_time.letters;
    })

-- what a node returns where it takes no step reads at no time
refusal_in_time : (m : Letter) → IsRefusal m → IsInTime m
refusal_in_time m (what, cause, is) = subst (λ b. ReadsBy m.time b) (sym is) tt

miss_replays : (w v : World) (at : ℕ) (i : Input) → WorldReplays w → Misses w at i v → WorldReplays v
miss_replays w v at i all m =
    let steps : ℕ = steps_after m.lack m.old.steps in
    subst (λ (x : World). WorldReplays x) (sym m.then) (record {
      nodes = all_set NodeReplays w.nodes at (record { state = m.old.state; kept = m.old.kept; steps = steps }) all.nodes
          (all_got NodeReplays w.nodes at m.old all.nodes m.here);
      reads = all_set NodeReads w.nodes at (record { state = m.old.state; kept = m.old.kept; steps = steps }) all.reads
          (all_got NodeReads w.nodes at m.old all.reads m.here);
      letters = all_append IsInTime w.sent (misses m.old.state m.lack i).mail all.letters
          (all_weaken IsRefusal IsInTime (misses m.old.state m.lack i).mail refusal_in_time (misses_refuse m.old.state m.lack i));
    })

meets_replays : (w v : World) (at : ℕ) (i : Input) → WorldReplays w → ComesInTime i → Meets w at i v → WorldReplays v
meets_replays w v at i all input (inl m) = move_replays w v at i all input m
meets_replays w v at i all input (inr m) = miss_replays w v at i all m

pub event_replays : (w v : World) (e : Event) → WorldReplays w → Happens w e v → WorldReplays v
event_replays _ _ _ all (comes w v at link number request is m) = meets_replays w v at (client_input link number request) all tt m
event_replays _ _ _ all (delivers w v at which l got to m) =
    meets_replays w v at (letter_input l) all (all_got IsInTime w.sent which l all.letters got) m
event_replays _ _ _ all (passes w v at moment m) = meets_replays w v at (moment_input moment) all tt m
event_replays _ _ _ all (begins w v at m) = meets_replays w v at opened_input all tt m

-- RUNS

pub run_replays : (u w : World) (events : List Event) → WorldReplays u → Run u events w → WorldReplays w
run_replays _ _ _ all (stands w) = all
run_replays _ _ _ all (goes u v w e events h more) = run_replays v w events (event_replays u v e all h) more

pub start_replays : (others routers : ℕ) → WorldReplays (start others routers)
start_replays others routers = record {
  nodes = all_starts NodeReplays others routers (refl, omega arith) (λ at. (refl, omega arith)) (λ at. (refl, (omega arith, inr refl)));
  reads = all_starts NodeReads others routers tt (λ at. tt) (λ at. tt);
  letters = tt;
}
