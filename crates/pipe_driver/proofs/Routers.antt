-- A router stays one, and each message that comes next goes to a node.
use Rattle.std.proofs.Common.{◌≡◌, inl, inr, ℕ, zero, suc, ◌+◌, ◌≤◌, List, [], ◌∷◌, ◌++◌, refl, sym, ap, subst, ◌∙◌}
use Rattle.std.specs.Prelude.{Some}
use Rattle.std.specs.List.{slice_get, slice_set}
use Rattle.node_model.specs.Letters.{Input, Effect}
use Rattle.node_model.specs.States.{Router, NodeState, router_state}
use Rattle.node_model.specs.Steps.{Step, catalogue_step, shard_step, router_step, begin_step, other_step}
use Rattle.node_model.specs.World.{Held, World, IsRouter, Moves, Misses, Meets, Event, Happens, comes, delivers, passes, begins as was_opened, Run, stands, steps_after}
use Rattle.node_model.specs.World.{goes}
use Rattle.node_model.specs.Schedule.{Round, Pipes, Delivers}
use Rattle.node_model.proofs.Schedules.{pipes_run}
use Rattle.node_progress.proofs.Bags.{left_but}
use Rattle.node_progress.proofs.BagRuns.{BagIn, goes_to_node}
use Rattle.node_progress.proofs.NoneMissed.{MissedMore}
use Rattle.node_progress.proofs.Rounds.{BagAt, HasMissed, delivery_keeps}
use Rattle.driver_steps.specs.Moves.{Settles}
use Rattle.driver_steps.proofs.Runs.{settles_delivers}

-- ROUTERS

state_stays : (s : NodeState) (i : Input) (f : Effect) (t : NodeState) → Step s i f t → (r : Router) → s ≡ router_state r
    → (q : Router) × (t ≡ router_state q)
state_stays _ _ _ _ (catalogue_step c d i f own row) r is = absurd (cc is)
state_stays _ _ _ _ (shard_step s t i f own row) r is = absurd (cc is)
state_stays _ _ _ _ (router_step p q i f own row) r is = (q, refl)
state_stays _ _ _ _ (begin_step p q i f early before row) r is = (q, refl)
state_stays _ _ _ _ (other_step s m other) r is = (r, is)

set_stays : (nodes : List Held) (place at : ℕ) (old h : Held) → slice_get nodes place ≡ Some old
    → ((r : Router) → old.state ≡ router_state r → (q : Router) × (h.state ≡ router_state q)) → IsRouter nodes at → IsRouter (slice_set nodes place h) at
set_stays [] place at old h got stay is = absurd (cc got)
set_stays (x ∷ nodes) zero zero old h got stay (r, kept, steps, here) =
    let same : x ≡ old = cc got in
    let state : old.state ≡ router_state r = ap (λ (y : Held). y.state) (sym same) ∙ cc here in
    let q = stay r state in
    (q.0, h.kept, h.steps, ap (λ (s : NodeState). Some (record { state = s; kept = h.kept; steps = h.steps })) q.1)
set_stays (x ∷ nodes) zero (suc at) old h got stay is = is
set_stays (x ∷ nodes) (suc place) zero old h got stay is = is
set_stays (x ∷ nodes) (suc place) (suc at) old h got stay is = set_stays nodes place at old h got stay is

move_stays : (w v : World) (place at : ℕ) (i : Input) → Moves w place i v → IsRouter w.nodes at → IsRouter v.nodes at
move_stays w v place at i m is =
    subst (λ (x : World). IsRouter x.nodes at) (sym m.then)
    (set_stays w.nodes place at m.old (record { state = m.new; kept = m.old.kept ++ m.f.written; steps = m.old.steps + 1 }) m.here
    (λ r state. state_stays m.old.state i m.f m.new m.step r state) is)

miss_stays : (w v : World) (place at : ℕ) (i : Input) → Misses w place i v → IsRouter w.nodes at → IsRouter v.nodes at
miss_stays w v place at i m is =
    subst (λ (x : World). IsRouter x.nodes at) (sym m.then)
    (set_stays w.nodes place at m.old (record { state = m.old.state; kept = m.old.kept; steps = steps_after m.lack m.old.steps }) m.here (λ r state. (r, state)) is)

meet_stays : (w v : World) (place at : ℕ) (i : Input) → Meets w place i v → IsRouter w.nodes at → IsRouter v.nodes at
meet_stays w v place at i (inl m) is = move_stays w v place at i m is
meet_stays w v place at i (inr m) is = miss_stays w v place at i m is

pub happens_stays : (w v : World) (e : Event) (at : ℕ) → Happens w e v → IsRouter w.nodes at → IsRouter v.nodes at
happens_stays _ _ _ p (comes w v at link number request router m) is = meet_stays w v at p _ m is
happens_stays _ _ _ p (delivers w v at which letter got to m) is = meet_stays w v at p _ m is
happens_stays _ _ _ p (passes w v at moment m) is = meet_stays w v at p _ m is
happens_stays _ _ _ p (was_opened w v at m) is = meet_stays w v at p _ m is

pub run_stays : (u : World) (es : List Event) (w : World) (at : ℕ) → Run u es w → IsRouter u.nodes at → IsRouter w.nodes at
run_stays _ _ _ at (stands w) is = is
run_stays _ _ _ at (goes u v w e es h run) is = run_stays v es w at run (happens_stays u v e at h is)

-- the connection's router is there after each round
pub router_there : (first : World) (router : ℕ) (rounds : List Round) (events : List Event) (w : World) (next : ℕ) → IsRouter first.nodes router
    → Pipes first rounds events w next → IsRouter w.nodes router
router_there first router rounds events w next there pipes =
    run_stays first events w router (pipes_run first rounds events w next pipes) there

-- MESSAGES

-- the messages from a place on are left
abbrev AreLeftFrom : (first w : World) → (next : ℕ) → Type 0
AreLeftFrom first w next = MissedMore first w × BagIn (left_but (λ k. next ≤ k) (HasMissed first w)) w

-- each message goes to a node, so none of a round is lost
pub none_lost : (first u : World) (next : ℕ) (events : List Event) (w : World) (later : ℕ) → BagAt first u next → Settles u next events w later
    → Delivers u next events w later
none_lost first u next events w later bag settles =
    settles_delivers (λ (v : World) (n : ℕ). AreLeftFrom first v n)
    (λ v n m b got. goes_to_node (left_but (λ k. n ≤ k) (HasMissed first v)) v n m b.1 got)
    (λ v x n at b h. let c = delivery_keeps first v x n at (record { more = b.0; here = b.1 }) h in (c.more, c.here))
    u next events w later (bag.more, bag.here) settles
