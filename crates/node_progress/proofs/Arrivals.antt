-- Each request that comes is taken, once.
use Rattle.std.proofs.Common.{◌≡◌, inl, inr, ℕ, List, [], ◌∷◌, ◌++◌, map, refl, sym, ap, subst, ◌∙◌, append-nil, append_assoc}
use Rattle.std.specs.Prelude.{Some}
use Rattle.std.specs.List.{slice_get}
use Rattle.node_model.specs.Letters.{Input, client_input, letter_input, moment_input, opened_input, Taken, Effect}
use Rattle.node_model.specs.States.{Router, NodeState, catalogue_state, shard_state, router_state}
use Rattle.node_model.specs.RouterRows.{RouterRow, router_begin, router_opened, router_plain, router_more, router_no_cursor, router_kill, router_take, router_learn, router_split, router_not_sharded, router_reach, router_hear, router_ahead, router_note, router_refused, router_no_table, router_part, router_read, router_excess, router_overflow, router_late, router_skip, router_moment}
use Rattle.node_model.specs.Steps.{Step, catalogue_step, shard_step, router_step, begin_step, other_step}
use Rattle.node_model.specs.World.{Held, World, asked_by, Moves, Meets, IsRouter, Event, Happens, client_event, deliver_event, moment_event, opened_event, comes, delivers, passes, begins as was_opened, Run, stands, goes}
use Rattle.node_laws.proofs.Views.{view_of}
use Rattle.node_laws.proofs.Facts.{StateFits}
use Rattle.node_laws.proofs.Lists.{map_longer}
use Rattle.node_laws.proofs.StepsKeep.{StaysTrue, fits_here}
use Rattle.restart_laws.proofs.Kept.{event_keeps as facts_keep}
use Rattle.node_progress.specs.Arrivals.{Arrival, arrivals, arrival_of}
use Rattle.node_progress.proofs.NoneMissed.{miss_noted, first_misses_none, rest_misses_none}
use Rattle.node_progress.proofs.Takings.{catalogue_takes_none, shard_takes_none}

-- what comes in an input
abbrev arrivals_in : (node : ℕ) → Input → List Arrival
arrivals_in node (client_input link number request) = record { node = node; link = link; number = number; request = request } ∷ []
arrivals_in node (letter_input m) = []
arrivals_in node (moment_input moment) = []
arrivals_in node opened_input = []

abbrev arrived : Taken → Arrival
arrived x = record { node = x.id.router; link = x.link; number = x.number; request = x.request }

row_takes : (r u : Router) (i : Input) (f : Effect) → RouterRow r i f u → map arrived f.taken ≡ arrivals_in r.me i
row_takes _ _ _ _ (router_begin r early) = refl
row_takes _ _ _ _ (router_opened r begun) = refl
row_takes _ _ _ _ (router_plain r link number request answer begun plan) = refl
row_takes _ _ _ _ (router_more r link number request get c batch next begun plan found shows) = refl
row_takes _ _ _ _ (router_no_cursor r link number request get begun plan none) = refl
row_takes _ _ _ _ (router_kill r link number request kill killed missing next begun plan ends) = refl
row_takes _ _ _ _ (router_take r link number request namespace work begun plan) = refl
row_takes _ _ _ _ (router_learn r m namespace create at table says) = refl
row_takes _ _ _ _ (router_split r m id q middle says found work) = refl
row_takes _ _ _ _ (router_not_sharded r m id q middle says found work) = refl
row_takes _ _ _ _ (router_reach r m id q named at stages telling says found work waits le) = refl
row_takes _ _ _ _ (router_hear r m id q named at stages telling says found work waits ahead others) = refl
row_takes _ _ _ _ (router_ahead r m id q named at stages telling says found work waits ahead all) = refl
row_takes _ _ _ _ (router_note r m id dones q kind ordered statements c next says found work news is) = refl
row_takes _ _ _ _ (router_refused r m id turn first cause q next says found is) = refl
row_takes _ _ _ _ (router_no_table r m namespace create at node lack says) = refl
row_takes _ _ _ _ (router_part r m id rows q named at stages telling says found work target some) = refl
row_takes _ _ _ _ (router_read r m id rows q named at stages telling all out answer f says found work target whole got merged tells) = refl
row_takes _ _ _ _ (router_excess r m id rows n q named at stages telling says found work target whole got) = refl
row_takes _ _ _ _ (router_overflow r m id rows q named at stages telling says found work target whole got) = refl
row_takes _ _ _ _ (router_late r m late) = refl
row_takes _ _ _ _ (router_skip r m none) = refl
row_takes _ _ _ _ (router_moment r moment begun) = refl

-- the node at a place takes what comes there
abbrev IsClientOf : NodeState → Input → Type 0
IsClientOf (catalogue_state c) i = (node : ℕ) → arrivals_in node i ≡ []
IsClientOf (shard_state s) i = (node : ℕ) → arrivals_in node i ≡ []
IsClientOf (router_state r) i = Unit {0}

abbrev pub me_of : NodeState → ℕ → Type 0
me_of (catalogue_state c) at = Unit {0}
me_of (shard_state s) at = Unit {0}
me_of (router_state r) at = r.me ≡ at

step_takes : (s t : NodeState) (i : Input) (f : Effect) (at : ℕ) → IsClientOf s i → me_of s at → Step s i f t → map arrived f.taken ≡ arrivals_in at i
step_takes _ _ _ _ at client me (catalogue_step c d i f own row) = ap (λ l. map arrived l) (catalogue_takes_none c d i f row) ∙ sym (client at)
step_takes _ _ _ _ at client me (shard_step s t i f own row) = ap (λ l. map arrived l) (shard_takes_none s t i f row) ∙ sym (client at)
step_takes _ _ _ _ at client me (router_step r q i f own row) = row_takes r q i f row ∙ ap (λ n. arrivals_in n i) me
step_takes _ _ _ _ at client me (begin_step r q i f early before row) = row_takes _ q i f row ∙ ap (λ n. arrivals_in n i) me
step_takes _ _ _ _ at client me (other_step s m other) = refl

taken_arrived : (now : ℕ) (taken : List Taken) → map arrival_of (asked_by now taken) ≡ map arrived taken
taken_arrived now [] = refl
taken_arrived now (x ∷ taken) = ap (λ l. arrived x ∷ l) (taken_arrived now taken)

pub own_place : (w : World) → StaysTrue w → (at : ℕ) (h : Held) → slice_get w.nodes at ≡ Some h → me_of h.state at
own_place w good at h here = by_state h.state (fits_here w good.0.book at h good.0.good here).state
  where
    by_state : (s : NodeState) → StateFits (view_of w.nodes good.0.book) w.asked w.answered at h.kept s → me_of s at
    by_state (catalogue_state c) fits = tt
    by_state (shard_state s) fits = tt
    by_state (router_state r) fits = fits.own

-- EVENTS

move_takes : (w v : World) (at : ℕ) (i : Input) → StaysTrue w → (m : Moves w at i v) → IsClientOf m.old.state i
    → map arrival_of v.asked ≡ map arrival_of w.asked ++ arrivals_in at i
move_takes w v at i good m client =
    ap (λ (x : World). map arrival_of x.asked) m.then
    ∙ (map_longer arrival_of w.asked (asked_by w.now m.f.taken)
    ∙ ap (λ l. map arrival_of w.asked ++ l)
    (taken_arrived w.now m.f.taken ∙ step_takes m.old.state m.new i m.f at client (own_place w good at m.old m.here) m.step))

-- what brings no request may come to any node
any_client : (i : Input) → ((node : ℕ) → arrivals_in node i ≡ []) → (s : NodeState) → IsClientOf s i
any_client i none (catalogue_state c) = none
any_client i none (shard_state s) = none
any_client i none (router_state r) = tt

router_client : (w : World) (at : ℕ) (i : Input) (h : Held) → IsRouter w.nodes at → slice_get w.nodes at ≡ Some h → IsClientOf h.state i
router_client w at i h is here =
    let both : Some (record { state = router_state is.0; kept = is.1; steps = is.2 }) ≡ Some h = sym is.3 ∙ here in
    let held : record { state = router_state is.0; kept = is.1; steps = is.2 } ≡ h = cc both in
    subst (λ (x : Held). IsClientOf x.state i) held tt

-- where no step is missed
meet_takes : (w v : World) (at : ℕ) (i : Input) → StaysTrue w → v.missed ≡ w.missed → (m : Meets w at i v)
    → ((h : Held) → slice_get w.nodes at ≡ Some h → IsClientOf h.state i) → map arrival_of v.asked ≡ map arrival_of w.asked ++ arrivals_in at i
meet_takes w v at i good none (inl m) client = move_takes w v at i good m (client m.old m.here)
meet_takes w v at i good none (inr m) client = miss_noted w v at i m none

event_takes : (w v : World) (e : Event) → StaysTrue w → v.missed ≡ w.missed → Happens w e v → map arrival_of v.asked ≡ map arrival_of w.asked ++ arrivals (e ∷ [])
event_takes _ _ _ good none (comes w v at link number request is m) =
    meet_takes w v at (client_input link number request) good none m (λ h here. router_client w at (client_input link number request) h is here)
event_takes _ _ _ good none (delivers w v at which letter got to m) =
    meet_takes w v at (letter_input letter) good none m (λ h here. any_client (letter_input letter) (λ n. refl) h.state)
event_takes _ _ _ good none (passes w v at moment m) =
    meet_takes w v at (moment_input moment) good none m (λ h here. any_client (moment_input moment) (λ n. refl) h.state)
event_takes _ _ _ good none (was_opened w v at m) = meet_takes w v at opened_input good none m (λ h here. any_client opened_input (λ n. refl) h.state)

arrivals_first : (e : Event) (es : List Event) → arrivals (e ∷ es) ≡ arrivals (e ∷ []) ++ arrivals es
arrivals_first (client_event at link number request) es = refl
arrivals_first (deliver_event at which) es = refl
arrivals_first (moment_event at moment) es = refl
arrivals_first (opened_event at) es = refl

pub run_takes : (u : World) (es : List Event) (w : World) → StaysTrue u → Run u es w → w.missed ≡ u.missed → map arrival_of w.asked ≡ map arrival_of u.asked ++ arrivals es
run_takes _ _ _ good (stands w) none = sym (append-nil (map arrival_of w.asked))
run_takes _ _ _ good (goes u v w e es h run) none =
    run_takes v es w (facts_keep u v e good h) run (rest_misses_none u v w e es h run none)
    ∙ (ap (λ l. l ++ arrivals es) (event_takes u v e good (first_misses_none u v w e es h run none) h)
    ∙ (append_assoc (map arrival_of u.asked) (arrivals (e ∷ [])) (arrivals es) ∙ ap (λ l. map arrival_of u.asked ++ l) (sym (arrivals_first e es))))
