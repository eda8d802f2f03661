-- What the logs keep after a fault, and its status.
use Rattle.std.proofs.Common.{◌≡◌, ◌⊎◌, inl, inr, List, [], ◌∷◌, ◌++◌, refl, sym, ap, subst, ◌∙◌, append_assoc}
use Rattle.node_model.specs.World.{World, Event, Happens, Run, stands, goes}
use Rattle.node_model.proofs.Schedules.{run_then}
use Rattle.node_replay.specs.Restarts.{EventOrStop, Occurs, occurs, stays, whole_event}
use Rattle.restart_laws.specs.Calls.{wholes}
use Rattle.restart_laws.proofs.ReachedCalls.{run_whole}
use Rattle.node_traits.specs.declared.outputs.NotTaken.{NotTaken}
use Rattle.node_traits.specs.declared.outputs.NotTaken.TheVariants.{Disk, Steps, Memory}
use Rattle.node_traits.specs.declared.outputs.ToLink.{ToLink}
use Rattle.driver_steps.specs.Seats.{Hosted, SeatView}
use Rattle.driver_steps.specs.Worlds.{NetworkView, StandsFor}
use Rattle.driver_steps.specs.Moves.{HasStopped, IsUpTo}
use Rattle.driver_steps.specs.Restarts.{HasFailed}
use Rattle.driver_steps.proofs.Seats.{held_kept}
use Rattle.pipe_driver.specs.Stops.{status_for}
use Rattle.pipe_driver.specs.declared.status.Status.{Status}
use Rattle.pipe_driver.specs.declared.status.Status.TheVariants as statuses
use Rattle.pipe_driver.proofs.Serving.{kept_at}
use Rattle.sim_driver.specs.LineOutcomes.{IsCutIn, IsLastIn}
use Rattle.sim_driver.specs.Moves.{AreStill, IsCut, IsLastOf}

-- nothing happened where the world models all
pub still : {S : Type 0} (view : S → SeatView) (hosts : Hosted S) (network : NetworkView) (handed : List ToLink) (w : World)
    → StandsFor view hosts network handed w 0 → AreStill view hosts w
still view hosts network handed w s = record { nodes = s.nodes; crashes = s.crashes }

-- one event more
pub run_more : (u : World) (events : List Event) (v : World) (e : Event) (w : World) → Run u events v → Happens v e w → Run u (events ++ e ∷ []) w
run_more u events v e w run more = run_then u events v (e ∷ []) w run (goes v w w e [] more (stands w))

-- the world up to which a crash may have left what the nodes keep
pub last_of : (fault : NotTaken) (status : Status) → status ≡ status_for fault → (end last : World) (events events' : List Event)
    (P Q : List Event → Type 0) → ((e : Event) → P (events ++ e ∷ []) → Q (events' ++ e ∷ []))
    → IsUpTo fault end last ((e : Event) × P (events ++ e ∷ []) × Happens end e last) → IsLastOf status events' Q end last
last_of (Disk faults) status is end last events events' P Q says (inl same) = inl same
last_of (Disk faults) status is end last events events' P Q says (inr (e, has, h)) = inr (is, e, says e has, h)
last_of Steps status is end last events events' P Q says same = inl same
last_of Memory status is end last events events' P Q says same = inl same

pub last_as : (status : Status) (end last : World) (events events' : List Event) (P Q : List Event → Type 0)
    → ((e : Event) → P (events ++ e ∷ []) → Q (events' ++ e ∷ [])) → IsLastOf status events P end last → IsLastOf status events' Q end last
last_as status end last events events' P Q says (inl same) = inl same
last_as status end last events events' P Q says (inr (is, e, has, h)) = inr (is, e, says e has, h)

-- what holds of events after others
behind : (es more : List Event) (e : Event) (Q : List Event → Type 0) → Q (es ++ (more ++ e ∷ [])) → Q ((es ++ more) ++ e ∷ [])
behind es more e Q has = subst (λ (l : List Event). Q l) (sym (append_assoc es more (e ∷ []))) has

-- events, and then a fault of a step
pub cut_behind : {S : Type 0} (view : S → SeatView) (hosts : Hosted S) (replies handed : List ToLink) (u : World) (es : List Event) (w : World)
    (P Q : List Event → Type 0) (fault : NotTaken) (status : Status) → status ≡ status_for fault → Run u es w
    → ((more : List Event) → P more → Q (es ++ more)) → HasStopped view hosts replies handed w P fault → IsCut view hosts u Q status
cut_behind view hosts replies handed u es w P Q fault status is run all s = record {
  events = es ++ s.events;
  end = s.end;
  which = all s.events s.which;
  run = run_then u es w s.events s.end run s.run;
  kept = kept_at fault view hosts s.end s.nodes;
  last = s.last;
  is_last = last_of fault status is s.end s.last s.events (es ++ s.events) P Q (λ e has. behind es s.events e Q (all (s.events ++ e ∷ []) has)) s.up_to;
  crashes = s.crashes;
}

-- events, and then a fault that is none of a step
pub cut_here : {S : Type 0} (view : S → SeatView) (hosts : Hosted S) (u : World) (es : List Event) (w : World) (Q : List Event → Type 0) (status : Status)
    → Run u es w → Q es → AreStill view hosts w → IsCut view hosts u Q status
cut_here view hosts u es w Q status run which are = record {
  events = es;
  end = w;
  which = which;
  run = run;
  kept = held_kept view hosts.seats w.nodes are.nodes;
  last = w;
  is_last = inl refl;
  crashes = are.crashes;
}

pub cut_then : {S : Type 0} (view : S → SeatView) (hosts : Hosted S) (u : World) (es : List Event) (w : World) (P Q : List Event → Type 0) (status : Status)
    → Run u es w → ((more : List Event) → P more → Q (es ++ more)) → IsCut view hosts w P status → IsCut view hosts u Q status
cut_then view hosts u es w P Q status run all c = record {
  events = es ++ c.events;
  end = c.end;
  which = all c.events c.which;
  run = run_then u es w c.events c.end run c.run;
  kept = c.kept;
  last = c.last;
  is_last = last_as status c.end c.last c.events (es ++ c.events) P Q (λ e has. behind es c.events e Q (all (c.events ++ e ∷ []) has)) c.is_last;
  crashes = c.crashes;
}

-- the same events, said otherwise
pub cut_as : {S : Type 0} (view : S → SeatView) (hosts : Hosted S) (u : World) (P Q : List Event → Type 0) (status : Status)
    → ((events : List Event) → P events → Q events) → IsCut view hosts u P status → IsCut view hosts u Q status
cut_as view hosts u P Q status says c = record {
  events = c.events;
  end = c.end;
  which = says c.events c.which;
  run = c.run;
  kept = c.kept;
  last = c.last;
  is_last = last_as status c.end c.last c.events c.events P Q (λ e has. says (c.events ++ e ∷ []) has) c.is_last;
  crashes = c.crashes;
}

pub one_of_two : (fault : NotTaken) (status : Status) → status ≡ status_for fault → (status ≡ statuses.DiskFailed) ⊎ (status ≡ statuses.OutOfMemory)
one_of_two (Disk faults) status is = inl is
one_of_two Steps status is = inr is
one_of_two Memory status is = inr is

-- WITH STOPS

wholes_push : (events : List Event) (e : Event) → wholes (events ++ e ∷ []) ≡ wholes events ++ whole_event e ∷ []
wholes_push [] e = refl
wholes_push (x ∷ events) e = ap (λ (l : List EventOrStop). whole_event x ∷ l) (wholes_push events e)

-- events among which no node stops
pub cut_in : {S : Type 0} (view : S → SeatView) (hosts : Hosted S) (u : World) (P : List Event → Type 0) (Q : List EventOrStop → Type 0) (status : Status)
    → ((events : List Event) → P events → Q (wholes events)) → IsCut view hosts u P status → IsCutIn view hosts u Q status
cut_in view hosts u P Q status says c = record {
  events = wholes c.events;
  end = c.end;
  which = says c.events c.which;
  run = run_whole u c.end c.events c.run;
  kept = c.kept;
  last = c.last;
  is_last = by_last c.is_last;
  crashes = c.crashes;
}
  where
    by_last : IsLastOf status c.events P c.end c.last → IsLastIn status (wholes c.events) Q c.end c.last
    by_last (inl same) = inl same
    by_last (inr (is, e, has, h)) =
        inr (is, whole_event e, subst (λ (l : List EventOrStop). Q l) (wholes_push c.events e) (says (c.events ++ e ∷ []) has), occurs c.end c.last e h)

-- the same events, said otherwise
pub cut_in_as : {S : Type 0} (view : S → SeatView) (hosts : Hosted S) (u : World) (P Q : List EventOrStop → Type 0) (status : Status)
    → ((events : List EventOrStop) → P events → Q events) → IsCutIn view hosts u P status → IsCutIn view hosts u Q status
cut_in_as view hosts u P Q status says c = record {
  events = c.events;
  end = c.end;
  which = says c.events c.which;
  run = c.run;
  kept = c.kept;
  last = c.last;
  is_last = by_last c.is_last;
  crashes = c.crashes;
}
  where
    by_last : IsLastIn status c.events P c.end c.last → IsLastIn status c.events Q c.end c.last
    by_last (inl same) = inl same
    by_last (inr (is, e, has, h)) = inr (is, e, says (c.events ++ e ∷ []) has, h)

-- nothing happened, and a fault came that is none of a step
pub cut_in_here : {S : Type 0} (view : S → SeatView) (hosts : Hosted S) (u : World) (Q : List EventOrStop → Type 0) (status : Status) → Q []
    → AreStill view hosts u → IsCutIn view hosts u Q status
cut_in_here view hosts u Q status which are = record {
  events = [];
  end = u;
  which = which;
  run = stays u;
  kept = held_kept view hosts.seats u.nodes are.nodes;
  last = u;
  is_last = inl refl;
  crashes = are.crashes;
}

-- a fault came while a node was started again
pub cut_in_stop : {S : Type 0} (view : S → SeatView) (hosts : Hosted S) (u : World) (P : List EventOrStop → Type 0) (fault : NotTaken) (status : Status)
    → status ≡ status_for fault → HasFailed view hosts u P fault → IsCutIn view hosts u P status
cut_in_stop view hosts u P fault status is h = record {
  events = h.events;
  end = h.end;
  which = h.which;
  run = h.run;
  kept = h.kept;
  last = h.last;
  is_last = by_fault fault is h.up_to;
  crashes = h.crashes;
}
  where
    by_fault : (f : NotTaken) → status ≡ status_for f
        → IsUpTo f h.end h.last ((e : EventOrStop) × P (h.events ++ e ∷ []) × Occurs h.end e h.last) → IsLastIn status h.events P h.end h.last
    by_fault (Disk faults) told (inl same) = inl same
    by_fault (Disk faults) told (inr (e, has, h)) = inr (told, e, has, h)
    by_fault Steps told same = inl same
    by_fault Memory told same = inl same
