-- A node that stops and is started again: of all nodes, and then it is opened.
use Rattle.std.proofs.Common.{◌≡◌, inl, inr, ℕ, ◌+◌, ◌≤◌, List, [], ◌∷◌, ◌++◌, Bool, IsTrue, refl, sym, ap, subst, ◌∙◌, append-nil, arith}
use Rattle.std.specs.Prelude.{Option, Some, None}
use Rattle.std.specs.List.{slice_get, slice_set}
use Rattle.outside.specs.Logs.{LogFacts}
use Rattle.outside.specs.Notes.{Note}
use Rattle.node_model.specs.Exchanges.{Answered}
use Rattle.node_model.specs.Journal.{Kept}
use Rattle.node_model.specs.Letters.{Input, opened_input, moment_input, nothing}
use Rattle.node_model.specs.States.{NodeState}
use Rattle.node_model.specs.World.{Held, World, Event, Moves, Meets, after, is_given, tick, journal_at, begins, opened_event}
use Rattle.node_model.proofs.Journals.{journal_got, journal_here}
use Rattle.node_replay.specs.Durable.{DurableState}
use Rattle.node_replay.specs.Openings.{opened_on}
use Rattle.node_replay.specs.Restarts.{CountsFrom, EventOrStop, Occurs, RunWithStops, after_start, cut_off, occurs, restarts, stops, proceeds, stays, restart_event, stop_event, whole_event}
use Rattle.restart_laws.proofs.ReachedCalls.{reached_nodes_may_restart, reached_nodes_may_stop}
use Rattle.node_traits.specs.Calls.{IsWhole, log_call}
use Rattle.node_traits.specs.Effects.{AreReadable, ByNotTaken, spellings}
use Rattle.node_traits.specs.declared.outputs.NotTaken.{NotTaken}
use Rattle.node_traits.specs.declared.outputs.NotTaken.TheVariants.{Disk, Steps, Memory}
use Rattle.node_traits.specs.declared.outputs.ToLink.{ToLink}
use Rattle.driver_steps.specs.Crashes.{LeadsTo, Since}
use Rattle.driver_steps.specs.Moves.{HasMoved, IsCutShort, IsEvent, IsUpTo, MeetsOrNot}
use Rattle.driver_steps.specs.Restarts.{BeginToStop, HasFailed, HasStarted, HasStartedAgain, IsStartedAgain, IsStopped, IsStoppedAtDisk, MayGive, MayStop, StopsBy, StopsWith, by_itself, by_step, is_short, stop_and_open, stores_none, stores_step}
use Rattle.driver_steps.specs.Seats.{AreCounted, AreDurableWhileOpen, AreHeld, AreHeldOrKept, AreKept, AreOpen, Hosted, LeaveKept, SeatView, notes_of, seat_since}
use Rattle.driver_steps.specs.Together.{hosted}
use Rattle.driver_steps.specs.Worlds.{NetworkView, StandsFor, puts_given}
use Rattle.driver_steps.specs.declared.seat.Seat.{Seat}
use Rattle.driver_steps.proofs.Counts.{goes_with_fewer}
use Rattle.driver_steps.proofs.Crashes.{all_leave, leads_through, leaves_step, spellings_append}
use Rattle.driver_steps.proofs.Seats.{CountedAt, HeldAt, counted_at, counted_set, held_at, held_kept, held_set, kept_set, kept_still}
use Rattle.driver_steps.proofs.Stepping.{readable_append, since_on}
use Rattle.driver_steps.proofs.Together.{stored_with, together_grows}

-- THE WORLD

-- the node at a place stops, and these records more are stored, after so many steps: the world then, by the state in which it is started
pub record Stopping (w : World) (at : ℕ) (h : Held) (more : List Kept) (count : ℕ) (e : Option Event) : Type 0 where
  pub stop : EventOrStop
  pub which : StopsBy at e stop
  pub then : NodeState → World
  pub occurs : (new : NodeState) → opened_on h.state (h.kept ++ more) ≡ Some new → Occurs w stop (then new)
  pub nodes : (new : NodeState) → (then new).nodes ≡ slice_set w.nodes at (record { state = new; kept = h.kept ++ more; steps = count })
  pub sent : (new : NodeState) → (then new).sent ≡ w.sent
  pub given : (new : NodeState) → puts_given (then new).answered ≡ puts_given w.answered
  pub some : (new : NodeState) × (opened_on h.state (h.kept ++ more) ≡ Some new)

module _ (part : ℕ → DurableState) (w : World) (at : ℕ) (h : Held) (may : MayStop part w) (here : slice_get w.nodes at ≡ Some h) where
  by_none : (e : Option Event) (count : ℕ) → CountsFrom h.steps count → Stopping w at h [] count e
  by_none e count counts =
      let whole : h.kept ++ [] ≡ h.kept = append-nil h.kept in
      let again = reached_nodes_may_restart may.others may.routers at w h may.reached here in
      let both : Some again.1.old ≡ Some h = sym again.1.here ∙ here in
      let one : again.1.old ≡ h = cc both in
      record {
        stop = restart_event at;
        which = by_itself e;
        then = λ new. tick (after_start (is_given w at (moment_input 0)) at h count nothing new);
        occurs = λ new opens. restarts w (tick (after_start (is_given w at (moment_input 0)) at h count nothing new)) at (record {
          old = h;
          new = new;
          steps = count;
          here = here;
          opens = ap (λ (l : List Kept). opened_on h.state l) (sym whole) ∙ opens;
          counts = counts;
          then = refl;
        });
        nodes = λ new. refl;
        sent = λ new. append-nil w.sent;
        given = λ new. ap (λ (l : List Answered). puts_given l) (append-nil w.answered);
        some = (again.1.new, ap (λ (l : List Kept). opened_on h.state l) whole ∙ (ap (λ (x : Held). opened_on x.state x.kept) (sym one) ∙ again.1.opens));
      }

  pub stopping : (e : Option Event) (i : Option Input) (more : List Kept) (count : ℕ) → StopsWith h.state h.steps i more count → MayGive w at e i
      → Stopping w at h more count e
  stopping e i _ _ (stores_none _) gives = by_none e h.steps (inl refl)
  stopping e _ _ _ (is_short i goes) gives = by_none e (h.steps + 1) (inr (inl refl))
  stopping None _ _ _ (stores_step i f reached goes step) gives = absurd gives
  stopping (Some e) _ _ _ (stores_step i f reached goes step) gives =
      let m : Moves w at i (tick (after (is_given w at i) at h f reached)) =
      record { old = h; f = f; new = reached; here = here; goes = goes; step = step; then = refl } in
      record {
        stop = stop_event at e;
        which = by_step e;
        then = λ new. tick (after_start (is_given (is_given w at i) at (moment_input 0)) at h (h.steps + 1) (cut_off f) new);
        occurs = λ new opens. stops w (tick (after_start (is_given (is_given w at i) at (moment_input 0)) at h (h.steps + 1) (cut_off f) new)) at e i gives (record {
          old = h;
          f = f;
          reached = reached;
          new = new;
          here = here;
          goes = goes;
          step = step;
          opens = opens;
          then = refl;
        });
        nodes = λ new. refl;
        sent = λ new. append-nil w.sent;
        given = λ new. ap (λ (l : List Answered). puts_given l) (append-nil w.answered);
        some = reached_nodes_may_stop may.others may.routers at w (tick (after (is_given w at i) at h f reached)) e i may.reached gives m;
      }

-- it stops so after fewer steps too, and has taken no more of them then
stops_with_fewer : (fewer steps : ℕ) (s : NodeState) (i : Option Input) (more : List Kept) (count : ℕ) → fewer ≤ steps → StopsWith s steps i more count
    → (less : ℕ) × (less ≤ count) × StopsWith s fewer i more less
stops_with_fewer fewer steps s i _ _ no_more (stores_none _) = (fewer, no_more, stores_none i)
stops_with_fewer fewer steps s _ _ _ no_more (is_short i goes) =
    (fewer + 1, omega (arith, no_more), is_short i (goes_with_fewer fewer steps s i no_more goes))
stops_with_fewer fewer steps s _ _ _ no_more (stores_step i f reached goes step) =
    (fewer + 1, omega (arith, no_more), stores_step i f reached (goes_with_fewer fewer steps s i no_more goes) step)

-- the last world of a fault is the end
up_to_same : (fault : NotTaken) (end last : World) (more : Type 0) → last ≡ end → IsUpTo fault end last more
up_to_same (Disk faults) end last more same = inl same
up_to_same Steps end last more same = same
up_to_same Memory end last more same = same

-- NODES WITH THEIR LOGS

module _ {N L : Type 0} (facts : LogFacts L) (state : N → NodeState) (steps : N → ℕ) (shows : Bool) (since : Since L) (seats : List (Seat N L)) (at : ℕ) (s t : Seat N L)
    (before now : List Note) (length : ℕ) (got : slice_get seats at ≡ Some s) (are : AreOpen facts.is_open seats)
    (durable : AreDurableWhileOpen facts (slice_set seats at t))
    (taken : IsTrue shows → now ≡ (before ++ notes_of facts length (slice_set seats at t)) ++ notes_of facts length (slice_set seats at t))
    (same : facts.place t.log ≡ facts.place s.log) (told : IsTrue facts.tells) (part : ℕ → DurableState) (w : World) (e : Option Event) (i : Option Input)
    (may : MayStop part w) (gives : MayGive w at e i) (held : AreHeld (seat_since state steps facts since) seats w.nodes)
    (leave : LeaveKept (seat_since state steps facts since) (hosted shows facts since before seats) w) where
  abbrev view : Seat N L → SeatView
  view = seat_since state steps facts since

  abbrev now_hosted : Hosted (Seat N L)
  now_hosted = hosted shows facts since now (slice_set seats at t)

  there : HeldAt (view s) w.nodes at
  there = held_at view seats w.nodes at s held got

  stopping_with : (more : List Kept) (count : ℕ) → StopsWith (state s.node) (steps s.node) i more count
      → (less : ℕ) × (less ≤ count) × Stopping w at there.old more less e
  stopping_with more count stores =
      let fewer = stops_with_fewer there.old.steps (steps s.node) there.old.state i more count there.is.counted
      (subst (λ (x : NodeState). StopsWith x (steps s.node) i more count) (sym there.is.same) stores) in
      (fewer.0, fewer.1, stopping part w at there.old may there.here e i more fewer.0 fewer.2 gives)

  module _ (more : List Kept) (count : ℕ) (x : Stopping w at there.old more count e) (whole : IsWhole (log_call facts s.log t.log) (spellings more)) (new : NodeState)
      (opens : opened_on there.old.state (there.old.kept ++ more) ≡ Some new) where
    abbrev then : World
    then = x.then new

    led : LeadsTo w then
    led = leads_through x.stop w then (x.occurs new opens)

    stop_leaves : LeaveKept view now_hosted then
    stop_leaves = record {
      each = all_leave view (since_on state steps facts since) seats w then at t leave.each led
          (leaves_step facts since s.log t.log at w then there.old.kept more (leave.each at s got) whole led there.is.written
          (journal_got w.nodes at there.old there.here)
          (ap (λ (l : List Held). journal_at l at) (x.nodes new)
          ∙ journal_here w.nodes at there.old (record { state = new; kept = there.old.kept ++ more; steps = count }) there.here));
      together = λ shown tells.
          together_grows facts state steps since seats at s t before now length tells got durable (taken shown) w then more are held led whole
          (stored_with facts state steps since seats at s t before now length tells got durable (taken shown) w then there.old new count more there.here (x.nodes new)
          (there.is.written tells)) same (leave.together shown tells);
    }

    stop_kept : AreReadable more → (IsTrue facts.tells → facts.holds t.log (facts.records s.log ++ spellings more)) → AreKept view (slice_set seats at t) then.nodes
    stop_kept readable holds =
        subst (λ (l : List Held). AreKept view (slice_set seats at t) l) (sym (x.nodes new))
        (kept_set view seats w.nodes at t (record { state = new; kept = there.old.kept ++ more; steps = count }) (held_kept view seats w.nodes held)
        (record {
          readable = readable_append there.old.kept more there.is.keeps.readable readable;
          found = λ tells. subst (λ (l : List (List ℕ)). facts.holds t.log l)
              (ap (λ (l : List (List ℕ)). l ++ spellings more) (there.is.written tells) ∙ sym (spellings_append there.old.kept more)) (holds tells);
        }))

    runs_then : RunWithStops w (x.stop ∷ []) then
    runs_then = proceeds w then then x.stop [] (x.occurs new opens) (stays then)

    -- the fault came after it stopped
    failed_behind : (fault : NotTaken) → AreReadable more → (IsTrue facts.tells → facts.holds t.log (facts.records s.log ++ spellings more))
        → HasFailed view now_hosted w (BeginToStop at e) fault
    failed_behind fault readable holds = record {
      events = x.stop ∷ [];
      end = then;
      which = (x.stop, x.which, (whole_event (opened_event at) ∷ [], refl));
      run = runs_then;
      kept = stop_kept readable holds;
      last = then;
      up_to = up_to_same fault then then _ refl;
      crashes = stop_leaves;
    }

    -- a disk failed, and nothing of the step is stored
    failed_before : (faults : ℕ) → (IsTrue facts.tells → facts.holds t.log (facts.records s.log)) → HasFailed view now_hosted w (BeginToStop at e) (Disk faults)
    failed_before faults holds = record {
      events = [];
      end = w;
      which = (x.stop, x.which, (x.stop ∷ whole_event (opened_event at) ∷ [], refl));
      run = stays w;
      kept = kept_still view seats w.nodes at t there.old (held_kept view seats w.nodes held) there.here (record {
        readable = there.is.keeps.readable;
        found = λ tells. subst (λ (l : List (List ℕ)). facts.holds t.log l) (there.is.written tells) (holds tells);
      });
      last = then;
      up_to = inr (x.stop, (x.stop, x.which, (whole_event (opened_event at) ∷ [], refl)), x.occurs new opens);
      crashes = stop_leaves;
    }

  there_count : AreCounted view seats w.nodes → there.old.steps ≡ steps s.node
  there_count counts =
      let place : CountedAt (view s) w.nodes at = counted_at view seats w.nodes at s counts got in
      let both : Some there.old ≡ Some place.old = sym there.here ∙ place.here in
      let one : there.old ≡ place.old = cc both in
      ap (λ (h : Held). h.steps) one ∙ place.is

  -- it stopped, and was started again
  pub node_started : AreCounted view seats w.nodes → IsStartedAgain state steps facts (part at) i s t → HasStarted view now_hosted w at e
  node_started counts a =
      let more = a.stopped.more in
      let count = a.stopped.count in
      let x : Stopping w at there.old more count e = stopping part w at there.old may there.here e i more count
      (subst (λ (n : ℕ). StopsWith there.old.state n i more count) (sym (there_count counts))
      (subst (λ (z : NodeState). StopsWith z (steps s.node) i more count) (sym there.is.same) a.stopped.how)) gives in
      let written : facts.records t.log ≡ spellings (there.old.kept ++ more) =
      a.stopped.kept.grown told ∙ (ap (λ (l : List (List ℕ)). l ++ spellings more) (there.is.written told) ∙ sym (spellings_append there.old.kept more)) in
      let readable : AreReadable (there.old.kept ++ more) = readable_append there.old.kept more there.is.keeps.readable a.stopped.readable in
      let opens : opened_on there.old.state (there.old.kept ++ more) ≡ Some (state t.node) =
      a.opened told there.old.state (there.old.kept ++ more) (may.parts at there.old there.here) readable written in
      record {
        stop = x.stop;
        started = x.then (state t.node);
        which = x.which;
        occurs = x.occurs (state t.node) opens;
        nodes = subst (λ (l : List Held). AreHeld view (slice_set seats at t) l) (sym (x.nodes (state t.node)))
            (held_set view seats w.nodes at t (record { state = state t.node; kept = there.old.kept ++ more; steps = count }) held (record {
              same = refl;
              counted = omega (arith, a.counted);
              written = λ tells. written;
              keeps = record {
                readable = readable;
                found = λ tells. subst (λ (l : List (List ℕ)). facts.holds t.log l) written (a.stopped.holds tells);
              };
            }));
        counted = subst (λ (l : List Held). AreCounted view (slice_set seats at t) l) (sym (x.nodes (state t.node)))
            (counted_set view seats w.nodes at t (record { state = state t.node; kept = there.old.kept ++ more; steps = count }) counts a.counted);
        crashes = stop_leaves more count x a.stopped.kept.whole (state t.node) opens;
        sent = x.sent (state t.node);
        given = x.given (state t.node);
      }

  failed_stopped : (fault : NotTaken) → IsStopped state steps facts i s t → HasFailed view now_hosted w (BeginToStop at e) fault
  failed_stopped fault a =
      let fewer = stopping_with a.more a.count a.how in
      let x : Stopping w at there.old a.more fewer.0 e = fewer.2 in
      failed_behind a.more fewer.0 x a.kept.whole x.some.0 x.some.1 fault a.readable
      (λ tells. subst (λ (l : List (List ℕ)). facts.holds t.log l) (a.kept.grown tells) (a.holds tells))

  -- it was not
  pub node_failed : (fault : NotTaken) → ByNotTaken fault (λ faults. IsStoppedAtDisk state steps facts i s t) (IsStopped state steps facts i s t)
      → HasFailed view now_hosted w (BeginToStop at e) fault
  node_failed (Disk faults) d =
      let fewer = stopping_with d.more d.count d.how in
      let x : Stopping w at there.old d.more fewer.0 e = fewer.2 in
      elim (d.left told) [
        | inl without ↦ failed_before d.more fewer.0 x d.whole x.some.0 x.some.1 faults (λ tells. without)
        | inr with_it ↦ failed_behind d.more fewer.0 x d.whole x.some.0 x.some.1 (Disk faults) d.readable (λ tells. with_it)
      ]
  node_failed Steps a = failed_stopped Steps a
  node_failed Memory a = failed_stopped Memory a

-- AND THEN IT IS OPENED

module _ {S : Type 0} (view : S → SeatView) (hosts hosts_after : Hosted S) (handed : List ToLink) (w : World) (next at : ℕ) (e : Option Event)
    (h : HasStarted view hosts w at e) where
  pub stands_started : (network : NetworkView) (old : Hosted S) → StandsFor view old network handed w next → StandsFor view hosts network handed h.started next
  stands_started network old stands = record {
    nodes = h.nodes;
    counted = h.counted;
    crashes = h.crashes;
    past = stands.past;
    sent = h.sent ∙ stands.sent;
    place = stands.place;
    given = h.given ∙ stands.given;
  }

  opens_to : (v : World) → Meets h.started at opened_input v → RunWithStops w (stop_and_open at h.stop) v
  opens_to v meets =
      proceeds w h.started v h.stop (whole_event (opened_event at) ∷ []) h.occurs
      (proceeds h.started v v (whole_event (opened_event at)) [] (occurs h.started v (opened_event at) (begins h.started v at meets)) (stays v))

  is_opening : IsEvent h.started at opened_input (opened_event at)
  is_opening v meets = begins h.started v at meets

  pub opened_again : (network : NetworkView) → HasMoved view hosts_after network handed h.started next at opened_input
      → HasStartedAgain view hosts_after network handed w next at e
  opened_again network m = record {
    stop = h.stop;
    end = m.end;
    which = h.which;
    run = opens_to m.end m.meets;
    stands = m.stands (opened_event at) is_opening;
  }

  kept_of : (fault : NotTaken) (held : List Held) → AreHeldOrKept fault view hosts_after held → AreKept view hosts_after.seats held
  kept_of (Disk faults) held are = are
  kept_of Steps held are = held_kept view hosts_after.seats held are
  kept_of Memory held are = held_kept view hosts_after.seats held are

  module _ (fault : NotTaken) (end last : World) (kept : AreKept view hosts_after.seats end.nodes) (leave : LeaveKept view hosts_after last) where
    -- it stopped, and was opened or not
    stopped_at : MeetsOrNot h.started at opened_input end → last ≡ end → HasFailed view hosts_after w (BeginToStop at e) fault
    stopped_at (inl same) is_last = record {
      events = h.stop ∷ [];
      end = end;
      which = (h.stop, h.which, (whole_event (opened_event at) ∷ [], refl));
      run = proceeds w h.started end h.stop [] h.occurs (subst (λ (v : World). RunWithStops h.started [] v) (sym same) (stays h.started));
      kept = kept;
      last = last;
      up_to = up_to_same fault end last _ is_last;
      crashes = leave;
    }
    stopped_at (inr meets) is_last = record {
      events = stop_and_open at h.stop;
      end = end;
      which = (h.stop, h.which, ([], refl));
      run = opens_to end meets;
      kept = kept;
      last = last;
      up_to = up_to_same fault end last _ is_last;
      crashes = leave;
    }

  -- a disk failed while it was opened
  while_opened : (faults : ℕ) (end last : World) → AreKept view hosts_after.seats end.nodes → LeaveKept view hosts_after last → end ≡ h.started
      → Moves h.started at opened_input last → HasFailed view hosts_after w (BeginToStop at e) (Disk faults)
  while_opened faults end last kept leave same moves = record {
    events = h.stop ∷ [];
    end = end;
    which = (h.stop, h.which, (whole_event (opened_event at) ∷ [], refl));
    run = proceeds w h.started end h.stop [] h.occurs (subst (λ (v : World). RunWithStops h.started [] v) (sym same) (stays h.started));
    kept = kept;
    last = last;
    up_to = inr (
      whole_event (opened_event at),
      (h.stop, h.which, ([], refl)),
      subst (λ (v : World). Occurs v (whole_event (opened_event at)) last) (sym same)
          (occurs h.started last (opened_event at) (begins h.started last at (inl moves))),
    );
    crashes = leave;
  }

  pub not_opened : (replies : List ToLink) (fault : NotTaken) → IsCutShort view hosts_after replies handed h.started at opened_input fault
      → HasFailed view hosts_after w (BeginToStop at e) fault
  not_opened replies (Disk faults) c = elim c.up_to [
    | inl is_last ↦ stopped_at (Disk faults) c.end c.last c.nodes (c.crashes (opened_event at) is_opening) c.meets is_last
    | inr more ↦ while_opened faults c.end c.last c.nodes (c.crashes (opened_event at) is_opening) more.0 more.1
  ]
  not_opened replies Steps c =
      stopped_at Steps c.end c.last (kept_of Steps c.end.nodes c.nodes) (c.crashes (opened_event at) is_opening) c.meets c.up_to
  not_opened replies Memory c =
      stopped_at Memory c.end c.last (kept_of Memory c.end.nodes c.nodes) (c.crashes (opened_event at) is_opening) c.meets c.up_to
