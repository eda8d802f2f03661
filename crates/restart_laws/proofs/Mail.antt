-- A run goes on in the same way where more messages were sent before it; so calls, one after another, are one run.
use Rattle.std.proofs.Common.{◌≡◌, inl, inr, ℕ, suc, ◌+◌, List, [], ◌∷◌, ◌++◌, sym, ap, subst, ◌∙◌, arith, append_assoc, append-nil}
use Rattle.std.specs.Prelude.{length}
use Rattle.std.specs.List.{slice_get, slice_set}
use Rattle.reply_model.specs.Accounts.{Lack}
use Rattle.node_model.specs.Lacks.{misses}
use Rattle.node_model.specs.Letters.{Letter, Input, client_input, letter_input, moment_input, opened_input, Effect, nothing}
use Rattle.node_model.specs.States.{NodeState}
use Rattle.node_model.specs.World.{Held, World, asked_by, answered_by, dated_onto, is_given, tick, Moves, steps_after, away_by, after_lack, Misses, Meets, Event, client_event, deliver_event, moment_event, opened_event, Happens, comes, delivers, passes, begins}
use Rattle.node_replay.specs.Restarts.{after_start, Restarts, Stops, cut_off, Gives, gives_request, gives_message, gives_moment, gives_opening, EventOrStop, whole_event, restart_event, stop_event, Occurs, occurs, restarts, stops, RunWithStops, stays, proceeds}
use Rattle.restart_laws.specs.Calls.{restarts_of, without_mail, with_mail, BeginsOn, Calls, this_call, next_call, IsOfRun}

-- EVENTS

-- the event, where so many messages more were sent before
abbrev pub later_event : ℕ → Event → Event
later_event n (client_event at link number request) = client_event at link number request
later_event n (deliver_event at which) = deliver_event at (n + which)
later_event n (moment_event at moment) = moment_event at moment
later_event n (opened_event at) = opened_event at

abbrev pub later : ℕ → EventOrStop → EventOrStop
later n (whole_event e) = whole_event (later_event n e)
later n (restart_event at) = restart_event at
later n (stop_event at e) = stop_event at (later_event n e)

abbrev pub all_later : ℕ → List EventOrStop → List EventOrStop
all_later n [] = []
all_later n (e ∷ events) = later n e ∷ all_later n events

-- MORE MESSAGES BEFORE

get_behind : (mail sent : List Letter) (which : ℕ) → slice_get (mail ++ sent) (length mail + which) ≡ slice_get sent which
get_behind [] sent which = let none : 0 + which ≡ which = omega arith in ap (λ n. slice_get sent n) none
get_behind (m ∷ mail) sent which =
    let one_on : length (m ∷ mail) + which ≡ suc (length mail + which) = omega arith in
    ap (λ n. slice_get (m ∷ (mail ++ sent)) n) one_on ∙ get_behind mail sent which

module _ (mail : List Letter) where
  after_mail : (w : World) (at : ℕ) (old : Held) (steps : ℕ) (f : Effect) (new : NodeState)
      → with_mail mail (tick (after_start w at old steps f new)) ≡ tick (after_start (with_mail mail w) at old steps f new)
  after_mail w at old steps f new =
      let more : mail ++ (w.sent ++ f.mail) ≡ (mail ++ w.sent) ++ f.mail = sym (append_assoc mail w.sent f.mail) in
      λ i. record {
        nodes = slice_set w.nodes at (record { state = new; kept = old.kept ++ f.written; steps = steps });
        sent = more i;
        asked = w.asked ++ asked_by w.now f.taken;
        answered = w.answered ++ answered_by w.now f.replies;
        given = w.given;
        learned = w.learned;
        missed = w.missed;
        away = w.away;
        changed = dated_onto w.now w.changed f.written;
        now = w.now + 1;
      }

  lack_mail : (w : World) (at : ℕ) (old : Held) (lack : Lack) (f : Effect)
      → with_mail mail (tick (after_lack w at old lack f)) ≡ tick (after_lack (with_mail mail w) at old lack f)
  lack_mail w at old lack f =
      let more : mail ++ (w.sent ++ f.mail) ≡ (mail ++ w.sent) ++ f.mail = sym (append_assoc mail w.sent f.mail) in
      λ i. record {
        nodes = slice_set w.nodes at (record { state = old.state; kept = old.kept; steps = steps_after lack old.steps });
        sent = more i;
        asked = w.asked;
        answered = w.answered;
        given = w.given;
        learned = w.learned;
        missed = w.missed ++ record { node = at; lack = lack; step = w.now } ∷ [];
        away = w.away ++ away_by at w.now f.away;
        changed = w.changed;
        now = w.now + 1;
      }

  mail_moves : (w v : World) (at : ℕ) (i : Input) → Moves w at i v → Moves (with_mail mail w) at i (with_mail mail v)
  mail_moves w v at i m = record {
    old = m.old;
    f = m.f;
    new = m.new;
    here = m.here;
    goes = m.goes;
    step = m.step;
    then = ap (λ (x : World). with_mail mail x) m.then ∙ after_mail (is_given w at i) at m.old (m.old.steps + 1) m.f m.new;
  }

  mail_misses : (w v : World) (at : ℕ) (i : Input) → Misses w at i v → Misses (with_mail mail w) at i (with_mail mail v)
  mail_misses w v at i m = record {
    old = m.old;
    lack = m.lack;
    here = m.here;
    may = m.may;
    then = ap (λ (x : World). with_mail mail x) m.then ∙ lack_mail w at m.old m.lack (misses m.old.state m.lack i);
  }

  mail_meets : (w v : World) (at : ℕ) (i : Input) → Meets w at i v → Meets (with_mail mail w) at i (with_mail mail v)
  mail_meets w v at i (inl m) = inl (mail_moves w v at i m)
  mail_meets w v at i (inr m) = inr (mail_misses w v at i m)

  mail_happens : (w v : World) (e : Event) → Happens w e v → Happens (with_mail mail w) (later_event (length mail) e) (with_mail mail v)
  mail_happens _ _ _ (comes w v at link number request is m) =
      comes (with_mail mail w) (with_mail mail v) at link number request is (mail_meets w v at (client_input link number request) m)
  mail_happens _ _ _ (delivers w v at which l got to m) =
      delivers (with_mail mail w) (with_mail mail v) at (length mail + which) l (get_behind mail w.sent which ∙ got) to (mail_meets w v at (letter_input l) m)
  mail_happens _ _ _ (passes w v at moment m) =
      passes (with_mail mail w) (with_mail mail v) at moment (mail_meets w v at (moment_input moment) m)
  mail_happens _ _ _ (begins w v at m) = begins (with_mail mail w) (with_mail mail v) at (mail_meets w v at opened_input m)

  pub mail_gives : (w : World) (e : Event) (at : ℕ) (i : Input) → Gives w e at i → Gives (with_mail mail w) (later_event (length mail) e) at i
  mail_gives w _ _ _ (gives_request at link number request is) = gives_request at link number request is
  mail_gives w _ _ _ (gives_message at which m got to) = gives_message at (length mail + which) m (get_behind mail w.sent which ∙ got) to
  mail_gives w _ _ _ (gives_moment at moment) = gives_moment at moment
  mail_gives w _ _ _ (gives_opening at) = gives_opening at

  mail_restarts : (w v : World) (at : ℕ) → Restarts w at v → Restarts (with_mail mail w) at (with_mail mail v)
  mail_restarts w v at m = record {
    old = m.old;
    new = m.new;
    steps = m.steps;
    here = m.here;
    opens = m.opens;
    counts = m.counts;
    then = ap (λ (x : World). with_mail mail x) m.then ∙ after_mail (is_given w at (moment_input 0)) at m.old m.steps nothing m.new;
  }

  mail_stops : (w v : World) (at : ℕ) (i : Input) → Stops w at i v → Stops (with_mail mail w) at i (with_mail mail v)
  mail_stops w v at i m = record {
    old = m.old;
    f = m.f;
    reached = m.reached;
    new = m.new;
    here = m.here;
    goes = m.goes;
    step = m.step;
    opens = m.opens;
    then = ap (λ (x : World). with_mail mail x) m.then
        ∙ after_mail (is_given (is_given w at i) at (moment_input 0)) at m.old (m.old.steps + 1) (cut_off m.f) m.new;
  }

  mail_occurs : (w v : World) (e : EventOrStop) → Occurs w e v → Occurs (with_mail mail w) (later (length mail) e) (with_mail mail v)
  mail_occurs _ _ _ (occurs w v e h) = occurs (with_mail mail w) (with_mail mail v) (later_event (length mail) e) (mail_happens w v e h)
  mail_occurs _ _ _ (restarts w v at m) = restarts (with_mail mail w) (with_mail mail v) at (mail_restarts w v at m)
  mail_occurs _ _ _ (stops w v at e i gives m) =
      stops (with_mail mail w) (with_mail mail v) at (later_event (length mail) e) i (mail_gives w e at i gives) (mail_stops w v at i m)

  pub mail_runs : (u w : World) (events : List EventOrStop) → RunWithStops u events w
      → RunWithStops (with_mail mail u) (all_later (length mail) events) (with_mail mail w)
  mail_runs _ _ _ (stays w) = stays (with_mail mail w)
  mail_runs _ _ _ (proceeds u v w e events h more) =
      proceeds (with_mail mail u) (with_mail mail v) (with_mail mail w) (later (length mail) e) (all_later (length mail) events) (mail_occurs u v e h)
      (mail_runs v w events more)

-- CALLS

pub run_then : (u v w : World) (early late : List EventOrStop) → RunWithStops u early v → RunWithStops v late w → RunWithStops u (early ++ late) w
run_then _ _ w _ late (stays v) second = second
run_then _ _ w _ late (proceeds u t v e events h more) second = proceeds u t w e (events ++ late) h (run_then t v w events late more second)

no_mail : (w : World) → with_mail [] w ≡ w
no_mail w = λ i. record {
  nodes = w.nodes;
  sent = w.sent;
  asked = w.asked;
  answered = w.answered;
  given = w.given;
  learned = w.learned;
  missed = w.missed;
  away = w.away;
  changed = w.changed;
  now = w.now;
}

-- a call begins where the messages before it are not delivered any more
mail_before : (mail : List Letter) (started first : World) → first ≡ without_mail started → with_mail (mail ++ started.sent) first ≡ with_mail mail started
mail_before mail started first same =
    let none : (mail ++ started.sent) ++ [] ≡ mail ++ started.sent = append-nil (mail ++ started.sent) in
    let kept : with_mail (mail ++ started.sent) (without_mail started) ≡ with_mail mail started =
    λ i. record {
      nodes = started.nodes;
      sent = none i;
      asked = started.asked;
      answered = started.answered;
      given = started.given;
      learned = started.learned;
      missed = started.missed;
      away = started.away;
      changed = started.changed;
      now = started.now;
    } in
    ap (λ (x : World). with_mail (mail ++ started.sent) x) same ∙ kept

-- one call more
goes_on : (u v first w : World) (events : List EventOrStop) → IsOfRun u v → BeginsOn v first → RunWithStops first events w → IsOfRun u w
goes_on u v first w events r b run =
    let early : RunWithStops (with_mail r.mail v) (all_later (length r.mail) (restarts_of 0 (length v.nodes))) (with_mail r.mail b.started) =
    mail_runs r.mail v b.started (restarts_of 0 (length v.nodes)) b.starts in
    let late : RunWithStops (with_mail r.mail b.started) (all_later (length (r.mail ++ b.started.sent)) events) (with_mail (r.mail ++ b.started.sent) w) =
    subst (λ x. RunWithStops x (all_later (length (r.mail ++ b.started.sent)) events) (with_mail (r.mail ++ b.started.sent) w))
    (mail_before r.mail b.started first b.then)
    (mail_runs (r.mail ++ b.started.sent) first w events run) in
    record {
      mail = r.mail ++ b.started.sent;
      events = r.events ++ (all_later (length r.mail) (restarts_of 0 (length v.nodes)) ++ all_later (length (r.mail ++ b.started.sent)) events);
      run = run_then u (with_mail r.mail v) (with_mail (r.mail ++ b.started.sent) w) r.events
          (all_later (length r.mail) (restarts_of 0 (length v.nodes)) ++ all_later (length (r.mail ++ b.started.sent)) events) r.run
          (run_then (with_mail r.mail v) (with_mail r.mail b.started) (with_mail (r.mail ++ b.started.sent) w)
          (all_later (length r.mail) (restarts_of 0 (length v.nodes))) (all_later (length (r.mail ++ b.started.sent)) events) early late);
    }

pub calls_are_one_run : (u w : World) → Calls u w → IsOfRun u w
calls_are_one_run u _ (this_call w events run) = record { mail = []; events = events; run = subst (λ x. RunWithStops u events x) (sym (no_mail w)) run }
calls_are_one_run u _ (next_call v first w events before b run) = goes_on u v first w events (calls_are_one_run u v before) b run

-- MESSAGES STAY

meets_sends : (w v : World) (at : ℕ) (i : Input) → Meets w at i v → (more : List Letter) × (v.sent ≡ w.sent ++ more)
meets_sends w v at i (inl m) = (m.f.mail, ap (λ (x : World). x.sent) m.then)
meets_sends w v at i (inr m) = ((misses m.old.state m.lack i).mail, ap (λ (x : World). x.sent) m.then)

event_sends : (w v : World) (e : Event) → Happens w e v → (more : List Letter) × (v.sent ≡ w.sent ++ more)
event_sends _ _ _ (comes w v at link number request is m) = meets_sends w v at _ m
event_sends _ _ _ (delivers w v at which l got to m) = meets_sends w v at _ m
event_sends _ _ _ (passes w v at moment m) = meets_sends w v at _ m
event_sends _ _ _ (begins w v at m) = meets_sends w v at _ m

occurs_sends : (w v : World) (e : EventOrStop) → Occurs w e v → (more : List Letter) × (v.sent ≡ w.sent ++ more)
occurs_sends _ _ _ (occurs w v e h) = event_sends w v e h
occurs_sends _ _ _ (restarts w v at m) = ([], ap (λ (x : World). x.sent) m.then)
occurs_sends _ _ _ (stops w v at e i gives m) = ([], ap (λ (x : World). x.sent) m.then)

pub run_sends : (u w : World) (events : List EventOrStop) → RunWithStops u events w → (more : List Letter) × (w.sent ≡ u.sent ++ more)
run_sends _ _ _ (stays w) = ([], sym (append-nil w.sent))
run_sends _ _ _ (proceeds u v w e events h more) =
    let first = occurs_sends u v e h in
    let rest = run_sends v w events more in
    (first.0 ++ rest.0, rest.1 ∙ ap (λ l. l ++ rest.0) first.1 ∙ append_assoc u.sent first.0 rest.0)
