-- A step of a node is a step of the world.
use Rattle.std.proofs.Common.{◌≡◌, ◌⊎◌, inl, inr, ℕ, ◌+◌, ◌≤◌, List, [], ◌∷◌, ◌++◌, Bool, true, false, IsTrue, refl, sym, ap, subst, ◌∙◌, arith}
use Rattle.std.specs.Prelude.{Some, if◌then◌else◌}
use Rattle.std.specs.List.{slice_get, slice_set}
use Rattle.outside.specs.Causes.{Rose}
use Rattle.outside.specs.Logs.{LogFacts, WithOrWithout}
use Rattle.node_model.specs.Exchanges.{Answered, reply_put}
use Rattle.node_model.specs.Journal.{Kept}
use Rattle.node_model.specs.Letters.{Letter, Input, Reply, Effect}
use Rattle.node_model.specs.States.{NodeState}
use Rattle.node_model.specs.Steps.{Step}
use Rattle.node_model.specs.Lacks.{is_last}
use Rattle.node_model.specs.World.{Held, World, Event, Moves, after, answered_by, is_given, tick, journal_at}
use Rattle.node_model.proofs.Journals.{journal_got, journal_here}
use Rattle.node_traits.specs.Calls.{IsWhole, LeavesThen, LogCall, log_call}
use Rattle.node_traits.specs.Effects.{AreReadable, ByNotTaken, StepBroken, StepDone, is_at_last, put_by, puts_of, spellings, steps_after}
use Rattle.node_traits.specs.declared.outputs.NotTaken.{NotTaken}
use Rattle.node_traits.specs.declared.outputs.NotTaken.TheVariants.{Disk, Steps, Memory}
use Rattle.node_traits.specs.declared.outputs.ToLink.{ToLink}
use Rattle.driver_steps.specs.declared.seat.Seat.{Seat}
use Rattle.driver_steps.specs.Crashes.{Since, LeadsTo, leaves_kept}
use Rattle.driver_steps.specs.Seats.{SeatView, HaveRisen, Hosted, Keeps, AreHeld, AreKept, EachLeaves, LeaveKept, faults_of, seat_since}
use Rattle.driver_steps.specs.Worlds.{puts_given}
use Rattle.driver_steps.specs.Moves.{HasStepped, IsBroken, IsEvent}
use Rattle.driver_steps.specs.OneSeat.{BreaksAt, BreaksOn, NamesFault, StandsAt, StepsAt, StepsOn}
use Rattle.driver_steps.proofs.Counts.{goes_with_fewer}
use Rattle.driver_steps.proofs.Crashes.{all_leave, leads_by, leads_nowhere, leaves_on, leaves_step, spellings_append}
use Rattle.driver_steps.proofs.Seats.{HeldAt, fault_rose, faults_same, get_set, held_at, held_set, held_still, held_kept, kept_set, kept_still, none_fell_at}

if_append : (b : Bool) (x : ToLink) (p q r : List ToLink) → p ≡ q ++ r → (if b then p else x ∷ p) ≡ (if b then q else x ∷ q) ++ r
if_append true x p q r e = e
if_append false x p q r e = ap (λ (l : List ToLink). x ∷ l) e

pub puts_append : (answered more : List Answered) → puts_given (answered ++ more) ≡ puts_given answered ++ puts_given more
puts_append [] more = refl
puts_append (a ∷ answered) more =
    if_append a.request.more (record { link = a.link; bytes = reply_put a.number a.request a.document }) (puts_given (answered ++ more))
    (puts_given answered)
    (puts_given more) (puts_append answered more)

pub puts_answered : (now : ℕ) (replies : List Reply) → puts_given (answered_by now replies) ≡ puts_of replies
puts_answered now [] = refl
puts_answered now (r ∷ replies) =
    ap (λ (l : List ToLink). if r.request.more then l else record { link = r.link; bytes = put_by r } ∷ l) (puts_answered now replies)

pub readable_append : (kept more : List Kept) → AreReadable kept → AreReadable more → AreReadable (kept ++ more)
readable_append [] more all rest = rest
readable_append (k ∷ kept) more all rest = (all.0, readable_append kept more all.1 rest)

-- what is put after a step
pub puts_moved : (w : World) (at : ℕ) (i : Input) (v : World) → Moves w at i v → (more : List ToLink) ×
    (puts_given v.answered ≡ puts_given w.answered ++ more)
puts_moved w at i v m = (
  puts_of m.f.replies,
  ap (λ (x : World). puts_given x.answered) m.then ∙ (puts_append w.answered (answered_by w.now m.f.replies)
      ∙ ap (λ (l : List ToLink). puts_given w.answered ++ l) (puts_answered w.now m.f.replies)),
)

-- ONE NODE

one_more : (held steps now : ℕ) → held ≤ steps → now ≡ steps + 1 → held + 1 ≤ now
one_more held steps now less one = omega (arith, less, one)

module _ (s t : SeatView) (w : World) (at : ℕ) (i : Input) (f : Effect) (stands : StandsAt s w at) (goes : is_last s.steps s.state i ≡ false)
    (readable : AreReadable f.written) (same : IsTrue t.tells → IsTrue s.tells) (leaves : (x : World) → LeadsTo w x → journal_at w.nodes at ≡ stands.held.kept
    → journal_at x.nodes at ≡ stands.held.kept ++ f.written → t.leaves at x) where
  abbrev held_by : NodeState → Held
  held_by new = record { state = new; kept = stands.held.kept ++ f.written; steps = stands.held.steps + 1 }

  abbrev after_by : NodeState → World
  after_by new = tick (after (is_given w at i) at stands.held f new)

  abbrev moves_to : (new : NodeState) → Step s.state i f new → Moves w at i (after_by new)
  moves_to new step = record {
    old = stands.held;
    f = f;
    new = new;
    here = stands.here;
    goes = goes_with_fewer stands.held.steps s.steps stands.held.state i stands.is.counted
        (subst (λ (x : NodeState). is_last s.steps x i ≡ false) (sym stands.is.same) goes);
    step = subst (λ (x : NodeState). Step x i f new) (sym stands.is.same) step;
    then = refl;
  }

  leaves_to : (new : NodeState) → Step s.state i f new → (e : Event) → IsEvent w at i e → t.leaves at (after_by new)
  leaves_to new step e event =
      leaves (after_by new) (leads_by e w (after_by new) (event (after_by new) (inl (moves_to new step)))) (journal_got w.nodes at stands.held stands.here)
      (journal_here w.nodes at stands.held (held_by new) stands.here)

  grown_with : (records : List (List ℕ)) → (IsTrue t.tells → records ≡ s.records ++ spellings f.written) → IsTrue t.tells
      → records ≡ spellings (stands.held.kept ++ f.written)
  grown_with records grown told =
      grown told ∙ (ap (λ (l : List (List ℕ)). l ++ spellings f.written) (stands.is.written (same told))
      ∙ sym (spellings_append stands.held.kept f.written))

  pub stepped : (mail : List Letter) (replies : List ToLink) → t.steps ≡ s.steps + 1 → Step s.state i f t.state → f.mail ≡ mail
      → replies ≡ puts_of f.replies → (IsTrue t.tells → t.records ≡ s.records ++ spellings f.written) → (s.holds s.records → t.holds t.records) → StepsAt t w at i mail replies
  stepped mail replies one step sent told grown kept =
      let written : (IsTrue t.tells → t.records ≡ spellings (stands.held.kept ++ f.written)) = grown_with t.records grown in
      record {
        end = after_by t.state;
        moves = moves_to t.state step;
        held = held_by t.state;
        here = get_set w.nodes at stands.held (held_by t.state) stands.here;
        is = record {
          same = refl;
          counted = one_more stands.held.steps s.steps t.steps stands.is.counted one;
          written = written;
          keeps = record {
            readable = readable_append stands.held.kept f.written stands.is.keeps.readable readable;
            found = λ tells. subst (λ (l : List (List ℕ)). t.holds l) (written tells)
                (kept (subst (λ (l : List (List ℕ)). s.holds l) (sym (stands.is.written (same tells))) (stands.is.keeps.found (same tells))));
          };
        };
        crashes = leaves_to t.state step;
        sent = sent;
        told = told;
      }

  broken_at : (new : NodeState) → Step s.state i f new → WithOrWithout t.holds s.records (spellings f.written) → BreaksAt t w at i
  broken_at new step (inl before) = record {
    end = w;
    last = after_by new;
    which = inl refl;
    moves = moves_to new step;
    held = stands.held;
    here = stands.here;
    keeps = record {
      readable = stands.is.keeps.readable;
      found = λ tells. subst (λ (l : List (List ℕ)). t.holds l) (stands.is.written (same tells)) before;
    };
    crashes = leaves_to new step;
  }
  broken_at new step (inr behind) = record {
    end = after_by new;
    last = after_by new;
    which = inr refl;
    moves = moves_to new step;
    held = held_by new;
    here = get_set w.nodes at stands.held (held_by new) stands.here;
    keeps = record {
      readable = readable_append stands.held.kept f.written stands.is.keeps.readable readable;
      found = λ tells. subst (λ (l : List (List ℕ)). t.holds l) (grown_with (s.records ++ spellings f.written) (λ told. refl) tells) behind;
    };
    crashes = leaves_to new step;
  }

  pub broken : (new : NodeState) → Step s.state i f new → (call : LogCall) → IsWhole call (spellings f.written)
      → WithOrWithout t.holds s.records (spellings f.written) → BreaksOn call t w at i
  unfolding broken_at
  broken new step call whole (inl before) = record { breaks = broken_at new step (inl before); whole = whole }
  broken new step call whole (inr behind) = record { breaks = broken_at new step (inr behind); whole = whole }

module _ {N L : Type 0} (state : N → NodeState) (steps : N → ℕ) (facts : LogFacts L) where
  abbrev pub view_since : Since L → Seat N L → SeatView
  view_since since seat = seat_since state steps facts since seat

  pub since_on : (since : Since L) (s : Seat N L) (at : ℕ) (v w : World) → (view_since since s).leaves at v → LeadsTo v w → (view_since since s).leaves at w
  since_on since s at v w all on = leaves_on facts since s.log at v w all on

  -- a node in the same state with the same log is there too, where it counts no fewer steps
  pub same_stands : (since : Since L) (w : World) (at : ℕ) (s t : Seat N L) → steps s.node ≤ steps t.node
      → (state t.node ≡ state s.node) × (t.log ≡ s.log) → StandsAt (view_since since s) w at → StandsAt (view_since since t) w at
  same_stands since w at s t no_fewer (same, unchanged) stands = record {
    held = stands.held;
    here = stands.here;
    is = record {
      same = stands.is.same ∙ sym same;
      counted = omega (arith, stands.is.counted, no_fewer);
      written = λ tells. ap facts.records unchanged ∙ stands.is.written tells;
      keeps = record {
        readable = stands.is.keeps.readable;
        found = λ tells. subst (λ (l : L). facts.holds l (spellings stands.held.kept)) (sym unchanged) (stands.is.keeps.found tells);
      };
    };
    leaves = subst (λ (l : L). leaves_kept facts since l at w) (sym unchanged) stands.leaves;
  }

  -- what the fault of a step says of its node and log
  abbrev pub Fails : NotTaken → Input → (s t : Seat N L) → Type 0
  Fails fault i s t =
      ByNotTaken fault (λ faults. StepBroken (state s.node) i (log_call facts s.log t.log))
      ((state t.node ≡ state s.node) × (t.log ≡ s.log))

  module _ (since : Since L) (w : World) (at : ℕ) (s t : Seat N L) (i : Input) (stands : StandsAt (view_since since s) w at) where
    leaves_by : (more : List Kept) → (IsTrue facts.tells → LeavesThen facts.moment facts.left_at s.log t.log
        (λ file. WithOrWithout (facts.finds file) (facts.records s.log) (spellings more)))
        → (x : World) → LeadsTo w x → journal_at w.nodes at ≡ stands.held.kept → journal_at x.nodes at ≡ stands.held.kept ++ more
        → leaves_kept facts since t.log at x
    leaves_by more whole x on was is =
        leaves_step facts since s.log t.log at w x stands.held.kept more stands.leaves whole on stands.is.written was is

    pub seat_stepped : (mail : List Letter) (replies : List ToLink) → is_last (steps s.node) (state s.node) i ≡ false → steps t.node ≡ steps s.node + 1
        → StepDone (state s.node) i mail replies (log_call facts s.log t.log) (state t.node)
        → (facts.holds s.log (facts.records s.log) → facts.holds t.log (facts.records t.log))
        → StepsOn (log_call facts s.log t.log) (view_since since t) w at i mail replies
    unfolding stepped
    seat_stepped mail replies goes one d kept = record {
      steps = stepped (view_since since s) (view_since since t) w at i d.effect stands goes d.readable (λ tells. tells)
          (leaves_by d.effect.written d.kept.whole) mail replies one d.step d.sent d.told d.kept.grown kept;
      whole = d.kept.whole;
    }

    pub seat_failed : (fault : NotTaken) → is_last (steps s.node) (state s.node) i ≡ is_at_last fault → steps t.node ≡ steps_after fault (steps s.node)
        → Fails fault i s t → ByNotTaken fault (λ faults. BreaksOn (log_call facts s.log t.log) (view_since since t) w at i) (StandsAt (view_since since t) w at)
    seat_failed (Disk faults) goes count b =
        broken (view_since since s) (view_since since t) w at i b.effect stands goes b.readable (λ tells. tells) (leaves_by b.effect.written b.left.whole)
        b.new b.step (log_call facts s.log t.log) b.left.whole b.left.left
    seat_failed Steps goes count unchanged = same_stands since w at s t (omega (arith, count)) unchanged stands
    seat_failed Memory goes count unchanged = same_stands since w at s t (omega (arith, count)) unchanged stands

  pub unchanged_by : (fault : NotTaken) (i : Input) (s t : Seat N L) → Fails fault i s t
      → ByNotTaken fault (λ faults. Unit {0}) ((state t.node ≡ state s.node) × (t.log ≡ s.log))
  unchanged_by (Disk faults) i s t b = tt
  unchanged_by Steps i s t unchanged = unchanged
  unchanged_by Memory i s t unchanged = unchanged

  pub fault_told : (count : L → ℕ) (i : Input) (fault : NotTaken) (s t : Seat N L) → Fails fault i s t
      → ByNotTaken fault (λ faults. (faults ≡ count t.log) × Rose (count s.log) (count t.log)) (Unit {0}) → count s.log ≤ count t.log
      → ByNotTaken fault (λ faults. NamesFault faults (count s.log) (count t.log)) (count t.log ≡ count s.log)
  fault_told count i (Disk faults) s t b rose later = record { named = rose.0; rose = rose.1; no_fall = later }
  fault_told count i Steps s t unchanged rose later = ap count unchanged.1
  fault_told count i Memory s t unchanged rose later = ap count unchanged.1

-- without what a crash leaves of the log alone
pub breaks_only : (fault : NotTaken) (call : LogCall) (seat : SeatView) (w : World) (at : ℕ) (i : Input) (other : Type 0)
    → ByNotTaken fault (λ faults. BreaksOn call seat w at i) other → ByNotTaken fault (λ faults. BreaksAt seat w at i) other
breaks_only (Disk faults) call seat w at i other b = b.breaks
breaks_only Steps call seat w at i other same = same
breaks_only Memory call seat w at i other same = same

-- ONE NODE OF ALL

pub stands_at : {S : Type 0} (view : S → SeatView) (seats : List S) (w : World) (at : ℕ) (s : S) → AreHeld view seats w.nodes → EachLeaves view seats w
    → slice_get seats at ≡ Some s → StandsAt (view s) w at
stands_at view seats w at s are leave got =
    let place : HeldAt (view s) w.nodes at = held_at view seats w.nodes at s are got in
    record { held = place.old; here = place.here; is = place.is; leaves = leave at s got }

module _ {S : Type 0} (view : S → SeatView) (on : (s : S) (at : ℕ) (v w : World) → (view s).leaves at v → LeadsTo v w → (view s).leaves at w)
    (seats : List S) (w : World) (at : ℕ) (t : S) (i : Input) (are : AreHeld view seats w.nodes) (leave : EachLeaves view seats w) where
  -- the node at the place of a step
  new_held : (end : World) (m : Moves w at i end) (h : Held) → slice_get end.nodes at ≡ Some h
      → end.nodes ≡ slice_set w.nodes at h
  new_held end m h here =
      let all : end.nodes ≡ slice_set w.nodes at (record { state = m.new; kept = m.old.kept ++ m.f.written; steps = m.old.steps + 1 }) = ap (λ (x : World). x.nodes) m.then in
      let new : Some (record { state = m.new; kept = m.old.kept ++ m.f.written; steps = m.old.steps + 1 }) ≡ Some h =
      sym (get_set w.nodes at m.old (record { state = m.new; kept = m.old.kept ++ m.f.written; steps = m.old.steps + 1 }) m.here)
      ∙ (sym (ap (λ (l : List Held). slice_get l at) all) ∙ here) in
      all ∙ ap (λ (x : Held). slice_set w.nodes at x) (cc new)

  leave_all : (end : World) → Moves w at i end → ((e : Event) → IsEvent w at i e → (view t).leaves at end) → (e : Event) → IsEvent w at i e
      → EachLeaves view (slice_set seats at t) end
  leave_all end moves crashes e event = all_leave view on seats w end at t leave (leads_by e w end (event end (inl moves))) (crashes e event)

  -- the nodes and logs, of whose disks together P is said
  abbrev pub with_one : (P : World → Type 0) → Hosted S
  with_one P = record { seats = slice_set seats at t; together = P }

  pub all_stepped : (P : World → Type 0) (mail : List Letter) (replies : List ToLink) (h : StepsAt (view t) w at i mail replies)
      → ((e : Event) → IsEvent w at i e → P h.end) → HasStepped view (with_one P) w at i mail replies
  all_stepped P mail replies h together =
      let same = h.moves.then in
      record {
        end = h.end;
        moves = h.moves;
        nodes = subst (λ (l : List Held). AreHeld view (slice_set seats at t) l) (sym (new_held h.end h.moves h.held h.here))
            (held_set view seats w.nodes at t h.held are h.is);
        crashes = λ e event. record { each = leave_all h.end h.moves h.crashes e event; together = together e event };
        sent = ap (λ (x : World). x.sent) same ∙ ap (λ (l : List Letter). w.sent ++ l) h.sent;
        given = ap (λ (x : World). puts_given x.answered) same ∙ (puts_append w.answered (answered_by w.now h.moves.f.replies)
            ∙ ap (λ (l : List ToLink). puts_given w.answered ++ l) (puts_answered w.now h.moves.f.replies ∙ sym h.told));
      }

  all_kept : (end last : World) (h : Held) → (end ≡ w) ⊎ (end ≡ last) → Moves w at i last → slice_get end.nodes at ≡ Some h → Keeps (view t) h.kept
      → AreKept view (slice_set seats at t) end.nodes
  all_kept end last h (inl before) moves here keeps =
      subst (λ (x : World). AreKept view (slice_set seats at t) x.nodes) (sym before)
      (kept_still view seats w.nodes at t h (held_kept view seats w.nodes are) (sym (ap (λ (x : World). slice_get x.nodes at) before) ∙ here) keeps)
  all_kept end last h (inr behind) moves here keeps =
      subst (λ (l : List Held). AreKept view (slice_set seats at t) l)
      (sym (new_held end (subst (λ (x : World). Moves w at i x) (sym behind) moves) h here))
      (kept_set view seats w.nodes at t h (held_kept view seats w.nodes are) keeps)

  pub all_broken : (P : World → Type 0) (b : BreaksAt (view t) w at i) → ((e : Event) → IsEvent w at i e → P b.last) → IsBroken view (with_one P) w at i
  all_broken P b together = record {
    end = b.end;
    last = b.last;
    which = b.which;
    moves = b.moves;
    kept = all_kept b.end b.last b.held b.which b.moves b.here b.keeps;
    crashes = λ e event. record { each = leave_all b.last b.moves b.crashes e event; together = together e event };
  }

  pub all_as_before : (P : World → Type 0) → StandsAt (view t) w at → P w
      → AreHeld view (slice_set seats at t) w.nodes × LeaveKept view (with_one P) w
  all_as_before P stands together = (
    held_still view seats w.nodes at t stands.held are stands.here stands.is,
    record { each = all_leave view on seats w w at t leave (leads_nowhere w) stands.leaves; together = together },
  )

module _ {N L : Type 0} where
  pub faults_told : (count : L → ℕ) (seats : List (Seat N L)) (at : ℕ) (s t : Seat N L) (fault : NotTaken) → slice_get seats at ≡ Some s
      → ByNotTaken fault (λ faults. NamesFault faults (count s.log) (count t.log)) (count t.log ≡ count s.log)
      → ByNotTaken fault (λ faults. HaveRisen (faults_of count seats) (faults_of count (slice_set seats at t)))
      (faults_of count (slice_set seats at t) ≡ faults_of count seats)
  faults_told count seats at s t (Disk faults) got told =
      record { one = fault_rose count seats at s t got told.rose; none_fell = none_fell_at count seats at s t got told.no_fall }
  faults_told count seats at s t Steps got same = faults_same count seats at s t got same
  faults_told count seats at s t Memory got same = faults_same count seats at s t got same
