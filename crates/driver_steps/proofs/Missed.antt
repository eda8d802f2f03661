-- A node takes no step, and its refusal is sent.
use Rattle.std.proofs.Common.{◌≡◌, inl, inr, ℕ, ◌+◌, ◌<◌, ◌^◌, List, [], ◌++◌, map, refl, sym, ap, subst, ◌∙◌, arith, IsTrue, Bool, true, false}
use Rattle.std.specs.Prelude.{Some}
use Rattle.std.specs.List.{slice_get, slice_set}
use Rattle.outside.specs.Logs.{LogFacts}
use Rattle.reply_model.specs.Accounts.{Lack, no_memory, no_steps}
use Rattle.node_model.specs.Letters.{Letter, Input}
use Rattle.node_model.specs.Lacks.{is_last, misses}
use Rattle.node_model.specs.States.{NodeState}
use Rattle.node_model.specs.World.{Held, World, Event, Moves, MayLack, Misses, after_lack, tick, steps_after as steps_by}
use Rattle.node_traits.specs.Effects.{ByNotTaken, is_at_last, spellings, steps_after}
use Rattle.node_traits.specs.Faults.{ByStepFault, StepMissed, cause_of}
use Rattle.node_traits.specs.declared.outputs.NotTaken.{NotTaken}
use Rattle.node_traits.specs.declared.outputs.NotTaken.TheVariants.{Disk, Steps, Memory}
use Rattle.node_traits.specs.declared.outputs.StepFault.{StepFault}
use Rattle.node_traits.specs.declared.outputs.StepFault.TheVariants.{Disk as disk_failed, Steps as at_last_step, Memory as out_of_memory}
use Rattle.driver_steps.specs.declared.seat.Seat.{Seat}
use Rattle.driver_steps.specs.Crashes.{Since, LeadsTo, leaves_kept}
use Rattle.driver_steps.specs.Moves.{HasMissed, IsEvent, IsLess, cost_in, costs_of}
use Rattle.driver_steps.specs.OneSeat.{IsCountedAt, MissesAt, StandsAt}
use Rattle.driver_steps.specs.Seats.{SeatView, AreCounted, AreHeld, AreOpen, EachLeaves, left_of, seat_since}
use Rattle.driver_steps.specs.Told.{OfTold}
use Rattle.driver_steps.proofs.Costs.{told_costs}
use Rattle.driver_steps.proofs.Crashes.{all_leave, leads_by, leaves_on}
use Rattle.driver_steps.proofs.Seats.{CountedAt, counted_at, counted_set, get_set, held_set, left_falls, left_same, open_set}
use Rattle.driver_steps.proofs.Stepping.{Fails}

-- ONE NODE

module _ {N L : Type 0} (state : N → NodeState) (steps : N → ℕ) (facts : LogFacts L) where
  -- what is returned of a step that is not taken
  abbrev pub Returns : {M : Type 0} → (M → Letter) → Input → Seat N L → StepFault M → Type 0
  Returns letter i s fault =
      ByStepFault (steps s.node) fault (λ faults. Unit {0}) (λ lack told. StepMissed (state s.node) i lack (map letter told.mail) told.replies)

  module _ (since : Since L) (w : World) (at : ℕ) (s t : Seat N L) (i : Input) (stands : StandsAt (seat_since state steps facts since s) w at) where
    abbrev still_held : Lack → Held
    still_held lack = record { state = stands.held.state; kept = stands.held.kept; steps = steps_by lack stands.held.steps }

    abbrev told_world : Lack → World
    told_world lack = tick (after_lack w at stands.held lack (misses stands.held.state lack i))

    missed_by : (lack : Lack) → MayLack stands.held.steps stands.held.state i lack → Misses w at i (told_world lack)
    missed_by lack may = record { old = stands.held; lack = lack; here = stands.here; may = may; then = refl }

    missed_at : (lack : Lack) (mail : List Letter) → MayLack stands.held.steps stands.held.state i lack
        → (state t.node ≡ state s.node) × (t.log ≡ s.log) → steps_by lack stands.held.steps ≡ steps t.node → (misses (state s.node) lack i).mail ≡ mail
        → MissesAt (seat_since state steps facts since t) w at i lack mail
    missed_at lack mail may (same, unchanged) count sent = record {
      end = told_world lack;
      misses = record { old = stands.held; lack = lack; here = stands.here; may = may; then = refl };
      lacks = refl;
      held = still_held lack;
      here = get_set w.nodes at stands.held (still_held lack) stands.here;
      is = record {
        same = stands.is.same ∙ sym same;
        counted = omega (arith, count);
        written = λ tells. ap facts.records unchanged ∙ stands.is.written tells;
        keeps = record {
          readable = stands.is.keeps.readable;
          found = λ tells. subst (λ (l : L). facts.holds l (spellings stands.held.kept)) (sym unchanged) (stands.is.keeps.found tells);
        };
      };
      counted = count;
      crashes = λ e event. leaves_on facts since t.log at w (told_world lack)
          (subst (λ (l : L). leaves_kept facts since l at w) (sym unchanged) stands.leaves)
          (leads_by e w (told_world lack) (event (told_world lack) (inr (missed_by lack may))));
      sent = ap (λ (l : List Letter). w.sent ++ l) (ap (λ (x : NodeState). (misses x lack i).mail) stands.is.same ∙ sent);
    }

    same_count : IsCountedAt (seat_since state steps facts since s) w at → stands.held.steps ≡ steps s.node
    same_count c =
        let both : Some stands.held ≡ Some c.held = sym stands.here ∙ c.here in
        let one : stands.held ≡ c.held = cc both in
        ap (λ (h : Held). h.steps) one ∙ c.same

    same_last : stands.held.steps ≡ steps s.node → (b : Bool) → is_last (steps s.node) (state s.node) i ≡ b → is_last stands.held.steps stands.held.state i ≡ b
    same_last count b last =
        subst (λ (n : ℕ). is_last n stands.held.state i ≡ b) (sym count)
        (subst (λ (x : NodeState). is_last (steps s.node) x i ≡ b) (sym stands.is.same) last)

    pub seat_missed : {M : Type 0} (letter : M → Letter) (fault : StepFault M) → IsCountedAt (seat_since state steps facts since s) w at
        → is_last (steps s.node) (state s.node) i ≡ is_at_last (cause_of fault) → steps t.node ≡ steps_after (cause_of fault) (steps s.node)
        → Fails state steps facts (cause_of fault) i s t → Returns letter i s fault
        → ByStepFault (steps s.node) fault (λ faults. Unit {0})
        (λ lack told. MissesAt (seat_since state steps facts since t) w at i lack (map letter told.mail))
    seat_missed letter (disk_failed faults) counted last count unchanged m = tt
    seat_missed letter (at_last_step told) counted last count unchanged m =
        let as_many : stands.held.steps ≡ steps s.node = same_count counted in
        missed_at (no_steps (steps s.node)) (map letter told.mail) (same_last as_many true last, sym as_many) unchanged (as_many ∙ sym count) m.sent
    seat_missed letter (out_of_memory told) counted last count unchanged m =
        let as_many : stands.held.steps ≡ steps s.node = same_count counted in
        let one : steps t.node ≡ steps s.node + 1 = count in
        missed_at no_memory (map letter told.mail) (same_last as_many false last) unchanged (omega (arith, as_many, one)) m.sent

  pub told_cheap : {M : Type 0} (letter : M → Letter) (i : Input) (s : Seat N L) (fault : StepFault M) → Returns letter i s fault
      → OfTold fault (λ told. costs_of (map letter told.mail) < cost_in i)
  told_cheap letter i s (disk_failed faults) m = tt
  told_cheap letter i s (at_last_step told) m =
      subst (λ (l : List Letter). costs_of l < cost_in i) m.sent (told_costs (state s.node) (no_steps (steps s.node)) i)
  told_cheap letter i s (out_of_memory told) m = subst (λ (l : List Letter). costs_of l < cost_in i) m.sent (told_costs (state s.node) no_memory i)

  pub told_silent : {M : Type 0} (letter : M → Letter) (i : Input) (s : Seat N L) (fault : StepFault M) → Returns letter i s fault
      → OfTold fault (λ told. told.replies ≡ [])
  told_silent letter i s (disk_failed faults) m = tt
  told_silent letter i s (at_last_step told) m = m.none
  told_silent letter i s (out_of_memory told) m = m.none

  -- its log stays open where no disk failed
  pub open_still : (i : Input) (s t : Seat N L) (fault : NotTaken) → Fails state steps facts fault i s t → IsTrue (facts.is_open s.log)
      → ByNotTaken fault (λ faults. Unit {0}) (IsTrue (facts.is_open t.log))
  open_still i s t (Disk faults) unchanged is = tt
  open_still i s t Steps unchanged is = subst (λ (l : L). IsTrue (facts.is_open l)) (sym unchanged.1) is
  open_still i s t Memory unchanged is = subst (λ (l : L). IsTrue (facts.is_open l)) (sym unchanged.1) is

-- ONE NODE OF ALL

pub counted_here : {S : Type 0} (view : S → SeatView) (seats : List S) (w : World) (at : ℕ) (s : S) → AreCounted view seats w.nodes
    → slice_get seats at ≡ Some s → IsCountedAt (view s) w at
counted_here view seats w at s are got =
    let place : CountedAt (view s) w.nodes at = counted_at view seats w.nodes at s are got in
    record { held = place.old; here = place.here; same = place.is }

module _ {S : Type 0} (view : S → SeatView) (seats : List S) (w : World) (at : ℕ) (t : S) (i : Input) (counted : AreCounted view seats w.nodes) where
  -- after a step all are counted too
  pub counted_after : (s : S) (v : World) → slice_get seats at ≡ Some s → Moves w at i v → (view t).steps ≡ (view s).steps + 1
      → AreCounted view (slice_set seats at t) v.nodes
  counted_after s v got m one =
      let place : CountedAt (view s) w.nodes at = counted_at view seats w.nodes at s counted got in
      let both : Some place.old ≡ Some m.old = sym place.here ∙ m.here in
      let same : place.old ≡ m.old = cc both in
      let as_many : m.old.steps ≡ (view s).steps = sym (ap (λ (h : Held). h.steps) same) ∙ place.is in
      subst (λ (l : List Held). AreCounted view (slice_set seats at t) l) (sym (ap (λ (x : World). x.nodes) m.then))
      (counted_set view seats w.nodes at t (record { state = m.new; kept = m.old.kept ++ m.f.written; steps = m.old.steps + 1 }) counted
      (ap (λ (n : ℕ). n + 1) as_many ∙ sym one))

  module _ (on : (s : S) (at : ℕ) (v w : World) → (view s).leaves at v → LeadsTo v w → (view s).leaves at w) (are : AreHeld view seats w.nodes)
      (leave : EachLeaves view seats w) where
    missed_nodes : (end : World) (m : Misses w at i end) (h : Held) → slice_get end.nodes at ≡ Some h → end.nodes ≡ slice_set w.nodes at h
    missed_nodes end m h here =
        let all : end.nodes ≡ slice_set w.nodes at (record { state = m.old.state; kept = m.old.kept; steps = steps_by m.lack m.old.steps }) = ap (λ (x : World). x.nodes) m.then in
        let new : Some (record { state = m.old.state; kept = m.old.kept; steps = steps_by m.lack m.old.steps }) ≡ Some h =
        sym (get_set w.nodes at m.old (record { state = m.old.state; kept = m.old.kept; steps = steps_by m.lack m.old.steps }) m.here)
        ∙ (sym (ap (λ (l : List Held). slice_get l at) all) ∙ here) in
        all ∙ ap (λ (x : Held). slice_set w.nodes at x) (cc new)

    pub all_missed : (P : World → Type 0) (lack : Lack) (mail : List Letter) (h : MissesAt (view t) w at i lack mail)
        → ((e : Event) → IsEvent w at i e → P h.end) → HasMissed view (record { seats = slice_set seats at t; together = P }) w at i mail
    all_missed P lack mail h together =
        let nodes : h.end.nodes ≡ slice_set w.nodes at h.held = missed_nodes h.end h.misses h.held h.here in
        record {
          end = h.end;
          misses = h.misses;
          nodes = subst (λ (l : List Held). AreHeld view (slice_set seats at t) l) (sym nodes) (held_set view seats w.nodes at t h.held are h.is);
          counted = subst (λ (l : List Held). AreCounted view (slice_set seats at t) l) (sym nodes)
              (counted_set view seats w.nodes at t h.held counted h.counted);
          crashes = λ e event. record {
            each = all_leave view on seats w h.end at t leave (leads_by e w h.end (event h.end (inr h.misses))) (h.crashes e event);
            together = together e event;
          };
          sent = h.sent;
          same = ap (λ (x : World). x.answered) h.misses.then;
        }

module _ {N L : Type 0} (seats : List (Seat N L)) (at : ℕ) (s t : Seat N L) where
  -- one step less is left, or what is returned costs less than what came
  pub left_told : {M : Type 0} (steps : N → ℕ) (letter : M → Letter) (i : Input) (fault : StepFault M) → slice_get seats at ≡ Some s
      → steps t.node ≡ steps_after (cause_of fault) (steps s.node) → steps t.node < 2 ^ 56
      → OfTold fault (λ told. costs_of (map letter told.mail) < cost_in i)
      → OfTold fault (λ told. IsLess (left_of steps seats) (left_of steps (slice_set seats at t)) [] (cost_in i) (map letter told.mail))
  left_told steps letter i (disk_failed faults) got count below cheap = tt
  left_told steps letter i (at_last_step told) got count below cheap = inr (left_same steps seats at s t got count, omega (arith, cheap))
  left_told steps letter i (out_of_memory told) got count below cheap = inl (left_falls steps seats at s t got count below)

  pub open_told : (is_open : L → Bool) (fault : NotTaken) → AreOpen is_open seats → ByNotTaken fault (λ faults. Unit {0}) (IsTrue (is_open t.log))
      → ByNotTaken fault (λ faults. Unit {0}) (AreOpen is_open (slice_set seats at t))
  open_told is_open (Disk faults) are is = tt
  open_told is_open Steps are is = open_set is_open seats at t are is
  open_told is_open Memory are is = open_set is_open seats at t are is
