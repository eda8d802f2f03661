-- A step of one of all hosted nodes, or none, and what a crash leaves of all disks together.
use Rattle.std.proofs.Common.{◌≡◌, inl, inr, ℕ, List, ◌++◌, Bool, IsTrue, map}
use Rattle.std.specs.Prelude.{Some}
use Rattle.std.specs.List.{slice_get, slice_set}
use Rattle.outside.specs.Logs.{LogFacts}
use Rattle.outside.specs.Notes.{Note}
use Rattle.reply_model.specs.Accounts.{Lack, no_memory, no_steps}
use Rattle.node_model.specs.Letters.{Input, Letter}
use Rattle.node_model.specs.States.{NodeState}
use Rattle.node_model.specs.World.{World}
use Rattle.node_traits.specs.Calls.{log_call}
use Rattle.node_traits.specs.Effects.{ByNotTaken}
use Rattle.node_traits.specs.Faults.{ByStepFault, cause_of}
use Rattle.node_traits.specs.declared.outputs.NotTaken.{NotTaken}
use Rattle.node_traits.specs.declared.outputs.NotTaken.TheVariants.{Disk, Steps, Memory}
use Rattle.node_traits.specs.declared.outputs.StepFault.{StepFault}
use Rattle.node_traits.specs.declared.outputs.StepFault.TheVariants.{Disk as disk_failed, Steps as at_last_step, Memory as out_of_memory}
use Rattle.node_traits.specs.declared.outputs.ToLink.{ToLink}
use Rattle.driver_steps.specs.Crashes.{Since}
use Rattle.driver_steps.specs.Moves.{HasMissed, HasStepped, IsBroken}
use Rattle.driver_steps.specs.OneSeat.{BreaksOn, MissesAt, StandsAt, StepsOn}
use Rattle.driver_steps.specs.Seats.{AreCounted, AreDurableWhileOpen, AreHeld, AreOpen, Hosted, LeaveKept, notes_of, seat_since}
use Rattle.driver_steps.specs.Together.{hosted}
use Rattle.driver_steps.specs.Told.{OfTold}
use Rattle.driver_steps.specs.declared.seat.Seat.{Seat}
use Rattle.driver_steps.proofs.Crashes.{leads_by}
use Rattle.driver_steps.proofs.Missed.{all_missed}
use Rattle.driver_steps.proofs.Stepping.{all_as_before, all_broken, all_stepped, since_on}
use Rattle.driver_steps.proofs.Together.{together_missed, together_stays, together_steps}

module _ {N L : Type 0} (facts : LogFacts L) where
  module _ (state : N → NodeState) (steps : N → ℕ) (shows : Bool) (since : Since L) (seats : List (Seat N L)) (at : ℕ) (s t : Seat N L) (before now : List Note) (length : ℕ)
      (got : slice_get seats at ≡ Some s) (are : AreOpen facts.is_open seats) (durable : AreDurableWhileOpen facts (slice_set seats at t))
      (taken : IsTrue shows → now ≡ (before ++ notes_of facts length (slice_set seats at t)) ++ notes_of facts length (slice_set seats at t))
      (same : facts.place t.log ≡ facts.place s.log) (w : World) (i : Input) (held : AreHeld (seat_since state steps facts since) seats w.nodes)
      (leave : LeaveKept (seat_since state steps facts since) (hosted shows facts since before seats) w) where
    abbrev now_hosted : Hosted (Seat N L)
    now_hosted = hosted shows facts since now (slice_set seats at t)

    -- the node at a place took a step
    pub node_stepped : (mail : List Letter) (replies : List ToLink)
        → StepsOn (log_call facts s.log t.log) (seat_since state steps facts since t) w at i mail replies
        → HasStepped (seat_since state steps facts since) now_hosted w at i mail replies
    node_stepped mail replies o =
        all_stepped (seat_since state steps facts since) (since_on state steps facts since) seats w at t i held leave.each now_hosted.together mail replies o.steps
        (λ e event shown told.
        together_steps facts state steps since seats at s t before now length told got durable (taken shown) w o.steps.end i are held o.steps.moves
        (leads_by e w o.steps.end (event o.steps.end (inl o.steps.moves))) o.whole same (leave.together shown told))

    -- it did not
    pub node_failed : (fault : NotTaken)
        → ByNotTaken fault (λ faults. BreaksOn (log_call facts s.log t.log) (seat_since state steps facts since t) w at i) (StandsAt (seat_since state steps facts since t) w at)
        → ByNotTaken fault (λ faults. Unit {0}) ((state t.node ≡ state s.node) × (t.log ≡ s.log))
        → ByNotTaken fault (λ faults. IsBroken (seat_since state steps facts since) now_hosted w at i)
        (AreHeld (seat_since state steps facts since) (slice_set seats at t) w.nodes × LeaveKept (seat_since state steps facts since) now_hosted w)
    node_failed (Disk faults) o unchanged =
        all_broken (seat_since state steps facts since) (since_on state steps facts since) seats w at t i held leave.each now_hosted.together o.breaks
        (λ e event shown told.
        together_steps facts state steps since seats at s t before now length told got durable (taken shown) w o.breaks.last i are held o.breaks.moves
        (leads_by e w o.breaks.last (event o.breaks.last (inl o.breaks.moves))) o.whole same (leave.together shown told))
    node_failed Steps o unchanged =
        all_as_before (seat_since state steps facts since) (since_on state steps facts since) seats w at t i held leave.each now_hosted.together o
        (λ shown told. together_stays facts state steps since seats at s t before now length told got durable (taken shown) w unchanged.1 (leave.together shown told))
    node_failed Memory o unchanged =
        all_as_before (seat_since state steps facts since) (since_on state steps facts since) seats w at t i held leave.each now_hosted.together o
        (λ shown told. together_stays facts state steps since seats at s t before now length told got durable (taken shown) w unchanged.1 (leave.together shown told))

    missed_so : (lack : Lack) (mail : List Letter) → AreCounted (seat_since state steps facts since) seats w.nodes
        → MissesAt (seat_since state steps facts since t) w at i lack mail → t.log ≡ s.log
        → HasMissed (seat_since state steps facts since) now_hosted w at i mail
    missed_so lack mail counted m unchanged =
        all_missed (seat_since state steps facts since) seats w at t i counted (since_on state steps facts since) held leave.each now_hosted.together lack mail m
        (λ e event shown told.
        together_missed facts state steps since seats at s t before now length told got durable (taken shown) w m.end i are held m.misses
        (leads_by e w m.end (event m.end (inr m.misses))) unchanged (leave.together shown told))

    -- it took none, and its refusal is sent
    pub node_missed : {M : Type 0} (letter : M → Letter) (count : ℕ) (fault : StepFault M) → AreCounted (seat_since state steps facts since) seats w.nodes
        → ByStepFault count fault (λ faults. Unit {0}) (λ lack told. MissesAt (seat_since state steps facts since t) w at i lack (map letter told.mail))
        → ByNotTaken (cause_of fault) (λ faults. Unit {0}) ((state t.node ≡ state s.node) × (t.log ≡ s.log))
        → OfTold fault (λ told. HasMissed (seat_since state steps facts since) now_hosted w at i (map letter told.mail))
    node_missed letter count (disk_failed faults) counted m unchanged = tt
    node_missed letter count (at_last_step told) counted m unchanged = missed_so (no_steps count) (map letter told.mail) counted m unchanged.1
    node_missed letter count (out_of_memory told) counted m unchanged = missed_so no_memory (map letter told.mail) counted m unchanged.1
