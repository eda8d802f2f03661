-- A node that stops, and is started again on its journal, while a driver goes on (own).
use Rattle.std.specs.Prelude.{◌≡◌, ℕ, ◌+◌, IsTrue, List, [], ◌∷◌, ◌++◌, false, Option, Some, None}
use Rattle.std.specs.List.{slice_get}
use Rattle.outside.specs.Disks.{LeavesOnly}
use Rattle.outside.specs.Logs.{LogFacts, WithOrWithout}
use Rattle.node_model.specs.Journal.{Kept}
use Rattle.node_model.specs.Letters.{Input, Effect}
use Rattle.node_model.specs.States.{NodeState}
use Rattle.node_model.specs.Steps.{Step}
use Rattle.node_model.specs.Lacks.{is_last}
use Rattle.node_model.specs.World.{Held, World, Event, opened_event}
use Rattle.node_replay.specs.Durable.{DurableState, empty_of}
use Rattle.node_replay.specs.Openings.{opened_on}
use Rattle.node_replay.specs.Restarts.{EventOrStop, whole_event, restart_event, stop_event, Gives, Occurs, RunWithStops}
use Rattle.restart_laws.specs.Calls.{Reached}
use Rattle.node_traits.specs.Calls.{Appended, IsWhole, log_call}
use Rattle.node_traits.specs.Effects.{AreReadable, spellings}
use Rattle.node_traits.specs.declared.outputs.NotTaken.{NotTaken}
use Rattle.node_traits.specs.declared.outputs.ToLink.{ToLink}
use Rattle.driver_steps.specs.Moves.{BeginWith, IsUpTo}
use Rattle.driver_steps.specs.Seats.{Hosted, SeatView, AreCounted, AreHeld, AreKept, LeaveKept}
use Rattle.driver_steps.specs.Worlds.{NetworkView, StandsFor, puts_given}
use Rattle.driver_steps.specs.declared.seat.Seat.{Seat}

-- ONE NODE WITH ITS LOG

-- the records of the log were read again: it has the same ones, also after a crash meanwhile
pub record IsReread {L : Type 0} (facts : LogFacts L) (old new : L) : Type 0 where
  pub same : IsTrue facts.tells → facts.records new ≡ facts.records old
  pub holds : facts.holds new (facts.records old)
  pub left : IsTrue facts.tells → LeavesOnly facts.moment facts.left_at old new (λ file. facts.finds file (facts.records old))

-- a node was opened on these records: it is in the state in which each node is that is opened on them and is this one where its journal is empty
abbrev pub IsOpenedAs : (empty : DurableState) → (records : List (List ℕ)) → NodeState → Type 0
IsOpenedAs empty records state =
    (s : NodeState) (kept : List Kept) → empty_of s ≡ empty → AreReadable kept → records ≡ spellings kept → opened_on s kept ≡ Some state

-- What a node stores with which it stops, and how many steps it has taken then: nothing, and as many as before; or the records of a step on the input, which is
-- not its last one, and one more; or nothing, and one more, where it was out of memory for that step.
pub data StopsWith (s : NodeState) (steps : ℕ) : Option Input → List Kept → (after : ℕ) → Type 0 where
  stores_none : (i : Option Input) → StopsWith s steps i [] steps
  is_short : (i : Input) → is_last steps s i ≡ false → StopsWith s steps (Some i) [] (steps + 1)
  stores_step : (i : Input) (f : Effect) (reached : NodeState) → is_last steps s i ≡ false → Step s i f reached
      → StopsWith s steps (Some i) f.written (steps + 1)

-- the node stopped, and its log has what it stored with it
pub record IsStopped {N L : Type 0} (state : N → NodeState) (steps : N → ℕ) (facts : LogFacts L) (i : Option Input) (old new : Seat N L) : Type 0 where
  pub more : List Kept
  pub count : ℕ
  pub how : StopsWith (state old.node) (steps old.node) i more count
  pub readable : AreReadable more
  pub kept : Appended (log_call facts old.log new.log) (spellings more)
  pub holds : IsTrue facts.tells → facts.holds new.log (facts.records new.log)

-- and it was opened again, and counts its steps on
pub record IsStartedAgain {N L : Type 0} (state : N → NodeState) (steps : N → ℕ) (facts : LogFacts L) (empty : DurableState) (i : Option Input)
    (old new : Seat N L) : Type 0 where
  pub stopped : IsStopped state steps facts i old new
  pub counted : stopped.count ≡ steps new.node
  pub opened : IsTrue facts.tells → IsOpenedAs empty (facts.records new.log) (state new.node)

-- a disk failed: the log has what was to be stored, or not
pub record IsStoppedAtDisk {N L : Type 0} (state : N → NodeState) (steps : N → ℕ) (facts : LogFacts L) (i : Option Input) (old new : Seat N L) : Type 0 where
  pub more : List Kept
  pub count : ℕ
  pub how : StopsWith (state old.node) (steps old.node) i more count
  pub readable : AreReadable more
  pub left : IsTrue facts.tells → WithOrWithout (facts.holds new.log) (facts.records old.log) (spellings more)
  pub whole : IsWhole (log_call facts old.log new.log) (spellings more)

-- ALL NODES

-- what each of the nodes is where its journal is empty
abbrev pub HaveParts : (part : (at : ℕ) → DurableState) → List Held → Type 0
HaveParts part nodes = (at : ℕ) (h : Held) → slice_get nodes at ≡ Some h → empty_of h.state ≡ part at

-- the world is one that calls lead to, and this is each of its nodes where its journal is empty
pub record MayStop (part : (at : ℕ) → DurableState) (w : World) : Type 0 where
  pub others : ℕ
  pub routers : ℕ
  pub reached : Reached others routers w
  pub parts : HaveParts part w.nodes

-- the event gives the input to the node at a place, if there is one
abbrev pub MayGive : World → (at : ℕ) → Option Event → Option Input → Type 0
MayGive w at None None = Unit {0}
MayGive w at (Some e) (Some i) = Gives w e at i
MayGive w at e i = ⊥

-- how the node at a place may stop: between two steps, or in the step of the event, if there is one
pub data StopsBy (at : ℕ) : Option Event → EventOrStop → Type 0 where
  by_itself : (e : Option Event) → StopsBy at e (restart_event at)
  by_step : (e : Event) → StopsBy at (Some e) (stop_event at e)

-- the node at a place stops, by this event, and the one that was started on its journal is opened
abbrev pub stop_and_open : (at : ℕ) → EventOrStop → List EventOrStop
stop_and_open at e = e ∷ whole_event (opened_event at) ∷ []

-- the first events of this
abbrev pub BeginToStop : (at : ℕ) → Option Event → List EventOrStop → Type 0
BeginToStop at e events = (x : EventOrStop) × StopsBy at e x × BeginWith events (stop_and_open at x)

-- The node at a place stopped and was started again: what it sent or returned in the step in which it stopped was dropped.
pub record HasStarted {S : Type 0} (view : S → SeatView) (hosted : Hosted S) (before : World) (at : ℕ) (e : Option Event) : Type 0 where
  pub stop : EventOrStop
  pub started : World
  pub which : StopsBy at e stop
  pub occurs : Occurs before stop started
  pub nodes : AreHeld view hosted.seats started.nodes
  pub counted : AreCounted view hosted.seats started.nodes
  pub crashes : LeaveKept view hosted started
  pub sent : started.sent ≡ before.sent
  pub given : puts_given started.answered ≡ puts_given before.answered

-- and then it was opened
pub record HasStartedAgain {S : Type 0} (view : S → SeatView) (hosted : Hosted S) (network : NetworkView) (handed : List ToLink) (before : World)
    (next at : ℕ) (e : Option Event) : Type 0 where
  pub stop : EventOrStop
  pub end : World
  pub which : StopsBy at e stop
  pub run : RunWithStops before (stop_and_open at stop) end
  pub stands : StandsFor view hosted network handed end next

-- Events occurred, of which P holds, and then a fault came: the logs keep what the journals keep, and of the nodes nothing is said.
-- Where a disk failed a crash may have left what one event more leaves, with which P holds too.
pub record HasFailed {S : Type 0} (view : S → SeatView) (hosted : Hosted S) (before : World) (P : List EventOrStop → Type 0) (fault : NotTaken) : Type 0 where
  pub events : List EventOrStop
  pub end : World
  pub which : P events
  pub run : RunWithStops before events end
  pub kept : AreKept view hosted.seats end.nodes
  pub last : World
  pub up_to : IsUpTo fault end last ((e : EventOrStop) × P (events ++ e ∷ []) × Occurs end e last)
  pub crashes : LeaveKept view hosted last
