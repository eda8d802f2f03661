-- What calls of a script do to the world that models nodes and messages (own).
use Rattle.std.specs.Prelude.{◌≡◌, ◌⊎◌, ℕ, ◌+◌, ◌<◌, List, [], ◌∷◌, ◌++◌, length, drop, Some, None, Option, Bool, true, false, not, ◌&&◌}
use Rattle.std.specs.List.{slice_get}
use Rattle.opmsg_frames.specs.Outline.{FrameFault}
use Rattle.opmsg_frames.specs.Frames.{FramesFrom}
use Rattle.node_model.specs.Letters.{Letter}
use Rattle.node_model.specs.Requests.{Request}
use Rattle.node_model.specs.World.{World, IsRouter, Event, deliver_event, Happens, Run}
use Rattle.node_progress.specs.Firsts.{IsFirst}
use Rattle.node_traits.specs.declared.outputs.ToLink.{ToLink}
use Rattle.driver_steps.specs.Seats.{Hosted, SeatView, AreHeld, AreKept, LeaveKept}
use Rattle.driver_steps.specs.Restarts.{HasStartedAgain}
use Rattle.driver_steps.specs.Worlds.{NetworkView, StandsFor}
use Rattle.driver_steps.specs.Moves.{BeginWith, DeliversOrLoses, costs_of}
use Rattle.pipe_driver.specs.Progress.{AreAsked}
use Rattle.pipe_driver.specs.Rounds.{replies_behind}
use Rattle.pipe_driver.specs.declared.status.Status.{Status}
use Rattle.pipe_driver.specs.declared.status.Status.TheVariants as statuses
use Rattle.sim_driver.specs.Plays.{SettlesBut, client_events, is_passed}
use Rattle.sim_driver.specs.Scripts.{ScriptView, ClosesLink, is_delivered, is_of_kind, marked, place_from, with_delivered}

-- the message at a place among all that were sent was delivered, or lost where it goes to no node
pub record HasDeliveredOne {S : Type 0} (view : S → SeatView) (hosted : Hosted S) (network : NetworkView) (handed : List ToLink) (before : World)
    (which : ℕ) : Type 0 where
  pub message : Letter
  pub end : World
  pub got : slice_get before.sent which ≡ Some message
  pub delivers : DeliversOrLoses before which message.receiver end
  pub stands : StandsFor view hosted network handed end 0

-- the message at a place is delivered, or is about to be
pub record IsPartOfDelivery (u : World) (which : ℕ) (events : List Event) : Type 0 where
  pub message : Letter
  pub got : slice_get u.sent which ≡ Some message
  pub first : BeginWith events (deliver_event message.receiver which ∷ [])

-- the message at a place was passed over, or delivered
pub data PassesOrDelivers {S : Type 0} (view : S → SeatView) (hosted : Hosted S) (network : NetworkView) (handed : List ToLink) (before : World)
    (except : Option (List ℕ)) (which : ℕ) (old new : List Bool) : Type 0 where
  has_passed : (m : Letter) → slice_get before.sent which ≡ Some m → is_passed except old which m ≡ true → StandsFor view hosted network handed before 0
      → new ≡ old → PassesOrDelivers view hosted network handed before except which old new
  has_delivered : (d : HasDeliveredOne view hosted network handed before which) → is_passed except old which d.message ≡ false → new ≡ marked which old
      → PassesOrDelivers view hosted network handed before except which old new

-- all that was not delivered was, but for the messages that are passed over
pub record HasSettledBut {S : Type 0} (view : S → SeatView) (hosted : Hosted S) (network : NetworkView) (handed : List ToLink) (before : World)
    (except : Option (List ℕ)) (old new : List Bool) : Type 0 where
  pub events : List Event
  pub end : World
  pub settles : SettlesBut except before old 0 events end new (length end.sent)
  pub stands : StandsFor view hosted network handed end 0

-- nothing happened
pub record AreStill {S : Type 0} (view : S → SeatView) (hosted : Hosted S) (w : World) : Type 0 where
  pub nodes : AreHeld view hosted.seats w.nodes
  pub crashes : LeaveKept view hosted w

-- The world up to which a crash may have left what the nodes keep: the end, and where a disk failed maybe one event more, with which P holds too.
abbrev pub IsLastOf : Status → (events : List Event) → (List Event → Type 0) → (end last : World) → Type 0
IsLastOf status events P end last =
    (last ≡ end) ⊎ ((status ≡ statuses.DiskFailed) × (e : Event) × P (events ++ e ∷ []) × Happens end e last)

-- Events happened, of which P holds, and then a fault came, with this status: the logs keep what the journals of that world keep.
pub record IsCut {S : Type 0} (view : S → SeatView) (hosted : Hosted S) (before : World) (P : List Event → Type 0) (status : Status) : Type 0 where
  pub events : List Event
  pub end : World
  pub which : P events
  pub run : Run before events end
  pub kept : AreKept view hosted.seats end.nodes
  pub last : World
  pub is_last : IsLastOf status events P end last
  pub crashes : LeaveKept view hosted last

-- whether there is a fault
abbrev pub HasFault : Option (FrameFault × ℕ) → Bool → Type 0
HasFault None malformed = malformed ≡ false
HasFault (Some fault) malformed = malformed ≡ true

-- the whole requests in the bytes of a link came to the router at a place
pub record HasAsked {S : Type 0} (view : S → SeatView) (hosted : Hosted S) (network : NetworkView) (handed : List ToLink) (before : World)
    (at link replied_before : ℕ) (bytes left : List ℕ) (replied : ℕ) (malformed : Bool) : Type 0 where
  pub requests : List Request
  pub fault : Option (FrameFault × ℕ)
  pub end : World
  pub frames : FramesFrom 0 bytes requests left fault
  pub run : Run before (client_events at link replied_before requests) end
  pub count : replied ≡ replies_behind replied_before requests
  pub ends : HasFault fault malformed
  pub stands : StandsFor view hosted network handed end 0

-- first requests of these bytes came
pub record IsFirstAsked (at link replied : ℕ) (bytes : List ℕ) (events : List Event) : Type 0 where
  pub consumed : List ℕ
  pub rest : List ℕ
  pub requests : List Request
  pub all : bytes ≡ consumed ++ rest
  pub asked : AreAsked consumed requests
  pub first : BeginWith events (client_events at link replied requests)

-- the nodes from this place on are routers
abbrev pub HasRouters : (first_router : ℕ) → World → Type 0
HasRouters first_router w = (router : ℕ) → first_router + router < length w.nodes → IsRouter w.nodes (first_router + router)

-- a call may begin in the world, and its nodes from this place on are routers
pub record MayPlay (first_router : ℕ) (first : World) : Type 0 where
  pub begins : IsFirst first
  pub routers : HasRouters first_router first

-- The node at a place stopped, by an event that this one allows, was started again and opened, and its link was closed, if it was open.
pub record HasReturned {S : Type 0} (view : S → SeatView) (hosted : Hosted S) (network : NetworkView) (handed : List ToLink) (before : World) (at : ℕ)
    (e : Option Event) (old new : ScriptView) (closed : Option ℕ) : Type 0 where
  pub again : HasStartedAgain view hosted network handed before 0 at e
  pub closes : ClosesLink old at new closed

-- a message at a place goes to this node
abbrev pub IsReceiverAt : List Letter → (at node : ℕ) → Type 0
IsReceiverAt letters at node = (m : Letter) × (slice_get letters at ≡ Some m) × (node ≡ m.receiver)

-- the k-th message to the node is at this place, and was marked as delivered
pub record IsTakenAt (letters : List Letter) (node k : ℕ) (old new : ScriptView) (at : ℕ) : Type 0 where
  pub place : place_from 0 node k letters ≡ Some at
  pub within : at < length letters
  pub marked : new ≡ with_delivered old (marked at old.delivered)

-- whether a message at a place is of the kind
abbrev pub IsOfKindAt : List Letter → (at : ℕ) → (kind : List ℕ) → Bool → Type 0
IsOfKindAt letters at kind is = (m : Letter) × (slice_get letters at ≡ Some m) × (is ≡ is_of_kind kind m)

-- whether a message at a place is passed over
abbrev pub IsPassedAt : List Letter → (at : ℕ) → (except : Option (List ℕ)) → (delivered : List Bool) → Bool → Type 0
IsPassedAt letters at except delivered is = (m : Letter) × (slice_get letters at ≡ Some m) × (is ≡ is_passed except delivered at m)

-- whether a message at a place is of the kind, and was not delivered
abbrev pub IsNextAt : List Letter → (at : ℕ) → (kind : List ℕ) → (delivered : List Bool) → Bool → Type 0
IsNextAt letters at kind delivered is = (m : Letter) × (slice_get letters at ≡ Some m) × (is ≡ (not (is_delivered delivered at) && is_of_kind kind m))

-- WHAT IS LEFT TO DO

-- One step less is left to the nodes, or as many, and then what was sent from the next place on costs less than what was sent from this one on.
abbrev pub IsLessFrom : (left_before left_after at : ℕ) → (before after : List Letter) → Type 0
IsLessFrom left_before left_after at before after =
    (left_after + 1 ≡ left_before) ⊎ ((left_after ≡ left_before) × (costs_of (drop (at + 1) after) < costs_of (drop at before)))
