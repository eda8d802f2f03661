-- What calls of a driver do to the world that models it (own).
use Rattle.std.specs.Prelude.{◌≡◌, ◌⊎◌, ℕ, ◌+◌, ◌<◌, ◌≤◌, Some, List, [], ◌∷◌, ◌++◌, length}
use Rattle.std.specs.List.{slice_get, AllByRecursion}
use Rattle.node_model.specs.Letters.{Body, refused, Letter, Input, client_input, letter_input, moment_input, opened_input}
use Rattle.node_model.specs.World.{World, Moves, Misses, Meets, Event, client_event, deliver_event, moment_event, opened_event, Happens, Run}
use Rattle.node_traits.specs.Effects.{ByNotTaken}
use Rattle.node_traits.specs.declared.outputs.NotTaken.{NotTaken}
use Rattle.node_traits.specs.declared.outputs.ToLink.{ToLink}
use Rattle.driver_steps.specs.Seats.{Hosted, SeatView, AreCounted, AreHeld, AreKept, AreHeldOrKept, LeaveKept}
use Rattle.driver_steps.specs.Worlds.{NetworkView, puts_given, StandsFor}

-- that the input comes to the node at a place is this event
abbrev pub IsEvent : World → (at : ℕ) → Input → Event → Type 0
IsEvent before at i e = (v : World) → Meets before at i v → Happens before e v

-- The node at a place took a step on the input, whichever event that is, and gave out these messages and replies.
pub record HasStepped {S : Type 0} (view : S → SeatView) (hosted : Hosted S) (before : World) (at : ℕ) (i : Input) (mail : List Letter)
    (replies : List ToLink) : Type 0 where
  pub end : World
  pub moves : Moves before at i end
  pub nodes : AreHeld view hosted.seats end.nodes
  pub crashes : (e : Event) → IsEvent before at i e → LeaveKept view hosted end
  pub sent : end.sent ≡ before.sent ++ mail
  pub given : puts_given end.answered ≡ puts_given before.answered ++ replies

-- The node at a place took no step on the input, whichever event that is, and gave out these messages.
pub record HasMissed {S : Type 0} (view : S → SeatView) (hosted : Hosted S) (before : World) (at : ℕ) (i : Input) (mail : List Letter) : Type 0 where
  pub end : World
  pub misses : Misses before at i end
  pub nodes : AreHeld view hosted.seats end.nodes
  pub counted : AreCounted view hosted.seats end.nodes
  pub crashes : (e : Event) → IsEvent before at i e → LeaveKept view hosted end
  pub sent : end.sent ≡ before.sent ++ mail
  pub same : end.answered ≡ before.answered

-- the input came to its node, or it did not
abbrev pub MeetsOrNot : World → (at : ℕ) → Input → World → Type 0
MeetsOrNot before at i end = (end ≡ before) ⊎ Meets before at i end

-- A disk failed in the step: the logs store what they store after it (`last`), or before it. A crash meanwhile may have left either.
pub record IsBroken {S : Type 0} (view : S → SeatView) (hosted : Hosted S) (before : World) (at : ℕ) (i : Input) : Type 0 where
  pub end : World
  pub last : World
  pub which : (end ≡ before) ⊎ (end ≡ last)
  pub moves : Moves before at i last
  pub kept : AreKept view hosted.seats end.nodes
  pub crashes : (e : Event) → IsEvent before at i e → LeaveKept view hosted last

-- The input came to the node at a place, which took a step on it or none, whichever event that is, and what it gave out was taken in.
pub record HasMoved {S : Type 0} (view : S → SeatView) (hosted : Hosted S) (network : NetworkView) (handed : List ToLink) (before : World) (next at : ℕ)
    (i : Input) : Type 0 where
  pub end : World
  pub meets : Meets before at i end
  pub stands : (e : Event) → IsEvent before at i e → StandsFor view hosted network handed end next

-- The world up to which a crash may have left what the nodes keep: the last one, and where a disk failed maybe one more.
abbrev pub IsUpTo : NotTaken → (end last : World) → (more : Type 0) → Type 0
IsUpTo fault end last more = ByNotTaken fault (λ faults. (last ≡ end) ⊎ more) (last ≡ end)

-- A fault came in the step, or memory ran out for messages or replies: replies may be missing, and of what waits nothing is said.
pub record IsCutShort {S : Type 0} (view : S → SeatView) (hosted : Hosted S) (replies handed : List ToLink) (before : World) (at : ℕ) (i : Input)
    (fault : NotTaken) : Type 0 where
  pub end : World
  pub meets : MeetsOrNot before at i end
  pub nodes : AreHeldOrKept fault view hosted end.nodes
  pub last : World
  pub up_to : IsUpTo fault end last ((end ≡ before) × Moves before at i last)
  pub crashes : (e : Event) → IsEvent before at i e → LeaveKept view hosted last
  pub missing : List ToLink
  pub given : puts_given end.answered ≡ (handed ++ replies) ++ missing

-- An event happened.
pub record HasHappened {S : Type 0} (view : S → SeatView) (hosted : Hosted S) (network : NetworkView) (handed : List ToLink) (before : World) (next : ℕ)
    (e : Event) : Type 0 where
  pub end : World
  pub happens : Happens before e end
  pub stands : StandsFor view hosted network handed end next

-- These events happened, one after another.
pub record HasRun {S : Type 0} (view : S → SeatView) (hosted : Hosted S) (network : NetworkView) (handed : List ToLink) (before : World) (next : ℕ)
    (events : List Event) : Type 0 where
  pub end : World
  pub run : Run before events end
  pub stands : StandsFor view hosted network handed end next

-- these are the first of all these events, as far as they go
abbrev pub BeginWith : {X : Type 0} → (events all : List X) → Type 0
BeginWith {X} events all = (others : List X) × (all ≡ events ++ others)

abbrev pub IsDelivery : Event → Type 0
IsDelivery (client_event at link number request) = ⊥
IsDelivery (deliver_event at which) = Unit {0}
IsDelivery (moment_event at moment) = ⊥
IsDelivery (opened_event at) = ⊥

abbrev pub AreDeliveries : List Event → Type 0
AreDeliveries events = AllByRecursion IsDelivery events

-- Events happened, of which P holds, and then a fault came: replies may be missing, and of what waits nothing is said. Where a disk
-- failed a crash may have left what one event more leaves, with which P holds too.
pub record HasStopped {S : Type 0} (view : S → SeatView) (hosted : Hosted S) (replies handed : List ToLink) (before : World) (P : List Event → Type 0)
    (fault : NotTaken) : Type 0 where
  pub events : List Event
  pub end : World
  pub which : P events
  pub run : Run before events end
  pub nodes : AreHeldOrKept fault view hosted end.nodes
  pub last : World
  pub up_to : IsUpTo fault end last ((e : Event) × P (events ++ e ∷ []) × Happens end e last)
  pub crashes : LeaveKept view hosted last
  pub missing : List ToLink
  pub given : puts_given end.answered ≡ (handed ++ replies) ++ missing

-- The message with a place among all that were sent is delivered to a node, or lost where there is none.
abbrev pub DeliversOrLoses : World → (which receiver : ℕ) → World → Type 0
DeliversOrLoses before which receiver end = Happens before (deliver_event receiver which) end ⊎ ((end ≡ before) × (length before.nodes ≤ receiver))

-- that happened
pub record HasDelivered {S : Type 0} (view : S → SeatView) (hosted : Hosted S) (network : NetworkView) (handed : List ToLink) (before : World)
    (next which receiver : ℕ) : Type 0 where
  pub end : World
  pub delivers : DeliversOrLoses before which receiver end
  pub stands : StandsFor view hosted network handed end next

-- Messages are delivered in order of sending, each once, from a place among all that were sent up to a later one; those too that are
-- sent meanwhile. One that goes to no node is lost.
pub data Settles : World → (next : ℕ) → List Event → World → (later : ℕ) → Type 0 where
  settles_none : (w : World) (next : ℕ) → Settles w next [] w next
  settles_next : (u v w : World) (next later at : ℕ) (events : List Event) → Happens u (deliver_event at next) v → Settles v (next + 1) events w later
      → Settles u next (deliver_event at next ∷ events) w later
  loses_next : (u w : World) (next later : ℕ) (m : Letter) (events : List Event) → slice_get u.sent next ≡ Some m → length u.nodes ≤ m.receiver
      → Settles u (next + 1) events w later → Settles u next events w later

-- All that waited was delivered, and nothing waits.
pub record HasSettled {S : Type 0} (view : S → SeatView) (hosted : Hosted S) (network : NetworkView) (handed : List ToLink) (before : World) (next : ℕ) : Type 0 where
  pub events : List Event
  pub end : World
  pub settles : Settles before next events end (length end.sent)
  pub stands : StandsFor view hosted network handed end (length end.sent)

-- the input is no request of a client
abbrev pub IsNoRequest : Input → Type 0
IsNoRequest (client_input link number request) = ⊥
IsNoRequest (letter_input m) = Unit {0}
IsNoRequest (moment_input moment) = Unit {0}
IsNoRequest opened_input = Unit {0}

-- WHAT IS LEFT TO DO

-- a message counts twice, but a refusal, which nobody answers where no step is taken, once
abbrev pub cost_of : Body → ℕ
cost_of (refused what cause) = 1
cost_of body = 2

abbrev pub costs_of : List Letter → ℕ
costs_of [] = 0
costs_of (m ∷ mail) = cost_of m.body + costs_of mail

abbrev pub cost_in : Input → ℕ
cost_in (letter_input m) = cost_of m.body
cost_in i = 1

-- One step less is left, or as many, and then what waits, with what came, costs less.
abbrev pub IsLess : (left_before left_after : ℕ) → (waited : List Letter) → (came : ℕ) → (waits : List Letter) → Type 0
IsLess left_before left_after waited came waits = (left_after + 1 ≡ left_before) ⊎ ((left_after ≡ left_before) × (costs_of waits < costs_of waited + came))
