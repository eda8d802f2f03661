-- What ties the numbers of the steps, and what is known of them, to one run of the machine (own).
use Rattle.std.specs.Prelude.{⊤, ◌≡◌, ℕ, ◌+◌, ◌<◌, ◌≤◌, ◌^◌, List, [], ◌∷◌, ◌++◌, length, map, Some}
use Rattle.std.specs.List.{slice_get, AllByRecursion}
use mathlib.Core.Option.{some}
use lib.ListN.{get_elem?}
use Rattle.atomic_table.specs.Table.{State}
use Rattle.outside.specs.Logs.{IsDurable, LogFacts}
use Rattle.node_model.specs.Exchanges.{Answered}
use Rattle.node_model.specs.Letters.{Letter, Input, client_input, letter_input, moment_input, opened_input}
use Rattle.node_model.specs.States.{NodeState}
use Rattle.node_model.specs.World.{World, Held, Event, client_event, deliver_event, moment_event, opened_event, IsRouter, Run}
use Rattle.node_traits.specs.declared.outputs.ToLink.{ToLink}
use Rattle.driver_steps.specs.declared.seat.Seat.{Seat}
use Rattle.driver_steps.specs.Crashes.{LeadsTo, Noted, Since, with_notes}
use Rattle.driver_steps.specs.Seats.{SeatView, AreHeld, EachLeaves, seat_since}
use Rattle.driver_steps.specs.OneSeat.{StandsAt}
use Rattle.driver_steps.specs.Worlds.{puts_given}
use Rattle.node_cell.specs.declared.view.Safe.{Safe}
use Rattle.node_cell.specs.declared.view.Taken.{Taken}
use Rattle.node_cell.specs.declared.view.View.{View}
use Rattle.node_cell.specs.Views.{Sights, holder, sight_of}

-- what the definitions see of nodes, their messages and inputs, and their logs
pub record NodeFacts (N L M I : Type 0) : Type 1 where
  pub state : N → NodeState
  pub steps : N → ℕ
  pub letter : M → Letter
  pub meaning : I → Input
  pub facts : LogFacts L

abbrev pub node_facts : {N L M I : Type 0} → (N → NodeState) → (N → ℕ) → (M → Letter) → (I → Input) → LogFacts L → NodeFacts N L M I
node_facts state steps letter meaning facts = record { state = state; steps = steps; letter = letter; meaning = meaning; facts = facts }

abbrev pub view_by : {N L M I : Type 0} → NodeFacts N L M I → Since L → Seat N L → SeatView
view_by f since seat = seat_since f.state f.steps f.facts since seat

abbrev pub WasSent : World → Letter → Type 0
WasSent w m = (which : ℕ) × (slice_get w.sent which ≡ Some m)

-- the step with a number, counted from the first one of the run, returned a reply: it is what is put for an answer of that step
pub record WasTold (first : ℕ) (w : World) (r : ℕ × ToLink) : Type 0 where
  pub which : ℕ
  pub answer : Answered
  pub here : slice_get w.answered which ≡ Some answer
  pub step : answer.step ≡ first + r.0
  pub put : puts_given (answer ∷ []) ≡ r.1 ∷ []

-- the event is a step of the node at a place on the input
abbrev pub IsStepOn : World → Event → (at : ℕ) → Input → Type 0
IsStepOn w (client_event to link number request) at i = (to ≡ at) × (i ≡ client_input link number request)
IsStepOn w (deliver_event to which) at i = (to ≡ at) × ((m : Letter) × (slice_get w.sent which ≡ Some m) × (i ≡ letter_input m))
IsStepOn w (moment_event to moment) at i = (to ≡ at) × (i ≡ moment_input moment)
IsStepOn w (opened_event to) at i = (to ≡ at) × (i ≡ opened_input)

-- the event with a number is a step of that node on that input
pub record WasTaken {I : Type 0} (meaning : I → Input) (events : List Event) (w : World) (t : Taken I) : Type 0 where
  pub event : Event
  pub here : slice_get events t.number ≡ Some event
  pub is : IsStepOn w event t.at (meaning t.input)

-- A reply was returned in a world that was marked: from these moments of the disks on, in order of the nodes, a crash leaves no less than is stored in it.
pub record WasSafe (places : List (List ℕ)) (first : ℕ) (marks : List Noted) (s : Safe) : Type 0 where
  pub which : ℕ
  pub mark : Noted
  pub here : slice_get marks which ≡ Some mark
  pub told : WasTold first mark.world (s.number, s.reply)
  pub moments : map (λ d. d.1) s.disks ≡ mark.moments
  pub places_are : map (λ d. d.0) s.disks ≡ places

-- A run up to now: its events and its world; which pass has the node at a place; how many steps each node has counted; which pass has the board, and what it
-- shows: the disks of all nodes, each as it was after its node's last step; and the worlds that were marked, the latest first.
pub record Course : Type 0 where
  pub events : List Event
  pub world : World
  pub owner : ℕ → ℕ
  pub counts : List ℕ
  pub keeper : ℕ
  pub sights : Sights
  pub marks : List Noted

-- the same start, where these worlds were marked too
abbrev pub with_marks : {L : Type 0} → Since L → List Noted → Since L
with_marks since marks = with_notes since (marks ++ since.noted)

-- where the disks of the logs are
abbrev pub places_at : {L : Type 0} → LogFacts L → Since L → List (List ℕ)
places_at facts since = map facts.place since.logs

abbrev pub total : List ℕ → ℕ
total [] = 0
total (x ∷ xs) = x + total xs

-- what was seen is so
pub record Saw {N L M I : Type 0} (f : NodeFacts N L M I) (places : List (List ℕ)) (first : ℕ) (events : List Event) (marks : List Noted) (w : World)
    (v : View N L M I) : Type 0 where
  pub seen : AllByRecursion (λ m. WasSent w (f.letter m)) v.seen
  pub told : AllByRecursion (λ r. WasTold first w r) v.told
  pub taken : AllByRecursion (λ t. WasTaken f.meaning events w t) v.taken
  pub safe : AllByRecursion (λ s. WasSafe places first marks s) v.safe

-- the disk of a log is where it was at first, and its count of faults is the same
pub record IsCalm {L : Type 0} (facts : LogFacts L) (first log : L) : Type 0 where
  pub place : facts.place log ≡ facts.place first
  pub faults : facts.fault_count log ≡ facts.fault_count first

-- so is that of the log at a place, since these
pub record IsCalmAt {L : Type 0} (facts : LogFacts L) (firsts : List L) (at : ℕ) (log : L) : Type 0 where
  pub first : L
  pub here : slice_get firsts at ≡ Some first
  pub calm : IsCalm facts first log

-- this pass has the node that is at a place, with its log, which is durable, and its disk is as the board shows it
pub record Has {N L M I : Type 0} (f : NodeFacts N L M I) (since : Since L) (c : Course) (id at : ℕ) (s : Seat N L) : Type 0 where
  pub mine : c.owner at ≡ id
  pub stands : StandsAt (view_by f since s) c.world at
  pub calm : IsCalmAt f.facts since.logs at s.log
  pub count : slice_get c.counts at ≡ Some (f.steps s.node)
  pub sight : slice_get c.sights at ≡ Some (sight_of f.facts s.log)
  pub durable : IsDurable f.facts s.log

-- this pass has the board, which shows these disks
pub record HasBoard (c : Course) (id : ℕ) (disks : Sights) : Type 0 where
  pub mine : c.keeper ≡ id
  pub shows : c.sights ≡ disks

-- what a pass knows is so
pub record Fits {N L M I : Type 0} (f : NodeFacts N L M I) (since : Since L) (first : ℕ) (c : Course) (id : ℕ) (v : View N L M I) : Type 0 where
  pub held : (at : ℕ) (s : Seat N L) → holder at v.held ≡ Some s → Has f since c id at s
  pub board : (disks : Sights) → v.board ≡ disks ∷ [] → HasBoard c id disks
  pub saw : Saw f (places_at f.facts since) first c.events c.marks c.world v

-- a world on the way from one to another
pub record IsOnWay (first w : World) (mark : Noted) : Type 0 where
  pub before : LeadsTo first mark.world
  pub behind : LeadsTo mark.world w

-- The events lead from the first world to the last, where no step was missed, and there are so many of them: at most 2^62, since each is counted by its node.
-- The board shows disks at these places, and each world that was marked is on the way.
pub record IsCourse (places : List (List ℕ)) (first : World) (many : ℕ) (words : List ℕ) (c : Course) : Type 0 where
  pub run : Run first c.events c.world
  pub none_missed : c.world.missed ≡ first.missed
  pub now : c.world.now ≡ first.now + length c.events
  pub word : words ≡ length c.events ∷ []
  pub nodes : length c.world.nodes ≡ many
  pub few : length c.counts ≤ 64
  pub small : AllByRecursion (λ n. n < 2 ^ 56) c.counts
  pub counted : length c.events ≤ total c.counts
  pub places_are : map (λ d. d.0) c.sights ≡ places
  pub marked : AllByRecursion (λ n. IsOnWay first c.world n) c.marks

pub record Goes {N L M I : Type 0} (f : NodeFacts N L M I) (since : Since L) (first : World) (many : ℕ) (s : State ⊤ (View N L M I)) : Type 0 where
  pub course : Course
  pub is : IsCourse (places_at f.facts since) first many s.words course
  pub fits : (id : ℕ) (v : View N L M I) → get_elem? s.views id ≡ some v → Fits f (with_marks since course.marks) first.now course id v

-- from this number on nodes are routers
abbrev pub RoutersFrom : (number : ℕ) → List Held → Type 0
RoutersFrom number nodes = (at : ℕ) → number ≤ at → at < length nodes → IsRouter nodes at

-- The nodes with their logs are those of a world, of which those from a number on are routers, also as for crashes, which are counted from these logs on.
pub record OpenedAs {N L M I : Type 0} (f : NodeFacts N L M I) (since : Since L) (routers : ℕ) (seats : List (Seat N L)) (w : World) : Type 0 where
  pub logs : since.logs ≡ map (λ s. s.log) seats
  pub nodes : AreHeld (view_by f since) seats w.nodes
  pub crashes : EachLeaves (view_by f since) seats w
  pub are_routers : RoutersFrom routers w.nodes

-- From each world that the nodes were those of at the start the steps up to now, in the order of their numbers, are one run, and what passes know is so.
abbrev pub Holds : {N L M I : Type 0} → NodeFacts N L M I → (routers : ℕ) → List (Seat N L) → State ⊤ (View N L M I) → Type 0
Holds {N} {L} {M} {I} f routers seats s = (since : Since L) (first : World) → OpenedAs f since routers seats first → Goes f since first (length seats) s
