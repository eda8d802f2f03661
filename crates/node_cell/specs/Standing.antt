-- A node under its lock, with the pass that knows it; and what is known of all once their locks are gone (own).
use Rattle.std.specs.Prelude.{◌≡◌, ℕ, ◌+◌, ◌<◌, ◌≤◌, ◌^◌, IsTrue, List, [], ◌∷◌, length, map, MatchOption, Some}
use Rattle.std.specs.List.{slice_get, AllByRecursion}
use Rattle.atomic_table.specs.Seated.{TableId}
use Rattle.node_model.specs.Letters.{Letter, Input, client_input, letter_input, moment_input, opened_input}
use Rattle.node_model.specs.World.{Held, World, Event, Run}
use Rattle.node_traits.specs.declared.outputs.ToLink.{ToLink}
use Rattle.driver_steps.specs.declared.seat.Seat.{Seat}
use Rattle.driver_steps.specs.Crashes.{Noted, Since}
use Rattle.driver_steps.specs.Seats.{Keeps}
use Rattle.outside.specs.Logs.{IsDurable, LogFacts}
use Rattle.driver_steps.specs.OneSeat.{NamesFault, StandsAt}
use Rattle.group_steps.specs.Groups.{Part, BreaksAll, TakesAll}
use Rattle.group_steps.specs.Parts.{Among, parts_of}
use Rattle.group_steps.specs.declared.fault.GroupFault.{GroupFault}
use Rattle.group_steps.specs.declared.fault.GroupFault.TheVariants.{Disk as disk_failed, Memory as no_memory}
use Rattle.node_cell.specs.declared.view.Halt.{Halt}
use Rattle.node_cell.specs.declared.view.Halt.TheVariants.{Disk, Memory}
use Rattle.node_cell.specs.declared.view.Placed.{Placed}
use Rattle.node_cell.specs.declared.view.Taken.{Taken}
use Rattle.node_cell.specs.declared.view.View.{View}
use Rattle.node_cell.specs.Views.{Given, sight_of}
use Rattle.node_cell.specs.Courses.{IsCalm, IsCalmAt, IsOnWay, NodeFacts, OpenedAs, Saw, places_at, view_by, with_marks}

-- a request comes to a router, and a message to its receiver, after it was seen sent
abbrev pub IsKnown : (routers : ℕ) → (seen : List Letter) → (at : ℕ) → Input → Type 0
IsKnown routers seen at (client_input link number request) = routers ≤ at
IsKnown routers seen at (letter_input m) = (m.receiver ≡ at) × Among m seen
IsKnown routers seen at (moment_input moment) = Unit {0}
IsKnown routers seen at opened_input = Unit {0}

-- a pass with this view may take the steps that are given
pub record MayTake {N L M I : Type 0} (f : NodeFacts N L M I) (routers : ℕ) (v : View N L M I) (g : Given N L M I) : Type 0 where
  pub old : Seat N L
  pub held : v.held ≡ (g.at, old) ∷ []
  pub steps : (since : Since L) (w : World) → StandsAt (view_by f since old) w g.at
      → TakesAll (view_by f since g.new) w g.at (parts_of f.letter f.meaning g.parts)
  pub more : f.steps old.node + length g.parts ≤ f.steps g.new.node
  pub below : f.steps old.node < 2 ^ 56 → f.steps g.new.node < 2 ^ 56
  pub calm : IsCalm f.facts old.log g.new.log
  pub known : AllByRecursion (λ p. IsKnown routers (map f.letter v.seen) g.at (f.meaning p.input.value)) g.parts
  pub sight : g.sight ≡ sight_of f.facts g.new.log
  pub durable : IsDurable f.facts g.new.log

-- the node is in this state and took so many steps, and has this log, to which records can be appended
pub record IsAsKnown {N L M I : Type 0} (f : NodeFacts N L M I) (old seat : Seat N L) : Type 0 where
  pub state : f.state old.node ≡ f.state seat.node
  pub log : old.log ≡ seat.log
  pub steps : f.steps old.node ≡ f.steps seat.node
  pub is_open : IsTrue (f.facts.is_open seat.log)

-- the count of faults of a log's disk rose to this number since then
pub record HasFailed {L : Type 0} (facts : LogFacts L) (faults : ℕ) (first log : L) : Type 0 where
  pub place : facts.place log ≡ facts.place first
  pub rose : NamesFault faults (facts.fault_count first) (facts.fault_count log)

-- The disk failed as the records of steps of the node at a place were appended; these steps have no numbers.
pub record IsBroken {N L M I : Type 0} (f : NodeFacts N L M I) (routers at : ℕ) (seen : List Letter) (faults : ℕ) (old seat : Seat N L) : Type 0 where
  pub parts : List Part
  pub known : AllByRecursion (λ (p : Part). IsKnown routers seen at p.input) parts
  pub failed : HasFailed f.facts faults old.log seat.log
  pub breaks : (since : Since L) (w : World) → StandsAt (view_by f since old) w at → BreaksAll (view_by f since seat) w at parts

-- The node takes no more steps: its disk failed, or memory ran out as records were to be appended. Then its log is as it was known.
abbrev pub IsHalted : {N L M I : Type 0} → NodeFacts N L M I → (routers at : ℕ) → (seen : List Letter) → Halt → (old seat : Seat N L) → Type 0
IsHalted f routers at seen (Disk faults) old seat = IsBroken f routers at seen faults old seat
IsHalted f routers at seen Memory old seat = (seat.log ≡ old.log) × IsTrue (f.facts.is_open seat.log)

-- the node is as it was known, or takes no more steps since
abbrev pub IsKept : {N L M I : Type 0} → NodeFacts N L M I → (routers : ℕ) → (seen : List Letter) → Seat N L → Placed N L → Type 0
IsKept f routers seen old p = MatchOption p.halt (IsAsKnown f old p.seat) (λ halt. IsHalted f routers p.at seen halt old p.seat)

-- the pass has this node alone
pub record Sits {N L M I : Type 0} (f : NodeFacts N L M I) (routers : ℕ) (p : Placed N L) (v : View N L M I) : Type 0 where
  pub old : Seat N L
  pub held : v.held ≡ (p.at, old) ∷ []
  pub is : IsKept f routers (map f.letter v.seen) old p

-- why a node takes no more steps after the records of a group were not appended
abbrev pub halt_by : GroupFault → Halt
halt_by (disk_failed faults) = Disk faults
halt_by no_memory = Memory

-- these messages are among those that were seen
abbrev pub AreSeen : {M : Type 0} → (M → Letter) → (seen mail : List M) → Type 0
AreSeen letter seen mail = AllByRecursion (λ m. Among (letter m) (map letter seen)) mail

-- these replies were seen returned by the step with this number
abbrev pub AreTold : (told : List (ℕ × ToLink)) → (number : ℕ) → List ToLink → Type 0
AreTold told number replies = AllByRecursion (λ r. Among (number, r) told) replies

-- The node is at its place with its log, to which records can be appended; its disk met no fault.
pub record StaysAt {N L M I : Type 0} (f : NodeFacts N L M I) (since : Since L) (w : World) (at : ℕ) (seat : Seat N L) : Type 0 where
  pub stands : StandsAt (view_by f since seat) w at
  pub calm : IsCalmAt f.facts since.logs at seat.log
  pub is_open : IsTrue (f.facts.is_open seat.log)

-- The log of the node at a place keeps what its journal stores, and its disk met no fault; of the node nothing is said.
pub record KeepsAt {N L M I : Type 0} (f : NodeFacts N L M I) (since : Since L) (w : World) (at : ℕ) (seat : Seat N L) : Type 0 where
  pub held : Held
  pub here : slice_get w.nodes at ≡ Some held
  pub keeps : Keeps (view_by f since seat) held.kept
  pub leaves : (view_by f since seat).leaves at w
  pub calm : IsCalmAt f.facts since.logs at seat.log
  pub is_open : IsTrue (f.facts.is_open seat.log)

-- A disk failed as the records of steps of the node at a place were appended, which are more events of the run; the records are stored or they are not.
pub record StoppedAt {N L M I : Type 0} (f : NodeFacts N L M I) (since : Since L) (w : World) (at faults : ℕ) (seat : Seat N L) : Type 0 where
  pub first : L
  pub here : slice_get since.logs at ≡ Some first
  pub failed : HasFailed f.facts faults first seat.log
  pub parts : List Part
  pub breaks : BreaksAll (view_by f since seat) w at parts
  pub events : List Event
  pub run : Run w events breaks.last

-- a node that takes no more steps
abbrev pub EndsHalted : {N L M I : Type 0} → NodeFacts N L M I → Since L → World → (at : ℕ) → Halt → Seat N L → Type 0
EndsHalted f since w at (Disk faults) seat = StoppedAt f since w at faults seat
EndsHalted f since w at Memory seat = KeepsAt f since w at seat

-- the node is at its place with its log, or takes no more steps
abbrev pub Ends : {N L M I : Type 0} → NodeFacts N L M I → Since L → World → Placed N L → Type 0
Ends f since w p = MatchOption p.halt (StaysAt f since w p.at p.seat) (λ halt. EndsHalted f since w p.at halt p.seat)

-- these are at the places from one on
abbrev pub AreFrom : {N L : Type 0} → ℕ → List (Placed N L) → Type 0
AreFrom k [] = Unit {0}
AreFrom k (p ∷ all) = (p.at ≡ k) × AreFrom (k + 1) all

-- From each world that the nodes were those of at the start there is one run, in which no step was missed, to a world in which these are the nodes, with their
-- logs, in order of their places, also as for crashes since worlds on the way that were marked; and all that was noted is so.
pub record Ran {N L M I : Type 0} (f : NodeFacts N L M I) (since : Since L) (first : World) (ended : List (Placed N L)) (notes : List (View N L M I)) : Type 0 where
  pub events : List Event
  pub world : World
  pub run : Run first events world
  pub none_missed : world.missed ≡ first.missed
  pub marks : List Noted
  pub marked : AllByRecursion (λ n. IsOnWay first world n) marks
  pub nodes : AllByRecursion (λ p. Ends f (with_marks since marks) world p) ended
  pub noted : AllByRecursion (λ v. Saw f (places_at f.facts since) first.now events marks world v) notes

abbrev pub AreRun : {N L M I : Type 0} → NodeFacts N L M I → (routers : ℕ) → List (Seat N L) → List (Placed N L) → List (View N L M I) → Type 0
AreRun {N} {L} f routers seats ended notes = (since : Since L) (first : World) → OpenedAs f since routers seats first → Ran f since first ended notes

abbrev pub AreAmong : {A : Type 0} → (part all : List A) → Type 0
AreAmong part all = AllByRecursion (λ x. Among x all) part

-- whatever one has seen, the other has seen
pub record IsPart {N L M I : Type 0} (part whole : View N L M I) : Type 0 where
  pub seen : AreAmong part.seen whole.seen
  pub told : AreAmong part.told whole.told
  pub taken : AreAmong part.taken whole.taken
  pub safe : AreAmong part.safe whole.safe

-- the node that is held with a number is this one, at the place of that number
pub record IsHeldAs {N L M I : Type 0} (f : NodeFacts N L M I) (routers : ℕ) (seen : List Letter) (number : ℕ) (h : ℕ × Seat N L) (p : Placed N L) : Type 0 where
  pub number_is : h.0 ≡ number
  pub place : p.at ≡ number
  pub is : IsKept f routers seen h.1 p

-- these nodes, in order of their places from one on, are those that are held
abbrev pub AllSit : {N L M I : Type 0} → NodeFacts N L M I → (routers : ℕ) → (seen : List Letter) → ℕ → (held : List (ℕ × Seat N L)) → List (Placed N L) → Type 0
AllSit f routers seen k [] [] = Unit {0}
AllSit f routers seen k (h ∷ held) (p ∷ ended) = IsHeldAs f routers seen k h p × AllSit f routers seen (k + 1) held ended
AllSit f routers seen k held ended = ⊥

abbrev pub step_of : {I : Type 0} → (number at : ℕ) → I → Taken I
step_of number at input = record { number = number; at = at; input = input }

-- what of a step was not taken out yet
pub record Handed (M I : Type 0) : Type 0 where
  pub taken : Taken I
  pub mail : List M
  pub replies : List ToLink

abbrev pub handed : {M I : Type 0} → Taken I → List M → List ToLink → Handed M I
handed taken mail replies = record { taken = taken; mail = mail; replies = replies }

abbrev pub no_table : TableId
no_table = record { words = 0; slots = 0; views_name = 0; atom = 0; block = 0; offset = 0; slot_names = [] }
