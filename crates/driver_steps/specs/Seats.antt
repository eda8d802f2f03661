-- Nodes with their logs, as the nodes of a world with what their journals keep (own).
use Rattle.std.specs.Prelude.{◌≡◌, ℕ, ◌+◌, ◌≤◌, ◌-◌, ◌^◌, Bool, IsTrue, List, [], ◌∷◌, ◌++◌, map, Some, Result, Ok, Err}
use Rattle.std.specs.List.{slice_get, AllByRecursion}
use Rattle.outside.specs.Devices.{NoneFell, OneRose}
use Rattle.outside.specs.Logs.{IsDurable, LogFacts}
use Rattle.outside.specs.Notes.{Note}
use Rattle.node_model.specs.Journal.{Kept}
use Rattle.node_model.specs.States.{NodeState}
use Rattle.node_model.specs.World.{Held, World}
use Rattle.node_traits.specs.Effects.{AreReadable, ByNotTaken, spellings}
use Rattle.node_traits.specs.declared.outputs.NotTaken.{NotTaken}
use Rattle.driver_steps.specs.Crashes.{Since, leaves_kept}
use Rattle.driver_steps.specs.declared.seat.Seat.{Seat}

-- What contracts see of a node with its log: its state, and how many steps it has taken; whether the log's records are observable, and these; whether an
-- opening of the log would find a list; and what is said of crashes, at a place among the nodes of a world.
pub record SeatView : Type 1 where
  pub state : NodeState
  pub steps : ℕ
  pub tells : Bool
  pub records : List (List ℕ)
  pub holds : List (List ℕ) → Type 0
  pub leaves : (at : ℕ) → World → Type 0

-- of crashes nothing
abbrev pub seat_view : {N L : Type 0} → (N → NodeState) → (N → ℕ) → LogFacts L → Seat N L → SeatView
seat_view state_of steps_of facts seat = record {
  state = state_of seat.node;
  steps = steps_of seat.node;
  tells = facts.tells;
  records = facts.records seat.log;
  holds = facts.holds seat.log;
  leaves = λ at w. Unit {0};
}

-- of crashes what they leave since then
abbrev pub seat_since : {N L : Type 0} → (N → NodeState) → (N → ℕ) → LogFacts L → Since L → Seat N L → SeatView
seat_since state_of steps_of facts since seat = record {
  state = state_of seat.node;
  steps = steps_of seat.node;
  tells = facts.tells;
  records = facts.records seat.log;
  holds = facts.holds seat.log;
  leaves = leaves_kept facts since seat.log;
}

-- an opening of the log finds what is stored, and nothing else
pub record Keeps (seat : SeatView) (kept : List Kept) : Type 0 where
  pub readable : AreReadable kept
  pub found : IsTrue seat.tells → seat.holds (spellings kept)

-- The node is in this state, and its log has what its journal stores. It has taken no fewer steps: a step for which it found no memory counts.
pub record IsHeld (seat : SeatView) (held : Held) : Type 0 where
  pub same : held.state ≡ seat.state
  pub counted : held.steps ≤ seat.steps
  pub written : IsTrue seat.tells → seat.records ≡ spellings held.kept
  pub keeps : Keeps seat held.kept

-- from these on, at the start of a run from a world, where the sink has these notes
abbrev pub since_noted : {N L : Type 0} → List (Seat N L) → World → List Note → Since L
since_noted seats w notes = record { logs = map (λ s. s.log) seats; world = w; taken = notes; noted = [] }

-- without notes
abbrev pub since_then : {N L : Type 0} → List (Seat N L) → World → Since L
since_then seats w = since_noted seats w []

-- Nodes with their logs, and what a contract says of a crash of all their disks together, by the world that they are in.
pub record Hosted (S : Type 0) : Type 1 where
  pub seats : List S
  pub together : World → Type 0

-- these nodes with their logs, in order
abbrev pub AreHeld : {S : Type 0} → (S → SeatView) → List S → List Held → Type 0
AreHeld view [] [] = Unit {0}
AreHeld view (s ∷ seats) (h ∷ held) = IsHeld (view s) h × AreHeld view seats held
AreHeld view seats held = ⊥

-- each has taken as many steps as its node in the world
abbrev pub AreCounted : {S : Type 0} → (S → SeatView) → List S → List Held → Type 0
AreCounted view [] [] = Unit {0}
AreCounted view (s ∷ seats) (h ∷ held) = (h.steps ≡ (view s).steps) × AreCounted view seats held
AreCounted view seats held = ⊥

-- of the nodes that is not said, but the logs keep what the journals keep
abbrev pub AreKept : {S : Type 0} → (S → SeatView) → List S → List Held → Type 0
AreKept view [] [] = Unit {0}
AreKept view (s ∷ seats) (h ∷ held) = Keeps (view s) h.kept × AreKept view seats held
AreKept view seats held = ⊥

-- all where no disk failed, else what the logs keep
abbrev pub AreHeldOrKept : {S : Type 0} → NotTaken → (S → SeatView) → Hosted S → List Held → Type 0
AreHeldOrKept fault view hosted held = ByNotTaken fault (λ faults. AreKept view hosted.seats held) (AreHeld view hosted.seats held)

-- what is said of crashes holds of each node of a world
abbrev pub EachLeaves : {S : Type 0} → (S → SeatView) → List S → World → Type 0
EachLeaves {S} view seats w = (at : ℕ) (s : S) → slice_get seats at ≡ Some s → (view s).leaves at w

-- of each node, and of all disks together
pub record LeaveKept {S : Type 0} (view : S → SeatView) (hosted : Hosted S) (w : World) : Type 0 where
  pub each : EachLeaves view hosted.seats w
  pub together : hosted.together w

-- records can be appended to each log
abbrev pub AreOpen : {N L : Type 0} → (L → Bool) → List (Seat N L) → Type 0
AreOpen is_open seats = AllByRecursion (λ s. IsTrue (is_open s.log)) seats

-- a crash at this moment leaves of each log to which records can be appended a file in which an opening finds its records
abbrev pub AreDurableWhileOpen : {N L : Type 0} → LogFacts L → List (Seat N L) → Type 0
AreDurableWhileOpen {N} {L} facts seats = (at : ℕ) (s : Seat N L) → slice_get seats at ≡ Some s → IsTrue (facts.is_open s.log) → IsDurable facts s.log

-- of each log
abbrev pub AreDurable : {N L : Type 0} → LogFacts L → List (Seat N L) → Type 0
AreDurable {N} {L} facts seats = (at : ℕ) (s : Seat N L) → slice_get seats at ≡ Some s → IsDurable facts s.log

-- the notes of their disks, in order, before which the sink held so many bytes
abbrev pub notes_of : {N L : Type 0} → LogFacts L → (length : ℕ) → List (Seat N L) → List Note
notes_of facts length seats = map (λ s. record { place = facts.place s.log; moment = facts.moment s.log; length = length }) seats

-- a sink has these notes, and maybe others after them
abbrev pub HasMore : (before after : List Note) → Type 0
HasMore before after = (more : List Note) × (after ≡ before ++ more)

-- this holds but where a disk failed
abbrev pub UnlessDiskFailed : {X : Type 0} → Result X NotTaken → Type 0 → Type 0
UnlessDiskFailed (Ok x) holds = holds
UnlessDiskFailed (Err fault) holds = ByNotTaken fault (λ faults. Unit {0}) holds

-- how many steps are left to all nodes
abbrev pub left_of : {N L : Type 0} → (N → ℕ) → List (Seat N L) → ℕ
left_of steps [] = 0
left_of steps (s ∷ seats) = (2 ^ 56 - steps s.node) + left_of steps seats

-- the counts of faults that the logs' disks met
abbrev pub faults_of : {N L : Type 0} → (L → ℕ) → List (Seat N L) → List ℕ
faults_of fault_count seats = map (λ s. fault_count s.log) seats

-- where the logs' disks are
abbrev pub places_of : {N L : Type 0} → (L → List ℕ) → List (Seat N L) → List (List ℕ)
places_of place seats = map (λ s. place s.log) seats

-- one of these counts rose, and none fell
pub record HaveRisen (before after : List ℕ) : Type 0 where
  pub one : OneRose before after
  pub none_fell : NoneFell before after

-- one of the counts rose where a disk failed, and none fell; elsewhere all are as before
abbrev pub TellsFaults : {X : Type 0} → Result X NotTaken → (before after : List ℕ) → Type 0
TellsFaults (Ok x) before after = after ≡ before
TellsFaults (Err fault) before after = ByNotTaken fault (λ faults. HaveRisen before after) (after ≡ before)
