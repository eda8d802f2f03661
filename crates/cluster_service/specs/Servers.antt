-- What one call says of the connections that it served on threads, and of the disks that it hands back (own).
use Rattle.std.specs.Prelude.{◌≡◌, ℕ, ◌≤◌, Bool, IsTrue, List, Some, map}
use Rattle.std.specs.List.{AllByRecursion, slice_get}
use Rattle.outside.specs.Disks.{Outcomes}
use Rattle.outside.specs.declared.exchange.Spoken.{Spoken}
use Rattle.node_model.specs.Letters.{Input}
use Rattle.node_model.specs.States.{NodeState}
use Rattle.node_model.specs.World.{Held, World, Event, Run, journal_at}
use Rattle.group_steps.specs.Groups.{Part, MovesAll}
use Rattle.node_cell.specs.Courses.{RoutersFrom}
use Rattle.conn_server.specs.Conversations.{LinkFacts, WereServed}
use Rattle.node_traits.specs.Effects.{spellings}
use Rattle.driver_steps.specs.Crashes.{LeadsTo, Noted, Passes}
use Rattle.driver_steps.specs.Seats.{AreHeld, SeatView}
use Rattle.journal_frames.specs.Files.{Stands}
use Rattle.journal_frames.specs.Views.{JournalView}
use Rattle.journal_starts.specs.Journals.{AreJournals, IsJournal}
use Rattle.cluster_service.specs.Crashes.{IsOfTheWay, LeaveSuch}
use Rattle.cluster_service.specs.Headline.{MakesOneHistory}
use Rattle.cluster_service.specs.OpenJournals.{AreOpenWith}
use Rattle.cluster_service.specs.declared.status.Status.{Status}
use Rattle.cluster_service.specs.declared.status.Status.TheVariants.{InputEnded, DiskFailed, OutOfMemory, AcceptFailed}

-- the world at the end, or one after more steps of the node at a place, which alone are a run from there on
pub record IsUpTo (at : ℕ) (end v : World) : Type 0 where
  pub parts : List Part
  pub moves : MovesAll at end parts v
  pub events : List Event
  pub run : Run end events v

-- each file is the journal of its node in such a world of its own
abbrev pub AreJournalsUpTo : List (List ℕ) → World → Type 0
AreJournalsUpTo files end = (at : ℕ) (file : List ℕ) → slice_get files at ≡ Some file → (v : World) × IsUpTo at end v × IsJournal file (journal_at v.nodes at)

-- a crash at any moment of the call left of each disk what it might have left before, or what its node stored on the way to such a world
abbrev pub LeaveUpTo : {D : Type 0} → (first : World) → Bool → (D → ℕ) → (D → ℕ → Outcomes) → List D → List D → World → Type 0
LeaveUpTo first tells moment left_at befores afters end =
    IsTrue tells → LeaveSuch moment left_at (λ at file. (v : World) × IsUpTo at end v × IsOfTheWay first v at file) befores afters

-- A crash of the disk from a moment on left a file in which an opening finds no less than what the node at a place stores in a world: just what it stored in
-- that one, or in a later one, up to the end of the call.
pub record LeavesNoLessThan {D : Type 0} (moment : D → ℕ) (left_at : D → ℕ → Outcomes) (end : World) (at : ℕ) (disk : D) (given : World) (from : ℕ)
    : Type 0 where
  pub last : World
  pub up_to : IsUpTo at end last
  pub later : from ≤ moment disk
  pub left : (t : ℕ) (file : List ℕ) → from ≤ t → t ≤ moment disk → left_at disk t file
      → Passes given last (λ v. Stands file (spellings (journal_at v.nodes at)))

-- a world on the way in which all disks were noted, each at a moment from which on no crash left less
pub record IsKeptFrom {D : Type 0} (first : World) (tells : Bool) (moment : D → ℕ) (left_at : D → ℕ → Outcomes) (disks : List D) (end : World) (mark : Noted)
    : Type 0 where
  pub before : LeadsTo first mark.world
  pub behind : LeadsTo mark.world end
  pub each : IsTrue tells → (at : ℕ) (disk : D) (from : ℕ) → slice_get disks at ≡ Some disk → slice_get mark.moments at ≡ Some from
      → LeavesNoLessThan moment left_at end at disk mark.world from

-- so are all of these
abbrev pub AreKeptFrom : {D : Type 0} → (first : World) → Bool → (D → ℕ) → (D → ℕ → Outcomes) → List D → World → List Noted → Type 0
AreKeptFrom first tells moment left_at disks end marks = AllByRecursion (λ mark. IsKeptFrom first tells moment left_at disks end mark) marks

-- From the first world on there is a run of the nodes, in which none misses a step, and which makes one legal history with all calls before. On each link, each
-- request was taken in a step of the run, and its reply returned by one, in the steps that are named; and these replies were written, each after all disks,
-- which are at these places, were noted on the link, in a world in which it had been returned (`marks`). The disks store the journals; but where a disk failed
-- each may be several steps of its node further: those of one append. `tells` is whether the files of the disks are observable, `failed` whether a disk
-- failed, and `leaves` gives the files after a crash at any moment of the call, of the world up to which the run may proceed, `leaves_up_to` those of worlds
-- that are so much further, and `keeps` those after a crash from the noted moments on.
pub record ServerHeadline {I S : Type 0} (meaning : I → Input) (bytes : LinkFacts S) (first : World) (tells : Bool) (failed : Type 0) (files : List (List ℕ))
    (places : List (List ℕ)) (leaves leaves_up_to : World → Type 0) (keeps : World → List Noted → Type 0) (links : List (Spoken S)) : Type 0 where
  pub events : List Event
  pub end : World
  pub run : Run first events end
  pub none_missed : end.missed ≡ first.missed
  pub journals : ¬ failed → IsTrue tells → AreJournals files end.nodes
  pub journals_up_to : IsTrue tells → AreJournalsUpTo files end
  pub crashes : ¬ failed → leaves end
  pub crashes_up_to : leaves_up_to end
  pub history : MakesOneHistory end
  pub marks : List Noted
  pub kept : keeps end marks
  pub served : WereServed meaning bytes places first.now events marks end 0 links

-- how a server ends
pub data IsServerEnd : Status → Type 0 where
  at_end : IsServerEnd InputEnded
  at_disk : IsServerEnd DiskFailed
  at_memory : IsServerEnd OutOfMemory
  at_accept : IsServerEnd AcceptFailed

-- Nodes in these states, with these journals, are those of some world, in which none has taken a step: its journals store the same, and its nodes from this
-- number on are routers.
pub record AreOfSomeWorld {D : Type 0} (first_router : ℕ) (tells : Bool) (content : D → List ℕ) (states : List NodeState)
    (journals : List (JournalView D)) : Type 0 where
  pub nodes : List Held
  pub same : states ≡ map (λ h. h.state) nodes
  pub are : AreOpenWith tells content journals nodes
  pub counts : AllByRecursion (λ (h : Held). h.steps ≡ 0) nodes
  pub routers : RoutersFrom first_router nodes

-- so are nodes with their logs
pub record AreSeatedSomewhere {S : Type 0} (first_router : ℕ) (view : S → SeatView) (seats : List S) : Type 0 where
  pub nodes : List Held
  pub held : AreHeld view seats nodes
  pub routers : RoutersFrom first_router nodes
