-- What a crash at any moment leaves of the disks (own).
use Rattle.std.specs.Prelude.{◌≡◌, ◌⊎◌, ℕ, zero, suc, ◌<◌, ◌≤◌, Bool, IsTrue, List, [], ◌∷◌, ◌++◌, map}
use Rattle.outside.specs.Disks.{Outcomes}
use Rattle.journal_frames.specs.Files.{Stands}
use Rattle.node_model.specs.World.{World, journal_at}
use Rattle.node_traits.specs.Calls.{LeavesAlso}
use Rattle.node_traits.specs.Effects.{spellings}
use Rattle.driver_steps.specs.Crashes.{LeadsTo, Passes}
use Rattle.driver_steps.specs.Cuts.{LeaveTogether}
use Rattle.driver_steps.specs.Together.{AreOfOne}
use Rattle.outside.specs.Notes.{Note}
use Rattle.pipe_driver.specs.Acknowledgements.{AreAcknowledged}
use Rattle.cluster_service.specs.Drivers.{output_of}
use Rattle.cluster_service.specs.declared.arguments.Command.{Command}

-- Disks before and after, in one order: a crash at any moment since before left of each what it might have left until then, or a file of which P
-- holds at the disk's place.
abbrev pub LeaveSuch : {D : Type 0} → (D → ℕ) → (D → ℕ → Outcomes) → (P : ℕ → Outcomes) → List D → List D → Type 0
LeaveSuch moment left_at P [] [] = Unit {0}
LeaveSuch moment left_at P (before ∷ befores) (after ∷ afters) =
    LeavesAlso moment left_at before after (P zero) × LeaveSuch moment left_at (λ at. P (suc at)) befores afters
LeaveSuch moment left_at P befores afters = ⊥

-- an opening of the file finds just what the node at a place kept in a world on the way from the first one to this one
abbrev pub IsOfTheWay : (first w : World) → ℕ → Outcomes
IsOfTheWay first w at file = Passes first w (λ v. Stands file (spellings (journal_at v.nodes at)))

-- just what it stored in this world
abbrev pub IsOfWorld : World → ℕ → Outcomes
IsOfWorld w at file = Stands file (spellings (journal_at w.nodes at))

-- such files, of disks whose files are observable
abbrev pub LeaveTheWay : {D : Type 0} → (first : World) → Bool → (D → ℕ) → (D → ℕ → Outcomes) → List D → List D → World → Type 0
LeaveTheWay first tells moment left_at befores afters w =
    IsTrue tells → LeaveSuch moment left_at (λ at file. IsOfTheWay first w at file) befores afters

-- ALL DISKS TOGETHER

-- Disks before and after, in one order, and moments of them: a crash after before, up to these moments, left of each what it might have left until then, or a
-- file of which P holds at the disk's place.
abbrev pub LeaveUntil : {D : Type 0} → (D → ℕ) → (D → ℕ → Outcomes) → (P : ℕ → Outcomes) → List D → (from : List ℕ) → List D → Type 0
LeaveUntil moment left_at P [] [] [] = Unit {0}
LeaveUntil moment left_at P (before ∷ befores) (m ∷ from) (after ∷ afters) =
    (moment before ≤ m)
    × ((t : ℕ) (file : List ℕ) → moment before < t → t ≤ m → left_at after t file → left_at before (moment before) file ⊎ P zero file)
    × LeaveUntil moment left_at (λ at. P (suc at)) befores from afters
LeaveUntil moment left_at P befores from afters = ⊥

-- Until the first cut a crash left of each disk what it might have left before, or what its node stored in the first world. From there on notes were taken,
-- which have cuts up to the present, and a crash left of all disks together what the nodes stored in one world on the way to this one.
pub record LeaveByCuts {D : Type 0} (first : World) (place : D → List ℕ) (moment : D → ℕ) (left_at : D → ℕ → Outcomes) (noted noted' : List Note)
    (befores afters : List D) (w : World) : Type 0 where
  pub from : List ℕ
  pub opening : LeaveUntil moment left_at (IsOfWorld first) befores from afters
  pub notes : List Note
  pub taken : noted' ≡ noted ++ notes
  pub leave : LeaveTogether place moment left_at LeadsTo (AreOfOne Stands) (map place afters) from afters first w notes

-- or nothing happened after the first world, and no cut was needed
abbrev pub LeaveOneWorld : {D : Type 0} → (first : World) → (D → List ℕ) → (D → ℕ) → (D → ℕ → Outcomes) → (noted noted' : List Note) → List D → List D
    → World → Type 0
LeaveOneWorld first place moment left_at noted noted' befores afters w =
    ((w ≡ first) × LeaveSuch moment left_at (IsOfWorld first) befores afters)
    ⊎ LeaveByCuts first place moment left_at noted noted' befores afters w

-- of each disk by itself; and, where the sink shows its notes, of all together
pub record LeaveAll {D : Type 0} (first : World) (shows tells : Bool) (place : D → List ℕ) (moment : D → ℕ) (left_at : D → ℕ → Outcomes)
    (noted noted' : List Note) (befores afters : List D) (w : World) : Type 0 where
  pub each : LeaveTheWay first tells moment left_at befores afters w
  pub together : IsTrue shows → IsTrue tells → LeaveOneWorld first place moment left_at noted noted' befores afters w

-- ACKNOWLEDGED BYTES

-- Each byte that was written is acknowledged: before it was written the disks were noted, in a world on the way in which all bytes up to it were
-- given, and after a crash from then on the file of a disk has no less than what its node stores in that world.
abbrev pub AreDurableBefore : {D : Type 0} → (tells_bytes tells_files : Bool) → (D → List ℕ) → (D → ℕ) → (D → ℕ → Outcomes) → Command → (first : World) → List Note
    → (held_before : List ℕ) → List D → World → (put : List ℕ) → Type 0
AreDurableBefore tells_bytes tells_files place moment left_at command first notes held_before disks last put =
    AreAcknowledged tells_bytes tells_files Stands place moment left_at (output_of command first) first notes held_before disks last put
