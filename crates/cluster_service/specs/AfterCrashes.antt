-- The files after a crash in the middle of a call, of all disks at once (own).
use Rattle.std.specs.Prelude.{◌≡◌, ◌⊎◌, ℕ, ◌≤◌, Some, List, [], ◌∷◌, map}
use Rattle.std.specs.List.{slice_get}
use Rattle.outside.specs.Disks.{Outcomes}
use Rattle.outside.specs.Notes.{Note}
use Rattle.journal_frames.specs.Files.{Stands}
use Rattle.node_model.specs.World.{World}
use Rattle.driver_steps.specs.Cuts.{Between, Cut, MightLeave}
use Rattle.pipe_driver.specs.Acknowledgements.{IsAcknowledged}
use Rattle.cluster_service.specs.Crashes.{LeaveByCuts}

-- moments of all disks at once, by the moments of cuts: those of the first one, or from one cut to the next
abbrev pub AtOnce : (first : List ℕ) → (more : List (List ℕ)) → List ℕ → Type 0
AtOnce first [] ts = ts ≡ first
AtOnce first (next ∷ more) ts = Between first ts next ⊎ AtOnce next more ts

-- A crash at these moments, all at once, from the first cut of a call to its end, might have left these files.
pub record MightLeaveAtOnce {D : Type 0} (first : World) (place : D → List ℕ) (moment : D → ℕ) (left_at : D → ℕ → Outcomes) (noted noted' : List Note)
    (befores afters : List D) (end : World) (ts : List ℕ) (files : List (List ℕ)) : Type 0 where
  pub cuts : LeaveByCuts first place moment left_at noted noted' befores afters end
  pub at_once : AtOnce cuts.from (map (λ (c : Cut World). c.moments) cuts.leave.cuts) ts
  pub left : MightLeave left_at afters ts files

-- each disk's moment is not before the note of it on which the acknowledged byte rests
abbrev pub AreAfterNotes : {D : Type 0} → (place : D → List ℕ) (moment : D → ℕ) (left_at : D → ℕ → Outcomes) (output : World → List ℕ → Type 0) (first : World)
    (notes : List Note) (held_before : List ℕ) (disks : List D) (end : World) (put : List ℕ) (offset : ℕ)
    → IsAcknowledged Stands place moment left_at output first notes held_before disks end put offset → (ts : List ℕ) → Type 0
AreAfterNotes {D} place moment left_at output first notes held_before disks end put offset byte ts =
    (at : ℕ) (disk : D) (got : slice_get disks at ≡ Some disk) (t : ℕ) → slice_get ts at ≡ Some t
    → ((byte.each at disk got).note.moment ≤ t) × (t ≤ moment disk)
