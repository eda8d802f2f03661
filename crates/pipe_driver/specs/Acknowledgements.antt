-- Bytes that depend on what the journals keep are written only after it is durable (own).
use Rattle.std.specs.Prelude.{◌≡◌, ℕ, ◌+◌, ◌<◌, ◌≤◌, Bool, IsTrue, List, length, take, Some}
use Rattle.std.specs.List.{slice_get}
use Rattle.outside.specs.Disks.{Outcomes}
use Rattle.outside.specs.Logs.{LogFacts}
use Rattle.outside.specs.Notes.{Note}
use Rattle.node_model.specs.World.{World, journal_at}
use Rattle.node_traits.specs.Effects.{spellings}
use Rattle.driver_steps.specs.Crashes.{LeadsTo, Noted, Passes}
use Rattle.driver_steps.specs.declared.seat.Seat.{Seat}
use Rattle.pipe_driver.specs.Pieces.{IsPrefix}

-- OF DISKS

-- A disk, that of the node at a place, was noted when the sink held no more than so many bytes. A crash at any moment from the noted one to now left a
-- file in which an opening finds what the node kept in the given world or in a later one, up to the last: nothing that it kept by then is lost.
pub record IsNotedBefore {D : Type 0} (finds : List ℕ → List (List ℕ) → Type 0) (place : D → List ℕ) (moment : D → ℕ) (left_at : D → ℕ → Outcomes)
    (notes : List Note) (length : ℕ) (given last : World) (at : ℕ) (disk : D) : Type 0 where
  pub which : ℕ
  pub note : Note
  pub taken : slice_get notes which ≡ Some note
  pub is_there : note.place ≡ place disk
  pub before : note.length ≤ length
  pub later : note.moment ≤ moment disk
  pub left : (t : ℕ) (file : List ℕ) → note.moment ≤ t → t ≤ moment disk → left_at disk t file
      → Passes given last (λ v. finds file (spellings (journal_at v.nodes at)))

-- The byte at an offset of what was written is acknowledged: in a world on the way of the run all bytes up to it were given, and each disk was noted
-- before it was written, at a moment from which on the file after a crash has no less than what its node stores in that world.
pub record IsAcknowledged {D : Type 0} (finds : List ℕ → List (List ℕ) → Type 0) (place : D → List ℕ) (moment : D → ℕ) (left_at : D → ℕ → Outcomes)
    (output : World → List ℕ → Type 0) (start : World) (notes : List Note) (held_before : List ℕ) (disks : List D) (last : World) (put : List ℕ)
    (offset : ℕ) : Type 0 where
  pub given : World
  pub out : List ℕ
  pub from : LeadsTo start given
  pub to : LeadsTo given last
  pub outputs : output given out
  pub has : IsPrefix (take (offset + 1) put) out
  pub each : (at : ℕ) (disk : D) → slice_get disks at ≡ Some disk
      → IsNotedBefore finds place moment left_at notes (length held_before + offset) given last at disk

-- so is each byte, where the bytes of the sink and the files of the disks are observable
abbrev pub AreAcknowledged : {D : Type 0} → (tells_bytes tells_files : Bool) → (List ℕ → List (List ℕ) → Type 0) → (D → List ℕ) → (D → ℕ)
    → (D → ℕ → Outcomes) → (World → List ℕ → Type 0) → World → List Note → List ℕ → List D → World → List ℕ → Type 0
AreAcknowledged tells_bytes tells_files finds place moment left_at output start notes held_before disks last put =
    IsTrue tells_bytes → IsTrue tells_files → (offset : ℕ) → offset < length put
    → IsAcknowledged finds place moment left_at output start notes held_before disks last put offset

-- WHILE A DRIVER RUNS

-- The byte at an offset comes after a note of all disks, in a world in which all bytes up to it were given, on the way to this one.
pub record IsCovered (output : World → List ℕ → Type 0) (start : World) (noted : List Noted) (held_before put : List ℕ) (w : World) (offset : ℕ) : Type 0 where
  pub which : ℕ
  pub note : Noted
  pub out : List ℕ
  pub here : slice_get noted which ≡ Some note
  pub from : LeadsTo start note.world
  pub to : LeadsTo note.world w
  pub outputs : output note.world out
  pub has : IsPrefix (take (offset + 1) put) out
  pub before : note.length ≤ length held_before + offset

abbrev pub AreCovered : (World → List ℕ → Type 0) → World → List Noted → (held_before put : List ℕ) → World → Type 0
AreCovered output start noted held_before put w = (offset : ℕ) → offset < length put → IsCovered output start noted held_before put w offset

-- at each of these times each disk has its note, by where the disks are
abbrev pub AreNoted : Bool → List Note → (places : List (List ℕ)) → List Noted → Type 0
AreNoted tells notes places noted =
    IsTrue tells → (k : ℕ) (n : Noted) → slice_get noted k ≡ Some n → (at : ℕ) (place : List ℕ) → slice_get places at ≡ Some place
    → (moment which : ℕ) × (slice_get n.moments at ≡ Some moment)
    × (slice_get notes which ≡ Some (record { place = place; moment = moment; length = n.length }))

-- there are times, noted by the sink, with which P holds
abbrev pub WithNotes : Bool → List Note → (places : List (List ℕ)) → (List Noted → Type 0) → Type 0
WithNotes tells notes places P = (noted : List Noted) × AreNoted tells notes places noted × P noted

-- OF HOSTED NODES

-- what is acknowledged by the logs of nodes, in their order
abbrev pub AreAcknowledgedBy : {N L : Type 0} → LogFacts L → (tells_bytes : Bool) → (World → List ℕ → Type 0) → World → List Note → List ℕ → List (Seat N L)
    → World → List ℕ → Type 0
AreAcknowledgedBy {N} {L} facts tells_bytes output start notes held_before seats last put =
    AreAcknowledged tells_bytes facts.tells facts.finds (λ (s : Seat N L). facts.place s.log) (λ (s : Seat N L). facts.moment s.log)
    (λ (s : Seat N L). facts.left_at s.log) output start notes held_before seats last put
