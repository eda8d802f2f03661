-- What a crash at any moment leaves of logs (own).
use Rattle.std.specs.Prelude.{◌≡◌, ℕ, ◌≤◌, IsTrue, List, Some}
use Rattle.std.specs.List.{slice_get}
use Rattle.outside.specs.Logs.{LogFacts}
use Rattle.outside.specs.Notes.{Note}
use Rattle.node_model.specs.World.{World, journal_at}
use Rattle.node_replay.specs.Restarts.{EventOrStop, RunWithStops}
use Rattle.node_traits.specs.Calls.{LeavesThen}
use Rattle.node_traits.specs.Effects.{spellings}

-- A time at which all disks were noted: the world then, the moments of the disks in order of the nodes, and how many bytes the sink held.
pub record Noted : Type 0 where
  pub world : World
  pub moments : List ℕ
  pub length : ℕ

-- Then: the logs as they were, in order of the nodes, the world, and the notes that the sink had. It may lie at the start of a call, or before. Since then
-- replies were written after these times, at which all disks were noted, the latest first.
pub record Since (L : Type 0) : Type 0 where
  pub logs : List L
  pub world : World
  pub taken : List Note
  pub noted : List Noted

-- the same start, with these notes
abbrev pub with_notes : {L : Type 0} → Since L → List Noted → Since L
with_notes since noted = record { logs = since.logs; world = since.world; taken = since.taken; noted = noted }

-- events lead from one world to another, among which nodes may stop and be started again
abbrev pub LeadsTo : World → World → Type 0
LeadsTo first last = (events : List EventOrStop) × RunWithStops first events last

-- they pass a world of which P holds
pub record Passes (first last : World) (P : World → Type 0) : Type 0 where
  pub world : World
  pub before : LeadsTo first world
  pub behind : LeadsTo world last
  pub has : P world

-- Events led from the world of then to this one, and a crash at any moment after then left, of the log of the node at a place, a file in which an opening
-- finds what that node kept in a world that was passed. What it might have left at a moment up to then is as it was.
pub record LeavesKept {L : Type 0} (facts : LogFacts L) (first : World) (old new : L) (at : ℕ) (w : World) : Type 0 where
  pub came : LeadsTo first w
  pub left : LeavesThen facts.moment facts.left_at old new (λ file. Passes first w (λ v. facts.finds file (spellings (journal_at v.nodes at))))

-- Events led from a given world to this one. A crash at any moment from the one named on left, of the log of the node at a place, a file in which
-- an opening finds what that node kept in the given world or in a later one up to this: nothing that the node kept by then is lost.
pub record LeavesNoLess {L : Type 0} (facts : LogFacts L) (given : World) (moment : ℕ) (log : L) (at : ℕ) (w : World) : Type 0 where
  pub came : LeadsTo given w
  pub later : moment ≤ facts.moment log
  pub left : (t : ℕ) (file : List ℕ) → moment ≤ t → t ≤ facts.moment log → facts.left_at log t file
      → Passes given w (λ v. facts.finds file (spellings (journal_at v.nodes at)))

-- since the start, of the log that there was at that place
abbrev pub LeavesSinceStart : {L : Type 0} → LogFacts L → Since L → L → ℕ → World → Type 0
LeavesSinceStart {L} facts since new at w = (old : L) → slice_get since.logs at ≡ Some old → LeavesKept facts since.world old new at w

-- since each time of the notes
abbrev pub LeavesSinceNotes : {L : Type 0} → LogFacts L → List Noted → L → ℕ → World → Type 0
LeavesSinceNotes facts noted new at w =
    (k : ℕ) (n : Noted) (moment : ℕ) → slice_get noted k ≡ Some n → slice_get n.moments at ≡ Some moment → LeavesNoLess facts n.world moment new at w

-- both, of a log whose records are observable
abbrev pub leaves_kept : {L : Type 0} → LogFacts L → Since L → L → ℕ → World → Type 0
leaves_kept facts since new at w = IsTrue facts.tells → LeavesSinceStart facts since new at w × LeavesSinceNotes facts since.noted new at w
