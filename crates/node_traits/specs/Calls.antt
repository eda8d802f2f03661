-- What a call says about the log that it borrowed.
use Rattle.std.specs.Prelude.{◌≡◌, ◌⊎◌, ℕ, ◌<◌, ◌≤◌, Bool, IsTrue, List, ◌++◌}
use Rattle.outside.specs.Disks.{Outcomes}
use Rattle.outside.specs.Logs.{LogFacts, WithOrWithout}

-- What a crash at a moment up to the start of a call resulted in is as it was. A crash at a later moment results in a file with P.
pub record LeavesThen {L : Type 0} (moment : L → ℕ) (left_at : L → ℕ → Outcomes) (old new : L) (P : Outcomes) : Type 0 where
  pub later : moment old ≤ moment new
  pub before : (t : ℕ) (file : List ℕ) → t ≤ moment old → left_at new t file → left_at old t file
  pub each : (t : ℕ) (file : List ℕ) → moment old < t → t ≤ moment new → left_at new t file → P file

-- A crash at a later moment results in a file that was possible at the start, or in one with P.
abbrev pub LeavesAlso : {L : Type 0} → (L → ℕ) → (L → ℕ → Outcomes) → (old new : L) → Outcomes → Type 0
LeavesAlso moment left_at old new P = LeavesThen moment left_at old new (λ file. left_at old (moment old) file ⊎ P file)

-- A log over a call: whether its records are observable, and the records before and after; whether an opening would find a list after the call, and in a
-- file; and the files after a crash.
pub record LogCall : Type 1 where
  pub tells : Bool
  pub before : List (List ℕ)
  pub after : List (List ℕ)
  pub holds : List (List ℕ) → Type 0
  pub finds : List ℕ → List (List ℕ) → Type 0
  pub leaves_then : Outcomes → Type 0

-- a log before and after
abbrev pub log_call : {L : Type 0} → LogFacts L → L → L → LogCall
log_call facts old new = record {
  tells = facts.tells;
  before = facts.records old;
  after = facts.records new;
  holds = facts.holds new;
  finds = facts.finds;
  leaves_then = λ P. LeavesThen facts.moment facts.left_at old new P;
}

-- after a crash during the call an opening finds the records of before, or these with all of the new ones
abbrev pub IsWhole : LogCall → (more : List (List ℕ)) → Type 0
IsWhole call more = IsTrue call.tells → call.leaves_then (λ file. WithOrWithout (call.finds file) call.before more)

-- these records were appended
pub record Appended (call : LogCall) (more : List (List ℕ)) : Type 0 where
  pub grown : IsTrue call.tells → call.after ≡ call.before ++ more
  pub whole : IsWhole call more

-- these records were to be appended, and a disk failed
pub record LeftOff (call : LogCall) (more : List (List ℕ)) : Type 0 where
  pub left : WithOrWithout call.holds call.before more
  pub whole : IsWhole call more
