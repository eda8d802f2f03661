-- What the calls of a disk do to its file, and what a crash may do between two syncs. A file is the list of its bytes; the files that a crash may result in
-- are a set (own; POSIX, `write` and `fsync`, fix no more).
use Rattle.std.specs.Prelude.{◌≡◌, ◌⊎◌, ℕ, ◌+◌, ◌<◌, ◌≤◌, min, max, List, length, take, drop}

-- the files that a crash may result in
abbrev pub Outcomes : Type 1
Outcomes = List ℕ → Type 0

-- The old file with the piece written from this offset on. Where the offset is after the old end, the bytes between may be any.
pub record Holds (at : ℕ) (piece old new : List ℕ) : Type 0 where
  pub before : take (min at (length old)) new ≡ take at old
  pub here : take (length piece) (drop at new) ≡ piece
  pub after : drop (at + length piece) new ≡ drop (at + length piece) old

-- The old file after a write of n bytes that was cut short: any bytes in the range and past the old end, the same elsewhere.
pub record Torn (at n : ℕ) (old new : List ℕ) : Type 0 where
  pub before : take (min at (length old)) new ≡ take at old
  pub after : drop (at + n) new ≡ drop (at + n) old
  pub no_shorter : length old ≤ length new
  pub no_longer : length new ≤ max (length old) (at + n)

-- The old file after a cut to n bytes that was interrupted: its length is between n and the old one.
pub record Cut (n : ℕ) (old new : List ℕ) : Type 0 where
  pub no_shorter : min n (length old) ≤ length new
  pub prefix : new ≡ take (length new) old

-- one of these outcomes after a step
abbrev pub After : (List ℕ → List ℕ → Type 0) → Outcomes → Outcomes
After step outcomes c = (d : List ℕ) × outcomes d × step d c

-- each outcome of a crash is an old one, or an old one after a step
abbrev pub Follows : (List ℕ → List ℕ → Type 0) → Outcomes → Outcomes → Type 0
Follows step old new = (c : List ℕ) → new c → After step old c

-- each new outcome is an old one
abbrev pub Within : Outcomes → Outcomes → Type 0
Within old new = (c : List ℕ) → new c → old c

-- a crash results in this file and no other
abbrev pub Only : List ℕ → Outcomes → Type 0
Only file outcomes = (c : List ℕ) → outcomes c → c ≡ file

-- Time passes by a call. What a crash at a moment up to its start might have resulted in is as it was. A crash at a later moment might have resulted in a file
-- that was possible at its start, or in one that is possible now.
pub record Elapses (before now : ℕ) (past at : ℕ → Outcomes) (may_leave : Outcomes) : Type 0 where
  pub later : before ≤ now
  pub nothing_else : (t : ℕ) (c : List ℕ) → t ≤ before → at t c → past t c
  pub keeps : (t : ℕ) (c : List ℕ) → t ≤ before → past t c → at t c
  pub during : (t : ℕ) (c : List ℕ) → before < t → t ≤ now → at t c → past before c ⊎ may_leave c

-- A crash at any moment of a call, its start too, resulted in a file with P. What a crash at a moment up to its start resulted in is as it was.
pub record LeavesOnly {D : Type 0} (moment : D → ℕ) (left_at : D → ℕ → Outcomes) (old new : D) (P : Outcomes) : Type 0 where
  pub later : moment old ≤ moment new
  pub each : (t : ℕ) (c : List ℕ) → moment old ≤ t → t ≤ moment new → left_at new t c → P c
  pub before : (t : ℕ) (c : List ℕ) → t ≤ moment old → left_at new t c → left_at old t c
