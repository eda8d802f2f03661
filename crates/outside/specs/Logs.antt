-- What contracts say about logs, and what a log returns.
use Rattle.std.specs.Prelude.{ℕ, List, Bool, IsTrue, ◌⊎◌, ◌++◌}
use Rattle.outside.specs.Disks.{Outcomes}
use Rattle.outside.specs.declared.log.LogFault.{LogFault}
use Rattle.outside.specs.declared.log.LogFault.TheVariants.{Disk, Memory}

-- What contracts say about a type of log, each as a function of the log.
pub record LogFacts (L : Type 0) : Type 1 where
  -- Whether the records are observable. Clauses on the records apply to types whose records are.
  pub tells : Bool
  -- the records, in order
  pub records : L → List (List ℕ)
  -- Whether records can be appended. After a fault of the disk the log must be reopened.
  pub is_open : L → Bool
  -- whether opening the log would find these records
  pub holds : L → List (List ℕ) → Type 0
  -- whether opening a file finds these records
  pub finds : List ℕ → List (List ℕ) → Type 0
  -- the moment, by the clock of the log's disk
  pub moment : L → ℕ
  -- the files that a crash at that moment might have resulted in
  pub left_at : L → ℕ → Outcomes
  -- how many faults the log's disk has met
  pub fault_count : L → ℕ
  -- where the log's disk is
  pub place : L → List ℕ

-- a crash at this moment results in a file in which opening finds the log's records
abbrev pub IsDurable : {L : Type 0} → LogFacts L → L → Type 0
IsDurable facts log = IsTrue facts.tells → (file : List ℕ) → facts.left_at log (facts.moment log) file → facts.finds file (facts.records log)

-- one fact where a disk failed, with its count of faults, and another where memory ran out
abbrev pub ByFault : LogFault → (ℕ → Type 0) → Type 0 → Type 0
ByFault (Disk faults) failed wanted = failed faults
ByFault Memory failed wanted = wanted

-- these records, or these with all that were to be appended
abbrev pub WithOrWithout : (List (List ℕ) → Type 0) → List (List ℕ) → (more : List (List ℕ)) → Type 0
WithOrWithout holds records more = holds records ⊎ holds (records ++ more)
