-- A crash of a journal is a crash of its disk.
use Rattle.std.proofs.Common.{ℕ, ◌≡◌, List, Bool, IsTrue, inl, subst}
use Rattle.outside.specs.Disks.{LeavesOnly, Outcomes}
use Rattle.outside.specs.Logs.{WithOrWithout}
use Rattle.journal_frames.specs.Files.{Stands, records_in}
use Rattle.journal_frames.specs.Views.{IsAtRest, JournalView}
use Rattle.journal_frames.proofs.Moments.{started}
use Rattle.journal_frames.proofs.Opened.{rest_durable}

pub of_disks : {D : Type 0} (moment : D → ℕ) (left_at : D → ℕ → Outcomes) (old new : JournalView D) (P : Outcomes) → LeavesOnly moment left_at old.disk new.disk P → LeavesOnly (λ (j : JournalView D). moment j.disk) (λ j t file. left_at j.disk t file) old new P
of_disks moment left_at old new P run = record { later = run.later; each = run.each; before = run.before }

-- a journal that was left alone: a crash now results in a file with its records
pub left_alone : {D : Type 0} (tells : Bool) (content : D → List ℕ) (may_leave : D → Outcomes) (moment : D → ℕ) (left_at : D → ℕ → Outcomes) (disk : D)
    (end : ℕ) (is_open : Bool) (j : JournalView D) (more : List (List ℕ)) → IsAtRest tells (content disk) (may_leave disk) (records_in (content disk)) end
    → IsTrue tells → ((c : List ℕ) → left_at disk (moment disk) c → may_leave disk c)
    → record { disk = disk; records = records_in (content disk); is_open = is_open } ≡ j
    → LeavesOnly (λ (k : JournalView D). moment k.disk) (λ k t file. left_at k.disk t file) j j
    (λ file. WithOrWithout (λ records. Stands file records) j.records more)
left_alone {D} tells content may_leave moment left_at disk end is_open j more rest told only same =
    subst (λ (k : JournalView D). LeavesOnly (λ (x : JournalView D). moment x.disk) (λ x t file. left_at x.disk t file) k k
    (λ file. WithOrWithout (λ records. Stands file records) k.records more)) same
    (started (λ (x : JournalView D). moment x.disk) (λ x t file. left_at x.disk t file) _ _
    (λ c left. inl (rest_durable tells (content disk) (may_leave disk) (records_in (content disk)) end rest told c (only c left))))
