-- What contracts see of a journal.
use Rattle.std.specs.Prelude.{◌≡◌, ℕ, List, [], ◌∷◌, ◌++◌, length, Bool, IsTrue, refl}
use Rattle.std.specs.Coded.{Coded, code_by, coded×, coded_list, coded_ℕ, coded_bool}
use Rattle.outside.specs.Disks.{LeavesOnly, Only, Outcomes, Within}
use Rattle.outside.specs.Logs.{LogFacts}
use Rattle.journal_frames.specs.Files.{Fit, Stands, blocks}

-- a disk, the records in its file, where its content is observable, and whether more can be appended
pub record JournalView (D : Type 0) : Type 0 where
  pub disk : D
  pub records : List (List ℕ)
  pub is_open : Bool

abbrev pub journal_code : {D : Type 0} → Coded D → Coded (JournalView D)
journal_code {D} code =
    code_by (D × (List (List ℕ) × Bool)) (coded× code (coded× (coded_list (coded_list coded_ℕ)) coded_bool))
    (λ j. (j.disk, (j.records, j.is_open))) (λ p. record { disk = p.0; records = p.1.0; is_open = p.1.1 }) (λ _. refl)

-- what contracts say of a journal as a log
abbrev pub journal_facts : {D : Type 0} → Bool → (D → List ℕ) → (D → ℕ) → (D → ℕ → Outcomes) → (D → ℕ) → (D → List ℕ) → LogFacts (JournalView D)
journal_facts disk_tells content moment_of left fault_count_of place_of = record {
  tells = disk_tells;
  records = λ j. j.records;
  is_open = λ j. j.is_open;
  holds = λ j records. IsTrue disk_tells → Stands (content j.disk) records;
  finds = Stands;
  moment = λ j. moment_of j.disk;
  left_at = λ j t file. left j.disk t file;
  fault_count = λ j. fault_count_of j.disk;
  place = λ j. place_of j.disk;
}

-- open records and a closed gate
abbrev pub at_rest : List (List ℕ) → List ℕ
at_rest records = blocks records ++ 0 ∷ []

-- The file is the journal of these records, byte for byte, with a closed gate at its end and nothing after it, and a crash results in just this file.
abbrev pub IsSettled : (content : List ℕ) → (may_leave : Outcomes) → (records : List (List ℕ)) → Type 0
IsSettled content may_leave records = (content ≡ at_rest records) × Only (at_rest records) may_leave

-- The journal is open: where its disk has observable content, its file is at rest and all of it is durable. `end` is the offset of the closed gate.
pub record IsAtRest (tells : Bool) (content : List ℕ) (may_leave : Outcomes) (records : List (List ℕ)) (end : ℕ) : Type 0 where
  pub size : end ≡ length (blocks records)
  pub fits : Fit records
  pub file : IsTrue tells → content ≡ at_rest records
  pub durable : IsTrue tells → Only (at_rest records) may_leave

-- Records can be written after those in the file: the piece is their encoding without the first gate, with a closed gate after it.
pub record IsReady (tells : Bool) (content : List ℕ) (may_leave : Outcomes) (records : List (List ℕ)) (end : ℕ) (more : List (List ℕ)) (piece : List ℕ) : Type 0 where
  pub rest : IsAtRest tells content may_leave records end
  pub fits : Fit more
  pub piece_is : 1 ∷ piece ≡ at_rest more

-- These records were found in the file, all of which is durable, and `end` is the offset of the first gate that is not open.
pub record IsFound (tells : Bool) (content : List ℕ) (may_leave : Outcomes) (records : List (List ℕ)) (end : ℕ) : Type 0 where
  pub size : end ≡ length (blocks records)
  pub fits : Fit records
  pub stands : IsTrue tells → Stands content records
  pub durable : IsTrue tells → Only content may_leave

-- Calls that only read: the file is unchanged, and a crash at any moment results in a file that was possible before.
pub record IsUndisturbed {D : Type 0} (content : D → List ℕ) (may_leave : D → Outcomes) (moment : D → ℕ) (left_at : D → ℕ → Outcomes) (old new : D) : Type 0 where
  pub same : content new ≡ content old
  pub crash : Within (may_leave old) (may_leave new)
  pub any_moment : LeavesOnly moment left_at old new (may_leave old)
