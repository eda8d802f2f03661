-- One disk after another is opened as a journal.
use Rattle.std.specs.Prelude.{◌≡◌, ◌⊎◌, ◌≤◌, ℕ, Bool, IsTrue, List, [], ◌∷◌, ◌++◌, Option, Some, None}
use Rattle.outside.specs.Devices.{SinkCall, SinkIsUntouched, SourceCall, SourceIsUntouched}
use Rattle.outside.specs.Disks.{Outcomes}
use Rattle.journal_frames.specs.Files.{HaveSameRecords, IsDamaged, Stands}
use Rattle.journal_frames.specs.Views.{JournalView}
use Rattle.node_traits.specs.Calls.{LeavesAlso}
use Rattle.pipe_driver.specs.Counts.{RoseWhere}
use Rattle.cluster_service.specs.OpenJournals.{IsOpenWith, disks_of}
use Rattle.cluster_service.specs.Stops.{StopsOpening}
use Rattle.cluster_service.specs.declared.status.Status.{Status}
use Rattle.cluster_service.specs.declared.status.Status.TheVariants as statuses

-- what the type of the disks says of one
pub record DiskFacts (D : Type 0) : Type 1 where
  pub tells : Bool
  pub content : D → List ℕ
  pub may_leave : D → Outcomes
  pub moment : D → ℕ
  pub left_at : D → ℕ → Outcomes
  pub place : D → List ℕ
  pub fault_count : D → ℕ

abbrev pub disk_facts : {D : Type 0} → Bool → (D → List ℕ) → (D → Outcomes) → (D → ℕ) → (D → ℕ → Outcomes) → (D → List ℕ) → (D → ℕ) → DiskFacts D
disk_facts told content_of outcomes moment_of left place_of faults = record {
  tells = told;
  content = content_of;
  may_leave = outcomes;
  moment = moment_of;
  left_at = left;
  place = place_of;
  fault_count = faults;
}

-- two lists are as long, and this holds of each two in one place
abbrev pub InPairs : {A B : Type 0} → (A → B → Type 0) → List A → List B → Type 0
InPairs R [] [] = Unit {0}
InPairs R (a ∷ xs) (b ∷ ys) = R a b × InPairs R xs ys
InPairs R xs ys = ⊥

-- three lists are as long, and this holds of each three in one place
abbrev pub InThrees : {A B C : Type 0} → (A → B → C → Type 0) → List A → List B → List C → Type 0
InThrees R [] [] [] = Unit {0}
InThrees R (a ∷ xs) (b ∷ ys) (c ∷ zs) = R a b c × InThrees R xs ys zs
InThrees R xs ys zs = ⊥

-- a file has the records that another had, and where that one was damaged it is the same
pub record HasSame (before after : List ℕ) : Type 0 where
  pub records : (records : List (List ℕ)) → Stands before records → Stands after records
  pub damaged : (offset : ℕ) → IsDamaged before offset → after ≡ before

-- The disk's file has the records that it had, now and after a crash at any moment since before.
pub record IsAsItWas {D : Type 0} (facts : DiskFacts D) (before after : D) : Type 0 where
  pub same : IsTrue facts.tells → HasSame (facts.content before) (facts.content after)
  pub leaves : IsTrue facts.tells → LeavesAlso facts.moment facts.left_at before after (λ file. HaveSameRecords (facts.content before) file)

-- so are all, before and after in one order
abbrev pub AreAsTheyWere : {D : Type 0} → DiskFacts D → List D → List D → Type 0
AreAsTheyWere facts befores afters = InPairs (IsAsItWas facts) befores afters

-- The journal was opened on the disk: it is open with the records that were found, which the file had.
pub record IsOpenedOn {D : Type 0} (facts : DiskFacts D) (before : D) (journal : JournalView D) (found : List (List ℕ)) : Type 0 where
  pub had : IsTrue facts.tells → Stands (facts.content before) found
  pub has : IsOpenWith facts.tells facts.content journal found
  pub was : IsAsItWas facts before journal.disk
  pub calm : facts.fault_count journal.disk ≡ facts.fault_count before
  pub place : facts.place journal.disk ≡ facts.place before

-- The journal was not opened, with this status, and the disk came back.
pub record IsUnopened {D : Type 0} (facts : DiskFacts D) (status : Status) (before after : D) : Type 0 where
  pub was : IsAsItWas facts before after
  pub damaged : status ≡ statuses.DamagedJournal → IsTrue facts.tells → (offset : ℕ) × IsDamaged (facts.content before) offset
  pub stops : StopsOpening status
  pub fault : RoseWhere (status ≡ statuses.DiskFailed) (facts.fault_count before) (facts.fault_count after)
  pub later : facts.fault_count before ≤ facts.fault_count after
  pub place : facts.place after ≡ facts.place before

-- One journal was not opened, with this status, and the disks are back, each in its place: those of journals that were opened before it, its own,
-- and those after it, which were left alone.
pub record HasStopped {D : Type 0} (facts : DiskFacts D) (status : Status) (before after : List D) : Type 0 where
  pub done : List D
  pub others : List D
  pub journals : List (JournalView D)
  pub found : List (List (List ℕ))
  pub disk : D
  pub back : D
  pub were : before ≡ done ++ disk ∷ others
  pub are : after ≡ disks_of journals ++ back ∷ others
  pub opened : InThrees (IsOpenedOn facts) done journals found
  pub unopened : IsUnopened facts status disk back

-- The journals were not opened, with this status: memory ran out for the list of them, and no disk was touched; or one was not opened.
abbrev pub AreUnopened : {D : Type 0} → DiskFacts D → Status → (before after : List D) → Type 0
AreUnopened facts status before after = ((status ≡ statuses.OutOfMemory) × (after ≡ before)) ⊎ HasStopped facts status before after

-- The disks before these were opened, in order; or one was not, with this status, and those after it are left alone.
pub data AreOpenedUpTo {D : Type 0} (facts : DiskFacts D) (disks left : List D) : Option Status → List (JournalView D) → List (List (List ℕ)) → (unopened : List D)
    → Type 0 where
  opened_so_far : (done : List D) (journals : List (JournalView D)) (found : List (List (List ℕ))) → disks ≡ done ++ left
      → InThrees (IsOpenedOn facts) done journals found → AreOpenedUpTo facts disks left None journals found []
  stopped_at : (done others : List D) (disk after : D) (status : Status) (journals : List (JournalView D)) (found : List (List (List ℕ)))
      → disks ≡ done ++ disk ∷ (others ++ left) → InThrees (IsOpenedOn facts) done journals found → IsUnopened facts status disk after
      → AreOpenedUpTo facts disks left (Some status) journals found (after ∷ others)

-- The nodes were not started: nothing was taken or put, and each file has the records that it had, and has them after a crash at any moment of the call.
pub record IsNotBegun {D : Type 0} (facts : DiskFacts D) (source : SourceCall) (sink : SinkCall) (rest : ℕ) (before after : List D) : Type 0 where
  pub source_same : SourceIsUntouched source
  pub sink_same : SinkIsUntouched sink
  pub no_rest : rest ≡ 0
  pub files : AreAsTheyWere facts before after
