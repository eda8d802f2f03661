-- What the opening of a journal says of its disk, by its result.
use Rattle.std.specs.Prelude.{IsTrue, Err}
use Rattle.std.proofs.Common.{◌≡◌, ◌⊎◌, inr, ℕ, ◌≤◌, List, [], refl, subst}
use Rattle.outside.specs.Causes.{Rose}
use Rattle.outside.specs.Disks.{LeavesOnly}
use Rattle.journal_frames.specs.Files.{HaveSameRecords, IsDamaged, Stands}
use Rattle.journal_frames.specs.Openings.{IfDamaged, IfDiskFailed, UnlessDiskFailed, disk_left}
use Rattle.journal_frames.specs.declared.journal.OpenFault.{OpenFault}
use Rattle.journal_frames.specs.declared.journal.OpenFault.TheVariants as faults
use Rattle.pipe_driver.proofs.Counts.{it_rose, still}
use Rattle.cluster_service.specs.Openings.{DiskFacts, IsAsItWas, IsUnopened}
use Rattle.cluster_service.specs.Stops.{at_opening_fault, at_damage, at_opening_memory}
use Rattle.cluster_service.specs.declared.status.Status.TheVariants as statuses
use Rattle.cluster_service.proofs.Crashes.{opening_leaves}

-- an empty file has no records
pub nothing : (file : List ℕ) → file ≡ [] → Stands file []
nothing file empty = record { rest = file; fits = tt; split = refl; shut = inr empty }

module _ {D : Type 0} (facts : DiskFacts D)
    (counts_now : (disk : D) (c : List ℕ) → facts.may_leave disk c → facts.left_at disk (facts.moment disk) c) (old new : D) where
  -- whatever an opening returned, the disk is as it was
  pub is_as_it_was : ((records : List (List ℕ)) → IsTrue facts.tells → Stands (facts.content old) records → Stands (facts.content new) records)
      → ((offset : ℕ) → IsTrue facts.tells → IsDamaged (facts.content old) offset → facts.content new ≡ facts.content old)
      → (IsTrue facts.tells → LeavesOnly facts.moment facts.left_at old new (λ file. facts.may_leave old file ⊎ HaveSameRecords (facts.content old) file))
      → IsAsItWas facts old new
  is_as_it_was same as_damaged any_moment = record {
    same = λ told. record { records = λ records. same records told; damaged = λ offset. as_damaged offset told };
    leaves = λ told.
        opening_leaves facts.moment facts.left_at facts.may_leave counts_now old new (facts.content old) (any_moment told);
  }

module _ {D : Type 0} (facts : DiskFacts D) (old : D) where
  -- what an opening says with a fault
  pub record IsFaulty (fault : OpenFault D) : Type 0 where
    pub was : IsAsItWas facts old (disk_left (Err fault))
    pub damaged : IfDamaged (Err fault) (λ offset. IsTrue facts.tells
        → IsDamaged (facts.content old) offset × (facts.content (disk_left (Err fault)) ≡ facts.content old))
    pub cause : IfDiskFailed (Err fault) (Rose (facts.fault_count old) (facts.fault_count (disk_left (Err fault))))
    pub calm : UnlessDiskFailed (Err fault) (facts.fault_count (disk_left (Err fault)) ≡ facts.fault_count old)
    pub later : facts.fault_count old ≤ facts.fault_count (disk_left (Err fault))
    pub place : facts.place (disk_left (Err fault)) ≡ facts.place old

  faulty_as : (fault given : OpenFault D) → fault ≡ given → IsFaulty fault → IsFaulty given
  faulty_as fault given is faulty = subst (λ (f : OpenFault D). IsFaulty f) is faulty

  pub unopened_by_disk : (fault : OpenFault D) (disk : D) → fault ≡ faults.Disk disk → IsFaulty fault → IsUnopened facts statuses.DiskFailed old disk
  unopened_by_disk fault disk is faulty =
      let f = faulty_as fault (faults.Disk disk) is faulty in
      record {
        was = f.was;
        damaged = λ same told. absurd (cc same);
        stops = at_opening_fault;
        fault = it_rose (statuses.DiskFailed ≡ statuses.DiskFailed) (facts.fault_count old) (facts.fault_count disk) refl f.cause;
        later = f.later;
        place = f.place;
      }

  pub unopened_by_damage : (fault : OpenFault D) (offset : ℕ) (disk : D) → fault ≡ faults.Damaged offset disk → IsFaulty fault
      → IsUnopened facts statuses.DamagedJournal old disk
  unopened_by_damage fault offset disk is faulty =
      let f = faulty_as fault (faults.Damaged offset disk) is faulty in
      record {
        was = f.was;
        damaged = λ same told. (offset, (f.damaged told).0);
        stops = at_damage;
        fault = still (statuses.DamagedJournal ≡ statuses.DiskFailed) (facts.fault_count old) (facts.fault_count disk) (λ same. cc) f.calm;
        later = f.later;
        place = f.place;
      }

  pub unopened_by_memory : (fault : OpenFault D) (disk : D) → fault ≡ faults.Memory disk → IsFaulty fault → IsUnopened facts statuses.OutOfMemory old disk
  unopened_by_memory fault disk is faulty =
      let f = faulty_as fault (faults.Memory disk) is faulty in
      record {
        was = f.was;
        damaged = λ same told. absurd (cc same);
        stops = at_opening_memory;
        fault = still (statuses.OutOfMemory ≡ statuses.DiskFailed) (facts.fault_count old) (facts.fault_count disk) (λ same. cc) f.calm;
        later = f.later;
        place = f.place;
      }
