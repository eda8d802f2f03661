-- What is left where the nodes were not started.
use Rattle.std.specs.Prelude.{◌≡◌, ◌≢◌, ◌⊎◌, ℕ, List}
use Rattle.std.proofs.Common.{inl, inr, refl}
use Rattle.outside.specs.Devices.{SinkCall, SinkIsUntouched, SourceCall, SourceIsUntouched}
use Rattle.cluster_service.specs.Openings.{AreAsTheyWere, AreUnopened, DiskFacts, IsNotBegun}
use Rattle.cluster_service.specs.Stops.{StopsOpening, at_opening_fault, at_damage, at_opening_memory}
use Rattle.cluster_service.specs.declared.status.Status.{Status}
use Rattle.cluster_service.specs.declared.status.Status.TheVariants as statuses
use Rattle.cluster_service.proofs.Openings.{unopened_as_were, unopened_stops}

-- a journal was damaged, the disk failed, or memory ran out
pub stopped_by : (status : Status) → StopsOpening status
    → (status ≡ statuses.DamagedJournal) ⊎ ((status ≡ statuses.DiskFailed) ⊎ (status ≡ statuses.OutOfMemory))
stopped_by _ at_opening_fault = inr (inl refl)
stopped_by _ at_damage = inl refl
stopped_by _ at_opening_memory = inr (inr refl)

-- and if the disk did not fail, one of the others
pub stopped_calm : (status : Status) → StopsOpening status → status ≢ statuses.DiskFailed
    → (status ≡ statuses.DamagedJournal) ⊎ (status ≡ statuses.OutOfMemory)
stopped_calm _ at_opening_fault calm = absurd (calm refl)
stopped_calm _ at_damage calm = inl refl
stopped_calm _ at_opening_memory calm = inr refl

module _ {D : Type 0} (facts : DiskFacts D) (before after : List D) (source : SourceCall) (sink : SinkCall) (rest : ℕ) (took : SourceIsUntouched source)
    (put : SinkIsUntouched sink) (none : rest ≡ 0) where
  -- the disks are as they were
  pub begun_none : AreAsTheyWere facts before after → IsNotBegun facts source sink rest before after
  begun_none are = record { source_same = took; sink_same = put; no_rest = none; files = are }

  -- one was not opened
  pub not_begun : (status : Status) → AreUnopened facts status before after → IsNotBegun facts source sink rest before after
  not_begun status are = begun_none (unopened_as_were facts status before after are)

  pub not_begun_calm : (status : Status) → AreUnopened facts status before after → status ≢ statuses.DiskFailed
      → ((status ≡ statuses.DamagedJournal) ⊎ (status ≡ statuses.OutOfMemory)) × IsNotBegun facts source sink rest before after
  not_begun_calm status are calm = (stopped_calm status (unopened_stops facts status before after are) calm, not_begun status are)
