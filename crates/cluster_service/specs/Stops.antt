-- Why a journal is not opened.
use Rattle.cluster_service.specs.declared.status.Status.{Status}
use Rattle.cluster_service.specs.declared.status.Status.TheVariants as statuses

-- its disk failed, its file is no journal, or memory ran out
pub data StopsOpening : Status → Type 0 where
  at_opening_fault : StopsOpening statuses.DiskFailed
  at_damage : StopsOpening statuses.DamagedJournal
  at_opening_memory : StopsOpening statuses.OutOfMemory
