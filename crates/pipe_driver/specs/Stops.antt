-- How a connection is after one request, and after those that a framer returns.
use Rattle.std.specs.Prelude.{◌≡◌, ◌≢◌, ◌⊎◌, ℕ, Bool, List, ◌++◌, Result, Ok, Err}
use Rattle.opmsg_frames.specs.Outline.{FrameFault, outline, partial_outline, faulty_outline}
use Rattle.node_model.specs.World.{World}
use Rattle.node_traits.specs.declared.outputs.NotTaken.{NotTaken}
use Rattle.node_traits.specs.declared.outputs.NotTaken.TheVariants.{Disk, Steps, Memory}
use Rattle.driver_steps.specs.Crashes.{Noted}
use Rattle.driver_steps.specs.Seats.{Hosted, SeatView}
use Rattle.driver_steps.specs.Worlds.{NetworkView}
use Rattle.pipe_driver.specs.Progress.{Serving, CutShort, PutShort}
use Rattle.pipe_driver.specs.declared.status.Status.{Status}
use Rattle.pipe_driver.specs.declared.status.Status.TheVariants as statuses

-- the status of a fault of a step: a node at its last step is reported as out of memory
abbrev pub status_for : NotTaken → Status
status_for (Disk faults) = statuses.DiskFailed
status_for Steps = statuses.OutOfMemory
status_for Memory = statuses.OutOfMemory

-- why a request has no whole reply: a write failed, or a disk failed or memory ended before its reply
pub data StopsAtRequest {S : Type 0} (view : S → SeatView) (hosted : Hosted S) (gives : ℕ → Type 0) (router : ℕ) (first : World) (tells : Bool) (noted : List Noted)
    (held_before held consumed : List ℕ) : Status → Type 0 where
  at_write_fault : PutShort view hosted gives router first tells noted held_before held consumed
      → StopsAtRequest view hosted gives router first tells noted held_before held consumed statuses.WriteFailed
  at_disk_fault : CutShort view hosted gives router first tells noted held_before held consumed statuses.DiskFailed
      → StopsAtRequest view hosted gives router first tells noted held_before held consumed statuses.DiskFailed
  at_no_memory : CutShort view hosted gives router first tells noted held_before held consumed statuses.OutOfMemory
      → StopsAtRequest view hosted gives router first tells noted held_before held consumed statuses.OutOfMemory

abbrev pub AfterOne : {S : Type 0} → Result ℕ Status → (S → SeatView) → Hosted S → NetworkView → (ℕ → Type 0) → ℕ → World → Bool → List Noted → List ℕ → List ℕ → List ℕ → Type 0
AfterOne (Ok replied) view hosted network gives router first tells noted held_before held consumed =
    Serving view hosted network gives router first tells noted held_before held consumed replied
AfterOne (Err status) view hosted network gives router first tells noted held_before held consumed =
    StopsAtRequest view hosted gives router first tells noted held_before held consumed status

-- the bytes begin with no request, however they continue
abbrev pub IsMalformed : List ℕ → Type 0
IsMalformed bytes = (fault : FrameFault) × (outline bytes ≡ faulty_outline fault)

-- requests were served to the last one, with some number of replies
abbrev pub HasServedAll : {S : Type 0} → (S → SeatView) → Hosted S → NetworkView → (ℕ → Type 0) → ℕ → World → Bool → List Noted → List ℕ → List ℕ → List ℕ → Type 0
HasServedAll view hosted network gives router first tells noted held_before held consumed =
    (replied : ℕ) × Serving view hosted network gives router first tells noted held_before held consumed replied

-- why no further request is served: what is left begins with none, or the last one stopped
abbrev pub StopsServing : {S : Type 0} → Status → (S → SeatView) → Hosted S → NetworkView → (ℕ → Type 0) → ℕ → World → Bool → List Noted → List ℕ → List ℕ → List ℕ → List ℕ → Type 0
StopsServing status view hosted network gives router first tells noted held_before held consumed rest =
    ((status ≡ statuses.BadInput) × IsMalformed rest × HasServedAll view hosted network gives router first tells noted held_before held consumed)
    ⊎ StopsAtRequest view hosted gives router first tells noted held_before held consumed status

abbrev pub AfterAll : {S : Type 0} → Result ℕ Status → (S → SeatView) → Hosted S → NetworkView → (ℕ → Type 0) → ℕ → World → Bool → List Noted → List ℕ → List ℕ → List ℕ → List ℕ → Type 0
AfterAll (Ok replied) view hosted network gives router first tells noted held_before held consumed rest =
    (outline rest ≡ partial_outline) × Serving view hosted network gives router first tells noted held_before held consumed replied
AfterAll (Err status) view hosted network gives router first tells noted held_before held consumed rest =
    StopsServing status view hosted network gives router first tells noted held_before held consumed rest

-- the same, of all bytes that were fed: those of requests that were taken, and the rest
abbrev pub AfterRequests : {S : Type 0} → Result ℕ Status → (S → SeatView) → Hosted S → NetworkView → (ℕ → Type 0) → ℕ → World → Bool → List Noted → List ℕ → List ℕ
    → (bytes rest : List ℕ) → Type 0
AfterRequests result view hosted network gives router first tells noted held_before held bytes rest =
    (consumed : List ℕ) × (bytes ≡ consumed ++ rest) × AfterAll result view hosted network gives router first tells noted held_before held consumed rest

-- a status that serving may stop with: not that of a read, nor that of an input at its end
abbrev pub IsOfServing : Status → Type 0
IsOfServing status = (status ≢ statuses.ReadFailed) × (status ≢ statuses.InputEnded)
