-- What a start says of the disks that it leaves.
use Rattle.std.specs.Prelude.{◌≡◌, ◌≢◌, ◌⊎◌, ℕ, IsTrue, IfSome, IsSomeAnd, List, map, Option, None, Result, Ok, Err}
use Rattle.std.specs.List.{AllByRecursion}
use Rattle.outside.specs.Devices.{NoneFell, SinkCall, SinkIsUntouched, SourceCall, SourceIsUntouched}
use Rattle.outside.specs.Notes.{Note}
use Rattle.node_model.specs.World.{World}
use Rattle.journal_starts.specs.Records.{AreRefused}
use Rattle.journal_starts.specs.Starts.{BeginsOnFiles}
use Rattle.cluster_service.specs.Arguments.{IsServer, command_of, others_of, routers_of}
use Rattle.cluster_service.specs.Counts.{OneRoseWhere}
use Rattle.cluster_service.specs.Crashes.{AreDurableBefore, LeaveAll}
use Rattle.cluster_service.specs.Headline.{HeadlineOf}
use Rattle.cluster_service.specs.OpenJournals.{IsDurable}
use Rattle.cluster_service.specs.Openings.{DiskFacts, IsNotBegun}
use Rattle.cluster_service.specs.Statuses.{OfConnection, OfStatus}
use Rattle.cluster_service.specs.declared.arguments.Command.{Command}

-- the command that the arguments are, where these were read
abbrev pub command_in : {W E : Type 0} → Result W E → (W → List (List ℕ)) → Option Command
command_in (Ok given) items = command_of (items given)
command_in (Err fault) items = None

-- A start that ended with this status left these disks, and so many bytes after the last whole request. `started` says that its
-- arguments start nodes, and `given` is the command that they are.
pub record IsLeft {D : Type 0} (status : ℕ) (started : Type 0) (given : Option Command) (source : SourceCall) (sink : SinkCall) (noted notes : List Note)
    (gives : ℕ → Type 0) (facts : DiskFacts D) (before left : List D) (rest : ℕ) : Type 0 where
  -- each is in its place, and the status is 5 exactly by a fault of one
  pub places : map facts.place left ≡ map facts.place before
  pub disk_fault : OneRoseWhere (status ≡ 5) (map facts.fault_count before) (map facts.fault_count left)
  pub none_fell : NoneFell (map facts.fault_count before) (map facts.fault_count left)
  -- where no nodes start they are as they were, and nothing was taken or put
  pub unstarted : ¬ started → (left ≡ before) × (rest ≡ 0) × SourceIsUntouched source × SinkIsUntouched sink
  pub untouched : (status ≡ 2) ⊎ (status ≡ 6) → rest ≡ 0
  -- status 6 comes only where files are refused; there nothing is taken or put, and each file has the records that it had
  pub six : status ≡ 6 → IsTrue facts.tells → IsSomeAnd given (λ command. AreRefused (others_of command) (map facts.content before))
  pub refused : IfSome given (λ command. IsTrue facts.tells → AreRefused (others_of command) (map facts.content before)
      → (((status ≡ 6) ⊎ ((status ≡ 5) ⊎ (status ≡ 7))) ⊎ ((status ≡ 8) × (left ≡ before))) × IsNotBegun facts source sink rest before left)
  -- in the world that the call begins in on its files a run of the nodes served, whose journals the disks keep, and which makes one legal history with the
  -- calls before; a crash meanwhile left what they kept on the way, and each byte was put only after what it says was durable
  pub headline : IfSome given (λ command. ¬ IsServer command → (first : World) → IsTrue facts.tells
      → BeginsOnFiles (others_of command) (routers_of command) (map facts.content before) first
      → OfStatus status (λ s. OfConnection s (λ ending. HeadlineOf command first source sink facts.tells
      (map facts.content left) (LeaveAll first sink.tells facts.tells facts.place facts.moment facts.left_at noted notes before left)
      (AreDurableBefore sink.tells facts.tells facts.place facts.moment facts.left_at command first notes sink.held_before left) gives ending rest)))
  -- but where a disk failed, a crash takes none of the records; or the nodes were not started, and each file has the records that it had; or a port was
  -- refused, and the disks are as they were
  pub durable : started → IsTrue facts.tells → status ≢ 5
      → AllByRecursion (IsDurable facts.content facts.may_leave) left
      ⊎ ((((status ≡ 6) ⊎ (status ≡ 7)) × IsNotBegun facts source sink rest before left) ⊎ ((status ≡ 8) × (left ≡ before)))
