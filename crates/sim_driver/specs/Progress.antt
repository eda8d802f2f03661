-- How far a script has come, while it is played (own).
use Rattle.std.specs.Prelude.{◌≡◌, ◌≢◌, ℕ, Bool, IsTrue, List, ◌++◌}
use Rattle.std.specs.List.{AllByRecursion}
use Rattle.outside.specs.Streams.{Put}
use Rattle.node_model.specs.World.{World}
use Rattle.node_replay.specs.Restarts.{EventOrStop}
use Rattle.node_progress.specs.Firsts.{IsFirst}
use Rattle.driver_steps.specs.Crashes.{Noted}
use Rattle.driver_steps.specs.Seats.{Hosted, SeatView, AreKept, LeaveKept}
use Rattle.driver_steps.specs.Worlds.{NetworkView, StandsFor, puts_given}
use Rattle.pipe_driver.specs.Acknowledgements.{AreCovered}
use Rattle.pipe_driver.specs.declared.status.Status.{Status}
use Rattle.pipe_driver.specs.declared.status.Status.TheVariants as statuses
use Rattle.script_lines.specs.Words.{HasNone, IsCutAt}
use Rattle.sim_driver.specs.Scripts.{ScriptView}
use Rattle.sim_driver.specs.LineOutcomes.{IsRefused}
use Rattle.sim_driver.specs.Simulations.{newline, bytes_of_lines, Plays, AllPlayed, CameTo, IsLastOfScript, LastPutShort, all_printed}

-- These bytes were played, in whole lines: nodes, logs and messages are those of the world after them, and what they print was put.
pub record Playing {S : Type 0} (view : S → SeatView) (hosted : Hosted S) (network : NetworkView) (first_router : ℕ) (first : World) (tells : Bool)
    (noted : List Noted) (held_before held : List ℕ)
    (script : ScriptView) (consumed : List ℕ) : Type 0 where
  pub lines : List (List ℕ)
  pub events : List EventOrStop
  pub world : World
  pub out : List ℕ
  pub begins : IsFirst first
  pub plays : Plays first_router first lines events world script out
  pub stands : StandsFor view hosted network (puts_given world.answered) world 0
  pub put : Put tells held_before out held
  pub all : consumed ≡ bytes_of_lines lines
  pub each : AllByRecursion (HasNone newline) lines
  pub covered : IsTrue tells → AreCovered (all_printed first_router first) first noted held_before out world

-- why no further line is played
pub data StopsAt (first_router : ℕ) (first : World) (lines : List (List ℕ)) (left put : List ℕ) (end : World) : Status → Type 0 where
  at_refused_line : (bytes others : List ℕ) → IsCutAt newline left bytes others → (played : AllPlayed first_router first lines put end)
      → IsRefused end played.script bytes
      → StopsAt first_router first lines left put end statuses.BadInput
  at_write_fault : LastPutShort first_router first lines left put end → StopsAt first_router first lines left put end statuses.WriteFailed
  at_disk_fault : CameTo first_router first lines left put end → StopsAt first_router first lines left put end statuses.DiskFailed
  at_no_memory : CameTo first_router first lines left put end → StopsAt first_router first lines left put end statuses.OutOfMemory

-- These bytes were played, in whole lines, and with what is left the script stops.
pub record Stopped {S : Type 0} (view : S → SeatView) (hosted : Hosted S) (first_router : ℕ) (first : World) (tells : Bool) (noted : List Noted)
    (held_before held consumed left : List ℕ)
    (status : Status)
    : Type 0 where
  pub lines : List (List ℕ)
  pub end : World
  pub out : List ℕ
  pub cause : StopsAt first_router first lines left out end status
  pub put : Put tells held_before out held
  pub all : consumed ≡ bytes_of_lines lines
  pub each : AllByRecursion (HasNone newline) lines
  pub kept : AreKept view hosted.seats end.nodes
  pub last : World
  pub is_last : IsLastOfScript status (λ w. CameTo first_router first lines left out w) end last
  pub crashes : LeaveKept view hosted last
  pub covered : IsTrue tells → AreCovered (all_printed first_router first) first noted held_before out last

-- The lines that end in these bytes were played; after them comes the beginning of one.
pub record HasPlayedLines {S : Type 0} (view : S → SeatView) (hosted : Hosted S) (network : NetworkView) (first_router : ℕ) (first : World) (tells : Bool)
    (noted : List Noted) (held_before held : List ℕ)
    (script : ScriptView) (bytes begun : List ℕ) : Type 0 where
  pub consumed : List ℕ
  pub whole : bytes ≡ consumed ++ begun
  pub playing : Playing view hosted network first_router first tells noted held_before held script consumed

-- Some lines that end in these bytes were played, and with what is left the script stops.
pub record HasStoppedIn {S : Type 0} (view : S → SeatView) (hosted : Hosted S) (first_router : ℕ) (first : World) (tells : Bool) (noted : List Noted)
    (held_before held bytes : List ℕ) (status : Status)
    : Type 0 where
  pub consumed : List ℕ
  pub left : List ℕ
  pub whole : bytes ≡ consumed ++ left
  pub stopped : Stopped view hosted first_router first tells noted held_before held consumed left status

-- a status that playing may stop with: not that of a read, nor one of an input at its end
abbrev pub IsOfPlaying : Status → Type 0
IsOfPlaying status = (status ≢ statuses.ReadFailed) × (status ≢ statuses.InputEnded)
