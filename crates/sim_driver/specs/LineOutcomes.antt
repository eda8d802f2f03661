-- A line that was played, or was not.
use Rattle.std.specs.Prelude.{◌≡◌, ◌⊎◌, ℕ, List, [], ◌∷◌, ◌++◌, Option}
use Rattle.node_model.specs.World.{World, Event, Run}
use Rattle.node_replay.specs.Restarts.{EventOrStop, Occurs, RunWithStops}
use Rattle.node_traits.specs.declared.outputs.ToLink.{ToLink}
use Rattle.driver_steps.specs.Seats.{Hosted, SeatView, AreKept, LeaveKept}
use Rattle.driver_steps.specs.Worlds.{NetworkView, StandsFor}
use Rattle.pipe_driver.specs.declared.status.Status.{Status}
use Rattle.pipe_driver.specs.declared.status.Status.TheVariants as statuses
use Rattle.script_lines.specs.Lines.{Line, Says}
use Rattle.sim_driver.specs.Scripts.{ScriptView}
use Rattle.sim_driver.specs.Plays.{IsPlayed, IsPlayedWhole, IsPartOfLine, IsPartOfWhole, NamesNothing}
use Rattle.sim_driver.specs.Moves.{AreStill, IsCut}

-- THE LINES IN WHICH NO NODE STOPS

-- the line was played
pub record HasPlayedWhole {S : Type 0} (view : S → SeatView) (hosted : Hosted S) (network : NetworkView) (handed : List ToLink) (before : World) (line : Line)
    (old new : ScriptView) (closed : Option ℕ) : Type 0 where
  pub events : List Event
  pub end : World
  pub run : Run before events end
  pub played : IsPlayedWhole before old line events end new closed
  pub stands : StandsFor view hosted network handed end 0

-- why such a line is not played to its end
pub data StopsWhole {S : Type 0} (view : S → SeatView) (hosted : Hosted S) (before : World) (line : Line) (old : ScriptView) : Status → Type 0 where
  -- it names what is not there, and nothing happened
  stops_unplayed : NamesNothing before old line → AreStill view hosted before → StopsWhole view hosted before line old statuses.BadInput
  stops_at_disk : IsCut view hosted before (IsPartOfWhole before old line) statuses.DiskFailed → StopsWhole view hosted before line old statuses.DiskFailed
  stops_at_memory : IsCut view hosted before (IsPartOfWhole before old line) statuses.OutOfMemory
      → StopsWhole view hosted before line old statuses.OutOfMemory

-- ALL LINES

-- the line was played
pub record HasPlayed {S : Type 0} (view : S → SeatView) (hosted : Hosted S) (network : NetworkView) (handed : List ToLink) (before : World) (line : Line)
    (old new : ScriptView) (closed : Option ℕ) : Type 0 where
  pub events : List EventOrStop
  pub end : World
  pub run : RunWithStops before events end
  pub played : IsPlayed before old line events end new closed
  pub stands : StandsFor view hosted network handed end 0

-- The world up to which a crash may have left what the nodes keep: the end, and where a disk failed maybe one event more, with which P holds too.
abbrev pub IsLastIn : Status → (events : List EventOrStop) → (List EventOrStop → Type 0) → (end last : World) → Type 0
IsLastIn status events P end last =
    (last ≡ end) ⊎ ((status ≡ statuses.DiskFailed) × (e : EventOrStop) × P (events ++ e ∷ []) × Occurs end e last)

-- Events occurred, of which P holds, and then a fault came, with this status: the logs keep what the journals of that world keep.
pub record IsCutIn {S : Type 0} (view : S → SeatView) (hosted : Hosted S) (before : World) (P : List EventOrStop → Type 0) (status : Status) : Type 0 where
  pub events : List EventOrStop
  pub end : World
  pub which : P events
  pub run : RunWithStops before events end
  pub kept : AreKept view hosted.seats end.nodes
  pub last : World
  pub is_last : IsLastIn status events P end last
  pub crashes : LeaveKept view hosted last

-- why a line is not played to its end
pub data StopsLine {S : Type 0} (view : S → SeatView) (hosted : Hosted S) (before : World) (line : Line) (old : ScriptView) : Status → Type 0 where
  -- it names what is not there, and nothing happened
  line_unplayed : NamesNothing before old line → AreStill view hosted before → StopsLine view hosted before line old statuses.BadInput
  line_at_disk : IsCutIn view hosted before (IsPartOfLine before old line) statuses.DiskFailed → StopsLine view hosted before line old statuses.DiskFailed
  line_at_memory : IsCutIn view hosted before (IsPartOfLine before old line) statuses.OutOfMemory → StopsLine view hosted before line old statuses.OutOfMemory

abbrev pub IsOfLine : Status → Type 0
IsOfLine status = (status ≡ statuses.BadInput) ⊎ ((status ≡ statuses.DiskFailed) ⊎ (status ≡ statuses.OutOfMemory))

-- THE BYTES OF A LINE

-- the bytes say a line, which was played
pub record HasPlayedBytes {S : Type 0} (view : S → SeatView) (hosted : Hosted S) (network : NetworkView) (handed : List ToLink) (before : World)
    (bytes : List ℕ)
    (old new : ScriptView) (closed : Option ℕ) : Type 0 where
  pub line : Line
  pub says : Says bytes line
  pub played : HasPlayed view hosted network handed before line old new closed

-- the bytes say no line, or one that names what is not there
pub data IsRefused (u : World) (s : ScriptView) (bytes : List ℕ) : Type 0 where
  says_none : ((line : Line) → ¬ Says bytes line) → IsRefused u s bytes
  names_nothing : (line : Line) → Says bytes line → NamesNothing u s line → IsRefused u s bytes

-- the first events of the line that the bytes say
pub data IsPartOfBytes (u : World) (s : ScriptView) (bytes : List ℕ) : List EventOrStop → Type 0 where
  part_unread : IsPartOfBytes u s bytes []
  part_read : (line : Line) (events : List EventOrStop) → Says bytes line → IsPartOfLine u s line events → IsPartOfBytes u s bytes events

-- why the bytes of a line are not played to their end
pub data StopsBytes {S : Type 0} (view : S → SeatView) (hosted : Hosted S) (before : World) (bytes : List ℕ) (old : ScriptView) : Status → Type 0 where
  bytes_refused : IsRefused before old bytes → AreStill view hosted before → StopsBytes view hosted before bytes old statuses.BadInput
  bytes_at_disk : IsCutIn view hosted before (IsPartOfBytes before old bytes) statuses.DiskFailed → StopsBytes view hosted before bytes old statuses.DiskFailed
  bytes_at_memory : IsCutIn view hosted before (IsPartOfBytes before old bytes) statuses.OutOfMemory
      → StopsBytes view hosted before bytes old statuses.OutOfMemory
