-- Scripts that were played, line by line, and how they ended (own).
use Rattle.std.specs.Prelude.{◌≡◌, ◌≢◌, ◌⊎◌, ℕ, ◌-◌, ◌<◌, ◌≤◌, IsTrue, List, [], ◌∷◌, ◌++◌, length, Option, codes}
use Rattle.std.specs.List.{flat_map, AllByRecursion}
use Rattle.outside.specs.Devices.{SourceCall, SinkCall, SourceGave, SinkTook}
use Rattle.node_model.specs.World.{Held, World, Event, Run}
use Rattle.node_model.specs.Schedule.{openings}
use Rattle.node_replay.specs.Restarts.{EventOrStop, Occurs, RunWithStops}
use Rattle.restart_laws.specs.Calls.{wholes}
use Rattle.node_progress.specs.Completion.{AreAnswered, AreAnsweredSince}
use Rattle.node_traits.specs.declared.outputs.ToLink.{ToLink}
use Rattle.driver_steps.specs.Moves.{BeginWith}
use Rattle.driver_steps.specs.Worlds.{puts_given}
use Rattle.pipe_driver.specs.Pieces.{IsPrefix}
use Rattle.pipe_driver.specs.declared.status.Status.{Status}
use Rattle.pipe_driver.specs.declared.status.Status.TheVariants as statuses
use Rattle.script_lines.specs.Lines.{Line, Says}
use Rattle.script_lines.specs.Words.{HasNone, IsCutAt}
use Rattle.sim_driver.specs.Scripts.{ScriptView, new_script, printed}
use Rattle.sim_driver.specs.Plays.{IsPlayed}
use Rattle.sim_driver.specs.LineOutcomes.{IsPartOfBytes, IsRefused}

-- the byte that ends a line
abbrev pub newline : ℕ
newline = 10

-- the bytes of lines, each with its newline
abbrev pub bytes_of_lines : List (List ℕ) → List ℕ
bytes_of_lines lines = flat_map (λ (l : List ℕ). l ++ newline ∷ []) lines

-- how many nodes there are from this place on: the routers
abbrev pub router_count : (first_router : ℕ) → World → ℕ
router_count first_router w = length w.nodes - first_router

-- These lines were played, from the first world on, whose routers begin at this place: these events led to this world, the script has this, and that was
-- printed.
pub data Plays (first_router : ℕ) (first : World) : (lines : List (List ℕ)) → List EventOrStop → World → ScriptView → (out : List ℕ) → Type 0 where
  -- each node was opened
  plays_none : (w : World) → Run first (openings 0 (length first.nodes)) w
      → Plays first_router first [] (wholes (openings 0 (length first.nodes))) w (new_script first_router (router_count first_router first)) []
  -- one line more: what its events gave is printed
  plays_more : (lines : List (List ℕ)) (before events : List EventOrStop) (u w : World) (s t : ScriptView) (out : List ℕ) (bytes : List ℕ) (line : Line)
      (closed : Option ℕ) (given : List ToLink) → Plays first_router first lines before u s out → Says bytes line → IsPlayed u s line events w t closed
      → puts_given w.answered ≡ puts_given u.answered ++ given
      → Plays first_router first (lines ++ bytes ∷ []) (before ++ events) w t (out ++ printed s.links given closed)

-- the last line is `settle`, which passes over no message
abbrev pub EndInSettle : List (List ℕ) → Type 0
EndInSettle lines = (before : List (List ℕ)) × (lines ≡ before ++ codes "settle" ∷ [])

-- the line starts a node again
abbrev pub IsRestart : List ℕ → Type 0
IsRestart bytes = (rest : List ℕ) × (bytes ≡ codes "restart" ++ 32 ∷ rest)

abbrev pub HaveNoRestart : List (List ℕ) → Type 0
HaveNoRestart lines = AllByRecursion (λ bytes. ¬ IsRestart bytes) lines

abbrev pub EndInRestart : List (List ℕ) → Type 0
EndInRestart lines = (before : List (List ℕ)) × (bytes : List ℕ) × (lines ≡ before ++ bytes ∷ []) × IsRestart bytes

-- The lines after the last one that starts a node again, if one does: they led from a world to this one, and every request that they brought is answered.
-- One before may have no answer, also of a router that goes on: what a node had for it, and did not store, is lost where the node stops.
pub record AreAnsweredAfterRestarts (first_router : ℕ) (first : World) (lines : List (List ℕ)) (events : List EventOrStop) (end : World) : Type 0 where
  pub before : List (List ℕ)
  pub after : List (List ℕ)
  pub all : lines ≡ before ++ after
  pub last : (before ≡ []) ⊎ EndInRestart before
  pub none_after : HaveNoRestart after
  pub early : List EventOrStop
  pub late : List EventOrStop
  pub restarted : World
  pub script : ScriptView
  pub out : List ℕ
  pub parts : events ≡ early ++ late
  pub played : Plays first_router first before early restarted script out
  pub then : RunWithStops restarted late end
  pub answered : AreAnsweredSince restarted end

-- All these lines were played; what they print was put, and nothing else. Where they end in `settle`, and no step was missed, every request that was taken
-- since the first world is answered, if no node was started again, and otherwise every one that was taken since the last such line.
pub record AllPlayed (first_router : ℕ) (first : World) (lines : List (List ℕ)) (put : List ℕ) (end : World) : Type 0 where
  pub events : List EventOrStop
  pub script : ScriptView
  pub played : Plays first_router first lines events end script put
  pub answered : EndInSettle lines → HaveNoRestart lines → end.missed ≡ first.missed → AreAnswered first end
  pub answered_after : EndInSettle lines → end.missed ≡ first.missed → AreAnsweredAfterRestarts first_router first lines events end

-- all output of a script: what the lines print that were played since the first world
abbrev pub all_printed : (first_router : ℕ) (first w : World) → List ℕ → Type 0
all_printed first_router first w out = (lines : List (List ℕ)) × AllPlayed first_router first lines out w

-- How far the script came from the first world; what is put is what the lines print that were played whole.
pub data CameTo (first_router : ℕ) (first : World) : (lines : List (List ℕ)) → (left put : List ℕ) → (end : World) → Type 0 where
  -- within the openings
  came_opening : (left : List ℕ) (events : List Event) (w : World) → BeginWith events (openings 0 (length first.nodes))
      → Run first events w → CameTo first_router first [] left [] w
  -- to an end of lines
  came_lines : (lines : List (List ℕ)) (left put : List ℕ) (w : World) → AllPlayed first_router first lines put w → CameTo first_router first lines left put w
  -- within the line that is next
  came_part : (lines : List (List ℕ)) (before events : List EventOrStop) (left put bytes others : List ℕ) (u w : World) (s : ScriptView)
      → Plays first_router first lines before u s put → IsCutAt newline left bytes others → IsPartOfBytes u s bytes events → RunWithStops u events w
      → CameTo first_router first lines left put w

-- These lines were played, and one more; of what the last one prints a prefix was put, and all that the others print.
pub record LastPutShort (first_router : ℕ) (first : World) (lines : List (List ℕ)) (left put : List ℕ) (end : World) : Type 0 where
  pub before : List EventOrStop
  pub events : List EventOrStop
  pub earlier : World
  pub script : ScriptView
  pub new : ScriptView
  pub out : List ℕ
  pub bytes : List ℕ
  pub others : List ℕ
  pub line : Line
  pub closed : Option ℕ
  pub given : List ToLink
  pub part : List ℕ
  pub played : Plays first_router first lines before earlier script out
  pub next : IsCutAt newline left bytes others
  pub says : Says bytes line
  pub last : IsPlayed earlier script line events end new closed
  pub gave : puts_given end.answered ≡ puts_given earlier.answered ++ given
  pub in_part : IsPrefix part (printed script.links given closed)
  pub all : put ≡ out ++ part

-- The causes of a status: `lines` were played of the bytes taken, which leaves these, and `at_end` says whether the input is at its end.
pub data Cause (first_router : ℕ) (first : World) (limit : ℕ) (at_end : Type 0) (taken : List ℕ) (lines : List (List ℕ)) (left put : List ℕ)
    (end : World) : Status → Type 0 where
  -- the input was read to its end, and its last byte is a newline, if it has any
  input_ended : at_end → length taken < limit → left ≡ [] → AllPlayed first_router first lines put end
      → Cause first_router first limit at_end taken lines left put end statuses.InputEnded
  -- a read failed
  read_failed : length taken < limit → HasNone newline left → AllPlayed first_router first lines put end
      → Cause first_router first limit at_end taken lines left put end statuses.ReadFailed
  -- a write failed
  write_failed : LastPutShort first_router first lines left put end → Cause first_router first limit at_end taken lines left put end statuses.WriteFailed
  -- a disk failed
  disk_failed : CameTo first_router first lines left put end → Cause first_router first limit at_end taken lines left put end statuses.DiskFailed
  -- memory ran out
  no_memory : CameTo first_router first lines left put end → Cause first_router first limit at_end taken lines left put end statuses.OutOfMemory
  -- the next line is refused
  line_refused : (bytes others : List ℕ) → IsCutAt newline left bytes others → (played : AllPlayed first_router first lines put end)
      → IsRefused end played.script bytes
      → Cause first_router first limit at_end taken lines left put end statuses.BadInput
  -- the input was read to its end, and its last line has no newline
  line_unended : at_end → length taken < limit → left ≢ [] → HasNone newline left → AllPlayed first_router first lines put end
      → Cause first_router first limit at_end taken lines left put end statuses.BadInput
  -- as many bytes were taken as may be
  too_long : length taken ≡ limit → HasNone newline left → AllPlayed first_router first lines put end
      → Cause first_router first limit at_end taken lines left put end statuses.InputTooLong

-- The world up to which a crash may have left what the nodes keep: the end, and where a disk failed maybe one event more, also one in which a node stops,
-- with which the script proceeds.
abbrev pub IsLastOfScript : Status → (proceeds : World → Type 0) → (end last : World) → Type 0
IsLastOfScript status proceeds end last =
    (last ≡ end) ⊎ ((status ≡ statuses.DiskFailed) × proceeds last × (e : EventOrStop) × Occurs end e last)

-- A script was played, from the first world on: these bytes were taken and put, and the lines in them led to this world. `kept` says of the nodes of that
-- world that the journals keep what they keep; and `leaves` of a world that a crash at any moment since the start left, of each log, what it might have left
-- before, or a file in which an opening finds what that node kept in a world on the way; and `owed` of that world and the bytes that were put what the journals
-- owed before each of these was put.
pub record IsSimulated (source : SourceCall) (sink : SinkCall) (first_router : ℕ) (kept : List Held → Type 0) (leaves : World → Type 0)
    (owed : World → (put : List ℕ) → Type 0) (first : World) (limit : ℕ) (status : Status) : Type 0 where
  pub taken : List ℕ
  pub put : List ℕ
  pub lines : List (List ℕ)
  pub left : List ℕ
  pub end : World
  pub took : SourceGave source taken
  pub put_all : SinkTook sink put
  pub parts : taken ≡ bytes_of_lines lines ++ left
  pub each : AllByRecursion (HasNone newline) lines
  pub most : length taken ≤ limit
  pub cause : Cause first_router first limit (IsTrue source.tells → source.left_after ≡ []) taken lines left put end status
  pub files : kept end.nodes
  pub last : World
  pub is_last : IsLastOfScript status (λ w. CameTo first_router first lines left put w) end last
  pub crashes : leaves last
  pub acknowledged : owed last put
