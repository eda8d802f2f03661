-- How a connection ended: the bytes taken are requests and a rest, the bytes put are the replies of a run of the schedule, and the status has
-- its cause.
use Rattle.std.specs.Prelude.{◌≡◌, ℕ, ◌<◌, ◌≤◌, ◌^◌, IsTrue, Option, None, IsSome, List, [], ◌∷◌, ◌++◌, length}
use Rattle.outside.specs.Devices.{SourceCall, SinkCall, SourceGave, SinkTook}
use Rattle.opmsg_frames.specs.Outline.{FrameFault}
use Rattle.opmsg_frames.specs.Frames.{Frames}
use Rattle.node_model.specs.Requests.{Request}
use Rattle.node_model.specs.World.{Held, World, Event}
use Rattle.node_model.specs.Schedule.{Round, IsRound, Pipes}
use Rattle.node_progress.specs.Completion.{AreAnswered}
use Rattle.pipe_driver.specs.Pieces.{IsPrefix}
use Rattle.pipe_driver.specs.Rounds.{requests_of, AreOfOne, bytes_of, puts_since}
use Rattle.pipe_driver.specs.Schedules.{Came, IsLast}
use Rattle.pipe_driver.specs.declared.status.Status.{Status}
use Rattle.pipe_driver.specs.declared.status.Status.TheVariants as statuses

-- how many bytes are taken of one input at most
abbrev pub most_taken : ℕ
most_taken = 2 ^ 40

-- each request had its round, every one is answered where no step was missed, and all replies were put, and nothing else
pub record AllServed (first : World) (put : List ℕ) (requests : List Request) (rounds : List Round) (end : World) : Type 0 where
  pub events : List Event
  pub next : ℕ
  pub asked : requests ≡ requests_of rounds
  pub served : Pipes first rounds events end next
  pub answered : end.missed ≡ first.missed → AreAnswered first end
  pub replied : put ≡ bytes_of (puts_since first end)

-- The first requests had their rounds, and all replies of these were put, and nothing else. One request more may be under way.
pub record SomeServed (first : World) (gives : ℕ → Type 0) (router : ℕ) (put : List ℕ) (requests : List Request) (rounds : List Round) (end : World) : Type 0 where
  pub under_way : List Request
  pub others : List Request
  pub whole : World
  pub asked : requests ≡ (requests_of rounds ++ under_way) ++ others
  pub came : Came first gives router rounds under_way whole end
  pub replied : put ≡ bytes_of (puts_since first whole)

-- The first requests had their rounds, all replies but those of the last round were put, and a prefix of these.
pub record LastCutShort (first : World) (put : List ℕ) (requests : List Request) (rounds : List Round) (end : World) : Type 0 where
  pub earlier : List Round
  pub last : Round
  pub before : World
  pub events : List Event
  pub more : List Event
  pub next : ℕ
  pub others : List Request
  pub all : rounds ≡ earlier ++ last ∷ []
  pub asked : requests ≡ requests_of rounds ++ others
  pub served : Pipes first earlier events before next
  pub round : IsRound before next last more end
  pub earlier_put : IsPrefix (bytes_of (puts_since first before)) put
  pub in_part : IsPrefix put (bytes_of (puts_since first end))

-- The causes of a status. `fault` is that of the bytes after the requests, if there is one, with its offset, and `at_end` whether the input is
-- at its end.
pub data Cause (limit : ℕ) (at_end : Type 0) (taken : List ℕ) (fault : Option (FrameFault × ℕ)) (all : Type 0) (some : Type 0) (short : Type 0) : Status
    → Type 0 where
  -- the input was read to its end
  input_ended : at_end → length taken < limit → fault ≡ None → all → Cause limit at_end taken fault all some short statuses.InputEnded
  -- a read failed
  read_failed : length taken < limit → fault ≡ None → all → Cause limit at_end taken fault all some short statuses.ReadFailed
  -- a write failed
  write_failed : short → Cause limit at_end taken fault all some short statuses.WriteFailed
  -- a disk failed
  disk_failed : some → Cause limit at_end taken fault all some short statuses.DiskFailed
  -- memory ran out
  no_memory : some → Cause limit at_end taken fault all some short statuses.OutOfMemory
  -- the next bytes are no request
  no_request : IsSome fault → all → Cause limit at_end taken fault all some short statuses.BadInput
  -- as many bytes were taken as may be
  too_long : length taken ≡ limit → fault ≡ None → all → Cause limit at_end taken fault all some short statuses.InputTooLong

-- One connection was served by the schedule, all by one router, from the first world on: these bytes were taken and put, and these rounds led to this world.
-- `kept` says of the nodes of that world that the journals keep what they keep; and `leaves` of a world that a crash at any moment since the start left, of each
-- log, what it might have left before, or a file in which an opening finds what that node kept in a world on the way; and `owed` of that world and the bytes
-- that were put what the journals owed before each of these was put.
pub record IsPiped (source : SourceCall) (sink : SinkCall) (gives : ℕ → Type 0) (router : ℕ) (kept : List Held → Type 0) (leaves : World → Type 0)
    (owed : World → (put : List ℕ) → Type 0) (first : World) (limit : ℕ) (status : Status) (rest : ℕ) : Type 0 where
  pub taken : List ℕ
  pub put : List ℕ
  pub requests : List Request
  pub left : List ℕ
  pub fault : Option (FrameFault × ℕ)
  pub rounds : List Round
  pub end : World
  pub took : SourceGave source taken
  pub put_all : SinkTook sink put
  pub frames : Frames taken requests left fault
  pub rest_left : rest ≡ length left
  pub most : length taken ≤ limit
  pub one : AreOfOne gives router rounds
  pub cause : Cause limit (IsTrue source.tells → source.left_after ≡ []) taken fault (AllServed first put requests rounds end)
      (SomeServed first gives router put requests rounds end) (LastCutShort first put requests rounds end) status
  pub files : kept end.nodes
  pub last : World
  pub is_last : IsLast status (λ w. SomeServed first gives router put requests rounds w) end last
  pub crashes : leaves last
  pub acknowledged : owed last put
