-- How far a connection has come.
use Rattle.std.specs.Prelude.{◌≡◌, ℕ, Bool, IsTrue, List, [], ◌∷◌, ◌++◌}
use Rattle.std.specs.List.{flat_map, AllByRecursion}
use Rattle.outside.specs.Streams.{Put}
use Rattle.opmsg_frames.specs.Requests.{Request, IsRequest}
use Rattle.opmsg_frames.specs.RequestMeanings.{IsMeant}
use Rattle.opmsg_frames.specs.declared.request.Request as frames
use Rattle.node_model.specs.World.{World, Event}
use Rattle.node_model.specs.Schedule.{Round, IsRound, Pipes}
use Rattle.node_progress.specs.Firsts.{IsFirst}
use Rattle.driver_steps.specs.Crashes.{Noted}
use Rattle.driver_steps.specs.Seats.{Hosted, SeatView, AreKept, LeaveKept}
use Rattle.driver_steps.specs.Worlds.{NetworkView, StandsFor, puts_given}
use Rattle.pipe_driver.specs.Acknowledgements.{AreCovered}
use Rattle.pipe_driver.specs.Pieces.{IsPrefix}
use Rattle.pipe_driver.specs.Rounds.{requests_of, replies_behind, AreOfOne, bytes_of, puts_since}
use Rattle.pipe_driver.specs.Schedules.{Came, IsLast}
use Rattle.pipe_driver.specs.declared.status.Status.{Status}

-- the nodes take the requests as they are read
abbrev pub AreAskedAsRead : (frames.Request → Request) → Type 0
AreAskedAsRead asks = (request : frames.Request) (meant : Request) → IsMeant request meant → asks request ≡ meant

-- the bytes are these requests, one after another
pub record AreAsked (bytes : List ℕ) (requests : List Request) : Type 0 where
  pub all : bytes ≡ flat_map (λ (r : Request). r.bytes) requests
  pub each : AllByRecursion IsRequest requests

-- the output of one connection: the bytes of all replies that were given since the first world
abbrev pub all_replies : (first w : World) → List ℕ → Type 0
all_replies first w out = out ≡ bytes_of (puts_since first w)

-- These bytes were served, in whole rounds: nodes, logs and messages are those of the world after them, and all replies were put.
pub record Serving {S : Type 0} (view : S → SeatView) (hosted : Hosted S) (network : NetworkView) (gives : ℕ → Type 0) (router : ℕ) (first : World) (tells : Bool) (noted : List Noted)
    (held_before held consumed : List ℕ) (replied : ℕ) : Type 0 where
  pub rounds : List Round
  pub events : List Event
  pub world : World
  pub next : ℕ
  pub begins : IsFirst first
  pub pipes : Pipes first rounds events world next
  pub one : AreOfOne gives router rounds
  pub stands : StandsFor view hosted network (puts_given world.answered) world next
  pub put : Put tells held_before (bytes_of (puts_since first world)) held
  pub asked : AreAsked consumed (requests_of rounds)
  pub count : replied ≡ replies_behind 0 (requests_of rounds)
  pub covered : IsTrue tells → AreCovered (all_replies first) first noted held_before (bytes_of (puts_since first world)) world

-- These bytes were served, the last request of them maybe in part: all replies of whole rounds were put.
pub record CutShort {S : Type 0} (view : S → SeatView) (hosted : Hosted S) (gives : ℕ → Type 0) (router : ℕ) (first : World) (tells : Bool) (noted : List Noted)
    (held_before held consumed : List ℕ) (status : Status) : Type 0 where
  pub rounds : List Round
  pub under_way : List Request
  pub whole : World
  pub end : World
  pub came : Came first gives router rounds under_way whole end
  pub one : AreOfOne gives router rounds
  pub put : Put tells held_before (bytes_of (puts_since first whole)) held
  pub asked : AreAsked consumed (requests_of rounds ++ under_way)
  pub kept : AreKept view hosted.seats end.nodes
  pub last : World
  pub is_last : IsLast status (λ w. Came first gives router rounds under_way whole w) end last
  pub crashes : LeaveKept view hosted last
  pub covered : IsTrue tells → AreCovered (all_replies first) first noted held_before (bytes_of (puts_since first whole)) last

-- These bytes were served, in whole rounds: of the replies of the last one a prefix was put, and all others.
pub record PutShort {S : Type 0} (view : S → SeatView) (hosted : Hosted S) (gives : ℕ → Type 0) (router : ℕ) (first : World) (tells : Bool) (noted : List Noted)
    (held_before held consumed : List ℕ) : Type 0 where
  pub earlier : List Round
  pub last : Round
  pub events : List Event
  pub more : List Event
  pub before : World
  pub end : World
  pub next : ℕ
  pub served : Pipes first earlier events before next
  pub round : IsRound before next last more end
  pub one : AreOfOne gives router (earlier ++ last ∷ [])
  pub part : List ℕ
  pub earlier_put : IsPrefix (bytes_of (puts_since first before)) part
  pub in_part : IsPrefix part (bytes_of (puts_since first end))
  pub put : Put tells held_before part held
  pub asked : AreAsked consumed (requests_of (earlier ++ last ∷ []))
  pub kept : AreKept view hosted.seats end.nodes
  pub crashes : LeaveKept view hosted end
  pub covered : IsTrue tells → AreCovered (all_replies first) first noted held_before part end
