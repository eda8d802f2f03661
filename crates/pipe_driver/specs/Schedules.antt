-- How far the schedule of one connection came (own).
use Rattle.std.specs.Prelude.{◌≡◌, ◌⊎◌, ℕ, ℤ, List, [], ◌∷◌, ◌++◌, length}
use Rattle.node_model.specs.Requests.{Request}
use Rattle.node_model.specs.World.{World, IsRouter, Event, client_event, Happens, Run}
use Rattle.node_model.specs.Schedule.{openings, moments_given, Round, IsRound, Pipes}
use Rattle.node_progress.specs.Firsts.{IsFirst}
use Rattle.node_traits.specs.declared.outputs.ToLink.{ToLink}
use Rattle.driver_steps.specs.Seats.{Hosted, SeatView}
use Rattle.driver_steps.specs.Worlds.{NetworkView, StandsFor}
use Rattle.driver_steps.specs.Moves.{BeginWith, AreDeliveries}
use Rattle.pipe_driver.specs.Rounds.{first_link, number_behind, replies_behind, requests_of}
use Rattle.pipe_driver.specs.declared.status.Status.{Status}
use Rattle.pipe_driver.specs.declared.status.Status.TheVariants as statuses

-- a call may begin in the world, and this is one of its routers
pub record MayServe (first : World) (router : ℕ) : Type 0 where
  pub begins : IsFirst first
  pub there : IsRouter first.nodes router

-- a round of this router, by the first link
abbrev pub round_of : (router moment : ℕ) → ℤ → Request → Round
round_of router moment number request = record { moment = moment; at = router; link = first_link; number = number; request = request }

-- The events of a round that was cut short: the first of its moments; or all of these, the request and deliveries.
pub data IsPart (count : ℕ) (r : Round) : List Event → Type 0 where
  in_moments : (events : List Event) → BeginWith events (moments_given 0 count r.moment) → IsPart count r events
  in_deliveries : (deliveries : List Event) → AreDeliveries deliveries
      → IsPart count r (moments_given 0 count r.moment ++ client_event r.at r.link r.number r.request ∷ deliveries)

-- The round happened: nodes and logs, messages and replies are those of the world after it.
pub record HasServed {S : Type 0} (view : S → SeatView) (hosted : Hosted S) (network : NetworkView) (handed : List ToLink) (before : World) (next : ℕ)
    (r : Round) : Type 0 where
  pub events : List Event
  pub end : World
  pub round : IsRound before next r events end
  pub stands : StandsFor view hosted network handed end (length end.sent)

-- From the first world the schedule came to an end of rounds, to the world after them (`whole`), and then to the last one (`end`), with no request under way, or with one.
pub data Came (first : World) (gives : ℕ → Type 0) (router : ℕ) : (rounds : List Round) → (under_way : List Request) → (whole end : World) → Type 0 where
  -- with the last round
  came_whole : (rounds : List Round) (events : List Event) (w : World) (next : ℕ) → Pipes first rounds events w next → Came first gives router rounds [] w w
  -- within the openings
  came_opening : (events : List Event) (w : World) → BeginWith events (openings 0 (length first.nodes)) → Run first events w
      → Came first gives router [] [] first w
  -- within a round, at a moment of the clock
  came_part : (rounds : List Round) (before events : List Event) (u w : World) (next moment : ℕ) (request : Request) → Pipes first rounds before u next
      → gives moment
      → IsPart (length u.nodes) (round_of router moment (number_behind (replies_behind 0 (requests_of rounds))) request) events → Run u events w
      → Came first gives router rounds (request ∷ []) u w

-- The world up to which a crash may have left what the nodes keep: the end, and where a disk failed maybe one event more, with which the
-- schedule proceeds.
abbrev pub IsLast : Status → (goes_on : World → Type 0) → (end last : World) → Type 0
IsLast status goes_on end last = (last ≡ end) ⊎ ((status ≡ statuses.DiskFailed) × goes_on last × (e : Event) × Happens end e last)
