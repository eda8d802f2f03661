-- The schedule of `pipe`: one connection, with one request after another, from the world on that a call begins in. All nodes are opened, in order of their
-- numbers; then for each request all nodes are given one moment, in that order, a router takes the request, and what is not delivered yet is delivered.
use Rattle.std.specs.Prelude.{◌≡◌, ℕ, ℤ, zero, suc, ◌+◌, List, [], ◌∷◌, ◌++◌, length}
use Rattle.reply_model.specs.Requests.{Request}
use Rattle.node_model.specs.World.{World, Event, client_event, deliver_event, moment_event, opened_event, Happens, Run}

-- so many nodes are opened, from this one on
abbrev pub openings : (first count : ℕ) → List Event
openings first zero = []
openings first (suc count) = opened_event first ∷ openings (first + 1) count

-- so many nodes are given a moment, from this one on
abbrev pub moments_given : (first count moment : ℕ) → List Event
moments_given first zero moment = []
moments_given first (suc count) moment = moment_event first moment ∷ moments_given (first + 1) count moment

-- Messages are delivered in order of sending, each once, from a place among all that were sent up to a later one; those too that are
-- sent meanwhile.
pub data Delivers : World → (next : ℕ) → List Event → World → (later : ℕ) → Type 0 where
  delivers_none : (w : World) (next : ℕ) → Delivers w next [] w next
  delivers_next : (u v w : World) (next later at : ℕ) (events : List Event) → Happens u (deliver_event at next) v → Delivers v (next + 1) events w later
      → Delivers u next (deliver_event at next ∷ events) w later

-- a request, with the moment that all nodes are given before it, and the link and the router that it comes to
pub record Round : Type 0 where
  pub moment : ℕ
  pub at : ℕ
  pub link : ℕ
  pub number : ℤ
  pub request : Request

-- the events of a round, where all messages before this place were delivered; after it none is left
pub record IsRound (u : World) (next : ℕ) (r : Round) (events : List Event) (w : World) : Type 0 where
  pub given : World
  pub asked : World
  pub deliveries : List Event
  pub all : events ≡ moments_given 0 (length u.nodes) r.moment ++ client_event r.at r.link r.number r.request ∷ deliveries
  pub moments : Run u (moments_given 0 (length u.nodes) r.moment) given
  pub comes : Happens given (client_event r.at r.link r.number r.request) asked
  pub settles : Delivers asked next deliveries w (length w.sent)

-- These events, which lead from the first world to this one, are those of these rounds, after the openings; all messages before the place were
-- delivered. In the first world no message is under way.
pub data Pipes (first : World) : List Round → List Event → World → (next : ℕ) → Type 0 where
  opens : (w : World) → Run first (openings 0 (length first.nodes)) w → Pipes first [] (openings 0 (length first.nodes)) w 0
  serves : (rounds : List Round) (r : Round) (before events : List Event) (u w : World) (next : ℕ) → Pipes first rounds before u next
      → IsRound u next r events w
      → Pipes first (rounds ++ r ∷ []) (before ++ events) w (length w.sent)
