-- The requests that came, in order (own).
use Rattle.std.specs.Prelude.{ℕ, ℤ, List, [], ◌∷◌}
use Rattle.reply_model.specs.Exchanges.{Asked}
use Rattle.reply_model.specs.Requests.{Request}
use Rattle.node_model.specs.World.{Event, client_event, deliver_event, moment_event, opened_event}

-- a request, the router that it came to, its link and the number of its reply
pub record Arrival : Type 0 where
  pub node : ℕ
  pub link : ℕ
  pub number : ℤ
  pub request : Request

abbrev pub arrivals : List Event → List Arrival
arrivals [] = []
arrivals (client_event at link number request ∷ events) = record { node = at; link = link; number = number; request = request } ∷ arrivals events
arrivals (deliver_event at which ∷ events) = arrivals events
arrivals (moment_event at moment ∷ events) = arrivals events
arrivals (opened_event at ∷ events) = arrivals events

-- of a request that was taken
abbrev pub arrival_of : Asked → Arrival
arrival_of a = record { node = a.id.router; link = a.link; number = a.number; request = a.request }
