-- The world that models nodes, logs, messages and replies (own).
use Rattle.std.specs.Prelude.{◌≡◌, ℕ, List, [], ◌∷◌, ◌++◌, length, map, if◌then◌else◌}
use Rattle.node_model.specs.Exchanges.{Answered, reply_put}
use Rattle.node_model.specs.Letters.{Letter}
use Rattle.node_model.specs.World.{World}
use Rattle.node_traits.specs.declared.outputs.ToLink.{ToLink}
use Rattle.driver_steps.specs.Seats.{Hosted, SeatView, AreCounted, AreHeld, LeaveKept}
use Rattle.driver_steps.specs.declared.network.Network.{Network}

-- what is put for answers, in order: nothing for a request with moreToCome
abbrev pub puts_given : List Answered → List ToLink
puts_given [] = []
puts_given (a ∷ answered) =
    if a.request.more then puts_given answered else record { link = a.link; bytes = reply_put a.number a.request a.document } ∷ puts_given answered

-- the messages that wait, and the replies that were not handed on yet
pub record NetworkView : Type 0 where
  pub waiting : List Letter
  pub replies : List ToLink

abbrev pub network_view : {M : Type 0} → (M → Letter) → Network M → NetworkView
network_view letter network = record { waiting = map letter network.waiting.items; replies = network.replies.items }

-- The nodes with their logs are those of the world, also as for crashes, and have taken as many steps; of all messages that were sent those from a place on wait;
-- and the replies were given after those that were handed on.
pub record StandsFor {S : Type 0} (view : S → SeatView) (hosted : Hosted S) (network : NetworkView) (handed : List ToLink) (w : World) (next : ℕ) : Type 0 where
  pub nodes : AreHeld view hosted.seats w.nodes
  pub counted : AreCounted view hosted.seats w.nodes
  pub crashes : LeaveKept view hosted w
  pub past : List Letter
  pub sent : w.sent ≡ past ++ network.waiting
  pub place : length past ≡ next
  pub given : puts_given w.answered ≡ handed ++ network.replies
