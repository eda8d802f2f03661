-- The rounds of one connection: its requests, in order, each with a moment, a link, a router and the number of its reply (own).
use Rattle.std.specs.Prelude.{◌≡◌, ℕ, ℤ, ◌+◌, ◌%◌, ◌^◌, pos, Bool, List, [], ◌∷◌, map, length, drop, if◌then◌else◌}
use Rattle.std.specs.List.{flat_map, AllByRecursion}
use Rattle.node_model.specs.Requests.{Request}
use Rattle.node_model.specs.Schedule.{Round}
use Rattle.node_model.specs.World.{World}
use Rattle.node_traits.specs.declared.outputs.ToLink.{ToLink}
use Rattle.driver_steps.specs.Worlds.{puts_given}

-- the link of a connection
abbrev pub first_link : ℕ
first_link = 0

abbrev pub requests_of : List Round → List Request
requests_of rounds = map (λ (r : Round). r.request) rounds

-- how many replies there are after one more request: one with moreToCome gets none
abbrev pub replies_after : (more : Bool) → ℕ → ℕ
replies_after more replied = if more then replied else replied + 1

-- and after requests
abbrev pub replies_behind : ℕ → List Request → ℕ
replies_behind replied [] = replied
replies_behind replied (q ∷ requests) = replies_behind (replies_after q.more replied) requests

-- the number of the reply that comes after so many; the first one has 1
abbrev pub number_behind : (replied : ℕ) → ℤ
number_behind replied = pos ((replied + 1) % 2 ^ 31)

-- each request has the number of the reply that it gets, or would get
abbrev pub AreNumbered : (replied : ℕ) → List Round → Type 0
AreNumbered replied [] = Unit {0}
AreNumbered replied (r ∷ rounds) = (r.number ≡ number_behind replied) × AreNumbered (replies_after r.request.more replied) rounds

-- the rounds of one connection to this router, at moments of the clock
pub record AreOfOne (gives : ℕ → Type 0) (router : ℕ) (rounds : List Round) : Type 0 where
  pub moments : AllByRecursion (λ (r : Round). gives r.moment) rounds
  pub routers : AllByRecursion (λ (r : Round). r.at ≡ router) rounds
  pub links : AllByRecursion (λ (r : Round). r.link ≡ first_link) rounds
  pub numbers : AreNumbered 0 rounds

-- the bytes of replies, one after another
abbrev pub bytes_of : List ToLink → List ℕ
bytes_of replies = flat_map (λ (t : ToLink). t.bytes) replies

-- what is put for the answers that were given since the first world, in order
abbrev pub puts_since : (first w : World) → List ToLink
puts_since first w = puts_given (drop (length first.answered) w.answered)
