-- Messages that wait are delivered one after another, each once, in any order, and so is what is sent meanwhile (own).
use Rattle.std.specs.Prelude.{◌≡◌, ℕ, ◌+◌, List, ◌∷◌, ◌++◌, None}
use Rattle.std.specs.List.{AllByRecursion, slice_get}
use Rattle.history_model.specs.History.{IsIn}
use Rattle.node_model.specs.Letters.{Letter, letter_input}
use Rattle.node_model.specs.World.{World, Meets, deliver_event, Happens}

-- a world, and the messages that wait to be delivered in it
pub record Waiting : Type 0 where
  pub world : World
  pub letters : List Letter

-- each message that waits was sent
abbrev pub WereSent : Waiting → Type 0
WereSent x = AllByRecursion (λ (m : Letter). IsIn m x.world.sent) x.letters

-- a message is at some place among these, and those are the others
abbrev pub IsTaken : Letter → (letters others : List Letter) → Type 0
IsTaken m letters others = (front : List Letter) × (back : List Letter) × (letters ≡ front ++ m ∷ back) × (others ≡ front ++ back)

-- One of the messages that wait is delivered: its receiver takes a step, or misses it, and what that sends waits from then on. A message to no node is lost.
pub data Delivers : Waiting → Waiting → Type 0 where
  delivers_to : (w v : World) (letters others more : List Letter) (m : Letter) → IsTaken m letters others → Meets w m.receiver (letter_input m) v
      → v.sent ≡ w.sent ++ more → Delivers (record { world = w; letters = letters }) (record { world = v; letters = others ++ more })
  delivers_to_none : (w : World) (letters others : List Letter) (m : Letter) → IsTaken m letters others → slice_get w.nodes m.receiver ≡ None
      → Delivers (record { world = w; letters = letters }) (record { world = w; letters = others })

-- however deliveries go on, they come to an end: there is no endless chain of them
pub data Ends : Waiting → Type 0 where
  ends_after : (x : Waiting) → ((next : Waiting) → Delivers x next → Ends next) → Ends x

-- The same where messages are delivered in order of sending, each once, from a place among all that were sent, as in the schedule of `pipe` (`Delivers` of
-- node_model): it comes to an end.
pub data EndsInOrder : World → (next : ℕ) → Type 0 where
  ends_in_order : (w : World) (next : ℕ) → ((at : ℕ) (v : World) → Happens w (deliver_event at next) v → EndsInOrder v (next + 1)) → EndsInOrder w next
