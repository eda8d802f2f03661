-- Steps of a node that are taken one after another in memory, and whose records are then appended at once (own).
use Rattle.std.specs.Prelude.{◌≡◌, ◌⊎◌, ℕ, ◌+◌, List, [], ◌∷◌, ◌++◌, false, Some}
use Rattle.std.specs.List.{slice_get}
use Rattle.node_model.specs.Journal.{Kept}
use Rattle.node_model.specs.Letters.{Letter, Input, Effect}
use Rattle.node_model.specs.Lacks.{is_last}
use Rattle.node_model.specs.States.{NodeState}
use Rattle.node_model.specs.Steps.{Step}
use Rattle.node_model.specs.World.{Held, World, Moves}
use Rattle.node_traits.specs.Effects.{AreReadable, puts_of}
use Rattle.node_traits.specs.declared.outputs.ToLink.{ToLink}
use Rattle.driver_steps.specs.Crashes.{LeadsTo}
use Rattle.driver_steps.specs.Seats.{SeatView, IsHeld, Keeps}

-- a step: its input, its messages and its replies
pub record Part : Type 0 where
  pub input : Input
  pub mail : List Letter
  pub replies : List ToLink

-- these steps lead from one state of a node, which has taken so many, to another, and write this; none of them is its last one
pub data Leads : NodeState → (steps : ℕ) → List Part → (written : List Kept) → NodeState → Type 0 where
  leads_nowhere : (s : NodeState) (n : ℕ) → Leads s n [] [] s
  leads_on : (s t u : NodeState) (n : ℕ) (p : Part) (parts : List Part) (f : Effect) (written : List Kept) → is_last n s p.input ≡ false → Step s p.input f t
      → f.mail ≡ p.mail → p.replies ≡ puts_of f.replies → AreReadable f.written → Leads t (n + 1) parts written u
      → Leads s n (p ∷ parts) (f.written ++ written) u

-- the node at a place of a world takes these steps, one after another, whichever events they are, and gives out these messages and replies
pub data MovesAll (at : ℕ) : World → List Part → World → Type 0 where
  moves_none : (w : World) → MovesAll at w [] w
  moves_on : (u v w : World) (p : Part) (parts : List Part) (m : Moves u at p.input v) → m.f.mail ≡ p.mail → p.replies ≡ puts_of m.f.replies
      → MovesAll at v parts w → MovesAll at u (p ∷ parts) w

-- The node at a place took these steps, and its log stores what its journal stores after them.
pub record TakesAll (seat : SeatView) (before : World) (at : ℕ) (parts : List Part) : Type 0 where
  pub end : World
  pub moves : MovesAll at before parts end
  pub held : Held
  pub here : slice_get end.nodes at ≡ Some held
  pub is : IsHeld seat held
  pub crashes : LeadsTo before end → seat.leaves at end

-- The records of the steps could not be appended: the log stores what it stores after all of them (`last`), or what it stored before. A crash meanwhile may
-- have left either.
pub record BreaksAll (seat : SeatView) (before : World) (at : ℕ) (parts : List Part) : Type 0 where
  pub end : World
  pub last : World
  pub which : (end ≡ before) ⊎ (end ≡ last)
  pub moves : MovesAll at before parts last
  pub held : Held
  pub here : slice_get end.nodes at ≡ Some held
  pub keeps : Keeps seat held.kept
  pub crashes : LeadsTo before last → seat.leaves at last
