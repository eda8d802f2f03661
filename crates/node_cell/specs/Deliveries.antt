-- Inputs that wait for a node, and the steps that were taken on them (own).
use Rattle.std.specs.Prelude.{◌≡◌, ℕ, List, [], ◌∷◌, ◌++◌}
use Rattle.std.specs.List.{AllByRecursion}
use Rattle.node_model.specs.Letters.{Letter, Input, letter_input}
use Rattle.group_steps.specs.declared.group.Part.{Part}
use Rattle.group_steps.specs.Parts.{Among}
use Rattle.node_cell.specs.declared.view.View.{View}
use Rattle.node_cell.specs.Standing.{AreSeen, AreTold, Handed, IsKnown, step_of}
use Rattle.node_cell.specs.Views.{next_number}

-- each input is one that the node at a place may be given
abbrev pub AreKnown : {I : Type 0} → (I → Input) → (routers : ℕ) → (seen : List Letter) → (at : ℕ) → List I → Type 0
AreKnown meaning routers seen at inputs = AllByRecursion (λ i. IsKnown routers seen at (meaning i)) inputs

-- the step with a number at a place was seen, with what it gave out
pub record IsSeen {N L M I : Type 0} (letter : M → Letter) (v : View N L M I) (number at : ℕ) (p : Part M I) : Type 0 where
  pub taken : Among (step_of number at p.input.value) v.taken
  pub mail : AreSeen letter v.seen p.outputs.mail
  pub replies : AreTold v.told number p.outputs.replies

-- so were these steps, of which the first has the number
abbrev pub AreSeenFrom : {N L M I : Type 0} → (M → Letter) → View N L M I → (number at : ℕ) → List (Part M I) → Type 0
AreSeenFrom letter v number at [] = Unit {0}
AreSeenFrom letter v number at (p ∷ parts) = IsSeen letter v number at p × AreSeenFrom letter v (next_number number) at parts

-- each step was taken on one of these inputs
abbrev pub AreStepsOn : {M I : Type 0} → (inputs : List I) → List (Handed M I) → Type 0
AreStepsOn inputs steps = AllByRecursion (λ s. Among s.taken.input inputs) steps

-- steps on these inputs were added
abbrev pub AreAdded : {M I : Type 0} → (inputs : List I) → (old new : List (Handed M I)) → Type 0
AreAdded {M} {I} inputs old new = (more : List (Handed M I)) × (new ≡ old ++ more) × AreStepsOn inputs more

-- the input delivers one of these messages
abbrev pub Delivers : {I : Type 0} → (I → Input) → (messages : List Letter) → I → Type 0
Delivers meaning messages i = (m : Letter) × Among m messages × (meaning i ≡ letter_input m)

-- each step is a delivery of one of these messages
abbrev pub AreDeliveries : {M I : Type 0} → (I → Input) → (messages : List Letter) → List (Handed M I) → Type 0
AreDeliveries meaning messages steps = AllByRecursion (λ s. Delivers meaning messages s.taken.input) steps
