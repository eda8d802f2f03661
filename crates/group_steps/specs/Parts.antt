-- Steps of the program, by the definitions (own).
use Rattle.std.specs.Prelude.{◌≡◌, ℕ, List, [], ◌∷◌, ◌++◌, map, Option, Some, None}
use Rattle.std.specs.List.{AllByRecursion, slice_get}
use Rattle.node_model.specs.Letters.{Letter, Input}
use Rattle.node_model.specs.States.{NodeState}
use Rattle.node_model.specs.World.{World}
use Rattle.outside.specs.Logs.{LogFacts}
use Rattle.node_traits.specs.declared.outputs.NotTaken.{NotTaken}
use Rattle.driver_steps.specs.Crashes.{Since}
use Rattle.driver_steps.specs.OneSeat.{StandsAt}
use Rattle.driver_steps.specs.Seats.{seat_since}
use Rattle.driver_steps.specs.declared.seat.Seat.{Seat}
use Rattle.group_steps.specs.Groups as groups
use Rattle.group_steps.specs.Groups.{BreaksAll}
use Rattle.group_steps.specs.declared.fault.GroupFault.{GroupFault}
use Rattle.group_steps.specs.declared.fault.GroupFault.TheVariants.{Disk, Memory}
use Rattle.group_steps.specs.declared.group.Part.{Part}

abbrev pub part_of : {M I : Type 0} → (M → Letter) → (I → Input) → Part M I → groups.Part
part_of letter meaning p = record { input = meaning p.input.value; mail = map letter p.outputs.mail; replies = p.outputs.replies }

abbrev pub parts_of : {M I : Type 0} → (M → Letter) → (I → Input) → List (Part M I) → List groups.Part
parts_of letter meaning parts = map (part_of letter meaning) parts

abbrev pub Among : {A : Type 0} → A → List A → Type 0
Among x all = (which : ℕ) × (slice_get all which ≡ Some x)

-- each step was taken on one of these inputs
abbrev pub AreOn : {M I : Type 0} → (inputs : List I) → List (Part M I) → Type 0
AreOn inputs parts = AllByRecursion (λ p. Among p.input.value inputs) parts

-- these inputs are left of others, the last of them
abbrev pub AreLeft : {I : Type 0} → (inputs left : List I) → Type 0
AreLeft {I} inputs left = (front : List I) × (inputs ≡ front ++ left)

-- one input where a step was not taken, else none
abbrev pub IsLost : {I : Type 0} → Option NotTaken → (lost : List I) → Type 0
IsLost None lost = lost ≡ []
IsLost {I} (Some fault) lost = (input : I) × (lost ≡ input ∷ [])

-- These steps were taken on the first of the inputs, in order; the next one was lost where the step on it was not taken; and the others are left.
abbrev pub AreTakenOut : {M I : Type 0} → (inputs : List I) → List (Part M I) → Option NotTaken → (left : List I) → Type 0
AreTakenOut {M} {I} inputs parts fault left = (lost : List I) × IsLost fault lost × (inputs ≡ map (λ p. p.input.value) parts ++ (lost ++ left))

-- one fact where a disk failed, with its count of faults, and another where memory ran out
abbrev pub ByGroupFault : GroupFault → (ℕ → Type 0) → Type 0 → Type 0
ByGroupFault (Disk faults) failed unchanged = failed faults
ByGroupFault Memory failed unchanged = unchanged

-- The node took steps on some of the inputs in memory, and their records could not be appended: all of them are stored, or none is.
pub record AreBroken {N L I : Type 0} (state : N → NodeState) (steps : N → ℕ) (facts : LogFacts L) (meaning : I → Input) (inputs : List I) (old new : Seat N L)
    : Type 0 where
  pub parts : List groups.Part
  pub on : AllByRecursion (λ (p : groups.Part). Among p.input (map meaning inputs)) parts
  pub breaks : (since : Since L) (w : World) (at : ℕ) → StandsAt (seat_since state steps facts since old) w at
      → BreaksAll (seat_since state steps facts since new) w at parts
