-- What a node returns of a step that it did not take.
use Rattle.std.specs.Prelude.{◌≡◌, ℕ, List, [], ◌∷◌, map, Option, Some, None}
use Rattle.reply_model.specs.Accounts.{Lack}
use Rattle.node_model.specs.Lacks.{misses, refusal_to}
use Rattle.node_model.specs.Letters.{Letter, Input}
use Rattle.node_model.specs.States.{NodeState, time_of_node}
use Rattle.node_model.specs.Steps.{number_of}
use Rattle.node_traits.specs.Faults.{ByStepFault, StepMissed}
use Rattle.node_traits.specs.declared.outputs.StepFault.{StepFault}
use Rattle.protocol_model.specs.Messages.{letter_of}
use Rattle.protocol_model.specs.Refusals.{about_view}
use Rattle.protocol_model.specs.declared.message.Message.{Message}
use Rattle.protocol_model.specs.declared.not_taken.Asked.{Asked}

-- the refusal of what was requested, if something was
abbrev pub refusals : (me time : ℕ) → Lack → Option Asked → List Letter
refusals me time lack None = []
refusals me time lack (Some asked) = refusal_to me time asked.sender.0 (about_view asked.about) lack ∷ []

-- An input requests this of a node, or nothing: that is refused where it takes no step on it.
abbrev pub IsAsked : NodeState → Input → Option Asked → Type 0
IsAsked s i asked = (lack : Lack) → (misses s lack i).mail ≡ refusals (number_of s) (time_of_node s) lack asked

-- What is returned of a step that was not taken: the refusal of what was requested, and no reply.
abbrev pub Refuses : (me time steps : ℕ) → Option Asked → StepFault Message → Type 0
Refuses me time steps asked fault =
    ByStepFault steps fault (λ faults. Unit {0}) (λ lack told. (map letter_of told.mail ≡ refusals me time lack asked) × (told.replies ≡ []))

-- what is returned is what the definitions return where the node takes no step on the input
abbrev pub TellsMissed : NodeState → Input → (steps : ℕ) → StepFault Message → Type 0
TellsMissed s i steps fault =
    ByStepFault steps fault (λ faults. Unit {0}) (λ lack told. StepMissed s i lack (map letter_of told.mail) told.replies)
