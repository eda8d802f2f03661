-- What is told of a step that was not taken, of the router before it.
use Rattle.std.proofs.Common.{◌≡◌, ℕ, sym, subst}
use Rattle.node_model.specs.Letters.{Input}
use Rattle.node_model.specs.States.{NodeState}
use Rattle.node_traits.specs.declared.outputs.StepFault.{StepFault}
use Rattle.protocol_model.specs.Missed.{TellsMissed}
use Rattle.protocol_model.specs.declared.message.Message.{Message}

pub tells_before : (s t : NodeState) (i : Input) (steps count : ℕ) (fault shown : StepFault Message) → s ≡ t → steps ≡ count → shown ≡ fault
    → ((i : Input) → TellsMissed s i steps fault) → TellsMissed t i count shown
tells_before s t i steps count fault shown same counted is told =
    subst (λ f. TellsMissed t i count f) (sym is)
    (subst (λ n. TellsMissed t i n fault) counted (subst (λ x. TellsMissed x i steps fault) same (told i)))
