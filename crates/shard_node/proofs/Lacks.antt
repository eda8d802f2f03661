-- What is told of a step that was not taken, of the shard before it.
use Rattle.std.proofs.Common.{◌≡◌, ℕ, sym, subst}
use Rattle.std.specs.Prelude.{Option}
use Rattle.node_traits.specs.Letters.{Input}
use Rattle.node_traits.specs.States.{NodeState}
use Rattle.node_traits.specs.declared.outputs.StepFault.{StepFault}
use Rattle.protocol_model.specs.Missed.{IsAsked, TellsMissed}
use Rattle.protocol_model.specs.declared.message.Message.{Message}
use Rattle.protocol_model.specs.declared.not_taken.Asked.{Asked}

pub tells_before : (s t : NodeState) (i : Input) (steps count : ℕ) (asked : Option Asked) (fault shown : StepFault Message) → s ≡ t → steps ≡ count
    → shown ≡ fault → IsAsked t i asked → ((i : Input) → IsAsked s i asked → TellsMissed s i steps fault) → TellsMissed t i count shown
tells_before s t i steps count asked fault shown same counted is asks told =
    let here : IsAsked t i asked → TellsMissed t i steps fault = subst (λ x. IsAsked x i asked → TellsMissed x i steps fault) same (told i) in
    subst (λ f. TellsMissed t i count f) (sym is) (subst (λ n. TellsMissed t i n fault) counted (here asks))
