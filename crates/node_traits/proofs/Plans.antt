-- A planned step is taken where its records were appended, and is broken off where a disk failed.
use Rattle.std.proofs.Common.{◌≡◌, ℕ, List, subst}
use Rattle.node_traits.specs.Calls.{LogCall, Appended, LeftOff}
use Rattle.node_traits.specs.Effects.{StepPlanned, StepDone, StepBroken}
use Rattle.node_traits.specs.Letters.{Letter, Input}
use Rattle.node_traits.specs.States.{NodeState}
use Rattle.node_traits.specs.declared.outputs.ToLink.{ToLink}

pub planned_done : (old new : NodeState) (input : Input) (mail : List Letter) (replies : List ToLink) (records : List (List ℕ)) (call : LogCall)
    → StepPlanned old input mail replies records new → Appended call records → StepDone old input mail replies call new
planned_done old new input mail replies records call plan appended = record {
  effect = plan.effect;
  step = plan.step;
  sent = plan.sent;
  told = plan.told;
  readable = plan.readable;
  kept = subst (λ r. Appended call r) plan.spelled appended;
}

pub planned_broken : (old new : NodeState) (input : Input) (mail : List Letter) (replies : List ToLink) (records : List (List ℕ)) (call : LogCall)
    → StepPlanned old input mail replies records new → LeftOff call records → StepBroken old input call
planned_broken old new input mail replies records call plan left = record {
  effect = plan.effect;
  new = new;
  step = plan.step;
  readable = plan.readable;
  left = subst (λ r. LeftOff call r) plan.spelled left;
}
