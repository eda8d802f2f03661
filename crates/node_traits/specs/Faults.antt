-- Steps that are not taken, and what is returned of them.
use Rattle.std.specs.Prelude.{◌≡◌, ℕ, List, []}
use Rattle.reply_model.specs.Accounts.{Lack, no_memory, no_steps}
use Rattle.node_model.specs.Lacks.{misses}
use Rattle.node_model.specs.Letters.{Letter, Input}
use Rattle.node_model.specs.States.{NodeState}
use Rattle.node_traits.specs.declared.outputs.NotTaken.{NotTaken}
use Rattle.node_traits.specs.declared.outputs.NotTaken.TheVariants.{Disk, Steps, Memory}
use Rattle.node_traits.specs.declared.outputs.Outputs.{Outputs}
use Rattle.node_traits.specs.declared.outputs.StepFault.{StepFault}
use Rattle.node_traits.specs.declared.outputs.StepFault.TheVariants.{Disk as disk_failed, Steps as at_last_step, Memory as out_of_memory}
use Rattle.node_traits.specs.declared.outputs.ToLink.{ToLink}

-- why a step was not taken
abbrev pub cause_of : {M : Type 0} → StepFault M → NotTaken
cause_of (disk_failed faults) = Disk faults
cause_of (at_last_step told) = Steps
cause_of (out_of_memory told) = Memory

-- One thing holds where a disk failed, with its count of faults, and another of what is returned where a node that has taken so many steps takes none, for its
-- lack.
abbrev pub ByStepFault : {M : Type 0} → (steps : ℕ) → StepFault M → (ℕ → Type 0) → (Lack → Outputs M → Type 0) → Type 0
ByStepFault steps (disk_failed faults) failed missed = failed faults
ByStepFault steps (at_last_step told) failed missed = missed (no_steps steps) told
ByStepFault steps (out_of_memory told) failed missed = missed no_memory told

-- A node took no step on an input, for this lack: who sent it a request learns of the lack. A client whose request could not be taken is not answered yet.
pub record StepMissed (old : NodeState) (input : Input) (lack : Lack) (mail : List Letter) (replies : List ToLink) : Type 0 where
  pub sent : (misses old lack input).mail ≡ mail
  pub none : replies ≡ []
