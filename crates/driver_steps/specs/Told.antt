-- What is returned of a step that is not taken, as drivers take it (own).
use Rattle.std.specs.Prelude.{Result, Ok, Err}
use Rattle.node_traits.specs.Faults.{cause_of}
use Rattle.node_traits.specs.declared.outputs.NotTaken.{NotTaken}
use Rattle.node_traits.specs.declared.outputs.Outputs.{Outputs}
use Rattle.node_traits.specs.declared.outputs.StepFault.{StepFault}
use Rattle.node_traits.specs.declared.outputs.StepFault.TheVariants.{Disk as disk_failed, Steps as at_last_step, Memory as out_of_memory}

-- the result of a step, where it was not taken only why
abbrev pub by_cause : {X M : Type 0} → Result X (StepFault M) → Result X NotTaken
by_cause (Ok x) = Ok x
by_cause (Err fault) = Err (cause_of fault)

-- this holds of what is returned where a step was not taken, but where a disk failed
abbrev pub OfTold : {M : Type 0} → StepFault M → (Outputs M → Type 0) → Type 0
OfTold (disk_failed faults) P = Unit {0}
OfTold (at_last_step told) P = P told
OfTold (out_of_memory told) P = P told
