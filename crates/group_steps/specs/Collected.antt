-- Steps that are taken in memory, and a log that collects the records which they write (own).
use Rattle.std.specs.Prelude.{◌≡◌, ℕ, ◌+◌, ◌≤◌, List, length, true}
use Rattle.outside.specs.Logs.{LogFacts}
use Rattle.node_model.specs.Journal.{Kept}
use Rattle.node_model.specs.States.{NodeState}
use Rattle.node_traits.specs.Effects.{spellings}
use Rattle.node_traits.specs.declared.outputs.NotTaken.{NotTaken}
use Rattle.node_traits.specs.declared.outputs.NotTaken.TheVariants.{Disk as disk_of_step, Steps, Memory as memory_of_step}
use Rattle.group_steps.specs.Groups.{Leads, Part}
use Rattle.group_steps.specs.declared.fault.GroupFault.{GroupFault}
use Rattle.group_steps.specs.declared.fault.GroupFault.TheVariants.{Disk, Memory}

-- these steps lead from one state of a node, which has taken so many, to another, where it has taken no fewer than these too; and these are the records that
-- they write
pub record Collects (old : NodeState) (before : ℕ) (parts : List Part) (records : List (List ℕ)) (new : NodeState) (after : ℕ) : Type 0 where
  pub written : List Kept
  pub leads : Leads old before parts written new
  pub counted : before + length parts ≤ after
  pub spelled : records ≡ spellings written

-- what contracts say about a log in memory: records can always be appended, and of openings and crashes nothing is said
abbrev pub collected_facts : {C : Type 0} → (C → List (List ℕ)) → (moment : C → ℕ) → (place : C → List ℕ) → LogFacts C
collected_facts records moment place = record {
  tells = true;
  records = records;
  is_open = λ c. true;
  holds = λ c found. Unit {0};
  finds = λ file found. Unit {0};
  moment = moment;
  left_at = λ c t file. ⊥;
  fault_count = λ c. 0;
  place = place;
}

-- the fault of an append, as that of a group
abbrev pub fault_of : NotTaken → GroupFault
fault_of (disk_of_step faults) = Disk faults
fault_of Steps = Memory
fault_of memory_of_step = Memory
