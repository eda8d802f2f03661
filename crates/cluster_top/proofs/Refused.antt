-- The statuses of a run whose nodes were not opened.
use Rattle.std.specs.Prelude.{◌≡◌, ◌≢◌, ◌⊎◌, ℕ}
use Rattle.std.proofs.Common.{refl, sym, subst, inl, inr, ◌∙◌}
use Rattle.journal_replay.specs.declared.fault.OpenFault.{OpenFault}
use Rattle.journal_replay.specs.declared.fault.OpenFault.TheVariants.{Refused}
use Rattle.node_open.specs.Faults.{IfRefused}
use Rattle.cluster_service.specs.Servers.{IsServerEnd, at_disk, at_memory}
use Rattle.cluster_service.specs.Stops.{StopsOpening, at_opening_fault, at_damage, at_opening_memory}
use Rattle.cluster_service.specs.Statuses.{number_of}
use Rattle.cluster_service.specs.declared.status.Status.{Status}
use Rattle.cluster_service.specs.declared.status.Status.TheVariants as statuses
use Rattle.cluster_service.proofs.Statuses.{has_number, one_of_two, refused_number}

-- memory ran out
pub memory_of : (status : Status) → (status ≡ statuses.DamagedJournal) ⊎ (status ≡ statuses.OutOfMemory) → ¬ (status ≡ statuses.DamagedJournal)
    → status ≡ statuses.OutOfMemory
memory_of status (inl damaged) other = absurd (other damaged)
memory_of status (inr memory) other = memory

-- it is one of these two and no other
pub not_other : (known : Status) → statuses.DamagedJournal ≢ known → statuses.OutOfMemory ≢ known → (status told : Status) → told ≡ status
    → (status ≡ statuses.DamagedJournal) ⊎ (status ≡ statuses.OutOfMemory) → told ≢ known
not_other known one two status told same (inl damaged) = λ is. one (sym damaged ∙ (sym same ∙ is))
not_other known one two status told same (inr memory) = λ is. two (sym memory ∙ (sym same ∙ is))

-- so ends a server that was not started
pub unopened_end : (status told : Status) → told ≡ status → (status ≡ statuses.DamagedJournal) ⊎ (status ≡ statuses.OutOfMemory)
    → IsServerEnd told ⊎ (told ≡ statuses.DamagedJournal)
unopened_end status told same (inl damaged) = inr (same ∙ damaged)
unopened_end status told same (inr memory) = inl (subst (λ (s : Status). IsServerEnd s) (sym (same ∙ memory)) at_memory)

-- where a record was refused, what is said of that holds
pub refused_of : (fault : OpenFault) (holds : Type 0) → (index : ℕ) × (fault ≡ Refused index) → IfRefused fault holds → holds
refused_of fault holds (index, same) is = subst (λ (f : OpenFault). IfRefused f holds) same is

-- and one whose journals were not opened
pub stopped_end : (status : Status) → StopsOpening status → IsServerEnd status ⊎ (status ≡ statuses.DamagedJournal)
stopped_end status at_opening_fault = inl at_disk
stopped_end status at_damage = inr refl
stopped_end status at_opening_memory = inl at_memory

pub not_ended : (status : Status) → StopsOpening status → status ≢ statuses.InputEnded
not_ended status at_opening_fault = λ e. cc
not_ended status at_damage = λ e. cc
not_ended status at_opening_memory = λ e. cc

-- BY ITS NUMBER

pub server_refused : (status : Status) (number : ℕ) → number ≡ number_of status → (same : Type 0)
    → ((status ≡ statuses.DamagedJournal) ⊎ ((status ≡ statuses.DiskFailed) ⊎ (status ≡ statuses.OutOfMemory))) ⊎ ((status ≡ statuses.AcceptFailed) × same)
    → ((number ≡ 6) ⊎ ((number ≡ 5) ⊎ (number ≡ 7))) ⊎ ((number ≡ 8) × same)
server_refused status number is same (inl one) = inl (refused_number status number is one)
server_refused status number is same (inr (port, all)) = inr (has_number statuses.AcceptFailed status number is port, all)

pub server_durable : (status : Status) (number : ℕ) → number ≡ number_of status → (durable were begun same : Type 0) → (were → begun)
    → durable ⊎ ((((status ≡ statuses.DamagedJournal) ⊎ (status ≡ statuses.OutOfMemory)) × were) ⊎ ((status ≡ statuses.AcceptFailed) × same))
    → durable ⊎ ((((number ≡ 6) ⊎ (number ≡ 7)) × begun) ⊎ ((number ≡ 8) × same))
server_durable status number is durable were begun same so (inl all) = inl all
server_durable status number is durable were begun same so (inr (inl (why, none))) =
    inr (inl (one_of_two statuses.DamagedJournal statuses.OutOfMemory status number is why, so none))
server_durable status number is durable were begun same so (inr (inr (port, all))) = inr (inr (has_number statuses.AcceptFailed status number is port, all))

-- with no port
pub by_number : (durable begun other : Type 0) → durable ⊎ begun → durable ⊎ (begun ⊎ other)
by_number durable begun other (inl all) = inl all
by_number durable begun other (inr none) = inr (inl none)
