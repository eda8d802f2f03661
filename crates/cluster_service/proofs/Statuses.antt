-- Each status has a number of its own.
use Rattle.std.specs.Prelude.{◌≡◌, ◌≢◌, ◌⊎◌, ℕ, Some}
use Rattle.std.proofs.Common.{refl, ap, sym, inl, inr, ◌∙◌}
use Rattle.cluster_service.specs.Statuses.{number_of, with_number}
use Rattle.cluster_service.specs.declared.status.Status.{Status}
use Rattle.cluster_service.specs.declared.status.Status.TheVariants.{InputEnded, BadArguments, ReadFailed, WriteFailed, DiskFailed, DamagedJournal}
use Rattle.cluster_service.specs.declared.status.Status.TheVariants.{OutOfMemory, AcceptFailed, BadInput, InputTooLong}

pub number_is_its : (status : Status) → with_number (number_of status) ≡ Some status
number_is_its InputEnded = refl
number_is_its BadArguments = refl
number_is_its ReadFailed = refl
number_is_its WriteFailed = refl
number_is_its DiskFailed = refl
number_is_its DamagedJournal = refl
number_is_its OutOfMemory = refl
number_is_its AcceptFailed = refl
number_is_its BadInput = refl
number_is_its InputTooLong = refl

-- two statuses with one number are one
pub same_status : (status other : Status) → number_of status ≡ number_of other → status ≡ other
same_status status other same =
    let both : Some status ≡ Some other = sym (number_is_its status) ∙ ap with_number same ∙ number_is_its other in
    cc

-- the status with this number
pub is_status : (known status : Status) (number : ℕ) → number ≡ number_of status → number ≡ number_of known → status ≡ known
is_status known status number is same = same_status status known (sym is ∙ same)

pub has_number : (known status : Status) (number : ℕ) → number ≡ number_of status → status ≡ known → number ≡ number_of known
has_number known status number is same = is ∙ ap number_of same

-- one of two statuses
pub one_of_two : (a b status : Status) (number : ℕ) → number ≡ number_of status → (status ≡ a) ⊎ (status ≡ b) → (number ≡ number_of a) ⊎ (number ≡ number_of b)
one_of_two a b status number is (inl first) = inl (has_number a status number is first)
one_of_two a b status number is (inr second) = inr (has_number b status number is second)

pub refused_number : (status : Status) (number : ℕ) → number ≡ number_of status
    → (status ≡ DamagedJournal) ⊎ ((status ≡ DiskFailed) ⊎ (status ≡ OutOfMemory)) → (number ≡ 6) ⊎ ((number ≡ 5) ⊎ (number ≡ 7))
refused_number status number is (inl damaged) = inl (has_number DamagedJournal status number is damaged)
refused_number status number is (inr other) = inr (one_of_two DiskFailed OutOfMemory status number is other)

pub refused_or_damaged : (status : Status) (number : ℕ) → number ≡ number_of status → status ≢ BadArguments → (number ≡ 2) ⊎ (number ≡ 6)
    → status ≡ DamagedJournal
refused_or_damaged status number is other (inl two) = absurd (other (is_status BadArguments status number is two))
refused_or_damaged status number is other (inr six) = is_status DamagedJournal status number is six

-- all is durable, or nothing was begun
pub durable_number : (status : Status) (number : ℕ) → number ≡ number_of status → (durable begun : Type 0)
    → durable ⊎ (((status ≡ DamagedJournal) ⊎ (status ≡ OutOfMemory)) × begun) → durable ⊎ (((number ≡ 6) ⊎ (number ≡ 7)) × begun)
durable_number status number is durable begun (inl all) = inl all
durable_number status number is durable begun (inr (why, none)) = inr (one_of_two DamagedJournal OutOfMemory status number is why, none)
