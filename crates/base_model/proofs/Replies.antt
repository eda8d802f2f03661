-- The times that replies have.
use Rattle.std.proofs.Common.{◌≡◌, refl}
use Rattle.std.specs.Prelude.{Some, None}
use Rattle.base_model.specs.Errors.{ErrorCode}
use Rattle.base_model.specs.Refusals.{Evidence, Refusal, no_evidence, place_evidence, greatest_evidence, cursor_evidence, moments_evidence, disk_evidence, steps_evidence, node_evidence, number_evidence, oldest_evidence, bytes_evidence, tries_evidence}
use Rattle.base_model.specs.ReplyParts.{refusal_reply, operation_time}

refusal_time : (error : ErrorCode) (evidence : Evidence) → operation_time (Some (refusal_reply (record { error = error; evidence = evidence }))) ≡ None
refusal_time error no_evidence = refl
refusal_time error (place_evidence place) = refl
refusal_time error (greatest_evidence time) = refl
refusal_time error (cursor_evidence cursor) = refl
refusal_time error (moments_evidence arrived now) = refl
refusal_time error (disk_evidence node faults) = refl
refusal_time error (steps_evidence node steps) = refl
refusal_time error (node_evidence node) = refl
refusal_time error (number_evidence number) = refl
refusal_time error (oldest_evidence time) = refl
refusal_time error (bytes_evidence bytes) = refl
refusal_time error (tries_evidence tries) = refl

pub time_of_refusal : (refusal : Refusal) → operation_time (Some (refusal_reply refusal)) ≡ None
time_of_refusal refusal = refusal_time refusal.error refusal.evidence
