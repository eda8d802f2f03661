-- The operation times that answers show.
use Rattle.std.proofs.Common.{◌≡◌, ℕ, List, [], ◌∷◌, refl}
use Rattle.std.specs.Prelude.{ℤ, Some, None, Bool, true, false}
use Rattle.base_model.specs.Refusals.{Refusal}
use Rattle.base_model.specs.ReplyParts.{operation_time}
use Rattle.base_model.proofs.Replies.{time_of_refusal}
use Rattle.command_model.specs.Writes.{WriteKind, insert_kind, update_kind, delete_kind, WriteError, Upserted, WriteSummary, write_errors_shown, upserted_shown}
use Rattle.command_model.specs.AnswerParts.{ok, operation_time_at}
use Rattle.command_model.specs.Cursors.{Batch}
use Rattle.command_model.specs.Answers.{hello_answer, legacy_answer, done_answer, write_answer, first_answer, next_answer, count_answer, killed_answer, sharded_answer, changed_answer, refusal_answer, answer_document}

behind_errors : (errors : List WriteError) (time : ℕ) → operation_time (Some (write_errors_shown errors (ok (operation_time_at time)))) ≡ Some time
behind_errors [] time = refl
behind_errors (e ∷ errors) time = refl

behind_upserted : (upserted : List Upserted) (errors : List WriteError) (time : ℕ) → operation_time (Some (upserted_shown upserted (write_errors_shown errors (ok (operation_time_at time))))) ≡ Some time
behind_upserted [] errors time = behind_errors errors time
behind_upserted (u ∷ upserted) errors time = behind_errors errors time

pub time_of_write : (kind : WriteKind) (told : WriteSummary) → operation_time (Some (answer_document (write_answer kind told))) ≡ Some told.time
time_of_write insert_kind told = behind_errors told.errors told.time
time_of_write update_kind told = behind_upserted told.upserted told.errors told.time
time_of_write delete_kind told = behind_errors told.errors told.time

pub time_of_first : (batch : Batch) → operation_time (Some (answer_document (first_answer batch))) ≡ Some batch.time
time_of_first batch = refl

pub time_of_next : (batch : Batch) → operation_time (Some (answer_document (next_answer batch))) ≡ Some batch.time
time_of_next batch = refl

pub time_of_count : (n time : ℕ) → operation_time (Some (answer_document (count_answer n time))) ≡ Some time
time_of_count n time = refl

pub time_of_killed : (killed missing : List ℤ) → operation_time (Some (answer_document (killed_answer killed missing))) ≡ None
time_of_killed killed missing = refl

pub time_of_sharded : (namespace : List ℕ) (time : ℕ) → operation_time (Some (answer_document (sharded_answer namespace time))) ≡ Some time
time_of_sharded namespace time = refl

pub time_of_changed : (time : ℕ) → operation_time (Some (answer_document (changed_answer time))) ≡ Some time
time_of_changed time = refl

pub time_of_hello : (moment : ℕ) → operation_time (Some (answer_document (hello_answer moment))) ≡ None
time_of_hello moment = refl

pub time_of_legacy : (moment : ℕ) (shown : Bool) → operation_time (Some (answer_document (legacy_answer moment shown))) ≡ None
time_of_legacy moment true = refl
time_of_legacy moment false = refl

pub time_of_done : operation_time (Some (answer_document done_answer)) ≡ None
time_of_done = refl

pub time_refused : (refusal : Refusal) → operation_time (Some (answer_document (refusal_answer refusal))) ≡ None
time_refused refusal = time_of_refusal refusal
