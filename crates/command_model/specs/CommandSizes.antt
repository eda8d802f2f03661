-- How large the documents of commands and answers are. A message has at most 48,000,000 bytes, and a write at most 100,000
-- statements (MongoDB manual, "MongoDB Limits and Thresholds").
use Rattle.std.specs.Prelude.{◌≡◌, ◌<◌, ◌≤◌, ◌+◌, ◌^◌, ℕ, List, [], ◌∷◌, length, Some, Result, Ok, Err, codes}
use Rattle.std.specs.List.{AllByRecursion}
use Rattle.bson_model.specs.Tree.{Datum, no_fields, field, value_depth}
use Rattle.opmsg_model.specs.MessageSizes.{IsSmall, IsWithin}
use Rattle.base_model.specs.Refusals.{Evidence, tries_evidence, Refusal}
use Rattle.bson_model.specs.Spelling.{written_value}
use Rattle.query_model.specs.Writes.{Write}
use Rattle.query_model.specs.Effects.{write_key}
use Rattle.history_model.specs.History.{Operation, insert_operation, update_operation, delete_operation, read_operation}
use Rattle.command_model.specs.Writes.{Upserted, WriteCommand, WriteError, WriteSummary}
use Rattle.command_model.specs.Answers.{Answer, hello_answer, legacy_answer, done_answer, write_answer, first_answer, next_answer, count_answer, killed_answer, sharded_answer, changed_answer, refusal_answer}
use Rattle.command_model.specs.Command.{Command, hello_command, legacy_command, ping_command, end_sessions_command, write_command, find_command, count_command, more_command, kill_command, shard_collection_command, split_command}
use Rattle.command_model.specs.CommandLimits.{most_statements, most_bytes_upserted, most_cursors}
use Rattle.command_model.specs.Cursors.{Batch}
use Rattle.pipeline_model.specs.Batches as batches
use Rattle.bson_model.specs.Limits.{most_bytes_kept}

-- the documents of an operation are small
abbrev pub AreSmallWords : Operation → Type 0
AreSmallWords (insert_operation document) = IsSmall document
AreSmallWords (update_operation filter words upsert) = IsSmall filter × IsSmall words
AreSmallWords (delete_operation filter) = IsSmall filter

-- an operation that may be stored is a write, under a key
pub record IsKeepable (operation : Operation) : Type 0 where
  pub small : AreSmallWords operation
  pub write : Write
  pub reads : read_operation operation ≡ Ok write
  pub key : Datum
  pub under : write_key write ≡ Some key

-- few statements, each of which may be stored
abbrev pub IsSmallWrite : WriteCommand → Type 0
IsSmallWrite command = (length command.operations ≤ most_statements) × AllByRecursion IsKeepable command.operations

abbrev pub IsSmallCommand : Command → Type 0
IsSmallCommand hello_command = Unit {0}
IsSmallCommand (legacy_command legacy) = Unit {0}
IsSmallCommand ping_command = Unit {0}
IsSmallCommand end_sessions_command = Unit {0}
IsSmallCommand (write_command command) = IsSmallWrite command
IsSmallCommand (find_command find) = Unit {0}
IsSmallCommand (count_command reading) = Unit {0}
IsSmallCommand (more_command more) = Unit {0}
IsSmallCommand (kill_command kill) = Unit {0}
IsSmallCommand (shard_collection_command namespace) = Unit {0}
IsSmallCommand (split_command split) = IsSmall (field (codes "_id") split.middle no_fields)

-- at most ten tries are shown; other evidence is always short
abbrev pub IsSmallEvidence : Evidence → Type 0
IsSmallEvidence (tries_evidence tries) = length tries ≤ 10
IsSmallEvidence _ = Unit {0}

-- the error's name is short, and the evidence
abbrev pub IsSmallRefusal : Refusal → Type 0
IsSmallRefusal refusal = (length refusal.error.name ≤ 100) × IsSmallEvidence refusal.evidence

-- an error that a statement can have
abbrev pub IsSmallError : WriteError → Type 0
IsSmallError e = (e.index < most_statements) × IsSmallRefusal e.refusal

-- the command of a request is small, or its refusal
abbrev pub IsTaken : Result Command Refusal → Type 0
IsTaken (Ok command) = IsSmallCommand command
IsTaken (Err refusal) = IsSmallRefusal refusal

-- the number of bytes of keys
abbrev pub keys_length : List Upserted → ℕ
keys_length [] = 0
keys_length (u ∷ upserted) = length (written_value u.key) + keys_length upserted

-- few errors and few keys, which are short together
pub record IsSmallSummary (told : WriteSummary) : Type 0 where
  pub few : length told.errors ≤ most_statements
  pub short : AllByRecursion IsSmallError told.errors
  pub few_keys : length told.upserted ≤ most_statements
  pub flat : AllByRecursion (λ (u : Upserted). (u.index < most_statements) × (value_depth u.key ≡ 0)) told.upserted
  pub short_keys : keys_length told.upserted ≤ most_bytes_upserted

-- a batch of few bytes, or of one document, each within 101 levels and the size of a stored document
pub record IsSmallBatch (batch : Batch) : Type 0 where
  pub name : length batch.namespace ≤ 255
  pub bytes : batches.IsSmall batch.documents
  pub each : AllByRecursion (IsWithin 101 most_bytes_kept) batch.documents

-- a small answer
abbrev pub IsSmallAnswer : Answer → Type 0
IsSmallAnswer (hello_answer moment) = Unit {0}
IsSmallAnswer (legacy_answer moment shown) = Unit {0}
IsSmallAnswer done_answer = Unit {0}
IsSmallAnswer (write_answer kind told) = IsSmallSummary told
IsSmallAnswer (first_answer batch) = IsSmallBatch batch
IsSmallAnswer (next_answer batch) = IsSmallBatch batch
IsSmallAnswer (count_answer n time) = n < 2 ^ 63
IsSmallAnswer (killed_answer killed missing) = length killed + length missing ≤ most_cursors
IsSmallAnswer (sharded_answer namespace time) = length namespace ≤ 255
IsSmallAnswer (changed_answer time) = Unit {0}
IsSmallAnswer (refusal_answer refusal) = IsSmallRefusal refusal
