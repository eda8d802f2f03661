-- What the records of a journal store: a shard's its entries, and the catalogue's the collections that were created.
use Rattle.std.specs.Prelude.{◌≡◌, ℕ, ℤ, pos, List, [], ◌∷◌, Option, Some, None, if◌then◌else◌}
use Rattle.std.specs.Ordering.{int_eq}
use Rattle.base_model.specs.Errors.{ErrorCode, bad_value, failed_to_parse, type_mismatch, overflow, illegal_operation, invalid_bson, path_not_viable, cursor_not_found, max_time_expired, command_not_found, shard_key_not_found, immutable_field, shard_not_found, invalid_options, invalid_namespace, shutdown_in_progress, operation_failed, write_conflict, conflicting_operation, namespace_not_sharded, exceeded_memory_limit, zone_not_found, range_overlap_conflict, transaction_too_old, snapshot_too_old, change_stream_history_lost, query_exceeded_memory, object_too_large, duplicate_key, stale_config}
use Rattle.history_model.specs.History.{Entry}
use Rattle.chunk_model.specs.Catalogue.{Creation}
use Rattle.record_model.specs.Records.{EntryWords, Record, entry_record, create_record, code_of, record_of}

-- the errors that a reply may have (MongoDB manual, "Error Codes")
abbrev pub known_errors : List ErrorCode
known_errors =
    bad_value ∷ failed_to_parse ∷ type_mismatch ∷ overflow ∷ illegal_operation ∷ invalid_bson ∷ path_not_viable ∷ cursor_not_found
    ∷ max_time_expired ∷ command_not_found ∷ shard_key_not_found ∷ immutable_field ∷ shard_not_found ∷ invalid_options
    ∷ invalid_namespace ∷ shutdown_in_progress ∷ operation_failed ∷ write_conflict ∷ conflicting_operation ∷ namespace_not_sharded
    ∷ exceeded_memory_limit ∷ zone_not_found ∷ range_overlap_conflict ∷ transaction_too_old ∷ snapshot_too_old ∷ change_stream_history_lost ∷ query_exceeded_memory ∷ object_too_large
    ∷ duplicate_key ∷ stale_config ∷ []

-- the first error of that number
abbrev pub error_among : List ErrorCode → ℤ → Option ErrorCode
error_among [] code = None
error_among (error ∷ errors) code = if int_eq (pos error.number) code then Some error else error_among errors code

-- an error, if any, is one of these
abbrev pub IsKnown : Option ErrorCode → Type 0
IsKnown error = error ≡ error_among known_errors (code_of error)

-- the record stores the entry, of this shard
pub record Keeps (shard : ℕ) (w : EntryWords) (e : Entry) : Type 0 where
  pub own : record_of e ≡ entry_record w
  pub place : e.shard ≡ shard
  pub error : e.outcome.error ≡ error_among known_errors w.outcome.code

-- the records keep these entries of a shard, in order
abbrev pub KeepEntries : ℕ → List Record → List Entry → Type 0
KeepEntries shard [] entries = entries ≡ []
KeepEntries shard (entry_record w ∷ records) entries = (e : Entry) × (later : List Entry) × (entries ≡ e ∷ later) × Keeps shard w e × KeepEntries shard records later
KeepEntries shard (other ∷ records) entries = KeepEntries shard records entries

-- the collections that were created, in order
abbrev pub creates_of : List Record → List Creation
creates_of [] = []
creates_of (create_record c ∷ records) = c ∷ creates_of records
creates_of (other ∷ records) = creates_of records
