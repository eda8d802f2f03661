-- What each code means: its number and its name.
use Rattle.base_model.specs.Errors.{ErrorCode, bad_value, failed_to_parse, type_mismatch, overflow, illegal_operation, invalid_bson, path_not_viable, cursor_not_found, max_time_expired, command_not_found, shard_key_not_found, immutable_field, shard_not_found, invalid_options, invalid_namespace, shutdown_in_progress, operation_failed, write_conflict, conflicting_operation, namespace_not_sharded, exceeded_memory_limit, zone_not_found, range_overlap_conflict, transaction_too_old, snapshot_too_old, change_stream_history_lost, query_exceeded_memory, object_too_large, duplicate_key, stale_config}
use Rattle.cluster_base.specs.declared.code.Code.{Code}
use Rattle.cluster_base.specs.declared.code.Code.TheVariants.{BadValue, FailedToParse, TypeMismatch, Overflow, IllegalOperation, InvalidBson, PathNotViable, CursorNotFound, MaxTimeExpired, CommandNotFound, ShardKeyNotFound, ImmutableField, ShardNotFound, InvalidOptions, InvalidNamespace, ShutdownInProgress, OperationFailed, WriteConflict, ConflictingOperation, NamespaceNotSharded, ExceededMemoryLimit, ZoneNotFound, RangeOverlapConflict, TransactionTooOld, SnapshotTooOld, ChangeStreamHistoryLost, QueryExceededMemory, ObjectTooLarge, DuplicateKey, StaleConfig}

abbrev pub meaning_of : Code → ErrorCode
meaning_of BadValue = bad_value
meaning_of FailedToParse = failed_to_parse
meaning_of TypeMismatch = type_mismatch
meaning_of Overflow = overflow
meaning_of IllegalOperation = illegal_operation
meaning_of InvalidBson = invalid_bson
meaning_of PathNotViable = path_not_viable
meaning_of CursorNotFound = cursor_not_found
meaning_of MaxTimeExpired = max_time_expired
meaning_of CommandNotFound = command_not_found
meaning_of ShardKeyNotFound = shard_key_not_found
meaning_of ImmutableField = immutable_field
meaning_of ShardNotFound = shard_not_found
meaning_of InvalidOptions = invalid_options
meaning_of InvalidNamespace = invalid_namespace
meaning_of ShutdownInProgress = shutdown_in_progress
meaning_of OperationFailed = operation_failed
meaning_of WriteConflict = write_conflict
meaning_of ConflictingOperation = conflicting_operation
meaning_of NamespaceNotSharded = namespace_not_sharded
meaning_of ExceededMemoryLimit = exceeded_memory_limit
meaning_of ZoneNotFound = zone_not_found
meaning_of RangeOverlapConflict = range_overlap_conflict
meaning_of TransactionTooOld = transaction_too_old
meaning_of SnapshotTooOld = snapshot_too_old
meaning_of ChangeStreamHistoryLost = change_stream_history_lost
meaning_of QueryExceededMemory = query_exceeded_memory
meaning_of ObjectTooLarge = object_too_large
meaning_of DuplicateKey = duplicate_key
meaning_of StaleConfig = stale_config
