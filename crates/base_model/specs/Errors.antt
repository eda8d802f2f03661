-- The errors that a reply may have, each with its number and its name (MongoDB manual, "Error Codes").
use Rattle.std.specs.Prelude.{ℕ, List, codes}

pub record ErrorCode : Type 0 where
  pub number : ℕ
  pub name : List ℕ

abbrev pub bad_value : ErrorCode
bad_value = record { number = 2; name = codes "BadValue" }

abbrev pub failed_to_parse : ErrorCode
failed_to_parse = record { number = 9; name = codes "FailedToParse" }

abbrev pub type_mismatch : ErrorCode
type_mismatch = record { number = 14; name = codes "TypeMismatch" }

abbrev pub overflow : ErrorCode
overflow = record { number = 15; name = codes "Overflow" }

abbrev pub illegal_operation : ErrorCode
illegal_operation = record { number = 20; name = codes "IllegalOperation" }

abbrev pub invalid_bson : ErrorCode
invalid_bson = record { number = 22; name = codes "InvalidBSON" }

abbrev pub path_not_viable : ErrorCode
path_not_viable = record { number = 28; name = codes "PathNotViable" }

abbrev pub cursor_not_found : ErrorCode
cursor_not_found = record { number = 43; name = codes "CursorNotFound" }

abbrev pub max_time_expired : ErrorCode
max_time_expired = record { number = 50; name = codes "MaxTimeMSExpired" }

abbrev pub command_not_found : ErrorCode
command_not_found = record { number = 59; name = codes "CommandNotFound" }

abbrev pub shard_key_not_found : ErrorCode
shard_key_not_found = record { number = 61; name = codes "ShardKeyNotFound" }

abbrev pub immutable_field : ErrorCode
immutable_field = record { number = 66; name = codes "ImmutableField" }

abbrev pub shard_not_found : ErrorCode
shard_not_found = record { number = 70; name = codes "ShardNotFound" }

abbrev pub invalid_options : ErrorCode
invalid_options = record { number = 72; name = codes "InvalidOptions" }

abbrev pub invalid_namespace : ErrorCode
invalid_namespace = record { number = 73; name = codes "InvalidNamespace" }

abbrev pub shutdown_in_progress : ErrorCode
shutdown_in_progress = record { number = 91; name = codes "ShutdownInProgress" }

abbrev pub operation_failed : ErrorCode
operation_failed = record { number = 96; name = codes "OperationFailed" }

abbrev pub write_conflict : ErrorCode
write_conflict = record { number = 112; name = codes "WriteConflict" }

abbrev pub conflicting_operation : ErrorCode
conflicting_operation = record { number = 117; name = codes "ConflictingOperationInProgress" }

abbrev pub namespace_not_sharded : ErrorCode
namespace_not_sharded = record { number = 118; name = codes "NamespaceNotSharded" }

abbrev pub exceeded_memory_limit : ErrorCode
exceeded_memory_limit = record { number = 146; name = codes "ExceededMemoryLimit" }

abbrev pub zone_not_found : ErrorCode
zone_not_found = record { number = 177; name = codes "ZoneNotFound" }

abbrev pub range_overlap_conflict : ErrorCode
range_overlap_conflict = record { number = 178; name = codes "RangeOverlapConflict" }

abbrev pub transaction_too_old : ErrorCode
transaction_too_old = record { number = 225; name = codes "TransactionTooOld" }

abbrev pub snapshot_too_old : ErrorCode
snapshot_too_old = record { number = 239; name = codes "SnapshotTooOld" }

abbrev pub change_stream_history_lost : ErrorCode
change_stream_history_lost = record { number = 286; name = codes "ChangeStreamHistoryLost" }

abbrev pub query_exceeded_memory : ErrorCode
query_exceeded_memory = record { number = 292; name = codes "QueryExceededMemoryLimitNoDiskUseAllowed" }

abbrev pub object_too_large : ErrorCode
object_too_large = record { number = 10334; name = codes "BSONObjectTooLarge" }

abbrev pub duplicate_key : ErrorCode
duplicate_key = record { number = 11000; name = codes "DuplicateKey" }

abbrev pub stale_config : ErrorCode
stale_config = record { number = 13388; name = codes "StaleConfig" }
