-- The readers of what moves of chunks and changes of the catalogue keep, and of records, as functions of the bytes.
use Rattle.std.specs.Prelude.{ℕ, List, Bool, Option, Some, None, length, nat_lt, ◌==◌, if◌then◌else◌}
use Rattle.std.specs.Int.{w64, cast_signed}
use Rattle.bson_model.specs.Limits.{most_bytes_kept}
use Rattle.bson_model.specs.Spelling.{written}
use Rattle.bson_model.specs.Tree.{Fields}
use Rattle.base_model.specs.Identities.{RequestId}
use Rattle.history_model.specs.Sessions.{StatementRecord, SessionRecord, are_in_order}
use Rattle.record_model.specs.Moves.{MoveEnd, MovedDocument}
use Rattle.record_model.specs.Records.{Record, table_record, entry_record, ceiling_record, floor_record, move_start_record, section_record, move_end_record, released_record, receive_start_record, batch_record, receive_done_record, receive_end_record, deletion_record, create_record, split_record, commit_record, resolve_record, purge_record, catalogue_ceiling_record, life_record, block_record}
use Rattle.record_parts.specs.Readers.{◌>>=◌, Found, byte_at, four_at, eight_at, namespace_at, document_at, key_at, session_at, statement_at, operation_at, outcome_at, bound_at, range_at, version_at, list_at, table_at}

unfoldable pub entry_at : List ℕ → Option Record
entry_at bytes = do
  time ← eight_at bytes
  namespace ← namespace_at time.1
  number ← statement_at namespace.1
  operation ← operation_at number.1
  outcome ← outcome_at operation.1
  Some (entry_record (record { time = time.0; namespace = namespace.0; number = number.0; operation = operation.0; outcome = outcome.0 }))

unfoldable pub creation_at : List ℕ → Option Record
creation_at bytes = do
  namespace ← namespace_at bytes
  epoch ← eight_at namespace.1
  at ← eight_at epoch.1
  Some (create_record (record { namespace = namespace.0; epoch = epoch.0; at = at.0 }))

unfoldable pub table_record_at : List ℕ → Option Record
table_record_at bytes = table_at bytes >>= λ t. Some (table_record t.0)

-- a record that is a number
unfoldable pub number_at : (ℕ → Record) → List ℕ → Option Record
number_at number_record bytes = eight_at bytes >>= λ n. Some (number_record n.0)

unfoldable pub flag_at : List ℕ → Found Bool
flag_at bytes = byte_at bytes >>= λ b. Some (b.0 == 1, b.1)

-- a document that a shard stores
unfoldable pub stored_at : List ℕ → Found Fields
stored_at bytes = document_at bytes >>= λ x. if nat_lt most_bytes_kept (length (written x.0)) then None else Some (x.0, x.1)

unfoldable pub some_document_at : List ℕ → Found (Option Fields)
some_document_at bytes = stored_at bytes >>= λ x. Some (Some x.0, x.1)

unfoldable pub option_document_at : List ℕ → Found (Option Fields)
option_document_at bytes = byte_at bytes >>= λ b. if b.0 == 0 then Some (None, b.1) else if b.0 == 1 then some_document_at b.1 else None

unfoldable pub request_at : List ℕ → Found RequestId
request_at bytes = do
  router ← four_at bytes
  life ← eight_at router.1
  count ← eight_at life.1
  Some (record { router = router.0; life = life.0; count = count.0 }, count.1)

unfoldable pub moved_at : List ℕ → Found MovedDocument
moved_at bytes = do
  key ← key_at bytes
  document ← option_document_at key.1
  Some (record { key = key.0; document = document.0 }, document.1)

unfoldable pub statement_record_at : List ℕ → Found StatementRecord
statement_record_at bytes = do
  index ← four_at bytes
  time ← eight_at index.1
  outcome ← outcome_at time.1
  Some (record { index = index.0; time = time.0; outcome = outcome.0 }, outcome.1)

unfoldable pub session_record_at : List ℕ → Found SessionRecord
session_record_at bytes = do
  session ← session_at bytes
  transaction ← eight_at session.1
  statements ← list_at statement_record_at transaction.1
  Some (record { session = session.0; transaction = cast_signed w64 transaction.0; statements = statements.0 }, statements.1)

unfoldable pub move_start_at : List ℕ → Option Record
move_start_at bytes = do
  id ← request_at bytes
  namespace ← namespace_at id.1
  range ← range_at namespace.1
  to ← four_at range.1
  version ← version_at to.1
  time ← eight_at version.1
  Some (move_start_record (record { id = id.0; namespace = namespace.0; range = range.0; to = to.0; version = version.0; time = time.0 }))

unfoldable pub section_at : List ℕ → Option Record
section_at bytes = do
  id ← request_at bytes
  time ← eight_at id.1
  Some (section_record (record { id = id.0; time = time.0 }))

unfoldable pub move_end_at : List ℕ → Option MoveEnd
move_end_at bytes = do
  id ← request_at bytes
  committed ← flag_at id.1
  table ← table_at committed.1
  time ← eight_at table.1
  due ← eight_at time.1
  Some (record { id = id.0; committed = committed.0; table = table.0; time = time.0; due = due.0 })

unfoldable pub receive_start_at : List ℕ → Option Record
receive_start_at bytes = do
  id ← request_at bytes
  namespace ← namespace_at id.1
  range ← range_at namespace.1
  from ← four_at range.1
  table ← table_at from.1
  time ← eight_at table.1
  Some (receive_start_record (record { id = id.0; namespace = namespace.0; range = range.0; from = from.0; table = table.0; time = time.0 }))

unfoldable pub received_at : List ℕ → Option Record
received_at bytes = do
  id ← request_at bytes
  number ← eight_at id.1
  time ← eight_at number.1
  upto ← bound_at time.1
  docs ← list_at moved_at upto.1
  Some (batch_record (record { id = id.0; time = time.0; batch = record { number = number.0; upto = upto.0; docs = docs.0 } }))

-- sessions, if they are in order
abbrev pub sessions_in : List SessionRecord → Option (List SessionRecord)
sessions_in sessions = if are_in_order sessions then Some sessions else None

unfoldable pub receive_done_at : List ℕ → Option Record
receive_done_at bytes = do
  id ← request_at bytes
  list ← list_at session_record_at id.1
  sessions ← sessions_in list.0
  Some (receive_done_record (record { id = id.0; sessions = sessions }))

unfoldable pub deletion_at : List ℕ → Option Record
deletion_at bytes = do
  namespace ← namespace_at bytes
  range ← range_at namespace.1
  until ← eight_at range.1
  Some (deletion_record (record { namespace = namespace.0; range = range.0; until = until.0 }))

unfoldable pub split_at : List ℕ → Option Record
split_at bytes = do
  namespace ← namespace_at bytes
  middle ← key_at namespace.1
  at ← eight_at middle.1
  Some (split_record (record { namespace = namespace.0; middle = middle.0; at = at.0 }))

unfoldable pub commit_at : List ℕ → Option Record
commit_at bytes = do
  id ← request_at bytes
  namespace ← namespace_at id.1
  range ← range_at namespace.1
  from ← four_at range.1
  to ← four_at from.1
  at ← eight_at to.1
  Some (commit_record (record { id = id.0; namespace = namespace.0; range = range.0; from = from.0; to = to.0; at = at.0 }))

unfoldable pub resolve_at : List ℕ → Option Record
resolve_at bytes = do
  id ← request_at bytes
  namespace ← namespace_at id.1
  range ← range_at namespace.1
  at ← eight_at range.1
  Some (resolve_record (record { id = id.0; namespace = namespace.0; range = range.0; at = at.0 }))

unfoldable pub purge_at : List ℕ → Option Record
purge_at bytes = do
  namespace ← namespace_at bytes
  below ← eight_at namespace.1
  at ← eight_at below.1
  Some (purge_record (record { namespace = namespace.0; below = below.0; at = at.0 }))

-- the fields of a record of that kind: what several nodes keep, and shards; moves; the catalogue; routers
unfoldable pub shard_fields_at : ℕ → List ℕ → Option Record
shard_fields_at kind bytes =
    if kind == 0x01 then table_record_at bytes
    else if kind == 0x02 then entry_at bytes
    else if kind == 0x03 then number_at ceiling_record bytes
    else if kind == 0x04 then number_at floor_record bytes
    else None

unfoldable pub released_at : List ℕ → Option Record
released_at bytes = request_at bytes >>= λ id. Some (released_record id.0)

unfoldable pub given_end_at : List ℕ → Option Record
given_end_at bytes = move_end_at bytes >>= λ m. Some (move_end_record m)

unfoldable pub receive_end_at : List ℕ → Option Record
receive_end_at bytes = move_end_at bytes >>= λ m. Some (receive_end_record m)

unfoldable pub move_fields_at : ℕ → List ℕ → Option Record
move_fields_at kind bytes =
    if kind == 0x05 then move_start_at bytes
    else if kind == 0x06 then section_at bytes
    else if kind == 0x07 then given_end_at bytes
    else if kind == 0x08 then released_at bytes
    else if kind == 0x09 then receive_start_at bytes
    else if kind == 0x0A then received_at bytes
    else if kind == 0x0B then receive_done_at bytes
    else if kind == 0x0C then receive_end_at bytes
    else if kind == 0x0D then deletion_at bytes
    else None

unfoldable pub catalogue_fields_at : ℕ → List ℕ → Option Record
catalogue_fields_at kind bytes =
    if kind == 0x20 then creation_at bytes
    else if kind == 0x21 then split_at bytes
    else if kind == 0x22 then commit_at bytes
    else if kind == 0x23 then resolve_at bytes
    else if kind == 0x24 then purge_at bytes
    else if kind == 0x25 then number_at catalogue_ceiling_record bytes
    else None

unfoldable pub router_fields_at : ℕ → List ℕ → Option Record
router_fields_at kind bytes =
    if kind == 0x30 then number_at life_record bytes
    else if kind == 0x31 then number_at block_record bytes
    else None

unfoldable pub fields_at : ℕ → List ℕ → Option Record
fields_at kind bytes =
    if nat_lt kind 0x05 then shard_fields_at kind bytes
    else if nat_lt kind 0x0E then move_fields_at kind bytes
    else if nat_lt kind 0x30 then catalogue_fields_at kind bytes
    else router_fields_at kind bytes

-- a record in the first format
unfoldable pub record_at : List ℕ → Option Record
record_at bytes = do
  format ← byte_at bytes
  kind ← byte_at format.1
  if format.0 == 1 then fields_at kind.0 kind.1 else None
