-- The readers of parts of records as functions of the bytes: what each finds at their beginning, and the bytes after it. Bytes that
-- encode a part are read as it. A reader may take others too, since what it read is compared with the bytes in the end.
use Rattle.std.specs.Prelude.{ℕ, zero, suc, List, [], ◌∷◌, length, take, drop, Bool, false, ◌&&◌, Option, Some, None, Result, Ok, Err, nat_lt, nat_le, eqb, ◌==◌, if◌then◌else◌}
use Rattle.std.specs.Int.{w32, w64, from_le_bytes, cast_signed}
use Rattle.std.specs.Str.{is_utf8}
use Rattle.std.specs.Ordering.{is_lt}
use Rattle.bson_model.specs.Limits.{most_bytes_written}
use Rattle.bson_values.specs.Readers.{whole_at}
use Rattle.bson_model.specs.Spelling.{written}
use Rattle.bson_model.specs.Tree.{Datum, Fields}
use Rattle.bson_values.specs.declared.fault.BsonFault.{BsonFault}
use Rattle.value_model.specs.Keys.{Bound, min_bound, key_bound, max_bound, Range, KeyFault, valid_key, order_bounds}
use Rattle.chunk_model.specs.Tables.{Owned, Chunk, Table}
use Rattle.chunk_model.specs.Versions.{Version}
use Rattle.chunk_table.specs.Whole.{follow_from}
use Rattle.history_model.specs.History.{Session, client_session, router_session, StatementNumber, Operation, insert_operation, update_operation, delete_operation}
use Rattle.base_model.specs.Names.{is_database_name, is_collection_name, full_name}
use Rattle.record_model.specs.Records.{OutcomeWords}

infixl 10 ◌>>=◌
abbrev pub ◌>>=◌ : {A B : Type 0} → Option A → (A → Option B) → Option B
None >>= f = None
(Some x) >>= f = f x

-- a value, and the bytes after it
abbrev pub Found : Type 0 → Type 0
Found X = Option (X × List ℕ)

unfoldable pub byte_at : List ℕ → Found ℕ
byte_at [] = None
byte_at (b ∷ bytes) = Some (b, bytes)

unfoldable pub bytes_at : ℕ → List ℕ → Found (List ℕ)
bytes_at n bytes = if nat_lt (length bytes) n then None else Some (take n bytes, drop n bytes)

unfoldable pub four_at : List ℕ → Found ℕ
four_at bytes = bytes_at 4 bytes >>= λ x. Some (from_le_bytes w32 (take 4 x.0), x.1)

unfoldable pub eight_at : List ℕ → Found ℕ
eight_at bytes = bytes_at 8 bytes >>= λ x. Some (from_le_bytes w64 (take 8 x.0), x.1)

-- what comes before the first dot, and after it
abbrev pub cut_at_dot : List ℕ → Option (List ℕ × List ℕ)
cut_at_dot [] = None
cut_at_dot (b ∷ bytes) = if eqb b 46 then Some ([], bytes) else (cut_at_dot bytes >>= λ x. Some (b ∷ x.0, x.1))

abbrev pub make_name : List ℕ → List ℕ → Bool
make_name database collection =
    is_database_name database && is_collection_name collection && nat_le (length (full_name database collection)) 255

abbrev pub are_names : Option (List ℕ × List ℕ) → Bool
are_names None = false
are_names (Some x) = make_name x.0 x.1

-- a database's name, a dot and a collection's name
abbrev pub is_name : List ℕ → Bool
is_name text = are_names (cut_at_dot text)

unfoldable pub name_in : List ℕ → Option (List ℕ)
name_in text = if is_utf8 text then (if is_name text then Some text else None) else None

unfoldable pub namespace_at : List ℕ → Found (List ℕ)
namespace_at bytes = do
  count ← four_at bytes
  text ← bytes_at count.0 count.1
  name ← name_in text.0
  Some (name, text.1)

-- the document that begins the bytes, and its length
abbrev pub whole_in : Result (Fields × ℕ) BsonFault → Option (Fields × ℕ)
whole_in (Ok x) = Some x
whole_in (Err fault) = None

-- a document that can be written
unfoldable pub document_at : List ℕ → Found Fields
document_at bytes = whole_in (whole_at bytes) >>= λ x. if nat_lt most_bytes_written (length (written x.0)) then None else Some (x.0, drop x.1 bytes)

abbrev pub key_in : Result Datum KeyFault → Option Datum
key_in (Ok key) = Some key
key_in (Err fault) = None

unfoldable pub key_at : List ℕ → Found Datum
key_at bytes = document_at bytes >>= λ x. key_in (valid_key x.0) >>= λ key. Some (key, x.1)

unfoldable pub some_key_at : List ℕ → Found (Option Datum)
some_key_at bytes = key_at bytes >>= λ key. Some (Some key.0, key.1)

unfoldable pub option_key_at : List ℕ → Found (Option Datum)
option_key_at bytes = byte_at bytes >>= λ b. if b.0 == 0 then Some (None, b.1) else if b.0 == 1 then some_key_at b.1 else None

unfoldable pub client_at : List ℕ → Found Session
client_at bytes = bytes_at 16 bytes >>= λ id. Some (client_session id.0, id.1)

unfoldable pub router_at : List ℕ → Found Session
router_at bytes = do
  node ← four_at bytes
  life ← eight_at node.1
  request ← eight_at life.1
  Some (router_session node.0 life.0 request.0, request.1)

unfoldable pub session_at : List ℕ → Found Session
session_at bytes = byte_at bytes >>= λ b. if b.0 == 0 then client_at b.1 else if b.0 == 1 then router_at b.1 else None

unfoldable pub statement_at : List ℕ → Found StatementNumber
statement_at bytes = do
  session ← session_at bytes
  transaction ← eight_at session.1
  index ← four_at transaction.1
  Some (record { session = session.0; transaction = cast_signed w64 transaction.0; index = index.0 }, index.1)

unfoldable pub insert_at : List ℕ → Found Operation
insert_at bytes = document_at bytes >>= λ x. Some (insert_operation x.0, x.1)

unfoldable pub update_at : List ℕ → Found Operation
update_at bytes = do
  filter ← document_at bytes
  change ← document_at filter.1
  upsert ← byte_at change.1
  Some (update_operation filter.0 change.0 (upsert.0 == 1), upsert.1)

unfoldable pub delete_at : List ℕ → Found Operation
delete_at bytes = document_at bytes >>= λ x. Some (delete_operation x.0, x.1)

unfoldable pub operation_at : List ℕ → Found Operation
operation_at bytes = byte_at bytes >>= λ b.
    if b.0 == 1 then insert_at b.1 else if b.0 == 2 then update_at b.1 else if b.0 == 3 then delete_at b.1 else None

unfoldable pub outcome_at : List ℕ → Found OutcomeWords
outcome_at bytes = do
  count ← four_at bytes
  modified ← four_at count.1
  upserted ← option_key_at modified.1
  code ← four_at upserted.1
  Some (record { count = count.0; modified = modified.0; upserted = upserted.0; code = cast_signed w32 code.0 }, code.1)

unfoldable pub key_bound_at : List ℕ → Found Bound
key_bound_at bytes = key_at bytes >>= λ key. Some (key_bound key.0, key.1)

unfoldable pub bound_at : List ℕ → Found Bound
bound_at bytes = byte_at bytes >>= λ b.
    if b.0 == 0 then Some (min_bound, b.1) else if b.0 == 1 then key_bound_at b.1 else if b.0 == 2 then Some (max_bound, b.1) else None

abbrev pub range_in : Bound → Bound → Option Range
range_in min max = if is_lt (order_bounds min max) then Some (record { min = min; max = max }) else None

unfoldable pub range_at : List ℕ → Found Range
range_at bytes = do
  min ← bound_at bytes
  max ← bound_at min.1
  range ← range_in min.0 max.0
  Some (range, max.1)

unfoldable pub version_at : List ℕ → Found Version
version_at bytes = do
  epoch ← eight_at bytes
  major ← eight_at epoch.1
  minor ← eight_at major.1
  Some (record { epoch = epoch.0; major = major.0; minor = minor.0 }, minor.1)

unfoldable pub owned_at : List ℕ → Found Owned
owned_at bytes = do
  since ← eight_at bytes
  shard ← four_at since.1
  Some (record { since = since.0; shard = shard.0 }, shard.1)

-- so many items
unfoldable pub items_at : {X : Type 0} → (List ℕ → Found X) → ℕ → List ℕ → Found (List X)
items_at item_at zero bytes = Some ([], bytes)
items_at item_at (suc n) bytes = do
  first ← item_at bytes
  others ← items_at item_at n first.1
  Some (first.0 ∷ others.0, others.1)

unfoldable pub list_at : {X : Type 0} → (List ℕ → Found X) → List ℕ → Found (List X)
list_at item_at bytes = four_at bytes >>= λ count. items_at item_at count.0 count.1

unfoldable pub chunk_at : List ℕ → Found Chunk
chunk_at bytes = do
  range ← range_at bytes
  version ← version_at range.1
  owners ← list_at owned_at version.1
  Some (record { range = range.0; version = version.0; owners = owners.0 }, owners.1)

-- a table, if its chunks follow one another
abbrev pub table_in : List ℕ → ℕ → ℕ → ℕ → List Chunk → Option Table
table_in namespace epoch changes oldest chunks =
    if follow_from min_bound chunks then Some (record { namespace = namespace; epoch = epoch; changes = changes; oldest = oldest; chunks = chunks }) else None

unfoldable pub table_at : List ℕ → Found Table
table_at bytes = do
  namespace ← namespace_at bytes
  epoch ← eight_at namespace.1
  changes ← eight_at epoch.1
  oldest ← eight_at changes.1
  chunks ← list_at chunk_at oldest.1
  table ← table_in namespace.0 epoch.0 changes.0 oldest.0 chunks.0
  Some (table, chunks.1)
