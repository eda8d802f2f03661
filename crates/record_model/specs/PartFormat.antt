-- The bytes of the parts of records, in a format that is own. Numbers are
-- little-endian; documents are BSON (BSON 1.1, "Specification"). Here the fields that several records have, entries and tables; and
-- which of them have an encoding that determines them.
use Rattle.std.specs.Prelude.{◌≡◌, ℕ, ◌<◌, ◌^◌, List, [], ◌∷◌, ◌++◌, length, codes, true, Option, Some, None, FitsSigned}
use Rattle.std.specs.Int.{w32, w64, to_le_bytes, cast_unsigned}
use Rattle.std.specs.List.{AllByRecursion, flat_map}
use Rattle.bson_model.specs.Tree.{Datum, Fields, no_fields, field}
use Rattle.bson_model.specs.Spelling.{written, boolean_byte}
use Rattle.bson_model.specs.Grammar.{ReadsAs, IsWithinDepth}
use Rattle.base_model.specs.Names.{IsNamespace}
use Rattle.value_model.specs.Keys.{is_key, Bound, min_bound, key_bound, max_bound, Range}
use Rattle.history_model.specs.History.{Session, client_session, router_session, StatementNumber, Operation, insert_operation, update_operation, delete_operation}
use Rattle.chunk_model.specs.Catalogue.{Creation}
use Rattle.chunk_model.specs.Versions.{Version}
use Rattle.chunk_model.specs.Tables.{Owned, Chunk, Table}
use Rattle.record_model.specs.Records.{OutcomeWords, EntryWords}

-- a number of four bytes, and one of eight
abbrev pub four : ℕ → List ℕ
four n = to_le_bytes w32 n

abbrev pub eight : ℕ → List ℕ
eight n = to_le_bytes w64 n

-- the number of its bytes, and the bytes
abbrev pub spelled_string : List ℕ → List ℕ
spelled_string s = four (length s) ++ s

-- {_id: key}
abbrev pub key_document : Datum → Fields
key_document key = field (codes "_id") key no_fields

-- 00 for none; 01 and the key
abbrev pub spelled_key : Option Datum → List ℕ
spelled_key None = 0 ∷ []
spelled_key (Some key) = 1 ∷ written (key_document key)

-- 00 and a client's 16 bytes; 01 and the router's node, life and request
abbrev pub spelled_session : Session → List ℕ
spelled_session (client_session id) = 0 ∷ id
spelled_session (router_session node life request) = 1 ∷ (four node ++ (eight life ++ eight request))

abbrev pub spelled_number : StatementNumber → List ℕ
spelled_number n = spelled_session n.session ++ (eight (cast_unsigned w64 n.transaction) ++ four n.index)

abbrev pub spelled_operation : Operation → List ℕ
spelled_operation (insert_operation document) = 1 ∷ written document
spelled_operation (update_operation filter change upsert) = 2 ∷ (written filter ++ (written change ++ boolean_byte upsert ∷ []))
spelled_operation (delete_operation filter) = 3 ∷ written filter

abbrev pub spelled_outcome : OutcomeWords → List ℕ
spelled_outcome o = four o.count ++ (four o.modified ++ (spelled_key o.upserted ++ four (cast_unsigned w32 o.code)))

abbrev pub spelled_entry : EntryWords → List ℕ
spelled_entry e = eight e.time ++ (spelled_string e.namespace ++ (spelled_number e.number ++ (spelled_operation e.operation ++ spelled_outcome e.outcome)))

abbrev pub spelled_creation : Creation → List ℕ
spelled_creation c = spelled_string c.namespace ++ (eight c.epoch ++ eight c.at)

-- how many items, and the items
abbrev pub spelled_list : {X : Type 0} → (X → List ℕ) → List X → List ℕ
spelled_list spelled_item items = four (length items) ++ flat_map spelled_item items

-- 00 below all keys; 01 and the key; 02 above all keys
abbrev pub spelled_bound : Bound → List ℕ
spelled_bound min_bound = 0 ∷ []
spelled_bound (key_bound key) = 1 ∷ written (key_document key)
spelled_bound max_bound = 2 ∷ []

abbrev pub spelled_version : Version → List ℕ
spelled_version v = eight v.epoch ++ (eight v.major ++ eight v.minor)

abbrev pub spelled_owned : Owned → List ℕ
spelled_owned o = eight o.since ++ four o.shard

abbrev pub spelled_chunk : Chunk → List ℕ
spelled_chunk c = spelled_bound c.range.min ++ (spelled_bound c.range.max ++ (spelled_version c.version ++ spelled_list spelled_owned c.owners))

abbrev pub spelled_table : Table → List ℕ
spelled_table t = spelled_string t.namespace ++ (eight t.epoch ++ (eight t.changes ++ (eight t.oldest ++ spelled_list spelled_chunk t.chunks)))

-- a document has an encoding
abbrev pub IsSpellable : Fields → Type 0
IsSpellable document = ReadsAs (written document) document

-- and it has at most 100 levels
pub record IsSoundDocument (document : Fields) : Type 0 where
  pub spelled : IsSpellable document
  pub within : IsWithinDepth document

-- a value that may be a key
pub record IsSoundKeyValue (key : Datum) : Type 0 where
  pub spelled : IsSpellable (key_document key)
  pub kind : is_key key ≡ true

abbrev pub IsSoundKey : Option Datum → Type 0
IsSoundKey None = Unit {0}
IsSoundKey (Some key) = IsSoundKeyValue key

abbrev pub IsSoundSession : Session → Type 0
IsSoundSession (client_session id) = length id ≡ 16
IsSoundSession (router_session node life request) = (node < 2 ^ 32) × (life < 2 ^ 64) × (request < 2 ^ 64)

pub record IsSoundNumber (n : StatementNumber) : Type 0 where
  pub session : IsSoundSession n.session
  pub transaction : FitsSigned w64 n.transaction
  pub index : n.index < 2 ^ 32

abbrev pub IsSoundOperation : Operation → Type 0
IsSoundOperation (insert_operation document) = IsSoundDocument document
IsSoundOperation (update_operation filter change upsert) = IsSoundDocument filter × IsSoundDocument change
IsSoundOperation (delete_operation filter) = IsSoundDocument filter

pub record IsSoundOutcome (o : OutcomeWords) : Type 0 where
  pub count : o.count < 2 ^ 32
  pub modified : o.modified < 2 ^ 32
  pub upserted : IsSoundKey o.upserted
  pub code : FitsSigned w32 o.code

pub record IsSoundEntry (e : EntryWords) : Type 0 where
  pub time : e.time < 2 ^ 64
  pub namespace : IsNamespace e.namespace
  pub number : IsSoundNumber e.number
  pub operation : IsSoundOperation e.operation
  pub outcome : IsSoundOutcome e.outcome

pub record IsSoundCreation (c : Creation) : Type 0 where
  pub namespace : IsNamespace c.namespace
  pub epoch : c.epoch < 2 ^ 64
  pub at : c.at < 2 ^ 64

abbrev pub IsSoundBound : Bound → Type 0
IsSoundBound min_bound = Unit {0}
IsSoundBound (key_bound key) = IsSoundKeyValue key
IsSoundBound max_bound = Unit {0}

pub record IsSoundVersion (v : Version) : Type 0 where
  pub epoch : v.epoch < 2 ^ 64
  pub major : v.major < 2 ^ 64
  pub minor : v.minor < 2 ^ 64

abbrev pub IsSoundOwned : Owned → Type 0
IsSoundOwned o = (o.since < 2 ^ 64) × (o.shard < 2 ^ 32)

pub record IsSoundChunk (c : Chunk) : Type 0 where
  pub min : IsSoundBound c.range.min
  pub max : IsSoundBound c.range.max
  pub version : IsSoundVersion c.version
  pub count : length c.owners < 2 ^ 32
  pub owners : AllByRecursion IsSoundOwned c.owners

pub record IsSoundTable (t : Table) : Type 0 where
  pub namespace : IsNamespace t.namespace
  pub epoch : t.epoch < 2 ^ 64
  pub changes : t.changes < 2 ^ 64
  pub oldest : t.oldest < 2 ^ 64
  pub count : length t.chunks < 2 ^ 32
  pub chunks : AllByRecursion IsSoundChunk t.chunks
