-- The history of the clients' writes, and the unsharded collection that it represents: for each namespace one map from keys to documents (MongoDB manual,
-- "insert", "update", "delete", "Retryable Writes").
use Rattle.std.specs.Prelude.{◌≡◌, ◌<◌, ◌⊎◌, ℕ, ℤ, List, [], ◌∷◌, ◌++◌, Option, Some, None, Result, Ok, Err, Bool, IsTrue, ◌&&◌, if◌then◌else◌, filter, nat_le}
use Rattle.std.specs.List.{AllByRecursion}
use Rattle.std.specs.Str.{bytes_eq}
use Rattle.bson_model.specs.Tree.{Datum, Fields}
use Rattle.base_model.specs.Errors.{ErrorCode, bad_value, type_mismatch, path_not_viable, immutable_field, object_too_large, duplicate_key}
use Rattle.query_model.specs.Queries.{QueryFault}
pub use Rattle.query_model.specs.Edits.{same_key, is_too_large}
use Rattle.query_model.specs.Edits.{WriteFault, duplicate_fault, immutable_fault, overflow_fault, too_large_fault, not_number_fault, not_document_fault}
use Rattle.query_model.specs.Writes.{Write, read_insert, read_update, read_delete}
use Rattle.query_model.specs.Effects.{Effect, unmet, effect_of, left_by, write_key}

-- who numbers statements: a client, by 16 bytes, or a router, for one request of one of its lives
pub data Session : Type 0 where
  client_session : List ℕ → Session
  router_session : (node life request : ℕ) → Session

-- the number of a write statement
pub record StatementNumber : Type 0 where
  pub session : Session
  pub transaction : ℤ
  pub index : ℕ

-- what a statement does, as the client sent it: documents as they were read
pub data Operation : Type 0 where
  insert_operation : Fields → Operation
  -- the filter, the change, and whether it is an upsert
  update_operation : Fields → Fields → Bool → Operation
  -- the filter
  delete_operation : Fields → Operation

-- the outcome of a statement
pub record Outcome : Type 0 where
  pub count : ℕ
  pub modified : ℕ
  pub upserted : Option Datum
  pub error : Option ErrorCode

-- one write in the journals
pub record Entry : Type 0 where
  pub time : ℕ
  pub shard : ℕ
  pub number : StatementNumber
  pub namespace : List ℕ
  pub operation : Operation
  pub outcome : Outcome

-- the write that an operation reads as, or the first fault
abbrev pub read_operation : Operation → Result Write QueryFault
read_operation (insert_operation document) = read_insert document
read_operation (update_operation filter words upsert) = read_update filter words upsert
read_operation (delete_operation filter) = read_delete filter

-- the key of an operation that reads as a write, if it has one
abbrev pub key_read : Result Write QueryFault → Option Datum
key_read (Ok write) = write_key write
key_read (Err fault) = None

-- the key that an operation writes
abbrev pub key_written : Operation → Option Datum
key_written operation = key_read (read_operation operation)

abbrev pub done : Outcome
done = record { count = 1; modified = 0; upserted = None; error = None }

abbrev pub fails_with : ErrorCode → Outcome
fails_with error = record { count = 0; modified = 0; upserted = None; error = Some error }

-- the error code of a fault
abbrev pub error_of : WriteFault → ErrorCode
error_of duplicate_fault = duplicate_key
error_of immutable_fault = immutable_field
error_of overflow_fault = bad_value
error_of too_large_fault = object_too_large
error_of not_number_fault = type_mismatch
error_of not_document_fault = path_not_viable

abbrev pub outcome_of : Result Effect WriteFault → Outcome
outcome_of (Ok e) = record { count = e.count; modified = e.modified; upserted = e.upserted; error = None }
outcome_of (Err fault) = fails_with (error_of fault)

-- an operation that reads as no write changes nothing, and returns error 2
abbrev pub effect_read : Result Write QueryFault → Option Fields → Option Fields × Outcome
effect_read (Ok write) before = (left_by before (effect_of write before), outcome_of (effect_of write before))
effect_read (Err fault) before = (before, fails_with bad_value)

-- the document that an operation results in under its key, and its outcome
abbrev pub effect : Operation → Option Fields → Option Fields × Outcome
effect operation before = effect_read (read_operation operation) before

-- it found no document, or returns that it reads as no write
abbrev pub MeetsNothing : Option Fields × Outcome → Type 0
MeetsNothing told = (told ≡ (None, outcome_of (Ok (unmet None)))) ⊎ (told ≡ (None, fails_with bad_value))

-- the entry writes this key of this namespace
abbrev pub writes_to : List ℕ → Option Datum → Entry → Bool
writes_to namespace key e = bytes_eq e.namespace namespace && same_key (key_written e.operation) key

-- the document under a key after entries, in order, from the one before
abbrev pub document_after : List ℕ → Option Datum → Option Fields → List Entry → Option Fields
document_after namespace key before [] = before
document_after namespace key before (e ∷ es) =
    document_after namespace key (if writes_to namespace key e then (effect e.operation before).0 else before) es

-- the document after these entries, from none
abbrev pub document_left : List ℕ → Option Datum → List Entry → Option Fields
document_left namespace key entries = document_after namespace key None entries

-- the unsharded collection at a time
abbrev pub document_at : List Entry → List ℕ → Option Datum → ℕ → Option Fields
document_at history namespace key time = document_left namespace key (filter (λ e. nat_le e.time time) history)

-- entries are ordered by time, and at one time by shard
abbrev pub IsBefore : Entry → Entry → Type 0
IsBefore d e = (d.time < e.time) ⊎ ((d.time ≡ e.time) × (d.shard < e.shard))

-- they are the same statement: its number with its namespace and key
pub record IsSameStatement (d e : Entry) : Type 0 where
  pub number : d.number ≡ e.number
  pub namespace : d.namespace ≡ e.namespace
  pub key : IsTrue (same_key (key_written d.operation) (key_written e.operation))

-- An entry may follow these: it comes after each of them, its outcome is that of its operation on the document that results from them, and it is none of
-- their statements.
pub record Follows (earlier : List Entry) (e : Entry) : Type 0 where
  pub rises : AllByRecursion (λ d. IsBefore d e) earlier
  pub told : e.outcome ≡ (effect e.operation (document_left e.namespace (key_written e.operation) earlier)).1
  pub once : AllByRecursion (λ d. ¬ IsSameStatement d e) earlier

abbrev pub LegalAfter : List Entry → List Entry → Type 0
LegalAfter earlier [] = Unit {0}
LegalAfter earlier (e ∷ later) = Follows earlier e × LegalAfter (earlier ++ e ∷ []) later

-- one legal history of an unsharded collection, with each statement at most once
abbrev pub Legal : List Entry → Type 0
Legal history = LegalAfter [] history

-- x is a member of the list
abbrev pub IsIn : {X : Type 0} → X → List X → Type 0
IsIn {X} x xs = (prefix : List X) × (back : List X) × (xs ≡ prefix ++ x ∷ back)
