-- Values to try the definitions on.
use Rattle.std.specs.Prelude.{ℕ, ℤ, List, [], ◌∷◌, Bool, false, None, codes, pos}
use Prim.Native.String.{String}
use Rattle.bson_model.specs.SampleDocuments.{id_document, nested}
use Rattle.base_model.specs.Times.{timestamp}
use Rattle.base_model.specs.Errors.{duplicate_key}
use Rattle.bson_model.specs.Tree.{Fields, no_fields, field, document_value, array_value, no_items, int32_value}
use Rattle.history_model.specs.History.{Session, client_session, router_session, StatementNumber, Operation, insert_operation, update_operation, delete_operation, Outcome, done, fails_with, Entry}
use Rattle.history_model.specs.Notes.{Note}

-- an entry of the statement of the request with this count
abbrev pub entry_at : ℕ → ℕ → Outcome → Entry
entry_at time count outcome = record {
  time = time;
  shard = 1;
  number = record { session = router_session 2 1 count; transaction = pos 0; index = 0 };
  namespace = codes "d.c";
  operation = insert_operation (id_document (pos 1));
  outcome = outcome;
}

abbrev pub first_entry : Entry
first_entry = entry_at (timestamp 1000 2) 1 done

abbrev pub second_entry : Entry
second_entry = entry_at (timestamp 1000 3) 2 (fails_with duplicate_key)

-- {_id: n, x: m}
abbrev pub with_x : ℤ → ℤ → Fields
with_x n m = field (codes "_id") (int32_value n) (field (codes "x") (int32_value m) no_fields)

-- {_id: 1, a: ..}, with this number of documents nested in a
abbrev pub deep : ℕ → Fields
deep n = field (codes "_id") (int32_value (pos 1)) (field (codes "a") (document_value (nested n)) no_fields)

-- {_id: []}
abbrev pub array_key : Fields
array_key = field (codes "_id") (array_value no_items) no_fields

-- {operator: {name: n}}
abbrev pub by_operator : String → String → ℤ → Fields
by_operator operator name n = field (codes operator) (document_value (field (codes name) (int32_value n) no_fields)) no_fields

-- x of the document under the key n is set to m
abbrev pub setting : ℤ → ℤ → Bool → Operation
setting n m upsert = update_operation (id_document n) (by_operator "$set" "x" m) upsert

abbrev pub of_time : ℕ → Entry
of_time time = entry_at time time done

abbrev pub changed_one : Outcome
changed_one = record { count = 1; modified = 1; upserted = None; error = None }

-- {_id: 2, x: 5} and {_id: 1, x: 5} are inserted into d.c at the times 1 and 3, {_id: 1, x: 5} into d.b at 2; x of the second becomes 7 at 4; the write at 5
-- finds no document; at 6 the second is deleted
abbrev pub life : List Entry
life =
    record (of_time 1) { operation = insert_operation (with_x (pos 2) (pos 5)) }
    ∷ record (of_time 2) { operation = insert_operation (with_x (pos 1) (pos 5)); namespace = codes "d.b" }
    ∷ record (of_time 3) { operation = insert_operation (with_x (pos 1) (pos 5)) }
    ∷ record (of_time 4) { operation = setting (pos 1) (pos 7) false; outcome = changed_one }
    ∷ record (of_time 5) { operation = delete_operation (id_document (pos 3)); outcome = record { count = 0; modified = 0; upserted = None; error = None } }
    ∷ record (of_time 6) { operation = delete_operation (id_document (pos 1)) }
    ∷ []

-- a client's session, though of one byte
abbrev pub client_seven : Session
client_seven = client_session (7 ∷ [])

abbrev pub statement : Session → ℤ → ℕ → StatementNumber
statement session transaction index = record { session = session; transaction = transaction; index = index }

abbrev pub note_of : Session → ℤ → ℕ → ℕ → ℕ → Note ℕ
note_of session transaction index time told = record { number = statement session transaction index; time = time; told = told }

-- two transactions of a client, and a router's own session
abbrev pub sample_notes : List (Note ℕ)
sample_notes = note_of client_seven (pos 3) 0 10 0 ∷ note_of client_seven (pos 4) 0 11 1 ∷ note_of client_seven (pos 4) 1 12 2 ∷ note_of (router_session 2 1 1) (pos 0) 0 13 3 ∷ []
