-- Requests of two routers, answers and entries to try the definitions on.
use Rattle.std.specs.Prelude.{ℕ, List, [], ◌∷◌, codes, Option, Some, None, Bool, true, false, pos}
use Rattle.bson_model.specs.Tree.{Datum, string_value, document_value, array_value, boolean_value, int32_value, timestamp_value, Fields, no_fields, field}
use Rattle.opmsg_model.specs.Requests.{Request}
use Rattle.command_model.specs.AnswerParts.{document_items}
use Rattle.base_model.specs.Times.{timestamp}
use Rattle.base_model.specs.Errors.{immutable_field, object_too_large, duplicate_key}
use Rattle.command_laws.specs.SampleCommands.{change_one, delete_with, number_one, set_one, taken_out, update_with}
use Rattle.base_model.specs.SampleReplies.{done_reply, duplicate_reply}
use Rattle.command_laws.specs.SampleRequests.{deep, find_body, five, greeting, insert_body, long_five, request, shown, six, three, with_id}
use Rattle.command_model.specs.Find.{Find}
use Rattle.query_model.specs.Queries.{Query, no_clauses, clause, path_clause, no_tests, test, eq_test}
use Rattle.pipeline_model.specs.Stages.{match_stage}
use Rattle.chunk_model.specs.Changes.{Change, create_change}
use Rattle.chunk_model.specs.SampleCollections.{creation}
use Rattle.history_model.specs.History.{router_session, insert_operation, update_operation, delete_operation, Outcome, done, fails_with, Entry}
use Rattle.base_model.specs.Identities.{RequestId}
use Rattle.reply_model.specs.Exchanges.{Asked, Answered}
use Rattle.reply_model.specs.Accounts.{Dated, changes_in, Given, nothing_stored, Account}
use Rattle.reply_model.specs.Cursors.{Cursor}
use Rattle.reply_model.specs.Right.{IsRight}

-- both routers, nodes 2 and 3, are given one moment, of the second 1000
abbrev pub moments : List Given
moments = record { node = 2; moment = 1000000; step = 0 } ∷ record { node = 3; moment = 1000000; step = 1 } ∷ []

abbrev pub id_at : (router count : ℕ) → RequestId
id_at router count = record { router = router; life = 1; count = count }

-- a router takes this in a step, at Timestamp(1000, ..), as its request with this count
abbrev pub asks : (router count came counter : ℕ) → Request → Asked
asks router count came counter asked = record {
  id = id_at router count;
  link = 0;
  number = pos count;
  came = came;
  time = timestamp 1000 counter;
  moment = 1000000;
  request = asked;
}

-- and gets this reply in a step, at Timestamp(1000, ..)
abbrev pub tells : Asked → (step counter : ℕ) → Fields → Answered
tells a step counter document = record {
  id = a.id;
  link = a.link;
  number = a.number;
  request = a.request;
  step = step;
  time = timestamp 1000 counter;
  document = document;
}

-- an entry at Timestamp(1000, ..) of the statement with this index, of the request of a router with this count
abbrev pub entry_at : (counter router count index : ℕ) → Datum → Outcome → Entry
entry_at counter router count index key outcome = record {
  time = timestamp 1000 counter;
  shard = 1;
  number = record { session = router_session router 1 count; transaction = pos 0; index = index };
  namespace = codes "d.c";
  operation = insert_operation (with_id key);
  outcome = outcome;
}

-- d.c was created
abbrev pub created : List Change
created = create_change creation ∷ []

-- with the step in which it was created
abbrev pub created_dated : List Dated
created_dated = record { change = create_change creation; step = 0 } ∷ []

-- it was created at Timestamp(1000, 3)
abbrev pub created_late : List Change
created_late = create_change (record creation { at = timestamp 1000 3 }) ∷ []

-- the account of these changes, entries, requests and replies, with the moments that routers were given
abbrev pub account_with : List Change → List Entry → List Asked → List Answered → Account
account_with changes history asked answered = record {
  changes = changes;
  dated = [];
  history = history;
  asked = asked;
  answered = answered;
  given = moments;
  learned = [];
  missed = [];
  away = [];
  stored = nothing_stored;
}

-- the same of changes with their steps
abbrev pub account_by : List Dated → List Entry → List Asked → List Answered → Account
account_by dated history asked answered = record {
  changes = changes_in dated;
  dated = dated;
  history = history;
  asked = asked;
  answered = answered;
  given = moments;
  learned = [];
  missed = [];
  away = [];
  stored = nothing_stored;
}

-- of d.c alone
abbrev pub account_of : List Entry → List Asked → List Answered → Account
account_of history asked answered = account_by created_dated history asked answered

-- Its reply is right, where there was no reply before, and no cursor is open before or afterwards.
abbrev pub IsToldRightly : List Entry → Asked → Answered → Type 0
IsToldRightly history a t = IsRight (account_of history [] []) [] a t []

-- it is not, whatever cursors there are afterwards
abbrev pub IsToldWrongly : List Entry → Asked → Answered → Type 0
IsToldWrongly history a t = (next : List Cursor) → IsRight (account_of history [] []) [] a t next → ⊥

-- the query that {_id: key} is, and the find of it, at a time where one is named
abbrev pub id_is : Datum → Query
id_is key = clause (path_clause (codes "_id" ∷ []) (test (eq_test key) no_tests)) no_clauses

abbrev pub find_of : Datum → Option ℕ → Find
find_of key at = record {
  reading = record { namespace = codes "d.c"; stages = match_stage (id_is key) ∷ []; at = at; after = None };
  batches = record { size = None; single = false };
}

-- an insert of {_id: 5} at router 2
abbrev pub first : Asked
first = asks 2 1 2 0 (request 1 false (insert_body (with_id five ∷ []) true))

abbrev pub first_told : Answered
first_told = tells first 3 2 done_reply

abbrev pub first_entry : Entry
first_entry = entry_at 2 2 1 0 five done

-- then one of {_id: 5L} at router 3, which does not know of the first one
abbrev pub second : Asked
second = asks 3 1 4 0 (request 1 false (insert_body (with_id long_five ∷ []) true))

abbrev pub second_told : Answered
second_told = tells second 5 3 duplicate_reply

abbrev pub second_entry : Entry
second_entry = entry_at 3 3 1 0 long_five (fails_with duplicate_key)

-- then a find at router 2, of a key and a time, if one is named; it knows of its own insert
abbrev pub finding : Datum → Option ℕ → Asked
finding key at = asks 2 2 6 2 (request 2 false (find_body key at))

-- it returns documents of Timestamp(1000, ..)
abbrev pub is_shown : Datum → Option ℕ → List Fields → (counter : ℕ) → Answered
is_shown key at documents counter = tells (finding key at) 7 2 (shown documents counter)

abbrev pub third : Asked
third = finding long_five None

abbrev pub third_told : Answered
third_told = is_shown long_five None (with_id five ∷ []) 2

abbrev pub both_entries : List Entry
both_entries = first_entry ∷ second_entry ∷ []

-- both entries, where only another node was given a moment
abbrev pub given_elsewhere : Account
given_elsewhere = record (account_of both_entries [] []) { given = record { node = 3; moment = 1000000; step = 0 } ∷ [] }

abbrev pub all_asked : List Asked
all_asked = first ∷ second ∷ third ∷ []

abbrev pub all_told : List Answered
all_told = first_told ∷ second_told ∷ third_told ∷ []

-- an insert of {_id: 5}, {_id: 5L} and {_id: 6} at router 2, ordered or not, with moreToCome or not
abbrev pub three_asked : (more ordered : Bool) → Asked
three_asked more ordered = asks 2 1 2 0 (request 1 more (insert_body three ordered))

-- the entries of its first two statements
abbrev pub two_entries : List Entry
two_entries = first_entry ∷ entry_at 3 2 1 1 long_five (fails_with duplicate_key) ∷ []

-- and of all three
abbrev pub three_entries : List Entry
three_entries = first_entry ∷ entry_at 3 2 1 1 long_five (fails_with duplicate_key) ∷ entry_at 4 2 1 2 six done ∷ []

-- an ordered insert of a document that is too large, and of {_id: 6}
abbrev pub deep_asked : Asked
deep_asked = asks 2 1 2 0 (request 1 false (insert_body (deep ∷ with_id six ∷ []) true))

abbrev pub deep_entry : Entry
deep_entry = record (entry_at 2 2 1 0 five (fails_with object_too_large)) { operation = insert_operation deep }

-- the old handshake
abbrev pub greeted : Asked
greeted = asks 2 1 2 0 greeting

-- after the first insert an update by {$set: {x: 1}} at router 2
abbrev pub changing : Asked
changing = asks 2 2 4 2 (request 2 false (update_with (set_one (with_id five) no_fields)))

abbrev pub changing_entry : Entry
changing_entry = record (entry_at 3 2 2 0 five (record done { modified = 1 })) { operation = update_operation (with_id five) change_one false }

-- {_id: 5, x: 1}, which it leaves
abbrev pub changed_five : Fields
changed_five = field (codes "_id") five (field (codes "x") number_one no_fields)

-- {n: .., nModified: .., ok: 1, operationTime: Timestamp(1000, 3)}
abbrev pub changed_reply : (count modified : ℕ) → Fields
changed_reply count modified =
    field (codes "n") (int32_value (pos count))
    (field (codes "nModified") (int32_value (pos modified))
    (field (codes "ok") number_one
    (field (codes "operationTime") (timestamp_value (timestamp 1000 3)) no_fields)))

-- and then a delete of {_id: 5L}
abbrev pub deleting : Asked
deleting = asks 2 3 6 3 (request 3 false (delete_with (taken_out (with_id long_five) number_one)))

abbrev pub deleting_entry : Entry
deleting_entry = record (entry_at 4 2 3 0 five done) { operation = delete_operation (with_id long_five) }

-- {n: .., ok: 1, operationTime: Timestamp(1000, ..)}
abbrev pub deleted_reply : (count counter : ℕ) → Fields
deleted_reply count counter =
    field (codes "n") (int32_value (pos count))
    (field (codes "ok") number_one
    (field (codes "operationTime") (timestamp_value (timestamp 1000 counter)) no_fields))

abbrev pub three_writes : List Entry
three_writes = first_entry ∷ changing_entry ∷ deleting_entry ∷ []

-- after these a find at router 2, which knows Timestamp(1000, 5)
abbrev pub finding_later : Option ℕ → Asked
finding_later at = asks 2 4 8 5 (request 4 false (find_body five at))

-- it returns documents of Timestamp(1000, ..)
abbrev pub is_shown_later : Option ℕ → List Fields → (counter : ℕ) → Answered
is_shown_later at documents counter = tells (finding_later at) 9 5 (shown documents counter)

-- after the first insert, three updates at once, without order, at router 2: of {_id: 5} by {$set: {}}; of {_id: 6} by the same, with upsert;
-- of {_id: 5} by {$set: {_id: 6}}
abbrev pub set_nothing : Fields
set_nothing = field (codes "$set") (document_value no_fields) no_fields

abbrev pub set_key : Fields
set_key = field (codes "$set") (document_value (with_id six)) no_fields

abbrev pub updating : Datum → Fields → Fields → Fields
updating key change others = field (codes "q") (document_value (with_id key)) (field (codes "u") (document_value change) others)

abbrev pub upserting : Asked
upserting = asks 2 2 4 2 (request 2 false
    (field (codes "update") (string_value (codes "c"))
    (field (codes "updates") (array_value (document_items (updating five set_nothing no_fields
    ∷ updating six set_nothing (field (codes "upsert") (boolean_value true) no_fields) ∷ updating five set_key no_fields ∷ [])))
    (field (codes "ordered") (boolean_value false)
    (field (codes "$db") (string_value (codes "d")) no_fields)))))

abbrev pub upserting_entries : List Entry
upserting_entries =
    first_entry
    ∷ record (entry_at 3 2 2 0 five done) { operation = update_operation (with_id five) set_nothing false }
    ∷ record (entry_at 4 2 2 1 six (record done { upserted = Some six })) { operation = update_operation (with_id six) set_nothing true }
    ∷ record (entry_at 5 2 2 2 five (fails_with immutable_field)) { operation = update_operation (with_id five) set_key false }
    ∷ []

-- {n: .., nModified: .., upserted: [{index: .., _id: 6}], writeErrors: [{index: 2, code: 66, errmsg: "ImmutableField"}], ok: 1,
-- operationTime: Timestamp(1000, 5)}
abbrev pub upserting_reply : (count modified index : ℕ) → Fields
upserting_reply count modified index =
    field (codes "n") (int32_value (pos count))
    (field (codes "nModified") (int32_value (pos modified))
    (field (codes "upserted") (array_value (document_items (field (codes "index") (int32_value (pos index)) (field (codes "_id") six no_fields) ∷ [])))
    (field (codes "writeErrors") (array_value (document_items (field (codes "index") (int32_value (pos 2))
    (field (codes "code") (int32_value (pos 66)) (field (codes "errmsg") (string_value (codes "ImmutableField")) no_fields)) ∷ [])))
    (field (codes "ok") number_one
    (field (codes "operationTime") (timestamp_value (timestamp 1000 5)) no_fields)))))

-- a delete of {_id: 6}, which is not there
abbrev pub unmet_delete : Asked
unmet_delete = asks 2 2 4 2 (request 2 false (delete_with (taken_out (with_id six) number_one)))

abbrev pub unmet_entries : List Entry
unmet_entries = first_entry ∷ record (entry_at 3 2 2 0 six (record done { count = 0 })) { operation = delete_operation (with_id six) } ∷ []

-- a find of 5 at router 2 that knows of Timestamp(1000, ..), and is answered at another
abbrev pub finding_at : (counter : ℕ) → Asked
finding_at counter = asks 2 4 8 counter (request 4 false (find_body five None))

abbrev pub is_shown_at : (taken told : ℕ) → List Fields → (counter : ℕ) → Answered
is_shown_at taken told documents counter = tells (finding_at taken) 9 told (shown documents counter)
