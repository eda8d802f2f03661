-- Requests with clients' numbers, answers and entries to try the definitions on.
use Rattle.std.specs.Prelude.{◌≡◌, ℕ, ℤ, List, [], ◌∷◌, Bool, true, false, Some, map, pos, codes}
use Rattle.bson_model.specs.Tree.{Datum, string_value, document_value, array_value, boolean_value, int32_value, int64_value, timestamp_value, Fields, no_fields, field, joined}
use Rattle.command_model.specs.AnswerParts.{document_items}
use Rattle.command_model.specs.Answers.{answer_document, refusal_answer}
use Rattle.base_model.specs.Errors.{duplicate_key}
use Rattle.base_model.specs.Refusals.{time_ahead}
use Rattle.base_model.specs.Times.{timestamp}
use Rattle.command_model.specs.Writes.{WriteCommand, insert_kind}
use Rattle.command_laws.specs.SampleCommands.{change_one, database_d, number_one, set_one, taken_out}
use Rattle.command_laws.specs.SampleNumbers.{fifteen_sevens, number_of, numbered, sevens}
use Rattle.base_model.specs.SampleReplies.{done_reply, duplicate_reply}
use Rattle.command_laws.specs.SampleRequests.{find_body, five, insert_body, long_five, request, six, three, with_id}
use Rattle.history_model.specs.History.{client_session, StatementNumber, insert_operation, update_operation, delete_operation, Operation, Outcome, done, fails_with, Entry}
use Rattle.reply_model.specs.Exchanges.{Asked, Answered}
use Rattle.reply_model.specs.Cursors.{Cursor}
use Rattle.reply_model.specs.Right.{IsRight}
use Rattle.reply_laws.specs.SampleExchanges.{asks, entry_at, first_entry, tells, account_of}

-- 16 bytes of another session
abbrev pub eights : List ℕ
eights = 8 ∷ fifteen_sevens

-- a number of a session, and an entry at Timestamp(1000, ..) under it
abbrev pub number_in : List ℕ → (transaction : ℤ) → (index : ℕ) → StatementNumber
number_in session transaction index = record { session = client_session session; transaction = transaction; index = index }

abbrev pub entry_under : List ℕ → (counter : ℕ) → (transaction : ℤ) → (index : ℕ) → Operation → Outcome → Entry
entry_under session counter transaction index operation outcome = record {
  time = timestamp 1000 counter;
  shard = 1;
  number = number_in session transaction index;
  namespace = codes "d.c";
  operation = operation;
  outcome = outcome;
}

-- {insert: "c", documents: [..], ordered: .., lsid: {id: sevens}, txnNumber: .., $db: "d"}, and what it requests
abbrev pub insert_under : ℤ → List Fields → Bool → Fields
insert_under transaction documents ordered =
    field (codes "insert") (string_value (codes "c"))
    (field (codes "documents") (array_value (document_items documents))
    (field (codes "ordered") (boolean_value ordered) (joined (numbered (int64_value transaction)) database_d)))

abbrev pub inserts_under : ℤ → List Fields → Bool → WriteCommand
inserts_under transaction documents ordered = record {
  kind = insert_kind;
  namespace = codes "d.c";
  operations = map insert_operation documents;
  ordered = ordered;
  number = number_of transaction;
}

-- where these requests came, and there was no reply before, this reply is right in that step, at Timestamp(1000, ..), and nothing else
abbrev pub IsToldJust : List Entry → List Asked → Asked → (step counter : ℕ) → Fields → Type 0
IsToldJust history asked a step counter document =
    IsRight (account_of history asked []) [] a (tells a step counter document) []
    × ((other : Fields) (next : List Cursor) → IsRight (account_of history asked []) [] a (tells a step counter other) next → other ≡ document)

-- no reply is right
abbrev pub IsUntold : List Entry → List Asked → Asked → (step counter : ℕ) → Type 0
IsUntold history asked a step counter =
    (other : Fields) (next : List Cursor) → IsRight (account_of history asked []) [] a (tells a step counter other) next → ⊥

-- AN INSERT THAT IS SENT AGAIN

-- an insert of {_id: 5} at router 2, as transaction 4, and the same bytes but for the message's number at router 3
abbrev pub sent_first : Asked
sent_first = asks 2 1 2 0 (request 1 false (insert_under (pos 4) (with_id five ∷ []) true))

abbrev pub sent_again : Asked
sent_again = asks 3 1 4 0 (request 2 false (insert_under (pos 4) (with_id five ∷ []) true))

abbrev pub first_answer : Answered
first_answer = tells sent_first 3 2 done_reply

abbrev pub answer_again : Answered
answer_again = tells sent_again 5 2 done_reply

abbrev pub put_five : Entry
put_five = entry_under sevens 2 (pos 4) 0 (insert_operation (with_id five)) done

abbrev pub both_sent : List Asked
both_sent = sent_first ∷ sent_again ∷ []

abbrev pub both_answers : List Answered
both_answers = first_answer ∷ answer_again ∷ []

-- ONE THAT FAILED

-- after an insert of {_id: 5} one of {_id: 5L} at router 2, as transaction 4; then {_id: 5} is deleted
abbrev pub failing : Asked
failing = asks 2 2 4 2 (request 2 false (insert_under (pos 4) (with_id long_five ∷ []) true))

abbrev pub failed : Entry
failed = entry_under sevens 3 (pos 4) 0 (insert_operation (with_id long_five)) (fails_with duplicate_key)

abbrev pub removed : Entry
removed = record (entry_at 4 2 3 0 five done) { operation = delete_operation (with_id five) }

abbrev pub until_removed : List Entry
until_removed = first_entry ∷ failed ∷ removed ∷ []

-- it is sent again to router 3
abbrev pub failing_again : Asked
failing_again = asks 3 1 8 0 (request 2 false (insert_under (pos 4) (with_id long_five ∷ []) true))

abbrev pub failing_sent : List Asked
failing_sent = failing ∷ failing_again ∷ []

-- A NUMBER THAT IS USED AGAIN

-- {update: "c", updates: [{q: {_id: key}, u: {$set: {x: 1}}, upsert: true}], lsid: {id: sevens}, txnNumber: 3, $db: "d"}
abbrev pub upsert_three : Datum → Fields
upsert_three key =
    field (codes "update") (string_value (codes "c"))
    (field (codes "updates") (array_value (document_items (set_one (with_id key) (field (codes "upsert") (boolean_value true) no_fields) ∷ [])))
    (joined (numbered (int64_value (pos 3))) database_d))

-- {delete: "c", deletes: [{q: {_id: key}, limit: 1}], lsid: {id: sevens}, txnNumber: 3, $db: "d"}
abbrev pub delete_three : Datum → Fields
delete_three key =
    field (codes "delete") (string_value (codes "c"))
    (field (codes "deletes") (array_value (document_items (taken_out (with_id key) number_one ∷ [])))
    (joined (numbered (int64_value (pos 3))) database_d))

-- at router 2
abbrev pub first_three : Fields → Asked
first_three body = asks 2 1 2 0 (request 1 false body)

-- and at router 3
abbrev pub then_three : Fields → Asked
then_three body = asks 3 1 4 0 (request 2 false body)

abbrev pub upserted_five : Entry
upserted_five = entry_under sevens 2 (pos 3) 0 (update_operation (with_id five) change_one true) (record done { upserted = Some five })

abbrev pub inserted_five : Entry
inserted_five = entry_under sevens 2 (pos 3) 0 (insert_operation (with_id five)) done

-- {insert: "b", documents: [{_id: 5}], lsid: {id: sevens}, txnNumber: 3, $db: "d"}, and its entry
abbrev pub insert_elsewhere : Fields
insert_elsewhere =
    field (codes "insert") (string_value (codes "b"))
    (field (codes "documents") (array_value (document_items (with_id five ∷ [])))
    (joined (numbered (int64_value (pos 3))) database_d))

abbrev pub five_elsewhere : Entry
five_elsewhere = record inserted_five { namespace = codes "d.b" }

-- requests with these bodies, and the reply to the second
abbrev pub sends_three : (first second : Fields) → List Asked
sends_three first second = first_three first ∷ then_three second ∷ []

abbrev pub IsToldThen : Entry → (first second document : Fields) → Type 0
IsToldThen e first second document = IsToldJust (e ∷ []) (sends_three first second) (then_three second) 5 4 document

abbrev pub insert_six : Fields
insert_six = insert_under (pos 3) (with_id six ∷ []) true

abbrev pub insert_five : Fields
insert_five = insert_under (pos 3) (with_id five ∷ []) true

-- {n: 1, nModified: 0, ok: 1, operationTime: Timestamp(1000, 2)}
abbrev pub unmodified_reply : Fields
unmodified_reply =
    field (codes "n") number_one
    (field (codes "nModified") (int32_value (pos 0))
    (field (codes "ok") number_one
    (field (codes "operationTime") (timestamp_value (timestamp 1000 2)) no_fields)))

-- an insert of {_id: 6} without a number
abbrev pub unnumbered_six : Asked
unnumbered_six = asks 3 1 4 0 (request 2 false (insert_body (with_id six ∷ []) true))

-- OLDER TRANSACTIONS

-- an insert of {_id: 5} at router 2, as transaction 5
abbrev pub newer : Asked
newer = asks 2 1 2 0 (request 1 false (insert_under (pos 5) (with_id five ∷ []) true))

abbrev pub newer_entry : Entry
newer_entry = entry_under sevens 2 (pos 5) 0 (insert_operation (with_id five)) done

-- and then one of {_id: 5L} and {_id: 6} at router 3, as transaction 4
abbrev pub two_documents : List Fields
two_documents = with_id long_five ∷ with_id six ∷ []

abbrev pub late_two : Bool → Asked
late_two ordered = asks 3 1 4 0 (request 2 false (insert_under (pos 4) two_documents ordered))

-- {index: .., code: 225, errmsg: "TransactionTooOld", evidence: {txnNumber: ..}}
abbrev pub older_error : ℤ → ℕ → Fields
older_error greatest index =
    field (codes "index") (int32_value (pos index))
    (field (codes "code") (int32_value (pos 225))
    (field (codes "errmsg") (string_value (codes "TransactionTooOld"))
    (field (codes "evidence") (document_value (field (codes "txnNumber") (int64_value greatest) no_fields)) no_fields)))

-- {n: .., writeErrors: [these], ok: 1, operationTime: Timestamp(1000, ..)}
abbrev pub errors_reply : (count counter : ℕ) → List Fields → Fields
errors_reply count counter errors =
    field (codes "n") (int32_value (pos count))
    (field (codes "writeErrors") (array_value (document_items errors))
    (field (codes "ok") number_one
    (field (codes "operationTime") (timestamp_value (timestamp 1000 counter)) no_fields)))

-- an insert of {_id: 6} at router 3, as this transaction
abbrev pub six_as : ℤ → Asked
six_as transaction = asks 3 1 4 0 (request 2 false (insert_under transaction (with_id six ∷ []) true))

-- and one of {_id: 5} at router 2 before it, as transaction 0
abbrev pub zero_sent : Asked
zero_sent = asks 2 1 2 0 (request 1 false (insert_under (pos 0) (with_id five ∷ []) true))

-- TWO STATEMENTS

-- after an insert of {_id: 5} one of {_id: 5L} and {_id: 6} as transaction 4, at router 2 and at another time again
abbrev pub two_sent : (router count came : ℕ) → Bool → Asked
two_sent router count came ordered = asks router count came 2 (request count false (insert_under (pos 4) two_documents ordered))

-- one of {_id: 5} and {_id: 6} without order
abbrev pub sent_two : Asked
sent_two = asks 2 1 2 0 (request 1 false (insert_under (pos 4) (with_id five ∷ with_id six ∷ []) false))

-- its second statement is done, after the error of the first
abbrev pub second_done : (counter : ℕ) → Entry
second_done counter = entry_under sevens counter (pos 4) 1 (insert_operation (with_id six)) done

abbrev pub both_done : List Entry
both_done = first_entry ∷ failed ∷ second_done 4 ∷ []

-- a find of {_id: 5} at Timestamp(1000, 2) at router 3, which knows Timestamp(1000, 0), and returns that as its greatest
abbrev pub finding_two : Asked
finding_two = asks 3 1 6 0 (request 2 false (find_body five (Some (timestamp 1000 2))))

abbrev pub told_ahead : Answered
told_ahead = tells finding_two 7 0 (answer_document (refusal_answer (time_ahead (timestamp 1000 0))))

-- The first gets the reply at router 2 that it has ended. Then that router learns of the second 1001, and takes the insert again, without order.
abbrev pub ended : Answered
ended = tells (two_sent 2 2 4 true) 5 3 duplicate_reply

abbrev pub unordered_later : Asked
unordered_later = record (two_sent 2 3 8 false) { time = timestamp 1001 0 }

-- THREE STATEMENTS

-- an insert of {_id: 5}, {_id: 5L} and {_id: 6} without order, as transaction 4, at router 2
abbrev pub three_sent : (count came : ℕ) → Asked
three_sent count came = asks 2 count came 0 (request count false (insert_under (pos 4) three false))

abbrev pub three_done : List Entry
three_done =
    put_five
    ∷ entry_under sevens 3 (pos 4) 1 (insert_operation (with_id long_five)) (fails_with duplicate_key)
    ∷ entry_under sevens 4 (pos 4) 2 (insert_operation (with_id six)) done
    ∷ []

-- the same with a sequence: {insert: "c", ordered: false, lsid: {id: sevens}, txnNumber: 4, $db: "d"}
abbrev pub three_without : Fields
three_without =
    field (codes "insert") (string_value (codes "c")) (field (codes "ordered") (boolean_value false) (joined (numbered (int64_value (pos 4))) database_d))
