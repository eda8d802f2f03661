-- Reads of a collection of three documents, and cursors, to try the definitions on.
use Rattle.std.specs.Prelude.{ℕ, ℤ, List, [], ◌∷◌, codes, Option, Some, None, Bool, true, false, pos}
use Rattle.bson_model.specs.Tree.{Datum, string_value, document_value, array_value, boolean_value, int32_value, int64_value, Items, no_items, item, Fields, no_fields, field, joined}
use Rattle.base_model.specs.Times.{timestamp}
use Rattle.base_model.specs.Errors.{cursor_not_found}
use Rattle.base_model.specs.Refusals.{cursor_evidence}
use Rattle.command_model.specs.Reading.{Reading}
use Rattle.command_model.specs.Find.{Find}
use Rattle.command_model.specs.Cursors.{Batch}
use Rattle.command_model.specs.GetMore.{GetMore}
use Rattle.command_model.specs.Answers.{first_answer, next_answer, killed_answer, refusal_answer, answer_document}
use Rattle.command_laws.specs.SampleCommands.{database_d}
use Rattle.command_laws.specs.SampleRequests.{request, with_id}
use Rattle.pipeline_model.specs.SortKeys.{ascending, SortSpec}
use Rattle.pipeline_model.specs.Stages.{sort_stage}
use Rattle.history_model.specs.History.{delete_operation, done, Entry}
use Rattle.reply_model.specs.Exchanges.{Asked, Answered}
use Rattle.reply_model.specs.Cursors.{Cursor}
use Rattle.reply_model.specs.Right.{IsRight}
use Rattle.reply_laws.specs.SampleExchanges.{asks, entry_at, tells, account_of}

abbrev pub one : Datum
one = int32_value (pos 1)

abbrev pub two : Datum
two = int32_value (pos 2)

abbrev pub three : Datum
three = int32_value (pos 3)

-- {_id: 1}, {_id: 2} and {_id: 3}, inserted at Timestamp(1000, 2), (1000, 3) and (1000, 4)
abbrev pub kept : List Entry
kept = entry_at 2 2 1 0 one done ∷ entry_at 3 2 1 1 two done ∷ entry_at 4 2 1 2 three done ∷ []

abbrev pub all_three : List Fields
all_three = with_id one ∷ with_id two ∷ with_id three ∷ []

-- READS

-- {find: "c", sort: {_id: 1}, .., $db: "d"}
abbrev pub sorted_body : Fields → Fields
sorted_body others = field (codes "find") (string_value (codes "c")) (field (codes "sort") (document_value (with_id one)) (joined others database_d))

-- batchSize: size
abbrev pub of_size : ℕ → Fields → Fields
of_size size others = field (codes "batchSize") (int32_value (pos size)) others

-- upwards by _id
abbrev pub by_id : SortSpec
by_id = record { path = codes "_id" ∷ []; direction = ascending } ∷ []

abbrev pub reading_all : Reading
reading_all = record { namespace = codes "d.c"; stages = sort_stage by_id ∷ []; at = None; after = None }

-- the find in batches, of which the first has this size, and the only one or not
abbrev pub finds_sorted : (size : ℕ) → (single : Bool) → Find
finds_sorted size single = record { reading = reading_all; batches = record { size = Some size; single = single } }

-- router 2 takes it as its second request, at Timestamp(1000, 4); with moreToCome or not
abbrev pub sorting : (more : Bool) → (size : ℕ) → Fields → Asked
sorting more size others = asks 2 2 6 4 (request 2 more (sorted_body (of_size size others)))

-- a batch of Timestamp(1000, 4), with a cursor
abbrev pub batch : ℤ → List Fields → Batch
batch cursor documents = record { cursor = cursor; namespace = codes "d.c"; documents = documents; time = timestamp 1000 4 }

-- the reply to a request
abbrev pub told_first : Asked → ℤ → List Fields → Answered
told_first a cursor documents = tells a 7 4 (answer_document (first_answer (batch cursor documents)))

abbrev pub told_next : Asked → ℤ → List Fields → Answered
told_next a cursor documents = tells a 9 4 (answer_document (next_answer (batch cursor documents)))

-- CURSORS

-- cursor 1 of router 2 with these documents
abbrev pub open_with : List Fields → Cursor
open_with remaining = record { router = 2; life = 1; number = pos 1; namespace = codes "d.c"; time = timestamp 1000 4; remaining = remaining }

-- {getMore: 1L, collection: .., .., $db: "d"}
abbrev pub more_body : (collection : List ℕ) → Fields → Fields
more_body collection others = field (codes "getMore") (int64_value (pos 1)) (field (codes "collection") (string_value collection) (joined others database_d))

abbrev pub asks_more : (namespace : List ℕ) → Option ℕ → GetMore
asks_more namespace size = record { namespace = namespace; cursor = pos 1; size = size }

-- a router takes it, as its request with this count; with moreToCome or not
abbrev pub going_on : (more : Bool) → (router count : ℕ) → (collection : List ℕ) → Fields → Asked
going_on more router count collection others = asks router count 8 4 (request count more (more_body collection others))

-- {ok: 0, code: 43, .., evidence: {cursor: 1L}}
abbrev pub gone : Fields
gone = answer_document (refusal_answer (record { error = cursor_not_found; evidence = cursor_evidence (pos 1) }))

abbrev pub told_gone : Asked → Answered
told_gone a = tells a 9 4 gone

abbrev pub numbers : List ℤ → Items
numbers [] = no_items
numbers (n ∷ ns) = item (int64_value n) (numbers ns)

-- {killCursors: .., cursors: [..], $db: "d"}
abbrev pub kill_body : (collection : List ℕ) → List ℤ → Fields
kill_body collection cursors = field (codes "killCursors") (string_value collection) (field (codes "cursors") (array_value (numbers cursors)) database_d)

abbrev pub killing : (more : Bool) → (collection : List ℕ) → List ℤ → Asked
killing more collection cursors = asks 2 3 8 4 (request 3 more (kill_body collection cursors))

abbrev pub told_killed : Asked → (killed missing : List ℤ) → Answered
told_killed a killed missing = tells a 9 4 (answer_document (killed_answer killed missing))

-- STEPS

-- its reply of three documents is right, where these cursors were opened before, and these afterwards
abbrev pub Turns : List Cursor → Asked → Answered → List Cursor → Type 0
Turns cursors a t next = IsRight (account_of kept [] []) cursors a t next

-- it is not, whatever cursors there are afterwards
abbrev pub TurnsNever : List Cursor → Asked → Answered → Type 0
TurnsNever cursors a t = (next : List Cursor) → IsRight (account_of kept [] []) cursors a t next → ⊥

-- singleBatch: true
abbrev pub single_batch : Fields
single_batch = field (codes "singleBatch") (boolean_value true) no_fields

-- cursor 1 of router 3, with {_id: 3}
abbrev pub another_router : Cursor
another_router = record { router = 3; life = 1; number = pos 1; namespace = codes "d.c"; time = timestamp 1000 4; remaining = with_id three ∷ [] }

-- a find in batches of 2, and the next batch twice
abbrev pub first_asked : List Asked
first_asked = sorting false 2 no_fields ∷ going_on false 2 3 (codes "c") no_fields ∷ going_on false 2 4 (codes "c") no_fields ∷ []

abbrev pub first_replies : List Answered
first_replies =
    told_first (sorting false 2 no_fields) (pos 1) (with_id one ∷ with_id two ∷ [])
    ∷ told_next (going_on false 2 3 (codes "c") no_fields) (pos 0) (with_id three ∷ [])
    ∷ told_gone (going_on false 2 4 (codes "c") no_fields)
    ∷ []

-- and then {_id: 3} is deleted at Timestamp(1000, 5), and {_id: 4} inserted at Timestamp(1000, 6)
abbrev pub four : Datum
four = int32_value (pos 4)

abbrev pub changed_later : List Entry
changed_later = entry_at 2 2 1 0 one done ∷ entry_at 3 2 1 1 two done ∷ entry_at 4 2 1 2 three done
    ∷ record (entry_at 5 2 3 0 three done) { operation = delete_operation (with_id three) } ∷ entry_at 6 2 4 0 four done ∷ []

-- a next batch of Timestamp(1000, 6)
abbrev pub told_later : Asked → List Fields → Answered
told_later a documents = tells a 9 6 (answer_document (next_answer (record (batch (pos 0) documents) { time = timestamp 1000 6 })))
