-- Reads with a read concern, counts, and reads of a few documents, to try the definitions on.
use Rattle.std.specs.Prelude.{ℕ, List, [], ◌∷◌, codes, Option, Some, None, false, pos}
use Rattle.bson_model.specs.Tree.{string_value, document_value, int32_value, timestamp_value, Fields, no_fields, field, joined}
use Rattle.base_model.specs.Times.{timestamp}
use Rattle.base_model.specs.Refusals.{time_ahead}
use Rattle.command_model.specs.Reading.{Reading}
use Rattle.command_model.specs.Find.{Find}
use Rattle.command_model.specs.Answers.{count_answer, refusal_answer, answer_document}
use Rattle.command_laws.specs.SampleCommands.{database_d}
use Rattle.command_laws.specs.SampleRequests.{concern_named, request, shown, with_id}
use Rattle.pipeline_model.specs.SortKeys.{SortSpec, ascending}
use Rattle.pipeline_model.specs.Stages.{Stage}
use Rattle.history_model.specs.History.{done, Entry}
use Rattle.reply_model.specs.Exchanges.{Asked, Answered}
use Rattle.reply_laws.specs.SampleExchanges.{asks, entry_at, tells}
use Rattle.reply_laws.specs.SampleReads.{one, two, three, four}

-- {_id: 1}, {_id: 2}, {_id: 3} and {_id: 4} are inserted at Timestamp(1000, 2) to (1000, 5)
abbrev pub grown : List Entry
grown = entry_at 2 2 1 0 one done ∷ entry_at 3 2 1 1 two done ∷ entry_at 4 2 1 2 three done ∷ entry_at 5 3 1 0 four done ∷ []

abbrev pub all_four : List Fields
all_four = with_id one ∷ with_id two ∷ with_id three ∷ with_id four ∷ []

-- READ CONCERNS

-- readConcern: {afterClusterTime: Timestamp(1000, ..)}
abbrev pub concern_after : (counter : ℕ) → Fields
concern_after counter = field (codes "readConcern") (document_value (field (codes "afterClusterTime")
    (timestamp_value (timestamp 1000 counter)) no_fields)) no_fields

-- readConcern: {level: "snapshot", atClusterTime: Timestamp(1000, ..)}
abbrev pub concern_at : (counter : ℕ) → Fields
concern_at counter = concern_named (Some (timestamp 1000 counter))

-- {find: "c", .., $db: "d"}, which router 2 takes as its second request, at Timestamp(1000, 4)
abbrev pub reads_all : Fields → Asked
reads_all others = asks 2 2 6 4 (request 2 false (field (codes "find") (string_value (codes "c")) (joined others database_d)))

abbrev pub reading_of : List Stage → (at after : Option ℕ) → Reading
reading_of stages at after = record { namespace = codes "d.c"; stages = stages; at = at; after = after }

-- without a size
abbrev pub find_in : Reading → Find
find_in reading = record { reading = reading; batches = record { size = None; single = false } }

-- It returns, at Timestamp(1000, 6), documents of Timestamp(1000, ..).
abbrev pub told_at : Asked → (counter : ℕ) → List Fields → Answered
told_at a counter documents = tells a 7 6 (shown documents counter)

-- or that its time is ahead of Timestamp(1000, ..)
abbrev pub told_ahead : Asked → (counter : ℕ) → Answered
told_ahead a counter = tells a 7 6 (answer_document (refusal_answer (time_ahead (timestamp 1000 counter))))

-- COUNTS

-- {count: "c", .., $db: "d"}
abbrev pub counting : Fields → Asked
counting others = asks 2 2 6 4 (request 2 false (field (codes "count") (string_value (codes "c")) (joined others database_d)))

abbrev pub told_count : Asked → (n counter : ℕ) → Answered
told_count a n counter = tells a 7 4 (answer_document (count_answer n (timestamp 1000 counter)))

-- skip: .., limit: ..
abbrev pub few_of : (skip limit : ℕ) → Fields
few_of skip limit = field (codes "skip") (int32_value (pos skip)) (field (codes "limit") (int32_value (pos limit)) no_fields)

-- FEW DOCUMENTS

-- limit: 2
abbrev pub at_most_two : Fields
at_most_two = field (codes "limit") (int32_value (pos 2)) no_fields

-- sort: {x: 1}, limit: 1
abbrev pub least_one : Fields
least_one = field (codes "sort") (document_value (field (codes "x") (int32_value (pos 1)) no_fields)) (field (codes "limit") (int32_value (pos 1)) no_fields)

abbrev pub by_x : SortSpec
by_x = record { path = codes "x" ∷ []; direction = ascending } ∷ []
