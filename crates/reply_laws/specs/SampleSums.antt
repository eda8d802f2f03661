-- A sum of two values, to try the definitions on.
use Rattle.std.specs.Prelude.{List, [], ◌∷◌, codes, false, pos}
use Rattle.bson_model.specs.Tree.{Datum, string_value, document_value, array_value, int32_value, int64_value, null_value, timestamp_value, no_items, item, Fields, no_fields, field}
use Rattle.base_model.specs.Times.{timestamp}
use Rattle.base_model.specs.Errors.{overflow}
use Rattle.base_model.specs.Refusals.{without_evidence}
use Rattle.command_model.specs.Cursors.{Batch}
use Rattle.command_model.specs.Answers.{first_answer, refusal_answer, answer_document}
use Rattle.command_laws.specs.SampleCommands.{database_d}
use Rattle.command_laws.specs.SampleRequests.{request}
use Rattle.pipeline_model.specs.Operands.{path_operand, constant_operand}
use Rattle.pipeline_model.specs.GroupSpecs.{GroupSpec, sum_accumulator}
use Rattle.pipeline_laws.specs.SamplePipelines.{sums}
use Rattle.history_model.specs.History.{insert_operation, done, Entry}
use Rattle.reply_model.specs.Exchanges.{Asked, Answered}
use Rattle.reply_laws.specs.SampleExchanges.{asks, entry_at, tells}
use Rattle.reply_laws.specs.SampleReads.{batch, one, two}

-- {_id: key, v: value}
abbrev pub valued : Datum → Datum → Fields
valued key value = field (codes "_id") key (field (codes "v") value no_fields)

-- {_id: 1, v: first} and {_id: 2, v: second} are inserted at Timestamp(1000, 2) and (1000, 3)
abbrev pub both_valued : (first second : Datum) → List Entry
both_valued first second =
    record (entry_at 2 2 1 0 one done) { operation = insert_operation (valued one first) }
    ∷ record (entry_at 3 2 1 1 two done) { operation = insert_operation (valued two second) }
    ∷ []

-- the greatest int64
abbrev pub greatest : Datum
greatest = int64_value (pos 9223372036854775807)

-- {aggregate: "c", pipeline: [{$group: {_id: null, s: {$sum: "$v"}}}], cursor: {}, $db: "d"}
abbrev pub summing : Asked
summing =
    asks 2 2 6 4
    (request 2 false
    (field (codes "aggregate") (string_value (codes "c"))
    (field (codes "pipeline") (array_value (item (document_value sums) no_items))
    (field (codes "cursor") (document_value no_fields) database_d))))

abbrev pub sum_spec : GroupSpec
sum_spec = record {
  key = constant_operand null_value;
  fields = record { name = codes "s"; accumulator = sum_accumulator (path_operand (codes "v" ∷ [])) }
      ∷ [];
}

-- the reply is that a sum is outside int64
abbrev pub told_overflow : Answered
told_overflow = tells summing 7 4 (answer_document (refusal_answer (without_evidence overflow)))

-- the same as the fault of a statement
abbrev pub told_fault : Answered
told_fault =
    tells summing 7 4
    (field (codes "n") (int32_value (pos 0))
    (field (codes "writeErrors")
    (array_value
    (item
    (document_value
    (field (codes "index") (int32_value (pos 0))
    (field (codes "code") (int32_value (pos 15))
    (field (codes "errmsg") (string_value (codes "Overflow")) no_fields))))
    no_items))
    (field (codes "ok") (int32_value (pos 1))
    (field (codes "operationTime") (timestamp_value (timestamp 1000 4)) no_fields))))

-- or a batch
abbrev pub told_batch : Batch → Answered
told_batch b = tells summing 7 4 (answer_document (first_answer b))

-- {_id: null, s: sum}
abbrev pub of_sum : Datum → Batch
of_sum sum = batch (pos 0) (field (codes "_id") null_value (field (codes "s") sum no_fields) ∷ [])
