-- Replies to try the definitions on.
use Rattle.std.specs.Prelude.{codes, pos}
use Rattle.bson_model.specs.Tree.{Fields, no_fields, field, no_items, item, string_value, document_value, array_value, int32_value, timestamp_value}
use Rattle.base_model.specs.Times.{timestamp}

-- {n: 1, ok: 1, operationTime: Timestamp(1000, 2)}
abbrev pub done_reply : Fields
done_reply =
    field (codes "n") (int32_value (pos 1))
    (field (codes "ok") (int32_value (pos 1))
    (field (codes "operationTime") (timestamp_value (timestamp 1000 2)) no_fields))

-- {n: 0, writeErrors: [{index: 0, code: 11000, errmsg: "DuplicateKey"}], ok: 1, operationTime: Timestamp(1000, 3)}
abbrev pub duplicate_reply : Fields
duplicate_reply =
    field (codes "n") (int32_value (pos 0))
    (field (codes "writeErrors")
    (array_value
    (item
    (document_value
    (field (codes "index") (int32_value (pos 0))
    (field (codes "code") (int32_value (pos 11000))
    (field (codes "errmsg") (string_value (codes "DuplicateKey")) no_fields))))
    no_items))
    (field (codes "ok") (int32_value (pos 1))
    (field (codes "operationTime") (timestamp_value (timestamp 1000 3)) no_fields)))

-- {ok: 0, errmsg: "InvalidOptions", code: 72, codeName: "InvalidOptions", evidence: {greatest: Timestamp(1000, 2)}}
abbrev pub ahead_reply : Fields
ahead_reply =
    field (codes "ok") (int32_value (pos 0))
    (field (codes "errmsg") (string_value (codes "InvalidOptions"))
    (field (codes "code") (int32_value (pos 72))
    (field (codes "codeName") (string_value (codes "InvalidOptions"))
    (field (codes "evidence") (document_value (field (codes "greatest") (timestamp_value (timestamp 1000 2)) no_fields)) no_fields))))
