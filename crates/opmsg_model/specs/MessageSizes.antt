-- How large the documents of requests are. A message has at most 48,000,000 bytes, and a document that is read at most 100 levels (MongoDB manual, "MongoDB
-- Limits and Thresholds"). An encoding may be five times as long as the bytes that were read: the names in an array may be any, and an item of two bytes,
-- without a name, is encoded with its index of up to eight digits.
use Rattle.std.specs.Prelude.{ℕ, ◌≤◌, length}
use Rattle.std.specs.List.{AllByRecursion}
use Rattle.bson_model.specs.Tree.{Fields, document_depth}
use Rattle.bson_model.specs.Spelling.{written}
use Rattle.opmsg_model.specs.Messages.{most_bytes}
use Rattle.opmsg_model.specs.Requests.{Body, read_body, faulty_body}
use Rattle.bson_model.specs.Limits.{most_depth_kept, most_bytes_read}

-- at most this many levels, and this many bytes in its encoding
abbrev pub IsWithin : (depth size : ℕ) → Fields → Type 0
IsWithin depth size document = (document_depth document ≤ depth) × (length (written document) ≤ size)

-- a document as it is read
abbrev pub IsSmall : Fields → Type 0
IsSmall document = IsWithin most_depth_kept most_bytes_read document

-- each document is small, or the fault's offset is within the longest message
abbrev pub IsSmallBody : Body → Type 0
IsSmallBody (read_body document sequences) = IsSmall document × AllByRecursion (λ s. AllByRecursion IsSmall s.1) sequences
IsSmallBody (faulty_body fault offset) = offset ≤ most_bytes
