-- The limits of documents. Depth counts how documents and arrays are nested, the outermost being 1; bytes are those of the
-- one encoding.
use Rattle.std.specs.Prelude.{ℕ, ◌≤◌, ◌^◌, length}
use Rattle.bson_model.specs.Tree.{Fields, document_depth}
use Rattle.bson_model.specs.Spelling.{written}

-- Each stated length is a non-negative int32, so it is less than this (BSON 1.1, "Basic Types").
abbrev pub length_limit : ℕ
length_limit = 2 ^ 31

-- what is read and stored (MongoDB manual, "MongoDB Limits and Thresholds": nested depth, BSON document size)
abbrev pub most_depth_kept : ℕ
most_depth_kept = 100

abbrev pub most_bytes_kept : ℕ
most_bytes_kept = 16777216

-- what is written: stored documents, and the documents and arrays of replies and of records that contain them
abbrev pub most_depth_written : ℕ
most_depth_written = 104

abbrev pub most_bytes_written : ℕ
most_bytes_written = 400000000

abbrev pub IsWritable : Fields → Type 0
IsWritable ms = (document_depth ms ≤ most_depth_written) × (length (written ms) ≤ most_bytes_written)

-- What is read from a message of 48,000,000 bytes may have an encoding five times as long: the names in an array may be any, and an item of two bytes,
-- without a name, is encoded with its index of up to eight digits.
abbrev pub most_bytes_read : ℕ
most_bytes_read = 240000000
