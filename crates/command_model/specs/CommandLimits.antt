-- The limits of commands.
use Rattle.std.specs.Prelude.{ℕ}

-- the statements of one command (MongoDB manual, "hello", `maxWriteBatchSize`)
abbrev pub most_statements : ℕ
most_statements = 100000

-- the keys of the documents that the statements of one command upsert, in bytes, so that the reply is within the longest written one (own)
abbrev pub most_bytes_upserted : ℕ
most_bytes_upserted = 250000000

-- the cursors that one answer names: no message names more, and no answer can (own)
abbrev pub most_cursors : ℕ
most_cursors = 8000000
