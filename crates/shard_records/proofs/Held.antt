-- What the program can hold, from what is known of its parts.
use Rattle.std.proofs.Common.{◌≡◌, List, [], ◌∷◌, true}
use Rattle.std.specs.List.{AllByRecursion}
use Rattle.std.specs.Str.{IsUtf8}
use Rattle.value_model.specs.Keys.{min_bound}
use Rattle.chunk_model.specs.Tables.{Chunk, Table}
use Rattle.chunk_table.specs.Whole.{HasRange, IsWritableChunk, follow_from}
use Rattle.shard_records.specs.Readable.{IsHeldChunk, IsHeldTable}

chunks_held : (chunks : List Chunk) → AllByRecursion HasRange chunks → AllByRecursion IsWritableChunk chunks → AllByRecursion IsHeldChunk chunks
chunks_held [] ranges writable = tt
chunks_held (c ∷ chunks) ranges writable = (record { writable = writable.0; range = ranges.0 }, chunks_held chunks ranges.1 writable.1)

pub table_held : (t : Table) → IsUtf8 t.namespace → AllByRecursion HasRange t.chunks → follow_from min_bound t.chunks ≡ true
    → AllByRecursion IsWritableChunk t.chunks → IsHeldTable t
table_held t name ranges follow writable = record { name = name; chunks = chunks_held t.chunks ranges writable; follow = follow }
