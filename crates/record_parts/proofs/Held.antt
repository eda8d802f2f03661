-- Parts that the program can hold.
use Rattle.std.proofs.Common.{◌≡◌, ◌<◌, ◌^◌, List, [], ◌∷◌, length, true}
use Rattle.std.specs.List.{AllByRecursion}
use Rattle.std.specs.Str.{IsUtf8}
use Rattle.value_model.specs.Keys.{IsRange, min_bound}
use Rattle.chunk_model.specs.Tables.{Chunk, Table}
use Rattle.chunk_table.specs.Whole.{IsWritableBound, IsWritableChunk, follow_from}
use Rattle.shard_records.specs.Readable.{IsHeldChunk, IsHeldTable}

pub chunks_writable : (chunks : List Chunk) → AllByRecursion IsHeldChunk chunks → AllByRecursion IsWritableChunk chunks
chunks_writable [] held = tt
chunks_writable (c ∷ chunks) held = (held.0.writable, chunks_writable chunks held.1)

pub chunk_held : (c : Chunk) → IsWritableBound c.range.min → IsWritableBound c.range.max → IsRange c.range → length c.owners < 2 ^ 32 → IsHeldChunk c
chunk_held c min max range count = record { writable = record { min = min; max = max; count = count }; range = range }

pub table_held : (t : Table) → IsUtf8 t.namespace → AllByRecursion IsHeldChunk t.chunks → follow_from min_bound t.chunks ≡ true → IsHeldTable t
table_held t name chunks follow = record { name = name; chunks = chunks; follow = follow }
