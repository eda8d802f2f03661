-- What versions, owners, chunks and tables of the program are.
use Rattle.std.specs.Prelude.{ℕ, List, map}
use Rattle.cluster_base.specs.declared.time.Time.{Time}
use Rattle.chunk_model.specs.Versions as versions
use Rattle.chunk_model.specs.Tables as tables
use Rattle.chunk_table.specs.declared.version.Version.{Version}
use Rattle.chunk_table.specs.declared.chunk.Owned.{Owned}
use Rattle.chunk_table.specs.declared.chunk.Chunk.{Chunk}

abbrev pub version_view : Version → versions.Version
version_view v = record { epoch = v.epoch; major = v.major; minor = v.minor }

abbrev pub owned_view : Owned → tables.Owned
owned_view o = record { since = o.valid_after.0; shard = o.shard.0 }

abbrev pub chunk_view : Chunk → tables.Chunk
chunk_view c = record { range = c.range; version = version_view c.version; owners = c.history }

abbrev pub table_of_parts : List ℕ → ℕ → ℕ → Time → List Chunk → tables.Table
table_of_parts namespace epoch changes oldest chunks =
    record { namespace = namespace; epoch = epoch; changes = changes; oldest = oldest.0; chunks = map chunk_view chunks }
