-- The chunk that a search comes to first.
use Rattle.std.proofs.Common.{◌≡◌, ℕ, ◌<◌, List, length, get_or, drop, map, refl, drop-cons}
use Rattle.std.specs.Prelude.{true, Some}
use Rattle.bson_model.specs.Tree.{Datum}
use Rattle.value_model.specs.Keys.{range_span, inside}
use Rattle.value_model.specs.Keys.{Range}
use Rattle.chunk_model.specs.Tables.{chunk_of}
use Rattle.chunk_model.specs.Changes.{same_range, chunk_with}
use Rattle.chunk_table.specs.declared.chunk.Chunk.{Chunk}
use Rattle.chunk_table.specs.Meanings.{chunk_view}

pub found_here : (key : Datum) (chunks : List Chunk) (i : ℕ) (chunk : Chunk) → i < length chunks → chunk ≡ get_or chunks i chunk
    → inside (range_span chunk.range) key ≡ true → chunk_of key (map chunk_view (drop i chunks)) ≡ Some (chunk_view chunk)
found_here key chunks i chunk within is has = rw (drop-cons chunks i chunk within, ← is, has) refl

pub range_here : (range : Range) (chunks : List Chunk) (i : ℕ) (chunk : Chunk) → i < length chunks → chunk ≡ get_or chunks i chunk
    → same_range chunk.range range ≡ true → chunk_with range (map chunk_view (drop i chunks)) ≡ Some (chunk_view chunk)
range_here range chunks i chunk within is has = rw (drop-cons chunks i chunk within, ← is, has) refl
