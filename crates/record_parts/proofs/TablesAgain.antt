-- A table is read as it is encoded.
use Rattle.std.proofs.Common.{◌≡◌, ℕ, ◌<◌, ◌^◌, List, [], ◌∷◌, ◌++◌, length, Bool, true, false, refl, sym, ap, subst, ◌∙◌, arith}
use Rattle.std.specs.Prelude.{Option, Some, None, if◌then◌else◌}
use Rattle.std.specs.Int.{w64}
use Rattle.std.specs.Ordering.{is_lt}
use Rattle.std.specs.List.{AllByRecursion}
use Rattle.std.specs.Str.{IsUtf8}
use Rattle.value_model.specs.Keys.{Bound, min_bound, key_bound, max_bound, Range, IsRange, order_bounds}
use Rattle.chunk_model.specs.Versions.{Version}
use Rattle.chunk_model.specs.Tables.{Owned, Chunk, Table}
use Rattle.chunk_table.specs.Whole.{IsWritableBound, IsWritableChunk, follow_from}
use Rattle.record_model.specs.RecordFormat.{four, eight, spelled_string, spelled_list, spelled_bound, spelled_version, spelled_owned, spelled_chunk, spelled_table, IsSoundBound, IsSoundVersion, IsSoundOwned, IsSoundChunk, IsSoundTable}
use Rattle.record_model.specs.MoveFormat.{spelled_range, IsSoundRange}
use Rattle.shard_records.specs.Readable.{IsHeldChunk, IsHeldRange, IsHeldTable}
use Rattle.record_parts.specs.Readers.{◌>>=◌, Found, byte_at, eight_at, four_at, key_bound_at, bound_at, range_in, range_at, version_at, owned_at, list_at, chunk_at, namespace_at, table_in, table_at}
use Rattle.record_parts.proofs.Again.{stepped, first, four_again, eight_again, namespace_again, key_again}
use Rattle.record_parts.proofs.Items.{list_again}

pub bound_again : (b : Bound) (rest : List ℕ) → IsSoundBound b → IsWritableBound b → bound_at (spelled_bound b ++ rest) ≡ Some (b, rest)
unfolding bound_at byte_at key_bound_at
bound_again min_bound rest sound fits = refl
bound_again (key_bound key) rest sound fits = stepped _ (key_again key rest sound fits) refl
bound_again max_bound rest sound fits = refl

range_between_again : (min max : Bound) → IsRange (record { min = min; max = max }) → range_in min max ≡ Some (record { min = min; max = max })
range_between_again min max is = rw is refl

pub range_again : (r : Range) (rest : List ℕ) → IsSoundRange r → IsHeldRange r → range_at (spelled_range r ++ rest) ≡ Some (r, rest)
unfolding range_at
range_again r rest sound held =
    stepped _ (first bound_at (spelled_bound r.min) (spelled_bound r.max) rest (bound_again r.min (spelled_bound r.max ++ rest) sound.min held.0))
    (stepped _ (bound_again r.max rest sound.max held.1.0)
    (stepped _ (range_between_again r.min r.max held.1.1) refl))

pub version_again : (v : Version) (rest : List ℕ) → IsSoundVersion v → version_at (spelled_version v ++ rest) ≡ Some (v, rest)
unfolding version_at
version_again v rest sound =
    stepped _ (first eight_at (eight v.epoch) (eight v.major ++ eight v.minor) rest (eight_again v.epoch ((eight v.major ++ eight v.minor) ++ rest) sound.epoch))
    (stepped _ (first eight_at (eight v.major) (eight v.minor) rest (eight_again v.major (eight v.minor ++ rest) sound.major))
    (stepped _ (eight_again v.minor rest sound.minor) refl))

owned_again : (o : Owned) (rest : List ℕ) → IsSoundOwned o → owned_at (spelled_owned o ++ rest) ≡ Some (o, rest)
unfolding owned_at
owned_again o rest sound =
    stepped _ (first eight_at (eight o.since) (four o.shard) rest (eight_again o.since (four o.shard ++ rest) sound.0))
    (stepped _ (four_again o.shard rest sound.1) refl)

-- a chunk that is sound, and that the program can hold
abbrev IsFine : Chunk → Type 0
IsFine c = IsSoundChunk c × IsHeldChunk c

chunk_again : (c : Chunk) (rest : List ℕ) → IsFine c → chunk_at (spelled_chunk c ++ rest) ≡ Some (c, rest)
unfolding chunk_at range_at
chunk_again c rest fine =
    let owners : List ℕ = spelled_list spelled_owned c.owners in
    let told : List ℕ = spelled_version c.version ++ owners in
    let max : List ℕ = spelled_bound c.range.max in
    let sound = fine.0 in
    let held = fine.1 in
    stepped _
    (stepped _ (first bound_at (spelled_bound c.range.min) (max ++ told) rest (bound_again c.range.min ((max ++ told) ++ rest) sound.min held.writable.min))
    (stepped _ (first bound_at max told rest (bound_again c.range.max (told ++ rest) sound.max held.writable.max))
    (stepped _ (range_between_again c.range.min c.range.max held.range) refl)))
    (stepped _ (first version_at (spelled_version c.version) owners rest (version_again c.version (owners ++ rest) sound.version))
    (stepped _ (list_again owned_at spelled_owned IsSoundOwned owned_again c.owners rest sound.count sound.owners) refl))

all_fine : (chunks : List Chunk) → AllByRecursion IsSoundChunk chunks → AllByRecursion IsHeldChunk chunks → AllByRecursion IsFine chunks
all_fine [] sound held = tt
all_fine (c ∷ chunks) sound held = ((sound.0, held.0), all_fine chunks sound.1 held.1)

table_there : (t : Table) → follow_from min_bound t.chunks ≡ true → table_in t.namespace t.epoch t.changes t.oldest t.chunks ≡ Some t
table_there t follow = rw follow refl

pub table_again : (t : Table) (rest : List ℕ) → IsSoundTable t → IsHeldTable t → table_at (spelled_table t ++ rest) ≡ Some (t, rest)
unfolding table_at
table_again t rest sound held =
    let follow : follow_from min_bound t.chunks ≡ true = held.follow in
    let chunks : List ℕ = spelled_list spelled_chunk t.chunks in
    let times : List ℕ = eight t.oldest ++ chunks in
    let counts : List ℕ = eight t.changes ++ times in
    stepped _ (first namespace_at (spelled_string t.namespace) (eight t.epoch ++ counts) rest (namespace_again t.namespace _ sound.namespace held.name))
    (stepped _ (first eight_at (eight t.epoch) counts rest (eight_again t.epoch _ sound.epoch))
    (stepped _ (first eight_at (eight t.changes) times rest (eight_again t.changes _ sound.changes))
    (stepped _ (first eight_at (eight t.oldest) chunks rest (eight_again t.oldest _ sound.oldest))
    (stepped _ (list_again chunk_at spelled_chunk IsFine chunk_again t.chunks rest sound.count (all_fine t.chunks sound.chunks held.chunks))
    (stepped _ (table_there t follow) refl)))))
