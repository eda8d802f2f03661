-- Which shards have keys of some spans at a time, and which parts of them a shard has (MongoDB manual, "Sharded Cluster Query
-- Routing", targeted operations; the times are own).
use Rattle.std.specs.Prelude.{ℕ, List, [], ◌∷◌, Bool, false, ◌&&◌, ◌||◌, ◌==◌, Option, Some, None, nat_lt, if◌then◌else◌}
use Rattle.std.specs.Ordering.{is_eq, is_lt}
use Rattle.value_model.specs.Keys.{Bound, Range, Span, range_span, point_span, inside, order_bounds}
use Rattle.chunk_model.specs.Tables.{Chunk, Table, owner_among}

-- two ranges overlap, by their bounds
abbrev pub overlap : Range → Range → Bool
overlap a b = is_lt (order_bounds a.min b.max) && is_lt (order_bounds b.min a.max)

-- a range overlaps a span: a range, or a point that it has
abbrev pub meets : Range → Span → Bool
meets range (range_span other) = overlap range other
meets range (point_span key) = inside (range_span range) key

abbrev pub meets_any : Range → List Span → Bool
meets_any range [] = false
meets_any range (s ∷ spans) = meets range s || meets_any range spans

-- a shard among others that rise, each once
abbrev pub with_shard : ℕ → List ℕ → List ℕ
with_shard shard [] = shard ∷ []
with_shard shard (s ∷ shards) =
    if nat_lt shard s then shard ∷ s ∷ shards
    else if shard == s then s ∷ shards
    else s ∷ with_shard shard shards

-- these shards and the owners at a time of the chunks that overlap the spans
abbrev pub targets_among : List Span → ℕ → List ℕ → List Chunk → List ℕ
targets_among spans time found [] = found
targets_among spans time found (c ∷ chunks) =
    targets_among spans time
    (if meets_any c.range spans then elim (owner_among time c.owners) [ None ↦ found | Some shard ↦ with_shard shard found ] else found) chunks

-- the owners at a time of the chunks of a table that overlap the spans, rising, each once
abbrev pub targets : Table → List Span → ℕ → List ℕ
targets table spans time = targets_among spans time [] table.chunks

-- the greater of two bounds, and the lesser
abbrev pub greater_bound : Bound → Bound → Bound
greater_bound a b = if is_lt (order_bounds a b) then b else a

abbrev pub lesser_bound : Bound → Bound → Bound
lesser_bound a b = if is_lt (order_bounds b a) then b else a

-- the part of a span that is in a range which it overlaps
abbrev pub part_in : Range → Span → Span
part_in range (range_span other) = range_span (record { min = greater_bound range.min other.min; max = lesser_bound range.max other.max })
part_in range (point_span key) = point_span key

-- two ranges of which the second begins where the first ends are joined
abbrev pub joined_parts : Span → List Span → List Span
joined_parts (range_span a) (range_span b ∷ parts) =
    if is_eq (order_bounds a.max b.min) then range_span (record { min = a.min; max = b.max }) ∷ parts
    else range_span a ∷ range_span b ∷ parts
joined_parts part parts = part ∷ parts

abbrev pub is_shard : ℕ → Option ℕ → Bool
is_shard shard None = false
is_shard shard (Some s) = s == shard

abbrev pub owned_parts : ℕ → ℕ → Span → List Chunk → List Span
owned_parts shard time span [] = []
owned_parts shard time span (c ∷ chunks) =
    if is_shard shard (owner_among time c.owners) && meets c.range span then joined_parts (part_in c.range span) (owned_parts shard time span chunks)
    else owned_parts shard time span chunks

-- the parts of a span that the shard owned at a time, rising, neighbours joined
abbrev pub owned_spans : Table → ℕ → ℕ → Span → List Span
owned_spans table shard time span = owned_parts shard time span table.chunks
