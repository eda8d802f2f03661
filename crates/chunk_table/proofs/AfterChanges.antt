-- The chunks still follow one another, each key has an owner, and each chunk can be encoded, after a change.
use Rattle.std.proofs.Common.{◌≡◌, ℕ, ◌^◌, ◌<◌, List, [], ◌∷◌, length, sym, ap, subst, ◌∙◌, arith}
use Rattle.std.proofs.lemmas.List.{length-map}
use Rattle.std.specs.Prelude.{Bool, true, false, ◌&&◌, is_some, map, if◌then◌else◌}
use Rattle.std.specs.List.{AllByRecursion}
use Rattle.std.specs.Ordering.{is_eq}
use Rattle.bson_model.specs.Tree.{Datum}
use Rattle.bson_model.proofs.Booleans.{both}
use Rattle.value_model.specs.Keys.{Bound, min_bound, key_bound, Range, order_bounds}
use Rattle.chunk_model.specs.Versions.{Version}
use Rattle.chunk_model.specs.Tables.{Owned, Chunk, Table, newest, is_owner}
use Rattle.chunk_model.specs.Changes.{strictly_inside, greatest_minor, lower_half, upper_half, same_range, moved_chunk, with_lowest, split_chunks}
use Rattle.chunk_table.specs.Whole.{IsWritableBound, IsWritableChunk, HasRange, IsWhole, follow_from}
use Rattle.chunk_table.specs.declared.chunk.Chunk as code
use Rattle.chunk_table.specs.Meanings.{chunk_view}
use Rattle.chunk_table.proofs.Covers.{every_key}
use Rattle.chunk_table.proofs.Halves.{above_least, below_greatest}
use Rattle.chunk_laws.proofs.Orders.{itself}
use Rattle.chunk_laws.proofs.Majors.{split_all, moved_all, lowest_all}

pub split_writable : (middle : Datum) (chunks : List Chunk) → IsWritableBound (key_bound middle) → AllByRecursion IsWritableChunk chunks
    → AllByRecursion IsWritableChunk (split_chunks middle chunks chunks)
split_writable middle chunks w all =
    split_all IsWritableChunk middle chunks chunks (λ c minor within h.
    (record { min = h.min; max = w; count = h.count }, record { min = w; max = h.max; count = h.count })) all

pub split_ranges : (middle : Datum) (chunks : List Chunk) → AllByRecursion HasRange chunks → AllByRecursion HasRange (split_chunks middle chunks chunks)
split_ranges middle chunks all =
    split_all HasRange middle chunks chunks (λ c minor within h. (above_least middle c.range within, below_greatest middle c.range within)) all

and : (a b : Bool) → a ≡ true → b ≡ true → (a && b) ≡ true
and true b p q = q
and false b p q = p

pub split_follow : (middle : Datum) (all : List Chunk) (start : Bound) (chunks : List Chunk) → follow_from start chunks ≡ true
    → follow_from start (split_chunks middle all chunks) ≡ true
split_follow middle all start [] f = f
split_follow middle all start (c ∷ chunks) f =
    let begin = both _ _ f in let others = both _ _ begin.1 in
    by_test (strictly_inside middle c.range) begin.0 others.0 (split_follow middle all c.range.max chunks others.1)
  where
    minor : ℕ
    minor = greatest_minor 0 c.version.major all

    by_test : (b : Bool) → is_eq (order_bounds start c.range.min) ≡ true → is_some (newest c.owners) ≡ true
        → follow_from c.range.max (split_chunks middle all chunks) ≡ true
        → follow_from start (if b then lower_half middle minor c ∷ upper_half middle minor c ∷ split_chunks middle all chunks else c ∷ split_chunks middle all chunks) ≡ true
    by_test true at owned rest = and _ _ at (and _ _ owned (and _ _ (itself middle) (and _ _ owned rest)))
    by_test false at owned rest = and _ _ at (and _ _ owned rest)

moved_ranges : (r : Range) (v w : Version) (o : Owned) (donor : ℕ) (chunks : List Chunk) → AllByRecursion HasRange chunks
    → AllByRecursion HasRange (with_lowest donor w (map (moved_chunk r v o) chunks))
moved_ranges r v w o donor chunks all =
    lowest_all HasRange donor w (map (moved_chunk r v o) chunks) (λ c h. h)
    (moved_all HasRange HasRange r v o chunks (λ c same h. h) (λ c other h. h) all)

moved_follow : (r : Range) (v : Version) (o : Owned) (start : Bound) (chunks : List Chunk) → follow_from start chunks ≡ true
    → follow_from start (map (moved_chunk r v o) chunks) ≡ true
moved_follow r v o start [] f = f
moved_follow r v o start (c ∷ chunks) f =
    let begin = both _ _ f in let others = both _ _ begin.1 in
    by_test (same_range c.range r) begin.0 others.0 (moved_follow r v o c.range.max chunks others.1)
  where
    by_test : (b : Bool) → is_eq (order_bounds start c.range.min) ≡ true → is_some (newest c.owners) ≡ true
        → follow_from c.range.max (map (moved_chunk r v o) chunks) ≡ true
        → follow_from start ((if b then (record { range = c.range; version = v; owners = o ∷ c.owners }) else c) ∷ map (moved_chunk r v o) chunks) ≡ true
    by_test true at owned rest = and _ _ at rest
    by_test false at owned rest = and _ _ at (and _ _ owned rest)

lowest_follow : (shard : ℕ) (v : Version) (start : Bound) (chunks : List Chunk) → follow_from start chunks ≡ true
    → follow_from start (with_lowest shard v chunks) ≡ true
lowest_follow shard v start [] f = f
lowest_follow shard v start (c ∷ chunks) f =
    let begin = both _ _ f in let others = both _ _ begin.1 in
    by_test (is_owner shard c.owners) begin.0 others.0 others.1 (lowest_follow shard v c.range.max chunks others.1)
  where
    by_test : (b : Bool) → is_eq (order_bounds start c.range.min) ≡ true → is_some (newest c.owners) ≡ true → follow_from c.range.max chunks ≡ true
        → follow_from c.range.max (with_lowest shard v chunks) ≡ true
        → follow_from start (if b then (record { range = c.range; version = v; owners = c.owners }) ∷ chunks else c ∷ with_lowest shard v chunks) ≡ true
    by_test true at owned old rest = and _ _ at (and _ _ owned old)
    by_test false at owned old rest = and _ _ at (and _ _ owned rest)

-- the table of copied chunks, by what the loops say of them
pub split_whole : (middle : Datum) (xs zs ys : List code.Chunk) (t u : Table) → zs ≡ xs → t.chunks ≡ map chunk_view xs
    → map chunk_view ys ≡ split_chunks middle (map chunk_view zs) (map chunk_view zs)
    → length ys < 2 ^ 32 → IsWritableBound (key_bound middle) → IsWhole t → u.chunks ≡ map chunk_view ys → IsWhole u
split_whole middle xs zs ys t u same before after few w whole is =
    let from : map chunk_view ys ≡ split_chunks middle t.chunks t.chunks = after
    ∙ ap (λ (l : List Chunk). split_chunks middle l l) (ap (λ (l : List code.Chunk). map chunk_view l) same ∙ sym before) in
    let follow : follow_from min_bound u.chunks ≡ true = subst (λ (l : List Chunk). follow_from min_bound l ≡ true) (sym (is ∙ from))
    (split_follow middle t.chunks min_bound t.chunks whole.follow) in
    record {
      ranges = subst (λ (l : List Chunk). AllByRecursion HasRange l) (sym (is ∙ from)) (split_ranges middle t.chunks whole.ranges);
      follow = follow;
      owned = λ key valid. every_key u key follow valid;
      count = subst (λ (l : List Chunk). length l < 2 ^ 32) (sym is) (let n = length-map ys chunk_view in omega arith);
      writable = subst (λ (l : List Chunk). AllByRecursion IsWritableChunk l) (sym (is ∙ from)) (split_writable middle t.chunks w whole.writable);
    }

pub moved_whole : (r : Range) (v w : Version) (o : Owned) (donor : ℕ) (xs zs ys : List code.Chunk) (t u : Table) → zs ≡ xs → t.chunks ≡ map chunk_view xs
    → map chunk_view ys ≡ with_lowest donor w (map (moved_chunk r v o) (map chunk_view zs)) → length ys ≡ length zs
    → AllByRecursion IsWritableChunk (map chunk_view ys) → IsWhole t → u.chunks ≡ map chunk_view ys → IsWhole u
moved_whole r v w o donor xs zs ys t u same before after count writable whole is =
    let from : map chunk_view ys ≡ with_lowest donor w (map (moved_chunk r v o) t.chunks) = after
    ∙ ap (λ (l : List Chunk). with_lowest donor w (map (moved_chunk r v o) l)) (ap (λ (l : List code.Chunk). map chunk_view l) same ∙ sym before) in
    let follow : follow_from min_bound u.chunks ≡ true = subst (λ (l : List Chunk). follow_from min_bound l ≡ true) (sym (is ∙ from))
    (lowest_follow donor w min_bound (map (moved_chunk r v o) t.chunks) (moved_follow r v o min_bound t.chunks whole.follow)) in
    record {
      ranges = subst (λ (l : List Chunk). AllByRecursion HasRange l) (sym (is ∙ from)) (moved_ranges r v w o donor t.chunks whole.ranges);
      follow = follow;
      owned = λ key valid. every_key u key follow valid;
      count = subst (λ (l : List Chunk). length l < 2 ^ 32) (sym is)
          (let n = length-map ys chunk_view in let m = length-map xs chunk_view in
          let k : length zs ≡ length xs = ap (λ (l : List code.Chunk). length l) same in
          let b : length t.chunks ≡ length (map chunk_view xs) = ap (λ (l : List Chunk). length l) before in let few = whole.count in omega arith);
      writable = subst (λ (l : List Chunk). AllByRecursion IsWritableChunk l) (sym is) writable;
    }
