-- What stays true of a collection's table through later changes: versions that are passed, and the keys of a shard whose version stays.
use Rattle.std.proofs.Common.{◌≡◌, ℕ, ◌+◌, ◌≤◌, ◌<◌, List, [], ◌∷◌, ◌++◌, refl, sym, ap, subst, ◌∙◌, arith, rules}
use Rattle.std.specs.Prelude.{Bool, true, false, ◌&&◌, Option, Some, map, if◌then◌else◌}
use Rattle.std.specs.List.{AllByRecursion}
use Rattle.std.specs.Str.{bytes_eq}
use Rattle.std.specs.Ordering.{is_lt}
use Rattle.std.proofs.lemmas.Slice.Eq.{bytes_eq-Decides}
use Rattle.bson_model.specs.Tree.{Datum}
use Rattle.bson_model.proofs.Booleans.{both}
use Rattle.value_model.specs.Keys.{Bound, Range, min_bound, key_bound, value_of_bound, order_bounds}
use Rattle.chunk_model.specs.Versions.{Version}
use Rattle.chunk_model.specs.Catalogue.{Split, Commit}
use Rattle.chunk_model.specs.Tables.{Owned, Chunk, Table, collection_version}
use Rattle.chunk_model.specs.Changes.{Change, create_change, split_change, commit_change, namespace_of, same_range, strictly_inside, lower_half, upper_half, moved_chunk, can_split, split_chunks, split_table, commit_table, known_table, chunk_with}
use Rattle.chunk_model.specs.Placement.{AreFitting, Covers}
use Rattle.chunk_model.specs.Targets.{overlap}
use Rattle.chunk_laws.proofs.Orders.{lt_le, lt_le_trans}
use Rattle.chunk_laws.proofs.Majors.{top, OfEpoch, AtMost, split_all, moved_all, lowest_all, collection_major, top_most, more_most, most_top, split_top, moved_top, lowest_top}
use Rattle.chunk_laws.proofs.Folds.{Sole, sole, range_up, placed, Commits, commits_here, same_name, some_is}

-- the greatest major number rises by one
pub commit_top : (c : Commit) (t : Table) (e : Chunk) → OfEpoch t.epoch t.chunks → chunk_with c.range t.chunks ≡ Some e
    → top (commit_table c t).chunks ≡ top t.chunks + 1
commit_top c t e epochs f = let a = is in let b = most in let d = least in omega arith
  where
    n : ℕ
    n = (collection_version t).major + 1

    is : (collection_version t).major ≡ top t.chunks
    is = collection_major t epochs

    v : Version
    v = record { epoch = t.epoch; major = n; minor = 0 }

    w : Version
    w = record { epoch = t.epoch; major = n; minor = 1 }

    o : Owned
    o = record { since = c.at; shard = c.to }

    low : AtMost n t.chunks
    low = more_most (top t.chunks) n t.chunks (let k = is in omega arith) (most_top t.chunks)

    most : top (commit_table c t).chunks ≤ n
    most = top_most n (commit_table c t).chunks (lowest_all (λ d. d.version.major ≤ n) c.from w (map (moved_chunk c.range v o) t.chunks) (λ d h. omega arith)
        (moved_all (λ d. d.version.major ≤ n) (λ d. d.version.major ≤ n) c.range v o t.chunks (λ d s h. omega arith) (λ d s h. h) low))

    least : n ≤ top (commit_table c t).chunks
    least = lowest_top n c.from w (map (moved_chunk c.range v o) t.chunks) (omega arith) (moved_top c.range v o e t.chunks f)

-- what stays true through each change of the collection, and through those of others
pub record Stays (ns : List ℕ) (P : List Change → Table → Type 0) : Type 0 where
  pub other : (x : Change) (older : List Change) (t : Table) → AreFitting (x ∷ older) → known_table ns older ≡ Some t
      → bytes_eq (namespace_of x) ns ≡ false → P older t → P (x ∷ older) t
  pub by_split : (s : Split) (older : List Change) (t : Table) → AreFitting (split_change s ∷ older) → known_table ns older ≡ Some t → P older t
      → P (split_change s ∷ older) (split_table s.middle t)
  pub by_commit : (c : Commit) (older : List Change) (t : Table) (e : Chunk) → AreFitting (commit_change c ∷ older) → known_table ns older ≡ Some t
      → bytes_eq c.namespace ns ≡ true → Commits c t e → P older t → P (commit_change c ∷ older) (commit_table c t)

pub record Later (ns : List ℕ) (P : List Change → Table → Type 0) (changes : List Change) : Type 0 where
  pub table : Table
  pub known : known_table ns changes ≡ Some table
  pub holds : P changes table

by_change : (ns : List ℕ) (P : List Change → Table → Type 0) → Stays ns P → (x : Change) (older : List Change) (t : Table) → AreFitting (x ∷ older)
    → known_table ns older ≡ Some t → bytes_eq (namespace_of x) ns ≡ true → P older t → Later ns P (x ∷ older)
by_change ns P stays (create_change c) older t fits is same p =
    let name : c.namespace ≡ ns = same_name _ _ same in
    absurd (let two = sym fits.0.fits.absent ∙ ap (λ n. known_table n older) name ∙ is in cc)
by_change ns P stays (split_change s) older t fits is same p = record {
  table = split_table s.middle t;
  known = rw
      (same, is) refl;
  holds = stays.by_split s older t fits is p;
}
by_change ns P stays (commit_change c) older t fits is same p =
    let k = commits_here ns older c t same is fits.0.fits in
    record { table = commit_table c t; known = rw (same, is) refl; holds = stays.by_commit c older t k.0 fits is same k.1 p }

pub later : (ns : List ℕ) (P : List Change → Table → Type 0) → Stays ns P → (more older : List Change) (t : Table) → AreFitting (more ++ older)
    → known_table ns older ≡ Some t → P older t → Later ns P (more ++ older)
later ns P stays [] older t fits is p = record { table = t; known = is; holds = p }
later ns P stays (x ∷ more) older t fits is p = by_name (bytes_eq (namespace_of x) ns) refl (later ns P stays more older t fits.1 is p)
  where
    by_name : (b : Bool) → bytes_eq (namespace_of x) ns ≡ b → Later ns P (more ++ older) → Later ns P (x ∷ (more ++ older))
    by_name true same l = by_change ns P stays x (more ++ older) l.table fits l.known same l.holds
    by_name false differs l = record {
      table = l.table;
      known = rw differs l.known;
      holds = stays.other x
          (more ++ older) l.table fits l.known differs l.holds;
    }

-- the chunks that overlap the range have greater major numbers
pub record Passed (r : Range) (n : ℕ) (t : Table) : Type 0 where
  pub high : n ≤ top t.chunks
  pub beyond : AllByRecursion (λ d. overlap d.range r ≡ true → n < d.version.major) t.chunks

lt_both : (a b c : Bound) → is_lt (order_bounds a b) ≡ true → is_lt (order_bounds b c) ≡ true → is_lt (order_bounds a c) ≡ true
lt_both a b c p q = lt_le_trans (value_of_bound a) (value_of_bound b) (value_of_bound c) p (lt_le _ q)

and_true : (a b : Bool) → a ≡ true → b ≡ true → (a && b) ≡ true
and_true a b p q = rw (p, q) refl

halves_passed : (r : Range) (n : ℕ) (middle : Datum) (c : Chunk) (minor : ℕ) → strictly_inside middle c.range ≡ true → (overlap c.range r ≡ true
    → n < c.version.major)
    → (overlap (lower_half middle minor c).range r ≡ true → n < c.version.major) × (overlap (upper_half middle minor c).range r ≡ true → n < c.version.major)
halves_passed r n middle c minor within k =
    let w = both _ _ within in (
      λ over. let o = both _ _ over in k (and_true _ _ o.0 (lt_both r.min (key_bound middle) c.range.max o.1 w.1)),
      λ over. let o = both _ _ over in k (and_true _ _ (lt_both c.range.min (key_bound middle) r.max w.0 o.0) o.1),
    )

split_passed : (r : Range) (n : ℕ) (middle : Datum) (t : Table) (b : Bool) → Passed r n t
    → Passed r n (if b then
    (record { namespace = t.namespace; epoch = t.epoch; changes = t.changes + 1; oldest = t.oldest; chunks = split_chunks middle t.chunks t.chunks }) else t)
split_passed r n middle t true p = record {
  high = let k = p.high in let e = split_top middle t.chunks t.chunks in omega arith;
  beyond = split_all (λ d. overlap d.range r ≡ true → n < d.version.major) middle t.chunks t.chunks
      (λ c minor within h. halves_passed r n middle c minor within h) p.beyond;
}
split_passed r n middle t false p = record { high = p.high; beyond = p.beyond }

commit_passed : (r : Range) (n : ℕ) (c : Commit) (t : Table) (e : Chunk) → OfEpoch t.epoch t.chunks → Commits c t e → Passed r n t
    → Passed r n (commit_table c t)
commit_passed r n c t e epochs k p =
    let is : (collection_version t).major ≡ top t.chunks = collection_major t epochs in
    let m : ℕ = (collection_version t).major + 1 in
    let up : n < (collection_version t).major + 1 = (let h = p.high in omega arith) in
    record {
      high = let h = p.high in let g = commit_top c t e epochs k.range in omega arith;
      beyond = lowest_all (λ d. overlap d.range r ≡ true → n < d.version.major) c.from (record {
        epoch = t.epoch;
        major =
            (collection_version t).major + 1;
        minor = 1;
      })
          (map (moved_chunk c.range (record { epoch = t.epoch; major = (collection_version t).major + 1; minor = 0 })
          (record { since = c.at; shard = c.to })) t.chunks)
          (λ d h over. up)
          (moved_all (λ d. overlap d.range r ≡ true → n < d.version.major) (λ d. overlap d.range r ≡ true → n < d.version.major) c.range
          (record { epoch = t.epoch; major = (collection_version t).major + 1; minor = 0 }) (record { since = c.at; shard = c.to }) t.chunks
          (λ d s h over. up) (λ d s h. h) p.beyond);
    }

passed_stays : (ns : List ℕ) (r : Range) (n : ℕ) → Stays ns (λ changes t. Passed r n t)
passed_stays ns r n = record {
  other = λ x older t fits is differs p. p;
  by_split = λ s older t fits is p. split_passed r n s.middle t (can_split s.middle t.chunks) p;
  by_commit = λ c older t e fits is same k p. commit_passed r n c t e (placed ns older t fits.1 is).epochs k p;
}

-- the chunk of a range has a major number among all
found_most : (n : ℕ) (r : Range) (e : Chunk) (chunks : List Chunk) → AtMost n chunks → chunk_with r chunks ≡ Some e → e.version.major ≤ n
found_most n r e [] all f = absurd cc
found_most n r e (c ∷ chunks) all f = by_test (same_range c.range r) f (found_most n r e chunks all.1)
  where
    by_test : (b : Bool) → (if b then Some c else chunk_with r chunks) ≡ Some e → (chunk_with r chunks ≡ Some e → e.version.major ≤ n) → e.version.major ≤ n
    by_test true g more = let i : c ≡ e = cc in subst (λ (d : Chunk). d.version.major ≤ n) i all.0
    by_test false g more = more g

-- of a commit's range, the version before it is passed by it
passed_by : (c : Commit) (t : Table) (e : Chunk) → Covers t.chunks → OfEpoch t.epoch t.chunks → Commits c t e
    → Passed c.range e.version.major (commit_table c t)
passed_by c t e covers epochs k =
    let is : (collection_version t).major ≡ top t.chunks = collection_major t epochs in
    let most : e.version.major ≤ top t.chunks = found_most (top t.chunks) c.range e t.chunks (most_top t.chunks) k.range in
    let up : e.version.major < (collection_version t).major + 1 = omega arith in
    record {
      high = let g = commit_top c t e epochs k.range in omega arith;
      beyond = lowest_all (λ d. overlap d.range c.range ≡ true → e.version.major < d.version.major) c.from (record {
        epoch = t.epoch;
        major =
            (collection_version t).major + 1;
        minor = 1;
      })
          (map (moved_chunk c.range (record { epoch = t.epoch; major = (collection_version t).major + 1; minor = 0 })
          (record { since = c.at; shard = c.to })) t.chunks)
          (λ d h over. up)
          (moved_all (Sole c.range e) (λ d. overlap d.range c.range ≡ true → e.version.major < d.version.major) c.range
          (record { epoch = t.epoch; major = (collection_version t).major + 1; minor = 0 }) (record { since = c.at; shard = c.to }) t.chunks
          (λ d s h over. up)
          (λ d s h over. absurd (let no = h.other s in cc)) (sole c.range e min_bound t.chunks
          (range_up c.range e min_bound t.chunks covers k.range) covers k.range));
    }

pub older_fit : (more older : List Change) → AreFitting (more ++ older) → AreFitting older
older_fit [] older fits = fits
older_fit (x ∷ more) older fits = older_fit more older fits.1

itself_bytes : (ns : List ℕ) → bytes_eq ns ns ≡ true
itself_bytes ns = search (rules, bytes_eq-Decides)

later_is : (o : Option Table) (t u : Table) → o ≡ Some t → o ≡ Some u → Some t ≡ Some u
later_is o t u a b = sym a ∙ b

pub passed_for_good : (c : Commit) (older more : List Change) (t u : Table) (e : Chunk) → AreFitting (more ++ commit_change c ∷ older)
    → known_table c.namespace older ≡ Some t → chunk_with c.range t.chunks ≡ Some e
    → known_table c.namespace (more ++ commit_change c ∷ older) ≡ Some u → AllByRecursion (λ d. overlap d.range c.range ≡ true
    → e.version.major < d.version.major) u.chunks
passed_for_good c older more t u e fits is f known =
    let first : AreFitting (commit_change c ∷ older) = older_fit more (commit_change c ∷ older) fits in
    let same : bytes_eq c.namespace c.namespace ≡ true = itself_bytes c.namespace in
    let k = commits_here c.namespace older c t same is first.0.fits in
    let one : k.0 ≡ e = (let g = k.1.range in cc) in
    let p = placed c.namespace older t first.1 is in
    let now : known_table c.namespace (commit_change c ∷ older) ≡ Some (commit_table c t) = rw (same, is) refl in
    let l = later c.namespace (λ changes v. Passed c.range e.version.major v) (passed_stays c.namespace c.range e.version.major) more
    (commit_change c ∷ older) (commit_table c t) fits now
    (passed_by c t e p.covers p.epochs (subst (Commits c t) one k.1)) in
    let end : l.table ≡ u = some_is l.table u (later_is (known_table c.namespace (more ++ commit_change c ∷ older)) l.table u l.known known) in
    subst (λ (v : Table). AllByRecursion (λ d. overlap d.range c.range ≡ true → e.version.major < d.version.major) v.chunks) end l.holds.beyond

pub raised : (c : Commit) (older : List Change) (t : Table) → AreFitting (commit_change c ∷ older) → known_table c.namespace older ≡ Some t
    → (collection_version (commit_table c t)).major ≡ (collection_version t).major + 1
raised c older t fits is =
    let same : bytes_eq c.namespace c.namespace ≡ true = itself_bytes c.namespace in
    let k = commits_here c.namespace older c t same is fits.0.fits in
    let p = placed c.namespace older t fits.1 is in
    let now : known_table c.namespace (commit_change c ∷ older) ≡ Some (commit_table c t) = rw (same, is) refl in
    let q = placed c.namespace (commit_change c ∷ older) (commit_table c t) fits now in
    collection_major (commit_table c t) q.epochs ∙ commit_top c t k.0 p.epochs k.1.range ∙ sym (ap (λ n. n + 1) (collection_major t p.epochs))
