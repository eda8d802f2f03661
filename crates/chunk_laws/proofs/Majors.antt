-- Major numbers, of all chunks and of those of a shard.
use Rattle.std.proofs.Common.{◌≡◌, ◌⊎◌, inl, inr, ℕ, ◌≤◌, List, [], ◌∷◌, refl, sym, ap, subst, ◌∙◌, arith}
use Rattle.std.specs.Prelude.{Bool, true, false, ◌==◌, Some, map, max, if◌then◌else◌}
use Rattle.std.specs.List.{AllByRecursion}
use Rattle.std.proofs.lemmas.Bool.{eqb-true}
use Rattle.std.proofs.lemmas.Bool.Decides.{nat_tests}
use Rattle.bson_model.specs.Tree.{Datum}
use Rattle.value_model.specs.Keys.{Range}
use Rattle.chunk_model.specs.Versions.{Version, is_greater, greater, no_chunk}
use Rattle.chunk_model.specs.Tables.{Owned, Chunk, Table, is_owner, chunks_on, greatest_version, collection_version, shard_version}
use Rattle.chunk_model.specs.Changes.{same_range, chunk_with, moved_chunk, with_lowest, strictly_inside, greatest_minor, lower_half, upper_half, split_chunks}

abbrev pub top : List Chunk → ℕ
top [] = 0
top (c ∷ chunks) = max c.version.major (top chunks)

abbrev pub OfEpoch : ℕ → List Chunk → Type 0
OfEpoch epoch chunks = AllByRecursion (λ c. c.version.epoch ≡ epoch) chunks

greater_up : (a b : Version) → b.epoch ≡ a.epoch → is_greater b a ≡ true → a.major ≤ b.major
greater_up a b same g = grind (arith, nat_tests)

greater_down : (a b : Version) → b.epoch ≡ a.epoch → is_greater b a ≡ false → b.major ≤ a.major
greater_down a b same g = grind (arith, nat_tests)

record Greater (a b : Version) (r : Version) : Type 0 where
  pub epoch : r.epoch ≡ a.epoch
  pub major : r.major ≡ max a.major b.major

greater_is : (a b : Version) → b.epoch ≡ a.epoch → Greater a b (greater a b)
greater_is a b same = by_test (is_greater b a) refl
  where
    by_test : (t : Bool) → is_greater b a ≡ t → Greater a b (if t then b else a)
    by_test true g = let m : a.major ≤ b.major = greater_up a b same g in record { epoch = same; major = omega arith }
    by_test false g = let m : b.major ≤ a.major = greater_down a b same g in record { epoch = refl; major = omega arith }

pub record Greatest (v : Version) (n : ℕ) (r : Version) : Type 0 where
  pub epoch : r.epoch ≡ v.epoch
  pub major : r.major ≡ max v.major n

pub greatest_is : (v : Version) (chunks : List Chunk) → OfEpoch v.epoch chunks → Greatest v (top chunks) (greatest_version v chunks)
greatest_is v [] all = record { epoch = refl; major = omega arith }
greatest_is v (c ∷ chunks) all =
    let g = greater_is v c.version all.0 in
    let rest = greatest_is (greater v c.version) chunks (subst (λ (e : ℕ). OfEpoch e chunks) (sym g.epoch) all.1) in
    record { epoch = rest.epoch ∙ g.epoch; major = let a = rest.major in let b = g.major in omega arith }

pub on_all : (P : Chunk → Type 0) (shard : ℕ) (chunks : List Chunk) → AllByRecursion P chunks → AllByRecursion P (chunks_on shard chunks)
on_all P shard [] all = tt
on_all P shard (c ∷ chunks) all = by_test (is_owner shard c.owners) (on_all P shard chunks all.1)
  where
    by_test : (b : Bool) → AllByRecursion P (chunks_on shard chunks) → AllByRecursion P (if b then c ∷ chunks_on shard chunks else chunks_on shard chunks)
    by_test true rest = (all.0, rest)
    by_test false rest = rest

pub collection_major : (t : Table) → OfEpoch t.epoch t.chunks → (collection_version t).major ≡ top t.chunks
collection_major t all = let g = (greatest_is (no_chunk t.epoch) t.chunks all).major in omega arith

pub shard_major : (t : Table) (shard : ℕ) → OfEpoch t.epoch t.chunks → (shard_version t shard).major ≡ top (chunks_on shard t.chunks)
shard_major t shard all =
    let g = (greatest_is (no_chunk t.epoch) (chunks_on shard t.chunks) (on_all (λ c. c.version.epoch ≡ t.epoch) shard t.chunks all)).major in omega arith

abbrev pub AtMost : ℕ → List Chunk → Type 0
AtMost n chunks = AllByRecursion (λ c. c.version.major ≤ n) chunks

pub top_most : (n : ℕ) (chunks : List Chunk) → AtMost n chunks → top chunks ≤ n
top_most n [] all = omega arith
top_most n (c ∷ chunks) all = let k = all.0 in let rest = top_most n chunks all.1 in omega arith

pub more_most : (n m : ℕ) (chunks : List Chunk) → n ≤ m → AtMost n chunks → AtMost m chunks
more_most n m [] less all = tt
more_most n m (c ∷ chunks) less all = (let k = all.0 in omega arith, more_most n m chunks less all.1)

pub most_top : (chunks : List Chunk) → AtMost (top chunks) chunks
most_top [] = tt
most_top (c ∷ chunks) = (omega arith, more_most (top chunks) (max c.version.major (top chunks)) chunks (omega arith) (most_top chunks))

pub on_top : (shard : ℕ) (chunks : List Chunk) → top (chunks_on shard chunks) ≤ top chunks
on_top shard chunks = top_most (top chunks) (chunks_on shard chunks) (on_all (λ c. c.version.major ≤ top chunks) shard chunks (most_top chunks))

-- what is so of each chunk, and so of the chunks that a change makes of it
pub split_all : (P : Chunk → Type 0) (middle : Datum) (all chunks : List Chunk) → ((c : Chunk) (minor : ℕ) → strictly_inside middle c.range ≡ true
    → P c → P (lower_half middle minor c) × P (upper_half middle minor c))
    → AllByRecursion P chunks → AllByRecursion P (split_chunks middle all chunks)
split_all P middle all [] half each = tt
split_all P middle all (c ∷ chunks) half each = by_test (strictly_inside middle c.range) refl (split_all P middle all chunks half each.1)
  where
    minor : ℕ
    minor = greatest_minor 0 c.version.major all

    by_test : (b : Bool) → strictly_inside middle c.range ≡ b → AllByRecursion P (split_chunks middle all chunks)
        → AllByRecursion P (if b then lower_half middle minor c ∷ upper_half middle minor c ∷ split_chunks middle all chunks else c ∷ split_chunks middle all chunks)
    by_test true within rest = let h = half c minor within each.0 in (h.0, (h.1, rest))
    by_test false out rest = (each.0, rest)

pub moved_all : (P Q : Chunk → Type 0) (r : Range) (v : Version) (o : Owned) (chunks : List Chunk)
    → ((c : Chunk) → same_range c.range r ≡ true → P c → Q (record { range = c.range; version = v; owners = o ∷ c.owners })) → ((c : Chunk)
    → same_range c.range r ≡ false → P c → Q c)
    → AllByRecursion P chunks → AllByRecursion Q (map (moved_chunk r v o) chunks)
moved_all P Q r v o [] here there each = tt
moved_all P Q r v o (c ∷ chunks) here there each = (by_test (same_range c.range r) refl, moved_all P Q r v o chunks here there each.1)
  where
    by_test : (b : Bool) → same_range c.range r ≡ b → Q (if b then (record { range = c.range; version = v; owners = o ∷ c.owners }) else c)
    by_test true same = here c same each.0
    by_test false other = there c other each.0

pub lowest_all : (P : Chunk → Type 0) (shard : ℕ) (v : Version) (chunks : List Chunk) → ((c : Chunk) → P c
    → P (record { range = c.range; version = v; owners = c.owners })) → AllByRecursion P chunks → AllByRecursion P (with_lowest shard v chunks)
lowest_all P shard v [] here each = tt
lowest_all P shard v (c ∷ chunks) here each = by_test (is_owner shard c.owners) (lowest_all P shard v chunks here each.1)
  where
    by_test : (b : Bool) → AllByRecursion P (with_lowest shard v chunks)
        → AllByRecursion P (if b then (record { range = c.range; version = v; owners = c.owners }) ∷ chunks else c ∷ with_lowest shard v chunks)
    by_test true rest = (here c each.0, each.1)
    by_test false rest = (each.0, rest)

-- halves have the major number of the chunk
pub split_top : (middle : Datum) (all chunks : List Chunk) → top (split_chunks middle all chunks) ≡ top chunks
split_top middle all [] = refl
split_top middle all (c ∷ chunks) = by_test (strictly_inside middle c.range) (split_top middle all chunks)
  where
    minor : ℕ
    minor = greatest_minor 0 c.version.major all

    by_test : (b : Bool) → top (split_chunks middle all chunks) ≡ top chunks
        → top (if b then lower_half middle minor c ∷ upper_half middle minor c ∷ split_chunks middle all chunks else c ∷ split_chunks middle all chunks) ≡ max c.version.major (top chunks)
    by_test true rest = omega arith
    by_test false rest = omega arith

pub split_on : (middle : Datum) (shard : ℕ) (all chunks : List Chunk) → top (chunks_on shard (split_chunks middle all chunks)) ≡ top (chunks_on shard chunks)
split_on middle shard all [] = refl
split_on middle shard all (c ∷ chunks) = by_test (strictly_inside middle c.range) (is_owner shard c.owners) refl (split_on middle shard all chunks)
  where
    minor : ℕ
    minor = greatest_minor 0 c.version.major all

    by_test : (b own : Bool) → is_owner shard c.owners ≡ own → top (chunks_on shard (split_chunks middle all chunks)) ≡ top (chunks_on shard chunks)
        → top (chunks_on shard
        (if b then lower_half middle minor c ∷ upper_half middle minor c ∷ split_chunks middle all chunks else c ∷ split_chunks middle all chunks)) ≡ top (if own then c ∷ chunks_on shard chunks else chunks_on shard chunks)
    by_test true true own rest = rw own (omega arith)
    by_test true false own rest = rw own rest
    by_test false true own rest = rw own (omega arith)
    by_test false false own rest = rw own rest

-- a commit gives its chunk the version
pub moved_top : (r : Range) (v : Version) (o : Owned) (e : Chunk) (chunks : List Chunk) → chunk_with r chunks ≡ Some e
    → v.major ≤ top (map (moved_chunk r v o) chunks)
moved_top r v o e [] f = absurd cc
moved_top r v o e (c ∷ chunks) f = by_test (same_range c.range r) f (moved_top r v o e chunks)
  where
    by_test : (b : Bool) → (if b then Some c else chunk_with r chunks) ≡ Some e → (chunk_with r chunks ≡ Some e
        → v.major ≤ top (map (moved_chunk r v o) chunks))
        → v.major ≤ top ((if b then (record { range = c.range; version = v; owners = o ∷ c.owners }) else c) ∷ map (moved_chunk r v o) chunks)
    by_test true g rest = omega arith
    by_test false g rest = let k = rest g in omega arith

max_grows : (a b more n : ℕ) → n ≤ max a b → (n ≤ b → n ≤ more) → n ≤ max a more
max_grows a b more n k grows = grind arith

pub lowest_top : (n shard : ℕ) (v : Version) (chunks : List Chunk) → n ≤ v.major → n ≤ top chunks → n ≤ top (with_lowest shard v chunks)
lowest_top n shard v [] high k = k
lowest_top n shard v (c ∷ chunks) high k = by_test (is_owner shard c.owners) (lowest_top n shard v chunks high)
  where
    by_test : (b : Bool) → (n ≤ top chunks → n ≤ top (with_lowest shard v chunks))
        → n ≤ top (if b then (record { range = c.range; version = v; owners = c.owners }) ∷ chunks else c ∷ with_lowest shard v chunks)
    by_test true rest = omega arith
    by_test false rest = max_grows c.version.major (top chunks) (top (with_lowest shard v chunks)) n k rest

-- of a shard that is neither donor nor recipient no chunk changes
other_owner : (a b : ℕ) (owners : List Owned) → is_owner a owners ≡ true → (a == b) ≡ false → is_owner b owners ≡ false
other_owner a b [] own apart = absurd cc
other_owner a b (o ∷ owners) own apart = let e : o.shard ≡ a = eqb-true _ _ own in ap (λ (x : ℕ). x == b) e ∙ apart

pub lowest_on : (donor shard : ℕ) (v : Version) (chunks : List Chunk) → (donor == shard) ≡ false
    → chunks_on shard (with_lowest donor v chunks) ≡ chunks_on shard chunks
lowest_on donor shard v [] apart = refl
lowest_on donor shard v (c ∷ chunks) apart = by_test (is_owner donor c.owners) refl (lowest_on donor shard v chunks apart)
  where
    by_test : (b : Bool) → is_owner donor c.owners ≡ b → chunks_on shard (with_lowest donor v chunks) ≡ chunks_on shard chunks
        → chunks_on shard (if b then
        (record { range = c.range; version = v; owners = c.owners }) ∷ chunks else c ∷ with_lowest donor v chunks) ≡ chunks_on shard (c ∷ chunks)
    by_test true own rest = let no = other_owner donor shard c.owners own apart in rw no refl
    by_test false own rest = rw rest refl

pub moved_on : (r : Range) (v : Version) (o : Owned) (shard : ℕ) (chunks : List Chunk) → AllByRecursion (λ d. same_range d.range r ≡ true
    → is_owner shard d.owners ≡ false) chunks → (o.shard == shard) ≡ false
    → chunks_on shard (map (moved_chunk r v o) chunks) ≡ chunks_on shard chunks
moved_on r v o shard [] all apart = refl
moved_on r v o shard (c ∷ chunks) all apart = by_test (same_range c.range r) refl (moved_on r v o shard chunks all.1 apart)
  where
    by_test : (b : Bool) → same_range c.range r ≡ b → chunks_on shard (map (moved_chunk r v o) chunks) ≡ chunks_on shard chunks
        → chunks_on shard ((if b then (record { range = c.range; version = v; owners = o ∷ c.owners }) else c) ∷ map
        (moved_chunk r v o) chunks) ≡ chunks_on shard (c ∷ chunks)
    by_test true same rest = let no = all.0 same in rw (apart, no) rest
    by_test false other rest = rw rest refl

-- the recipient has the version, and so has the donor, where it has a chunk
on_more : (b : Bool) (n : ℕ) (c : Chunk) (chunks : List Chunk) → n ≤ top chunks → n ≤ top (if b then c ∷ chunks else chunks)
on_more true n c chunks k = omega arith
on_more false n c chunks k = k

pub recipient_top : (r : Range) (v : Version) (o : Owned) (e : Chunk) (chunks : List Chunk) → (o.shard == o.shard) ≡ true
    → chunk_with r chunks ≡ Some e → v.major ≤ top (chunks_on o.shard (map (moved_chunk r v o) chunks))
recipient_top r v o e [] itself f = absurd cc
recipient_top r v o e (c ∷ chunks) itself f = by_test (same_range c.range r) f (recipient_top r v o e chunks itself)
  where
    by_test : (b : Bool) → (if b then Some c else chunk_with r chunks) ≡ Some e → (chunk_with r chunks ≡ Some e
        → v.major ≤ top (chunks_on o.shard (map (moved_chunk r v o) chunks)))
        → v.major ≤ top (chunks_on o.shard ((if b then (record { range = c.range; version = v; owners = o ∷ c.owners }) else c) ∷ map
        (moved_chunk r v o) chunks))
    by_test true g rest = rw itself (omega arith)
    by_test false g rest = on_more (is_owner o.shard c.owners) v.major c (chunks_on o.shard (map (moved_chunk r v o) chunks)) (rest g)

pub donor_top : (shard : ℕ) (v : Version) (chunks : List Chunk)
    → (top (chunks_on shard (with_lowest shard v chunks)) ≡ 0) ⊎ (v.major ≤ top (chunks_on shard (with_lowest shard v chunks)))
donor_top shard v [] = inl refl
donor_top shard v (c ∷ chunks) = by_test (is_owner shard c.owners) refl (donor_top shard v chunks)
  where
    by_test : (b : Bool) → is_owner shard c.owners ≡ b → (top (chunks_on shard (with_lowest shard v chunks)) ≡ 0) ⊎ (v.major ≤ top (chunks_on shard
        (with_lowest shard v chunks)))
        → (top (chunks_on shard (if b then
        (record { range = c.range; version = v; owners = c.owners }) ∷ chunks else c ∷ with_lowest shard v chunks)) ≡ 0) ⊎ (v.major ≤ top
        (chunks_on shard (if b then (record { range = c.range; version = v; owners = c.owners }) ∷ chunks else c ∷ with_lowest shard v chunks)))
    by_test true own rest = inr (rw own (omega arith))
    by_test false own rest = rw own rest
