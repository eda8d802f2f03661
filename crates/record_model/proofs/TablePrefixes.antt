-- Each part of a table's encoding ends where the bytes before say, and so each of its lists.
use Rattle.std.proofs.Common.{◌≡◌, ℕ, ◌<◌, ◌^◌, List, [], ◌∷◌, ◌++◌, length, refl, ap, ◌∙◌, arith}
use Rattle.std.specs.List.{AllByRecursion, flat_map}
use Rattle.value_model.specs.Keys.{Bound, min_bound, key_bound, max_bound}
use Rattle.chunk_model.specs.Versions.{Version}
use Rattle.chunk_model.specs.Tables.{Owned, Chunk, Table}
use Rattle.record_model.specs.PartFormat.{four, eight, spelled_string, key_document, spelled_list, spelled_bound, spelled_version, spelled_owned, spelled_chunk, spelled_table, IsSoundBound, IsSoundVersion, IsSoundOwned, IsSoundChunk, IsSoundTable}
use Rattle.record_model.proofs.Prefixes.{first_byte, behind, regroup, same_four, same_eight, same_name, same_document, key_in}

pub same_bound : (a b : Bound) (xs ys : List ℕ) → IsSoundBound a → IsSoundBound b → spelled_bound a ++ xs ≡ spelled_bound b ++ ys → (a ≡ b) × (xs ≡ ys)
same_bound min_bound min_bound xs ys p q e = (refl, behind 0 0 xs ys e)
same_bound (key_bound a) (key_bound b) xs ys p q e =
    let document = same_document (key_document a) (key_document b) xs ys p.spelled q.spelled (behind 1 1 _ _ e) in
    (ap key_bound (key_in a b document.0), document.1)
same_bound max_bound max_bound xs ys p q e = (refl, behind 2 2 xs ys e)
same_bound a b xs ys p q e = absurd (omega (arith, first_byte _ _ _ _ e))

pub same_version : (a b : Version) (xs ys : List ℕ) → IsSoundVersion a → IsSoundVersion b → spelled_version a ++ xs ≡ spelled_version b ++ ys → (a ≡ b) × (xs ≡ ys)
same_version a b xs ys p q e =
    let c = same_eight a.epoch b.epoch ((eight a.major ++ eight a.minor) ++ xs) ((eight b.major ++ eight b.minor) ++ ys) p.epoch q.epoch e in
    let m = same_eight a.major b.major (eight a.minor ++ xs) (eight b.minor ++ ys) p.major q.major c.1 in
    let n = same_eight a.minor b.minor xs ys p.minor q.minor m.1 in
    (λ i. record { epoch = c.0 i; major = m.0 i; minor = n.0 i }, n.1)

same_owned : (a b : Owned) (xs ys : List ℕ) → IsSoundOwned a → IsSoundOwned b → spelled_owned a ++ xs ≡ spelled_owned b ++ ys → (a ≡ b) × (xs ≡ ys)
same_owned a b xs ys p q e =
    let t = same_eight a.since b.since (four a.shard ++ xs) (four b.shard ++ ys) p.0 q.0 e in
    let n = same_four a.shard b.shard xs ys p.1 q.1 t.1 in
    (λ i. record { since = t.0 i; shard = n.0 i }, n.1)

-- equal bytes have one item at the front
abbrev pub EndsItself : {X : Type 0} → (X → List ℕ) → (X → Type 0) → Type 0
EndsItself {X = X} spelled_item IsSoundItem =
    (a b : X) (xs ys : List ℕ) → IsSoundItem a → IsSoundItem b → spelled_item a ++ xs ≡ spelled_item b ++ ys → (a ≡ b) × (xs ≡ ys)

same_items : {X : Type 0} (spelled_item : X → List ℕ) (IsSoundItem : X → Type 0) → EndsItself spelled_item IsSoundItem → (ms ns : List X) (xs ys : List ℕ) → length ms ≡ length ns → AllByRecursion IsSoundItem ms → AllByRecursion IsSoundItem ns → flat_map spelled_item ms ++ xs ≡ flat_map spelled_item ns ++ ys → (ms ≡ ns) × (xs ≡ ys)
same_items spelled_item IsSoundItem item [] [] xs ys n p q e = (refl, e)
same_items spelled_item IsSoundItem item [] (b ∷ ns) xs ys n p q e = absurd (omega (arith, n))
same_items spelled_item IsSoundItem item (a ∷ ms) [] xs ys n p q e = absurd (omega (arith, n))
same_items spelled_item IsSoundItem item (a ∷ ms) (b ∷ ns) xs ys n p q e =
    let first = item a b (flat_map spelled_item ms ++ xs) (flat_map spelled_item ns ++ ys) p.0 q.0 (regroup (spelled_item a) (flat_map spelled_item ms) xs (spelled_item b) (flat_map spelled_item ns) ys e) in
    let others = same_items spelled_item IsSoundItem item ms ns xs ys (omega (arith, n)) p.1 q.1 first.1 in
    (ap (λ c. c ∷ ms) first.0 ∙ ap (λ cs. b ∷ cs) others.0, others.1)

pub same_list : {X : Type 0} (spelled_item : X → List ℕ) (IsSoundItem : X → Type 0) → EndsItself spelled_item IsSoundItem → (ms ns : List X) (xs ys : List ℕ) → length ms < 2 ^ 32 → length ns < 2 ^ 32 → AllByRecursion IsSoundItem ms → AllByRecursion IsSoundItem ns → spelled_list spelled_item ms ++ xs ≡ spelled_list spelled_item ns ++ ys → (ms ≡ ns) × (xs ≡ ys)
same_list spelled_item IsSoundItem item ms ns xs ys few less p q e =
    let count = same_four (length ms) (length ns) (flat_map spelled_item ms ++ xs) (flat_map spelled_item ns ++ ys) few less e in
    same_items spelled_item IsSoundItem item ms ns xs ys count.0 p q count.1

same_chunk : (a b : Chunk) (xs ys : List ℕ) → IsSoundChunk a → IsSoundChunk b → spelled_chunk a ++ xs ≡ spelled_chunk b ++ ys → (a ≡ b) × (xs ≡ ys)
same_chunk a b xs ys p q e =
    let a_owners : List ℕ = spelled_list spelled_owned a.owners in
    let b_owners : List ℕ = spelled_list spelled_owned b.owners in
    let a_told : List ℕ = spelled_version a.version ++ a_owners in
    let b_told : List ℕ = spelled_version b.version ++ b_owners in
    let a_rest : List ℕ = spelled_bound a.range.max ++ a_told in
    let b_rest : List ℕ = spelled_bound b.range.max ++ b_told in
    let least = same_bound a.range.min b.range.min (a_rest ++ xs) (b_rest ++ ys) p.min q.min (regroup (spelled_bound a.range.min) a_rest xs (spelled_bound b.range.min) b_rest ys e) in
    let end = same_bound a.range.max b.range.max (a_told ++ xs) (b_told ++ ys) p.max q.max (regroup (spelled_bound a.range.max) a_told xs (spelled_bound b.range.max) b_told ys least.1) in
    let v = same_version a.version b.version (a_owners ++ xs) (b_owners ++ ys) p.version q.version (regroup (spelled_version a.version) a_owners xs (spelled_version b.version) b_owners ys end.1) in
    let o = same_list spelled_owned IsSoundOwned same_owned a.owners b.owners xs ys p.count q.count p.owners q.owners v.1 in
    (λ i. record { range = record { min = least.0 i; max = end.0 i }; version = v.0 i; owners = o.0 i }, o.1)

pub same_table : (a b : Table) (xs ys : List ℕ) → IsSoundTable a → IsSoundTable b → spelled_table a ++ xs ≡ spelled_table b ++ ys → (a ≡ b) × (xs ≡ ys)
same_table a b xs ys p q e =
    let a_chunks : List ℕ = spelled_list spelled_chunk a.chunks in
    let b_chunks : List ℕ = spelled_list spelled_chunk b.chunks in
    let a_rest : List ℕ = eight a.epoch ++ (eight a.changes ++ (eight a.oldest ++ a_chunks)) in
    let b_rest : List ℕ = eight b.epoch ++ (eight b.changes ++ (eight b.oldest ++ b_chunks)) in
    let n = same_name a.namespace b.namespace (a_rest ++ xs) (b_rest ++ ys) p.namespace q.namespace (regroup (spelled_string a.namespace) a_rest xs (spelled_string b.namespace) b_rest ys e) in
    let k = same_eight a.epoch b.epoch ((eight a.changes ++ (eight a.oldest ++ a_chunks)) ++ xs) ((eight b.changes ++ (eight b.oldest ++ b_chunks)) ++ ys) p.epoch q.epoch n.1 in
    let m = same_eight a.changes b.changes ((eight a.oldest ++ a_chunks) ++ xs) ((eight b.oldest ++ b_chunks) ++ ys) p.changes q.changes k.1 in
    let o = same_eight a.oldest b.oldest (a_chunks ++ xs) (b_chunks ++ ys) p.oldest q.oldest m.1 in
    let c = same_list spelled_chunk IsSoundChunk same_chunk a.chunks b.chunks xs ys p.count q.count p.chunks q.chunks o.1 in
    (λ i. record { namespace = n.0 i; epoch = k.0 i; changes = m.0 i; oldest = o.0 i; chunks = c.0 i }, c.1)
