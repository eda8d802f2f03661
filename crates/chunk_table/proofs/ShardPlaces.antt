-- Where a shard goes among others that rise.
use Rattle.std.proofs.Common.{◌≡◌, ℕ, zero, suc, ◌<◌, ◌≤◌, List, [], ◌∷◌, length, get_or, map, refl, sym, ap, ◌∙◌, subst, arith}
use Rattle.std.specs.Prelude.{true, false, ◌==◌, nat_lt}
use Rattle.std.specs.List.{insert}
use Rattle.std.proofs.lemmas.Bool.Decides.{nat_tests}
use Rattle.std.proofs.lemmas.List.{length-map}
use Rattle.cluster_base.specs.declared.identity.NodeId.{NodeId}
use Rattle.chunk_model.specs.Targets.{with_shard}
use Rattle.chunk_table.specs.Shards.{shard_number}

-- the shards before the place are less
abbrev pub Less : ℕ → ℕ → List ℕ → Type 0
Less shard zero xs = Unit {0}
Less shard (suc n) [] = ⊥
Less shard (suc n) (x ∷ xs) = (x < shard) × Less shard n xs

first : (a b : ℕ) → b < a → (nat_lt a b ≡ false) × ((a == b) ≡ false)
first a b less = grind (arith, nat_tests)

past : (shard x : ℕ) (xs : List ℕ) → x < shard → with_shard shard (x ∷ xs) ≡ x ∷ with_shard shard xs
past shard x xs less = let f = first shard x less in rw (f.0, f.1) refl

pub here : (shard n y : ℕ) (xs : List ℕ) → Less shard n xs → n < length xs → get_or xs n 0 ≡ y → shard < y → with_shard shard xs ≡ insert xs n shard
here shard zero y [] l within is less = absurd (omega arith)
here shard zero y (x ∷ xs) l within is less = let e : x ≡ y = is in let t : nat_lt shard x ≡ true = lt_true shard x (omega arith) in rw t refl
  where
    lt_true : (a b : ℕ) → a < b → nat_lt a b ≡ true
    lt_true a b h = grind (arith, nat_tests)
here shard (suc n) y [] l within is less = absurd l
here shard (suc n) y (x ∷ xs) l within is less = past shard x xs l.0 ∙ ap (λ z. x ∷ z) (here shard n y xs l.1 (omega arith) is less)

pub there : (shard n : ℕ) (xs : List ℕ) → Less shard n xs → n < length xs → get_or xs n 0 ≡ shard → with_shard shard xs ≡ xs
there shard zero [] l within is = absurd (omega arith)
there shard zero (x ∷ xs) l within is = let e : x ≡ shard = is in same shard x e xs
  where
    tests : (a : ℕ) → (nat_lt a a ≡ false) × ((a == a) ≡ true)
    tests a = grind (arith, nat_tests)

    same : (a b : ℕ) → b ≡ a → (ys : List ℕ) → with_shard a (b ∷ ys) ≡ b ∷ ys
    same a b e ys = subst (λ (c : ℕ). with_shard a (c ∷ ys) ≡ c ∷ ys) (sym e) (let t = tests a in rw (t.0, t.1) refl)
there shard (suc n) [] l within is = absurd l
there shard (suc n) (x ∷ xs) l within is = past shard x xs l.0 ∙ ap (λ z. x ∷ z) (there shard n xs l.1 (omega arith) is)

pub at_end : (shard : ℕ) (xs : List ℕ) → Less shard (length xs) xs → with_shard shard xs ≡ insert xs (length xs) shard
at_end shard [] l = refl
at_end shard (x ∷ xs) l = past shard x xs l.0 ∙ ap (λ z. x ∷ z) (at_end shard xs l.1)

pub less_more : (shard n : ℕ) (xs : List ℕ) → Less shard n xs → n < length xs → get_or xs n 0 < shard → Less shard (suc n) xs
less_more shard zero [] l within less = absurd (omega arith)
less_more shard zero (x ∷ xs) l within less = (less, tt)
less_more shard (suc n) [] l within less = absurd l
less_more shard (suc n) (x ∷ xs) l within less = (l.0, less_more shard n xs l.1 (omega arith) less)

number_at : (xs : List NodeId) (n : ℕ) → get_or (map shard_number xs) n 0 ≡ (get_or xs n (record { 0 = 0 })).0
number_at [] n = refl
number_at (x ∷ xs) zero = refl
number_at (x ∷ xs) (suc n) = number_at xs n

pub none_at : (s n : ℕ) (xs : List NodeId) → Less s n (map shard_number xs) → n < length xs → (get_or xs n (record { 0 = 0 })).0 ≡ s
    → with_shard s (map shard_number xs) ≡ map shard_number xs
none_at s n xs l within is = there s n (map shard_number xs) l (let k = length-map xs shard_number in omega arith) (number_at xs n ∙ is)

pub some_at : (s n : ℕ) (xs : List NodeId) → Less s n (map shard_number xs) → n < length xs → s < (get_or xs n (record { 0 = 0 })).0
    → (n ≤ length (map shard_number xs)) × (with_shard s (map shard_number xs) ≡ insert (map shard_number xs) n s)
some_at s n xs l within less =
    let k = length-map xs shard_number in
    (omega arith, here s n (get_or xs n (record { 0 = 0 })).0 (map shard_number xs) l (omega arith) (number_at xs n) less)

pub end_at : (s n : ℕ) (xs : List NodeId) → Less s n (map shard_number xs) → n ≡ length xs
    → (length xs ≤ length (map shard_number xs)) × (with_shard s (map shard_number xs) ≡ insert (map shard_number xs) (length xs) s)
end_at s n xs l e =
    let k : length (map shard_number xs) ≡ length xs = length-map xs shard_number in (
      omega arith,
      subst (λ (m : ℕ). with_shard s (map shard_number xs) ≡ insert (map shard_number xs) m s) k
          (at_end s (map shard_number xs) (subst (λ (m : ℕ). Less s m (map shard_number xs)) (e ∙ sym k) l)),
    )

pub go_on : (s n : ℕ) (xs : List NodeId) → Less s n (map shard_number xs) → n < length xs → (get_or xs n (record { 0 = 0 })).0 ≤ s
    → ((get_or xs n (record { 0 = 0 })).0 ≡ s → ⊥) → Less s (suc n) (map shard_number xs)
go_on s n xs l within most other =
    let k = length-map xs shard_number in
    let e = number_at xs n in
    less_more s n (map shard_number xs) l (omega arith) (apart (get_or xs n (record { 0 = 0 })).0 s (get_or (map shard_number xs) n 0) e most other)
  where
    apart : (a b c : ℕ) → c ≡ a → a ≤ b → (a ≡ b → ⊥) → c < b
    apart a b c is most other = grind arith

map_insert : (xs : List NodeId) (i : ℕ) (x : NodeId) → map shard_number (insert xs i x) ≡ insert (map shard_number xs) i x.0
map_insert [] zero x = refl
map_insert [] (suc i) x = refl
map_insert (y ∷ xs) zero x = refl
map_insert (y ∷ xs) (suc i) x = ap (λ l. y.0 ∷ l) (map_insert xs i x)

pub added : (items zs new : List NodeId) (place : ℕ) (x : NodeId) → zs ≡ items
    → with_shard x.0 (map shard_number zs) ≡ insert (map shard_number zs) place x.0 → new ≡ insert items place x
    → map shard_number new ≡ with_shard x.0 (map shard_number items)
added items zs new place x same placed is =
    ap (λ l. map shard_number l) is ∙ map_insert items place x ∙ ap (λ l. insert (map shard_number l) place x.0) (sym same) ∙ sym placed
    ∙ ap (λ l. with_shard x.0 (map shard_number l)) same
