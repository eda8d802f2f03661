-- Lists.
use Rattle.std.proofs.Common.{◌≡◌, ◌≢◌, ◌⊎◌, inl, inr, ℕ, zero, suc, ◌+◌, ◌*◌, ◌<◌, ◌≤◌, ◌^◌, ◌==◌, List, [], ◌∷◌, ◌++◌, map, length, set}
use Rattle.std.proofs.Common.{Bool, true, false, refl, sym, ap, ◌∙◌, subst, ⊎_elim, arith, append_assoc}
use Rattle.std.specs.Prelude.{Some, if◌then◌else◌}
use Rattle.std.specs.List.{slice_get, AllByRecursion}
use Rattle.std.proofs.lemmas.Bool.Decides.{nat_tests}
use Rattle.std.proofs.lemmas.Option.{none-some, same_Some}
use mathlib.Core.Option.{some, some-injective, some-ne-none}
use lib.ListN.{get_elem?}
use Rattle.atomic_table.proofs.Lists.{at_set}
use Rattle.history_model.proofs.Lists.{all_push, all_weaken}
use Rattle.node_cell.specs.Courses.{total}
use Rattle.group_steps.specs.Parts.{Among}
use Rattle.node_cell.specs.Standing.{AreAmong}
use Rattle.node_cell.specs.Views.{first_alone, first_off, holder, numbered, without}

module _ {A : Type 0} where
  pub get_set_same : (l : List A) (i : ℕ) (a b : A) → slice_get l i ≡ Some b → slice_get (set l i a) i ≡ Some a
  get_set_same [] i a b e = absurd (none-some b e)
  get_set_same (x ∷ xs) zero a b e = refl
  get_set_same (x ∷ xs) (suc i) a b e = get_set_same xs i a b e

  pub get_set_other : (l : List A) (i j : ℕ) (a : A) → j ≢ i → slice_get (set l i a) j ≡ slice_get l j
  get_set_other [] i j a n = refl
  get_set_other (x ∷ xs) zero zero a n = absurd (n refl)
  get_set_other (x ∷ xs) zero (suc j) a n = refl
  get_set_other (x ∷ xs) (suc i) zero a n = refl
  get_set_other (x ∷ xs) (suc i) (suc j) a n = get_set_other xs i j a (λ e. n (ap suc e))

  pub get_front : (xs ys : List A) (k : ℕ) (p : A) → slice_get xs k ≡ Some p → slice_get (xs ++ ys) k ≡ Some p
  get_front [] ys k p e = absurd (none-some p e)
  get_front (x ∷ xs) ys zero p e = e
  get_front (x ∷ xs) ys (suc k) p e = get_front xs ys k p e

  pub get_seam : (pre : List A) (y : A) (ys : List A) → slice_get (pre ++ y ∷ ys) (length pre) ≡ Some y
  get_seam [] y ys = refl
  get_seam (x ∷ xs) y ys = get_seam xs y ys

  -- each of a list that ends another stands there
  pub sits : (pre ys : List A) → AreAmong ys (pre ++ ys)
  sits pre [] = tt
  sits pre (y ∷ ys) = (
    (length pre, get_seam pre y ys),
    subst (λ (all : List A). AreAmong ys all) (append_assoc pre (y ∷ []) ys) (sits (pre ++ y ∷ []) ys),
  )

  pub all_at : (P : A → Type 0) (xs : List A) (j : ℕ) (x : A) → slice_get xs j ≡ Some x → AllByRecursion P xs → P x
  all_at P [] j x e a = absurd (none-some x e)
  all_at P (y ∷ ys) zero x e a = subst P (same_Some y x e) a.0
  all_at P (y ∷ ys) (suc j) x e a = all_at P ys j x e a.1

  pub all_set : (P : A → Type 0) (xs : List A) (j : ℕ) (x : A) → P x → AllByRecursion P xs → AllByRecursion P (set xs j x)
  all_set P [] j x p a = tt
  all_set P (y ∷ ys) zero x p a = (p, a.1)
  all_set P (y ∷ ys) (suc j) x p a = (a.0, all_set P ys j x p a.1)

  pub all_split : (P : A → Type 0) (xs ys : List A) → AllByRecursion P (xs ++ ys) → AllByRecursion P xs × AllByRecursion P ys
  all_split P [] ys a = (tt, a)
  all_split P (x ∷ xs) ys a = let rest = all_split P xs ys a.1 in ((a.0, rest.0), rest.1)

  pub all_none : (P : A → Type 0) (xs : List A) → xs ≡ [] → AllByRecursion P xs
  all_none P xs none = subst (λ (l : List A). AllByRecursion P l) (sym none) tt

  -- one more
  pub all_grown : (P : A → Type 0) (old new : List A) (x : A) → new ≡ old ++ x ∷ [] → AllByRecursion P old → P x → AllByRecursion P new
  all_grown P old new x is all one = subst (λ (l : List A). AllByRecursion P l) (sym is) (all_push P old x all one)

  pub among_front : (x : A) (xs ys : List A) → Among x xs → Among x (xs ++ ys)
  among_front x xs ys a = (a.0, get_front xs ys a.0 x a.1)

  pub among_behind : (x : A) (xs ys : List A) → Among x ys → Among x (xs ++ ys)
  among_behind x [] ys a = a
  among_behind x (y ∷ xs) ys a = let rest = among_behind x xs ys a in (suc rest.0, rest.1)

  pub are_among_front : (part xs ys : List A) → AreAmong part xs → AreAmong part (xs ++ ys)
  are_among_front part xs ys a = all_weaken (λ x. Among x xs) (λ x. Among x (xs ++ ys)) part (λ x there. among_front x xs ys there) a

  pub are_among_self : (xs : List A) → AreAmong xs xs
  are_among_self xs = sits [] xs

  pub are_among_same : (xs ys : List A) → xs ≡ ys → AreAmong xs ys
  are_among_same xs ys same = subst (λ (l : List A). AreAmong l ys) (sym same) (are_among_self ys)

  -- the first of them, and the others
  pub among_next : (x : A) (all rest whole : List A) → all ≡ x ∷ rest → AreAmong all whole → Among x whole × AreAmong rest whole
  among_next x all rest whole first among = subst (λ (l : List A). AreAmong l whole) first among

  pub are_among_of : (x y : A) (all : List A) → y ≡ x → Among x all → Among y all
  are_among_of x y all same there = subst (λ (z : A). Among z all) (sym same) there

  pub are_among_on : (xs ys zs : List A) → AreAmong xs ys → AreAmong ys zs → AreAmong xs zs
  are_among_on xs ys zs a b = all_weaken (λ x. Among x ys) (λ x. Among x zs) xs (λ x there. all_at (λ y. Among y zs) ys there.0 x there.1 b) a

  -- what holds of all holds of a part
  pub all_of_part : (P : A → Type 0) (part whole : List A) → AreAmong part whole → AllByRecursion P whole → AllByRecursion P part
  all_of_part P part whole a all = all_weaken (λ x. Among x whole) P part (λ x there. all_at P whole there.0 x there.1 all) a

  -- the last of a list, and the rest
  pub last_of_all : (P : A → Type 0) (rest : List A) (x : A) → AllByRecursion P (rest ++ x ∷ []) → P x
  last_of_all P [] x a = a.0
  last_of_all P (y ∷ rest) x a = last_of_all P rest x a.1

  pub at_end : (l : List A) (a b : A) (j : ℕ) → get_elem? (l ++ a ∷ []) j ≡ some b → (get_elem? l j ≡ some b) ⊎ ((j ≡ length l) × (a ≡ b))
  at_end [] a b zero e = inr (refl, some-injective a b e)
  at_end [] a b (suc j) e = absurd (some-ne-none b (sym e))
  at_end (x ∷ xs) a b zero e = inl e
  at_end (x ∷ xs) a b (suc j) e = ⊎_elim (λ h. inl h) (λ h. inr (ap suc h.0, h.1)) (at_end xs a b j e)

pub all_map : {A B : Type 0} (f : A → B) (P : B → Type 0) (xs : List A) → AllByRecursion (λ x. P (f x)) xs → AllByRecursion P (map f xs)
all_map f P [] a = tt
all_map f P (x ∷ xs) a = (a.0, all_map f P xs a.1)

pub all_unmap : {A B : Type 0} (f : A → B) (P : B → Type 0) (xs : List A) → AllByRecursion P (map f xs) → AllByRecursion (λ x. P (f x)) xs
all_unmap f P [] a = tt
all_unmap f P (x ∷ xs) a = (a.0, all_unmap f P xs a.1)

pub among_map : {A B : Type 0} (f : A → B) (x : A) (xs : List A) → Among x xs → Among (f x) (map f xs)
among_map f x [] a = absurd (none-some x a.1)
among_map {A} f x (y ∷ xs) (zero, e) = (0, ap (λ (z : A). Some (f z)) (same_Some y x e))
among_map f x (y ∷ xs) (suc k, e) = let rest = among_map f x xs (k, e) in (suc rest.0, rest.1)

pub are_among_map : {A B : Type 0} (f : A → B) (part whole : List A) → AreAmong part whole → AreAmong (map f part) (map f whole)
are_among_map f part whole a = all_map f (λ y. Among y (map f whole)) part (all_weaken (λ x. Among x whole) (λ x. Among (f x) (map f whole)) part (λ x there. among_map f x whole there) a)

-- SUMS

pub sum_more : (xs : List ℕ) (j c d k : ℕ) → slice_get xs j ≡ Some c → c + k ≤ d → total xs + k ≤ total (set xs j d)
sum_more [] j c d k e le = absurd (none-some c e)
sum_more (x ∷ xs) zero c d k e le = let same : x ≡ c = same_Some x c e in omega arith
sum_more (x ∷ xs) (suc j) c d k e le = let more = sum_more xs j c d k e le in omega arith

pub sum_small : (xs : List ℕ) → AllByRecursion (λ c. c < 2 ^ 56) xs → total xs ≤ length xs * 2 ^ 56
sum_small [] a = omega arith
sum_small (x ∷ xs) a = let rest = sum_small xs a.1 in let here : x < 2 ^ 56 = a.0 in omega arith

-- HOLDERS

module _ {S : Type 0} where
  pub holder_one : (k j : ℕ) (a b : S) → holder j ((k, a) ∷ []) ≡ Some b → (k ≡ j) × (a ≡ b)
  holder_one k j a b e = grind (arith, nat_tests)

  pub holder_without : (k j : ℕ) (s : S) (xs : List (ℕ × S)) → holder j (without k xs) ≡ Some s → (j ≢ k) × (holder j xs ≡ Some s)
  holder_without k j s [] e = absurd (none-some s e)
  holder_without k j s (x ∷ xs) e = by_first (λ f. holder_without k j s xs f) (x.0 == k) refl
    where
      by_first : (holder j (without k xs) ≡ Some s → (j ≢ k) × (holder j xs ≡ Some s)) → (b : Bool) → (x.0 == k) ≡ b → (j ≢ k) × (holder j (x ∷ xs) ≡ Some s)
      by_first more true is =
          let rest = more (subst (λ (c : Bool). holder j (if c then without k xs else x ∷ without k xs) ≡ Some s) is e) in
          (rest.0, grind (arith, nat_tests, rest.0, rest.1, is))
      by_first more false is = by_second more (x.0 == j) refl (subst (λ (c : Bool). holder j (if c then without k xs else x ∷ without k xs) ≡ Some s) is e)
        where
          by_second : (holder j (without k xs) ≡ Some s → (j ≢ k) × (holder j xs ≡ Some s)) → (c : Bool) → (x.0 == j) ≡ c
              → holder j (x ∷ without k xs) ≡ Some s → (j ≢ k) × (holder j (x ∷ xs) ≡ Some s)
          by_second more true that f = (grind (arith, nat_tests, is, that), grind (arith, nat_tests, that, f))
          by_second more false that f =
              let rest = more (grind (arith, nat_tests, that, f)) in (rest.0, grind (arith, nat_tests, that, rest.1))

  pub holder_both : (j : ℕ) (s : S) (xs ys : List (ℕ × S)) → holder j (xs ++ ys) ≡ Some s → (holder j xs ≡ Some s) ⊎ (holder j ys ≡ Some s)
  holder_both j s [] ys e = inr e
  holder_both j s (x ∷ xs) ys e = by_first (λ f. holder_both j s xs ys f) (x.0 == j) refl
    where
      by_first : (holder j (xs ++ ys) ≡ Some s → (holder j xs ≡ Some s) ⊎ (holder j ys ≡ Some s)) → (c : Bool) → (x.0 == j) ≡ c
          → (holder j (x ∷ xs) ≡ Some s) ⊎ (holder j ys ≡ Some s)
      by_first more true that = inl (grind (arith, nat_tests, that, e))
      by_first more false that = ⊎_elim (λ (h : holder j xs ≡ Some s). inl (grind (arith, nat_tests, that, h))) (λ h. inr h) (more (grind (arith, nat_tests, that, e)))

  pub holder_numbered : (first j : ℕ) (s : S) (all : List S) → holder j (numbered first all) ≡ Some s → (k : ℕ) × (j ≡ first + k) × (slice_get all k ≡ Some s)
  holder_numbered first j s [] e = absurd (none-some s e)
  holder_numbered first j s (x ∷ xs) e = by_first (λ f. holder_numbered (first + 1) j s xs f) (first == j) refl
    where
      by_first : (holder j (numbered (first + 1) xs) ≡ Some s → (k : ℕ) × (j ≡ (first + 1) + k) × (slice_get xs k ≡ Some s)) → (c : Bool) → (first == j) ≡ c
          → (k : ℕ) × (j ≡ first + k) × (slice_get (x ∷ xs) k ≡ Some s)
      by_first more true that = (0, grind (arith, nat_tests, that), grind (arith, nat_tests, that, e))
      by_first more false that =
          let rest = more (grind (arith, nat_tests, that, e)) in (suc rest.0, omega (arith, rest.1), rest.2)

  -- no later number is that of the first
  pub without_later : (k first : ℕ) (all : List S) → k < first → without k (numbered first all) ≡ numbered first all
  without_later k first [] less = refl
  without_later k first (x ∷ xs) less =
      let no : (first == k) ≡ false = grind (arith, nat_tests, less) in
      ap (λ (c : Bool). if c then without k (numbered (first + 1) xs) else (first, x) ∷ without k (numbered (first + 1) xs)) no
      ∙ ap (λ (l : List (ℕ × S)). (first, x) ∷ l) (without_later k (first + 1) xs (omega (arith, less)))

  -- the first of numbered ones, and the others
  pub first_numbered : (at : ℕ) (s : S) (all rest : List S) → all ≡ s ∷ rest → first_alone (numbered at all) ≡ (at, s) ∷ []
  first_numbered at s all rest is = ap (λ (l : List S). first_alone (numbered at l)) is

  pub rest_numbered : (at : ℕ) (s : S) (all rest : List S) → all ≡ s ∷ rest → first_off (numbered at all) ≡ numbered (at + 1) rest
  rest_numbered at s all rest is = ap (λ (l : List S). first_off (numbered at l)) is ∙ without_later at (at + 1) rest (omega arith)

-- VIEWS OF ALL

module _ {V : Type 0} (F : ℕ → V → Type 0) where
  -- one of them is another
  pub each_set : (views : List V) (by : ℕ) (w : V) → ((j : ℕ) (u : V) → j ≢ by → get_elem? views j ≡ some u → F j u) → F by w
      → (j : ℕ) (u : V) → get_elem? (set views by w) j ≡ some u → F j u
  each_set views by w others mine j u e =
      ⊎_elim
      (λ (x : (j ≡ by) × (w ≡ u)). subst (λ (y : ℕ × V). F y.0 y.1) (λ i. (sym x.0 i, x.1 i)) mine)
      (λ (x : (j ≢ by) × (get_elem? views j ≡ some u)). others j u x.0 x.1)
      (at_set views by j w u e)

  -- there is one more
  pub each_more : (views : List V) (w : V) → ((j : ℕ) (u : V) → get_elem? views j ≡ some u → F j u) → F (length views) w
      → (j : ℕ) (u : V) → get_elem? (views ++ w ∷ []) j ≡ some u → F j u
  each_more views w others new j u e =
      ⊎_elim
      (λ (was : get_elem? views j ≡ some u). others j u was)
      (λ (x : (j ≡ length views) × (w ≡ u)). subst (λ (y : ℕ × V). F y.0 y.1) (λ i. (sym x.0 i, x.1 i)) new)
      (at_end views w u j e)
