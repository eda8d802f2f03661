-- Properties of each item of a list, and membership.
use Rattle.std.proofs.Common.{◌≡◌, ◌⊎◌, inl, inr, List, [], ◌∷◌, ◌++◌, refl, sym, ap, subst, ◌∙◌, append_assoc}
use Rattle.std.specs.Prelude.{Bool, true, false, filter, if◌then◌else◌}
use Rattle.std.specs.List.{AllByRecursion}
use Rattle.history_model.specs.History.{IsIn}

pub all_push : {X : Type 0} (P : X → Type 0) (xs : List X) (y : X) → AllByRecursion P xs → P y → AllByRecursion P (xs ++ y ∷ [])
all_push P [] y all one = (one, tt)
all_push P (x ∷ xs) y all one = (all.0, all_push P xs y all.1 one)

pub all_weaken : {X : Type 0} (P Q : X → Type 0) (xs : List X) → ((x : X) → P x → Q x) → AllByRecursion P xs → AllByRecursion Q xs
all_weaken P Q [] f all = tt
all_weaken P Q (x ∷ xs) f all = (f x all.0, all_weaken P Q xs f all.1)

pub all_both : {X : Type 0} (P Q R : X → Type 0) (xs : List X) → ((x : X) → P x → Q x → R x) → AllByRecursion P xs → AllByRecursion Q xs → AllByRecursion R xs
all_both P Q R [] f ps qs = tt
all_both P Q R (x ∷ xs) f ps qs = (f x ps.0 qs.0, all_both P Q R xs f ps.1 qs.1)

pub in_first : {X : Type 0} (x : X) (xs : List X) → IsIn x (x ∷ xs)
in_first x xs = ([], xs, refl)

pub in_later : {X : Type 0} (x y : X) (xs : List X) → IsIn x xs → IsIn x (y ∷ xs)
in_later x y xs (prefix, back, e) = (y ∷ prefix, back, ap (λ l. y ∷ l) e)

pub in_cons : {X : Type 0} (x y : X) (xs : List X) → IsIn x (y ∷ xs) → (x ≡ y) ⊎ IsIn x xs
in_cons {X = X} x y xs i = by_prefix i.0 i.1 i.2
  where
    by_prefix : (prefix back : List X) → y ∷ xs ≡ prefix ++ x ∷ back → (x ≡ y) ⊎ IsIn x xs
    by_prefix [] back e = inl (cc)
    by_prefix (f ∷ prefix) back e = inr (prefix, back, cc)

pub in_none : {X : Type 0} (x : X) → IsIn x [] → ⊥
in_none {X = X} x i = by_prefix i.0 i.1 i.2
  where
    by_prefix : (prefix back : List X) → [] ≡ prefix ++ x ∷ back → ⊥
    by_prefix [] back e = cc
    by_prefix (f ∷ prefix) back e = cc

-- what holds of each item holds of a member
pub all_at : {X : Type 0} (P : X → Type 0) (x : X) (xs : List X) → AllByRecursion P xs → IsIn x xs → P x
all_at P x [] all i = absurd (in_none x i)
all_at P x (y ∷ xs) all i = by_cases (in_cons x y xs i) (λ j. all_at P x xs all.1 j)
  where
    by_cases : (x ≡ y) ⊎ IsIn x xs → (IsIn x xs → P x) → P x
    by_cases (inl e) later = subst P (sym e) all.0
    by_cases (inr j) later = later j

pub all_append : {X : Type 0} (P : X → Type 0) (xs ys : List X) → AllByRecursion P xs → AllByRecursion P ys → AllByRecursion P (xs ++ ys)
all_append P [] ys all more = more
all_append P (x ∷ xs) ys all more = (all.0, all_append P xs ys all.1 more)

-- a member of a list is a member of a longer one
pub in_prefix : {X : Type 0} (x : X) (xs ys : List X) → IsIn x xs → IsIn x (xs ++ ys)
in_prefix x xs ys (prefix, back, e) = (prefix, back ++ ys, ap (λ l. l ++ ys) e ∙ append_assoc prefix (x ∷ back) ys)

pub in_back : {X : Type 0} (x : X) (xs ys : List X) → IsIn x ys → IsIn x (xs ++ ys)
in_back x xs ys (prefix, back, e) = (xs ++ prefix, back, ap (λ l. xs ++ l) e ∙ sym (append_assoc xs prefix (x ∷ back)))

-- a member of two joined lists is a member of one of them
pub in_append : {X : Type 0} (x : X) (xs ys : List X) → IsIn x (xs ++ ys) → IsIn x xs ⊎ IsIn x ys
in_append x [] ys i = inr i
in_append {X = X} x (y ∷ xs) ys i = by_cases (in_cons x y (xs ++ ys) i) (λ j. in_append x xs ys j)
  where
    by_cases : (x ≡ y) ⊎ IsIn x (xs ++ ys) → (IsIn x (xs ++ ys) → IsIn x xs ⊎ IsIn x ys) → IsIn x (y ∷ xs) ⊎ IsIn x ys
    by_cases (inl e) later = inl ([], xs, ap (λ z. z ∷ xs) (sym e))
    by_cases (inr j) later = by_part (later j)
      where
        by_part : IsIn x xs ⊎ IsIn x ys → IsIn x (y ∷ xs) ⊎ IsIn x ys
        by_part (inl k) = inl (in_later x y xs k)
        by_part (inr k) = inr k

-- a member of a list with one more item is a member of the list, or that item
pub in_push : {X : Type 0} (x : X) (xs : List X) (y : X) → IsIn x (xs ++ y ∷ []) → IsIn x xs ⊎ (x ≡ y)
in_push {X = X} x xs y i = by_part (in_append x xs (y ∷ []) i)
  where
    by_one : (x ≡ y) ⊎ IsIn x [] → IsIn x xs ⊎ (x ≡ y)
    by_one (inl e) = inr e
    by_one (inr j) = absurd (in_none x j)

    by_part : IsIn x xs ⊎ IsIn x (y ∷ []) → IsIn x xs ⊎ (x ≡ y)
    by_part (inl j) = inl j
    by_part (inr j) = by_one (in_cons x y [] j)

-- what holds of all members holds of each item
pub all_from : {X : Type 0} (P : X → Type 0) (xs : List X) → ((x : X) → IsIn x xs → P x) → AllByRecursion P xs
all_from P [] f = tt
all_from P (x ∷ xs) f = (f x (in_first x xs), all_from P xs (λ y i. f y (in_later y x xs i)))

pub all_filter : {X : Type 0} (P : X → Type 0) (test : X → Bool) (xs : List X) → AllByRecursion P xs → AllByRecursion P (filter test xs)
all_filter P test [] all = tt
all_filter P test (x ∷ xs) all = by_test (test x) (all_filter P test xs all.1)
  where
    by_test : (b : Bool) → AllByRecursion P (filter test xs) → AllByRecursion P (if b then x ∷ filter test xs else filter test xs)
    by_test true rest = (all.0, rest)
    by_test false rest = rest
