-- What holds of each item of a list at its place.
use Rattle.std.proofs.Common.{◌≡◌, ◌≢◌, ℕ, zero, suc, ◌+◌, ◌<◌, List, [], ◌∷◌, sym, subst, ◌∙◌, arith}
use Rattle.std.specs.Prelude.{Some}
use Rattle.std.specs.List.{slice_get, slice_set}

abbrev pub EachAt : {X : Type 0} → (ℕ → X → Type 0) → ℕ → List X → Type 0
EachAt P i [] = Unit {0}
EachAt P i (x ∷ xs) = P i x × EachAt P (i + 1) xs

pub each_get : {X : Type 0} (P : ℕ → X → Type 0) (i k : ℕ) (xs : List X) (x : X) → EachAt P i xs → slice_get xs k ≡ Some x → P (i + k) x
each_get P i k [] x all got = absurd (cc)
each_get P i zero (y ∷ xs) x all got =
    let e : y ≡ x = cc in
    let n : i ≡ i + 0 = omega arith in
    subst (λ z. P (i + 0) z) e (subst (λ j. P j y) n all.0)
each_get P i (suc k) (y ∷ xs) x all got =
    let n : i + 1 + k ≡ i + suc k = omega arith in
    subst (λ j. P j x) n (each_get P (i + 1) k xs x all.1 got)

pub each_set : {X : Type 0} (P Q : ℕ → X → Type 0) (i k : ℕ) (xs : List X) (x : X) → ((j : ℕ) (y : X) → j ≢ i + k → P j y → Q j y) → Q (i + k) x
    → EachAt P i xs → EachAt Q i (slice_set xs k x)
each_set P Q i k [] x f q all = tt
each_set P Q i zero (y ∷ xs) x f q all =
    let n : i + 0 ≡ i = omega arith in
    (subst (λ j. Q j x) n q, each_later P Q i (i + 1) xs (omega arith) (λ j z h p. f j z (λ e. h (e ∙ n)) p) all.1)
  where
    each_later : {X : Type 0} (P Q : ℕ → X → Type 0) (i j : ℕ) (xs : List X) → i < j → ((j : ℕ) (y : X) → j ≢ i → P j y → Q j y) → EachAt P j xs → EachAt Q j xs
    each_later P Q i j [] less f all = tt
    each_later P Q i j (x ∷ xs) less f all = (f j x (λ e. omega arith) all.0, each_later P Q i (j + 1) xs (omega arith) f all.1)
each_set P Q i (suc k) (y ∷ xs) x f q all =
    let n : i + 1 + k ≡ i + suc k = omega arith in
    (f i y (λ e. omega arith) all.0, each_set P Q (i + 1) k xs x (λ j z h p. f j z (λ e. h (e ∙ sym n)) p) (subst (λ j. Q j x) (sym n) q) all.1)

pub each_both : {X : Type 0} (P Q : ℕ → X → Type 0) (i : ℕ) (xs : List X) → EachAt P i xs → EachAt Q i xs → EachAt (λ j x. P j x × Q j x) i xs
each_both P Q i [] all more = tt
each_both P Q i (x ∷ xs) all more = ((all.0, more.0), each_both P Q (i + 1) xs all.1 more.1)

pub each_weaken : {X : Type 0} (P Q : ℕ → X → Type 0) (i : ℕ) (xs : List X) → ((j : ℕ) (x : X) → P j x → Q j x) → EachAt P i xs → EachAt Q i xs
each_weaken P Q i [] f all = tt
each_weaken P Q i (x ∷ xs) f all = (f i x all.0, each_weaken P Q (i + 1) xs f all.1)
