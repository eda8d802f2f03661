-- Loops over documents.
use Rattle.std.proofs.Common.{◌≡◌, ℕ, suc, ◌<◌, ◌≤◌, ◌+◌, ◌-◌, List, [], ◌∷◌, ◌++◌, length, get_or, take, drop, map, refl, sym, ap, ◌∙◌, subst, add-one, arith}
use Rattle.std.specs.Prelude.{Bool, true, false, cond, filter}
use Rattle.std.proofs.Math.Seq.{take-suc}
use Rattle.std.proofs.lemmas.List.{drop_all, map-append}
use Rattle.bson_values.specs.Tree.{Fields}
use Rattle.pipeline_model.specs.GroupSpecs.{GroupSpec}
use Rattle.pipeline_model.specs.Groups.{IsJoined, PartialRow, own_row}

one_filtered : {A B : Type 0} (f : A → B) (b : Bool) (x : A) (xs : List A) (ys : List B) → map f xs ≡ ys → map f (cond b (x ∷ xs) xs) ≡ cond b (f x ∷ ys) ys
one_filtered f true x xs ys e = λ i. f x ∷ e i
one_filtered f false x xs ys e = e

pub map_filtered : {A B : Type 0} (f : A → B) (test : B → Bool) (xs : List A) → map f (filter (λ x. test (f x)) xs) ≡ filter test (map f xs)
map_filtered f test [] = refl
map_filtered f test (x ∷ xs) = one_filtered f (test (f x)) x (filter (λ y. test (f y)) xs) (filter test (map f xs)) (map_filtered f test xs)

one_more_taken : {A : Type 0} (xs : List A) (i : ℕ) (x : A) → i < length xs → x ≡ get_or xs i x → take (i + 1) xs ≡ take i xs ++ x ∷ []
one_more_taken {A = A} xs i x less is = rw add-one (take-suc xs i x less ∙ ap (λ (y : A). take i xs ++ y ∷ []) (sym is))

-- the next document is added
pub grouped_next : {A : Type 0} (see : A → Fields) (spec : GroupSpec) (xs : List A) (i : ℕ) (x : A) (kept after : List PartialRow) →
    i < length xs → x ≡ get_or xs i x →
    ((rows : List PartialRow) → IsJoined spec rows kept → IsJoined spec (rows ++ own_row spec (see x) ∷ []) after) →
    IsJoined spec (map (own_row spec) (map see (take i xs))) kept → IsJoined spec (map (own_row spec) (map see (take (i + 1) xs))) after
grouped_next {A = A} see spec xs i x kept after less is adds joined =
    subst (λ (rows : List PartialRow). IsJoined spec rows after)
    (sym (ap (λ (l : List A). map (own_row spec) (map see l)) (one_more_taken xs i x less is)
    ∙ ap (λ (l : List Fields). map (own_row spec) l) (map-append see (take i xs) (x ∷ []))
    ∙ map-append (own_row spec) (map see (take i xs)) (see x ∷ [])))
    (adds (map (own_row spec) (map see (take i xs))) joined)

-- no document is added yet
pub nothing_grouped : (spec : GroupSpec) (rows : List PartialRow) → rows ≡ [] → IsJoined spec [] rows
nothing_grouped spec rows none = subst (λ (l : List PartialRow). IsJoined spec [] l) (sym none) (record { each = tt; apart = tt; every = tt })

-- one more of n is skipped, after m
pub one_skipped : {A : Type 0} (n m : ℕ) (x : A) (left rest whole : List A) → m < n → left ≡ x ∷ rest → drop (n - m) left ≡ whole →
    drop (n - (m + 1)) rest ≡ whole
one_skipped {A = A} n m x left rest whole less is so_far =
    let one : n - m ≡ suc (n - (m + 1)) = omega arith in
    sym (ap (λ (l : List A). drop (n - m) l) is ∙ ap (λ (k : ℕ). drop k (x ∷ rest)) one) ∙ so_far

-- none is left to skip
pub none_skipped : {A : Type 0} (k : ℕ) (left now whole : List A) → now ≡ left → length left ≡ 0 → drop k left ≡ whole → now ≡ whole
none_skipped k left now whole is none so_far = is ∙ drop_all 0 left (omega arith) ∙ sym (drop_all k left (omega arith)) ∙ so_far

-- as many are skipped as the stage says
pub all_skipped : {A : Type 0} (n m : ℕ) (left now whole : List A) → n ≤ m → now ≡ left → drop (n - m) left ≡ whole → now ≡ whole
all_skipped n m left now whole enough is so_far =
    let none : n - m ≡ 0 = omega arith in
    is ∙ sym (ap (λ (k : ℕ). drop k left) none) ∙ so_far
