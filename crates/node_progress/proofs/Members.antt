-- Members of lists that were mapped or filtered, and the shards that have not returned their time.
use Rattle.std.proofs.Common.{◌≡◌, ◌≢◌, ◌⊎◌, inl, inr, ℕ, List, [], ◌∷◌, ◌++◌, map, refl, sym, ap, subst, ◌∙◌, Bool}
use Rattle.std.specs.Prelude.{true, false, ◌==◌, ◌||◌, filter, not, if◌then◌else◌}
use Rattle.std.specs.List.{list_any}
use Rattle.std.proofs.lemmas.Bool.{eqb-false}
use Rattle.history_model.specs.History.{IsIn}
use Rattle.history_model.proofs.Lists.{in_first, in_later, in_cons, in_none}
use Rattle.node_model.specs.RouterRequests.{untold}
use Rattle.node_model.specs.RouterNext.{also_told}

pub in_map : {X Y : Type 0} (g : X → Y) (x : X) (xs : List X) → IsIn x xs → IsIn (g x) (map g xs)
in_map g x [] i = absurd (in_none x i)
in_map {X = X} g x (y ∷ xs) i = by_place (in_cons x y xs i) (λ j. in_map g x xs j)
  where
    by_place : (x ≡ y) ⊎ IsIn x xs → (IsIn x xs → IsIn (g x) (map g xs)) → IsIn (g x) (g y ∷ map g xs)
    by_place (inl same) later = subst (λ z. IsIn (g x) (g z ∷ map g xs)) same (in_first (g x) (map g xs))
    by_place (inr there) later = in_later (g x) (g y) (map g xs) (later there)

pub in_mapped : {X Y : Type 0} (g : X → Y) (y : Y) (xs : List X) → IsIn y (map g xs) → (x : X) × IsIn x xs × (y ≡ g x)
in_mapped g y [] there = absurd (in_none y there)
in_mapped {X = X} g y (x ∷ xs) there = by_place (in_cons y (g x) (map g xs) there) (λ i. in_mapped g y xs i)
  where
    by_place : (y ≡ g x) ⊎ IsIn y (map g xs) → (IsIn y (map g xs) → (z : X) × IsIn z xs × (y ≡ g z)) → (z : X) × IsIn z (x ∷ xs) × (y ≡ g z)
    by_place (inl same) later = (x, in_first x xs, same)
    by_place (inr there) later = let more = later there in (more.0, in_later more.0 x xs more.1, more.2)

pub in_filter : {X : Type 0} (test : X → Bool) (x : X) (xs : List X) → IsIn x xs → test x ≡ true → IsIn x (filter test xs)
in_filter test x [] i is = absurd (in_none x i)
in_filter {X = X} test x (y ∷ xs) i is = by_place (in_cons x y xs i) (λ j. in_filter test x xs j is)
  where
    by_test : (b : Bool) → IsIn x (filter test xs) → IsIn x (if b then y ∷ filter test xs else filter test xs)
    by_test true there = in_later x y (filter test xs) there
    by_test false there = there

    by_place : (x ≡ y) ⊎ IsIn x xs → (IsIn x xs → IsIn x (filter test xs)) → IsIn x (if test y then y ∷ filter test xs else filter test xs)
    by_place (inl same) later =
        subst (λ b. IsIn x (if b then y ∷ filter test xs else filter test xs)) (sym (ap (λ z. test z) (sym same) ∙ is))
        (subst (λ z. IsIn x (z ∷ filter test xs)) same (in_first x (filter test xs)))
    by_place (inr there) later = by_test (test y) (later there)

pub in_filtered : {X : Type 0} (test : X → Bool) (x : X) (xs : List X) → IsIn x (filter test xs) → IsIn x xs × (test x ≡ true)
in_filtered test x [] there = absurd (in_none x there)
in_filtered {X = X} test x (y ∷ xs) there = by_test (test y) refl there (λ i. in_filtered test x xs i)
  where
    by_place : test y ≡ true → (x ≡ y) ⊎ IsIn x (filter test xs) → (IsIn x (filter test xs) → IsIn x xs × (test x ≡ true)) → IsIn x (y ∷ xs) × (test x ≡ true)
    by_place passes (inl same) later = (subst (λ z. IsIn x (z ∷ xs)) same (in_first x xs), ap (λ z. test z) same ∙ passes)
    by_place passes (inr more) later = let found = later more in (in_later x y xs found.0, found.1)

    by_test : (b : Bool) → test y ≡ b → IsIn x (if b then y ∷ filter test xs else filter test xs)
        → (IsIn x (filter test xs) → IsIn x xs × (test x ≡ true)) → IsIn x (y ∷ xs) × (test x ≡ true)
    by_test true is i later = by_place is (in_cons x y (filter test xs) i) later
    by_test false is i later = let found = later i in (in_later x y xs found.0, found.1)

-- one that passes a test
pub any_found : {X : Type 0} (test : X → Bool) (xs : List X) → list_any test xs ≡ true → (x : X) × IsIn x xs × (test x ≡ true)
any_found test [] is = absurd (cc is)
any_found {X = X} test (x ∷ xs) is = by_test (test x) refl is (λ e. any_found test xs e)
  where
    by_test : (b : Bool) → test x ≡ b → (b || list_any test xs) ≡ true → (list_any test xs ≡ true → (y : X) × IsIn y xs × (test y ≡ true))
        → (y : X) × IsIn y (x ∷ xs) × (test y ≡ true)
    by_test true h is later = (x, in_first x xs, h)
    by_test false h is later = let more = later is in (more.0, in_later more.0 x xs more.1, more.2)

-- where none of them passes, none of the first does, nor the last
none_passes : {X : Type 0} (test : X → Bool) (xs : List X) (y : X) → list_any test (xs ++ y ∷ []) ≡ false → (list_any test xs ≡ false) × (test y ≡ false)
none_passes test [] y none = by_test (test y) none
  where
    by_test : (b : Bool) → (b || false) ≡ false → (false ≡ false) × (b ≡ false)
    by_test true none = absurd (cc none)
    by_test false none = (refl, refl)
none_passes test (x ∷ xs) y none = by_test (test x) none (λ e. none_passes test xs y e)
  where
    by_test : (b : Bool) → (b || list_any test (xs ++ y ∷ [])) ≡ false
        → (list_any test (xs ++ y ∷ []) ≡ false → (list_any test xs ≡ false) × (test y ≡ false)) → ((b || list_any test xs) ≡ false) × (test y ≡ false)
    by_test true none later = absurd (cc none)
    by_test false none later = later none

-- SHARDS

pub is_false : (b : Bool) → not b ≡ true → b ≡ false
is_false true is = absurd (cc is)
is_false false is = refl

-- a shard that has not returned its time, where one more has: it had not before, and is another one
pub still_untold : (told shards : List ℕ) (now shard : ℕ) → IsIn shard (untold (also_told told now) shards) → IsIn shard (untold told shards) × (shard ≢ now)
still_untold told shards now shard there = by_told (list_any (λ t. t == now) told) refl (is_false _ found.1)
  where
    found : IsIn shard shards × (not (list_any (λ t. t == shard) (also_told told now)) ≡ true)
    found = in_filtered (λ s. not (list_any (λ t. t == s) (also_told told now))) shard shards there

    untold_yet : list_any (λ t. t == shard) told ≡ false → IsIn shard (untold told shards)
    untold_yet none = in_filter (λ s. not (list_any (λ t. t == s) told)) shard shards found.0 (ap (λ b. not b) none)

    by_told : (b : Bool) → list_any (λ t. t == now) told ≡ b → list_any (λ t. t == shard) (if b then told else told ++ now ∷ []) ≡ false
        → IsIn shard (untold told shards) × (shard ≢ now)
    by_told true has none = (
      untold_yet none,
      λ same.
          let one_passes : list_any (λ t. t == shard) told ≡ true = ap (λ n. list_any (λ t. t == n) told) same ∙ has in
          cc (one_passes, none),
    )
    by_told false has none =
        let apart = none_passes (λ t. t == shard) told now none in
        (untold_yet apart.0, λ same. eqb-false _ _ apart.1 (sym same))
