-- Entries in the order of their keys, with one inserted or removed: they stay in order, and each key finds what it is to find.
use Rattle.std.proofs.Common.{◌≡◌, List, [], ◌∷◌, refl, sym, ap, ◌∙◌, Ordering, Less, Equal, Greater}
use Rattle.std.specs.Prelude.{Bool, true, false, cond, Option, Some, None}
use Rattle.std.specs.BTreeMap.{insert_entry, is_at}
use Rattle.std.specs.Cmp.{IsTotalOrder}
use Rattle.std.specs.List.{AllByRecursion}
use Rattle.std.specs.List.Sorted.{IsStrictlySortedBy}
use Rattle.std.specs.Map.{keys_of, lookup, remove_entry}
use Rattle.std.specs.Ordering.{is_eq, eq_by_cmp, match_ordering, ordering_reverse}
use Rattle.std.proofs.lemmas.Cmp.{eq_by_cmp_equiv}
use Rattle.std.proofs.lemmas.Map.{lookup-remove_entry}
use Rattle.std.proofs.lemmas.Map.Keys.{IsDistinct-from_sorted}

pub equal_is : (r : Ordering) → is_eq r ≡ true → r ≡ Equal
equal_is Less e = absurd cc
equal_is Equal e = refl
equal_is Greater e = absurd cc

module _ {K : Type 0} {R : K → K → Ordering} (o : IsTotalOrder R) where
  pub turned : (k e : K) → R k e ≡ Greater → R e k ≡ Less
  turned k e greater = o.antisymm e k ∙ ap ordering_reverse greater

  pub equal_turned : (a b : K) → is_eq (R a b) ≡ is_eq (R b a)
  equal_turned a b = (eq_by_cmp_equiv o).symm a b

  pub itself : (k : K) → R k k ≡ Equal
  itself k = equal_is (R k k) ((eq_by_cmp_equiv o).refl k)

module _ {K X : Type 0} {R : K → K → Ordering} (o : IsTotalOrder R) where
  abbrev pub AreAbove : K → List (K × X) → Type 0
  AreAbove k es = AllByRecursion (λ y. R k y ≡ Less) (keys_of es)

  above_insert : (low k : K) (v : X) (es : List (K × X)) → R low k ≡ Less → AreAbove low es → AreAbove low (insert_entry R es k v)
  above_insert low k v [] less above = (less, tt)
  above_insert low k v (e ∷ es) less above = by (R k e.0) (above_insert low k v es less above.1)
    where
      by : (r : Ordering) → AreAbove low (insert_entry R es k v) → AreAbove low (match_ordering r ((k, v) ∷ e ∷ es) ((e.0, v) ∷ es) (e ∷ insert_entry R es k v))
      by Less rest = (less, above)
      by Equal rest = above
      by Greater rest = (above.0, rest)

  pub above_more : (k : K) (low : K) (es : List (K × X)) → R k low ≡ Less → AreAbove low es → AreAbove k es
  above_more k low [] less above = tt
  above_more k low (e ∷ es) less above = (o.trans k low e.0 less above.0, above_more k low es less above.1)

  pub sorted_insert : (k : K) (v : X) (es : List (K × X)) → IsStrictlySortedBy R (keys_of es) → IsStrictlySortedBy R (keys_of (insert_entry R es k v))
  unfolding IsStrictlySortedBy
  sorted_insert k v [] sorted = (tt, tt)
  sorted_insert k v (e ∷ es) sorted = by (R k e.0) refl (sorted_insert k v es sorted.1)
    where
      by : (r : Ordering) → R k e.0 ≡ r → IsStrictlySortedBy R (keys_of (insert_entry R es k v)) →
          IsStrictlySortedBy R (keys_of (match_ordering r ((k, v) ∷ e ∷ es) ((e.0, v) ∷ es) (e ∷ insert_entry R es k v)))
      by Less is rest = ((is, above_more k e.0 es is sorted.0), sorted)
      by Equal is rest = sorted
      by Greater is rest = (above_insert e.0 k v es (turned o k e.0 is) sorted.0, rest)

  above_remove : (low : K) (test : K → Bool) (es : List (K × X)) → AreAbove low es → AreAbove low (remove_entry test es)
  above_remove low test [] above = tt
  above_remove low test (e ∷ es) above = by (test e.0) (above_remove low test es above.1)
    where
      by : (b : Bool) → AreAbove low (remove_entry test es) → AreAbove low (cond b es (e ∷ remove_entry test es))
      by true rest = above.1
      by false rest = (above.0, rest)

  pub sorted_remove : (test : K → Bool) (es : List (K × X)) → IsStrictlySortedBy R (keys_of es) → IsStrictlySortedBy R (keys_of (remove_entry test es))
  unfolding IsStrictlySortedBy
  sorted_remove test [] sorted = tt
  sorted_remove test (e ∷ es) sorted = by (test e.0) (sorted_remove test es sorted.1)
    where
      by : (b : Bool) → IsStrictlySortedBy R (keys_of (remove_entry test es)) → IsStrictlySortedBy R (keys_of (cond b es (e ∷ remove_entry test es)))
      by true rest = sorted.1
      by false rest = (above_remove e.0 test es sorted.0, rest)

  abbrev pub find : K → List (K × X) → Option X
  find q es = lookup (is_at (R q)) es

  -- keys that compare equal find the same
  pub same_find : (a b : K) (es : List (K × X)) → R a b ≡ Equal → find a es ≡ find b es
  same_find a b [] same = refl
  same_find a b (e ∷ es) same =
      ap (λ (r : Ordering). cond (is_eq r) (Some e.1) (find a es)) (o.congr a b e.0 same) ∙ ap (λ (rest : Option X). cond (is_at (R b) e.0) (Some e.1) rest) (same_find a b es same)

  -- two tests that do not both hold
  exchanged : (a b : Bool) (x y rest : Option X) → (a ≡ true → b ≡ true → ⊥) → cond a x (cond b y rest) ≡ cond b y (cond a x rest)
  exchanged true true x y rest never = absurd (never refl refl)
  exchanged true false x y rest never = refl
  exchanged false true x y rest never = refl
  exchanged false false x y rest never = refl

  once : (a : Bool) (x y rest : Option X) → cond a y rest ≡ cond a y (cond a x rest)
  once true x y rest = refl
  once false x y rest = refl

  find_insert_at : (q k : K) (v : X) (e : K × X) (es : List (K × X)) (r : Ordering) → R k e.0 ≡ r →
      find q (insert_entry R es k v) ≡ cond (is_eq (R q k)) (Some v) (find q es) →
      find q (match_ordering r ((k, v) ∷ e ∷ es) ((e.0, v) ∷ es) (e ∷ insert_entry R es k v)) ≡ cond (is_eq (R q k)) (Some v) (find q (e ∷ es))
  find_insert_at q k v e es Less is rest = refl
  find_insert_at q k v e es Equal is rest =
      let alike : is_eq (R q e.0) ≡ is_eq (R q k) = equal_turned o q e.0 ∙ sym (ap is_eq (o.congr k e.0 q is)) ∙ equal_turned o k q in
      ap (λ (b : Bool). cond b (Some v) (find q es)) alike
      ∙ once (is_eq (R q k)) (Some e.1) (Some v) (find q es)
      ∙ ap (λ (b : Bool). cond (is_eq (R q k)) (Some v) (cond b (Some e.1) (find q es))) (sym alike)
  find_insert_at q k v e es Greater is rest =
      ap (λ (found : Option X). cond (is_eq (R q e.0)) (Some e.1) found) rest
      ∙ exchanged (is_eq (R q e.0)) (is_eq (R q k)) (Some e.1) (Some v) (find q es)
      (λ at_e at_k. differ (sym is ∙ sym (o.congr q k e.0 (equal_is (R q k) at_k)) ∙ equal_is (R q e.0) at_e))
    where
      differ : Greater ≡ Equal → ⊥
      differ h = cc

  pub find_insert : (q k : K) (v : X) (es : List (K × X)) → find q (insert_entry R es k v) ≡ cond (is_eq (R q k)) (Some v) (find q es)
  find_insert q k v [] = refl
  find_insert q k v (e ∷ es) = find_insert_at q k v e es (R k e.0) refl (find_insert q k v es)

  pub find_remove : (q k : K) (es : List (K × X)) → IsStrictlySortedBy R (keys_of es) →
      find q (remove_entry (is_at (R k)) es) ≡ cond (is_eq (R k q)) None (find q es)
  find_remove q k es sorted =
      lookup-remove_entry (eq_by_cmp_equiv o) (is_at (R k)) (λ x y at. ap is_eq (o.congr k x y (equal_is (R k x) at))) q es (IsDistinct-from_sorted R (keys_of es) sorted)

  pub above_never : (q : K) (es : List (K × X)) → AreAbove q es → find q es ≡ None
  above_never q [] above = refl
  above_never q (e ∷ es) above = ap (λ (r : Ordering). cond (is_eq r) (Some e.1) (find q es)) above.0 ∙ above_never q es above.1
