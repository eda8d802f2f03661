-- What keys have once the chain at one place changed, or one was added.
use Rattle.std.proofs.Common.{◌≡◌, ◌+◌, ◌<◌, ℕ, zero, suc, List, [], ◌∷◌, ◌++◌, length, refl, sym, ap, ◌∙◌, arith}
use Rattle.std.specs.Prelude.{Bool, true, false, cond, Option, Some, None}
use Rattle.std.specs.BTreeMap.{BTreeMap, get_by}
use Rattle.std.specs.List.{slice_get, slice_set, slice_index_or}
use Rattle.std.specs.Option.{unwrap_or}
use Rattle.std.specs.Ordering.{is_eq}
use Rattle.std.proofs.lemmas.Option.{slice_get_read}
use Rattle.std.proofs.lemmas.List.{length-append}
use Rattle.query_model.proofs.Entries.{equal_is}
use Rattle.bson_values.specs.Tree.{Datum}
use Rattle.value_compare.specs.Order.{order, same_value}
use Rattle.value_compare.proofs.Flat.{order_total}
use Rattle.mvcc_collection.specs.Chains.{Past}
use Rattle.mvcc_collection.specs.Places.{AreApart, chain_at}
use Rattle.mvcc_collection.proofs.Puts.{Pasts, AreOfKeys, IsChanged, same_place}

-- the versions that each key has by its place
abbrev pub pasts_at : BTreeMap Datum ℕ → List Past → Pasts
pasts_at places chains key = chain_at chains (get_by (order key) places)

pub alike_at : (places : BTreeMap Datum ℕ) (chains : List Past) → AreOfKeys (pasts_at places chains)
alike_at places chains a b same = ap (λ (place : Option ℕ). chain_at chains place) (same_place places a b same)

module _ {X : Type 0} where
  pub at_set : (xs : List X) (i : ℕ) (x : X) → i < length xs → slice_get (slice_set xs i x) i ≡ Some x
  at_set [] i x bound = absurd (omega (arith, bound))
  at_set (y ∷ xs) zero x bound = refl
  at_set (y ∷ xs) (suc i) x bound = at_set xs i x (omega (arith, bound))

  pub beside_set : (xs : List X) (i j : ℕ) (x : X) → (j ≡ i → ⊥) → slice_get (slice_set xs i x) j ≡ slice_get xs j
  beside_set [] i j x apart = refl
  beside_set (y ∷ xs) zero zero x apart = absurd (apart refl)
  beside_set (y ∷ xs) zero (suc j) x apart = refl
  beside_set (y ∷ xs) (suc i) zero x apart = refl
  beside_set (y ∷ xs) (suc i) (suc j) x apart = beside_set xs i j x (λ e. apart (ap (λ (n : ℕ). suc n) e))

  pub at_end : (xs : List X) (x : X) → slice_get (xs ++ x ∷ []) (length xs) ≡ Some x
  at_end [] x = refl
  at_end (y ∷ xs) x = at_end xs x

  pub before_end : (xs : List X) (x : X) (i : ℕ) → i < length xs → slice_get (xs ++ x ∷ []) i ≡ slice_get xs i
  before_end [] x i bound = absurd (omega (arith, bound))
  before_end (y ∷ xs) x zero bound = refl
  before_end (y ∷ xs) x (suc i) bound = before_end xs x i (omega (arith, bound))

differ : true ≡ false → ⊥
differ h = cc

one_place : (i j : ℕ) → Some i ≡ Some j → i ≡ j
one_place i j e = ap (λ (o : Option ℕ). unwrap_or o 0) e

both_same : (key a b : Datum) → same_value key a ≡ true → same_value key b ≡ true → same_value a b ≡ true
both_same key a b at_a at_b = sym (ap is_eq (order_total.congr key a b (equal_is (order key a) at_a))) ∙ at_b

module _ (places : BTreeMap Datum ℕ) (chains : List Past) (apart : AreApart places chains) (key : Datum) where
  module _ (place : ℕ) (is : get_by (order key) places ≡ Some place) (past : Past) where
    changed_by : (q : Datum) (same : Bool) → same_value key q ≡ same → (o : Option ℕ) → get_by (order q) places ≡ o →
        chain_at (slice_set chains place past) o ≡ cond same (Some past) (chain_at chains o)
    changed_by q true same None e = absurd (none_some (sym e ∙ sym (same_place places key q same) ∙ is))
      where
        none_some : None ≡ Some place → ⊥
        none_some h = cc
    changed_by q true same (Some i) e =
        let it : i ≡ place = one_place i place (sym e ∙ sym (same_place places key q same) ∙ is) in
        ap (λ (n : ℕ). slice_get (slice_set chains place past) n) it ∙ at_set chains place past (apart.inside key place is)
    changed_by q false same None e = refl
    changed_by q false same (Some i) e =
        beside_set chains place i past (λ it. differ (sym (apart.own key q place is (e ∙ ap (λ (n : ℕ). Some n) it)) ∙ same))

    -- what the chain at the key's place has, the key has
    pub had_at : (chain : Past) → chain ≡ slice_index_or chains place chain → pasts_at places chains key ≡ Some chain
    had_at chain read =
        ap (λ (o : Option ℕ). chain_at chains o) is ∙ slice_get_read chains (length chains) place chain refl (apart.inside key place is) read

    -- the chain at the key's place is another now
    pub changed_at : IsChanged (pasts_at places chains) (pasts_at places (slice_set chains place past)) key past
    changed_at q = changed_by q (same_value key q) refl (get_by (order q) places) refl

  module _ (none : get_by (order key) places ≡ None) (more : BTreeMap Datum ℕ) (past : Past)
      (added : (q : Datum) → get_by (order q) more ≡ cond (same_value key q) (Some (length chains)) (get_by (order q) places)) where
    added_by : (q : Datum) (same : Bool) → same_value key q ≡ same → (o : Option ℕ) → get_by (order q) places ≡ o →
        chain_at (chains ++ past ∷ []) (cond same (Some (length chains)) o) ≡ cond same (Some past) (chain_at chains o)
    added_by q true same o e = at_end chains past
    added_by q false same None e = refl
    added_by q false same (Some i) e = before_end chains past i (apart.inside q i e)

    -- the key's chain is after the others
    pub added_behind : IsChanged (pasts_at places chains) (pasts_at more (chains ++ past ∷ [])) key past
    added_behind q = ap (λ (o : Option ℕ). chain_at (chains ++ past ∷ []) o) (added q) ∙ added_by q (same_value key q) refl (get_by (order q) places) refl

    pub none_before : pasts_at places chains key ≡ None
    none_before = ap (λ (o : Option ℕ). chain_at chains o) none

    length_more : length (chains ++ past ∷ []) ≡ length chains + 1
    length_more = length-append chains (past ∷ [])

    inside_by : (q : Datum) (same : Bool) → same_value key q ≡ same → (i : ℕ) → cond same (Some (length chains)) (get_by (order q) places) ≡ Some i →
        i < length (chains ++ past ∷ [])
    inside_by q true same i at = rw length_more (omega (arith, one_place (length chains) i at))
    inside_by q false same i at = rw length_more (omega (arith, apart.inside q i at))

    own_by : (a b : Datum) (at_a at_b : Bool) → same_value key a ≡ at_a → same_value key b ≡ at_b → (i : ℕ) →
        cond at_a (Some (length chains)) (get_by (order a) places) ≡ Some i → cond at_b (Some (length chains)) (get_by (order b) places) ≡ Some i →
        same_value a b ≡ true
    own_by a b true true is_a is_b i at_a at_b = both_same key a b is_a is_b
    own_by a b true false is_a is_b i at_a at_b = absurd (omega (arith, one_place (length chains) i at_a, apart.inside b i at_b))
    own_by a b false true is_a is_b i at_a at_b = absurd (omega (arith, one_place (length chains) i at_b, apart.inside a i at_a))
    own_by a b false false is_a is_b i at_a at_b = apart.own a b i at_a at_b

    pub added_apart : AreApart more (chains ++ past ∷ [])
    added_apart = record {
      inside = λ k i at. inside_by k (same_value key k) refl i (sym (added k) ∙ at);
      own = λ a b i at_a at_b. own_by a b (same_value key a) (same_value key b) refl refl i (sym (added a) ∙ at_a) (sym (added b) ∙ at_b);
    }
