-- How the bytes grow where the items of a list are written, one after another.
use Rattle.std.proofs.Common.{◌≡◌, ℕ, zero, suc, ◌+◌, ◌<◌, ◌≤◌, List, [], ◌∷◌, ◌++◌, length, get_or, take, drop, map, refl, sym, ap, subst, ◌∙◌, add-one, arith, append_assoc, drop-cons, length-take}
use Rattle.std.specs.List.{AllByRecursion, flat_map}
use Rattle.std.proofs.lemmas.List.{append-nil, drop_all}
use Rattle.std.proofs.Math.Seq.{take-length}
use Rattle.bson_values.proofs.Puts.{kept_on}

-- the first i items are written, and those after them are written and sound where all are
pub record PutSoFar {X Y : Type 0} (spelled_item : Y → List ℕ) (IsSoundItem : Y → Type 0) (meant : X → Y) (items : List X) (i : ℕ) (old out : List ℕ) : Type 0 where
  pub text : out ++ flat_map spelled_item (map meant (drop i items)) ≡ old ++ flat_map spelled_item (map meant items)
  pub sound : AllByRecursion IsSoundItem (map meant (drop i items)) → AllByRecursion IsSoundItem (map meant items)
  pub kept : take (length old) out ≡ old

pub begins : {X Y : Type 0} (spelled_item : Y → List ℕ) (IsSoundItem : Y → Type 0) (meant : X → Y) (items : List X) (old : List ℕ) → PutSoFar spelled_item IsSoundItem meant items 0 old old
begins spelled_item IsSoundItem meant items old = record { text = refl; sound = λ all. all; kept = take-length old }

pub goes_on : {X Y : Type 0} (spelled_item : Y → List ℕ) (IsSoundItem : Y → Type 0) (meant : X → Y) (items : List X) (i : ℕ) (x : X) (old out new : List ℕ) → i < length items → x ≡ get_or items i x → new ≡ out ++ spelled_item (meant x) → IsSoundItem (meant x) → take (length out) new ≡ out → PutSoFar spelled_item IsSoundItem meant items i old out → PutSoFar spelled_item IsSoundItem meant items (i + 1) old new
goes_on spelled_item IsSoundItem meant items i x old out new within is grown fine after so_far =
    let behind : List ℕ = flat_map spelled_item (map meant (drop (i + 1) items)) in
    let split : drop i items ≡ x ∷ drop (i + 1) items = rw (add-one, drop-cons items i x within, ← is) refl in
    record {
      text = rw (grown, append_assoc out (spelled_item (meant x)) behind) (ap (λ (rest : List _). out ++ flat_map spelled_item (map meant rest)) (sym split) ∙ so_far.text);
      sound = λ all. so_far.sound (subst (λ (rest : List _). AllByRecursion IsSoundItem (map meant rest)) (sym split) (fine, all));
      kept = kept_on old out new so_far.kept after;
    }

pub ends : {X Y : Type 0} (spelled_item : Y → List ℕ) (IsSoundItem : Y → Type 0) (meant : X → Y) (items : List X) (i : ℕ) (old out : List ℕ) → length items ≤ i → PutSoFar spelled_item IsSoundItem meant items i old out → (out ≡ old ++ flat_map spelled_item (map meant items)) × AllByRecursion IsSoundItem (map meant items)
ends spelled_item IsSoundItem meant items i old out all so_far =
    let none : drop i items ≡ [] = drop_all i items all in (
      sym (append-nil out) ∙ ap (λ (rest : List _). out ++ flat_map spelled_item (map meant rest)) (sym none) ∙ so_far.text,
      so_far.sound (subst (λ (rest : List _). AllByRecursion IsSoundItem (map meant rest)) (sym none) tt),
    )

pub all_at : {X Y : Type 0} (P : Y → Type 0) (meant : X → Y) (items : List X) (i : ℕ) (x : X) → i < length items → x ≡ get_or items i x → AllByRecursion P (map meant items) → P (meant x)
all_at P meant [] i x within is all = absurd (omega arith)
all_at P meant (y ∷ items) zero x within is all = subst (λ (z : _). P (meant z)) (sym is) all.0
all_at P meant (y ∷ items) (suc i) x within is all = all_at P meant items i x (omega arith) is all.1
