-- The order of sort keys is total, and so is the order of documents by their keys.
use Rattle.std.proofs.Common.{◌≡◌, List, [], ◌∷◌, refl, sym, ap, ◌∙◌, Ordering, Less, Equal, Greater}
use Rattle.std.specs.Prelude.{true, false}
use Rattle.std.specs.Ordering.{is_lt, is_gt, on, then_cmp, ordering_then, ordering_reverse}
use Rattle.std.specs.Cmp.{IsTotalOrder}
use Rattle.std.proofs.lemmas.Cmp.{on_total, then_total, back_total, nat_cmp_total, upto}
use Rattle.value_model.proofs.Flat.{order_total}
use Rattle.pipeline_model.specs.SortKeys.{Direction, ascending, descending, KeyPart, part_rank, part_value, order_parts, directed, SortField, SortSpec, sort_key, order_keys, order_documents}

pub parts_total : IsTotalOrder order_parts
parts_total = then_total (on_total part_rank nat_cmp_total) (on_total part_value order_total)

pub directed_total : {K : Type 0} (R : K → K → Ordering) (direction : Direction) → IsTotalOrder R → IsTotalOrder (directed direction R)
directed_total R ascending o = o
directed_total R descending o = back_total o

module _ {K : Type 0} (R : K → K → Ordering) (S : List K → List K → Ordering) where
  abbrev Step : List K → List K → Ordering
  Step [] [] = Equal
  Step [] (q ∷ qs) = Less
  Step (p ∷ ps) [] = Greater
  Step (p ∷ ps) (q ∷ qs) = ordering_then (R p q) (S ps qs)

  module _ (o : IsTotalOrder R) (s : IsTotalOrder S) where
    both : IsTotalOrder (then_cmp (on (λ (x : K × List K). x.0) R) (on (λ (x : K × List K). x.1) S))
    both = then_total (on_total (λ (x : K × List K). x.0) o) (on_total (λ (x : K × List K). x.1) s)

    step_antisymm : (ps qs : List K) → Step ps qs ≡ ordering_reverse (Step qs ps)
    step_antisymm [] [] = refl
    step_antisymm [] (q ∷ qs) = refl
    step_antisymm (p ∷ ps) [] = refl
    step_antisymm (p ∷ ps) (q ∷ qs) = both.antisymm (p, ps) (q, qs)

    step_trans : (ps qs rs : List K) → Step ps qs ≡ Less → Step qs rs ≡ Less → Step ps rs ≡ Less
    step_trans [] qs (r ∷ rs) e f = refl
    step_trans [] [] [] e f = absurd (cc e)
    step_trans [] (q ∷ qs) [] e f = absurd (cc f)
    step_trans (p ∷ ps) [] rs e f = absurd (cc e)
    step_trans (p ∷ ps) (q ∷ qs) [] e f = absurd (cc f)
    step_trans (p ∷ ps) (q ∷ qs) (r ∷ rs) e f = both.trans (p, ps) (q, qs) (r, rs) e f

    step_congr : (ps qs rs : List K) → Step ps qs ≡ Equal → Step ps rs ≡ Step qs rs
    step_congr [] [] rs e = refl
    step_congr [] (q ∷ qs) rs e = absurd (cc e)
    step_congr (p ∷ ps) [] rs e = absurd (cc e)
    step_congr (p ∷ ps) (q ∷ qs) [] e = refl
    step_congr (p ∷ ps) (q ∷ qs) (r ∷ rs) e = both.congr (p, ps) (q, qs) (r, rs) e

module _ (by : SortField) (spec : SortSpec) where
  same_step : (ps qs : List KeyPart) → order_keys (by ∷ spec) ps qs ≡ Step (directed by.direction order_parts) (order_keys spec) ps qs
  same_step [] [] = refl
  same_step [] (q ∷ qs) = refl
  same_step (p ∷ ps) [] = refl
  same_step (p ∷ ps) (q ∷ qs) = refl

pub keys_total : (spec : SortSpec) → IsTotalOrder (order_keys spec)
keys_total [] = record { antisymm = λ ps qs. refl; trans = λ ps qs rs e f. e; congr = λ ps qs rs e. refl }
keys_total (by ∷ spec) =
    let o = directed_total order_parts by.direction parts_total in
    let s = keys_total spec in
    record {
      antisymm = λ ps qs. same_step by spec ps qs ∙ step_antisymm _ _ o s ps qs ∙ ap ordering_reverse (sym (same_step by spec qs ps));
      trans = λ ps qs rs e f. same_step by spec ps rs ∙ step_trans _ _ o s ps qs rs (sym (same_step by spec ps qs) ∙ e) (sym (same_step by spec qs rs) ∙ f);
      congr = λ ps qs rs e. same_step by spec ps rs ∙ step_congr _ _ o s ps qs rs (sym (same_step by spec ps qs) ∙ e) ∙ sym (same_step by spec qs rs);
    }

pub documents_total : (spec : SortSpec) → IsTotalOrder (order_documents spec)
documents_total spec = on_total (sort_key spec) (keys_total spec)

gt_lt : (o : Ordering) → is_gt (ordering_reverse o) ≡ is_lt o
gt_lt Less = refl
gt_lt Equal = refl
gt_lt Greater = refl

-- what is not below is so along a chain
pub below_chain : {K : Type 0} {R : K → K → Ordering} → IsTotalOrder R → (x y z : K) → is_lt (R y x) ≡ false → is_lt (R z y) ≡ false → is_lt (R z x) ≡ false
below_chain {R = R} o x y z h k =
    let turned = λ (a b : _). ap is_gt (o.antisymm a b) ∙ gt_lt (R b a) in
    sym (turned x z) ∙ upto o x y z (turned x y ∙ h) (turned y z ∙ k)

lt_one_way : (o p : Ordering) → p ≡ ordering_reverse o → is_lt p ≡ true → is_lt o ≡ false
lt_one_way Less p e h = absurd (cc (ap is_lt e, h))
lt_one_way Equal p e h = refl
lt_one_way Greater p e h = refl

pub below_one_way : {K : Type 0} {R : K → K → Ordering} → IsTotalOrder R → (x y : K) → is_lt (R y x) ≡ true → is_lt (R x y) ≡ false
below_one_way {R = R} o x y h = lt_one_way (R x y) (R y x) (o.antisymm y x) h
