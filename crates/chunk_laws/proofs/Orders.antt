-- What the order of values gives for bounds.
use Rattle.std.proofs.Common.{◌≡◌, refl, sym, ap, ◌∙◌, Ordering, Less, Equal, Greater}
use Rattle.std.specs.Prelude.{true, false}
use Rattle.std.specs.Ordering.{ordering_reverse, is_le, is_lt, is_eq, is_gt}
use Rattle.std.proofs.lemmas.Cmp.{upto, tied_itself, tied_back, alike_right}
use Rattle.bson_model.specs.Tree.{Datum}
use Rattle.value_model.specs.Order.{order}
use Rattle.value_model.proofs.Flat.{order_total}

pub less_is : (o : Ordering) → is_lt o ≡ true → o ≡ Less
less_is Less e = refl
less_is Equal e = absurd cc
less_is Greater e = absurd cc

pub equal_is : (o : Ordering) → is_eq o ≡ true → o ≡ Equal
equal_is Less e = absurd cc
equal_is Equal e = refl
equal_is Greater e = absurd cc

not_gt : (o : Ordering) → is_le o ≡ true → is_gt o ≡ false
not_gt Less e = refl
not_gt Equal e = refl
not_gt Greater e = absurd cc

from_not_gt : (o : Ordering) → is_gt o ≡ false → is_le o ≡ true
from_not_gt Less e = refl
from_not_gt Equal e = refl
from_not_gt Greater e = absurd cc

pub lt_le : (o : Ordering) → is_lt o ≡ true → is_le o ≡ true
lt_le Less e = refl
lt_le Equal e = refl
lt_le Greater e = absurd cc

pub eq_le : (o : Ordering) → is_eq o ≡ true → is_le o ≡ true
eq_le Less e = absurd cc
eq_le Equal e = refl
eq_le Greater e = absurd cc

pub le_trans : (a b c : Datum) → is_le (order a b) ≡ true → is_le (order b c) ≡ true → is_le (order a c) ≡ true
le_trans a b c p q = from_not_gt (order a c) (upto order_total a b c (not_gt _ p) (not_gt _ q))

lt_le_by : (a b c : Datum) (o : Ordering) → order b c ≡ o → is_le o ≡ true → is_lt (order a b) ≡ true → is_lt (order a c) ≡ true
lt_le_by a b c Less e l p = ap is_lt (order_total.trans a b c (less_is _ p) e)
lt_le_by a b c Equal e l p = sym (ap is_lt (alike_right order_total b c a e)) ∙ p
lt_le_by a b c Greater e l p = absurd cc

pub lt_le_trans : (a b c : Datum) → is_lt (order a b) ≡ true → is_le (order b c) ≡ true → is_lt (order a c) ≡ true
lt_le_trans a b c p q = lt_le_by a b c (order b c) refl q p

le_lt_by : (a b c : Datum) (o : Ordering) → order a b ≡ o → is_le o ≡ true → is_lt (order b c) ≡ true → is_lt (order a c) ≡ true
le_lt_by a b c Less e l p = ap is_lt (order_total.trans a b c e (less_is _ p))
le_lt_by a b c Equal e l p = ap is_lt (order_total.congr a b c e) ∙ p
le_lt_by a b c Greater e l p = absurd cc

pub le_lt_trans : (a b c : Datum) → is_le (order a b) ≡ true → is_lt (order b c) ≡ true → is_lt (order a c) ≡ true
le_lt_trans a b c p q = le_lt_by a b c (order a b) refl p q

turned_lt : (o : Ordering) → is_lt (ordering_reverse o) ≡ true → is_le o ≡ false
turned_lt Less e = absurd cc
turned_lt Equal e = absurd cc
turned_lt Greater e = refl

turned_le : (o : Ordering) → is_le (ordering_reverse o) ≡ true → is_lt o ≡ false
turned_le Less e = absurd cc
turned_le Equal e = refl
turned_le Greater e = refl

pub not_le : (a b : Datum) → is_lt (order b a) ≡ true → is_le (order a b) ≡ false
not_le a b p = turned_lt (order a b) (sym (ap is_lt (order_total.antisymm b a)) ∙ p)

pub not_lt : (a b : Datum) → is_le (order b a) ≡ true → is_lt (order a b) ≡ false
not_lt a b p = turned_le (order a b) (sym (ap is_le (order_total.antisymm b a)) ∙ p)

pub eq_turned : (a b : Datum) → is_eq (order a b) ≡ true → is_eq (order b a) ≡ true
eq_turned a b p = ap is_eq (tied_back order_total a b (equal_is _ p))

pub itself : (a : Datum) → is_eq (order a a) ≡ true
itself a = ap is_eq (tied_itself order_total a)
