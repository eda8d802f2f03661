-- The order from the other side.
use Rattle.std.proofs.Common.{◌≡◌, refl, ap, ◌∙◌, Ordering, Less, Equal, Greater}
use Rattle.std.specs.Ordering.{is_gt, is_lt, ordering_reverse}
use Rattle.value_model.specs.Tree.{Datum}
use Rattle.value_model.specs.Order.{order}
use Rattle.value_model.proofs.Flat.{order_total}

reversed : (o : Ordering) → is_gt (ordering_reverse o) ≡ is_lt o
reversed Less = refl
reversed Equal = refl
reversed Greater = refl

pub greater_is_less : (a b : Datum) → is_gt (order a b) ≡ is_lt (order b a)
greater_is_less a b = ap is_gt (order_total.antisymm a b) ∙ reversed (order b a)
