-- The two pairs of one type that are compared at once.
use Rattle.std.proofs.Common.{◌≡◌, refl, Ordering, Less, Equal, Greater}
use Rattle.std.specs.Ordering.{ordering_then}
use Rattle.value_compare.proofs.order.+order.Goals as goal

then_equal : (o : Ordering) → o ≡ ordering_then o Equal
then_equal Less = refl
then_equal Equal = refl
then_equal Greater = refl

pub compare-returns-in-ObjectId-ObjectId : goal.compare-returns-in-ObjectId-ObjectId
compare-returns-in-ObjectId-ObjectId t c =
    let pair = c.in-ObjectId-ObjectId in
    rw (c.cmp.ensures, c.as_slice.ensures, c.as_slice-in-ObjectId-ObjectId.ensures, pair.is-0, pair.is-1) refl

pub compare-returns-in-Int32-Int32 : goal.compare-returns-in-Int32-Int32
compare-returns-in-Int32-Int32 t c =
    let pair = c.in-Int32-Int32 in
    rw (c.cmp-in-Int32-Int32.ensures, pair.is-0, pair.is-1) (then_equal _)
