use Rattle.std.proofs.Common.{refl}
use Rattle.value_compare.proofs.order.compare_binaries.Goals as goal

pub returns : goal.returns
returns c = rw (c.then.ensures, c.cmp-3.ensures, c.then-of_one_length.ensures, c.cmp.ensures, c.cmp-2.ensures) refl
