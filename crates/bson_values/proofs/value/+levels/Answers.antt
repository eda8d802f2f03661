use Rattle.std.proofs.Common.{arith}
use Rattle.std.proofs.lemmas.List.{drop_all}
use Rattle.bson_values.proofs.value.+levels.Goals as goal

pub Array::levels-returns : goal.Array::levels-returns
Array::levels-returns t c =
    let deepest = rw (drop_all c.loop-value.value-index c.deref-value-items.result.now c.loop-value-test.false) at c.loop-value.invariant.deepest in
    omega (arith, deepest, c.loop-value.invariant.some, c.loop-value.invariant.fits)

pub Document::levels-returns : goal.Document::levels-returns
Document::levels-returns t c =
    let deepest = rw (drop_all c.loop-field.field-index c.deref-field-items.result.now c.loop-field-test.false) at c.loop-field.invariant.deepest in
    omega (arith, deepest, c.loop-field.invariant.some, c.loop-field.invariant.fits)
