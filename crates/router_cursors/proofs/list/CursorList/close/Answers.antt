use Rattle.std.proofs.Common.{◌∙◌, pos, rules}
use Rattle.std.proofs.lemmas.Int.{to_z-of_z}
use Rattle.router_cursors.proofs.Closed.{close_next}
use Rattle.router_cursors.proofs.list.CursorList.close.Goals as goal

pub loop-number-preserved : goal.loop-number-preserved
loop-number-preserved c = record {
  blocks = c.close_one.ensures.blocks ∙ c.loop-number.invariant.blocks;
  gave = c.close_one.ensures.gave ∙ c.loop-number.invariant.gave;
  cursors = λ router life count.
      close_next (record { router = router; life = life; count = count }) c.args.numbers.now c.loop-number.number-index _ (pos 0) _ _ _ c.loop-number-test.true (search (rules, to_z-of_z)) (c.close_one.ensures.cursors router life count)
      (c.loop-number.invariant.cursors router life count);
}
