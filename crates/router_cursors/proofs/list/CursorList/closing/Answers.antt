use Rattle.std.proofs.Common.{pos, arith, rules}
use Rattle.std.proofs.lemmas.Int.{to_z-of_z}
use Rattle.std.proofs.lemmas.List.{drop_all}
use Rattle.router_cursors.proofs.Closed.{all_closed, cut_so_far}
use Rattle.router_cursors.proofs.list.CursorList.closing.Goals as goal

pub loop-number-preserved : goal.loop-number-preserved
loop-number-preserved c = record {
  closed = c.in_ok-sort_out.ensures.closed;
  kills = λ router life count. c.in_ok-sort_out.ensures.goes_on router life count _ _
      (cut_so_far _ _ _ c.args.numbers.now c.loop-number.number-index _ (pos 0) _ _ c.loop-number-test.true (search (rules, to_z-of_z)) (c.loop-number.invariant.kills router life count));
}

pub returns : goal.returns
returns c = λ router life count.
    all_closed _ _ _ _ _ _ _ (drop_all c.loop-number.number-index c.args.numbers.now (omega (arith, c.loop-number-test.false))) (c.loop-number.invariant.kills router life count)
