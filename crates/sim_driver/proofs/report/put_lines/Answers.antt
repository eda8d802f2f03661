use Rattle.std.proofs.Common.{arith}
use Rattle.sim_driver.proofs.Reports.{lines_end, lines_more}
use Rattle.sim_driver.proofs.report.put_lines.Goals as goal

pub replies-preserved : goal.replies-preserved
replies-preserved c =
    lines_more c.args.numbers.now c.args.replies.now c.replies.reply-index c.reply-item.result _ c.replies.text.items _ c.replies-test.true c.reply-item.is
    c.replies.invariant c.in-Ok.ensures

pub returns : goal.returns
returns c = lines_end c.args.numbers.now c.args.replies.now c.replies.reply-index _ c.replies.text.items
    (omega (arith, c.replies-test.false)) c.replies.invariant
