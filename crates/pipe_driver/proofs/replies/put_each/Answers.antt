use Rattle.std.proofs.Common.{◌∙◌, arith}
use Rattle.pipe_driver.proofs.Puts.{none_left, reply_put, reply_short}
use Rattle.pipe_driver.proofs.replies.put_each.Goals as goal

pub returns-in-Err-clause-prefix : goal.returns-in-Err-clause-prefix
returns-in-Err-clause-prefix g c =
    reply_short g.K.Sink.tells _ _ _ _ c.args.replies.now c.replies.reply-index c.reply-item.result c.replies-test.true c.reply-item.is c.as_slice.ensures
    c.replies.invariant.puts c.in-Err.ensures.prefix

pub replies-preserved : goal.replies-preserved
replies-preserved g c = record {
  puts = reply_put g.K.Sink.tells _ _ _ _ c.args.replies.now c.replies.reply-index c.reply-item.result c.replies-test.true c.reply-item.is c.as_slice.ensures
      c.replies.invariant.puts c.in-Ok.ensures.put;
  calm = c.in-Ok.ensures.calm ∙ c.replies.invariant.calm;
  noted = c.put_all.ensures.noted ∙ c.replies.invariant.noted;
}

pub returns-clause-put : goal.returns-clause-put
returns-clause-put g c =
    none_left g.K.Sink.tells _ _ c.args.replies.now c.replies.reply-index (omega (arith, c.replies-test.false)) c.replies.invariant.puts
