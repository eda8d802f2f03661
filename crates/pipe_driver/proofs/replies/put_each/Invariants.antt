use Rattle.std.proofs.Common.{◌≡◌, drop}
use Rattle.pipe_driver.proofs.Puts.{PutsRest}
use Rattle.pipe_driver.proofs.replies.put_each.Given as goal

-- what is left to put, put after what was put, is all
abbrev pub invariant-replies : goal.invariant-replies
invariant-replies g l = record {
  puts : PutsRest g.K.Sink.tells (g.K.Sink.held l.fn.out) (g.K.Sink.held l.out) l.replies (drop l.reply-index l.replies);
  calm : g.K.Sink.fault_count l.out ≡ g.K.Sink.fault_count l.fn.out;
  noted : g.K.Sink.noted l.out ≡ g.K.Sink.noted l.fn.out;
}
