use Rattle.std.proofs.Common.{◌≡◌, ◌-◌, ◌≤◌, length, take}
use Rattle.outside.specs.Streams.{Put}
use Rattle.pipe_driver.proofs.streams.put_all.Given as goal

abbrev pub decreases-loop-at : goal.decreases-loop-at
decreases-loop-at g l = length l.piece - l.at

-- what comes before the place was put
abbrev pub invariant-loop-at : goal.invariant-loop-at
invariant-loop-at g l = record {
  within : l.at ≤ length l.piece;
  put : Put g.K.Sink.tells (g.K.Sink.held l.fn.out) (take l.at l.piece) (g.K.Sink.held l.out);
  calm : g.K.Sink.fault_count l.out ≡ g.K.Sink.fault_count l.fn.out;
  noted : g.K.Sink.noted l.out ≡ g.K.Sink.noted l.fn.out;
  aside : g.K.Sink.beside l.out ≡ g.K.Sink.beside l.fn.out;
}
