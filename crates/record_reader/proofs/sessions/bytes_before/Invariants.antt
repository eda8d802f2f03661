use Rattle.std.proofs.Common.{◌≡◌, drop}
use Rattle.history_model.specs.Sessions.{bytes_before}
use Rattle.record_reader.proofs.sessions.bytes_before.Given as goal

abbrev pub invariant-loop-i : goal.invariant-loop-i
invariant-loop-i l = bytes_before (drop l.i l.bytes) (drop l.i l.others) ≡ bytes_before l.bytes l.others
