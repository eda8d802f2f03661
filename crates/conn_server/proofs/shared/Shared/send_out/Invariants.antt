use Rattle.std.proofs.Common.{◌≡◌}
use Rattle.conn_server.proofs.shared.Shared.send_out.Given as goal

abbrev pub invariant-letters : goal.invariant-letters
invariant-letters g l = l.stepped.taken ≡ l.fn.stepped.taken

abbrev pub invariant-replies : goal.invariant-replies
invariant-replies g l = l.stepped.taken ≡ l.fn.stepped.taken
