use Rattle.std.proofs.Common.{rules}
use Rattle.outside_memory.proofs.acceptor.MemAcceptorAcceptor.next.Goals as goal

pub returns-in-Some-clause-took : goal.returns-in-Some-clause-took
returns-in-Some-clause-took c = search rules
