use Rattle.std.proofs.Common.{rules}
use Rattle.outside_memory.proofs.sink.MemSinkSink.put.Goals as goal

pub returns-clause-count : goal.returns-clause-count
returns-clause-count c = search rules
