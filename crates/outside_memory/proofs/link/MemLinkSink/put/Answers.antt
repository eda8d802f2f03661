use Rattle.std.proofs.Common.{rules}
use Rattle.outside_memory.proofs.link.MemLinkSink.put.Goals as goal

pub returns-clause-nothing : goal.returns-clause-nothing
returns-clause-nothing c = search rules

pub returns-clause-cause : goal.returns-clause-cause
returns-clause-cause c = search rules

pub returns-clause-only : goal.returns-clause-only
returns-clause-only c = search rules

pub returns-clause-fault : goal.returns-clause-fault
returns-clause-fault c = search rules

pub returns-clause-source : goal.returns-clause-source
returns-clause-source c = search rules
