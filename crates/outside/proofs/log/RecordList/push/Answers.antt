use Rattle.std.proofs.Common.{rules}
use Rattle.outside.proofs.log.RecordList.push.Goals as goal

pub returns-clause-ok : goal.returns-clause-ok
returns-clause-ok c = search rules
