use Rattle.std.proofs.Common.{rules}
use Rattle.outside.proofs.standard.StdSourceSource.take.Goals as goal

pub returns-in-Ok-clause-read : goal.returns-in-Ok-clause-read
returns-in-Ok-clause-read g c = search rules

pub returns-in-Err-clause-unread : goal.returns-in-Err-clause-unread
returns-in-Err-clause-unread g c = search rules
