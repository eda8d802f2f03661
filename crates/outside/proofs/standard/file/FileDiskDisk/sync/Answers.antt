use Rattle.std.proofs.Common.{rules}
use Rattle.outside.proofs.standard.file.FileDiskDisk.sync.Goals as goal

pub returns-clause-place : goal.returns-clause-place
returns-clause-place g c = search rules
