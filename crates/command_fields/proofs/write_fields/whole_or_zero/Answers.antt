use Rattle.std.proofs.Common.{rules}
use Rattle.command_fields.proofs.write_fields.whole_or_zero.Goals as goal

pub returns-in-Some : goal.returns-in-Some
returns-in-Some c = search rules
