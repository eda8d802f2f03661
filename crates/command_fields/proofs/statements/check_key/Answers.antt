use Rattle.std.proofs.Common.{rules}
use Rattle.command_fields.proofs.statements.check_key.Goals as goal

pub returns-in-None : goal.returns-in-None
returns-in-None c = search rules
