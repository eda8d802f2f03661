use Rattle.std.proofs.Common.{rules}
use Rattle.command_fields.proofs.rules.check_field.Goals as goal

pub returns-else-is_given : goal.returns-else-is_given
returns-else-is_given g c = search rules
