use Rattle.std.proofs.Common.{rules}
use Rattle.command_fields.proofs.checks.boolean_or.Goals as goal

pub returns-in-Bool : goal.returns-in-Bool
returns-in-Bool c = search rules
