use Rattle.std.proofs.Common.{rules}
use Rattle.command_fields.proofs.namespaces.check_database.Goals as goal

pub returns-in-Query : goal.returns-in-Query
returns-in-Query c = search rules
