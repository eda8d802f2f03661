use Rattle.std.proofs.Common.{rules}
use Rattle.match_expr.proofs.tests.is_ordered.Goals as goal

pub returns-then-class : goal.returns-then-class
returns-then-class c = search rules
