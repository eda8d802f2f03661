use Rattle.std.proofs.Common.{◌∙◌}
use Rattle.bson_values.specs.View.{datum_of}
use Rattle.match_expr.specs.Looks.{is_ordered}
use Rattle.match_expr.proofs.Candidates.{at_path}
use Rattle.match_expr.proofs.tests.compares.Goals as goal

pub returns-in-At : goal.returns-in-At
returns-in-At c =
    rw c.in-At.is
    (c.any_at.ensures ∙ at_path (is_ordered c.args.comparison (datum_of c.args.operand.now)) c.in-At.path.now c.in-At.document.now)
