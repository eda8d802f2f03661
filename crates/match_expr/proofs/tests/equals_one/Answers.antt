use Rattle.match_expr.specs.Looks.{found_of}
use Rattle.match_expr.proofs.Searches.{equals_listed, first_true, second_alone}
use Rattle.match_expr.proofs.tests.equals_one.Goals as goal

pub returns-then-any_listed : goal.returns-then-any_listed
returns-then-any_listed c =
    first_true _ _ _ _ c.if-any_listed.true c.any_listed.ensures (equals_listed c.args.operands.now (found_of c.args.place.now))

pub returns-else-any_listed : goal.returns-else-any_listed
returns-else-any_listed c =
    second_alone _ _ _ _ _ c.if-any_listed.false c.any_listed.ensures c.null_listed_in_gap.ensures
    (equals_listed c.args.operands.now (found_of c.args.place.now))
