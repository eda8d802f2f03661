use Rattle.std.proofs.Common.{rules}
use Rattle.router_cursors.proofs.number.number_behind.Goals as goal

pub returns-then-gave-blocks-clause-number : goal.returns-then-gave-blocks-clause-number
returns-then-gave-blocks-clause-number c = search rules

pub returns-then-gave-blocks-clause-behind : goal.returns-then-gave-blocks-clause-behind
returns-then-gave-blocks-clause-behind c = search rules
