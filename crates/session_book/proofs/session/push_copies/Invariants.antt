-- What was copied, and what is left.
use Rattle.std.proofs.Common.{◌≡◌, ◌++◌, drop}
use Rattle.session_book.proofs.session.push_copies.Given as goal

abbrev pub invariant-loop-statement : goal.invariant-loop-statement
invariant-loop-statement l = l.copies.items ++ drop l.statement-index l.statements ≡ l.fn.copies.items ++ l.statements
