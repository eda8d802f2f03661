use Rattle.std.proofs.Common.{rules}
use Rattle.session_book.proofs.session.Kept.look.Goals as goal

-- src/session.rt:84:13
pub returns-then-is_some : goal.returns-then-is_some
returns-then-is_some c = search rules
