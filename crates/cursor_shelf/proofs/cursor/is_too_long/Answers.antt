use Rattle.std.proofs.Common.{rules}
use Rattle.cursor_shelf.proofs.cursor.is_too_long.Goals as goal

pub returns-then-before-gt0 : goal.returns-then-before-gt0
returns-then-before-gt0 c = search rules
