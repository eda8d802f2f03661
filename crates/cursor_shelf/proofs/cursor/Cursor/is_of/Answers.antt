use Rattle.std.proofs.Common.{rules}
use Rattle.cursor_shelf.proofs.cursor.Cursor.is_of.Goals as goal

pub returns : goal.returns
returns c = search rules
