use Rattle.std.proofs.Common.{rules}
use Rattle.router_cursors.proofs.list.CursorList.is_given.Goals as goal

pub returns : goal.returns
returns c = search rules
