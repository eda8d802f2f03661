use Rattle.node_cell.proofs.Boards.{pairs_set}
use Rattle.node_cell.proofs.board.see_anew.Goals as goal

pub returns-then-place-len : goal.returns-then-place-len
returns-then-place-len g c = pairs_set c.args.seen.now.items c.args.at c.args.disk
