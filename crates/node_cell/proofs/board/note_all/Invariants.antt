use Rattle.std.proofs.Common.{◌≡◌, ◌≤◌, ◌-◌, ◌++◌, IsTrue, length, take}
use Rattle.std.specs.Prelude.{vec_len}
use Rattle.node_cell.specs.Board.{notes_at, pairs_of}
use Rattle.node_cell.proofs.board.note_all.Given as goal

-- the first disks were noted
abbrev pub invariant-disks : goal.invariant-disks
invariant-disks g l = record {
  noted : IsTrue g.S.Sink.tells → g.S.Sink.noted l.link ≡ g.S.Sink.noted l.fn.link
      ++ notes_at (length (g.S.Sink.held l.fn.link)) (pairs_of (take l.at l.fn.seen.items));
  held : g.S.Sink.held l.link ≡ g.S.Sink.held l.fn.link;
  left : g.S.Source.left l.link ≡ g.S.Source.left l.fn.link;
  within : l.at ≤ vec_len l.fn.seen;
}

abbrev pub decreases-disks : goal.decreases-disks
decreases-disks g l = vec_len l.fn.seen - l.at
