use Rattle.std.proofs.Common.{◌∙◌, ◌++◌, ap, refl, sym, append-nil, arith, length}
use Rattle.node_cell.specs.Board.{notes_at, pairs_of}
use Rattle.node_cell.proofs.Boards.{noted_next, take_whole}
use Rattle.node_cell.proofs.board.note_all.Goals as goal

pub disks-init : goal.disks-init
disks-init g c = record { noted = λ tells. sym (append-nil _); held = refl; left = refl; within = omega arith }

pub disks-preserved : goal.disks-preserved
disks-preserved g c = record {
  noted = λ tells.
      noted_next (length (g.S.Sink.held c.args.link.now)) c.args.seen.now.items c.disks.at c.index.result.now _ _ _ _
      (omega (arith, c.disks-test.true, c.len.ensures, c.args.seen.now.ok.0)) c.index.ensures (c.disks.invariant.noted tells) (c.note.ensures.noted tells)
      (rw c.disks.invariant.held refl);
  held = c.note.ensures.held ∙ c.disks.invariant.held;
  left = c.note.ensures.left ∙ c.disks.invariant.left;
  within = omega (arith, c.disks-test.true, c.len.ensures);
}

pub returns-clause-noted : goal.returns-clause-noted
returns-clause-noted g c = λ tells.
    c.disks.invariant.noted tells
    ∙ ap (λ l. g.S.Sink.noted c.args.link.now ++ notes_at (length (g.S.Sink.held c.args.link.now)) (pairs_of l))
    (take_whole c.args.seen.now.items c.disks.at (omega (arith, c.disks-test.false, c.len.ensures, c.args.seen.now.ok.0)))
