use Rattle.std.proofs.Common.{sym}
use Rattle.node_cell.specs.Board.{pairs_of}
use Rattle.node_cell.proofs.Shown.{part_shown, safe_shown, shown_out}
use Rattle.node_cell.proofs.board.Board.show.Goals as goal

pub returns-clause-kept : goal.returns-clause-kept
returns-clause-kept g c =
    part_shown c.args.note.now (pairs_of c.self.inside.seen.items) c.join-3.new.pass.me.0
    (shown_out c.args.note.now c.note.inside.pass.me c.note-told.new.pass.me c.note-told.result.me c.self.inside.pass.me c.board-board.result.me
    c.join.new.pass.me c.shown-seen.result.me c.join-3.new.pass.me (pairs_of c.self.inside.seen.items) (sym c.note.view_is) c.note-told.ensures.pass.1
    c.note-told.ensures.note.1 c.self.invariant.1 c.board-board.ensures.board.1 c.join.ensures.1 c.shown-seen.ensures.note.1 c.join-3.ensures.1)

pub returns-clause-shown : goal.returns-clause-shown
returns-clause-shown g c = (
  pairs_of c.self.inside.seen.items,
  safe_shown c.args.note.now (pairs_of c.self.inside.seen.items) c.join-3.new.pass.me.0
      (shown_out c.args.note.now c.note.inside.pass.me c.note-told.new.pass.me c.note-told.result.me c.self.inside.pass.me c.board-board.result.me
      c.join.new.pass.me c.shown-seen.result.me c.join-3.new.pass.me (pairs_of c.self.inside.seen.items) (sym c.note.view_is) c.note-told.ensures.pass.1
      c.note-told.ensures.note.1 c.self.invariant.1 c.board-board.ensures.board.1 c.join.ensures.1 c.shown-seen.ensures.note.1 c.join-3.ensures.1),
  c.note_all.ensures.noted,
)
