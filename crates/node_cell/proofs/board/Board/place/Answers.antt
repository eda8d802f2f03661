use Rattle.std.proofs.Common.{rules, ◌∙◌, sym, ap, arith}
use Rattle.std.specs.List.{slice_set}
use Rattle.node_cell.specs.Board.{pairs_of}
use Rattle.node_cell.specs.Courses.{node_facts}
use Rattle.node_cell.specs.Views.{given_by}
use Rattle.node_cell.proofs.Standing.{board_back, board_joined, may_joined, taken_so}
use Rattle.node_cell.proofs.Steps.{may_take}
use Rattle.node_cell.proofs.board.Board.place.Goals as goal

pub fetch_add-number-requires : goal.fetch_add-number-requires
fetch_add-number-requires g c = (
  c.join.ensures.0 ∙ sym c.args.book.now.named,
  omega (arith, c.args.book.now.one_word),
  may_take (node_facts g.N.Node.state g.N.Node.steps (λ m. g.N.Mail.Mail.letter m) g.N.Node.meaning g.L.Log.facts)
      c.args.book.now.table.shared.key.routers c.args.book.now.table.shared.key.seats.value.items _ _ _ _
      (given_by g.L.Log.facts c.args.at c.args.parts.now c.args.seat.now) _ _ (pairs_of c.self.inside.seen.items) c.requires.said (search rules)
      (board_joined c.args.pass.now.me c.self.inside.pass.me c.board-board.result.me c.join.new.pass.me (pairs_of c.self.inside.seen.items)
      c.self.invariant.1 c.board-board.ensures.board.1 c.join.ensures.1 c.requires.free)
      (may_joined c.args.pass.now.me c.self.inside.pass.me c.board-board.result.me c.join.new.pass.me (pairs_of c.self.inside.seen.items)
      c.self.invariant.1 c.board-board.ensures.board.1 c.join.ensures.1
      (node_facts g.N.Node.state g.N.Node.steps (λ m. g.N.Mail.Mail.letter m) g.N.Node.meaning g.L.Log.facts)
      c.args.book.now.table.shared.key.routers g.K.Numbering.routers (given_by g.L.Log.facts c.args.at c.args.parts.now c.args.seat.now)
      (c.args.book.now.routers_are ∙ c.args.book.now.routers_named) c.requires.may),
)

pub invariant_of-self : goal.invariant_of-self
invariant_of-self g c = (
  c.join-2.ensures.0,
  board_back c.args.pass.now.me c.self.inside.pass.me c.board-board.result.me c.join.new.pass.me (pairs_of c.self.inside.seen.items)
      c.self.invariant.1 c.board-board.ensures.board.1 c.join.ensures.1 c.board-board.new.pass.me c.fetch_add-number.new.seat.me c.board-board-2.result.me
      c.join-2.new.pass.me (given_by g.L.Log.facts c.args.at c.args.parts.now c.args.seat.now) c.fetch_add-number.result
      (pairs_of c.see_anew.new.seen.items) c.requires.free c.board-board.ensures.pass.1
      (taken_so g.W.Said.step (given_by g.L.Log.facts c.args.at c.args.parts.now c.args.seat.now) _ c.join.new.pass.me c.fetch_add-number.result
      c.fetch_add-number.new.seat.me c.requires.said c.fetch_add-number.ensures.2) c.board-board-2.ensures.board.1 c.join-2.ensures.1
      (c.see_anew.ensures ∙ ap (λ d. slice_set (pairs_of c.self.inside.seen.items) c.args.at (d.place, d.moment)) c.requires.disk),
)
