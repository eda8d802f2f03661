use mir.Syntax.{w64}
use Rattle.std.proofs.Common.{◌≡◌, sym, subst, ◌∙◌, ℤ, true, false}
use Rattle.std.specs.Prelude.{pos, int_le}
use Rattle.std.proofs.lemmas.Int.{to_z-of_z}
use Rattle.cursor_shelf.specs.Shelves.{cursor_in}
use Rattle.router_cursors.proofs.Looks.{open_not_given}
use Rattle.router_cursors.proofs.Batches.{shows_next, none_next}
use Rattle.router_cursors.proofs.list.CursorList.next_batch.Goals as goal

pub returns-then-not-is_given-clause-none : goal.returns-then-not-is_given-clause-none
returns-then-not-is_given-clause-none c = λ router life count is.
    let e = to_z-of_z w64 c.args.number c.ranges.number in
    let n = c.args.self.now in
    open_not_given router life count (λ i. cursor_in n.shelf i) c.args.number c.args.namespace.now n.gave n.opened.items n.rising
    (subst (λ (i : ℤ). int_le i (pos n.gave) ≡ false) e (sym c.is_given.ensures ∙ c.if-not-is_given.true))

pub returns-clause-shows : goal.returns-clause-shows
returns-clause-shows c = λ router life count.
    let e = to_z-of_z w64 c.args.number c.ranges.number in
    let n = c.args.self.now in
    shows_next router life count n.shelf n.gave n.opened.items n.rising n.kept c.args.number c.args.namespace.now _ e c.args.size c.next.result
    (subst (λ (i : ℤ). int_le i (pos n.gave) ≡ true) e (sym c.is_given.ensures ∙ c.if-not-is_given.false))
    c.next.ensures.documents c.next.ensures.time c.next.ensures.last c.next.ensures.found

pub returns-clause-none : goal.returns-clause-none
returns-clause-none c = λ router life count.
    let e = to_z-of_z w64 c.args.number c.ranges.number in
    let n = c.args.self.now in
    none_next router life count n.shelf n.gave n.opened.items n.rising n.kept c.args.number c.args.namespace.now _ e c.next.result c.next.ensures.not_found
