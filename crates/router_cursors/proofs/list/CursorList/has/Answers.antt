use mir.Syntax.{w64}
use Rattle.std.proofs.Common.{◌≡◌, sym, subst, ◌∙◌, ℤ, ap, Bool, true, false, ◌&&◌}
use Rattle.std.specs.Prelude.{is_some, pos, int_le}
use Rattle.std.proofs.lemmas.Int.{to_z-of_z}
use Rattle.cursor_shelf.specs.Cursors.{under}
use Rattle.cursor_shelf.specs.Shelves.{cursor_in, cursor_under}
use Rattle.router_cursors.proofs.Looks.{has_is}
use Rattle.router_cursors.proofs.list.CursorList.has.Goals as goal

pub returns-then-is_given : goal.returns-then-is_given
returns-then-is_given c = λ router life count.
    let e = to_z-of_z w64 c.args.number c.ranges.number in
    let n = c.args.self.now in
    let given : int_le c.args.number (pos n.gave) ≡ true =
    subst (λ (i : ℤ). int_le i (pos n.gave) ≡ true) e (sym c.is_given.ensures ∙ c.if-is_given.true) in
    subst (λ (i : ℤ). c.has.result ≡ is_some (cursor_under n.shelf i c.args.namespace.now)) e c.has.ensures
    ∙ sym (has_is router life count (λ i. cursor_in n.shelf i) c.args.number c.args.namespace.now n.gave n.opened.items n.rising n.kept
    ∙ ap (λ (b : Bool). b && is_some (under c.args.namespace.now (cursor_in n.shelf c.args.number))) given)

pub returns-else-is_given : goal.returns-else-is_given
returns-else-is_given c = λ router life count.
    let e = to_z-of_z w64 c.args.number c.ranges.number in
    let n = c.args.self.now in
    let behind : int_le c.args.number (pos n.gave) ≡ false =
    subst (λ (i : ℤ). int_le i (pos n.gave) ≡ false) e (sym c.is_given.ensures ∙ c.if-is_given.false) in
    c.if-is_given.false
    ∙ sym (has_is router life count (λ i. cursor_in n.shelf i) c.args.number c.args.namespace.now n.gave n.opened.items n.rising n.kept
    ∙ ap (λ (b : Bool). b && is_some (under c.args.namespace.now (cursor_in n.shelf c.args.number))) behind)
