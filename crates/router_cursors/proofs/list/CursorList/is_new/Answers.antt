use mir.Syntax.{w64}
use Rattle.std.proofs.Common.{◌≡◌, sym, subst, ◌∙◌, ℤ, ap, Bool, false, ◌&&◌, not}
use Rattle.std.specs.Prelude.{is_some}
use Rattle.std.specs.BTreeSet.{contains}
use Rattle.std.specs.Ordering.{int_cmp}
use Rattle.std.proofs.lemmas.Int.{to_z-of_z}
use Rattle.reply_model.specs.Cursors.{open_cursor}
use Rattle.router_cursors.specs.CursorLists.{cursors_of}
use Rattle.router_cursors.proofs.list.CursorList.is_new.Goals as goal

pub returns-else-has-clause-is : goal.returns-else-has-clause-is
returns-else-has-clause-is c = λ router life count.
    let e = to_z-of_z w64 c.args.number c.ranges.number in
    ap (λ (b : Bool). b && not (contains int_cmp c.args.closed.now c.args.number))
    (sym c.if-has.false
    ∙ subst (λ (i : ℤ). c.has.result ≡ is_some (open_cursor (record { router = router; life = life; count = count }) i c.args.namespace.now (cursors_of router life c.args.self.now))) e
    (c.has.ensures router life count))
