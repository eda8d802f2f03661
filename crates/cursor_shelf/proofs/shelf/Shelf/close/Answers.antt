use mir.Syntax.{w64}
use Rattle.std.proofs.Common.{◌≡◌, ℤ, None, subst}
use Rattle.std.specs.BTreeMap.{get_by}
use Rattle.std.specs.Ordering.{int_cmp}
use Rattle.std.proofs.lemmas.Int.{to_z-of_z}
use Rattle.cursor_shelf.specs.Shelves.{cursor_in}
use Rattle.cursor_shelf.proofs.Shelved.{apart_from}
use Rattle.cursor_shelf.proofs.shelf.Shelf.close.Goals as goal

pub returns-clause-closed : goal.returns-clause-closed
unfolding cursor_in
returns-clause-closed c =
    subst (λ (i : ℤ). get_by (int_cmp i) c.remove.new.self ≡ None) (to_z-of_z w64 c.args.id c.ranges.id) c.remove.ensures.updates.1

pub returns-clause-others : goal.returns-clause-others
unfolding cursor_in
returns-clause-others c = λ i other.
    c.remove.ensures.updates.2 i (apart_from _ i c.args.id (to_z-of_z w64 c.args.id c.ranges.id) other)
