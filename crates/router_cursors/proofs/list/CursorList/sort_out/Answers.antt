use mir.Syntax.{w64}
use Rattle.std.proofs.Common.{◌≡◌, sym, subst, ◌∙◌, ℤ, List, [], ◌∷◌, ◌++◌, rules}
use Rattle.std.proofs.lemmas.Int.{to_z-of_z}
use Rattle.cursor_shelf.specs.Shelves.{cursor_in}
use Rattle.router_cursors.specs.Closing.{CloseSoFar}
use Rattle.router_cursors.specs.CursorLists.{cursors_of}
use Rattle.router_cursors.proofs.Closed.{new_is, one_killed, one_missing}
use Rattle.router_cursors.proofs.list.CursorList.sort_out.Goals as goal

pub returns-in_ok-push-clause-goes_on : goal.returns-in_ok-push-clause-goes_on
returns-in_ok-push-clause-goes_on c = λ router life count numbers all so_far.
    let n = c.args.self.now in
    let e = to_z-of_z w64 c.args.number c.ranges.number in
    let old = c.args.closing.now in
    let grown : c.push.new.self.items ≡ old.killed.items ++ c.args.number ∷ [] = search (rules, to_z-of_z) in
    subst (λ (l : List ℤ). CloseSoFar (record { router = router; life = life; count = count }) c.args.namespace.now (cursors_of router life n) numbers all l old.missing.items) (sym grown)
    (one_killed (record { router = router; life = life; count = count }) c.args.namespace.now (cursors_of router life n) c.args.number numbers all old.killed.items old.missing.items so_far
    (new_is router life count (λ i. cursor_in n.shelf i) n.gave n.opened.items c.args.closed.now old.killed.items _ c.args.number c.args.namespace.now _ n.rising n.kept c.requires e
    (c.in_ok-is_new.ensures.is router life count) ∙ c.if-branch.true))

pub returns-in_ok-push-2-clause-goes_on : goal.returns-in_ok-push-2-clause-goes_on
returns-in_ok-push-2-clause-goes_on c = λ router life count numbers all so_far.
    let n = c.args.self.now in
    let e = to_z-of_z w64 c.args.number c.ranges.number in
    let old = c.args.closing.now in
    let grown : c.push-else-branch.new.self.items ≡ old.missing.items ++ c.args.number ∷ [] = search (rules, to_z-of_z) in
    subst (λ (l : List ℤ). CloseSoFar (record { router = router; life = life; count = count }) c.args.namespace.now (cursors_of router life n) numbers all old.killed.items l) (sym grown)
    (one_missing (record { router = router; life = life; count = count }) c.args.namespace.now (cursors_of router life n) c.args.number numbers all old.killed.items old.missing.items so_far
    (new_is router life count (λ i. cursor_in n.shelf i) n.gave n.opened.items c.args.closed.now old.killed.items _ c.args.number c.args.namespace.now _ n.rising n.kept c.requires e
    (c.in_ok-is_new.ensures.is router life count) ∙ c.if-branch.false))
