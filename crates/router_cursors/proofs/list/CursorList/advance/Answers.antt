use mir.Syntax.{w64}
use Rattle.std.proofs.Common.{◌≡◌, sym, subst, ◌∙◌, ℤ, map, rules, ap, drop}
use Rattle.std.specs.Prelude.{Option, Some, None}
use Rattle.std.proofs.lemmas.Int.{to_z-of_z}
use Rattle.cursor_shelf.specs.Cursors.{OpenCursor, left_with}
use Rattle.cursor_shelf.specs.Shelves.{cursor_in}
use Rattle.router_cursors.specs.Marks.{left_in}
use Rattle.router_cursors.proofs.Looks.{advanced_is, changed, kept_advanced, left_then}
use Rattle.router_cursors.proofs.list.CursorList.advance.Goals as goal

pub invariant_of-self : goal.invariant_of-self
invariant_of-self c =
    let e = to_z-of_z w64 c.args.number c.ranges.number in
    let n = c.args.self.now in record {
      few = n.few;
      within = n.within;
      rising = n.rising;
      kept = kept_advanced (λ i. cursor_in n.shelf i) (λ i. cursor_in c.advance.new.self i) n.gave n.opened.items n.kept c.args.number c.args.count
          (subst (λ (i : ℤ). (d : OpenCursor) → cursor_in n.shelf i ≡ Some d → cursor_in c.advance.new.self i ≡ left_with d (drop c.args.count d.remaining)) e c.advance.ensures.rest)
          (subst (λ (i : ℤ). cursor_in n.shelf i ≡ None → cursor_in c.advance.new.self i ≡ None) e c.advance.ensures.none)
          (subst (λ (j : ℤ). (i : ℤ) → (i ≡ j → ⊥) → cursor_in c.advance.new.self i ≡ cursor_in n.shelf i) e c.advance.ensures.others);
    }

pub returns-clause-cursors : goal.returns-clause-cursors
returns-clause-cursors c = λ router life request.
    let e = to_z-of_z w64 c.args.number c.ranges.number in
    let n = c.args.self.now in
    changed router life request (λ i. cursor_in n.shelf i) (λ i. cursor_in c.advance.new.self i) c.args.number
    (subst (λ (j : ℤ). (i : ℤ) → (i ≡ j → ⊥) → cursor_in c.advance.new.self i ≡ cursor_in n.shelf i) e c.advance.ensures.others)
    (drop c.args.count (left_in (cursor_in n.shelf c.args.number))) 0 n.gave n.opened.items n.rising
    (left_then (cursor_in n.shelf c.args.number) (cursor_in c.advance.new.self c.args.number) c.args.count
    (subst (λ (i : ℤ). (d : OpenCursor) → cursor_in n.shelf i ≡ Some d → cursor_in c.advance.new.self i ≡ left_with d (drop c.args.count d.remaining)) e c.advance.ensures.rest)
    (subst (λ (i : ℤ). cursor_in n.shelf i ≡ None → cursor_in c.advance.new.self i ≡ None) e c.advance.ensures.none))
    ∙ sym (advanced_is router life request (λ i. cursor_in n.shelf i) c.args.number c.args.count n.opened.items)
