use mir.Syntax.{w64}
use Rattle.std.proofs.Common.{◌≡◌, sym, subst, ◌∙◌, ℤ, [], ap}
use Rattle.std.specs.Prelude.{Option, None}
use Rattle.std.proofs.lemmas.Int.{to_z-of_z}
use Rattle.cursor_shelf.specs.Cursors.{OpenCursor}
use Rattle.cursor_shelf.specs.Shelves.{cursor_in}
use Rattle.router_cursors.specs.Marks.{left_in}
use Rattle.router_cursors.proofs.Looks.{changed, kept_closed}
use Rattle.router_cursors.proofs.list.CursorList.close_one.Goals as goal

pub invariant_of-self : goal.invariant_of-self
invariant_of-self c =
    let e = to_z-of_z w64 c.args.number c.ranges.number in
    let n = c.args.self.now in record {
      few = n.few;
      within = n.within;
      rising = n.rising;
      kept = kept_closed (λ i. cursor_in n.shelf i) (λ i. cursor_in c.close.new.self i) n.gave n.opened.items n.kept c.args.number
          (subst (λ (i : ℤ). cursor_in c.close.new.self i ≡ None) e c.close.ensures.closed)
          (subst (λ (j : ℤ). (i : ℤ) → (i ≡ j → ⊥) → cursor_in c.close.new.self i ≡ cursor_in n.shelf i) e c.close.ensures.others);
    }

pub returns-clause-cursors : goal.returns-clause-cursors
returns-clause-cursors c = λ router life count.
    let e = to_z-of_z w64 c.args.number c.ranges.number in
    let n = c.args.self.now in
    changed router life count (λ i. cursor_in n.shelf i) (λ i. cursor_in c.close.new.self i) c.args.number
    (subst (λ (j : ℤ). (i : ℤ) → (i ≡ j → ⊥) → cursor_in c.close.new.self i ≡ cursor_in n.shelf i) e c.close.ensures.others)
    [] 0 n.gave n.opened.items n.rising
    (ap (λ (o : Option OpenCursor). left_in o) (subst (λ (i : ℤ). cursor_in c.close.new.self i ≡ None) e c.close.ensures.closed))
