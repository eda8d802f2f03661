use mir.Syntax.{w64}
use mir.Val.{SFits, to_z, of_z}
use Rattle.std.proofs.Common.{◌≡◌, sym, subst, ◌∙◌, ℤ, ◌<◌, arith, rules}
use Rattle.std.specs.Prelude.{pos}
use Rattle.std.proofs.lemmas.Int.{to_z-of_z}
use Rattle.cursor_shelf.specs.Shelves.{cursor_in}
use Rattle.router_cursors.proofs.Looks.{kept_put, none_changed}
use Rattle.router_cursors.proofs.Opened.{above_all}
use Rattle.router_cursors.proofs.list.CursorList.make_room.Goals as goal

pub invariant_of-self : goal.invariant_of-self
invariant_of-self c =
    let n = c.args.self.now in
    let number = c.in-Some.next.number in
    let fits : SFits w64 c.as_signed.result = search rules in
    let k : to_z w64 (of_z w64 c.as_signed.result) ≡ pos number = to_z-of_z w64 c.as_signed.result fits ∙ c.as_signed.ensures in
    let above : n.gave < number = omega (arith, c.in-Some.ensures.behind) in record {
      few = n.few;
      within = n.within;
      rising = n.rising;
      kept = kept_put (λ i. cursor_in n.shelf i) (λ i. cursor_in c.put.new.self i) n.gave n.opened.items n.kept number above
          (subst (λ (j : ℤ). (i : ℤ) → (i ≡ j → ⊥) → cursor_in c.put.new.self i ≡ cursor_in n.shelf i) k c.put.ensures.others);
    }

pub returns-clause-cursors : goal.returns-clause-cursors
returns-clause-cursors c = λ router life.
    let n = c.args.self.now in
    let number = c.in-Some.next.number in
    let fits : SFits w64 c.as_signed.result = search rules in
    let k : to_z w64 (of_z w64 c.as_signed.result) ≡ pos number = to_z-of_z w64 c.as_signed.result fits ∙ c.as_signed.ensures in
    none_changed router life 0 (λ i. cursor_in n.shelf i) (λ i. cursor_in c.put.new.self i) (pos number)
    (subst (λ (j : ℤ). (i : ℤ) → (i ≡ j → ⊥) → cursor_in c.put.new.self i ≡ cursor_in n.shelf i) k c.put.ensures.others)
    n.opened.items (above_all 0 n.gave number n.opened.items n.rising (omega (arith, c.in-Some.ensures.behind)))
