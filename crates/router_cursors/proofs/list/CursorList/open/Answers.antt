use mir.Syntax.{w64}
use mir.Val.{SFits, to_z, of_z}
use Rattle.std.proofs.Common.{◌≡◌, refl, ap, sym, subst, ◌∙◌, ℕ, ℤ, List, [], ◌∷◌, ◌++◌, map, true, ◌+◌, ◌<◌, arith, rules}
use Rattle.std.specs.Prelude.{Some, pos}
use Rattle.std.specs.Arc.{arc_value}
use Rattle.std.proofs.lemmas.Int.{to_z-of_z}
use Rattle.cursor_shelf.specs.Cursors.{OpenCursor}
use Rattle.cursor_shelf.specs.Shelves.{cursor_in}
use Rattle.reply_model.specs.Cursors.{Cursor}
use Rattle.router_cursors.specs.Marks.{Marked, AreKept, cursor_by, rises}
use Rattle.router_cursors.proofs.Looks.{kept_opened, opened_last}
use Rattle.router_cursors.proofs.Opened.{rises_pushed}
use Rattle.router_cursors.proofs.Rooms.{filled_there}
use Rattle.router_cursors.proofs.list.CursorList.open.Goals as goal

pub invariant_of-self : goal.invariant_of-self
invariant_of-self c =
    let n = c.args.self.now in
    let number = c.in-Some.next.number in
    let m : Marked = (c.args.namespace.now, record { number = number; time = c.args.time }) in
    let fits : SFits w64 c.as_signed.result = search rules in
    let k : to_z w64 (of_z w64 c.as_signed.result) ≡ pos number = to_z-of_z w64 c.as_signed.result fits ∙ c.as_signed.ensures in
    let there = filled_there n.shelf c.fill.new.self _ number _ c.args.namespace.now c.args.time.0 (map arc_value c.args.rest.items) k c.in-Some.ensures.number c.requires.room.1 c.fill.ensures.filled in
    let others : (i : ℤ) → (i ≡ pos number → ⊥) → cursor_in c.fill.new.self i ≡ cursor_in n.shelf i =
    subst (λ (j : ℤ). (i : ℤ) → (i ≡ j → ⊥) → cursor_in c.fill.new.self i ≡ cursor_in n.shelf i) k c.fill.ensures.others in
    let above : n.gave < number = omega (arith, c.in-Some.ensures.behind) in record {
      few = c.in-Some.ensures.few;
      within = c.in-Some.ensures.inside;
      rising = subst (λ (l : List Marked). rises 0 number l ≡ true) (sym c.with-self.ensures) (rises_pushed 0 n.gave n.opened.items m n.rising above);
      kept = subst (λ (l : List Marked). AreKept (λ i. cursor_in c.fill.new.self i) number l) (sym c.with-self.ensures)
          (kept_opened (λ i. cursor_in n.shelf i) (λ i. cursor_in c.fill.new.self i) n.gave n.opened.items n.kept number m
          (record { namespace = c.args.namespace.now; time = c.args.time.0; remaining = map arc_value c.args.rest.items }) n.rising c.in-Some.ensures.behind refl refl refl c.requires.left others there);
    }

pub returns-in-Some-clause-cursors : goal.returns-in-Some-clause-cursors
returns-in-Some-clause-cursors c = λ router life.
    let n = c.args.self.now in
    let number = c.in-Some.next.number in
    let m : Marked = (c.args.namespace.now, record { number = number; time = c.args.time }) in
    let fits : SFits w64 c.as_signed.result = search rules in
    let k : to_z w64 (of_z w64 c.as_signed.result) ≡ pos number = to_z-of_z w64 c.as_signed.result fits ∙ c.as_signed.ensures in
    let there = filled_there n.shelf c.fill.new.self _ number _ c.args.namespace.now c.args.time.0 (map arc_value c.args.rest.items) k c.in-Some.ensures.number c.requires.room.1 c.fill.ensures.filled in
    let others : (i : ℤ) → (i ≡ pos number → ⊥) → cursor_in c.fill.new.self i ≡ cursor_in n.shelf i =
    subst (λ (j : ℤ). (i : ℤ) → (i ≡ j → ⊥) → cursor_in c.fill.new.self i ≡ cursor_in n.shelf i) k c.fill.ensures.others in
    ap (λ (l : List Marked). map (λ x. cursor_by router life (λ i. cursor_in c.fill.new.self i) x) l) c.with-self.ensures
    ∙ opened_last router life 0 (λ i. cursor_in n.shelf i) (λ i. cursor_in c.fill.new.self i) n.gave number n.opened.items m
    (record { namespace = c.args.namespace.now; time = c.args.time.0; remaining = map arc_value c.args.rest.items }) n.rising c.in-Some.ensures.behind refl others there
    ∙ ap (λ (j : ℕ). map (λ x. cursor_by router life (λ i. cursor_in n.shelf i) x) n.opened.items ++ record {
      router = router;
      life = life;
      number = pos j;
      namespace = c.args.namespace.now;
      time = c.args.time.0;
      remaining = map arc_value c.args.rest.items;
    } ∷ []) c.in-Some.ensures.number
