use Rattle.std.proofs.Common.{◌≡◌, ◌<◌, ◌∷◌, Some, None, sym, ap, suc, subst, arith}
use Rattle.std.specs.Prelude.{◌==◌, if◌then◌else◌}
use Rattle.std.specs.List.{insert}
use Rattle.session_book.specs.Statements.{IsGapFor, IsRising, notes_with, with_index}
use Rattle.session_book.proofs.Rising.{found_after, gap_before, gap_behind, is_apart, rest_rises, rises_still}
use Rattle.session_book.proofs.session.Kept.put.Goals as goal

-- a lesser index than that of the first
pub invariant_of-self-then-noted-first : goal.invariant_of-self-then-noted-first
invariant_of-self-then-noted-first c =
    let first = c.in-Some.first in
    let rest = c.self.inside.rest.items in
    let is : c.self.inside.first ≡ Some c.in-Some.first = sym c.in-Some.ensures.value in
    let rising : IsRising (c.in-Some.first ∷ c.self.inside.rest.items) = rw is at c.self.invariant.rising in
    let low : c.args.noted.index < c.in-Some.first.index = c.if-noted-first.true in
    record {
      rising = subst (λ ns. IsRising (c.args.noted ∷ ns)) (sym c.put_at.ensures.items) (rises_still (first ∷ rest) c.args.noted 0 (gap_before first rest c.args.noted.index rising low) rising);
      none = λ e. absurd cc;
    }

pub gap_among-at-requires-clause-rising : goal.gap_among-at-requires-clause-rising
gap_among-at-requires-clause-rising c =
    let is : c.self.inside.first ≡ Some c.in-Some.first = sym c.in-Some.ensures.value in
    let rises : IsRising c.self.inside.rest.items = rest_rises c.in-Some.first c.self.inside.rest.items (rw is at c.self.invariant.rising) in
    rw c.deref.ensures.value rises

-- a greater one
pub invariant_of-self-else-noted-first : goal.invariant_of-self-else-noted-first
invariant_of-self-else-noted-first c =
    let first = c.in-Some.first in
    let rest = c.self.inside.rest.items in
    let is : c.self.inside.first ≡ Some c.in-Some.first = sym c.in-Some.ensures.value in
    let rising : IsRising (c.in-Some.first ∷ c.self.inside.rest.items) = rw is at c.self.invariant.rising in
    let whole : notes_with c.self.inside.first c.self.inside.rest.items ≡ c.args.self.now.notes = ap (λ s. s.notes) c.self.view_is in
    let notes : c.in-Some.first ∷ c.self.inside.rest.items ≡ c.args.self.now.notes = rw is at whole in
    let none : with_index c.args.noted.index (c.in-Some.first ∷ c.self.inside.rest.items) ≡ None =
    subst (λ ns. with_index c.args.noted.index ns ≡ None) (sym notes) c.requires.new in
    let apart = is_apart first rest c.args.noted.index none in
    let high : c.in-Some.first.index < c.args.noted.index = omega (arith, c.if-noted-first.false, apart.other) in
    let gap : IsGapFor c.self.inside.rest.items c.args.noted.index c.gap_among-at.result = rw c.deref.ensures.value at c.gap_among-at.ensures in
    record {
      rising = subst (λ ns. IsRising (c.in-Some.first ∷ ns)) (sym c.put_at-else-noted-first.ensures.items) (rises_still (first ∷ rest) c.args.noted (suc c.gap_among-at.result) (gap_behind first rest c.args.noted.index c.gap_among-at.result high gap) rising);
      none = λ e. absurd cc;
    }

pub returns-else-noted-first-clause-notes : goal.returns-else-noted-first-clause-notes
returns-else-noted-first-clause-notes c = λ i.
    let first = c.in-Some.first in
    let rest = c.self.inside.rest.items in
    let is : c.self.inside.first ≡ Some c.in-Some.first = sym c.in-Some.ensures.value in
    let whole : notes_with c.self.inside.first c.self.inside.rest.items ≡ c.args.self.now.notes = ap (λ s. s.notes) c.self.view_is in
    let notes : c.in-Some.first ∷ c.self.inside.rest.items ≡ c.args.self.now.notes = rw is at whole in
    let none : with_index c.args.noted.index (c.in-Some.first ∷ c.self.inside.rest.items) ≡ None =
    subst (λ ns. with_index c.args.noted.index ns ≡ None) (sym notes) c.requires.new in
    let apart = is_apart first rest c.args.noted.index none in
    let high : c.in-Some.first.index < c.args.noted.index = omega (arith, c.if-noted-first.false, apart.other) in
    let gap : IsGapFor c.self.inside.rest.items c.args.noted.index c.gap_among-at.result = rw c.deref.ensures.value at c.gap_among-at.ensures in
    let found = found_after (first ∷ rest) c.args.noted (suc c.gap_among-at.result) (gap_behind first rest c.args.noted.index c.gap_among-at.result high gap) i in
    subst (λ ns. (if c.in-Some.first.index == i then Some c.in-Some.first else with_index i ns) ≡ (if c.args.noted.index == i then Some c.args.noted else with_index i c.args.self.now.notes))
    (sym c.put_at-else-noted-first.ensures.items)
    (subst (λ ns. with_index i (insert (c.in-Some.first ∷ c.self.inside.rest.items) (suc c.gap_among-at.result) c.args.noted) ≡ (if c.args.noted.index == i then Some c.args.noted else with_index i ns)) notes found)
