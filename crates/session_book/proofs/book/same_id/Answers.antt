use Rattle.std.proofs.Common.{◌≤◌, rules, arith, inl, inr}
use Rattle.std.proofs.Math.Nat.{eq-or-lt_of_le}
use Rattle.std.proofs.lemmas.Grind.{same_number_lists}
use Rattle.session_book.proofs.book.same_id.Goals as goal

pub loop-i-preserved : goal.loop-i-preserved
loop-i-preserved c = λ k low.
    let upto : k ≤ c.loop-i.i = omega (arith, low) in
    elim (eq-or-lt_of_le upto) [
      | inl same ↦ rw same c.if-id-i.false
      | inr sooner ↦ c.loop-i.invariant k sooner
    ]

-- all sixteen are the same
pub returns : goal.returns
returns c = λ holds. same_number_lists _ _ (search rules) (λ k low. c.loop-i.invariant k (omega arith))
