-- How a number fits, by the comparisons that tell it.
use Rattle.std.proofs.Common.{◌≡◌, ℕ, ◌+◌, ◌≤◌, ◌<◌, refl, sym, arith, eq-eqb}
use Rattle.std.specs.Prelude.{Bool, true, false, ◌&&◌, ◌==◌, nat_le, if◌then◌else◌}
use Rattle.std.proofs.lemmas.Bool.{ne_eqb, le-leb, lt-leb}
use Rattle.move_model.specs.Recipients.{next_fit, known_fit, strange_fit, fit_of}

by_known : (a n : ℕ) (known : Bool) → (n == a + 1) ≡ false → (nat_le 1 n && nat_le n a) ≡ known → fit_of a n ≡ (if known then known_fit else strange_fit)
by_known a n known other is = rw (other, is) refl

pub at_zero : (a n : ℕ) → n ≡ 0 → strange_fit ≡ fit_of a n
at_zero a n zero =
    let none : nat_le 1 n ≡ false = lt-leb 1 n (omega (arith, zero)) in
    sym (by_known a n false (ne_eqb n (a + 1) (λ e. omega (arith, e, zero))) (rw none refl))

pub is_next : (a n : ℕ) → n ≡ a + 1 → next_fit ≡ fit_of a n
is_next a n next = sym (rw (eq-eqb n (a + 1) next) refl)

pub is_known : (a n : ℕ) → 1 ≤ n → n ≤ a → known_fit ≡ fit_of a n
is_known a n some less =
    sym (by_known a n true (ne_eqb n (a + 1) (λ e. omega (arith, e, less))) (rw (le-leb 1 n some, le-leb n a less) refl))

pub is_strange : (a n : ℕ) → 1 ≤ n → a + 1 < n → strange_fit ≡ fit_of a n
is_strange a n some more =
    sym (by_known a n false (ne_eqb n (a + 1) (λ e. omega (arith, e, more))) (rw (le-leb 1 n some, lt-leb n a (omega (arith, more))) refl))
