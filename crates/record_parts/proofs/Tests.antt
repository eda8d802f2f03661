-- Tests, and what follows from them.
use Rattle.std.proofs.Common.{◌≡◌, ◌≢◌, Bool, true, false, refl, Ordering, Less, Equal, Greater, ap, subst}
use Rattle.std.specs.Prelude.{Option, Some, None, ◌↔◌}
use Rattle.std.specs.Ordering.{is_lt}

pub less : (o : Ordering) → o ≡ Less → is_lt o ≡ true
less o e = ap is_lt e

pub not_less : (o : Ordering) → o ≢ Less → is_lt o ≡ false
not_less Less other = absurd (other refl)
not_less Equal other = refl
not_less Greater other = refl

pub ruleset order_tests = (less, not_less)

pub is_true : (b : Bool) → ¬ (b ≡ false) → b ≡ true
is_true true none = refl
is_true false none = absurd (none refl)

-- what was returned determines the test
pub some_true : {X : Type 0} (x : X) (b : Bool) → (Path (Option X) (Some x) None ↔ (b ≡ false)) → b ≡ true
some_true x true tells = refl
some_true x false tells = absurd (cc (tells.1 refl))
