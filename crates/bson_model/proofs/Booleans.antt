-- Conjunctions and negations of tests.
use Rattle.std.proofs.Common.{◌≡◌, refl}
use Rattle.std.specs.Prelude.{Bool, true, false, ◌&&◌, ◌||◌, not}

pub both : (a b : Bool) → (a && b) ≡ true → (a ≡ true) × (b ≡ true)
both true b h = (refl, h)
both false b h = absurd cc

pub is_false : (b : Bool) → (b ≡ true → ⊥) → b ≡ false
is_false true no_such = absurd (no_such refl)
is_false false no_such = refl

pub not_or : (a b : Bool) → not (not a || b) ≡ (a && not b)
not_or true b = refl
not_or false b = refl

pub neither : (a b : Bool) → (a || b) ≡ false → a ≡ false
neither true b h = absurd cc
neither false b h = refl

pub and_assoc : (a b c : Bool) → (a && (b && c)) ≡ ((a && b) && c)
and_assoc true b c = refl
and_assoc false b c = refl

pub or_false : (a : Bool) → (a || false) ≡ a
or_false true = refl
or_false false = refl
