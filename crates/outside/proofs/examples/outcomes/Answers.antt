use Rattle.std.proofs.Common.{inl, [], length, arith, ap, refl}
use Rattle.outside.proofs.examples.outcomes.Goals as goal

pub returns-clause-not_within : goal.returns-clause-not_within
returns-clause-not_within c within = omega (arith, ap length (within [] (inl refl)))

pub returns-clause-only : goal.returns-clause-only
returns-clause-only c = (λ c is. is, λ only. omega (arith, ap length (only [] (inl refl))))

pub returns-clause-not_follows : goal.returns-clause-not_follows
returns-clause-not_follows c follows =
    let from = follows [] refl in
    omega (arith, from.2.no_shorter, ap length from.1)
