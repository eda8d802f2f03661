use Rattle.std.proofs.Common.{◌≡◌, inr, [], ◌∷◌, take, subst, arith}
use Rattle.outside.proofs.examples.time.Goals as goal

pub returns-clause-goes_on : goal.returns-clause-goes_on
returns-clause-goes_on c = record {
  later = omega arith;
  nothing_else = λ t left_file le left. left;
  keeps = λ t left_file le left. left;
  during = λ t left_file past to left. let now : t ≡ 1 = omega (arith, past, to) in inr (subst (λ n. left_file ≡ take n (1 ∷ [])) now left);
}
