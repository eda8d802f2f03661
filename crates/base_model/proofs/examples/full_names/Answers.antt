-- A full name has a dot, and so is not empty.
use Rattle.std.proofs.Common.{◌≡◌, ℕ, [], ◌∷◌, List, refl, codes, rules}
use Rattle.base_model.specs.Names.{full_name}
use Rattle.base_model.proofs.examples.full_names.Goals as goal

no_full_name : (database collection : List ℕ) → [] ≡ full_name database collection → ⊥
no_full_name [] collection e = cc
no_full_name (b ∷ database) collection e = cc

pub returns-clause-full : goal.returns-clause-full
returns-clause-full c = (codes "d", codes "c", refl, search rules)

pub returns-clause-none : goal.returns-clause-none
returns-clause-none c = λ is. no_full_name is.0 is.1 is.2
