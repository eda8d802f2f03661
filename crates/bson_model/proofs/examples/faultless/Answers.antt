use Rattle.std.proofs.Common.{◌≡◌, ℕ, List, [], ◌∷◌}
use Rattle.std.specs.Prelude.{false}
use Rattle.bson_model.specs.Faults.{ends_at, faulty, Walks, walks_on, walks_to_end, first_step}
use Rattle.bson_model.proofs.Walks.{one_outcome}
use Rattle.bson_model.proofs.examples.faultless.Goals as goal

abbrev least : List ℕ
least = 5 ∷ 0 ∷ 0 ∷ 0 ∷ 0 ∷ []

to_end : Walks least (first_step least) (ends_at 5)
to_end = walks_on 4 (record { is_array = false; end = 5 }) [] _ (walks_to_end 5)

pub returns-clause-end : goal.returns-clause-end
returns-clause-end c = to_end

pub returns-clause-none : goal.returns-clause-none
returns-clause-none c = λ fault offset first.
    let same : ends_at 5 ≡ faulty fault offset = one_outcome least (first_step least) (ends_at 5) (faulty fault offset) to_end first in
    cc
