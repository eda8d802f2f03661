use Rattle.std.proofs.Common.{◌≡◌, ltb, [], ◌∷◌, length, refl, arith}
use Rattle.std.specs.Prelude.{false}
use Rattle.std.proofs.lemmas.Bool.{le-ltb}
use Rattle.bson_model.specs.Faults.{length_fault, walks_on, walks_to_fault}
use Rattle.bson_model.proofs.Walks.{behind_no_name}
use Rattle.bson_model.proofs.examples.ordered.Goals as goal

pub returns-clause-inside : goal.returns-clause-inside
returns-clause-inside c = walks_on 4 (record { is_array = false; end = 12 }) [] _ (behind_no_name _ 5 _ _ (walks_to_fault length_fault 6))

pub returns-clause-depth : goal.returns-clause-depth
returns-clause-depth c = λ h outer end_is count.
    let full : ltb (length (h ∷ outer)) 100 ≡ false = le-ltb _ _ (omega arith) in
    rw (full, end_is) refl
