-- A step that is taken: not the last one, also by a lower count.
use Rattle.std.proofs.Common.{◌≡◌, ℕ, ◌<◌, ◌≤◌, Bool, true, false, refl, ap, ◌∙◌, arith}
use Rattle.std.specs.Prelude.{◌||◌, nat_le}
use Rattle.std.proofs.lemmas.Bool.{leb-false, lt-leb}
use Rattle.node_model.specs.Lacks.{is_last, last_time, most_steps, time_in}
use Rattle.node_model.specs.Letters.{Input}
use Rattle.node_model.specs.States.{NodeState, time_of_node}

none_of_fewer : (many few other : Bool) → (many ≡ false → few ≡ false) → (many || other) ≡ false → (few || other) ≡ false
none_of_fewer true few other lower none = absurd (cc)
none_of_fewer false few other lower none = ap (λ (b : Bool). b || other) (lower refl) ∙ none

below_most : (most fewer steps : ℕ) → fewer ≤ steps → nat_le most steps ≡ false → nat_le most fewer ≡ false
below_most most fewer steps less none =
    let below : steps < most = leb-false most steps none in
    lt-leb most fewer (omega (arith, below, less))

-- where the step is not the last one after so many, it is not after fewer
pub goes_with_fewer : (fewer steps : ℕ) (s : NodeState) (i : Input) → fewer ≤ steps → is_last steps s i ≡ false → is_last fewer s i ≡ false
goes_with_fewer fewer steps s i less goes =
    none_of_fewer (nat_le most_steps steps) (nat_le most_steps fewer) (nat_le last_time (time_of_node s) || nat_le last_time (time_in i))
    (below_most most_steps fewer steps less) goes
