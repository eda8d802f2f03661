-- What merging returns, by what the definitions merge to.
use Rattle.std.specs.Prelude.{◌≡◌, List, Result, Ok, Err, Some, None, option_map}
use Rattle.bson_values.specs.Tree.{Fields}
use Rattle.pipeline_model.specs.Halves.{IsInTurn, Joining, Joins, Merge, MergesInTurn, Rows}
use Rattle.pipeline_model.specs.Lengths.{excess_of_answer}
use Rattle.pipeline_model.specs.Runs.{listed, overflowed}
use Rattle.group_accum.specs.Sizes.{capped}
use Rattle.pipeline_eval.specs.declared.fault.EvalFault.{EvalFault}
use Rattle.pipeline_eval.specs.declared.fault.EvalFault.TheVariants.{Overflow, TooMuch, Memory}

-- What the parts are joined to. Nothing is said where memory runs out.
abbrev pub JoinsTo : {X : Type 0} → (X → List Fields) → Joining → List Rows → Result X EvalFault → Type 0
JoinsTo view joining parts (Ok x) = Joins joining parts (listed (view x)) × IsInTurn joining parts (listed (view x))
JoinsTo view joining parts (Err Overflow) = Joins joining parts overflowed
JoinsTo view joining parts (Err (TooMuch n)) = ⊥
JoinsTo view joining parts (Err Memory) = Unit {0}

-- `Ok` is an outcome that is not too long; where the outcome is too long, its number of bytes is returned.
abbrev pub MergeAnswers : {X : Type 0} → (X → List Fields) → Merge → List Rows → Result X EvalFault → Type 0
MergeAnswers view merge parts (Ok x) = MergesInTurn merge parts (listed (view x)) × (excess_of_answer (view x) ≡ None)
MergeAnswers view merge parts (Err Overflow) = MergesInTurn merge parts overflowed
MergeAnswers view merge parts (Err (TooMuch n)) = (documents : List Fields)
    × MergesInTurn merge parts (listed documents) × (option_map capped (excess_of_answer documents) ≡ Some n)
MergeAnswers view merge parts (Err Memory) = Unit {0}
