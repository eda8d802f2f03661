-- The program's results of stages, by what the definitions run to.
use Rattle.std.specs.Prelude.{◌≡◌, ℕ, List, ◌∷◌, Result, Ok, Err, Option, Some, None, option_map}
use Rattle.bson_values.specs.Tree.{Fields}
use Rattle.group_accum.specs.Sizes.{capped}
use Rattle.pipeline_model.specs.Halves.{Half, IsHalf, Rows}
use Rattle.pipeline_model.specs.Lengths.{excess_of_answer, excess_of_half}
use Rattle.pipeline_model.specs.Runs.{Outcome, listed, overflowed, Runs}
use Rattle.pipeline_model.specs.Stages.{Stage, limit_stage}
use Rattle.pipeline_eval.specs.declared.fault.EvalFault.{EvalFault}
use Rattle.pipeline_eval.specs.declared.fault.EvalFault.TheVariants.{Overflow, TooMuch, Memory}

-- The later stages run on the documents that a stage resulted in; where it overflowed, the whole does. Nothing is said where memory runs out.
abbrev pub Does : {X : Type 0} → (X → List Fields) → Stage → List Fields → Result X EvalFault → Type 0
Does view stage docs (Ok x) = (rest : List Stage) (out : Outcome) → Runs rest (view x) out → Runs (stage ∷ rest) docs out
Does view stage docs (Err Overflow) = (rest : List Stage) → Runs (stage ∷ rest) docs overflowed
Does view stage docs (Err (TooMuch n)) = ⊥
Does view stage docs (Err Memory) = Unit {0}

-- how many documents a limit keeps that comes first
abbrev pub limit_in_front : List Stage → Option ℕ
limit_in_front (limit_stage n ∷ rest) = Some n
limit_in_front rest = None

-- the same where the stages after it begin with that limit, or with none
abbrev pub DoesBefore : {X : Type 0} → Option ℕ → (X → List Fields) → Stage → List Fields → Result X EvalFault → Type 0
DoesBefore limit view stage docs (Ok x) =
    (rest : List Stage) (out : Outcome) → limit_in_front rest ≡ limit → Runs rest (view x) out → Runs (stage ∷ rest) docs out
DoesBefore limit view stage docs (Err Overflow) = (rest : List Stage) → Runs (stage ∷ rest) docs overflowed
DoesBefore limit view stage docs (Err (TooMuch n)) = ⊥
DoesBefore limit view stage docs (Err Memory) = Unit {0}

-- the result of all stages
abbrev pub RunsTo : {X : Type 0} → (X → List Fields) → List Stage → List Fields → Result X EvalFault → Type 0
RunsTo view stages docs (Ok x) = Runs stages docs (listed (view x))
RunsTo view stages docs (Err Overflow) = Runs stages docs overflowed
RunsTo view stages docs (Err (TooMuch n)) = ⊥
RunsTo view stages docs (Err Memory) = Unit {0}

-- `Ok` is an outcome that is not too long; where the outcome is too long, its number of bytes is returned.
abbrev pub Answers : {X : Type 0} → (X → List Fields) → List Stage → List Fields → Result X EvalFault → Type 0
Answers view stages docs (Ok x) = Runs stages docs (listed (view x)) × (excess_of_answer (view x) ≡ None)
Answers view stages docs (Err Overflow) = Runs stages docs overflowed
Answers view stages docs (Err (TooMuch n)) =
    (documents : List Fields) × Runs stages docs (listed documents) × (option_map capped (excess_of_answer documents) ≡ Some n)
Answers view stages docs (Err Memory) = Unit {0}

-- The same for a half.
abbrev pub HalfAnswers : {X : Type 0} → (X → Rows) → Half → List Fields → Result X EvalFault → Type 0
HalfAnswers view half docs (Ok x) = IsHalf half docs (view x) × (excess_of_half (view x) ≡ None)
HalfAnswers view half docs (Err Overflow) = Runs half.stages docs overflowed
HalfAnswers view half docs (Err (TooMuch n)) = (rows : Rows) × IsHalf half docs rows × (option_map capped (excess_of_half rows) ≡ Some n)
HalfAnswers view half docs (Err Memory) = Unit {0}
