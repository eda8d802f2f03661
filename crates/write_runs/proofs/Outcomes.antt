-- The outcome at an index.
use Rattle.std.proofs.Common.{◌≡◌, refl, ap, ◌∙◌, ℕ, zero, suc, ◌<◌, ◌≤◌, List, [], ◌∷◌, length, get_or, false, arith, is_some}
use Rattle.std.specs.Prelude.{Option, Some, None}
use Rattle.std.specs.Option.{option_map}
use Rattle.protocol_model.specs.Statements.{answer_view}
use Rattle.protocol_model.specs.declared.statement.StatementOutcome.{StatementOutcome}
use Rattle.reply_model.specs.Outcomes.{has_outcome}
use Rattle.write_runs.specs.Runs.{answers_view}

some_seen : (answer : Option StatementOutcome) → is_some answer ≡ is_some (option_map answer_view answer)
some_seen None = refl
some_seen (Some x) = refl

pub outcome_at : (answers : List (Option StatementOutcome)) (index : ℕ) (answer : Option StatementOutcome) → index < length answers → answer ≡ get_or answers index answer
    → is_some answer ≡ has_outcome (answers_view answers) index
outcome_at [] index answer less here = absurd (omega (arith, less))
outcome_at (a ∷ answers) zero answer less here = ap (λ (o : Option StatementOutcome). is_some o) here ∙ some_seen a
outcome_at (a ∷ answers) (suc index) answer less here = outcome_at answers index answer (omega (arith, less)) here

pub outcome_past : (answers : List (Option StatementOutcome)) (index : ℕ) → length answers ≤ index → false ≡ has_outcome (answers_view answers) index
outcome_past [] index past = refl
outcome_past (a ∷ answers) zero past = absurd (omega (arith, past))
outcome_past (a ∷ answers) (suc index) past = outcome_past answers index (omega (arith, past))
