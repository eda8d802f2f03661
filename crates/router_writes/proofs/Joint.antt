-- The outcomes that there are, from one place on.
use Rattle.std.proofs.Common.{◌≡◌, refl, ap, sym, ◌∙◌, ℕ, suc, ◌+◌, ◌<◌, List, [], ◌∷◌, ◌++◌, drop, length, get_or, add-one, drop-cons, append_assoc}
use Rattle.std.specs.Option.{option_map}
use Rattle.std.specs.Prelude.{Option, Some, None}
use Rattle.reply_model.specs.Outcomes.{Done, StatementOutcome, dones_from}
use Rattle.protocol_model.specs.declared.statement.StatementOutcome as program
use Rattle.protocol_model.specs.Statements.{answer_view}
use Rattle.write_runs.specs.Runs.{answers_view}

dones_both : (index : ℕ) (a : Option StatementOutcome) (rest : List (Option StatementOutcome))
    → dones_from index (a ∷ rest) ≡ dones_from index (a ∷ []) ++ dones_from (index + 1) rest
dones_both index None rest = refl
dones_both index (Some x) rest = refl

-- one more place
pub dones_on : (answers : List (Option program.StatementOutcome)) (i index next : ℕ) (a : Option program.StatementOutcome) (told new whole : List Done) → i < length answers
    → a ≡ get_or answers i a → next ≡ index + 1 → new ≡ told ++ dones_from index (option_map answer_view a ∷ []) → told ++ dones_from index (answers_view (drop i answers)) ≡ whole
    → new ++ dones_from next (answers_view (drop (i + 1) answers)) ≡ whole
dones_on answers i index next a told new whole inside here counted more inv =
    let cut : drop i answers ≡ a ∷ drop (i + 1) answers = rw add-one (drop-cons answers i a inside ∙ ap (λ (first : Option program.StatementOutcome). first ∷ drop (suc i) answers) (sym here)) in
    ap (λ (n : ℕ). new ++ dones_from n (answers_view (drop (i + 1) answers))) counted
    ∙ ap (λ (l : List Done). l ++ dones_from (index + 1) (answers_view (drop (i + 1) answers))) more
    ∙ append_assoc told (dones_from index (option_map answer_view a ∷ [])) (dones_from (index + 1) (answers_view (drop (i + 1) answers)))
    ∙ ap (λ (l : List Done). told ++ l) (sym (dones_both index (option_map answer_view a) (answers_view (drop (i + 1) answers))))
    ∙ ap (λ (l : List (Option program.StatementOutcome)). told ++ dones_from index (answers_view l)) (sym cut)
    ∙ inv
