-- Statements one by one: the error of the first, and those of the ones after it.
use Rattle.std.proofs.Common.{◌≡◌, List, [], ◌∷◌, ◌++◌, sym, ◌∙◌, ap, subst, None, Err}
use Rattle.std.specs.Prelude.{map}
use Rattle.bson_model.specs.Tree.{Fields}
use Rattle.command_model.specs.Checks.{Verdict, first_of}
use Rattle.command_model.specs.Statements.{StatementForm, check_statement, check_statements}
use Rattle.command_fields.proofs.Rulings.{last_of}
use Rattle.command_fields.specs.Verdicts.{ReadsBy}
use Rattle.command_fields.specs.declared.fault.CheckFault.{CheckFault}
use Rattle.command_fields.specs.declared.fault.CheckFault.TheVariants.{Refused, Memory}
use Rattle.history_model.specs.History.{Operation}
use Rattle.statement_views.specs.Views.{operation_view}
use Rattle.value_compare.specs.declared.words.OpWords.{OpWords}

-- after a statement that passes the others decide
pub others_decide : (form : StatementForm) (statement : Fields) (rest : List Fields) (whole : Verdict) → check_statements form (statement ∷ rest) ≡ whole → check_statement form statement ≡ None → check_statements form rest ≡ whole
others_decide form statement rest whole told passes =
    sym (ap (λ (v : Verdict). first_of (v ∷ check_statements form rest ∷ [])) passes ∙ last_of (check_statements form rest)) ∙ told

-- a statement that is refused decides alone
first_decides : {X Y : Type 0} (reads : X → Type 0) (others : Y → Type 0) (fault : CheckFault) (first rest : Verdict) → ReadsBy reads (Err fault) first → ReadsBy others (Err fault) (first_of (first ∷ rest ∷ []))
first_decides reads others (Refused code) first rest told = ap (λ (v : Verdict). first_of (v ∷ rest ∷ [])) told
first_decides reads others Memory first rest told = tt

pub refused_decides : {X Y : Type 0} (reads : X → Type 0) (others : Y → Type 0) (form : StatementForm) (statement : Fields) (rest : List Fields) (whole : Verdict) (fault : CheckFault) →
    check_statements form (statement ∷ rest) ≡ whole → ReadsBy reads (Err fault) (check_statement form statement) → ReadsBy others (Err fault) whole
refused_decides reads others form statement rest whole fault is told =
    subst (λ (v : Verdict). ReadsBy others (Err fault) v) is (first_decides reads others fault (check_statement form statement) (check_statements form rest) told)

-- the operands of one more statement are appended
pub one_put : (form : StatementForm) (made : List OpWords) (words : OpWords) (statement : Fields) (rest : List Fields) → operation_view words ≡ form.operation statement →
    map operation_view (made ++ words ∷ []) ++ map form.operation rest ≡ map operation_view made ++ map form.operation (statement ∷ rest)
one_put form [] words statement rest is = ap (λ (o : Operation). o ∷ map form.operation rest) is
one_put form (first ∷ made) words statement rest is = ap (λ (more : List Operation). operation_view first ∷ more) (one_put form made words statement rest is)
