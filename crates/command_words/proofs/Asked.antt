-- The command of documents, by the form of their first field.
use Rattle.std.proofs.Common.{◌≡◌, ◌≤◌, ℕ, List, [], ◌∷◌, length, get_or, sym, ◌∙◌, ap, subst, true, Some, None, arith}
use Rattle.std.specs.Prelude.{Result, Err, Option}
use Rattle.bson_model.specs.Tree.{Fields, field}
use Rattle.opmsg_model.specs.Requests.{Form}
use Rattle.base_model.specs.Errors.{ErrorCode, command_not_found}
use Rattle.bson_values.specs.declared.value.Field.{Field}
use Rattle.bson_values.specs.View.{datum_of, fields_of}
use Rattle.command_model.specs.Forms.{CommandForm, Sequences}
use Rattle.std.specs.Str.{bytes_eq}
use Rattle.std.proofs.lemmas.Slice.Eq.{bytes_eq-Decides}
use Rattle.command_model.specs.Command.{Command, Row, by_form, command_asked, find_form_in, form_of}

asked_so : (form : Option (CommandForm Command)) (sent : Form) (first : Field) (rest : List Field) (sequences : Sequences) → form ≡ form_of first.name → by_form form sent first.name (datum_of first.value) (fields_of rest) sequences ≡ command_asked sent (fields_of (first ∷ rest)) sequences
asked_so form sent first rest sequences found = ap (λ f. by_form f sent first.name (datum_of first.value) (fields_of rest) sequences) found

-- what holds of the result of its form holds of the result of the whole
pub told_by : (holds : Result Command ErrorCode → Type 0) (form : CommandForm Command) (sent : Form) (document : Fields) (ms : List Field) (first : Field) (sequences : Sequences) → 1 ≤ length ms → first ≡ get_or ms 0 first → fields_of ms ≡ document → Some form ≡ form_of first.name →
    ((others : Fields) → document ≡ field first.name (datum_of first.value) others → holds (by_form (Some form) sent first.name (datum_of first.value) others sequences)) → holds (command_asked sent document sequences)
told_by holds form sent document [] first sequences some is whole found told = absurd (omega arith)
told_by holds form sent document (m ∷ rest) first sequences some is whole found told =
    let here : fields_of (first ∷ rest) ≡ document = ap (λ (n : Field). fields_of (n ∷ rest)) is ∙ whole in
    let mine : holds (by_form (Some form) sent first.name (datum_of first.value) (fields_of rest) sequences) = told (fields_of rest) (sym here) in
    let so : by_form (Some form) sent first.name (datum_of first.value) (fields_of rest) sequences ≡ command_asked sent document sequences =
    asked_so (Some form) sent first rest sequences found ∙ ap (λ (d : Fields). command_asked sent d sequences) here in
    subst holds so mine

-- a name that belongs to no command
pub not_found : (sent : Form) (document : Fields) (ms : List Field) (first : Field) (sequences : Sequences) → 1 ≤ length ms → first ≡ get_or ms 0 first → fields_of ms ≡ document → None ≡ form_of first.name → command_asked sent document sequences ≡ Err command_not_found
not_found sent document [] first sequences some is whole found = absurd (omega arith)
not_found sent document (m ∷ rest) first sequences some is whole found =
    let here : fields_of (first ∷ rest) ≡ document = ap (λ (n : Field). fields_of (n ∷ rest)) is ∙ whole in
    sym (asked_so None sent first rest sequences found ∙ ap (λ (d : Fields). command_asked sent d sequences) here)

-- the form of a name that is the same as an entry's
pub row_named : (form : CommandForm Command) (rows : List Row) (own name : List ℕ) → Some form ≡ find_form_in own rows → bytes_eq own name ≡ true → Some form ≡ find_form_in name rows
row_named form rows own name found same = subst (λ (n : List ℕ). Some form ≡ find_form_in n rows) ((bytes_eq-Decides own name).0 same) found
