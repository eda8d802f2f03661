-- Reading edits one after the other, as a loop does.
use Rattle.std.proofs.Common.{◌≡◌, ℕ, ◌<◌, ◌+◌, List, [], ◌∷◌, ◌++◌, length, get_or, drop, Result, Ok, Err, refl, sym, ap, ◌∙◌, append_assoc}
use Rattle.std.specs.Prelude.{ok_or}
use Rattle.std.specs.Result.{result_map_both}
use Rattle.std.proofs.lemmas.List.{map-append}
use Rattle.bson_values.specs.declared.value.Field.{Field}
use Rattle.bson_values.specs.View.{datum_of, fields_of}
use Rattle.bson_model.specs.Tree.{Datum, Fields, field}
use Rattle.query_model.specs.Paths.{Path, as_document, read_path}
use Rattle.query_model.specs.Queries.{QueryFault, unknown_operator, bad_operand, path_fault, named}
use Rattle.query_model.specs.Reading.{◌>>=◌}
use Rattle.query_model.specs.Changes as changes
use Rattle.query_model.specs.Changes.{EditOperator, edit_operators, read_edit, read_edits, read_operators}
use Rattle.field_paths.proofs.FieldLists.{next_field}
use Rattle.update_ops.specs.declared.change.PathEdit.{PathEdit}
use Rattle.update_ops.specs.Reads.{behind, read_operator, read_path_edit}
use Rattle.update_ops.specs.View.{edits_of, path_edit_of}

abbrev Edits : Type 0
Edits = List (Path × changes.Edit)

-- appending to a list that was read fails where reading fails
pub behind_fails : (prefix : Edits) (read : Result Edits QueryFault) (f : QueryFault) → read ≡ Err f → behind prefix read ≡ Err f
behind_fails prefix read f h = rw h refl

-- ---- one edit

edit_grouped : (path : Result Path QueryFault) (edit : Result changes.Edit QueryFault) (others : Result Edits QueryFault) →
    (path >>= λ p. edit >>= λ e. others >>= λ more. Ok ((p, e) ∷ more)) ≡ ((path >>= λ p. edit >>= λ e. Ok (p, e)) >>= λ first. others >>= λ more. Ok (first ∷ more))
edit_grouped (Ok p) (Ok e) others = refl
edit_grouped (Ok p) (Err f) others = refl
edit_grouped (Err f) edit others = refl

edit_behind : (prefix : Edits) (e : Path × changes.Edit) (others : Result Edits QueryFault) →
    behind prefix (others >>= λ more. Ok (e ∷ more)) ≡ behind (prefix ++ e ∷ []) others
edit_behind prefix e (Ok more) = ap (λ (es : Edits). Ok es) (sym (append_assoc prefix (e ∷ []) more))
edit_behind prefix e (Err f) = refl

edit_read : (prefix : Edits) (read : Result (Path × changes.Edit) QueryFault) (others : Result Edits QueryFault) (e : Path × changes.Edit) → read ≡ Ok e →
    behind prefix (read >>= λ first. others >>= λ more. Ok (first ∷ more)) ≡ behind (prefix ++ e ∷ []) others
edit_read prefix read others e h = rw h (edit_behind prefix e others)

edit_fails : (read : Result (Path × changes.Edit) QueryFault) (others : Result Edits QueryFault) (f : QueryFault) → read ≡ Err f →
    (read >>= λ first. others >>= λ more. Ok (first ∷ more)) ≡ Err f
edit_fails read others f h = rw h refl

first_edit : (operator : EditOperator) (name : List ℕ) (d : Datum) (ms : Fields) →
    read_edits operator (field name d ms) ≡ (read_path_edit operator name d >>= λ first. read_edits operator ms >>= λ more. Ok (first ∷ more))
first_edit operator name d ms = edit_grouped (result_map_both (λ path. path) path_fault (read_path name)) (read_edit operator d) (read_edits operator ms)

next_edits : (operator : EditOperator) (ms : List Field) (i : ℕ) (m : Field) → i < length ms → m ≡ get_or ms i m →
    read_edits operator (fields_of (drop i ms))
    ≡ (read_path_edit operator m.name (datum_of m.value) >>= λ first. read_edits operator (fields_of (drop (i + 1) ms)) >>= λ more. Ok (first ∷ more))
next_edits operator ms i m less is =
    ap (λ (x : List Field). read_edits operator (fields_of x)) (next_field ms i m less is)
    ∙ first_edit operator m.name (datum_of m.value) (fields_of (drop (i + 1) ms))

pub edits_go_on : (operator : EditOperator) (es now : List PathEdit) (e : PathEdit) (ms : List Field) (i : ℕ) (m : Field) (whole : Result Edits QueryFault) →
    i < length ms → m ≡ get_or ms i m → now ≡ es ++ e ∷ [] → read_path_edit operator m.name (datum_of m.value) ≡ Ok (path_edit_of e) →
    behind (edits_of es) (read_edits operator (fields_of (drop i ms))) ≡ whole →
    behind (edits_of now) (read_edits operator (fields_of (drop (i + 1) ms))) ≡ whole
edits_go_on operator es now e ms i m whole less is put h so_far =
    let others = read_edits operator (fields_of (drop (i + 1) ms)) in
    ap (λ (x : List PathEdit). behind (edits_of x) others) put
    ∙ ap (λ (x : Edits). behind x others) (map-append path_edit_of es (e ∷ []))
    ∙ sym (edit_read (edits_of es) (read_path_edit operator m.name (datum_of m.value)) others (path_edit_of e) h)
    ∙ ap (λ (x : Result Edits QueryFault). behind (edits_of es) x) (sym (next_edits operator ms i m less is))
    ∙ so_far

pub edits_fail : (operator : EditOperator) (ms : List Field) (i : ℕ) (m : Field) (f : QueryFault) → i < length ms → m ≡ get_or ms i m →
    read_path_edit operator m.name (datum_of m.value) ≡ Err f → read_edits operator (fields_of (drop i ms)) ≡ Err f
edits_fail operator ms i m f less is h =
    next_edits operator ms i m less is ∙ edit_fails (read_path_edit operator m.name (datum_of m.value)) (read_edits operator (fields_of (drop (i + 1) ms))) f h

-- what fails after some edits fails after all of them
pub fails_behind : (prefix first : Edits) (read whole : Result Edits QueryFault) (f : QueryFault) → behind prefix read ≡ behind first whole →
    read ≡ Err f → whole ≡ Err f
fails_behind prefix first (Ok es) whole f same h = absurd cc
fails_behind prefix first (Err e) (Ok es) f same h = absurd cc
fails_behind prefix first (Err e) (Err g) f same h = cc

-- ---- one operator

operator_grouped : (operator : Result EditOperator QueryFault) (operand : Result Fields QueryFault) (read : EditOperator → Fields → Result Edits QueryFault)
    (others : Result Edits QueryFault) →
    (operator >>= λ o. operand >>= λ ms. read o ms >>= λ first. others >>= λ more. Ok (first ++ more))
    ≡ ((operator >>= λ o. operand >>= λ ms. read o ms) >>= λ first. others >>= λ more. Ok (first ++ more))
operator_grouped (Ok o) (Ok ms) read others = refl
operator_grouped (Ok o) (Err f) read others = refl
operator_grouped (Err f) operand read others = refl

operator_behind : (prefix now first : Edits) (others : Result Edits QueryFault) → prefix ++ first ≡ now →
    behind prefix (others >>= λ more. Ok (first ++ more)) ≡ behind now others
operator_behind prefix now first (Ok more) h =
    ap (λ (es : Edits). Ok es) (sym (append_assoc prefix first more) ∙ ap (λ (es : Edits). es ++ more) h)
operator_behind prefix now first (Err f) h = refl

operator_read : (prefix now : Edits) (read others : Result Edits QueryFault) → behind prefix read ≡ Ok now →
    behind prefix (read >>= λ first. others >>= λ more. Ok (first ++ more)) ≡ behind now others
operator_read prefix now (Ok first) others h = operator_behind prefix now first others cc
operator_read prefix now (Err f) others h = absurd cc

operator_fails : (read others : Result Edits QueryFault) (f : QueryFault) → read ≡ Err f → (read >>= λ first. others >>= λ more. Ok (first ++ more)) ≡ Err f
operator_fails read others f h = rw h refl

next_operators : (ms : List Field) (i : ℕ) (m : Field) → i < length ms → m ≡ get_or ms i m →
    read_operators (fields_of (drop i ms))
    ≡ (read_operator m.name (datum_of m.value) >>= λ first. read_operators (fields_of (drop (i + 1) ms)) >>= λ more. Ok (first ++ more))
next_operators ms i m less is =
    ap (λ (x : List Field). read_operators (fields_of x)) (next_field ms i m less is)
    ∙ operator_grouped (ok_or (named edit_operators m.name) unknown_operator) (ok_or (as_document (datum_of m.value)) bad_operand) (λ o ms. read_edits o ms)
    (read_operators (fields_of (drop (i + 1) ms)))

pub operators_go_on : (es now : Edits) (ms : List Field) (i : ℕ) (m : Field) (whole : Result Edits QueryFault) → i < length ms → m ≡ get_or ms i m →
    behind es (read_operator m.name (datum_of m.value)) ≡ Ok now → behind es (read_operators (fields_of (drop i ms))) ≡ whole →
    behind now (read_operators (fields_of (drop (i + 1) ms))) ≡ whole
operators_go_on es now ms i m whole less is h so_far =
    sym (operator_read es now (read_operator m.name (datum_of m.value)) (read_operators (fields_of (drop (i + 1) ms))) h)
    ∙ ap (λ (x : Result Edits QueryFault). behind es x) (sym (next_operators ms i m less is))
    ∙ so_far

pub operators_fail : (es : Edits) (ms : List Field) (i : ℕ) (m : Field) (whole : Result Edits QueryFault) (f : QueryFault) → i < length ms → m ≡ get_or ms i m →
    behind es (read_operators (fields_of (drop i ms))) ≡ whole → read_operator m.name (datum_of m.value) ≡ Err f → whole ≡ Err f
operators_fail es ms i m whole f less is so_far h =
    sym so_far
    ∙ behind_fails es (read_operators (fields_of (drop i ms))) f
    (next_operators ms i m less is ∙ operator_fails (read_operator m.name (datum_of m.value)) (read_operators (fields_of (drop (i + 1) ms))) f h)
