-- The results of the rules of writes for the session that they name.
use Rattle.std.proofs.Common.{◌≡◌, ℕ, List, [], ◌∷◌, refl, sym, ◌∙◌, ap, subst, false, Some, None, codes}
use Rattle.std.specs.Prelude.{Result, Ok, Err}
use Rattle.std.specs.Str.{bytes_eq}
use Rattle.bson_model.specs.Tree.{Datum, Fields, field, get}
use Rattle.command_replies.specs.Kinds.{kind_view}
use Rattle.command_replies.specs.declared.answer.WriteKind.{WriteKind}
use Rattle.command_replies.specs.declared.answer.WriteKind.TheVariants.{Insert, Update, Delete}
use Rattle.command_model.specs.Checks.{Verdict}
use Rattle.base_model.specs.Errors.{failed_to_parse}
use Rattle.command_model.specs.Fields.{check_fields, check_session, document_needed}
use Rattle.command_model.specs.Writes.{statement_form, write_rules}
use Rattle.command_model.proofs.Passed.{field_passed}
use Rattle.command_fields.specs.Sessions.{HasSession}
use Rattle.command_fields.specs.Verdicts.{ReadsBy}
use Rattle.command_fields.specs.declared.fault.CheckFault.{CheckFault}
use Rattle.command_fields.specs.declared.fault.CheckFault.TheVariants.{Refused, Memory}
use Rattle.command_words.specs.WriteNames.{name_view}
use Rattle.command_words.proofs.Alike.{later_got}

no_session : (kind : WriteKind) → bytes_eq (name_view kind) (codes "lsid") ≡ false
no_session Insert = refl
no_session Update = refl
no_session Delete = refl

lsid_passed : (kind : WriteKind) (own : List ℕ) (others : Fields) (value : Datum) → check_fields (Some failed_to_parse) (write_rules (statement_form (kind_view kind))) (own ∷ []) others ≡ None →
    get (codes "lsid") others ≡ Some value → document_needed check_session value ≡ None
lsid_passed Insert own others value passed got = field_passed (write_rules (statement_form (kind_view Insert))) (own ∷ []) others (codes "lsid") value passed got
lsid_passed Update own others value passed got = field_passed (write_rules (statement_form (kind_view Update))) (own ∷ []) others (codes "lsid") value passed got
lsid_passed Delete own others value passed got = field_passed (write_rules (statement_form (kind_view Delete))) (own ∷ []) others (codes "lsid") value passed got

-- where the fields of a write pass, a session that they name does
pub session_passed : (kind : WriteKind) (own : List ℕ) (value : Datum) (others document : Fields) → own ≡ name_view kind → document ≡ field own value others →
    check_fields (Some failed_to_parse) (write_rules (statement_form (kind_view kind))) (own ∷ []) others ≡ None → HasSession document
session_passed kind own value others document named is passed = λ session got.
    let apart : bytes_eq own (codes "lsid") ≡ false = ap (λ (n : List ℕ). bytes_eq n (codes "lsid")) named ∙ no_session kind in
    let behind : get (codes "lsid") document ≡ get (codes "lsid") others = ap (λ (ms : Fields). get (codes "lsid") ms) is ∙ later_got own (codes "lsid") value others apart in
    lsid_passed kind own others session passed (sym behind ∙ got)

read_so : (kind : WriteKind) (own : List ℕ) (value : Datum) (others document : Fields) (read : Result (Unit {0}) CheckFault) → own ≡ name_view kind → document ≡ field own value others →
    ReadsBy (λ passed. Unit {0}) read (check_fields (Some failed_to_parse) (write_rules (statement_form (kind_view kind))) (own ∷ []) others) →
    ReadsBy (λ passed. HasSession document) read (check_fields (Some failed_to_parse) (write_rules (statement_form (kind_view kind))) (own ∷ []) others)
read_so kind own value others document (Ok passed) named is told = (told.0, session_passed kind own value others document named is told.0)
read_so kind own value others document (Err (Refused code)) named is told = told
read_so kind own value others document (Err Memory) named is told = tt

-- what is read from the fields of a write has its session
pub session_read : (kind : WriteKind) (own : List ℕ) (value : Datum) (others document : Fields) (read : Result (Unit {0}) CheckFault) (verdict : Verdict) → own ≡ name_view kind → document ≡ field own value others →
    verdict ≡ check_fields (Some failed_to_parse) (write_rules (statement_form (kind_view kind))) (own ∷ []) others → ReadsBy (λ passed. Unit {0}) read verdict →
    ReadsBy (λ passed. HasSession document) read (check_fields (Some failed_to_parse) (write_rules (statement_form (kind_view kind))) (own ∷ []) others)
session_read kind own value others document read verdict named is told passed =
    read_so kind own value others document read named is (subst (λ (v : Verdict). ReadsBy (λ (u : Unit {0}). Unit {0}) read v) told passed)
