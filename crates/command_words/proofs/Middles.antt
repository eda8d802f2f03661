-- The results of the rules of a split for its middle.
use Rattle.std.proofs.Common.{◌≡◌, ℕ, List, [], ◌∷◌, refl, sym, ap, ◌∙◌, subst, false, Option, Some, None, codes}
use Rattle.std.specs.Prelude.{Result, Ok, Err}
use Rattle.std.specs.Option.{unwrap_or}
use Rattle.std.specs.Str.{bytes_eq}
use Rattle.bson_model.specs.Tree.{Datum, null_value, Fields, field, get}
use Rattle.base_model.specs.Errors.{failed_to_parse}
use Rattle.command_model.specs.AdminCommands.{key_given}
use Rattle.command_model.specs.Checks.{Verdict}
use Rattle.command_model.specs.Fields.{check_fields, check_required}
use Rattle.command_model.specs.Command.{split_command}
use Rattle.command_model.specs.Forms.{string_or}
use Rattle.command_model.specs.Split.{split_rules}
use Rattle.command_model.proofs.OnlyKeys.{key_passed}
use Rattle.command_model.proofs.Passed.{field_passed}
use Rattle.command_fields.specs.Verdicts.{ReadsBy}
use Rattle.command_fields.specs.declared.fault.CheckFault.{CheckFault}
use Rattle.command_fields.specs.declared.fault.CheckFault.TheVariants.{Refused, Memory}
use Rattle.command_words.specs.Middles.{MiddlePasses}
use Rattle.command_words.proofs.Alike.{later_got}

-- where the fields of a split pass, its middle does
middle_passed : (own : List ℕ) (value : Datum) (others document : Fields) → own ≡ codes "split" → document ≡ field own value others →
    check_fields (Some failed_to_parse) split_rules (own ∷ []) others ≡ None → MiddlePasses document
middle_passed own value others document named is passed = λ middle got.
    let apart : bytes_eq own (codes "middle") ≡ false = ap (λ (n : List ℕ). bytes_eq n (codes "middle")) named in
    let behind : get (codes "middle") document ≡ get (codes "middle") others = ap (λ (ms : Fields). get (codes "middle") ms) is ∙ later_got own (codes "middle") value others apart in
    field_passed split_rules (own ∷ []) others (codes "middle") middle passed (sym behind ∙ got)

read_so : (own : List ℕ) (value : Datum) (others document : Fields) (read : Result (Unit {0}) CheckFault) → own ≡ codes "split" → document ≡ field own value others →
    ReadsBy (λ passed. Unit {0}) read (check_fields (Some failed_to_parse) split_rules (own ∷ []) others) →
    ReadsBy (λ passed. MiddlePasses document) read (check_fields (Some failed_to_parse) split_rules (own ∷ []) others)
read_so own value others document (Ok passed) named is told = (told.0, middle_passed own value others document named is told.0)
read_so own value others document (Err (Refused code)) named is told = told
read_so own value others document (Err Memory) named is told = tt

-- what is read from the fields of a split has a middle that passes
pub middle_read : (own : List ℕ) (value : Datum) (others document : Fields) (read : Result (Unit {0}) CheckFault) (verdict : Verdict) → own ≡ codes "split" → document ≡ field own value others →
    verdict ≡ check_fields (Some failed_to_parse) split_rules (own ∷ []) others → ReadsBy (λ passed. Unit {0}) read verdict →
    ReadsBy (λ passed. MiddlePasses document) read (check_fields (Some failed_to_parse) split_rules (own ∷ []) others)
middle_read own value others document read verdict named is told passed =
    read_so own value others document read named is (subst (λ (v : Verdict). ReadsBy (λ (u : Unit {0}). Unit {0}) read v) told passed)

-- so there is a key where a middle is required
pub middle_there : (document : Fields) → MiddlePasses document → check_required (codes "middle") document ≡ None → (key : Datum) × (key_given (get (codes "middle") document) ≡ Some key)
middle_there document passes needed = key_passed (get (codes "middle") document) passes needed

-- the command of what was read
pub split_told : (namespace : List ℕ) (value : Datum) (found : Option Datum) (middle : Datum) → namespace ≡ string_or [] (Some value) → Some middle ≡ found →
    split_command (record { namespace = string_or [] (Some value); middle = unwrap_or found null_value }) ≡ split_command (record { namespace = namespace; middle = middle })
split_told namespace value found middle read is = rw (← read, ← is) refl
