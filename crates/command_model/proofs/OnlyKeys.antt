-- The key of a document {_id: key}.
use Rattle.std.proofs.Common.{◌≡◌, ℕ, List, refl, sym, ap, ◌∙◌, Bool, true, false, Option, Some, None, if◌then◌else◌, codes}
use Rattle.std.specs.Prelude.{is_some}
use Rattle.std.specs.Str.{bytes_eq}
use Rattle.std.proofs.lemmas.Slice.Eq.{bytes_eq-Decides}
use Rattle.bson_model.specs.Tree.{Datum, document_value, Fields, no_fields, field}
use Rattle.value_model.specs.Keys.{is_key}
use Rattle.base_model.specs.Errors.{bad_value, failed_to_parse}
use Rattle.command_model.specs.AdminCommands.{key_given, key_needed, only_id, only_key}
use Rattle.command_model.specs.Checks.{Verdict}
use Rattle.command_model.specs.Statements.{document_or_none}
use Rattle.command_model.proofs.Passed.{passed_test}

-- the document is {_id: key}, and the key is one
abbrev pub IsOnlyKey : Fields → Datum → Type 0
IsOnlyKey ms key = (ms ≡ field (codes "_id") key no_fields) × (is_key key ≡ true)

by_name : (named : Bool) (name : List ℕ) (value only : Datum) → bytes_eq name (codes "_id") ≡ named → (if named then Some value else None) ≡ Some only → field name value no_fields ≡ field (codes "_id") only no_fields
by_name true name value only same e =
    let value_is : value ≡ only = cc in
    let name_is : name ≡ codes "_id" = (bytes_eq-Decides name (codes "_id")).0 same in
    ap (λ (n : List ℕ). field n value no_fields) name_is ∙ ap (λ (v : Datum). field (codes "_id") v no_fields) value_is
by_name false name value only same e = absurd cc

only_id_is : (ms : Fields) (value : Datum) → only_id ms ≡ Some value → ms ≡ field (codes "_id") value no_fields
only_id_is no_fields value e = absurd cc
only_id_is (field name first no_fields) value e = by_name (bytes_eq name (codes "_id")) name first value refl e
only_id_is (field name first (field other second ms)) value e = absurd cc

by_kind : (is : Bool) (value key : Datum) → is_key value ≡ is → (if is then Some value else None) ≡ Some key → (value ≡ key) × (is_key key ≡ true)
by_kind true value key kind e =
    let value_is : value ≡ key = cc in
    (value_is, ap is_key (sym value_is) ∙ kind)
by_kind false value key kind e = absurd cc

by_id : (ms : Fields) (o : Option Datum) (key : Datum) → only_id ms ≡ o → elim o [ None ↦ None | Some value ↦ if is_key value then Some value else None ] ≡ Some key → IsOnlyKey ms key
by_id ms None key found e = absurd cc
by_id ms (Some value) key found e =
    let same = by_kind (is_key value) value key refl e in
    (only_id_is ms value found ∙ ap (λ (v : Datum). field (codes "_id") v no_fields) same.0, same.1)

pub only_key_is : (ms : Fields) (key : Datum) → only_key ms ≡ Some key → IsOnlyKey ms key
only_key_is ms key e = by_id ms (only_id ms) key refl e

pub key_given_is : (o : Option Datum) (key : Datum) → key_given o ≡ Some key → IsOnlyKey (document_or_none o) key
key_given_is (Some (document_value ms)) key e = only_key_is ms key e
key_given_is (Some value) key e = absurd cc
key_given_is None key e = absurd cc

some_key : (o : Option Datum) → is_some o ≡ true → (key : Datum) × (o ≡ Some key)
some_key (Some key) e = (key, refl)
some_key None e = absurd cc

abbrev pub required : Option Datum → Verdict
required o = elim o [ None ↦ Some failed_to_parse | Some value ↦ None ]

-- a field that is required and passes has a key
pub key_passed : (o : Option Datum) → ((value : Datum) → o ≡ Some value → key_needed value ≡ None) → required o ≡ None → (key : Datum) × (key_given o ≡ Some key)
key_passed None passes needed = absurd cc
key_passed (Some (document_value ms)) passes needed = some_key (only_key ms) (passed_test (is_some (only_key ms)) bad_value (passes (document_value ms) refl))
key_passed (Some value) passes needed = let told = passes value refl in absurd cc
