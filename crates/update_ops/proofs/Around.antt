-- The fields before the first of a name, and those after it.
use Rattle.std.proofs.Common.{◌≡◌, ℕ, ◌<◌, ◌≤◌, ◌+◌, List, [], ◌∷◌, ◌++◌, length, get_or, take, drop, refl, sym, ap, ◌∙◌, add-one}
use Rattle.std.specs.Prelude.{true, false}
use Rattle.std.specs.Str.{bytes_eq}
use Rattle.std.proofs.Math.Seq.{take-suc}
use Rattle.std.proofs.lemmas.List.{drop_all, take_all}
use Rattle.bson_values.specs.declared.value.Field.{Field}
use Rattle.bson_values.specs.View.{datum_of, fields_of}
use Rattle.bson_values.proofs.Views.{pushed_fields}
use Rattle.bson_model.specs.Tree.{Datum, Fields, no_fields, field, joined}
use Rattle.bson_model.proofs.Joined.{joined_one}
use Rattle.query_model.specs.Edits.{with_field, without_field}
use Rattle.query_model.proofs.Puts.{same_bytes}
use Rattle.field_paths.proofs.FieldLists.{next_field}

joined_behind : (ms : List Field) (m : Field) (rest : Fields) → joined (fields_of (ms ++ m ∷ [])) rest ≡ joined (fields_of ms) (field m.name (datum_of m.value) rest)
joined_behind ms m rest = ap (λ (x : Fields). joined x rest) (pushed_fields ms m) ∙ joined_one (fields_of ms) rest m.name (datum_of m.value)

front_grows : (ms : List Field) (i : ℕ) (m : Field) → i < length ms → m ≡ get_or ms i m → take (i + 1) ms ≡ take i ms ++ m ∷ []
front_grows ms i m less is = rw add-one (take-suc ms i m less ∙ ap (λ (x : Field). take i ms ++ x ∷ []) (sym is))

-- a field that is passed is one of those before the name
passed : (ms : List Field) (i : ℕ) (m : Field) (rest : Fields) → i < length ms → m ≡ get_or ms i m →
    joined (fields_of (take i ms)) (field m.name (datum_of m.value) rest) ≡ joined (fields_of (take (i + 1) ms)) rest
passed ms i m rest less is = sym (joined_behind (take i ms) m rest) ∙ ap (λ (x : List Field). joined (fields_of x) rest) (sym (front_grows ms i m less is))

put_later : (name : List ℕ) (d : Datum) (m : Field) (rest : Fields) → bytes_eq m.name name ≡ false →
    with_field name d (field m.name (datum_of m.value) rest) ≡ field m.name (datum_of m.value) (with_field name d rest)
put_later name d m rest apart = rw apart refl

taken_later : (name : List ℕ) (m : Field) (rest : Fields) → bytes_eq m.name name ≡ false →
    without_field name (field m.name (datum_of m.value) rest) ≡ field m.name (datum_of m.value) (without_field name rest)
taken_later name m rest apart = rw apart refl

pub put_goes_on : (name : List ℕ) (d : Datum) (ms : List Field) (i : ℕ) (m : Field) (whole : Fields) → i < length ms → m ≡ get_or ms i m →
    bytes_eq m.name name ≡ false → whole ≡ joined (fields_of (take i ms)) (with_field name d (fields_of (drop i ms))) →
    whole ≡ joined (fields_of (take (i + 1) ms)) (with_field name d (fields_of (drop (i + 1) ms)))
put_goes_on name d ms i m whole less is apart so_far =
    let rest = fields_of (drop (i + 1) ms) in
    so_far
    ∙ ap (λ (x : List Field). joined (fields_of (take i ms)) (with_field name d (fields_of x))) (next_field ms i m less is)
    ∙ ap (λ (x : Fields). joined (fields_of (take i ms)) x) (put_later name d m rest apart)
    ∙ passed ms i m (with_field name d rest) less is

pub taken_goes_on : (name : List ℕ) (ms : List Field) (i : ℕ) (m : Field) (whole : Fields) → i < length ms → m ≡ get_or ms i m →
    bytes_eq m.name name ≡ false → whole ≡ joined (fields_of (take i ms)) (without_field name (fields_of (drop i ms))) →
    whole ≡ joined (fields_of (take (i + 1) ms)) (without_field name (fields_of (drop (i + 1) ms)))
taken_goes_on name ms i m whole less is apart so_far =
    let rest = fields_of (drop (i + 1) ms) in
    so_far
    ∙ ap (λ (x : List Field). joined (fields_of (take i ms)) (without_field name (fields_of x))) (next_field ms i m less is)
    ∙ ap (λ (x : Fields). joined (fields_of (take i ms)) x) (taken_later name m rest apart)
    ∙ passed ms i m (without_field name rest) less is

put_now : (name : List ℕ) (d : Datum) (m : Field) (rest : Fields) → bytes_eq m.name name ≡ true →
    with_field name d (field m.name (datum_of m.value) rest) ≡ field name d rest
put_now name d m rest same = rw same (ap (λ (n : List ℕ). field n d rest) (same_bytes m.name name same))

taken_now : (name : List ℕ) (m : Field) (rest : Fields) → bytes_eq m.name name ≡ true → without_field name (field m.name (datum_of m.value) rest) ≡ rest
taken_now name m rest same = rw same refl

pub put_here : (name : List ℕ) (d : Datum) (ms : List Field) (i : ℕ) (m : Field) (whole : Fields) → i < length ms → m ≡ get_or ms i m →
    bytes_eq m.name name ≡ true → whole ≡ joined (fields_of (take i ms)) (with_field name d (fields_of (drop i ms))) →
    whole ≡ joined (fields_of (take i ms)) (field name d (fields_of (drop (i + 1) ms)))
put_here name d ms i m whole less is same so_far =
    so_far
    ∙ ap (λ (x : List Field). joined (fields_of (take i ms)) (with_field name d (fields_of x))) (next_field ms i m less is)
    ∙ ap (λ (x : Fields). joined (fields_of (take i ms)) x) (put_now name d m (fields_of (drop (i + 1) ms)) same)

pub taken_here : (name : List ℕ) (ms : List Field) (i : ℕ) (m : Field) (whole : Fields) → i < length ms → m ≡ get_or ms i m →
    bytes_eq m.name name ≡ true → whole ≡ joined (fields_of (take i ms)) (without_field name (fields_of (drop i ms))) →
    whole ≡ joined (fields_of (take i ms)) (fields_of (drop (i + 1) ms))
taken_here name ms i m whole less is same so_far =
    so_far
    ∙ ap (λ (x : List Field). joined (fields_of (take i ms)) (without_field name (fields_of x))) (next_field ms i m less is)
    ∙ ap (λ (x : Fields). joined (fields_of (take i ms)) x) (taken_now name m (fields_of (drop (i + 1) ms)) same)

pub put_last : (name : List ℕ) (d : Datum) (ms : List Field) (i : ℕ) (whole : Fields) → length ms ≤ i →
    whole ≡ joined (fields_of (take i ms)) (with_field name d (fields_of (drop i ms))) → whole ≡ joined (fields_of ms) (field name d no_fields)
put_last name d ms i whole past so_far = so_far ∙ rw (take_all i ms past, drop_all i ms past) refl

pub taken_none : (name : List ℕ) (ms : List Field) (i : ℕ) (whole : Fields) → length ms ≤ i →
    whole ≡ joined (fields_of (take i ms)) (without_field name (fields_of (drop i ms))) → whole ≡ joined (fields_of ms) no_fields
taken_none name ms i whole past so_far = so_far ∙ rw (take_all i ms past, drop_all i ms past) refl

-- fields, one more, and fields after it, joined
pub put_between : (front behind first second third : Fields) (name : List ℕ) (d : Datum) → first ≡ joined no_fields front → second ≡ joined first (field name d no_fields) →
    third ≡ joined second behind → third ≡ joined front (field name d behind)
put_between front behind first second third name d a b c =
    c ∙ ap (λ (x : Fields). joined x behind) (b ∙ ap (λ (x : Fields). joined x (field name d no_fields)) a) ∙ joined_one front behind name d
