-- Fields by their rules: a loop over them returns the first error.
use Rattle.std.proofs.Common.{◌≡◌, ℕ, suc, ◌+◌, ◌<◌, List, [], ◌∷◌, ◌++◌, length, get_or, take, drop, refl, sym, ◌∙◌, ap, add-one, drop-cons, arith, Bool, true, false, ◌||◌, Some, None}
use Rattle.std.specs.List.{list_any}
use Rattle.std.specs.Str.{bytes_eq}
use Rattle.std.proofs.Math.Seq.{take-suc}
use Rattle.bson_model.specs.Tree.{Datum, Fields, field}
use Rattle.base_model.specs.Errors.{ErrorCode}
use Rattle.bson_values.specs.declared.value.Field.{Field}
use Rattle.bson_values.specs.View.{datum_of, fields_of}
use Rattle.command_model.specs.Checks.{Verdict, first_of, is_one_of}
use Rattle.command_model.specs.Fields.{Rule, by_rule, check_fields, find_rule}
use Rattle.command_fields.specs.FieldNames.{names_given}
use Rattle.bson_model.proofs.Booleans.{or_false}

-- the error of one field
abbrev pub field_verdict : Verdict → List Rule → List Field → Field → Verdict
field_verdict unlisted rules given m = by_rule unlisted (find_rule m.name rules) (list_any (λ n. bytes_eq n.name m.name) given) (datum_of m.value)

pub given_so_far : (name : List ℕ) (ms : List Field) (names : List (List ℕ)) → is_one_of name (names_given names ms) ≡ (list_any (λ n. bytes_eq n.name name) ms || is_one_of name names)
given_so_far name [] names = refl
given_so_far name (m ∷ ms) names = given_so_far name ms (m.name ∷ names) ∙ or_assoc (list_any (λ n. bytes_eq n.name name) ms) (bytes_eq m.name name) (is_one_of name names)
  where
    or_assoc : (x y z : Bool) → (x || (y || z)) ≡ ((y || x) || z)
    or_assoc true true z = refl
    or_assoc true false z = refl
    or_assoc false true z = refl
    or_assoc false false z = refl

pub one_more : (names : List (List ℕ)) (ms : List Field) (m : Field) → names_given names (ms ++ m ∷ []) ≡ m.name ∷ names_given names ms
one_more names [] m = refl
one_more names (n ∷ ms) m = one_more (n.name ∷ names) ms m

pub last_of : (v : Verdict) → first_of (v ∷ []) ≡ v
last_of None = refl
last_of (Some e) = refl

pub prefix_of : (ms : List Field) (i : ℕ) (m : Field) → i < length ms → m ≡ get_or ms i m → take (i + 1) ms ≡ take i ms ++ m ∷ []
prefix_of ms i m inside is = let on : i + 1 ≡ suc i = omega arith in ap (λ n. take n ms) on ∙ take-suc ms i m inside ∙ ap (λ (last : Field). take i ms ++ last ∷ []) (sym is)

pub back_of : (ms : List Field) (i : ℕ) (m : Field) → i < length ms → m ≡ get_or ms i m → drop i ms ≡ m ∷ drop (i + 1) ms
back_of ms i m inside is = rw add-one (drop-cons ms i m inside ∙ ap (λ (first : Field). first ∷ drop (suc i) ms) (sym is))

-- the error of the fields that are not checked yet, after those before them
abbrev pub rest_verdict : Verdict → List Rule → List Field → ℕ → Verdict
rest_verdict unlisted rules ms i = check_fields unlisted rules (names_given [] (take i ms)) (fields_of (drop i ms))

pub rest_cons : (unlisted : Verdict) (rules : List Rule) (ms : List Field) (i : ℕ) (m : Field) → i < length ms → m ≡ get_or ms i m → rest_verdict unlisted rules ms i ≡ first_of (field_verdict unlisted rules (take i ms) m ∷ rest_verdict unlisted rules ms (i + 1) ∷ [])
rest_cons unlisted rules ms i m inside is =
    let cut : drop i ms ≡ m ∷ drop (i + 1) ms = back_of ms i m inside is in
    let prefix : take (i + 1) ms ≡ take i ms ++ m ∷ [] = prefix_of ms i m inside is in
    let named : names_given [] (take (i + 1) ms) ≡ m.name ∷ names_given [] (take i ms) = ap (λ xs. names_given [] xs) prefix ∙ one_more [] (take i ms) m in
    let given : is_one_of m.name (names_given [] (take i ms)) ≡ list_any (λ n. bytes_eq n.name m.name) (take i ms) = given_so_far m.name (take i ms) [] ∙ or_false _ in
    rw (cut, named, given) refl

-- one more field passes
pub passes : (whole now first rest : Verdict) → now ≡ first_of (first ∷ rest ∷ []) → first ≡ None → now ≡ whole → rest ≡ whole
passes whole now first rest cons none so_far =
    let told : now ≡ first_of (rest ∷ []) = cons ∙ ap (λ v. first_of (v ∷ rest ∷ [])) none in
    sym (last_of rest) ∙ sym told ∙ so_far

-- a field has an error
pub stops : (whole now first rest : Verdict) (e : ErrorCode) → now ≡ first_of (first ∷ rest ∷ []) → first ≡ Some e → now ≡ whole → Some e ≡ whole
stops whole now first rest e cons some so_far =
    let told : now ≡ Some e = cons ∙ ap (λ v. first_of (v ∷ rest ∷ [])) some in
    sym told ∙ so_far

-- the fields after a command's own
pub behind_own : (unlisted : Verdict) (rules : List Rule) (ms : List Field) (own : List ℕ) (value : Datum) (others : Fields) → fields_of ms ≡ field own value others → rest_verdict unlisted rules ms 1 ≡ check_fields unlisted rules (own ∷ []) others
behind_own unlisted rules [] own value others e = cc
behind_own unlisted rules (m ∷ ms) own value others e =
    let name : m.name ≡ own = cc in
    let rest : fields_of ms ≡ others = cc in
    rw (name, rest) refl
