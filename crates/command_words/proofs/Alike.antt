-- Rules that agree on the values that they are applied to: for each name, its first value.
use Rattle.std.proofs.Common.{◌≡◌, ℕ, List, [], ◌∷◌, refl, ◌∙◌, ap, Bool, true, false, ◌||◌, Option, Some, if◌then◌else◌}
use Rattle.std.specs.Str.{bytes_eq}
use Rattle.std.proofs.lemmas.Slice.Eq.{bytes_eq-Decides}
use Rattle.bson_model.specs.Tree.{Datum, Fields, no_fields, field, get}
use Rattle.command_model.specs.Checks.{Verdict, first_of, is_one_of}
use Rattle.base_model.specs.Errors.{failed_to_parse}
use Rattle.command_model.specs.Fields.{Rule, by_rule, check_fields, find_rule}

-- rules of the same names, which agree on the values that these fields have
abbrev pub TellAlike : Fields → List Rule → List Rule → Type 0
TellAlike whole [] [] = Unit {0}
TellAlike whole (r ∷ rs) (s ∷ ss) = (r.name ≡ s.name) × (((value : Datum) → get r.name whole ≡ Some value → r.check value ≡ s.check value) × TellAlike whole rs ss)
TellAlike whole rs ss = ⊥

pub alike_self : (whole : Fields) (rs : List Rule) → TellAlike whole rs rs
alike_self whole [] = tt
alike_self whole (r ∷ rs) = (refl, ((λ value is. refl), alike_self whole rs))

one_checked : (given : Bool) (v w : Verdict) → (given ≡ false → v ≡ w) → (if given then Some failed_to_parse else v) ≡ (if given then Some failed_to_parse else w)
one_checked true v w same = refl
one_checked false v w same = same refl

one_alike : (b given : Bool) (unlisted : Verdict) (r s : Rule) (o p : Option Rule) (value : Datum) → (b ≡ true → given ≡ false → r.check value ≡ s.check value) →
    by_rule unlisted o given value ≡ by_rule unlisted p given value → by_rule unlisted (if b then Some r else o) given value ≡ by_rule unlisted (if b then Some s else p) given value
one_alike true given unlisted r s o p value here there = one_checked given (r.check value) (s.check value) (here refl)
one_alike false given unlisted r s o p value here there = there

found_alike : (whole : Fields) (rs ss : List Rule) (unlisted : Verdict) (name : List ℕ) (given : Bool) (value : Datum) → TellAlike whole rs ss → (given ≡ false → get name whole ≡ Some value) →
    by_rule unlisted (find_rule name rs) given value ≡ by_rule unlisted (find_rule name ss) given value
found_alike whole [] [] unlisted name given value alike is = refl
found_alike whole [] (s ∷ ss) unlisted name given value alike is = absurd alike
found_alike whole (r ∷ rs) [] unlisted name given value alike is = absurd alike
found_alike whole (r ∷ rs) (s ∷ ss) unlisted name given value alike is =
    let here = λ (named : bytes_eq r.name name ≡ true) (new : given ≡ false). alike.1.0 value (ap (λ n. get n whole) ((bytes_eq-Decides r.name name).0 named) ∙ is new) in
    let both = one_alike (bytes_eq r.name name) given unlisted r s (find_rule name rs) (find_rule name ss) value here (found_alike whole rs ss unlisted name given value alike.1.1 is) in
    both ∙ ap (λ n. by_rule unlisted (if bytes_eq n name then Some s else find_rule name ss) given value) alike.0

neither_is : (a b : Bool) → (a || b) ≡ false → (a ≡ false) × (b ≡ false)
neither_is true b e = absurd cc
neither_is false b e = (refl, e)

first_got : (name : List ℕ) (value : Datum) (ms : Fields) → get name (field name value ms) ≡ Some value
first_got name value ms = rw ((bytes_eq-Decides name name).1 refl) refl

pub later_got : (first name : List ℕ) (value : Datum) (ms : Fields) → bytes_eq first name ≡ false → get name (field first value ms) ≡ get name ms
later_got first name value ms differs = rw differs refl

-- fields whose first occurrences are in the whole
fields_alike : (whole : Fields) (rs ss : List Rule) (unlisted : Verdict) (given : List (List ℕ)) (ms : Fields) → TellAlike whole rs ss → ((name : List ℕ) → is_one_of name given ≡ false → get name whole ≡ get name ms) →
    check_fields unlisted rs given ms ≡ check_fields unlisted ss given ms
fields_alike whole rs ss unlisted given no_fields alike ahead = refl
fields_alike whole rs ss unlisted given (field name value ms) alike ahead =
    let first = found_alike whole rs ss unlisted name (is_one_of name given) value alike (λ new. ahead name new ∙ first_got name value ms) in
    let later = λ (other : List ℕ) (new : is_one_of other (name ∷ given) ≡ false).
    let apart = neither_is (bytes_eq name other) (is_one_of other given) new in
    ahead other apart.1 ∙ later_got name other value ms apart.0 in
    let others = fields_alike whole rs ss unlisted (name ∷ given) ms alike later in
    ap (λ (v : Verdict). first_of (v ∷ check_fields unlisted rs (name ∷ given) ms ∷ [])) first
    ∙ ap (λ (v : Verdict). first_of (by_rule unlisted (find_rule name ss) (is_one_of name given) value ∷ v ∷ [])) others

-- the fields after a command's own
pub behind_alike : (whole : Fields) (rs ss : List Rule) (unlisted : Verdict) (own : List ℕ) (value : Datum) (others : Fields) → TellAlike whole rs ss → whole ≡ field own value others →
    check_fields unlisted rs (own ∷ []) others ≡ check_fields unlisted ss (own ∷ []) others
behind_alike whole rs ss unlisted own value others alike is =
    fields_alike whole rs ss unlisted (own ∷ []) others alike
    (λ name new. ap (λ (ms : Fields). get name ms) is ∙ later_got own name value others (neither_is (bytes_eq own name) false new).0)
