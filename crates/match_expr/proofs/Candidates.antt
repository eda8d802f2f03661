-- A candidate is a value, or an element of one.
use Rattle.std.proofs.Common.{◌≡◌, List, [], ◌∷◌, ◌++◌, length, refl, sym, ap, ◌∙◌, ℕ, ◌+◌, arith}
use Rattle.std.specs.Prelude.{Bool, true, false, ◌||◌, nat_lt, flat_map}
use Rattle.std.specs.List.{list_any}
use Rattle.std.proofs.lemmas.List.Folds.{list_any-append}
use Rattle.std.proofs.lemmas.Bool.Decides.{nat_tests}
use Rattle.bson_values.specs.Sizes.{items_count}
use Rattle.bson_values.specs.Tree.{Datum, Items, no_items, item, Fields}
use Rattle.query_model.specs.Holds.{Found}
use Rattle.query_model.specs.Paths.{Path, elements, elements_of, values_at, candidates_at}
use Rattle.match_expr.specs.declared.tests.Place.{Place}
use Rattle.match_expr.specs.declared.tests.Place.TheVariants.{At, Alone}
use Rattle.match_expr.specs.Looks.{found_of, with_elements}

grouped : (a b c : Bool) → (a || (b || c)) ≡ ((a || b) || c)
grouped true b c = refl
grouped false b c = refl

pub among : (test : Datum → Bool) (ds : List Datum) → list_any (with_elements test) ds ≡ list_any test (flat_map (λ d. d ∷ elements_of d) ds)
among test [] = refl
among test (d ∷ ds) =
    sym (grouped (test d) (list_any test (elements_of d)) (list_any (with_elements test) ds))
    ∙ ap (λ (b : Bool). test d || (list_any test (elements_of d) || b)) (among test ds)
    ∙ ap (λ (b : Bool). test d || b) (sym (list_any-append test (elements_of d) (flat_map (λ e. e ∷ elements_of e) ds)))

pub any_is_there : (ds : List Datum) → list_any (λ d. true) ds ≡ nat_lt 0 (length ds)
any_is_there [] = refl
any_is_there (d ∷ ds) = grind (arith, nat_tests)

pub count_elements : (ds : Items) → items_count ds ≡ length (elements ds)
count_elements no_items = refl
count_elements (item d ds) = omega (arith, count_elements ds)

pub at_path : (test : Datum → Bool) (path : Path) (document : Fields) →
    list_any (with_elements test) (values_at path document) ≡ list_any test (candidates_at path document)
at_path test path document = among test (values_at path document)
