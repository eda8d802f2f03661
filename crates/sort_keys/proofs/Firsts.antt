-- The least part of a list, found one part at a time.
use Rattle.std.proofs.Common.{◌≡◌, ℕ, ◌<◌, ◌+◌, List, [], ◌∷◌, ◌++◌, length, get_or, drop, refl, sym, ap, ◌∙◌, Ordering, arith, ne_eqb}
use Rattle.std.specs.Prelude.{Bool, true, false, ◌==◌, Option, Some, None, map, flat_map, unwrap_or, if◌then◌else◌}
use Rattle.std.specs.Ordering.{is_lt}
use denote.Ref.{Bor}
use Rattle.bson_values.specs.Sizes.{items_count}
use Rattle.bson_model.specs.Tree.{Datum, array_value, null_value, Items, no_items, item}
use Rattle.bson_values.specs.View.{datum_of, items_of}
use Rattle.bson_values.specs.declared.value.Value.{Value}
use Rattle.field_paths.specs.References.{seen}
use Rattle.field_paths.proofs.FieldLists.{next_one}
use Rattle.query_model.specs.Paths.{elements}
use Rattle.pipeline_model.specs.SortKeys.{KeyPart, empty_array, value_part, first_from, first_part, null_if, parts_of_value}
use Rattle.sort_keys.specs.FirstPart.{best_of}

pub some_elements : (ds : Items) → false ≡ (items_count ds == 0) → parts_of_value (array_value ds) ≡ map value_part (elements ds)
some_elements no_items h = absurd cc
some_elements (item d ds) h = refl

pub no_elements : (ds : Items) → true ≡ (items_count ds == 0) → parts_of_value (array_value ds) ≡ empty_array ∷ []
no_elements no_items h = refl
no_elements (item d ds) h = absurd (cc (ne_eqb (items_count ds + 1) 0 (omega arith)))

module _ (R : KeyPart → KeyPart → Ordering) where
  pub best-append : (best : Option KeyPart) (ps qs : List KeyPart) → best_of R best (ps ++ qs) ≡ best_of R (best_of R best ps) qs
  best-append best [] qs = refl
  best-append None (p ∷ ps) qs = best-append (Some p) ps qs
  best-append (Some best) (p ∷ ps) qs = best-append (Some (if is_lt (R p best) then p else best)) ps qs

  first_from_is : (best other : KeyPart) (ps : List KeyPart) → first_from R best ps ≡ unwrap_or (best_of R (Some best) ps) other
  first_from_is best other [] = refl
  first_from_is best other (p ∷ ps) = first_from_is (if is_lt (R p best) then p else best) other ps

  pub first_part_is : (ps : List KeyPart) → first_part R ps ≡ unwrap_or (best_of R None ps) (value_part null_value)
  first_part_is [] = refl
  first_part_is (p ∷ ps) = first_from_is p (value_part null_value) ps

  -- for the values at a path, and then null where there is a gap
  pub first_found : (best gapped : Option KeyPart) (values wanted : List Datum) (gap has : Bool) → best ≡ best_of R None (flat_map parts_of_value values) →
      values ≡ wanted → gapped ≡ best_of R best (null_if gap) → gap ≡ has →
      unwrap_or gapped (value_part null_value) ≡ first_part R (flat_map parts_of_value wanted ++ null_if has)
  first_found best gapped values wanted gap has first same next is =
      ap (λ (o : Option KeyPart). unwrap_or o (value_part null_value))
      (next ∙ ap (λ (o : Option KeyPart). best_of R o (null_if gap)) first ∙ sym (best-append None (flat_map parts_of_value values) (null_if gap)))
      ∙ sym (first_part_is (flat_map parts_of_value values ++ null_if gap))
      ∙ ap (λ (x : List Datum). first_part R (flat_map parts_of_value x ++ null_if gap)) same
      ∙ ap (λ (b : Bool). first_part R (flat_map parts_of_value wanted ++ null_if b)) is

  -- one more element
  pub with_element : (best now whole : Option KeyPart) (vs : List Value) (i : ℕ) (v : Value) → i < length vs → v ≡ get_or vs i v →
      now ≡ best_of R best (value_part (datum_of v) ∷ []) →
      best_of R best (map value_part (elements (items_of (drop i vs)))) ≡ whole →
      best_of R now (map value_part (elements (items_of (drop (i + 1) vs)))) ≡ whole
  with_element best now whole vs i v less is first so_far =
      ap (λ (o : Option KeyPart). best_of R o (map value_part (elements (items_of (drop (i + 1) vs))))) first
      ∙ sym (best-append best (value_part (datum_of v) ∷ []) (map value_part (elements (items_of (drop (i + 1) vs)))))
      ∙ ap (λ (x : List Value). best_of R best (map value_part (elements (items_of x)))) (sym (next_one vs i v less is))
      ∙ so_far

  -- one more value
  pub with_one_value : (best now whole : Option KeyPart) (vs : List (Bor Value)) (i : ℕ) (v : Bor Value) → i < length vs → v ≡ get_or vs i v →
      now ≡ best_of R best (parts_of_value (datum_of v.now)) →
      best_of R best (flat_map parts_of_value (seen (drop i vs))) ≡ whole → best_of R now (flat_map parts_of_value (seen (drop (i + 1) vs))) ≡ whole
  with_one_value best now whole vs i v less is first so_far =
      ap (λ (o : Option KeyPart). best_of R o (flat_map parts_of_value (seen (drop (i + 1) vs)))) first
      ∙ sym (best-append best (parts_of_value (datum_of v.now)) (flat_map parts_of_value (seen (drop (i + 1) vs))))
      ∙ ap (λ (x : List (Bor Value)). best_of R best (flat_map parts_of_value (seen x))) (sym (next_one vs i v less is))
      ∙ so_far
