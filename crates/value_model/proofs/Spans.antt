-- What the laws of the order say of keys and spans.
use Rattle.std.proofs.Common.{◌≡◌, ℕ, ℤ, refl, sym, ap, ◌∙◌, Ordering, Less, Equal, Greater}
use Rattle.std.specs.Prelude.{List, [], ◌∷◌, Bool, true, false, ◌==◌, ◌&&◌, ◌||◌, if◌then◌else◌}
use Rattle.std.specs.Ordering.{ordering_then, ordering_reverse, is_le, is_lt, is_eq, int_cmp, int_eq}
use Rattle.std.specs.Cmp.{IsEquivalence, Equal-is, second_so}
use Rattle.std.proofs.lemmas.Cmp.{eq_by_cmp_equiv, alike_right}
use Rattle.bson_model.specs.Tree.{Datum, document_value, array_value, min_key_value, max_key_value, int32_value, int64_value}
use Rattle.value_model.specs.Order.{class_of, order, same_value}
use Rattle.value_model.specs.Keys.{is_key, Bound, value_of_bound, Span, range_span, point_span, min_bound, max_bound, inside, inside_some}
use Rattle.value_model.proofs.Flat.{order_total, one_class}

pub same_value_equivalence : IsEquivalence same_value
same_value_equivalence = eq_by_cmp_equiv order_total

is_equal : (a b : Datum) → same_value a b ≡ true → order a b ≡ Equal
is_equal a b e = (Equal-is (order a b)).0 e

first_equal : (c w : Ordering) → ordering_then c w ≡ Equal → c ≡ Equal
first_equal Less w e = cc
first_equal Equal w e = refl
first_equal Greater w e = cc

-- of which classes keys are
abbrev key_class : ℕ → Bool
key_class c = if c == 0 then false else if c == 4 then false else if c == 5 then false else if c == 11 then false else true

by_class : (d : Datum) → is_key d ≡ key_class (class_of d)
by_class min_key_value = refl
by_class d = refl

pub same_is_key : (a b : Datum) → same_value a b ≡ true → is_key a ≡ is_key b
same_is_key a b e =
    let class : class_of a ≡ class_of b = one_class _ _ (first_equal _ _ (is_equal a b e)) in
    by_class a ∙ ap key_class class ∙ sym (by_class b)

pub same_inside : (span : Span) (a b : Datum) → same_value a b ≡ true → inside span a ≡ inside span b
same_inside (range_span range) a b e =
    let same = is_equal a b e in
    rw (alike_right order_total a b (value_of_bound range.min) same, order_total.congr a b (value_of_bound range.max) same) refl
same_inside (point_span point) a b e = ap is_eq (alike_right order_total a b point (is_equal a b e))

pub same_inside_some : (spans : List Span) (a b : Datum) → same_value a b ≡ true → inside_some spans a ≡ inside_some spans b
same_inside_some [] a b e = refl
same_inside_some (span ∷ spans) a b e =
    ap (λ (x : Bool). x || inside_some spans a) (same_inside span a b e)
    ∙ ap (λ (x : Bool). inside span b || x) (same_inside_some spans a b e)

pub whole_inside : (key : Datum) → is_key key ≡ true → inside (range_span (record { min = min_bound; max = max_bound })) key ≡ true
whole_inside (document_value ms) e = absurd (cc e)
whole_inside (array_value ds) e = absurd (cc e)
whole_inside min_key_value e = absurd (cc e)
whole_inside max_key_value e = absurd (cc e)
whole_inside key e = refl

apart : (low high : Ordering) (last : Bool) → low ≡ ordering_reverse high → is_lt low ≡ true → (is_le high && last) ≡ false
apart low Less last turned below = cc
apart low Equal last turned below = cc
apart low Greater last turned below = refl

pub one_range : (least middle greatest : Bound) (key : Datum) → inside (range_span (record { min = least; max = middle })) key ≡ true → inside (range_span (record { min = middle; max = greatest })) key ≡ false
one_range least middle greatest key in_first =
    apart (order key (value_of_bound middle)) (order (value_of_bound middle) key) _ (order_total.antisymm key (value_of_bound middle))
    (second_so _ _ in_first)

then_Equal : (o : Ordering) → is_eq (ordering_then o Equal) ≡ is_eq o
then_Equal Less = refl
then_Equal Equal = refl
then_Equal Greater = refl

pub same_int32 : (a b : ℤ) → same_value (int32_value a) (int32_value b) ≡ int_eq a b
same_int32 a b = then_Equal (int_cmp a b)

pub same_int64 : (a b : ℤ) → same_value (int64_value a) (int64_value b) ≡ int_eq a b
same_int64 a b = then_Equal (int_cmp a b)

pub same_kinds : (a b : ℤ) → same_value (int32_value a) (int64_value b) ≡ int_eq a b
same_kinds a b = then_Equal (int_cmp a b)
