-- The changed keys once a key was marked, or has a place.
use Rattle.std.proofs.Common.{◌≡◌, List, [], ◌∷◌, refl, sym, ap, ◌∙◌, subst, Ordering, Less, Equal, Greater}
use Rattle.std.specs.Prelude.{Bool, true, false, cond, ◌&&◌, ◌||◌, Option, Some, None, is_some, filter, map}
use Rattle.std.specs.BTreeMap.{insert_entry, is_at}
use Rattle.std.specs.List.{AllByRecursion}
use Rattle.std.specs.List.Sorted.{IsStrictlySortedBy}
use Rattle.std.specs.Map.{keys_of, lookup, set_value}
use Rattle.std.specs.Ordering.{is_eq, match_ordering}
use Rattle.query_model.proofs.Entries.{AreAbove, equal_turned}
use Rattle.bson_values.specs.Tree.{Datum}
use Rattle.value_compare.specs.Order.{order, same_value}
use Rattle.value_model.proofs.Flat.{order_total}
use Rattle.value_model.proofs.Spans.{same_value_equivalence}
use Rattle.move_model.specs.Sources.{Source, AreRising, Marks, has_key, is_handed_out}
use Rattle.migration_source.specs.Changed.{changed_among}

abbrev pub Entries : Type 0
Entries = List (Datum × Bool)

pub above_changed : (low : Datum) (es : Entries) → AreAbove order_total low es → AllByRecursion (λ k. order low k ≡ Less) (changed_among es)
above_changed low [] above = tt
above_changed low (e ∷ es) above = by e.1 (above_changed low es above.1)
  where
    by : (b : Bool) → AllByRecursion (λ k. order low k ≡ Less) (changed_among es) →
        AllByRecursion (λ k. order low k ≡ Less) (map (λ x. x.0) (cond b (e ∷ filter (λ x. x.1) es) (filter (λ x. x.1) es)))
    by true rest = (above.0, rest)
    by false rest = rest

pub changed_rising : (es : Entries) → IsStrictlySortedBy order (keys_of es) → AreRising (changed_among es)
unfolding IsStrictlySortedBy
changed_rising [] sorted = tt
changed_rising (e ∷ es) sorted = by e.1 (changed_rising es sorted.1) (above_changed e.0 es sorted.0)
  where
    by : (b : Bool) → AreRising (changed_among es) → AllByRecursion (λ k. order e.0 k ≡ Less) (changed_among es) →
        AreRising (map (λ x. x.0) (cond b (e ∷ filter (λ x. x.1) es) (filter (λ x. x.1) es)))
    by true rest above = (above, rest)
    by false rest above = rest

-- a key that is marked joins them
turned : (a b : Datum) → is_eq (order a b) ≡ same_value b a
turned a b = equal_turned order_total a b

marked_by : (key q : Datum) (e : Datum × Bool) (es : Entries) (at : Bool) → is_eq (order key e.0) ≡ at →
    has_key q (changed_among (set_value (is_at (order key)) es true))
    ≡ ((is_some (lookup (is_at (order key)) es) && same_value key q) || has_key q (changed_among es)) →
    has_key q (changed_among (cond at ((e.0, true) ∷ es) (e ∷ set_value (is_at (order key)) es true)))
    ≡ ((is_some (cond at (Some e.1) (lookup (is_at (order key)) es)) && same_value key q) || has_key q (map (λ x. x.0) (cond e.1 (e ∷ filter (λ x. x.1) es) (filter (λ x. x.1) es))))
marked_by key q e es true is rest = by e.1
  where
    alike : same_value e.0 q ≡ same_value key q
    alike = sym (same_value_equivalence.congr key e.0 q is)

    absorb : (a b : Bool) → (a || b) ≡ (a || (a || b))
    absorb true b = refl
    absorb false b = refl

    by : (b : Bool) → (same_value e.0 q || has_key q (changed_among es))
        ≡ (same_value key q || has_key q (map (λ x. x.0) (cond b (e ∷ filter (λ x. x.1) es) (filter (λ x. x.1) es))))
    by true = ap (λ (t : Bool). t || has_key q (changed_among es)) alike ∙ absorb (same_value key q) (has_key q (changed_among es))
        ∙ ap (λ (t : Bool). same_value key q || (t || has_key q (changed_among es))) (sym alike)
    by false = ap (λ (t : Bool). t || has_key q (changed_among es)) alike
marked_by key q e es false is rest = by e.1
  where
    exchange : (a x b : Bool) → (x || (a || b)) ≡ (a || (x || b))
    exchange true true b = refl
    exchange true false b = refl
    exchange false x b = refl

    by : (b : Bool) → has_key q (map (λ x. x.0) (cond b (e ∷ filter (λ x. x.1) (set_value (is_at (order key)) es true)) (filter (λ x. x.1) (set_value (is_at (order key)) es true))))
        ≡ ((is_some (lookup (is_at (order key)) es) && same_value key q) || has_key q (map (λ x. x.0) (cond b (e ∷ filter (λ x. x.1) es) (filter (λ x. x.1) es))))
    by true = ap (λ (t : Bool). same_value e.0 q || t) rest
        ∙ exchange (is_some (lookup (is_at (order key)) es) && same_value key q) (same_value e.0 q) (has_key q (changed_among es))
    by false = rest

pub marked : (key q : Datum) (es : Entries) →
    has_key q (changed_among (set_value (is_at (order key)) es true))
    ≡ ((is_some (lookup (is_at (order key)) es) && same_value key q) || has_key q (changed_among es))
marked key q [] = refl
marked key q (e ∷ es) = marked_by key q e es (is_eq (order key e.0)) refl (marked key q es)

-- a place for a new key changes nothing
pub placed : (key : Datum) (es : Entries) → lookup (is_at (order key)) es ≡ None → changed_among (insert_entry order es key false) ≡ changed_among es
placed key [] none = refl
placed key (e ∷ es) none = by (order key e.0) none (λ n. placed key es n)
  where
    kept : (b : Bool) → changed_among (insert_entry order es key false) ≡ changed_among es →
        map (λ x. x.0) (cond b (e ∷ filter (λ x. x.1) (insert_entry order es key false)) (filter (λ x. x.1) (insert_entry order es key false)))
        ≡ map (λ x. x.0) (cond b (e ∷ filter (λ x. x.1) es) (filter (λ x. x.1) es))
    kept true same = ap (λ (l : List Datum). e.0 ∷ l) same
    kept false same = same

    by : (o : Ordering) → cond (is_eq o) (Some e.1) (lookup (is_at (order key)) es) ≡ None →
        (lookup (is_at (order key)) es ≡ None → changed_among (insert_entry order es key false) ≡ changed_among es) →
        changed_among (match_ordering o ((key, false) ∷ e ∷ es) ((e.0, false) ∷ es) (e ∷ insert_entry order es key false)) ≡ changed_among (e ∷ es)
    by Less h rest = refl
    by Equal h rest = absurd (cc h)
    by Greater h rest = kept e.1 (rest h)

pub none_is : {X : Type 0} (o : Option X) → is_some o ≡ false → o ≡ None
none_is None e = refl
none_is (Some x) e = absurd (cc e)

-- a key that is marked or unmarked had a place, and others have theirs
pub places_stay : (key q : Datum) (w : Bool) (es : Entries) →
    is_some (lookup (is_at (order q)) (set_value (is_at (order key)) es w)) ≡ is_some (lookup (is_at (order q)) es)
places_stay key q w [] = refl
places_stay key q w (e ∷ es) = by (is_eq (order key e.0)) (is_eq (order q e.0)) (places_stay key q w es)
  where
    by : (at own : Bool) → is_some (lookup (is_at (order q)) (set_value (is_at (order key)) es w)) ≡ is_some (lookup (is_at (order q)) es) →
        is_some (lookup (is_at (order q)) (cond at ((e.0, w) ∷ es) (e ∷ set_value (is_at (order key)) es w)))
        ≡ is_some (lookup (is_at (order q)) (e ∷ es))
    by true own rest = same (is_eq (order q e.0))
      where
        same : (own : Bool) → is_some (cond own (Some w) (lookup (is_at (order q)) es)) ≡ is_some (cond own (Some e.1) (lookup (is_at (order q)) es))
        same true = refl
        same false = refl
    by false own rest = further (is_eq (order q e.0))
      where
        further : (own : Bool) →
            is_some (cond own (Some e.1) (lookup (is_at (order q)) (set_value (is_at (order key)) es w)))
            ≡ is_some (cond own (Some e.1) (lookup (is_at (order q)) es))
        further true = refl
        further false = rest

-- a key that was handed out is marked
pub marks_handed : (key : Datum) (s : Source) (es more : Entries) → s.changed ≡ changed_among es → more ≡ set_value (is_at (order key)) es true →
    IsStrictlySortedBy order (keys_of more) → is_some (lookup (is_at (order key)) es) ≡ true → is_handed_out s key ≡ true →
    Marks key s (record { range = s.range; number = s.number; cursor = s.cursor; changed = changed_among more; unanswered = s.unanswered })
marks_handed key s es more own is sorted place handed = record {
  range = refl;
  number = refl;
  cursor = refl;
  unanswered = refl;
  rising = changed_rising more sorted;
  changed = λ q. ap (λ (l : Entries). has_key q (changed_among l)) is ∙ marked key q es
      ∙ ap (λ (t : Bool). (t && same_value key q) || has_key q (changed_among es)) (place ∙ sym handed)
      ∙ ap (λ (l : List Datum). (is_handed_out s key && same_value key q) || has_key q l) (sym own);
}

-- another changes nothing
pub marks_nothing : (key : Datum) (s : Source) (es : Entries) → s.changed ≡ changed_among es → IsStrictlySortedBy order (keys_of es) →
    is_handed_out s key ≡ false → Marks key s s
marks_nothing key s es own sorted none = record {
  range = refl;
  number = refl;
  cursor = refl;
  unanswered = refl;
  rising = subst AreRising (sym own) (changed_rising es sorted);
  changed = λ q. sym (ap (λ (t : Bool). (t && same_value key q) || has_key q s.changed) none);
}
