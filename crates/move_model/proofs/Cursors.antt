-- Which keys are up to a cursor.
use Rattle.std.proofs.Common.{◌≡◌, List, [], ◌∷◌, ◌++◌, refl, sym, ap, ◌∙◌, Ordering, Less, Equal, Greater}
use Rattle.std.specs.Prelude.{Bool, true, false}
use Rattle.std.specs.List.{AllByRecursion}
use Rattle.std.specs.Ordering.{is_le, is_lt, ordering_reverse}
use Rattle.std.proofs.lemmas.Cmp.{alike_right, tied_itself}
use Rattle.query_model.proofs.Entries.{equal_is}
use Rattle.bson_model.specs.Tree.{Datum, min_key_value}
use Rattle.value_model.specs.Keys.{Bound, min_bound, key_bound, value_of_bound, order_bounds, Range, range_span, inside, is_key}
use Rattle.value_model.specs.Order.{order, same_value}
use Rattle.value_model.proofs.Flat.{order_total}
use Rattle.bson_model.proofs.Booleans.{both}
use Rattle.move_model.specs.Sources.{is_up_to}
use Rattle.record_model.specs.Moves.{MovedDocument}
use Rattle.move_model.specs.Batches.{last_bound}

pub differ : true ≡ false → ⊥
differ e = cc

less_is : (o : Ordering) → is_lt o ≡ true → o ≡ Less
less_is Less e = refl
less_is Equal e = absurd (cc e)
less_is Greater e = absurd (cc e)

pub less_up_to : (o : Ordering) → is_lt o ≡ true → is_le o ≡ true
less_up_to Less e = refl
less_up_to Equal e = refl
less_up_to Greater e = absurd (cc e)

not_up_to_is : (o : Ordering) → is_le o ≡ false → o ≡ Greater
not_up_to_is Less e = absurd (cc e)
not_up_to_is Equal e = absurd (cc e)
not_up_to_is Greater e = refl

-- keys that compare equal are up to the same cursors
pub up_to_alike : (cursor : Bound) (a b : Datum) → same_value a b ≡ true → is_up_to cursor a ≡ is_up_to cursor b
up_to_alike cursor a b same = ap is_le (order_total.congr a b (value_of_bound cursor) (equal_is (order a b) same))

-- the values on both sides of one between them
trans_le : (a b c : Datum) → is_le (order a b) ≡ true → order b c ≡ Less → is_le (order a c) ≡ true
trans_le a b c le less = by (order a b) refl le
  where
    by : (o : Ordering) → order a b ≡ o → is_le o ≡ true → is_le (order a c) ≡ true
    by Less is e = ap is_le (order_total.trans a b c is less)
    by Equal is e = ap is_le (order_total.congr a b c is ∙ less)
    by Greater is e = absurd (cc e)

-- a cursor at a key that is past another cursor is further
pub up_to_more : (low : Bound) (k q : Datum) → is_up_to low k ≡ false → is_up_to low q ≡ true → is_up_to (key_bound k) q ≡ true
up_to_more low k q past here =
    trans_le q (value_of_bound low) k here (order_total.antisymm (value_of_bound low) k
    ∙ ap ordering_reverse (not_up_to_is (order k (value_of_bound low)) past))

pub up_to_itself : (k : Datum) → is_up_to (key_bound k) k ≡ true
up_to_itself k = ap is_le (tied_itself order_total k)

pub past_less : (k q : Datum) → order k q ≡ Less → is_up_to (key_bound k) q ≡ false
past_less k q less = ap is_le (order_total.antisymm q k ∙ ap ordering_reverse less)

-- past a further cursor is past the nearer
pub past_more : (low : Bound) (k q : Datum) → is_up_to low k ≡ false → is_up_to (key_bound k) q ≡ false → is_up_to low q ≡ false
past_more low k q past further = by (is_up_to low q) refl
  where
    by : (b : Bool) → is_up_to low q ≡ b → b ≡ false
    by true is = absurd (differ (sym (up_to_more low k q past is) ∙ further))
    by false is = refl

-- no key is up to MinKey, and all keys of a range are up to its end
pub none_up_to_least : (key : Datum) → is_key key ≡ true → is_up_to min_bound key ≡ false
none_up_to_least min_key_value key = absurd (cc key)
none_up_to_least d key = refl

pub inside_up_to_end : (range : Range) (key : Datum) → inside (range_span range) key ≡ true → is_up_to range.max key ≡ true
inside_up_to_end range key in_range =
    less_up_to (order key (value_of_bound range.max)) (both (is_le (order_bounds range.min (key_bound key))) (is_lt (order_bounds (key_bound key) range.max)) in_range).1

-- a cursor that is not before the end of a range
pub at_end_up_to : (cursor : Bound) (range : Range) (key : Datum) → is_lt (order_bounds cursor range.max) ≡ false →
    inside (range_span range) key ≡ true → is_up_to cursor key ≡ true
at_end_up_to cursor range key end in_range =
    let low = less_is (order key (value_of_bound range.max)) (both (is_le (order_bounds range.min (key_bound key))) (is_lt (order_bounds (key_bound key) range.max)) in_range).1 in
    by (order (value_of_bound cursor) (value_of_bound range.max)) refl end low
  where
    c : Datum
    c = value_of_bound cursor

    m : Datum
    m = value_of_bound range.max

    by : (o : Ordering) → order (value_of_bound cursor) (value_of_bound range.max) ≡ o → is_lt o ≡ false →
        order key (value_of_bound range.max) ≡ Less → is_le (order key (value_of_bound cursor)) ≡ true
    by Less is e low = absurd (cc e)
    by Equal is e low = ap is_le (alike_right order_total (value_of_bound cursor) (value_of_bound range.max) key is ∙ low)
    by Greater is e low =
        ap is_le (order_total.trans key (value_of_bound range.max) (value_of_bound cursor) low (order_total.antisymm (value_of_bound range.max) (value_of_bound cursor) ∙ ap ordering_reverse is))

-- members of rising keys after a cursor
abbrev pub AreAfter : Bound → List MovedDocument → Type 0
AreAfter low [] = Unit {0}
AreAfter low (m ∷ ms) = (is_up_to low m.key ≡ false) × AreAfter (key_bound m.key) ms

pub after_last : (low : Bound) (ms rest : List MovedDocument) → AreAfter low (ms ++ rest) → AreAfter (last_bound low ms) rest
after_last low [] rest after = after
after_last low (m ∷ ms) rest after = after_last (key_bound m.key) ms rest after.1

pub after_first : (low : Bound) (ms rest : List MovedDocument) → AreAfter low (ms ++ rest) → AreAfter low ms
after_first low [] rest after = tt
after_first low (m ∷ ms) rest after = (after.0, after_first (key_bound m.key) ms rest after.1)

-- all of them are past the cursor
pub after_all : (low : Bound) (ms : List MovedDocument) → AreAfter low ms → AllByRecursion (λ m. is_up_to low m.key ≡ false) ms
after_all low [] after = tt
after_all low (m ∷ ms) after = (after.0, weaken ms (after_all (key_bound m.key) ms after.1))
  where
    weaken : (rest : List MovedDocument) → AllByRecursion (λ r. is_up_to (key_bound m.key) r.key ≡ false) rest →
        AllByRecursion (λ r. is_up_to low r.key ≡ false) rest
    weaken [] all = tt
    weaken (r ∷ rest) all = (past_more low m.key r.key after.0 all.0, weaken rest all.1)

-- what is up to the cursor before them is up to the last of them
pub up_to_last : (low : Bound) (ms : List MovedDocument) (q : Datum) → AreAfter low ms → is_up_to low q ≡ true → is_up_to (last_bound low ms) q ≡ true
up_to_last low [] q after here = here
up_to_last low (m ∷ ms) q after here = up_to_last (key_bound m.key) ms q after.1 (up_to_more low m.key q after.0 here)

pub members_up_to_last : (low : Bound) (ms : List MovedDocument) → AreAfter low ms → AllByRecursion (λ m. is_up_to (last_bound low ms) m.key ≡ true) ms
members_up_to_last low [] after = tt
members_up_to_last low (m ∷ ms) after = (up_to_last (key_bound m.key) ms m.key after.1 (up_to_itself m.key), members_up_to_last (key_bound m.key) ms after.1)
