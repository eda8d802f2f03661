-- Lists of fields and values, seen as data.
use Rattle.std.proofs.Common.{length, ◌≡◌, ◌≤◌, ℕ, get_or, List, [], ◌∷◌, ◌++◌, ap, refl, arith}
use Rattle.std.specs.List.{All}
use Rattle.std.proofs.lemmas.List.Elements.{All-cons}
use Rattle.bson_model.specs.Tree.{Datum, Items, no_items, item, Fields, no_fields, field, joined, joined_items}
use Rattle.bson_model.specs.Grammar.{HasNoZero}
use Rattle.std.specs.Str.{IsUtf8}
use Rattle.bson_values.specs.declared.value.Field.{Field}
use Rattle.bson_values.specs.declared.value.Value.{Value}
use Rattle.bson_values.specs.Sizes.{datum_size, items_count, items_size, fields_count, fields_size}
use Rattle.bson_values.specs.Sound.{IsDatum, AreItems, AreFields}
use Rattle.bson_values.specs.View.{datum_of, fields_of, items_of}

pub pushed_fields : (ms : List Field) (m : Field) → fields_of (ms ++ m ∷ []) ≡ joined (fields_of ms) (field m.name (datum_of m.value) no_fields)
pushed_fields [] m = refl
pushed_fields (first ∷ ms) m = ap (λ (rest : Fields). field first.name (datum_of first.value) rest) (pushed_fields ms m)

pub pushed_items : (vs : List Value) (v : Value) → items_of (vs ++ v ∷ []) ≡ joined_items (items_of vs) (item (datum_of v) no_items)
pushed_items [] v = refl
pushed_items (first ∷ vs) v = ap (λ (rest : Items). item (datum_of first) rest) (pushed_items vs v)

-- sound fields with one more sound field are sound
pub are_fields-joined : (ms : Fields) (name : List ℕ) (d : Datum) → AreFields ms → HasNoZero name → IsUtf8 name → IsDatum d → AreFields (joined ms (field name d no_fields))
are_fields-joined no_fields name d sound no_zero utf8 is_datum = (no_zero, utf8, is_datum, tt)
are_fields-joined (field first value ms) name d sound no_zero utf8 is_datum =
    (sound.0, sound.1, sound.2, are_fields-joined ms name d sound.3 no_zero utf8 is_datum)

pub are_items-joined : (ds : Items) (d : Datum) → AreItems ds → IsDatum d → AreItems (joined_items ds (item d no_items))
are_items-joined no_items d sound is_datum = (is_datum, tt)
are_items-joined (item first ds) d sound is_datum = (sound.0, are_items-joined ds d sound.1 is_datum)

pub fields_inside : (ms : List Field) → All (λ m. datum_size (datum_of m.value) ≤ fields_size (fields_of ms)) ms
fields_inside [] = λ k d l. absurd (omega arith)
fields_inside (m ∷ ms) =
    All-cons (λ (m' : Field). datum_size (datum_of m'.value) ≤ fields_size (fields_of (m ∷ ms))) m ms (omega arith) (λ k d l. let below : datum_size (datum_of (get_or ms k d).value) ≤ fields_size (fields_of ms) = fields_inside ms k d l in omega arith)

pub items_inside : (vs : List Value) → All (λ v. datum_size (datum_of v) ≤ items_size (items_of vs)) vs
items_inside [] = λ k d l. absurd (omega arith)
items_inside (v ∷ vs) =
    All-cons (λ (v' : Value). datum_size (datum_of v') ≤ items_size (items_of (v ∷ vs))) v vs (omega arith) (λ k d l. let below : datum_size (datum_of (get_or vs k d)) ≤ items_size (items_of vs) = items_inside vs k d l in omega arith)

pub count_fields : (ms : List Field) → fields_count (fields_of ms) ≡ length ms
count_fields [] = refl
count_fields (m ∷ ms) = omega (arith, count_fields ms)

pub count_items : (vs : List Value) → items_count (items_of vs) ≡ length vs
count_items [] = refl
count_items (v ∷ vs) = omega (arith, count_items vs)
