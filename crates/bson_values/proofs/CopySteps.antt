-- Appending fields to others, one at a time.
use Rattle.std.proofs.Common.{◌≡◌, ℕ, suc, ◌+◌, ◌<◌, ◌≤◌, List, ◌∷◌, length, get_or, drop, sym, ◌∙◌, ap, add-one, drop-cons}
use Rattle.std.proofs.lemmas.List.{drop_all}
use Rattle.bson_model.specs.Tree.{Datum, Items, no_items, item, joined_items, Fields, no_fields, field, joined}
use Rattle.bson_model.proofs.Joined.{joined_none, joined_one, joined_items_none, joined_items_one}
use Rattle.bson_values.specs.declared.value.Field.{Field}
use Rattle.bson_values.specs.declared.value.Value.{Value}
use Rattle.bson_values.specs.View.{datum_of, fields_of, items_of}

-- one more field is copied
pub copied_field : (all copy new : Fields) (items : List Field) (i : ℕ) (m : Field) (name : List ℕ) (d : Datum) → joined copy (fields_of (drop i items)) ≡ all → i < length items → m ≡ get_or items i m → name ≡ m.name → d ≡ datum_of m.value → new ≡ joined copy (field name d no_fields) → joined new (fields_of (drop (i + 1) items)) ≡ all
copied_field all copy new items i m name d whole inside m_is name_is d_is new_is =
    let cut : drop i items ≡ m ∷ drop (i + 1) items = rw add-one (drop-cons items i m inside ∙ ap (λ (first : Field). first ∷ drop (suc i) items) (sym m_is)) in
    let left : joined copy (field m.name (datum_of m.value) (fields_of (drop (i + 1) items))) ≡ all = rw cut at whole in
    rw (new_is, name_is, d_is) (joined_one copy (fields_of (drop (i + 1) items)) m.name (datum_of m.value) ∙ left)

-- one more value is copied
pub copied_item : (all copy new : Items) (items : List Value) (i : ℕ) (v : Value) (d : Datum) → joined_items copy (items_of (drop i items)) ≡ all → i < length items → v ≡ get_or items i v → d ≡ datum_of v → new ≡ joined_items copy (item d no_items) → joined_items new (items_of (drop (i + 1) items)) ≡ all
copied_item all copy new items i v d whole inside v_is d_is new_is =
    let cut : drop i items ≡ v ∷ drop (i + 1) items = rw add-one (drop-cons items i v inside ∙ ap (λ (first : Value). first ∷ drop (suc i) items) (sym v_is)) in
    let left : joined_items copy (item (datum_of v) (items_of (drop (i + 1) items))) ≡ all = rw cut at whole in
    rw (new_is, d_is) (joined_items_one copy (items_of (drop (i + 1) items)) (datum_of v) ∙ left)

-- all fields are copied
pub copied_fields : (all copy : Fields) (items : List Field) (i : ℕ) → joined copy (fields_of (drop i items)) ≡ all → length items ≤ i → copy ≡ all
copied_fields all copy items i whole outside =
    let left : joined copy no_fields ≡ all = rw (drop_all i items outside) at whole in
    sym (joined_none copy) ∙ left

pub copied_items : (all copy : Items) (items : List Value) (i : ℕ) → joined_items copy (items_of (drop i items)) ≡ all → length items ≤ i → copy ≡ all
copied_items all copy items i whole outside =
    let left : joined_items copy no_items ≡ all = rw (drop_all i items outside) at whole in
    sym (joined_items_none copy) ∙ left
