-- The documents of an array, one at a time.
use Rattle.std.proofs.Common.{◌≡◌, ℕ, suc, ◌<◌, ◌+◌, List, [], ◌∷◌, ◌++◌, length, get_or, drop, refl, sym, ap, ◌∙◌, add-one, drop-cons, append_assoc, append-nil}
use Rattle.std.specs.Prelude.{Option, Some, None, filter_map, flat_map}
use Rattle.std.specs.List.{cons_option}
use Rattle.bson_values.specs.declared.value.Value.{Value}
use Rattle.bson_values.specs.View.{datum_of, items_of}
use Rattle.bson_model.specs.Tree.{Datum, array_value, Items, no_items, item, Fields, get}
use Rattle.query_model.specs.Paths.{Path, as_document, elements, values_from}

one_value : (f : Datum → List Datum) (o : Option Datum) (ds : List Datum) → flat_map f (cons_option o ds) ≡ flat_map f (cons_option o []) ++ flat_map f ds
one_value f None ds = refl
one_value f (Some d) ds = rw append-nil refl

one_document : (f : Datum → List Datum) (part : List ℕ) (o : Option Fields) (documents : List Fields) →
    flat_map f (filter_map (get part) (cons_option o documents)) ≡ flat_map f (filter_map (get part) (cons_option o [])) ++ flat_map f (filter_map (get part) documents)
one_document f part None documents = refl
one_document f part (Some ms) documents = one_value f (get part ms) (filter_map (get part) documents)

values_of_item : (part : List ℕ) (parts : Path) (d : Datum) (ds : Items) →
    values_from (part ∷ parts) (array_value (item d ds)) ≡ values_from (part ∷ parts) (array_value (item d no_items)) ++ values_from (part ∷ parts) (array_value ds)
values_of_item part parts d ds = one_document (values_from parts) part (as_document d) (filter_map as_document (elements ds))

pub pushed : (part : List ℕ) (parts : Path) (before now whole : List Datum) (vs : List Value) (i : ℕ) (v : Value) → i < length vs → v ≡ get_or vs i v →
    now ≡ before ++ values_from (part ∷ parts) (array_value (item (datum_of v) no_items)) →
    before ++ values_from (part ∷ parts) (array_value (items_of (drop i vs))) ≡ whole →
    now ++ values_from (part ∷ parts) (array_value (items_of (drop (i + 1) vs))) ≡ whole
pushed part parts before now whole vs i v less is put so_far =
    let first : drop i vs ≡ v ∷ drop (i + 1) vs = rw add-one (drop-cons vs i v less ∙ ap (λ (x : Value). x ∷ drop (suc i) vs) (sym is)) in
    ap (λ (x : List Datum). x ++ values_from (part ∷ parts) (array_value (items_of (drop (i + 1) vs)))) put
    ∙ append_assoc before (values_from (part ∷ parts) (array_value (item (datum_of v) no_items))) (values_from (part ∷ parts) (array_value (items_of (drop (i + 1) vs))))
    ∙ ap (λ (x : List Datum). before ++ x) (sym (values_of_item part parts (datum_of v) (items_of (drop (i + 1) vs))))
    ∙ ap (λ (x : List Value). before ++ values_from (part ∷ parts) (array_value (items_of x))) (sym first)
    ∙ so_far
