-- One element of a loop, and those after it.
use Rattle.std.proofs.Common.{◌≡◌, ◌⊎◌, inl, inr, ℕ, ◌<◌, ◌+◌, List, [], ◌∷◌, ◌++◌, length, get_or, drop, map, refl, sym, ap, ◌∙◌, append_assoc, arith}
use Rattle.std.specs.Prelude.{Option, Some, None, option_map, option_and_then}
use Rattle.std.proofs.lemmas.List.{map-append}
use Rattle.bson_model.specs.Tree.{Datum, Fields, no_fields, field, joined}
use Rattle.bson_model.proofs.Joined.{joined_none, joined_one}
use Rattle.field_paths.proofs.FieldLists.{next_one}
use Rattle.pipeline_model.specs.GroupSpecs as model
use Rattle.pipeline_model.specs.GroupSpecs.{GroupSpec}
use Rattle.pipeline_model.specs.Groups as groups
use Rattle.pipeline_model.specs.Groups.{PartialRow, documents_of, row_document, shown, shown_fields}
use Rattle.pipeline_model.proofs.Absorbed.{absorb_row}
use Rattle.group_accum.specs.declared.absorb.Cell.{Cell}
use Rattle.group_accum.specs.declared.spec.GroupField.{GroupField}
use Rattle.group_accum.specs.View.{cell_of, group_field_of}

one_more : {A C : Type 0} (f : A → C) (done : List A) (a : A) (rest : List C) → map f (done ++ a ∷ []) ++ rest ≡ map f done ++ f a ∷ rest
one_more {C = C} f done a rest = ap (λ (l : List C). l ++ rest) (map-append f done (a ∷ [])) ∙ append_assoc (map f done) (f a ∷ []) rest

-- the next one is appended
pub mapped_next : {A B C D : Type 0} (f : A → C) (see : B → D) (h : D → C) (done now : List A) (a : A) (xs : List B) (i : ℕ) (x : B) (whole : List C) →
    i < length xs → x ≡ get_or xs i x → now ≡ done ++ a ∷ [] → f a ≡ h (see x) → map f done ++ map h (map see (drop i xs)) ≡ whole →
    map f now ++ map h (map see (drop (i + 1) xs)) ≡ whole
mapped_next {A = A} {B = B} {C = C} f see h done now a xs i x whole less is put same so_far =
    ap (λ (l : List A). map f l ++ map h (map see (drop (i + 1) xs))) put ∙ one_more f done a (map h (map see (drop (i + 1) xs)))
    ∙ ap (λ (c : C). map f done ++ c ∷ map h (map see (drop (i + 1) xs))) same
    ∙ ap (λ (l : List B). map f done ++ map h (map see l)) (sym (next_one xs i x less is)) ∙ so_far

-- the next cell absorbs that of another row
pub absorbed_next : (done now : List Cell) (cell : Cell) (before : groups.Cell) (own more after : List groups.Cell) (xs : List GroupField)
    (i : ℕ) (x : GroupField) (whole : List groups.Cell) → i < length xs → x ≡ get_or xs i x → now ≡ done ++ cell ∷ [] →
    absorb_row (group_field_of x ∷ map group_field_of (drop (i + 1) xs)) (before ∷ own) more ≡ cell_of cell ∷ absorb_row (map group_field_of (drop (i + 1) xs)) own after →
    map cell_of done ++ absorb_row (map group_field_of (drop i xs)) (before ∷ own) more ≡ whole →
    map cell_of now ++ absorb_row (map group_field_of (drop (i + 1) xs)) own after ≡ whole
absorbed_next done now cell before own more after xs i x whole less is put step so_far =
    ap (λ (l : List Cell). map cell_of l ++ absorb_row (map group_field_of (drop (i + 1) xs)) own after) put
    ∙ one_more cell_of done cell (absorb_row (map group_field_of (drop (i + 1) xs)) own after)
    ∙ ap (λ (l : List groups.Cell). map cell_of done ++ l) (sym step)
    ∙ ap (λ (l : List GroupField). map cell_of done ++ absorb_row (map group_field_of l) (before ∷ own) more) (sym (next_one xs i x less is))
    ∙ so_far

option_both : (document : Fields) (name : List ℕ) (d : Datum) (o : Option Fields) →
    option_map (joined (joined document (field name d no_fields))) o ≡ option_map (joined document) (option_map (field name d) o)
option_both document name d None = refl
option_both document name d (Some rest) = ap (λ (ms : Fields). Some ms) (joined_one document rest name d)

-- the next cell is shown
pub shown_next : (document now : Fields) (d : Datum) (cell : groups.Cell) (cells : List groups.Cell) (xs : List GroupField) (i : ℕ) (x : GroupField)
    (whole : Option Fields) → i < length xs → x ≡ get_or xs i x → now ≡ joined document (field x.name d no_fields) → shown cell ≡ Some d →
    option_map (joined document) (shown_fields (map group_field_of (drop i xs)) (cell ∷ cells)) ≡ whole →
    option_map (joined now) (shown_fields (map group_field_of (drop (i + 1) xs)) cells) ≡ whole
shown_next document now d cell cells xs i x whole less is put e so_far =
    ap (λ (ms : Fields). option_map (joined ms) (shown_fields (map group_field_of (drop (i + 1) xs)) cells)) put
    ∙ option_both document x.name d (shown_fields (map group_field_of (drop (i + 1) xs)) cells)
    ∙ ap (λ (o : Option Datum). option_map (joined document) (option_and_then (λ v. option_map (field x.name v) (shown_fields (map group_field_of (drop (i + 1) xs)) cells)) o))
    (sym e)
    ∙ ap (λ (l : List GroupField). option_map (joined document) (shown_fields (map group_field_of l) (cell ∷ cells))) (sym (next_one xs i x less is))
    ∙ so_far

pub none_mapped : {A C : Type 0} (f : A → C) (xs : List A) → length xs ≡ 0 → map f xs ≡ []
none_mapped f [] none = refl
none_mapped f (x ∷ xs) none = absurd (omega arith)

-- no cell is left to show, or no field
shown_nothing : (fields : List model.GroupField) (cells : List groups.Cell) → (fields ≡ []) ⊎ (cells ≡ []) → shown_fields fields cells ≡ Some no_fields
shown_nothing [] cells end = refl
shown_nothing (f ∷ fields) [] end = refl
shown_nothing (f ∷ fields) (cell ∷ cells) (inl end) = absurd (cc end)
shown_nothing (f ∷ fields) (cell ∷ cells) (inr end) = absurd (cc end)

pub shown_all : (document : Fields) (fields : List model.GroupField) (cells : List groups.Cell) (whole : Option Fields) → (fields ≡ []) ⊎ (cells ≡ []) →
    option_map (joined document) (shown_fields fields cells) ≡ whole → whole ≡ Some document
shown_all document fields cells whole end so_far =
    sym so_far ∙ ap (λ (o : Option Fields). option_map (joined document) o) (shown_nothing fields cells end)
    ∙ ap (λ (ms : Fields). Some ms) (joined_none document)

-- the cells are shown one by one
pub shown_first : (document : Fields) (fields : List model.GroupField) (taken cells : List Cell) → taken ≡ cells →
    option_map (joined document) (shown_fields fields (map cell_of cells)) ≡ option_map (joined document) (shown_fields fields (map cell_of taken))
shown_first document fields taken cells is = ap (λ (l : List Cell). option_map (joined document) (shown_fields fields (map cell_of l))) (sym is)
