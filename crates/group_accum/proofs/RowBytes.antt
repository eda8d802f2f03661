-- Bytes of rows, summed part by part.
use Rattle.std.proofs.Common.{◌≡◌, ℕ, ◌<◌, ◌+◌, ◌-◌, ◌^◌, List, ◌∷◌, length, get_or, drop, map, ap, ◌∙◌, arith}
use Rattle.std.specs.Prelude.{codes, min, sum_by}
use Rattle.std.proofs.lemmas.List.Sums.{sum_by-cons}
use Rattle.std.specs.declared.vec.Vec.{Vec}
use Rattle.bson_model.specs.Spelling.{written_fields, written_value}
use Rattle.bson_model.specs.Tree.{Datum, no_fields, field}
use Rattle.bson_model.proofs.Lengths.{length-field, length-framed}
use Rattle.field_paths.proofs.FieldLists.{next_one}
use Rattle.pipeline_model.specs.Lengths.{document_length, row_length}
use Rattle.group_accum.specs.declared.absorb.Cell.{Cell}
use Rattle.group_accum.specs.Rows.{row_of, rows_of}
use Rattle.group_accum.specs.Sizes.{capped}

-- the next number is added
pub sum_next : {A B : Type 0} (f : B → ℕ) (see : A → B) (xs : List A) (i : ℕ) (x : A) (total now size whole : ℕ) → i < length xs → x ≡ get_or xs i x →
    size ≡ capped (f (see x)) → now ≡ min (total + size) (2 ^ 64 - 1) → capped (total + sum_by f (map see (drop i xs))) ≡ whole →
    capped (now + sum_by f (map see (drop (i + 1) xs))) ≡ whole
sum_next {A = A} f see xs i x total now size whole less is one add so_far =
    let e : sum_by f (map see (drop i xs)) ≡ f (see x) + sum_by f (map see (drop (i + 1) xs)) =
    ap (λ (l : List A). sum_by f (map see l)) (next_one xs i x less is) ∙ sum_by-cons f (see x) (map see (drop (i + 1) xs)) in
    omega (arith, e, one, add, so_far)

-- the next row is added
pub row_next : {Z : Type 0} (entries rest : List (Datum × Vec Cell Z)) (e : Datum × Vec Cell Z) (total now size whole : ℕ) → entries ≡ e ∷ rest →
    size ≡ capped (row_length (row_of e)) → now ≡ min (total + size) (2 ^ 64 - 1) → capped (total + sum_by row_length (rows_of entries)) ≡ whole →
    capped (now + sum_by row_length (rows_of rest)) ≡ whole
row_next {Z = Z} entries rest e total now size whole is one add so_far =
    let sum : sum_by row_length (rows_of entries) ≡ row_length (row_of e) + sum_by row_length (rows_of rest) =
    ap (λ (l : List (Datum × Vec Cell Z)). sum_by row_length (rows_of l)) is ∙ sum_by-cons row_length (row_of e) (rows_of rest) in
    omega (arith, sum, one, add, so_far)

one_field : (name : List ℕ) (d : Datum) → document_length (field name d no_fields) ≡ length name + length (written_value d) + 7
one_field name d = omega (arith, length-framed (written_fields (field name d no_fields)), length-field name d no_fields)

pub key_bytes : (d : Datum) → document_length (field (codes "_id") d no_fields) ≡ length (written_value d) + 10
key_bytes d = one_field (codes "_id") d ∙ omega arith

pub extreme_bytes : (d : Datum) → document_length (field (codes "v") d no_fields) ≡ length (written_value d) + 8
extreme_bytes d = one_field (codes "v") d ∙ omega arith
