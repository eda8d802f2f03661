-- One step of the loop that copies chunks for a move.
use Rattle.std.proofs.Common.{◌≡◌, ℕ, suc, ◌^◌, ◌<◌, List, [], ◌∷◌, ◌++◌, length, get_or, drop, drop-cons, map, refl, sym, ap, ◌∙◌, subst}
use Rattle.std.specs.Prelude.{Bool, true, false, if◌then◌else◌}
use Rattle.value_model.specs.Keys.{Range}
use Rattle.chunk_model.specs.Changes.{moved_chunk, same_range}
use Rattle.std.specs.List.{AllByRecursion}
use Rattle.std.proofs.lemmas.List.{map-append}
use Rattle.std.proofs.Common.{append_assoc}
use Rattle.chunk_model.specs.Versions as versions
use Rattle.chunk_model.specs.Tables as tables
use Rattle.chunk_table.specs.declared.chunk.Chunk.{Chunk}
use Rattle.chunk_table.specs.Copies.{left_to_move}
use Rattle.chunk_table.specs.Meanings.{chunk_view}
use Rattle.chunk_table.specs.Whole.{IsWritableBound, IsWritableChunk}

pub step : (xs copies : List Chunk) (i : ℕ) (x y : Chunk) (moved : tables.Chunk
    → tables.Chunk) (a b : Bool) (donor : ℕ) (lowest : versions.Version) (whole : List tables.Chunk)
    → i < length xs → x ≡ get_or xs i x
    → map chunk_view copies ++ left_to_move a donor lowest (map moved (map chunk_view (drop i xs))) ≡ whole
    → ((rest : List tables.Chunk) → left_to_move a donor lowest (moved (chunk_view x) ∷ rest) ≡ chunk_view y ∷ left_to_move b donor lowest rest)
    → map chunk_view (copies ++ y ∷ []) ++ left_to_move b donor lowest (map moved (map chunk_view (drop (suc i) xs))) ≡ whole
step xs copies i x y moved a b donor lowest whole within is before next =
    let cut : drop i xs ≡ x ∷ drop (suc i) xs = drop-cons xs i x within ∙ ap (λ z. z ∷ drop (suc i) xs) (sym is) in
    ap (λ l. l ++ left_to_move b donor lowest (map moved (map chunk_view (drop (suc i) xs)))) (map-append chunk_view copies (y ∷ []))
    ∙ append_assoc (map chunk_view copies) (chunk_view y ∷ []) (left_to_move b donor lowest (map moved (map chunk_view (drop (suc i) xs))))
    ∙ ap (λ l. map chunk_view copies ++ l) (sym (next (map moved (map chunk_view (drop (suc i) xs)))))
    ∙ ap (λ l. map chunk_view copies ++ left_to_move a donor lowest (map moved (map chunk_view l))) (sym cut)
    ∙ before

all_push : (xs : List tables.Chunk) (y : tables.Chunk) → AllByRecursion IsWritableChunk xs → IsWritableChunk y → AllByRecursion IsWritableChunk (xs ++ y ∷ [])
all_push [] y all one = (one, tt)
all_push (x ∷ xs) y all one = (all.0, all_push xs y all.1 one)

pub push_writable : (copies : List Chunk) (y : Chunk) → AllByRecursion IsWritableChunk (map chunk_view copies) → IsWritableChunk (chunk_view y)
    → AllByRecursion IsWritableChunk (map chunk_view (copies ++ y ∷ []))
push_writable copies y all one = subst (AllByRecursion IsWritableChunk) (sym (map-append chunk_view copies (y ∷ []))) (all_push
    (map chunk_view copies) (chunk_view y) all one)

pub left_writable : (xs : List Chunk) (i : ℕ) (x : Chunk) → i < length xs → x ≡ get_or xs i x
    → AllByRecursion IsWritableChunk (map chunk_view (drop i xs))
    → IsWritableChunk (chunk_view x) × AllByRecursion IsWritableChunk (map chunk_view (drop (suc i) xs))
left_writable xs i x within is all =
    let cut : drop i xs ≡ x ∷ drop (suc i) xs = drop-cons xs i x within ∙ ap (λ z. z ∷ drop (suc i) xs) (sym is) in
    subst (λ l. AllByRecursion IsWritableChunk (map chunk_view l)) cut all

range_by : (b : Bool) (r : Range) (v : versions.Version) (o : tables.Owned) (x : tables.Chunk)
    → (if b then (record { range = x.range; version = v; owners = o ∷ x.owners }) else x).range ≡ x.range
range_by true r v o x = refl
range_by false r v o x = refl

pub moved_writable : (r : Range) (v : versions.Version) (o : tables.Owned) (x y d : tables.Chunk) → y ≡ moved_chunk r v o x → d.range ≡ y.range
    → d.owners ≡ y.owners → length y.owners < 2 ^ 32 → IsWritableChunk x → IsWritableChunk d
moved_writable r v o x y d is range owners count w =
    let same : d.range ≡ x.range = range ∙ ap (λ (c : tables.Chunk). c.range) is ∙ range_by (same_range x.range r) r v o x in
    record {
      min = subst (λ (a : Range). IsWritableBound a.min) (sym same) w.min;
      max = subst (λ (a : Range). IsWritableBound a.max) (sym same) w.max;
      count = subst (λ (l : List tables.Owned). length l < 2 ^ 32) (sym owners) count;
    }
