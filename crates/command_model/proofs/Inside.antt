-- The parts of a small document are small.
use Rattle.std.proofs.Common.{◌≡◌, ℕ, suc, ◌+◌, ◌≤◌, List, [], ◌∷◌, length, refl, Bool, true, false, Option, Some, None, if◌then◌else◌, arith, subst}
use Rattle.std.specs.List.{AllByRecursion}
use Rattle.std.specs.Str.{bytes_eq}
use Rattle.bson_model.specs.Tree.{Datum, document_value, Items, no_items, item, Fields, no_fields, field, get, value_depth, array_depth, document_depth}
use Rattle.bson_model.specs.Spelling.{written_value, written_items, written_fields}
use Rattle.opmsg_model.specs.MessageSizes.{IsSmall}
use Rattle.command_model.specs.Statements.{document_or_none}
use Rattle.command_model.specs.Writes.{documents_in}
use Rattle.bson_model.proofs.Lengths.{length-framed, length-item, length-field}

abbrev pub IsInside : Datum → Fields → Type 0
IsInside value ms = (suc (value_depth value) ≤ document_depth ms) × (length (written_value value) ≤ length (written_fields ms))

one_inside : (b : Bool) (first : List ℕ) (d value : Datum) (ms : Fields) (rest : Option Datum) → (if b then Some d else rest) ≡ Some value → (rest ≡ Some value → IsInside value ms) → IsInside value (field first d ms)
one_inside true first d value ms rest e others =
    let same : d ≡ value = cc in
    subst (λ (v : Datum). IsInside v (field first d ms)) same (omega arith, omega (arith, length-field first d ms))
one_inside false first d value ms rest e others =
    let there = others e in
    (omega (arith, there.0), omega (arith, there.1, length-field first d ms))

-- a field's value has fewer levels, and no more bytes
pub got_inside : (name : List ℕ) (ms : Fields) (value : Datum) → get name ms ≡ Some value → IsInside value ms
got_inside name no_fields value e = absurd cc
got_inside name (field first d ms) value e = one_inside (bytes_eq first name) first d value ms (get name ms) e (λ later. got_inside name ms value later)

in_prefix : (o : Option (List Fields)) (ms : Fields) (documents : List Fields) → elim o [ None ↦ None | Some more ↦ Some (ms ∷ more) ] ≡ Some documents → IsSmall ms → ((more : List Fields) → o ≡ Some more → AllByRecursion IsSmall more)
    → AllByRecursion IsSmall documents
in_prefix None ms documents e here there = absurd cc
in_prefix (Some more) ms documents e here there =
    let same : ms ∷ more ≡ documents = cc in
    subst (λ (l : List Fields). AllByRecursion IsSmall l) same (here, there more refl)

-- the documents of a small array are small
pub items_small : (i : ℕ) (ds : Items) (documents : List Fields) → array_depth ds ≤ 100 → length (written_items i ds) ≤ 240000000 → documents_in ds ≡ Some documents → AllByRecursion IsSmall documents
items_small i no_items documents low short e =
    let same : [] ≡ documents = cc in
    subst (λ (l : List Fields). AllByRecursion IsSmall l) same tt
items_small i (item (document_value ms) ds) documents low short e =
    in_prefix (documents_in ds) ms documents e
    (omega arith, omega (arith, length-item i (document_value ms) ds))
    (λ more is. items_small (i + 1) ds more (omega arith) (omega (arith, length-item i (document_value ms) ds)) is)
items_small i (item d ds) documents low short e = absurd cc

found_small : (name : List ℕ) (ms : Fields) (found : Option Datum) → get name ms ≡ found → IsSmall ms → IsSmall (document_or_none found)
found_small name ms None is small = (omega arith, omega arith)
found_small name ms (Some (document_value inner)) is small =
    let inside = got_inside name ms (document_value inner) is in
    (omega (arith, inside.0, small.0), omega (arith, inside.1, small.1, length-framed (written_fields inner), length-framed (written_fields ms)))
found_small name ms (Some value) is small = (omega arith, omega arith)

-- the document in a field of a small document is small
pub document_small : (name : List ℕ) (ms : Fields) → IsSmall ms → IsSmall (document_or_none (get name ms))
document_small name ms small = found_small name ms (get name ms) refl small
