-- How deeply documents and arrays are nested, and how one more field changes the depth and the length of the encoding.
use Rattle.std.proofs.Common.{◌≡◌, ◌≤◌, ℕ, suc, ◌+◌, max, List, length, arith, length-append}
use Rattle.bson_model.specs.Tree.{Datum, value_depth, array_depth, document_depth, Items, no_items, item, Fields, no_fields, field, joined}
use Rattle.bson_model.specs.Spelling.{type_byte_of, element, written_value, written_fields}
use Rattle.bson_model.proofs.Lengths.{length-element}

pub document_depth_pushed : (ms : Fields) (name : List ℕ) (d : Datum) → document_depth (joined ms (field name d no_fields)) ≡ max (document_depth ms) (suc (value_depth d))
document_depth_pushed no_fields name d = omega arith
document_depth_pushed (field first value ms) name d = omega (arith, document_depth_pushed ms name d)

pub written_pushed : (ms : Fields) (name : List ℕ) (d : Datum) → length (written_fields (joined ms (field name d no_fields))) ≡ length (written_fields ms) + length name + length (written_value d) + 2
written_pushed no_fields name d =
    omega (arith, length-element (type_byte_of d) name (written_value d), length-append (element (type_byte_of d) name (written_value d)) (written_fields no_fields))
written_pushed (field first value ms) name d =
    omega (arith, written_pushed ms name d, length-append (element (type_byte_of value) first (written_value value)) (written_fields ms), length-append (element (type_byte_of value) first (written_value value)) (written_fields (joined ms (field name d no_fields))))

-- a document and an array count as a level themselves
pub document_depth_some : (ms : Fields) → 1 ≤ document_depth ms
document_depth_some no_fields = omega arith
document_depth_some (field name d ms) = omega (arith, document_depth_some ms)

pub array_depth_some : (ds : Items) → 1 ≤ array_depth ds
array_depth_some no_items = omega arith
array_depth_some (item d ds) = omega (arith, array_depth_some ds)
