-- How long encodings are, and what follows each of their parts.
use Rattle.std.proofs.Common.{◌≡◌, ℕ, ◌+◌, List, [], ◌∷◌, ◌++◌, length, ap, ◌∙◌, append_assoc, arith, length-append}
use Rattle.std.specs.Fmt.{decimal}
use Rattle.std.specs.Int.{w32, to_le_bytes}
use Rattle.bson_model.specs.Tree.{Datum, Items, item, Fields, field}
use Rattle.bson_model.specs.Spelling.{string, framed, type_byte_of, element, written_value, written_items, written_fields}

pub length-string : (s : List ℕ) → length (string s) ≡ length s + 5
length-string s = omega (arith, length-append s (0 ∷ []))

pub length-framed : (body : List ℕ) → length (framed body) ≡ length body + 5
length-framed body = omega (arith, length-append body (0 ∷ []))

pub length-element : (type_byte : ℕ) (name value : List ℕ) → length (element type_byte name value) ≡ length name + length value + 2
length-element type_byte name value = omega (arith, length-append name (0 ∷ value))

pub length-field : (name : List ℕ) (d : Datum) (ms : Fields)
    → length (written_fields (field name d ms)) ≡ length name + length (written_value d) + 2 + length (written_fields ms)
length-field name d ms =
    omega (arith, length-element (type_byte_of d) name (written_value d), length-append (element (type_byte_of d) name (written_value d)) (written_fields ms))

pub length-item : (i : ℕ) (d : Datum) (ds : Items)
    → length (written_items i (item d ds)) ≡ length (decimal i) + length (written_value d) + 2 + length (written_items (i + 1) ds)
length-item i d ds =
    omega (
      arith,
      length-element (type_byte_of d) (decimal i) (written_value d),
      length-append (element (type_byte_of d) (decimal i) (written_value d))
          (written_items (i + 1) ds),
    )

pub string-append : (s rest : List ℕ) → string s ++ rest ≡ to_le_bytes w32 (length s + 1) ++ (s ++ 0 ∷ rest)
string-append s rest = append_assoc (to_le_bytes w32 (length s + 1)) (s ++ 0 ∷ []) rest
    ∙ ap (λ (t : List ℕ). to_le_bytes w32 (length s + 1) ++ t) (append_assoc s (0 ∷ []) rest)

pub framed-append : (body rest : List ℕ) → framed body ++ rest ≡ to_le_bytes w32 (length body + 5) ++ (body ++ 0 ∷ rest)
framed-append body rest = append_assoc (to_le_bytes w32 (length body + 5)) (body ++ 0 ∷ []) rest
    ∙ ap (λ (s : List ℕ). to_le_bytes w32 (length body + 5) ++ s) (append_assoc body (0 ∷ []) rest)

pub element-append : (type_byte : ℕ) (name value rest : List ℕ) → element type_byte name value ++ rest ≡ type_byte ∷ (name ++ 0 ∷ (value ++ rest))
element-append type_byte name value rest = ap (λ (s : List ℕ). type_byte ∷ s) (append_assoc name (0 ∷ value) rest)
