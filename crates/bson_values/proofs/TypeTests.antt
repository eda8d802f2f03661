-- Bytes of types: which type a byte encodes, and which byte a type has.
use Rattle.std.proofs.Common.{◌≡◌, ℕ, Bool, true, false, cond, eqb, Option, Some, None, refl, sym, ap, ◌∙◌}
use Rattle.std.proofs.lemmas.Bool.{eqb-true}
use Rattle.bson_model.specs.Tree.{Datum, string_value, document_value, array_value, binary_value, object_id_value, boolean_value, date_value, null_value, int32_value, timestamp_value, int64_value, min_key_value, max_key_value}
use Rattle.bson_model.specs.Spelling.{type_byte_of}
use Rattle.bson_values.specs.declared.element_type.ElementType.{ElementType}
use Rattle.bson_values.specs.declared.element_type.ElementType.TheVariants.{Text, Doc, Array, Binary, ObjectId, Bool as Boolean, Date, Null, Int32, Timestamp, Int64, MinKey, MaxKey}
use Rattle.bson_values.specs.Types.{type_from, type_of}

abbrev pub byte_of : ElementType → ℕ
byte_of Text = 0x02
byte_of Doc = 0x03
byte_of Array = 0x04
byte_of Binary = 0x05
byte_of ObjectId = 0x07
byte_of Boolean = 0x08
byte_of Date = 0x09
byte_of Null = 0x0A
byte_of Int32 = 0x10
byte_of Timestamp = 0x11
byte_of Int64 = 0x12
byte_of MinKey = 0xFF
byte_of MaxKey = 0x7F

pub type_byte_of-type : (d : Datum) → type_byte_of d ≡ byte_of (type_of d)
type_byte_of-type (string_value s) = refl
type_byte_of-type (document_value ms) = refl
type_byte_of-type (array_value ds) = refl
type_byte_of-type (binary_value subtype content) = refl
type_byte_of-type (object_id_value content) = refl
type_byte_of-type (boolean_value b) = refl
type_byte_of-type (date_value z) = refl
type_byte_of-type null_value = refl
type_byte_of-type (int32_value z) = refl
type_byte_of-type (timestamp_value n) = refl
type_byte_of-type (int64_value z) = refl
type_byte_of-type min_key_value = refl
type_byte_of-type max_key_value = refl

pub type_from-byte : (type_byte : ElementType) → type_from (byte_of type_byte) ≡ Some type_byte
type_from-byte Text = refl
type_from-byte Doc = refl
type_from-byte Array = refl
type_from-byte Binary = refl
type_from-byte ObjectId = refl
type_from-byte Boolean = refl
type_from-byte Date = refl
type_from-byte Null = refl
type_from-byte Int32 = refl
type_from-byte Timestamp = refl
type_from-byte Int64 = refl
type_from-byte MinKey = refl
type_from-byte MaxKey = refl

-- one test of the chain
picked_by : (t : Bool) (b byte : ℕ) (this type_byte : ElementType) (others : Option ElementType) → eqb b byte ≡ t → byte ≡ byte_of this → (others ≡ Some type_byte → byte_of type_byte ≡ b) → cond t (Some this) others ≡ Some type_byte → byte_of type_byte ≡ b
picked_by true b byte this type_byte others test is_byte on e =
    let same : this ≡ type_byte = cc in
    ap (λ (k : ElementType). byte_of k) (sym same) ∙ sym is_byte ∙ sym (eqb-true _ _ test)
picked_by false b byte this type_byte others test is_byte on e = on e

picked : (b byte : ℕ) (this type_byte : ElementType) (others : Option ElementType) → byte ≡ byte_of this → (others ≡ Some type_byte → byte_of type_byte ≡ b) → cond (eqb b byte) (Some this) others ≡ Some type_byte → byte_of type_byte ≡ b
picked b byte this type_byte others is_byte on e = picked_by (eqb b byte) b byte this type_byte others refl is_byte on e

none_picked : (b : ℕ) (type_byte : ElementType) → None ≡ Some type_byte → byte_of type_byte ≡ b
none_picked b type_byte e = absurd cc

pub byte_from-type_byte : (b : ℕ) (type_byte : ElementType) → type_from b ≡ Some type_byte → byte_of type_byte ≡ b
byte_from-type_byte b type_byte =
    picked b 0x02 Text type_byte _ refl
    (picked b 0x03 Doc type_byte _ refl
    (picked b 0x04 Array type_byte _ refl
    (picked b 0x05 Binary type_byte _ refl
    (picked b 0x07 ObjectId type_byte _ refl
    (picked b 0x08 Boolean type_byte _ refl
    (picked b 0x09 Date type_byte _ refl
    (picked b 0x0A Null type_byte _ refl
    (picked b 0x10 Int32 type_byte _ refl
    (picked b 0x11 Timestamp type_byte _ refl
    (picked b 0x12 Int64 type_byte _ refl
    (picked b 0xFF MinKey type_byte _ refl
    (picked b 0x7F MaxKey type_byte _ refl (none_picked b type_byte)))))))))))))
