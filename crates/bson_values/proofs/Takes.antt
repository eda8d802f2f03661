-- The bytes encode what is read from them.
use Rattle.std.proofs.Common.{◌≡◌, ℕ, zero, suc, ◌+◌, ◌-◌, ◌^◌, ◌<◌, ◌≤◌, true, false, cond, ltb, eqb, List, [], ◌∷◌, ◌++◌, length, take, drop, Option, Some, None, Result, Ok, Err, refl, sym, ap, subst, ◌∙◌, append_assoc, arith, inl, inr}
use Rattle.std.specs.Prelude.{FitsSigned}
use Rattle.std.specs.Int.{w32, w64, from_le_bytes, to_le_bytes, cast_signed, cast_unsigned}
use Rattle.std.specs.Str.{IsUtf8}
use Rattle.std.proofs.lemmas.Bool.{ltb-false, eqb-true}
use Rattle.std.proofs.lemmas.Bool.Decides.{nat_tests}
use Rattle.std.proofs.lemmas.List.{take-append-drop, take_at, length-append, length-take}
use Rattle.std.proofs.lemmas.Nat.{le_bytes_4, le_bytes_8}
use Rattle.std.proofs.lemmas.Int.{of_z-to_z}
use Rattle.std.proofs.Math.Facts.{Fits-of_lt, sfits_to_z}
use Rattle.bson_model.specs.Tree.{Datum, string_value, document_value, array_value, binary_value, object_id_value, boolean_value, date_value, null_value, int32_value, timestamp_value, int64_value, min_key_value, max_key_value, Items, no_items, item, Fields, no_fields, field, value_depth, array_depth, document_depth}
use Rattle.bson_model.specs.Spelling.{type_byte_of, string, framed, element}
use Rattle.bson_model.specs.Grammar.{AreBytes, HasNoZero, ReadsValue, ReadsItems, ReadsFields}
use Rattle.bson_model.specs.Limits.{length_limit}
use Rattle.bson_model.proofs.Lengths.{length-element, element-append, length-framed, framed-append}
use Rattle.bson_values.specs.declared.fault.BsonFault.{BsonFault}
use Rattle.bson_values.specs.declared.fault.BsonFault.TheVariants.{Short, Trailing}
use Rattle.bson_values.specs.declared.element_type.ElementType.{ElementType}
use Rattle.bson_values.specs.declared.element_type.ElementType.TheVariants as types
use Rattle.bson_values.specs.ReadFaults.{◌>>=◌}
use Rattle.bson_values.specs.Types.{type_from, type_of}
use Rattle.bson_values.specs.Readers.{Reader, length_at, fixed_at, string_at, content_at, binary_at, boolean_at, deep_at, scalar_at, index_at, name_at, checked_type, type_at, field_behind, field_at, item_behind, item_at, fields_behind, fields_with, items_behind, items_with, document_with, array_with, value_at}
use Rattle.bson_values.proofs.TypeTests.{byte_of, type_byte_of-type, byte_from-type_byte}
use Rattle.bson_values.proofs.Leaves.{AreBytes-take, AreBytes-rest, length_takes, fixed_takes, string_takes, PassesName, index_takes, named_takes}
use Rattle.bson_values.proofs.Steps.{bind_ok, guard_ok, guard_true, chosen, done, ok_is}

-- what a reader of values took from the front of the bytes
pub record Takes (n : ℕ) (type_byte : ElementType) (room : ℕ) (bytes : List ℕ) (x : Datum × List ℕ) : Type 0 where
  pub spelled : List ℕ
  pub parts : bytes ≡ spelled ++ x.1
  pub reads : ReadsValue spelled x.0
  pub of_type : type_of x.0 ≡ type_byte
  pub fits : length spelled ≤ room
  pub low : value_depth x.0 ≤ n

-- ---- numbers

AreBytes-prefix : (bytes prefix rest : List ℕ) → bytes ≡ prefix ++ rest → AreBytes bytes → AreBytes prefix
AreBytes-prefix bytes prefix rest e h = subst (λ (f : List ℕ). AreBytes f) (ap (λ (s : List ℕ). take (length prefix) s) e ∙ take_at prefix rest (length prefix) refl) (AreBytes-take (length prefix) bytes h)

below_32 : (prefix : List ℕ) → AreBytes prefix → from_le_bytes w32 prefix < 2 ^ 32
below_32 prefix h = omega (arith, h 0, h 1, h 2, h 3)

below_64 : (prefix : List ℕ) → AreBytes prefix → from_le_bytes w64 prefix < 2 ^ 64
below_64 prefix h = omega (arith, h 0, h 1, h 2, h 3, h 4, h 5, h 6, h 7)

signed_32 : (prefix : List ℕ) → length prefix ≡ 4 → AreBytes prefix → let z = cast_signed w32 (from_le_bytes w32 prefix) in (prefix ≡ to_le_bytes w32 (cast_unsigned w32 z)) × FitsSigned w32 z
signed_32 prefix len h =
    let lt = below_32 prefix h in
    (sym (ap (λ (n : ℕ). to_le_bytes w32 n) (of_z-to_z w32 (from_le_bytes w32 prefix) lt) ∙ le_bytes_4 prefix _ len h refl), sfits_to_z (Fits-of_lt lt))

signed_64 : (prefix : List ℕ) → length prefix ≡ 8 → AreBytes prefix → let z = cast_signed w64 (from_le_bytes w64 prefix) in (prefix ≡ to_le_bytes w64 (cast_unsigned w64 z)) × FitsSigned w64 z
signed_64 prefix len h =
    let lt = below_64 prefix h in
    (sym (ap (λ (n : ℕ). to_le_bytes w64 n) (of_z-to_z w64 (from_le_bytes w64 prefix) lt) ∙ le_bytes_8 prefix _ len h refl), sfits_to_z (Fits-of_lt lt))

-- a value of a fixed number of bytes
fixed : (total n count room : ℕ) (type_byte : ElementType) (bytes : List ℕ) (x : Datum × List ℕ) (made : List ℕ → Datum) → AreBytes bytes
    → ((prefix : List ℕ) → AreBytes prefix → length prefix ≡ count → ReadsValue prefix (made prefix) × (type_of (made prefix) ≡ type_byte) × (value_depth (made prefix) ≤ n))
    → (fixed_at total count room bytes >>= λ y. Ok (made y.0, y.1)) ≡ Ok x → Takes n type_byte room bytes x
fixed total n count room type_byte bytes x made h is e =
    let a = bind_ok (fixed_at total count room bytes) (λ y. Ok (made y.0, y.1)) x e in
    let t = fixed_takes total count room bytes a.0 a.1 in
    let facts = is a.0.0 (AreBytes-prefix bytes a.0.0 a.0.1 t.parts h) t.len in
    let all : Datum × List ℕ = (made a.0.0, a.0.1) in
    subst (λ (y : Datum × List ℕ). Takes n type_byte room bytes y) (ok_is all x a.2)
    (record { spelled = a.0.0; parts = t.parts; reads = facts.0; of_type = facts.1; fits = omega (arith, t.len, t.fits); low = facts.2 })

-- a value without bytes
empty : (n room : ℕ) (bytes : List ℕ) (d : Datum) (x : Datum × List ℕ) → ReadsValue [] d → value_depth d ≤ n → done (d, bytes) ≡ done x → Takes n (type_of d) room bytes x
empty n room bytes d x reads low e =
    let all : Datum × List ℕ = (d, bytes) in
    subst (λ (y : Datum × List ℕ). Takes n (type_of d) room bytes y) (ok_is all x e)
    (record { spelled = []; parts = refl; reads = reads; of_type = refl; fits = omega arith; low = low })

content_takes : (total n room count : ℕ) (bytes rest : List ℕ) (x : Datum × List ℕ) → bytes ≡ to_le_bytes w32 count ++ rest → count < length_limit → count + 5 ≤ room → content_at total count rest ≡ Ok x
    → Takes n types.Binary room bytes x
unfolding content_at
content_takes total n room count bytes [] x parts high fits e = absurd cc
content_takes total n room count bytes (subtype ∷ rest) x parts high fits e =
    let g = guard_ok (ltb (length rest) count) (Short total) (Ok (binary_value subtype (take count rest), drop count rest)) x e in
    let long : count ≤ length rest = ltb-false _ _ g.0 in
    let len : length (take count rest) ≡ count = omega (arith, length-take count rest) in
    let spelled : List ℕ = to_le_bytes w32 count ++ (subtype ∷ take count rest) in
    let whole : bytes ≡ spelled ++ drop count rest =
    parts ∙ ap (λ (s : List ℕ). to_le_bytes w32 count ++ subtype ∷ s) (sym (take-append-drop count rest)) ∙ sym (append_assoc (to_le_bytes w32 count) (subtype ∷ take count rest) (drop count rest)) in
    let size : length spelled ≡ count + 5 = length-append (to_le_bytes w32 count) (subtype ∷ take count rest) ∙ omega (arith, len) in
    let all : Datum × List ℕ = (binary_value subtype (take count rest), drop count rest) in
    subst (λ (y : Datum × List ℕ). Takes n types.Binary room bytes y) (ok_is all x g.1)
    (record {
      spelled = spelled;
      parts = whole;
      reads = (ap (λ (k : ℕ). to_le_bytes w32 k ++ (subtype ∷ take count rest)) (sym len), omega (arith, len));
      of_type = refl;
      fits = omega (arith, size);
      low = omega arith;
    })

binary_takes : (total n room : ℕ) (bytes : List ℕ) (x : Datum × List ℕ) → AreBytes bytes → binary_at total room bytes ≡ Ok x → Takes n types.Binary room bytes x
unfolding binary_at
binary_takes total n room bytes x h e =
    let a = bind_ok (length_at total 0 5 room bytes) (λ y. content_at total y.0 y.1) x e in
    let t = length_takes total 0 5 room bytes a.0 h a.1 in
    content_takes total n room a.0.0 bytes a.0.1 x t.parts t.high t.fits a.2

boolean_takes : (total n room : ℕ) (bytes : List ℕ) (x : Datum × List ℕ) → 0 < room → boolean_at total bytes ≡ Ok x → Takes n types.Bool room bytes x
unfolding boolean_at
boolean_takes total n room [] x some e = absurd cc
boolean_takes total n room (zero ∷ bytes) x some e =
    let all : Datum × List ℕ = (boolean_value false, bytes) in
    subst (λ (y : Datum × List ℕ). Takes n types.Bool room (0 ∷ bytes) y) (ok_is all x e)
    (record { spelled = 0 ∷ []; parts = refl; reads = refl; of_type = refl; fits = omega arith; low = omega arith })
boolean_takes total n room (suc zero ∷ bytes) x some e =
    let all : Datum × List ℕ = (boolean_value true, bytes) in
    subst (λ (y : Datum × List ℕ). Takes n types.Bool room (1 ∷ bytes) y) (ok_is all x e)
    (record { spelled = 1 ∷ []; parts = refl; reads = refl; of_type = refl; fits = omega arith; low = omega arith })
boolean_takes total n room (suc (suc b) ∷ bytes) x some e = absurd cc

abbrev failed : {A : Type 0} → BsonFault → Result A BsonFault
failed e = Err e

never : {A B : Type 0} (e : BsonFault) (x : A) → failed e ≡ Ok x → B
never e x h = absurd cc

scalar_takes : (total n : ℕ) (type_byte : ElementType) (room : ℕ) (bytes : List ℕ) (x : Datum × List ℕ) → AreBytes bytes → 0 < room → scalar_at total type_byte room bytes ≡ Ok x → Takes n type_byte room bytes x
unfolding scalar_at
scalar_takes total n types.Text room bytes x h some e =
    let a = bind_ok (string_at total room bytes) (λ y. Ok (string_value y.0, y.1)) x e in
    let t = string_takes total room bytes a.0 h a.1 in
    let all : Datum × List ℕ = (string_value a.0.0, a.0.1) in
    subst (λ (y : Datum × List ℕ). Takes n types.Text room bytes y) (ok_is all x a.2)
    (record { spelled = string a.0.0; parts = t.parts; reads = (refl, t.utf8, t.high); of_type = refl; fits = t.fits; low = omega arith })
scalar_takes total n types.Doc room bytes x h some e = never (deep_at total room bytes) x e
scalar_takes total n types.Array room bytes x h some e = never (deep_at total room bytes) x e
scalar_takes total n types.Binary room bytes x h some e = binary_takes total n room bytes x h e
scalar_takes total n types.ObjectId room bytes x h some e =
    fixed total n 12 room types.ObjectId bytes x (λ prefix. object_id_value prefix) h (λ prefix is_bytes len. ((refl, len), refl, omega arith)) e
scalar_takes total n types.Bool room bytes x h some e = boolean_takes total n room bytes x some e
scalar_takes total n types.Date room bytes x h some e =
    fixed total n 8 room types.Date bytes x (λ prefix. date_value (cast_signed w64 (from_le_bytes w64 prefix))) h (λ prefix is_bytes len. (signed_64 prefix len is_bytes, refl, omega arith)) e
scalar_takes total n types.Null room bytes x h some e = empty n room bytes null_value x refl (omega arith) e
scalar_takes total n types.Int32 room bytes x h some e =
    fixed total n 4 room types.Int32 bytes x (λ prefix. int32_value (cast_signed w32 (from_le_bytes w32 prefix))) h (λ prefix is_bytes len. (signed_32 prefix len is_bytes, refl, omega arith)) e
scalar_takes total n types.Timestamp room bytes x h some e =
    fixed total n 8 room types.Timestamp bytes x (λ prefix. timestamp_value (from_le_bytes w64 prefix)) h (λ prefix is_bytes len. ((sym (le_bytes_8 prefix _ len is_bytes refl), below_64 prefix is_bytes), refl, omega arith)) e
scalar_takes total n types.Int64 room bytes x h some e =
    fixed total n 8 room types.Int64 bytes x (λ prefix. int64_value (cast_signed w64 (from_le_bytes w64 prefix))) h (λ prefix is_bytes len. (signed_64 prefix len is_bytes, refl, omega arith)) e
scalar_takes total n types.MinKey room bytes x h some e = empty n room bytes min_key_value x refl (omega arith) e
scalar_takes total n types.MaxKey room bytes x h some e = empty n room bytes max_key_value x refl (omega arith) e

-- ---- types

abbrev pub TakesType : ℕ → List ℕ → Option ElementType → List ℕ → Type 0
TakesType room bytes None rest = (room ≡ 1) × (bytes ≡ 0 ∷ rest)
TakesType room bytes (Some type_byte) rest = (bytes ≡ byte_of type_byte ∷ rest) × (1 < room)

checked_takes : (total : ℕ) (room b : ℕ) (bytes : List ℕ) (o : Option ElementType) (x : Option ElementType × List ℕ) → type_from b ≡ o → checked_type total room b bytes o ≡ Ok x → TakesType (suc room) (b ∷ bytes) x.0 x.1
unfolding checked_type
checked_takes total room b bytes None x k e = absurd cc
checked_takes total room b bytes (Some type_byte) x k e =
    let offset = total - (length bytes + 1) in
    let i = guard_ok (eqb room 0) (Trailing offset) (Ok (Some type_byte, bytes)) x e in
    let some : 1 < suc room = grind (arith, nat_tests, i.0) in
    let all : Option ElementType × List ℕ = (Some type_byte, bytes) in
    subst (λ (y : Option ElementType × List ℕ). TakesType (suc room) (b ∷ bytes) y.0 y.1) (ok_is all x i.1)
    (ap (λ (c : ℕ). c ∷ bytes) (sym (byte_from-type_byte b type_byte k)), some)

pub type_takes : (total : ℕ) (room : ℕ) (bytes : List ℕ) (x : Option ElementType × List ℕ) → type_at total room bytes ≡ Ok x → TakesType room bytes x.0 x.1
unfolding type_at
type_takes total zero bytes x e = absurd cc
type_takes total (suc room) [] x e = absurd cc
type_takes total (suc room) (b ∷ bytes) x e =
    let offset = total - (length bytes + 1) in
    elim (chosen (eqb b 0) (cond (eqb room 0) (Ok (None, bytes)) (Err (Trailing offset))) (checked_type total room b bytes (type_from b)) (Ok x) e) [
      | inl t ↦
          let g = guard_true (eqb room 0) (Trailing offset) (Ok (None, bytes)) x t.1 in
          let all : Option ElementType × List ℕ = (None, bytes) in
          subst (λ (y : Option ElementType × List ℕ). TakesType (suc room) (b ∷ bytes) y.0 y.1) (ok_is all x g.1)
          (ap suc (eqb-true _ _ g.0), ap (λ (c : ℕ). c ∷ bytes) (eqb-true _ _ t.0))
      | inr t ↦ checked_takes total room b bytes (type_from b) x refl t.1
    ]

-- ---- one field, one value of an array

pub record TakesElement (n room : ℕ) (bytes name : List ℕ) (d : Datum) (rest : List ℕ) : Type 0 where
  pub spelled : List ℕ
  pub parts : bytes ≡ element (type_byte_of d) name spelled ++ rest
  pub no_zero : HasNoZero name
  pub reads : ReadsValue spelled d
  pub fits : length (element (type_byte_of d) name spelled) ≤ room
  pub low : value_depth d ≤ n

element_from : (n room left : ℕ) (type_byte : ElementType) (bytes behind name : List ℕ) (rest : List ℕ) (x : Datum × List ℕ) → bytes ≡ byte_of type_byte ∷ behind → 1 < room
    → PassesName behind (room - 1) name left rest → Takes n type_byte left rest x → TakesElement n room bytes name x.0 x.1
element_from n room left type_byte bytes behind name rest x first some passed t =
    let byte : type_byte_of x.0 ≡ byte_of type_byte = type_byte_of-type x.0 ∙ ap (λ (k : ElementType). byte_of k) t.of_type in
    let len = length-element (type_byte_of x.0) name t.spelled in
    record {
      spelled = t.spelled;
      parts =
          first ∙ ap (λ (s : List ℕ). byte_of type_byte ∷ s) (passed.parts ∙ ap (λ (s : List ℕ). name ++ 0 ∷ s) t.parts)
          ∙ ap (λ (b : ℕ). b ∷ (name ++ 0 ∷ (t.spelled ++ x.1))) (sym byte) ∙ sym (element-append (type_byte_of x.0) name t.spelled x.1);
      no_zero = passed.no_zero;
      reads = t.reads;
      fits = omega (arith, len, passed.behind, t.fits);
      low = t.low;
    }

-- a reader of values is right
abbrev pub IsSound : ℕ → Reader → Type 0
IsSound n value_at = (type_byte : ElementType) (room : ℕ) (bytes : List ℕ) (x : Datum × List ℕ) → AreBytes bytes → 0 < room → value_at type_byte room bytes ≡ Ok x → Takes n type_byte room bytes x

abbrev pub TakesField : ℕ → ℕ → List ℕ → Option (List ℕ × Datum) → List ℕ → Type 0
TakesField n room bytes None rest = (room ≡ 1) × (bytes ≡ 0 ∷ rest)
TakesField n room bytes (Some m) rest = TakesElement n room bytes m.0 m.1 rest × IsUtf8 m.0

abbrev pub TakesItem : ℕ → ℕ → List ℕ → Option Datum → List ℕ → Type 0
TakesItem n room bytes None rest = (room ≡ 1) × (bytes ≡ 0 ∷ rest)
TakesItem n room bytes (Some d) rest = (name : List ℕ) × TakesElement n room bytes name d rest

module _ (total : ℕ) (n : ℕ) (value_at : Reader) (sound : IsSound n value_at) where
  behind_field : (room : ℕ) (bytes : List ℕ) (type_byte : Option ElementType) (behind : List ℕ) (x : Option (List ℕ × Datum) × List ℕ) → AreBytes bytes → TakesType room bytes type_byte behind → field_behind total value_at room type_byte behind ≡ Ok x
      → TakesField n room bytes x.0 x.1
  unfolding field_behind
  behind_field room bytes None behind x h k e =
      let all : Option (List ℕ × Datum) × List ℕ = (None, behind) in
      subst (λ (y : Option (List ℕ × Datum) × List ℕ). TakesField n room bytes y.0 y.1) (ok_is all x e) k
  behind_field room bytes (Some type_byte) behind x h k e =
      let a = bind_ok (name_at total (room - 1) behind) (λ name. value_at type_byte name.1 name.2 >>= λ value. Ok (Some (name.0, value.0), value.1)) x e in
      let b = bind_ok (value_at type_byte a.0.1 a.0.2) (λ value. Ok (Some (a.0.0, value.0), value.1)) x a.2 in
      let name = named_takes total (room - 1) behind a.0 a.1 in
      let is_behind = AreBytes-rest bytes (byte_of type_byte ∷ []) behind k.0 h in
      let is_rest = AreBytes-rest behind a.0.0 (0 ∷ a.0.2) name.0.parts is_behind in
      let is_value = AreBytes-rest (0 ∷ a.0.2) (0 ∷ []) a.0.2 refl is_rest in
      let t = sound type_byte a.0.1 a.0.2 b.0 is_value name.0.some b.1 in
      let all : Option (List ℕ × Datum) × List ℕ = (Some (a.0.0, b.0.0), b.0.1) in
      subst (λ (y : Option (List ℕ × Datum) × List ℕ). TakesField n room bytes y.0 y.1) (ok_is all x b.2)
      (element_from n room a.0.1 type_byte bytes behind a.0.0 a.0.2 b.0 k.0 k.1 name.0 t, name.1)

  pub field_takes : (room : ℕ) (bytes : List ℕ) (x : Option (List ℕ × Datum) × List ℕ) → AreBytes bytes → field_at total value_at room bytes ≡ Ok x → TakesField n room bytes x.0 x.1
  unfolding field_at
  field_takes room bytes x h e =
      let a = bind_ok (type_at total room bytes) (λ type_byte. field_behind total value_at room type_byte.0 type_byte.1) x e in
      behind_field room bytes a.0.0 a.0.1 x h (type_takes total room bytes a.0 a.1) a.2

  behind_item : (room : ℕ) (bytes : List ℕ) (type_byte : Option ElementType) (behind : List ℕ) (x : Option Datum × List ℕ) → AreBytes bytes → TakesType room bytes type_byte behind → item_behind total value_at room type_byte behind ≡ Ok x
      → TakesItem n room bytes x.0 x.1
  unfolding item_behind
  behind_item room bytes None behind x h k e =
      let all : Option Datum × List ℕ = (None, behind) in
      subst (λ (y : Option Datum × List ℕ). TakesItem n room bytes y.0 y.1) (ok_is all x e) k
  behind_item room bytes (Some type_byte) behind x h k e =
      let a = bind_ok (index_at total (room - 1) behind) (λ left. value_at type_byte left.0 left.1 >>= λ value. Ok (Some value.0, value.1)) x e in
      let b = bind_ok (value_at type_byte a.0.0 a.0.1) (λ value. Ok (Some value.0, value.1)) x a.2 in
      let name = index_takes total (room - 1) behind a.0 a.1 in
      let is_behind = AreBytes-rest bytes (byte_of type_byte ∷ []) behind k.0 h in
      let is_rest = AreBytes-rest behind name.0 (0 ∷ a.0.1) name.1.parts is_behind in
      let is_value = AreBytes-rest (0 ∷ a.0.1) (0 ∷ []) a.0.1 refl is_rest in
      let t = sound type_byte a.0.0 a.0.1 b.0 is_value name.1.some b.1 in
      let all : Option Datum × List ℕ = (Some b.0.0, b.0.1) in
      subst (λ (y : Option Datum × List ℕ). TakesItem n room bytes y.0 y.1) (ok_is all x b.2)
      (name.0, element_from n room a.0.0 type_byte bytes behind name.0 a.0.1 b.0 k.0 k.1 name.1 t)

  pub item_takes : (room : ℕ) (bytes : List ℕ) (x : Option Datum × List ℕ) → AreBytes bytes → item_at total value_at room bytes ≡ Ok x → TakesItem n room bytes x.0 x.1
  unfolding item_at
  item_takes room bytes x h e =
      let a = bind_ok (type_at total room bytes) (λ type_byte. item_behind total value_at room type_byte.0 type_byte.1) x e in
      behind_item room bytes a.0.0 a.0.1 x h (type_takes total room bytes a.0 a.1) a.2

-- what a reader of fields, or of the values of an array, took from the front of the bytes
pub record TakesFields (n room : ℕ) (bytes : List ℕ) (x : Fields × List ℕ) : Type 0 where
  pub body : List ℕ
  pub parts : bytes ≡ body ++ 0 ∷ x.1
  pub len : length body + 1 ≡ room
  pub reads : ReadsFields body x.0
  pub low : document_depth x.0 ≤ suc n

pub record TakesItems (n room : ℕ) (bytes : List ℕ) (x : Items × List ℕ) : Type 0 where
  pub body : List ℕ
  pub parts : bytes ≡ body ++ 0 ∷ x.1
  pub len : length body + 1 ≡ room
  pub reads : ReadsItems body x.0
  pub low : array_depth x.0 ≤ suc n

-- the room that is left
taken_is : (bytes a rest : List ℕ) → bytes ≡ a ++ rest → length bytes - length rest ≡ length a
taken_is bytes a rest e = let len : length bytes ≡ length a + length rest = ap (λ (s : List ℕ). length s) e ∙ length-append a rest in omega arith

-- the first field, and the others
joined_fields : (n room : ℕ) (bytes rest : List ℕ) (m : List ℕ × Datum) (y : Fields × List ℕ) → TakesElement n room bytes m.0 m.1 rest → IsUtf8 m.0
    → TakesFields n (room - (length bytes - length rest)) rest y → TakesFields n room bytes (field m.0 m.1 y.0, y.1)
joined_fields n room bytes rest m y t utf8 others =
    let prefix : List ℕ = element (type_byte_of m.1) m.0 t.spelled in
    let used = taken_is bytes prefix rest t.parts in
    record {
      body = prefix ++ others.body;
      parts = t.parts ∙ ap (λ (s : List ℕ). prefix ++ s) others.parts ∙ sym (append_assoc prefix others.body (0 ∷ y.1));
      len = omega (arith, used, others.len, length-append prefix others.body, t.fits);
      reads = (t.spelled, others.body, refl, t.no_zero, utf8, t.reads, others.reads);
      low = omega (arith, t.low, others.low);
    }

joined_values : (n room : ℕ) (bytes rest name : List ℕ) (d : Datum) (y : Items × List ℕ) → TakesElement n room bytes name d rest
    → TakesItems n (room - (length bytes - length rest)) rest y → TakesItems n room bytes (item d y.0, y.1)
joined_values n room bytes rest name d y t others =
    let prefix : List ℕ = element (type_byte_of d) name t.spelled in
    let used = taken_is bytes prefix rest t.parts in
    record {
      body = prefix ++ others.body;
      parts = t.parts ∙ ap (λ (s : List ℕ). prefix ++ s) others.parts ∙ sym (append_assoc prefix others.body (0 ∷ y.1));
      len = omega (arith, used, others.len, length-append prefix others.body, t.fits);
      reads = (name, t.spelled, others.body, refl, t.no_zero, t.reads, others.reads);
      low = omega (arith, t.low, others.low);
    }

-- ---- fields, and the values of an array

behind_fields : (total : ℕ) (n room : ℕ) (fields_at : ℕ → List ℕ → Result (Fields × List ℕ) BsonFault) (bytes : List ℕ) (first : Option (List ℕ × Datum)) (rest : List ℕ) (x : Fields × List ℕ)
    → ((room : ℕ) (bytes : List ℕ) (x : Fields × List ℕ) → AreBytes bytes → fields_at room bytes ≡ Ok x → TakesFields n room bytes x)
    → AreBytes bytes → TakesField n room bytes first rest → fields_behind total fields_at room bytes first rest ≡ Ok x → TakesFields n room bytes x
unfolding fields_behind
behind_fields total n room fields_at bytes None rest x others h k e =
    let all : Fields × List ℕ = (no_fields, rest) in
    subst (λ (y : Fields × List ℕ). TakesFields n room bytes y) (ok_is all x e)
    (record { body = []; parts = k.1; len = sym k.0; reads = refl; low = omega arith })
behind_fields total n room fields_at bytes (Some m) rest x others h k e =
    let a = bind_ok (fields_at (room - (length bytes - length rest)) rest) (λ y. Ok (field m.0 m.1 y.0, y.1)) x e in
    let is_rest = AreBytes-rest bytes (element (type_byte_of m.1) m.0 k.0.spelled) rest k.0.parts h in
    let t = others (room - (length bytes - length rest)) rest a.0 is_rest a.1 in
    let all : Fields × List ℕ = (field m.0 m.1 a.0.0, a.0.1) in
    subst (λ (y : Fields × List ℕ). TakesFields n room bytes y) (ok_is all x a.2) (joined_fields n room bytes rest m a.0 k.0 k.1 t)

behind_items : (total : ℕ) (n room : ℕ) (items_at : ℕ → List ℕ → Result (Items × List ℕ) BsonFault) (bytes : List ℕ) (first : Option Datum) (rest : List ℕ) (x : Items × List ℕ)
    → ((room : ℕ) (bytes : List ℕ) (x : Items × List ℕ) → AreBytes bytes → items_at room bytes ≡ Ok x → TakesItems n room bytes x)
    → AreBytes bytes → TakesItem n room bytes first rest → items_behind total items_at room bytes first rest ≡ Ok x → TakesItems n room bytes x
unfolding items_behind
behind_items total n room items_at bytes None rest x others h k e =
    let all : Items × List ℕ = (no_items, rest) in
    subst (λ (y : Items × List ℕ). TakesItems n room bytes y) (ok_is all x e)
    (record { body = []; parts = k.1; len = sym k.0; reads = refl; low = omega arith })
behind_items total n room items_at bytes (Some d) rest x others h k e =
    let a = bind_ok (items_at (room - (length bytes - length rest)) rest) (λ y. Ok (item d y.0, y.1)) x e in
    let is_rest = AreBytes-rest bytes (element (type_byte_of d) k.0 k.1.spelled) rest k.1.parts h in
    let t = others (room - (length bytes - length rest)) rest a.0 is_rest a.1 in
    let all : Items × List ℕ = (item d a.0.0, a.0.1) in
    subst (λ (y : Items × List ℕ). TakesItems n room bytes y) (ok_is all x a.2) (joined_values n room bytes rest k.0 d a.0 k.1 t)

-- what a reader of a document took from the front of the bytes
pub record TakesDocument (n room : ℕ) (bytes : List ℕ) (x : Fields × List ℕ) : Type 0 where
  pub body : List ℕ
  pub parts : bytes ≡ framed body ++ x.1
  pub high : length body + 5 < length_limit
  pub fits : length (framed body) ≤ room
  pub reads : ReadsFields body x.0
  pub low : document_depth x.0 ≤ suc n

pub record TakesArray (n room : ℕ) (bytes : List ℕ) (x : Items × List ℕ) : Type 0 where
  pub body : List ℕ
  pub parts : bytes ≡ framed body ++ x.1
  pub high : length body + 5 < length_limit
  pub fits : length (framed body) ≤ room
  pub reads : ReadsItems body x.0
  pub low : array_depth x.0 ≤ suc n

frame_is : (bytes behind body rest : List ℕ) (count : ℕ) → bytes ≡ to_le_bytes w32 count ++ behind → behind ≡ body ++ 0 ∷ rest → length body + 5 ≡ count → bytes ≡ framed body ++ rest
frame_is bytes behind body rest count e f len = e ∙ ap (λ (s : List ℕ). to_le_bytes w32 count ++ s) f ∙ ap (λ (k : ℕ). to_le_bytes w32 k ++ (body ++ 0 ∷ rest)) (sym len) ∙ sym (framed-append body rest)

module _ (total : ℕ) (n : ℕ) (value_at : Reader) (sound : IsSound n value_at) where
  fields_take : (fuel room : ℕ) (bytes : List ℕ) (x : Fields × List ℕ) → AreBytes bytes → fields_with total value_at fuel room bytes ≡ Ok x → TakesFields n room bytes x
  unfolding fields_with
  fields_take zero room bytes x h e = absurd cc
  fields_take (suc fuel) room bytes x h e =
      let a = bind_ok (field_at total value_at room bytes) (λ first. fields_behind total (fields_with total value_at fuel) room bytes first.0 first.1) x e in
      behind_fields total n room (fields_with total value_at fuel) bytes a.0.0 a.0.1 x (fields_take fuel) h (field_takes total n value_at sound room bytes a.0 h a.1) a.2

  items_take : (fuel room : ℕ) (bytes : List ℕ) (x : Items × List ℕ) → AreBytes bytes → items_with total value_at fuel room bytes ≡ Ok x → TakesItems n room bytes x
  unfolding items_with
  items_take zero room bytes x h e = absurd cc
  items_take (suc fuel) room bytes x h e =
      let a = bind_ok (item_at total value_at room bytes) (λ first. items_behind total (items_with total value_at fuel) room bytes first.0 first.1) x e in
      behind_items total n room (items_with total value_at fuel) bytes a.0.0 a.0.1 x (items_take fuel) h (item_takes total n value_at sound room bytes a.0 h a.1) a.2

  pub document_takes : (room : ℕ) (bytes : List ℕ) (x : Fields × List ℕ) → AreBytes bytes → document_with total value_at room bytes ≡ Ok x → TakesDocument n room bytes x
  unfolding document_with
  document_takes room bytes x h e =
      let a = bind_ok (length_at total 5 0 room bytes) (λ y. fields_with total value_at (length y.1 + 1) (y.0 - 4) y.1) x e in
      let l = length_takes total 5 0 room bytes a.0 h a.1 in
      let is_rest = AreBytes-rest bytes (to_le_bytes w32 a.0.0) a.0.1 l.parts h in
      let t = fields_take (length a.0.1 + 1) (a.0.0 - 4) a.0.1 x is_rest a.2 in
      let len : length t.body + 5 ≡ a.0.0 = omega (arith, t.len, l.low) in
      record {
        body = t.body;
        parts = frame_is bytes a.0.1 t.body x.1 a.0.0 l.parts t.parts len;
        high = omega (arith, l.high);
        fits = omega (arith, length-framed t.body, l.fits);
        reads = t.reads;
        low = t.low;
      }

  pub array_takes : (room : ℕ) (bytes : List ℕ) (x : Items × List ℕ) → AreBytes bytes → array_with total value_at room bytes ≡ Ok x → TakesArray n room bytes x
  unfolding array_with
  array_takes room bytes x h e =
      let a = bind_ok (length_at total 5 0 room bytes) (λ y. items_with total value_at (length y.1 + 1) (y.0 - 4) y.1) x e in
      let l = length_takes total 5 0 room bytes a.0 h a.1 in
      let is_rest = AreBytes-rest bytes (to_le_bytes w32 a.0.0) a.0.1 l.parts h in
      let t = items_take (length a.0.1 + 1) (a.0.0 - 4) a.0.1 x is_rest a.2 in
      let len : length t.body + 5 ≡ a.0.0 = omega (arith, t.len, l.low) in
      record {
        body = t.body;
        parts = frame_is bytes a.0.1 t.body x.1 a.0.0 l.parts t.parts len;
        high = omega (arith, l.high);
        fits = omega (arith, length-framed t.body, l.fits);
        reads = t.reads;
        low = t.low;
      }

-- ---- values

document_value_takes : (total : ℕ) (n room : ℕ) (bytes : List ℕ) (x : Datum × List ℕ) → IsSound n (value_at total n) → AreBytes bytes
    → (document_with total (value_at total n) room bytes >>= λ y. Ok (document_value y.0, y.1)) ≡ Ok x → Takes (suc n) types.Doc room bytes x
document_value_takes total n room bytes x sound h e =
    let a = bind_ok (document_with total (value_at total n) room bytes) (λ y. Ok (document_value y.0, y.1)) x e in
    let t = document_takes total n (value_at total n) sound room bytes a.0 h a.1 in
    let all : Datum × List ℕ = (document_value a.0.0, a.0.1) in
    subst (λ (y : Datum × List ℕ). Takes (suc n) types.Doc room bytes y) (ok_is all x a.2)
    (record { spelled = framed t.body; parts = t.parts; reads = (t.body, refl, t.high, t.reads); of_type = refl; fits = t.fits; low = t.low })

array_value_takes : (total : ℕ) (n room : ℕ) (bytes : List ℕ) (x : Datum × List ℕ) → IsSound n (value_at total n) → AreBytes bytes
    → (array_with total (value_at total n) room bytes >>= λ y. Ok (array_value y.0, y.1)) ≡ Ok x → Takes (suc n) types.Array room bytes x
array_value_takes total n room bytes x sound h e =
    let a = bind_ok (array_with total (value_at total n) room bytes) (λ y. Ok (array_value y.0, y.1)) x e in
    let t = array_takes total n (value_at total n) sound room bytes a.0 h a.1 in
    let all : Datum × List ℕ = (array_value a.0.0, a.0.1) in
    subst (λ (y : Datum × List ℕ). Takes (suc n) types.Array room bytes y) (ok_is all x a.2)
    (record { spelled = framed t.body; parts = t.parts; reads = (t.body, refl, t.high, t.reads); of_type = refl; fits = t.fits; low = t.low })

pub value_takes : (total : ℕ) (n : ℕ) → IsSound n (value_at total n)
unfolding value_at
value_takes total zero type_byte room bytes x h some e = scalar_takes total 0 type_byte room bytes x h some e
value_takes total (suc n) types.Doc room bytes x h some e = document_value_takes total n room bytes x (value_takes total n) h e
value_takes total (suc n) types.Array room bytes x h some e = array_value_takes total n room bytes x (value_takes total n) h e
value_takes total (suc n) type_byte room bytes x h some e = scalar_takes total (suc n) type_byte room bytes x h some e
