-- Elements, values and documents: reading and walking agree.
use Rattle.std.proofs.Common.{◌≡◌, ℕ, zero, suc, ◌+◌, ◌-◌, ◌<◌, ◌≤◌, Bool, true, false, cond, ltb, leb, eqb, List, [], ◌∷◌, length, get_or, take, drop, Option, Some, None, Result, Ok, Err, refl, sym, ap, subst, ◌∙◌, arith, length-append}
use Rattle.std.specs.Int.{w32, w64, from_le_bytes, to_le_bytes, cast_signed}
use Rattle.std.specs.Option.{option_map}
use Rattle.std.proofs.lemmas.Bool.{lt-ltb, le-ltb}
use Rattle.std.proofs.lemmas.Bool.Decides.{nat_tests}
use Rattle.bson_model.specs.Faults.{Holder, last, Step, goes_on, ends_at, faulty, depth_fault, trailing_fault, Form, fixed_form, string_form, holder_form, binary_form, boolean_form, form_of, before_zero, closed, fixed_step, string_step, binary_step, length_step, holder_step, value_step, named_step, typed_step, element_step, first_step, walks_on}
use Rattle.bson_model.specs.Tree.{Datum, string_value, document_value, array_value, object_id_value, date_value, null_value, int32_value, timestamp_value, int64_value, min_key_value, max_key_value, item, field}
use Rattle.bson_model.specs.Spelling.{type_byte_of, element}
use Rattle.bson_model.specs.Grammar.{AreBytes}
use Rattle.bson_model.specs.Limits.{length_limit, most_depth_kept}
use Rattle.bson_model.proofs.Lengths.{length-element}
use Rattle.bson_values.specs.declared.fault.BsonFault.{BsonFault}
use Rattle.bson_values.specs.declared.element_type.ElementType.{ElementType}
use Rattle.bson_values.specs.declared.element_type.ElementType.TheVariants as types
use Rattle.bson_values.specs.ReadFaults.{◌>>=◌}
use Rattle.bson_values.specs.Types.{type_from}
use Rattle.bson_values.specs.Readers.{Reader, length_at, fixed_at, string_at, text_at, binary_at, content_at, deep_at, scalar_at, name_at, index_at, checked_type, type_at, field_behind, field_at, item_behind, item_at, fields_behind, fields_with, items_behind, items_with, document_with, array_with, value_at, depth_inside, document_at, whole_at}
use Rattle.bson_values.proofs.TypeTests.{byte_of}
use Rattle.bson_values.proofs.Leaves.{AreBytes-rest, length_takes, TakesLength, named_takes, index_takes}
use Rattle.bson_values.proofs.Takes.{TakesType, type_takes, TakesField, TakesItem, IsSound, field_takes, item_takes, value_takes}
use Rattle.bson_values.proofs.ReaderWalks.{Goes, same_leads, leads_goes, goes_bind, split, skip, take_it, Stands, stands_behind, stands_at, byte_here}
use Rattle.bson_values.proofs.WalkedLeaves.{on_behind, fixed_goes, length_goes, deep_leads, boolean_goes, text_goes, content_goes, named_goes, index_goes}

-- ---- types

abbrev pub form_of_type : ElementType → Form
form_of_type types.Text = string_form
form_of_type types.Doc = holder_form false
form_of_type types.Array = holder_form true
form_of_type types.Binary = binary_form
form_of_type types.ObjectId = fixed_form 12
form_of_type types.Bool = boolean_form
form_of_type types.Date = fixed_form 8
form_of_type types.Null = fixed_form 0
form_of_type types.Int32 = fixed_form 4
form_of_type types.Timestamp = fixed_form 8
form_of_type types.Int64 = fixed_form 8
form_of_type types.MinKey = fixed_form 0
form_of_type types.MaxKey = fixed_form 0

-- one test of the chain
mapped : (t : Bool) (type_byte : ElementType) (o : Option ElementType) (p : Option Form) → p ≡ option_map form_of_type o → cond t (Some (form_of_type type_byte)) p ≡ option_map form_of_type (cond t (Some type_byte) o)
mapped true type_byte o p e = refl
mapped false type_byte o p e = e

form_is : (b : ℕ) → form_of b ≡ option_map form_of_type (type_from b)
form_is b =
    mapped (eqb b 0x02) types.Text _ _
    (mapped (eqb b 0x03) types.Doc _ _
    (mapped (eqb b 0x04) types.Array _ _
    (mapped (eqb b 0x05) types.Binary _ _
    (mapped (eqb b 0x07) types.ObjectId _ _
    (mapped (eqb b 0x08) types.Bool _ _
    (mapped (eqb b 0x09) types.Date _ _
    (mapped (eqb b 0x0A) types.Null _ _
    (mapped (eqb b 0x10) types.Int32 _ _
    (mapped (eqb b 0x11) types.Timestamp _ _
    (mapped (eqb b 0x12) types.Int64 _ _
    (mapped (eqb b 0xFF) types.MinKey _ _
    (mapped (eqb b 0x7F) types.MaxKey None None refl))))))))))))

-- after a type
abbrev kinded : List ℕ → ℕ → Holder → List Holder → Option ElementType → Step
kinded all offset h outer None = closed h.end outer
kinded all offset h outer (Some type_byte) = named_step all (form_of_type type_byte) (offset + 1) h outer (before_zero (take (h.end - (offset + 1)) (drop (offset + 1) all)))

typed_goes : (all : List ℕ) (offset room b : ℕ) (h : Holder) (outer : List Holder) (bytes : List ℕ) (o : Option ElementType) → get_or all offset 0 ≡ b → offset + (length bytes + 1) ≡ length all → offset + suc room ≡ h.end
    → Goes all (typed_step all offset h outer (option_map form_of_type o)) (checked_type (length all) room b bytes o) (λ x. kinded all offset h outer x.0)
unfolding checked_type
typed_goes all offset room b h outer bytes None byte at within =
    let here : length all - (length bytes + 1) ≡ offset = omega arith in
    same_leads all _ _ (rw (byte, here) refl)
typed_goes all offset room b h outer bytes (Some type_byte) byte at within =
    let e : last h ≡ offset + room = omega arith in
    split all (eqb offset (last h)) (eqb room 0) _ _ _ _ (λ x. kinded all offset h outer x.0) (grind (arith, nat_tests))
    (λ t. let none : room ≡ 0 = grind (arith, nat_tests) in same_leads all _ _ (ap (λ (p : ℕ). faulty trailing_fault p) (omega arith)))
    (λ t. same_leads all _ _ refl)

element_goes : (all : List ℕ) (offset room : ℕ) (h : Holder) (outer : List Holder) (bytes : List ℕ) → Stands all bytes → offset + length bytes ≡ length all → offset + room ≡ h.end
    → Goes all (element_step all offset h outer) (type_at (length all) room bytes) (λ x. kinded all offset h outer x.0)
unfolding type_at
element_goes all offset zero h outer bytes stands at within =
    let full : leb h.end offset ≡ true = grind (arith, nat_tests) in
    let e : last h ≡ length all - (length bytes + 1) = omega arith in
    same_leads all _ _ (rw full (ap (λ (p : ℕ). faulty trailing_fault p) e))
element_goes all offset (suc room) h outer [] stands at within =
    let inside : leb h.end offset ≡ false = grind (arith, nat_tests) in
    let cut : leb (length all) offset ≡ true = grind (arith, nat_tests) in
    same_leads all _ _ (rw (inside, cut) refl)
element_goes all offset (suc room) h outer (b ∷ bytes) stands at within =
    let inside : leb h.end offset ≡ false = grind (arith, nat_tests) in
    let some : leb (length all) offset ≡ false = grind (arith, nat_tests) in
    let byte : get_or all offset 0 ≡ b = byte_here all (b ∷ bytes) offset stands at in
    let e : last h ≡ offset + room = omega arith in
    let here : length all - (length bytes + 1) ≡ offset = omega arith in
    skip all (leb h.end offset) _ _ _ _ inside
    (skip all (leb (length all) offset) _ _ _ _ some
    (split all (eqb (get_or all offset 0) 0) (eqb b 0) _ _ _ _ (λ x. kinded all offset h outer x.0) (ap (λ (c : ℕ). eqb c 0) byte)
    (λ t. split all (eqb offset (last h)) (eqb room 0) _ _ _ _ (λ x. kinded all offset h outer x.0) (grind (arith, nat_tests)) (λ u. same_leads all _ _ refl) (λ u. same_leads all _ _ (ap (λ (p : ℕ). faulty trailing_fault p) (sym here))))
    (λ t. subst (λ (o : Option Form). Goes all (typed_step all offset h outer o) (checked_type (length all) room b bytes (type_from b)) (λ x. kinded all offset h outer x.0)) (sym (ap form_of byte ∙ form_is b))
    (typed_goes all offset room b h outer bytes (type_from b) byte (omega arith) within))))

type_goes : (all : List ℕ) (offset room : ℕ) (h : Holder) (outer : List Holder) (bytes : List ℕ) → Stands all bytes → offset + length bytes ≡ length all → offset + room ≡ h.end
    → Goes all (goes_on offset (h ∷ outer)) (type_at (length all) room bytes) (λ x. kinded all offset h outer x.0)
type_goes all offset room h outer bytes stands at within =
    leads_goes all (goes_on offset (h ∷ outer)) (element_step all offset h outer) (type_at (length all) room bytes) (λ x. kinded all offset h outer x.0) (λ outcome w. walks_on offset h outer outcome w)
    (element_goes all offset room h outer bytes stands at within)

-- values without nested values

-- a value of a fixed number of bytes
fixed : (all : List ℕ) (n offset room : ℕ) (h : Holder) (outer : List Holder) (bytes : List ℕ) (made : List ℕ → Datum) → offset + length bytes ≡ length all → offset + room ≡ h.end → 0 < room
    → Goes all (fixed_step all n offset h outer) (fixed_at (length all) n room bytes >>= λ x. Ok (made x.0, x.1)) (on_behind all h outer)
fixed all n offset room h outer bytes made at within some =
    goes_bind all _ (fixed_at (length all) n room bytes) (λ x. Ok (made x.0, x.1)) (on_behind all h outer) (on_behind all h outer) (fixed_goes all n offset room h outer bytes at within some) (λ x e. same_leads all _ _ refl)

-- a value without bytes
empty : (all : List ℕ) (offset room : ℕ) (h : Holder) (outer : List Holder) (bytes : List ℕ) (d : Datum) → offset + length bytes ≡ length all → offset + room ≡ h.end
    → Goes all (fixed_step all 0 offset h outer) (Ok (d, bytes)) (on_behind all h outer)
empty all offset room h outer bytes d at within =
    let k : length all - length bytes ≡ offset = omega arith in
    let none : offset + 0 ≡ offset = omega arith in
    let inside : ltb h.end offset ≡ false = le-ltb _ _ (omega arith) in
    let some : ltb (length all) offset ≡ false = le-ltb _ _ (omega arith) in
    same_leads all _ _ (rw (none, inside, some, k) refl)

-- what follows a length
stands_length_behind : (all : List ℕ) (least beside offset room n : ℕ) (bytes rest : List ℕ) → Stands all bytes → offset + length bytes ≡ length all → TakesLength bytes least beside room n rest → Stands all rest × (offset + 4 + length rest ≡ length all)
stands_length_behind all least beside offset room n bytes rest stands at t =
    let len : length bytes ≡ 4 + length rest = ap (λ (s : List ℕ). length s) t.parts ∙ length-append (to_le_bytes w32 n) rest in
    (stands_behind all bytes (to_le_bytes w32 n) rest stands t.parts, omega arith)

string_goes : (all : List ℕ) (offset room : ℕ) (h : Holder) (outer : List Holder) (bytes : List ℕ) → AreBytes bytes → Stands all bytes → offset + length bytes ≡ length all → offset + room ≡ h.end
    → Goes all (value_step all string_form offset h outer) (string_at (length all) room bytes) (on_behind all h outer)
unfolding string_at
string_goes all offset room h outer bytes is_bytes stands at within =
    goes_bind all _ (length_at (length all) 1 4 room bytes) (λ x. text_at (length all) x.0 x.1) (λ x. string_step all x.0 (offset + 4) h outer) (on_behind all h outer) (length_goes all 1 4 h.end offset room (λ n. string_step all n (offset + 4) h outer) bytes stands at within)
    (λ x e.
    let t = length_takes (length all) 1 4 room bytes x is_bytes e in
    let there = stands_length_behind all 1 4 offset room x.0 bytes x.1 stands at t in
    text_goes all x.0 (offset + 4) h outer x.1 there.0 there.1 t.low)

binary_goes : (all : List ℕ) (offset room : ℕ) (h : Holder) (outer : List Holder) (bytes : List ℕ) → AreBytes bytes → Stands all bytes → offset + length bytes ≡ length all → offset + room ≡ h.end
    → Goes all (value_step all binary_form offset h outer) (binary_at (length all) room bytes) (on_behind all h outer)
unfolding binary_at
binary_goes all offset room h outer bytes is_bytes stands at within =
    goes_bind all _ (length_at (length all) 0 5 room bytes) (λ x. content_at (length all) x.0 x.1) (λ x. binary_step all x.0 (offset + 4) h outer) (on_behind all h outer) (length_goes all 0 5 h.end offset room (λ n. binary_step all n (offset + 4) h outer) bytes stands at within)
    (λ x e.
    let there = stands_length_behind all 0 5 offset room x.0 bytes x.1 stands at (length_takes (length all) 0 5 room bytes x is_bytes e) in
    content_goes all x.0 (offset + 4) h outer x.1 there.1)

-- a document or an array where no level is left
deep_goes : (all : List ℕ) (is_array : Bool) (offset room : ℕ) (h : Holder) (outer : List Holder) (bytes : List ℕ) (r : Result (Datum × List ℕ) BsonFault) → r ≡ Err (deep_at (length all) room bytes)
    → Stands all bytes → offset + length bytes ≡ length all → offset + room ≡ h.end → length (h ∷ outer) ≡ most_depth_kept → Goes all (holder_step all is_array offset h outer) r (on_behind all h outer)
deep_goes all is_array offset room h outer bytes r e stands at within full =
    let deep : ltb (length (h ∷ outer)) most_depth_kept ≡ false = le-ltb _ _ (omega arith) in
    skip all (ltb (length (h ∷ outer)) most_depth_kept) _ _ r (on_behind all h outer) deep
    (subst (λ (read : Result (Datum × List ℕ) BsonFault). Goes all (length_step all 5 0 h.end offset (faulty depth_fault offset) (λ n. faulty depth_fault offset)) read (on_behind all h outer)) (sym e)
    (deep_leads all h.end offset room bytes stands at within))

-- a reader of values, where n levels are left
abbrev IsRight : List ℕ → ℕ → Reader → Type 0
IsRight all n value_at = (type_byte : ElementType) (offset room : ℕ) (h : Holder) (outer : List Holder) (bytes : List ℕ) → AreBytes bytes → Stands all bytes → offset + length bytes ≡ length all → offset + room ≡ h.end → 0 < room → length (h ∷ outer) + n ≡ most_depth_kept
    → Goes all (value_step all (form_of_type type_byte) offset h outer) (value_at type_byte room bytes) (on_behind all h outer)

abbrev IsFlat : ElementType → Type 0
IsFlat types.Doc = ⊥
IsFlat types.Array = ⊥
IsFlat type_byte = Unit {0}

flat_goes : (all : List ℕ) (type_byte : ElementType) (offset room : ℕ) (h : Holder) (outer : List Holder) (bytes : List ℕ) → IsFlat type_byte → AreBytes bytes → Stands all bytes → offset + length bytes ≡ length all → offset + room ≡ h.end → 0 < room
    → Goes all (value_step all (form_of_type type_byte) offset h outer) (scalar_at (length all) type_byte room bytes) (on_behind all h outer)
unfolding scalar_at
flat_goes all types.Text offset room h outer bytes flat is_bytes stands at within some =
    goes_bind all _ (string_at (length all) room bytes) (λ x. Ok (string_value x.0, x.1)) (on_behind all h outer) (on_behind all h outer) (string_goes all offset room h outer bytes is_bytes stands at within) (λ x e. same_leads all _ _ refl)
flat_goes all types.Doc offset room h outer bytes flat is_bytes stands at within some = absurd flat
flat_goes all types.Array offset room h outer bytes flat is_bytes stands at within some = absurd flat
flat_goes all types.Binary offset room h outer bytes flat is_bytes stands at within some = binary_goes all offset room h outer bytes is_bytes stands at within
flat_goes all types.ObjectId offset room h outer bytes flat is_bytes stands at within some = fixed all 12 offset room h outer bytes (λ prefix. object_id_value prefix) at within some
flat_goes all types.Bool offset room h outer bytes flat is_bytes stands at within some = boolean_goes all offset h outer bytes stands at
flat_goes all types.Date offset room h outer bytes flat is_bytes stands at within some = fixed all 8 offset room h outer bytes (λ prefix. date_value (cast_signed w64 (from_le_bytes w64 prefix))) at within some
flat_goes all types.Null offset room h outer bytes flat is_bytes stands at within some = empty all offset room h outer bytes null_value at within
flat_goes all types.Int32 offset room h outer bytes flat is_bytes stands at within some = fixed all 4 offset room h outer bytes (λ prefix. int32_value (cast_signed w32 (from_le_bytes w32 prefix))) at within some
flat_goes all types.Timestamp offset room h outer bytes flat is_bytes stands at within some = fixed all 8 offset room h outer bytes (λ prefix. timestamp_value (from_le_bytes w64 prefix)) at within some
flat_goes all types.Int64 offset room h outer bytes flat is_bytes stands at within some = fixed all 8 offset room h outer bytes (λ prefix. int64_value (cast_signed w64 (from_le_bytes w64 prefix))) at within some
flat_goes all types.MinKey offset room h outer bytes flat is_bytes stands at within some = empty all offset room h outer bytes min_key_value at within
flat_goes all types.MaxKey offset room h outer bytes flat is_bytes stands at within some = empty all offset room h outer bytes max_key_value at within

deep_document : (all : List ℕ) (room : ℕ) (bytes : List ℕ) → scalar_at (length all) types.Doc room bytes ≡ Err (deep_at (length all) room bytes)
unfolding scalar_at
deep_document all room bytes = refl

deep_array : (all : List ℕ) (room : ℕ) (bytes : List ℕ) → scalar_at (length all) types.Array room bytes ≡ Err (deep_at (length all) room bytes)
unfolding scalar_at
deep_array all room bytes = refl

scalar_goes : (all : List ℕ) (type_byte : ElementType) (offset room : ℕ) (h : Holder) (outer : List Holder) (bytes : List ℕ) → AreBytes bytes → Stands all bytes → offset + length bytes ≡ length all → offset + room ≡ h.end → 0 < room → length (h ∷ outer) ≡ most_depth_kept
    → Goes all (value_step all (form_of_type type_byte) offset h outer) (scalar_at (length all) type_byte room bytes) (on_behind all h outer)
scalar_goes all types.Doc offset room h outer bytes is_bytes stands at within some full = deep_goes all false offset room h outer bytes _ (deep_document all room bytes) stands at within full
scalar_goes all types.Array offset room h outer bytes is_bytes stands at within some full = deep_goes all true offset room h outer bytes _ (deep_array all room bytes) stands at within full
scalar_goes all type_byte offset room h outer bytes is_bytes stands at within some full = flat_goes all type_byte offset room h outer bytes tt is_bytes stands at within some

-- ---- elements

-- after an element, or after the last 00
abbrev behind : {A : Type 0} → List ℕ → Holder → List Holder → Option A × List ℕ → Step
behind all h outer (None, rest) = closed (length all - length rest) outer
behind all h outer (Some m, rest) = goes_on (length all - length rest) (h ∷ outer)

ends : (all : List ℕ) (offset room : ℕ) (h : Holder) (outer : List Holder) (bytes rest : List ℕ) → offset + length bytes ≡ length all → offset + room ≡ h.end → TakesType room bytes None rest → closed h.end outer ≡ closed (length all - length rest) outer
ends all offset room h outer bytes rest at within k =
    let len : length bytes ≡ suc (length rest) = ap (λ (s : List ℕ). length s) k.1 in
    let one : room ≡ 1 = k.0 in
    ap (λ (p : ℕ). closed p outer) (omega arith)

kinded_is : (all : List ℕ) (offset room : ℕ) (h : Holder) (outer : List Holder) (rest : List ℕ) (type_byte : ElementType) → Stands all rest → offset + 1 + length rest ≡ length all → offset + room ≡ h.end → kinded all offset h outer (Some type_byte) ≡ named_step all (form_of_type type_byte) (offset + 1) h outer (before_zero (take (room - 1) rest))
kinded_is all offset room h outer rest type_byte stands at within =
    let there : drop (offset + 1) all ≡ rest = stands_at all rest (offset + 1) stands at in
    let left : h.end - (offset + 1) ≡ room - 1 = omega arith in
    ap (λ (s : List ℕ). named_step all (form_of_type type_byte) (offset + 1) h outer (before_zero (take (h.end - (offset + 1)) s))) there ∙ ap (λ (k : ℕ). named_step all (form_of_type type_byte) (offset + 1) h outer (before_zero (take k rest))) left

module _ (all : List ℕ) (n : ℕ) (value_at : Reader) (right : IsRight all n value_at) (sound : IsSound n value_at) where
  behind_field : (offset room : ℕ) (h : Holder) (outer : List Holder) (bytes : List ℕ) (o : Option ElementType) (rest : List ℕ) → h.is_array ≡ false → AreBytes bytes → Stands all bytes → offset + length bytes ≡ length all → offset + room ≡ h.end → length (h ∷ outer) + n ≡ most_depth_kept
      → TakesType room bytes o rest → Goes all (kinded all offset h outer o) (field_behind (length all) value_at room o rest) (behind all h outer)
  unfolding field_behind
  behind_field offset room h outer bytes None rest no_array is_bytes stands at within depth k = same_leads all _ _ (ends all offset room h outer bytes rest at within k)
  behind_field offset room h outer bytes (Some type_byte) rest no_array is_bytes stands at within depth k =
      let len : length bytes ≡ suc (length rest) = ap (λ (s : List ℕ). length s) k.0 in
      let some : 1 < room = k.1 in
      let is_rest = AreBytes-rest bytes (byte_of type_byte ∷ []) rest k.0 is_bytes in
      let stands_rest = stands_behind all bytes (byte_of type_byte ∷ []) rest stands k.0 in
      leads_goes all _ _ _ _ (same_leads all _ _ (kinded_is all offset room h outer rest type_byte stands_rest (omega arith) within))
      (goes_bind all _ (name_at (length all) (room - 1) rest) (λ name. value_at type_byte name.1 name.2 >>= λ value. Ok (Some (name.0, value.0), value.1)) (λ x. value_step all (form_of_type type_byte) (length all - length x.2) h outer) (behind all h outer)
      (named_goes all (form_of_type type_byte) (offset + 1) (room - 1) h outer rest no_array (omega arith) (omega arith))
      (λ name e.
      let t = (named_takes (length all) (room - 1) rest name e).0 in
      let size : length rest ≡ length name.0 + suc (length name.2) = ap (λ (s : List ℕ). length s) t.parts ∙ length-append name.0 (0 ∷ name.2) in
      let is_more = AreBytes-rest (0 ∷ name.2) (0 ∷ []) name.2 refl (AreBytes-rest rest name.0 (0 ∷ name.2) t.parts is_rest) in
      let stands_more = stands_behind all (0 ∷ name.2) (0 ∷ []) name.2 (stands_behind all rest name.0 (0 ∷ name.2) stands_rest t.parts) refl in
      let behind_is : length name.0 + 1 + name.1 ≡ room - 1 = t.behind in
      goes_bind all _ (value_at type_byte name.1 name.2) (λ value. Ok (Some (name.0, value.0), value.1)) (on_behind all h outer) (behind all h outer)
      (right type_byte (length all - length name.2) name.1 h outer name.2 is_more stands_more (omega arith) (omega arith) t.some depth)
      (λ value f. same_leads all _ _ refl)))

  field_goes : (offset room : ℕ) (h : Holder) (outer : List Holder) (bytes : List ℕ) → h.is_array ≡ false → AreBytes bytes → Stands all bytes → offset + length bytes ≡ length all → offset + room ≡ h.end → length (h ∷ outer) + n ≡ most_depth_kept
      → Goes all (goes_on offset (h ∷ outer)) (field_at (length all) value_at room bytes) (behind all h outer)
  unfolding field_at
  field_goes offset room h outer bytes no_array is_bytes stands at within depth =
      goes_bind all (goes_on offset (h ∷ outer)) (type_at (length all) room bytes) (λ type_byte. field_behind (length all) value_at room type_byte.0 type_byte.1) (λ x. kinded all offset h outer x.0) (behind all h outer) (type_goes all offset room h outer bytes stands at within)
      (λ x e. behind_field offset room h outer bytes x.0 x.1 no_array is_bytes stands at within depth (type_takes (length all) room bytes x e))

  more_fields : (fuel offset room : ℕ) (h : Holder) (outer : List Holder) (bytes : List ℕ) (o : Option (List ℕ × Datum)) (rest : List ℕ)
      → ((offset room : ℕ) (bytes : List ℕ) → AreBytes bytes → Stands all bytes → offset + length bytes ≡ length all → offset + room ≡ h.end → length bytes < fuel → Goes all (goes_on offset (h ∷ outer)) (fields_with (length all) value_at fuel room bytes) (λ x. closed (length all - length x.1) outer))
      → AreBytes bytes → Stands all bytes → offset + length bytes ≡ length all → offset + room ≡ h.end → length bytes < suc fuel → TakesField n room bytes o rest
      → Goes all (behind {A = List ℕ × Datum} all h outer (o, rest)) (fields_behind (length all) (fields_with (length all) value_at fuel) room bytes o rest) (λ x. closed (length all - length x.1) outer)
  unfolding fields_behind
  more_fields fuel offset room h outer bytes None rest others is_bytes stands at within enough k = same_leads all _ _ refl
  more_fields fuel offset room h outer bytes (Some m) rest others is_bytes stands at within enough k =
      let prefix : List ℕ = element (type_byte_of m.1) m.0 k.0.spelled in
      let size : length prefix ≡ length m.0 + length k.0.spelled + 2 = length-element (type_byte_of m.1) m.0 k.0.spelled in
      let len : length bytes ≡ length prefix + length rest = ap (λ (s : List ℕ). length s) k.0.parts ∙ length-append prefix rest in
      let fits : length prefix ≤ room = k.0.fits in
      goes_bind all _ (fields_with (length all) value_at fuel (room - (length bytes - length rest)) rest) (λ y. Ok (field m.0 m.1 y.0, y.1)) (λ x. closed (length all - length x.1) outer) (λ x. closed (length all - length x.1) outer)
      (others (length all - length rest) (room - (length bytes - length rest)) rest (AreBytes-rest bytes prefix rest k.0.parts is_bytes) (stands_behind all bytes prefix rest stands k.0.parts) (omega arith) (omega arith) (omega arith))
      (λ y e. same_leads all _ _ refl)

  fields_goes : (fuel offset room : ℕ) (h : Holder) (outer : List Holder) (bytes : List ℕ) → h.is_array ≡ false → length (h ∷ outer) + n ≡ most_depth_kept → AreBytes bytes → Stands all bytes → offset + length bytes ≡ length all → offset + room ≡ h.end → length bytes < fuel
      → Goes all (goes_on offset (h ∷ outer)) (fields_with (length all) value_at fuel room bytes) (λ x. closed (length all - length x.1) outer)
  unfolding fields_with
  fields_goes zero offset room h outer bytes no_array depth is_bytes stands at within enough = absurd (omega arith)
  fields_goes (suc fuel) offset room h outer bytes no_array depth is_bytes stands at within enough =
      goes_bind all _ (field_at (length all) value_at room bytes) (λ first. fields_behind (length all) (fields_with (length all) value_at fuel) room bytes first.0 first.1) (behind all h outer) (λ x. closed (length all - length x.1) outer)
      (field_goes offset room h outer bytes no_array is_bytes stands at within depth)
      (λ x e. more_fields fuel offset room h outer bytes x.0 x.1 (λ p r more. fields_goes fuel p r h outer more no_array depth) is_bytes stands at within enough (field_takes (length all) n value_at sound room bytes x is_bytes e))

  document_goes : (offset room : ℕ) (h : Holder) (outer : List Holder) (bytes : List ℕ) → length (h ∷ outer) + suc n ≡ most_depth_kept → AreBytes bytes → Stands all bytes → offset + length bytes ≡ length all → offset + room ≡ h.end
      → Goes all (holder_step all false offset h outer) (document_with (length all) value_at room bytes) (on_behind all h outer)
  unfolding document_with
  document_goes offset room h outer bytes depth is_bytes stands at within =
      let shallow : ltb (length (h ∷ outer)) most_depth_kept ≡ true = lt-ltb _ _ (omega arith) in
      take_it all (ltb (length (h ∷ outer)) most_depth_kept) _ _ _ (on_behind all h outer) shallow
      (goes_bind all _ (length_at (length all) 5 0 room bytes) (λ x. fields_with (length all) value_at (length x.1 + 1) (x.0 - 4) x.1) (λ x. goes_on (offset + 4) (record { is_array = false; end = offset + x.0 } ∷ h ∷ outer)) (on_behind all h outer)
      (length_goes all 5 0 h.end offset room (λ k. goes_on (offset + 4) (record { is_array = false; end = offset + k } ∷ h ∷ outer)) bytes stands at within)
      (λ x e.
      let t = length_takes (length all) 5 0 room bytes x is_bytes e in
      let there = stands_length_behind all 5 0 offset room x.0 bytes x.1 stands at t in
      let low : 5 ≤ x.0 = t.low in
      fields_goes (length x.1 + 1) (offset + 4) (x.0 - 4) (record { is_array = false; end = offset + x.0 }) (h ∷ outer) x.1 refl (omega arith) (AreBytes-rest bytes (to_le_bytes w32 x.0) x.1 t.parts is_bytes) there.0 there.1 (omega arith) (omega arith)))

  behind_item : (offset room : ℕ) (h : Holder) (outer : List Holder) (bytes : List ℕ) (o : Option ElementType) (rest : List ℕ) → h.is_array ≡ true → AreBytes bytes → Stands all bytes → offset + length bytes ≡ length all → offset + room ≡ h.end → length (h ∷ outer) + n ≡ most_depth_kept
      → TakesType room bytes o rest → Goes all (kinded all offset h outer o) (item_behind (length all) value_at room o rest) (behind all h outer)
  unfolding item_behind
  behind_item offset room h outer bytes None rest is_array is_bytes stands at within depth k = same_leads all _ _ (ends all offset room h outer bytes rest at within k)
  behind_item offset room h outer bytes (Some type_byte) rest is_array is_bytes stands at within depth k =
      let len : length bytes ≡ suc (length rest) = ap (λ (s : List ℕ). length s) k.0 in
      let some : 1 < room = k.1 in
      let is_rest = AreBytes-rest bytes (byte_of type_byte ∷ []) rest k.0 is_bytes in
      let stands_rest = stands_behind all bytes (byte_of type_byte ∷ []) rest stands k.0 in
      leads_goes all _ _ _ _ (same_leads all _ _ (kinded_is all offset room h outer rest type_byte stands_rest (omega arith) within))
      (goes_bind all _ (index_at (length all) (room - 1) rest) (λ left. value_at type_byte left.0 left.1 >>= λ value. Ok (Some value.0, value.1)) (λ x. value_step all (form_of_type type_byte) (length all - length x.1) h outer) (behind all h outer)
      (index_goes all (form_of_type type_byte) (offset + 1) (room - 1) h outer rest is_array (omega arith) (omega arith))
      (λ left e.
      let t = index_takes (length all) (room - 1) rest left e in
      let size : length rest ≡ length t.0 + suc (length left.1) = ap (λ (s : List ℕ). length s) t.1.parts ∙ length-append t.0 (0 ∷ left.1) in
      let is_more = AreBytes-rest (0 ∷ left.1) (0 ∷ []) left.1 refl (AreBytes-rest rest t.0 (0 ∷ left.1) t.1.parts is_rest) in
      let stands_more = stands_behind all (0 ∷ left.1) (0 ∷ []) left.1 (stands_behind all rest t.0 (0 ∷ left.1) stands_rest t.1.parts) refl in
      let behind_is : length t.0 + 1 + left.0 ≡ room - 1 = t.1.behind in
      goes_bind all _ (value_at type_byte left.0 left.1) (λ value. Ok (Some value.0, value.1)) (on_behind all h outer) (behind all h outer)
      (right type_byte (length all - length left.1) left.0 h outer left.1 is_more stands_more (omega arith) (omega arith) t.1.some depth)
      (λ value f. same_leads all _ _ refl)))

  item_goes : (offset room : ℕ) (h : Holder) (outer : List Holder) (bytes : List ℕ) → h.is_array ≡ true → AreBytes bytes → Stands all bytes → offset + length bytes ≡ length all → offset + room ≡ h.end → length (h ∷ outer) + n ≡ most_depth_kept
      → Goes all (goes_on offset (h ∷ outer)) (item_at (length all) value_at room bytes) (behind all h outer)
  unfolding item_at
  item_goes offset room h outer bytes is_array is_bytes stands at within depth =
      goes_bind all (goes_on offset (h ∷ outer)) (type_at (length all) room bytes) (λ type_byte. item_behind (length all) value_at room type_byte.0 type_byte.1) (λ x. kinded all offset h outer x.0) (behind all h outer) (type_goes all offset room h outer bytes stands at within)
      (λ x e. behind_item offset room h outer bytes x.0 x.1 is_array is_bytes stands at within depth (type_takes (length all) room bytes x e))

  more_items : (fuel offset room : ℕ) (h : Holder) (outer : List Holder) (bytes : List ℕ) (o : Option Datum) (rest : List ℕ)
      → ((offset room : ℕ) (bytes : List ℕ) → AreBytes bytes → Stands all bytes → offset + length bytes ≡ length all → offset + room ≡ h.end → length bytes < fuel → Goes all (goes_on offset (h ∷ outer)) (items_with (length all) value_at fuel room bytes) (λ x. closed (length all - length x.1) outer))
      → AreBytes bytes → Stands all bytes → offset + length bytes ≡ length all → offset + room ≡ h.end → length bytes < suc fuel → TakesItem n room bytes o rest
      → Goes all (behind {A = Datum} all h outer (o, rest)) (items_behind (length all) (items_with (length all) value_at fuel) room bytes o rest) (λ x. closed (length all - length x.1) outer)
  unfolding items_behind
  more_items fuel offset room h outer bytes None rest others is_bytes stands at within enough k = same_leads all _ _ refl
  more_items fuel offset room h outer bytes (Some d) rest others is_bytes stands at within enough k =
      let prefix : List ℕ = element (type_byte_of d) k.0 k.1.spelled in
      let size : length prefix ≡ length k.0 + length k.1.spelled + 2 = length-element (type_byte_of d) k.0 k.1.spelled in
      let len : length bytes ≡ length prefix + length rest = ap (λ (s : List ℕ). length s) k.1.parts ∙ length-append prefix rest in
      let fits : length prefix ≤ room = k.1.fits in
      goes_bind all _ (items_with (length all) value_at fuel (room - (length bytes - length rest)) rest) (λ y. Ok (item d y.0, y.1)) (λ x. closed (length all - length x.1) outer) (λ x. closed (length all - length x.1) outer)
      (others (length all - length rest) (room - (length bytes - length rest)) rest (AreBytes-rest bytes prefix rest k.1.parts is_bytes) (stands_behind all bytes prefix rest stands k.1.parts) (omega arith) (omega arith) (omega arith))
      (λ y e. same_leads all _ _ refl)

  items_goes : (fuel offset room : ℕ) (h : Holder) (outer : List Holder) (bytes : List ℕ) → h.is_array ≡ true → length (h ∷ outer) + n ≡ most_depth_kept → AreBytes bytes → Stands all bytes → offset + length bytes ≡ length all → offset + room ≡ h.end → length bytes < fuel
      → Goes all (goes_on offset (h ∷ outer)) (items_with (length all) value_at fuel room bytes) (λ x. closed (length all - length x.1) outer)
  unfolding items_with
  items_goes zero offset room h outer bytes is_array depth is_bytes stands at within enough = absurd (omega arith)
  items_goes (suc fuel) offset room h outer bytes is_array depth is_bytes stands at within enough =
      goes_bind all _ (item_at (length all) value_at room bytes) (λ first. items_behind (length all) (items_with (length all) value_at fuel) room bytes first.0 first.1) (behind all h outer) (λ x. closed (length all - length x.1) outer)
      (item_goes offset room h outer bytes is_array is_bytes stands at within depth)
      (λ x e. more_items fuel offset room h outer bytes x.0 x.1 (λ p r more. items_goes fuel p r h outer more is_array depth) is_bytes stands at within enough (item_takes (length all) n value_at sound room bytes x is_bytes e))

  array_goes : (offset room : ℕ) (h : Holder) (outer : List Holder) (bytes : List ℕ) → length (h ∷ outer) + suc n ≡ most_depth_kept → AreBytes bytes → Stands all bytes → offset + length bytes ≡ length all → offset + room ≡ h.end
      → Goes all (holder_step all true offset h outer) (array_with (length all) value_at room bytes) (on_behind all h outer)
  unfolding array_with
  array_goes offset room h outer bytes depth is_bytes stands at within =
      let shallow : ltb (length (h ∷ outer)) most_depth_kept ≡ true = lt-ltb _ _ (omega arith) in
      take_it all (ltb (length (h ∷ outer)) most_depth_kept) _ _ _ (on_behind all h outer) shallow
      (goes_bind all _ (length_at (length all) 5 0 room bytes) (λ x. items_with (length all) value_at (length x.1 + 1) (x.0 - 4) x.1) (λ x. goes_on (offset + 4) (record { is_array = true; end = offset + x.0 } ∷ h ∷ outer)) (on_behind all h outer)
      (length_goes all 5 0 h.end offset room (λ k. goes_on (offset + 4) (record { is_array = true; end = offset + k } ∷ h ∷ outer)) bytes stands at within)
      (λ x e.
      let t = length_takes (length all) 5 0 room bytes x is_bytes e in
      let there = stands_length_behind all 5 0 offset room x.0 bytes x.1 stands at t in
      let low : 5 ≤ x.0 = t.low in
      items_goes (length x.1 + 1) (offset + 4) (x.0 - 4) (record { is_array = true; end = offset + x.0 }) (h ∷ outer) x.1 refl (omega arith) (AreBytes-rest bytes (to_le_bytes w32 x.0) x.1 t.parts is_bytes) there.0 there.1 (omega arith) (omega arith)))

-- ---- values

right_document : (all : List ℕ) (n offset room : ℕ) (h : Holder) (outer : List Holder) (bytes : List ℕ) → IsRight all n (value_at (length all) n) → AreBytes bytes → Stands all bytes → offset + length bytes ≡ length all → offset + room ≡ h.end → length (h ∷ outer) + suc n ≡ most_depth_kept
    → Goes all (holder_step all false offset h outer) (document_with (length all) (value_at (length all) n) room bytes >>= λ x. Ok (document_value x.0, x.1)) (on_behind all h outer)
right_document all n offset room h outer bytes right is_bytes stands at within depth =
    goes_bind all _ (document_with (length all) (value_at (length all) n) room bytes) (λ x. Ok (document_value x.0, x.1)) (on_behind all h outer) (on_behind all h outer)
    (document_goes all n (value_at (length all) n) right (value_takes (length all) n) offset room h outer bytes depth is_bytes stands at within) (λ x e. same_leads all _ _ refl)

right_array : (all : List ℕ) (n offset room : ℕ) (h : Holder) (outer : List Holder) (bytes : List ℕ) → IsRight all n (value_at (length all) n) → AreBytes bytes → Stands all bytes → offset + length bytes ≡ length all → offset + room ≡ h.end → length (h ∷ outer) + suc n ≡ most_depth_kept
    → Goes all (holder_step all true offset h outer) (array_with (length all) (value_at (length all) n) room bytes >>= λ x. Ok (array_value x.0, x.1)) (on_behind all h outer)
right_array all n offset room h outer bytes right is_bytes stands at within depth =
    goes_bind all _ (array_with (length all) (value_at (length all) n) room bytes) (λ x. Ok (array_value x.0, x.1)) (on_behind all h outer) (on_behind all h outer)
    (array_goes all n (value_at (length all) n) right (value_takes (length all) n) offset room h outer bytes depth is_bytes stands at within) (λ x e. same_leads all _ _ refl)

value_right : (all : List ℕ) (n : ℕ) → IsRight all n (value_at (length all) n)
unfolding value_at
value_right all zero type_byte offset room h outer bytes is_bytes stands at within some depth = scalar_goes all type_byte offset room h outer bytes is_bytes stands at within some (omega arith)
value_right all (suc n) types.Doc offset room h outer bytes is_bytes stands at within some depth = right_document all n offset room h outer bytes (value_right all n) is_bytes stands at within depth
value_right all (suc n) types.Array offset room h outer bytes is_bytes stands at within some depth = right_array all n offset room h outer bytes (value_right all n) is_bytes stands at within depth
value_right all (suc n) type_byte offset room h outer bytes is_bytes stands at within some depth = flat_goes all type_byte offset room h outer bytes tt is_bytes stands at within some

-- the outermost document
outermost_goes : (all : List ℕ) → AreBytes all → Goes all (first_step all) (document_at depth_inside all) (λ x. ends_at (length all - length x.1))
unfolding document_at document_with
outermost_goes all is_bytes =
    let start : Stands all all = ([], refl) in
    goes_bind all _ (length_at (length all) 5 0 length_limit all) (λ x. fields_with (length all) (value_at (length all) depth_inside) (length x.1 + 1) (x.0 - 4) x.1) (λ x. goes_on 4 (record { is_array = false; end = x.0 } ∷ [])) (λ x. ends_at (length all - length x.1))
    (length_goes all 5 0 length_limit 0 length_limit (λ k. goes_on 4 (record { is_array = false; end = k } ∷ [])) all start (omega arith) (omega arith))
    (λ x e.
    let t = length_takes (length all) 5 0 length_limit all x is_bytes e in
    let there = stands_length_behind all 5 0 0 length_limit x.0 all x.1 start (omega arith) t in
    let low : 5 ≤ x.0 = t.low in
    fields_goes all depth_inside (value_at (length all) depth_inside) (value_right all depth_inside) (value_takes (length all) depth_inside) (length x.1 + 1) 4 (x.0 - 4) (record { is_array = false; end = x.0 }) [] x.1 refl (omega arith) (AreBytes-rest all (to_le_bytes w32 x.0) x.1 t.parts is_bytes) there.0 (omega (arith, there.1)) (omega arith) (omega arith))

pub whole_goes : (all : List ℕ) → AreBytes all → Goes all (first_step all) (whole_at all) (λ x. ends_at x.1)
unfolding whole_at
whole_goes all is_bytes =
    goes_bind all _ (document_at depth_inside all) (λ x. Ok (x.0, length all - length x.1)) (λ x. ends_at (length all - length x.1)) (λ x. ends_at x.1) (outermost_goes all is_bytes) (λ x e. same_leads all _ _ refl)
