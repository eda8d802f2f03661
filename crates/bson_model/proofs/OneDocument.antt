-- Bytes encode at most one document: the bytes before a part of an encoding determine where the part ends.
use Rattle.std.proofs.Common.{◌≡◌, ℕ, ◌+◌, ◌<◌, ◌^◌, List, [], ◌∷◌, ◌++◌, length, refl, sym, ap, ◌∙◌, arith, length-append, append_assoc}
use Rattle.std.specs.Prelude.{ℤ, FitsSigned}
use Rattle.std.specs.Int.{w32, w64, to_le_bytes, from_le_bytes, cast_unsigned, cast_signed}
use Rattle.std.proofs.lemmas.Nat.{from_le_bytes-to_le_bytes_4, from_le_bytes-to_le_bytes_8}
use Rattle.std.proofs.lemmas.Int.{to_z-of_z}
use Rattle.std.proofs.Math.Facts.{Fits-of_z}
use Rattle.std.proofs.lemmas.List.{append_cancel_right}
use Rattle.bson_model.specs.Tree.{Datum, string_value, document_value, array_value, binary_value, object_id_value, boolean_value, date_value, null_value, int32_value, timestamp_value, int64_value, min_key_value, max_key_value, Items, no_items, item, Fields, no_fields, field}
use Rattle.bson_model.specs.Spelling.{type_byte_of, string, framed, element, boolean_byte}
use Rattle.bson_model.specs.Grammar.{HasNoZero, ReadsValue, ReadsItems, ReadsFields, ReadsAs}
use Rattle.bson_model.proofs.Parts.{same_prefix, same_boolean}

-- a name ends at its first 00
same_name : (s t xs ys : List ℕ) → HasNoZero s → HasNoZero t → s ++ 0 ∷ xs ≡ t ++ 0 ∷ ys → (s ≡ t) × (xs ≡ ys)
same_name [] [] xs ys p q e = (refl, cc)
same_name [] (b ∷ t) xs ys p q e = absurd (q.0 (cc))
same_name (a ∷ s) [] xs ys p q e = absurd (p.0 (cc))
same_name (a ∷ s) (b ∷ t) xs ys p q e =
    let others = same_name s t xs ys p.1 q.1 (cc) in
    let first : a ≡ b = cc in
    (cc, others.1)

same_number : (n m : ℕ) (xs ys : List ℕ) → n < 2 ^ 32 → m < 2 ^ 32 → to_le_bytes w32 n ++ xs ≡ to_le_bytes w32 m ++ ys → (n ≡ m) × (xs ≡ ys)
same_number n m xs ys p q e =
    let prefix = same_prefix (to_le_bytes w32 n) (to_le_bytes w32 m) xs ys refl e in
    (sym (from_le_bytes-to_le_bytes_4 n p) ∙ ap (λ (l : List ℕ). from_le_bytes w32 l) prefix.0 ∙ from_le_bytes-to_le_bytes_4 m q, prefix.1)

same_wide : (n m : ℕ) (xs ys : List ℕ) → n < 2 ^ 64 → m < 2 ^ 64 → to_le_bytes w64 n ++ xs ≡ to_le_bytes w64 m ++ ys → (n ≡ m) × (xs ≡ ys)
same_wide n m xs ys p q e =
    let prefix = same_prefix (to_le_bytes w64 n) (to_le_bytes w64 m) xs ys refl e in
    (sym (from_le_bytes-to_le_bytes_8 n p) ∙ ap (λ (l : List ℕ). from_le_bytes w64 l) prefix.0 ∙ from_le_bytes-to_le_bytes_8 m q, prefix.1)

same_signed : (n m : ℤ) (xs ys : List ℕ) → FitsSigned w32 n → FitsSigned w32 m → to_le_bytes w32 (cast_unsigned w32 n) ++ xs ≡ to_le_bytes w32 (cast_unsigned w32 m) ++ ys → (n ≡ m) × (xs ≡ ys)
same_signed n m xs ys p q e =
    let prefix = same_number (cast_unsigned w32 n) (cast_unsigned w32 m) xs ys (Fits-of_z p).fits (Fits-of_z q).fits e in
    (sym (to_z-of_z w32 n p) ∙ ap (λ (k : ℕ). cast_signed w32 k) prefix.0 ∙ to_z-of_z w32 m q, prefix.1)

same_wide_signed : (n m : ℤ) (xs ys : List ℕ) → FitsSigned w64 n → FitsSigned w64 m → to_le_bytes w64 (cast_unsigned w64 n) ++ xs ≡ to_le_bytes w64 (cast_unsigned w64 m) ++ ys → (n ≡ m) × (xs ≡ ys)
same_wide_signed n m xs ys p q e =
    let prefix = same_wide (cast_unsigned w64 n) (cast_unsigned w64 m) xs ys (Fits-of_z p).fits (Fits-of_z q).fits e in
    (sym (to_z-of_z w64 n p) ∙ ap (λ (k : ℕ). cast_signed w64 k) prefix.0 ∙ to_z-of_z w64 m q, prefix.1)

-- what is between a length and a 00
same_ended : (s t xs ys : List ℕ) → length s ≡ length t → (s ++ 0 ∷ []) ++ xs ≡ (t ++ 0 ∷ []) ++ ys → (s ≡ t) × (xs ≡ ys)
same_ended s t xs ys same e =
    let prefix = same_prefix (s ++ 0 ∷ []) (t ++ 0 ∷ []) xs ys (omega (arith, length-append s (0 ∷ []), length-append t (0 ∷ []))) e in
    (append_cancel_right s t (0 ∷ []) prefix.0, prefix.1)

same_string : (s t xs ys : List ℕ) → length s + 1 < 2 ^ 31 → length t + 1 < 2 ^ 31 → string s ++ xs ≡ string t ++ ys → (s ≡ t) × (xs ≡ ys)
same_string s t xs ys p q e =
    let number = same_number (length s + 1) (length t + 1) ((s ++ 0 ∷ []) ++ xs) ((t ++ 0 ∷ []) ++ ys) (omega arith) (omega arith) e in
    same_ended s t xs ys (omega (arith, number.0)) number.1

same_framed : (s t xs ys : List ℕ) → length s + 5 < 2 ^ 31 → length t + 5 < 2 ^ 31 → framed s ++ xs ≡ framed t ++ ys → (s ≡ t) × (xs ≡ ys)
same_framed s t xs ys p q e =
    let number = same_number (length s + 5) (length t + 5) ((s ++ 0 ∷ []) ++ xs) ((t ++ 0 ∷ []) ++ ys) (omega arith) (omega arith) e in
    same_ended s t xs ys (omega (arith, number.0)) number.1

same_binary : (subtype other : ℕ) (s t xs ys : List ℕ) → length s < 2 ^ 31 → length t < 2 ^ 31 → (to_le_bytes w32 (length s) ++ (subtype ∷ s)) ++ xs ≡ (to_le_bytes w32 (length t) ++ (other ∷ t)) ++ ys → (subtype ≡ other) × (s ≡ t) × (xs ≡ ys)
same_binary subtype other s t xs ys p q e =
    let number = same_number (length s) (length t) (subtype ∷ (s ++ xs)) (other ∷ (t ++ ys)) (omega arith) (omega arith) e in
    let prefix = same_prefix s t xs ys number.0 (cc (number.1)) in
    (cc (number.1), prefix.0, prefix.1)

-- an element's type, its name and what follows
same_element : (k m : ℕ) (s t v w xs ys : List ℕ) → HasNoZero s → HasNoZero t → element k s v ++ xs ≡ element m t w ++ ys → (k ≡ m) × (s ≡ t) × (v ++ xs ≡ w ++ ys)
same_element k m s t v w xs ys p q e =
    let tail : (s ++ 0 ∷ v) ++ xs ≡ (t ++ 0 ∷ w) ++ ys = cc in
    let name = same_name s t (v ++ xs) (w ++ ys) p q (sym (append_assoc s (0 ∷ v) xs) ∙ tail ∙ append_assoc t (0 ∷ w) ys) in
    (cc, name.0, name.1)

mutual
  one_value : (d f : Datum) (bs cs xs ys : List ℕ) → ReadsValue bs d → ReadsValue cs f → type_byte_of d ≡ type_byte_of f → bs ++ xs ≡ cs ++ ys → (d ≡ f) × (xs ≡ ys)
  one_value (string_value s) (string_value t) bs cs xs ys r q k e =
      let same = same_string s t xs ys r.2 q.2 (ap (λ (b : List ℕ). b ++ xs) (sym r.0) ∙ e ∙ ap (λ (b : List ℕ). b ++ ys) q.0) in
      (ap string_value same.0, same.1)
  one_value (document_value ms) (document_value ns) bs cs xs ys r q k e =
      let same = same_framed r.0 q.0 xs ys r.2 q.2 (ap (λ (b : List ℕ). b ++ xs) (sym r.1) ∙ e ∙ ap (λ (b : List ℕ). b ++ ys) q.1) in
      (ap document_value (one_fields ms ns r.0 q.0 r.3 q.3 same.0), same.1)
  one_value (array_value ds) (array_value fs) bs cs xs ys r q k e =
      let same = same_framed r.0 q.0 xs ys r.2 q.2 (ap (λ (b : List ℕ). b ++ xs) (sym r.1) ∙ e ∙ ap (λ (b : List ℕ). b ++ ys) q.1) in
      (ap array_value (one_items ds fs r.0 q.0 r.3 q.3 same.0), same.1)
  one_value (binary_value subtype s) (binary_value other t) bs cs xs ys r q k e =
      let same = same_binary subtype other s t xs ys r.1 q.1 (ap (λ (b : List ℕ). b ++ xs) (sym r.0) ∙ e ∙ ap (λ (b : List ℕ). b ++ ys) q.0) in
      let subtypes = same.0 in
      let contents = same.1 in
      (cc, same.2)
  one_value (object_id_value s) (object_id_value t) bs cs xs ys r q k e =
      let same = same_prefix s t xs ys (r.1 ∙ sym q.1) (ap (λ (b : List ℕ). b ++ xs) (sym r.0) ∙ e ∙ ap (λ (b : List ℕ). b ++ ys) q.0) in
      (ap object_id_value same.0, same.1)
  one_value (boolean_value a) (boolean_value b) bs cs xs ys r q k e =
      let same : boolean_byte a ∷ xs ≡ boolean_byte b ∷ ys = ap (λ (b : List ℕ). b ++ xs) (sym r) ∙ e ∙ ap (λ (b : List ℕ). b ++ ys) q in
      (ap boolean_value (same_boolean a b (cc)), cc)
  one_value (date_value n) (date_value m) bs cs xs ys r q k e =
      let same = same_wide_signed n m xs ys r.1 q.1 (ap (λ (b : List ℕ). b ++ xs) (sym r.0) ∙ e ∙ ap (λ (b : List ℕ). b ++ ys) q.0) in
      (ap date_value same.0, same.1)
  one_value null_value null_value bs cs xs ys r q k e = (refl, ap (λ (b : List ℕ). b ++ xs) (sym r) ∙ e ∙ ap (λ (b : List ℕ). b ++ ys) q)
  one_value (int32_value n) (int32_value m) bs cs xs ys r q k e =
      let same = same_signed n m xs ys r.1 q.1 (ap (λ (b : List ℕ). b ++ xs) (sym r.0) ∙ e ∙ ap (λ (b : List ℕ). b ++ ys) q.0) in
      (ap int32_value same.0, same.1)
  one_value (timestamp_value n) (timestamp_value m) bs cs xs ys r q k e =
      let same = same_wide n m xs ys r.1 q.1 (ap (λ (b : List ℕ). b ++ xs) (sym r.0) ∙ e ∙ ap (λ (b : List ℕ). b ++ ys) q.0) in
      (ap timestamp_value same.0, same.1)
  one_value (int64_value n) (int64_value m) bs cs xs ys r q k e =
      let same = same_wide_signed n m xs ys r.1 q.1 (ap (λ (b : List ℕ). b ++ xs) (sym r.0) ∙ e ∙ ap (λ (b : List ℕ). b ++ ys) q.0) in
      (ap int64_value same.0, same.1)
  one_value min_key_value min_key_value bs cs xs ys r q k e = (refl, ap (λ (b : List ℕ). b ++ xs) (sym r) ∙ e ∙ ap (λ (b : List ℕ). b ++ ys) q)
  one_value max_key_value max_key_value bs cs xs ys r q k e = (refl, ap (λ (b : List ℕ). b ++ xs) (sym r) ∙ e ∙ ap (λ (b : List ℕ). b ++ ys) q)
  one_value d f bs cs xs ys r q k e = absurd (omega (arith, k))

  one_items : (ds fs : Items) (bs cs : List ℕ) → ReadsItems bs ds → ReadsItems cs fs → bs ≡ cs → ds ≡ fs
  one_items no_items no_items bs cs r q e = refl
  one_items no_items (item f fs) bs cs r q e =
      let clash = sym r ∙ e ∙ q.3 in
      cc
  one_items (item d ds) no_items bs cs r q e =
      let clash = sym r.3 ∙ e ∙ q in
      cc
  one_items (item d ds) (item f fs) bs cs r q e =
      let first = same_element (type_byte_of d) (type_byte_of f) r.0 q.0 r.1 q.1 r.2 q.2 r.4 q.4 (sym r.3 ∙ e ∙ q.3) in
      let value = one_value d f r.1 q.1 r.2 q.2 r.5 q.5 first.0 first.2 in
      let others = one_items ds fs r.2 q.2 r.6 q.6 value.1 in
      let same = value.0 in
      cc

  one_fields : (ms ns : Fields) (bs cs : List ℕ) → ReadsFields bs ms → ReadsFields cs ns → bs ≡ cs → ms ≡ ns
  one_fields no_fields no_fields bs cs r q e = refl
  one_fields no_fields (field t f ns) bs cs r q e =
      let clash = sym r ∙ e ∙ q.2 in
      cc
  one_fields (field s d ms) no_fields bs cs r q e =
      let clash = sym r.2 ∙ e ∙ q in
      cc
  one_fields (field s d ms) (field t f ns) bs cs r q e =
      let first = same_element (type_byte_of d) (type_byte_of f) s t r.0 q.0 r.1 q.1 r.3 q.3 (sym r.2 ∙ e ∙ q.2) in
      let value = one_value d f r.0 q.0 r.1 q.1 r.5 q.5 first.0 first.2 in
      let others = one_fields ms ns r.1 q.1 r.6 q.6 value.1 in
      let names = first.1 in
      let same = value.0 in
      cc

-- the same bytes encode the same document
pub one_document : (bytes : List ℕ) (a b : Fields) → ReadsAs bytes a → ReadsAs bytes b → a ≡ b
one_document bytes a b r q =
    let same = same_framed r.0 q.0 [] [] r.2 q.2 (ap (λ (l : List ℕ). l ++ []) (sym r.1 ∙ q.1)) in
    one_fields a b r.0 q.0 r.3 q.3 same.0
