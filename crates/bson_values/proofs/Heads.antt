-- A field, and a value of an array, after what precedes it; and values without nested values, at any level.
use Rattle.std.proofs.Common.{◌≡◌, ℕ, zero, suc, ◌-◌, List, Option, Some, None, Result, Ok, Err, refl, ◌∙◌, ap}
use Rattle.bson_model.specs.Tree.{Datum, string_value}
use Rattle.bson_values.specs.declared.fault.BsonFault.{BsonFault}
use Rattle.bson_values.specs.declared.element_type.ElementType.{ElementType}
use Rattle.bson_values.specs.ReadFaults.{◌>>=◌}
use Rattle.bson_values.specs.declared.element_type.ElementType.TheVariants as types
use Rattle.bson_values.specs.Readers.{Reader, name_at, index_at, type_at, index_behind, item_head_at, field_behind, field_at, item_behind, item_at, string_at, scalar_at, value_at}

-- ---- fields

abbrev pub named_value : Reader → ElementType → List ℕ × ℕ × List ℕ → Result (Option (List ℕ × Datum) × List ℕ) BsonFault
named_value value_at k name = value_at k name.1 name.2 >>= λ value. Ok (Some (name.0, value.0), value.1)

pub field_behind_type : (total room : ℕ) (value_at : Reader) (bytes : List ℕ) (type_byte : Result (Option ElementType × List ℕ) BsonFault)
    (read : Result (Option (List ℕ × Datum) × List ℕ) BsonFault)
    → type_at total room bytes ≡ type_byte → (type_byte >>= λ k. field_behind total value_at room k.0 k.1) ≡ read → field_at total value_at room bytes ≡ read
unfolding field_at
field_behind_type total room value_at bytes type_byte read h e = rw h e

pub field_behind_name : (total room : ℕ) (value_at : Reader) (bytes rest : List ℕ) (k : ElementType) (name : Result (List ℕ × ℕ × List ℕ) BsonFault)
    (read : Result (Option (List ℕ × Datum) × List ℕ) BsonFault)
    → type_at total room bytes ≡ Ok (Some k, rest) → name_at total (room - 1) rest ≡ name → (name >>= named_value value_at k) ≡ read
    → field_at total value_at room bytes ≡ read
unfolding field_at field_behind
field_behind_name total room value_at bytes rest k name read h named e = rw (h, named) e

-- ---- values of an array

abbrev pub item_from : Reader → Option (ElementType × ℕ) → List ℕ → Result (Option Datum × List ℕ) BsonFault
item_from value_at None bytes = Ok (None, bytes)
item_from value_at (Some head) bytes = value_at head.0 head.1 bytes >>= λ value. Ok (Some value.0, value.1)

abbrev pub passed_value : Reader → ElementType → ℕ × List ℕ → Result (Option Datum × List ℕ) BsonFault
passed_value value_at k left = value_at k left.0 left.1 >>= λ value. Ok (Some value.0, value.1)

abbrev pub passed_head : ElementType → ℕ × List ℕ → Result (Option (ElementType × ℕ) × List ℕ) BsonFault
passed_head k left = Ok (Some (k, left.0), left.1)

by_index : (value_at : Reader) (k : ElementType) (n : Result (ℕ × List ℕ) BsonFault)
    → (n >>= passed_value value_at k) ≡ ((n >>= passed_head k) >>= λ h. item_from value_at h.0 h.1)
by_index value_at k (Ok x) = refl
by_index value_at k (Err e) = refl

item_by_type : (total room : ℕ) (value_at : Reader) (o : Option ElementType) (rest : List ℕ)
    → item_behind total value_at room o rest ≡ (index_behind total room o rest >>= λ h. item_from value_at h.0 h.1)
unfolding item_behind index_behind
item_by_type total room value_at None rest = refl
item_by_type total room value_at (Some k) rest = by_index value_at k (index_at total (room - 1) rest)

item_by_start : (total room : ℕ) (value_at : Reader) (t : Result (Option ElementType × List ℕ) BsonFault)
    → (t >>= λ k. item_behind total value_at room k.0 k.1) ≡ ((t >>= λ k. index_behind total room k.0 k.1) >>= λ h. item_from value_at h.0 h.1)
item_by_start total room value_at (Ok x) = item_by_type total room value_at x.0 x.1
item_by_start total room value_at (Err e) = refl

item_by_head : (total room : ℕ) (value_at : Reader) (bytes : List ℕ) → item_at total value_at room bytes ≡ (item_head_at total room bytes >>= λ h. item_from value_at h.0 h.1)
unfolding item_at item_head_at
item_by_head total room value_at bytes = item_by_start total room value_at (type_at total room bytes)

pub item_behind_head : (total room : ℕ) (value_at : Reader) (bytes : List ℕ) (head : Result (Option (ElementType × ℕ) × List ℕ) BsonFault)
    (read : Result (Option Datum × List ℕ) BsonFault)
    → item_head_at total room bytes ≡ head → (head >>= λ h. item_from value_at h.0 h.1) ≡ read → item_at total value_at room bytes ≡ read
item_behind_head total room value_at bytes head read h e =
    item_by_head total room value_at bytes
    ∙ (ap (λ (r : Result (Option (ElementType × ℕ) × List ℕ) BsonFault). r >>= λ h. item_from value_at h.0 h.1) h ∙ e)

-- values without nested values

pub int32_value_at : (total level room : ℕ) (bytes : List ℕ) → value_at total level types.Int32 room bytes ≡ scalar_at total types.Int32 room bytes
unfolding value_at
int32_value_at total zero room bytes = refl
int32_value_at total (suc level) room bytes = refl

pub text_value_at : (total level room : ℕ) (bytes : List ℕ) → value_at total level types.Text room bytes ≡ scalar_at total types.Text room bytes
unfolding value_at
text_value_at total zero room bytes = refl
text_value_at total (suc level) room bytes = refl

-- what a text is, once its string is read
pub text_behind_string : (total level room : ℕ) (bytes : List ℕ) (read : Result (List ℕ × List ℕ) BsonFault) → string_at total room bytes ≡ read → value_at total level types.Text room bytes ≡ (read >>= λ x. Ok (string_value x.0, x.1))
unfolding scalar_at
text_behind_string total level room bytes read h =
    text_value_at total level room bytes ∙ ap (λ (r : Result (List ℕ × List ℕ) BsonFault). r >>= λ x. Ok (string_value x.0, x.1)) h
