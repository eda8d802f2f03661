-- The first fault of bytes that encode no document, in the order of the bytes (BSON 1.1, "Specification": `document`,
-- `element`, `string`, `cstring`, `binary`; MongoDB manual, "MongoDB Limits and Thresholds": 100 levels). The bytes are
-- walked from left to right with a stack of the documents and arrays that are open, the innermost first. An offset counts
-- the bytes before it.
use Rattle.std.specs.Prelude.{ℕ, ◌+◌, ◌-◌, List, [], ◌∷◌, length, take, drop, slice_index, Bool, true, false, ◌||◌, Option, Some, None, nat_lt, nat_le, ◌==◌, if◌then◌else◌}
use Rattle.std.specs.Int.{w32, from_le_bytes}
use Rattle.std.specs.Option.{option_map}
use Rattle.std.specs.Str.{is_utf8}
use Rattle.bson_model.specs.Limits.{length_limit, most_depth_kept}

pub data Fault : Type 0 where
  -- the bytes end first
  short_fault : Fault
  -- a length is below the least one, or exceeds the document or array that it is in
  length_fault : Fault
  -- the type of an element is this byte, which is not supported
  type_fault : ℕ → Fault
  -- a text or a name has no 00 at its end or is not UTF-8
  string_fault : Fault
  -- a boolean is neither 00 nor 01
  boolean_fault : Fault
  -- a document or an array at depth 101
  depth_fault : Fault
  -- the last 00 of a document or an array is before its stated offset, or another byte is there
  trailing_fault : Fault

-- a document or an array that is open
pub record Holder : Type 0 where
  pub is_array : Bool
  -- the offset after its last byte, by its length
  pub end : ℕ

-- the stated offset of its last byte, which must be 00
abbrev pub last : Holder → ℕ
last h = h.end - 1

-- the result of a step
pub data Step : Type 0 where
  -- the next element, or the last 00, must be at this offset
  goes_on : ℕ → List Holder → Step
  -- the document ends before the offset
  ends_at : ℕ → Step
  faulty : Fault → ℕ → Step

-- the bytes of a value, by its type
pub data Form : Type 0 where
  -- this number of bytes, of any values
  fixed_form : ℕ → Form
  string_form : Form
  -- a document, or an array
  holder_form : Bool → Form
  binary_form : Form
  boolean_form : Form

-- the supported types
abbrev pub form_of : ℕ → Option Form
form_of b =
    if b == 0x02 then Some string_form
    else if b == 0x03 then Some (holder_form false)
    else if b == 0x04 then Some (holder_form true)
    else if b == 0x05 then Some binary_form
    else if b == 0x07 then Some (fixed_form 12)
    else if b == 0x08 then Some boolean_form
    else if b == 0x09 then Some (fixed_form 8)
    else if b == 0x0A then Some (fixed_form 0)
    else if b == 0x10 then Some (fixed_form 4)
    else if b == 0x11 then Some (fixed_form 8)
    else if b == 0x12 then Some (fixed_form 8)
    else if b == 0xFF then Some (fixed_form 0)
    else if b == 0x7F then Some (fixed_form 0)
    else None

-- the bytes before the first 00, if there is one
abbrev pub before_zero : List ℕ → Option (List ℕ)
before_zero [] = None
before_zero (b ∷ bytes) = if b == 0 then Some [] else option_map (λ name. b ∷ name) (before_zero bytes)

-- the innermost holder ends
abbrev pub closed : ℕ → List Holder → Step
closed offset [] = ends_at offset
closed offset (h ∷ outer) = goes_on offset (h ∷ outer)

module _ (bytes : List ℕ) where
  abbrev pub short : Step
  short = faulty short_fault (length bytes)

  -- a value of n bytes
  abbrev pub fixed_step : ℕ → ℕ → Holder → List Holder → Step
  fixed_step n offset h outer =
      if nat_lt h.end (offset + n) then (if nat_lt (length bytes) h.end then short else faulty trailing_fault (last h))
      else if nat_lt (length bytes) (offset + n) then short
      else goes_on (offset + n) (h ∷ outer)

  abbrev pub boolean_step : ℕ → Holder → List Holder → Step
  boolean_step offset h outer =
      if nat_le (length bytes) offset then short
      else if nat_lt (slice_index bytes offset) 2 then goes_on (offset + 1) (h ∷ outer)
      else faulty boolean_fault offset

  -- The length is at least `least`, and the value is `beside` bytes longer than its length states. It is not negative.
  abbrev pub stated_step : ℕ → ℕ → ℕ → ℕ → ℕ → (ℕ → Step) → Step
  stated_step least beside end offset n further =
      if nat_lt n least then faulty length_fault offset
      else if nat_le length_limit n then faulty length_fault offset
      else if nat_lt end (offset + (n + beside)) then faulty length_fault offset
      else further n

  -- four bytes that state a length: the step where they are cut, and the step where they are not
  abbrev pub length_step : ℕ → ℕ → ℕ → ℕ → Step → (ℕ → Step) → Step
  length_step least beside end offset cut further =
      if nat_le (length bytes) offset then short
      else if nat_lt end (offset + 5) then faulty length_fault offset
      else if nat_lt (length bytes) (offset + 4) then cut
      else stated_step least beside end offset (from_le_bytes w32 (take 4 (drop offset bytes))) further

  -- the n bytes of a text, including its last 00
  abbrev pub string_step : ℕ → ℕ → Holder → List Holder → Step
  string_step n offset h outer =
      if nat_lt (length bytes) (offset + n) then short
      else if slice_index bytes (offset + n - 1) == 0 then (if is_utf8 (take (n - 1) (drop offset bytes)) then goes_on (offset + n) (h ∷ outer) else faulty string_fault offset)
      else faulty string_fault offset

  -- the subtype and n bytes
  abbrev pub binary_step : ℕ → ℕ → Holder → List Holder → Step
  binary_step n offset h outer = if nat_lt (length bytes) (offset + (n + 1)) then short else goes_on (offset + (n + 1)) (h ∷ outer)

  -- A nested document or array. At depth 101 its length is checked first.
  abbrev pub holder_step : Bool → ℕ → Holder → List Holder → Step
  holder_step is_array offset h outer =
      if nat_lt (length (h ∷ outer)) most_depth_kept then length_step 5 0 h.end offset short (λ n. goes_on (offset + 4) (record { is_array = is_array; end = offset + n } ∷ h ∷ outer))
      else length_step 5 0 h.end offset (faulty depth_fault offset) (λ n. faulty depth_fault offset)

  abbrev pub value_step : Form → ℕ → Holder → List Holder → Step
  value_step (fixed_form n) offset h outer = fixed_step n offset h outer
  value_step string_form offset h outer = length_step 1 4 h.end offset short (λ n. string_step n (offset + 4) h outer)
  value_step (holder_form is_array) offset h outer = holder_step is_array offset h outer
  value_step binary_form offset h outer = length_step 0 5 h.end offset short (λ n. binary_step n (offset + 4) h outer)
  value_step boolean_form offset h outer = boolean_step offset h outer

  -- A name at an offset, and the value after it. The names in an array are free.
  abbrev pub named_step : Form → ℕ → Holder → List Holder → Option (List ℕ) → Step
  named_step form offset h outer None = if nat_lt (length bytes) h.end then short else faulty string_fault offset
  named_step form offset h outer (Some name) =
      if h.is_array || is_utf8 name then (if offset + length name == last h then faulty trailing_fault (last h) else value_step form (offset + (length name + 1)) h outer)
      else faulty string_fault offset

  -- an element whose type is at an offset
  abbrev pub typed_step : ℕ → Holder → List Holder → Option Form → Step
  typed_step offset h outer None = faulty (type_fault (slice_index bytes offset)) offset
  typed_step offset h outer (Some form) =
      if offset == last h then faulty trailing_fault (last h) else named_step form (offset + 1) h outer (before_zero (take (h.end - (offset + 1)) (drop (offset + 1) bytes)))

  -- an element, or the last 00 of the innermost holder
  abbrev pub element_step : ℕ → Holder → List Holder → Step
  element_step offset h outer =
      if nat_le h.end offset then faulty trailing_fault (last h)
      else if nat_le (length bytes) offset then short
      else if slice_index bytes offset == 0 then (if offset == last h then closed h.end outer else faulty trailing_fault offset)
      else typed_step offset h outer (form_of (slice_index bytes offset))

  -- the length of the outermost document
  abbrev pub first_step : Step
  first_step = length_step 5 0 length_limit 0 short (λ n. goes_on 4 (record { is_array = false; end = n } ∷ []))

  -- the end of the walk that begins with a step
  pub data Walks : Step → Step → Type 0 where
    walks_to_end : (offset : ℕ) → Walks (ends_at offset) (ends_at offset)
    walks_to_fault : (fault : Fault) (offset : ℕ) → Walks (faulty fault offset) (faulty fault offset)
    walks_on : (offset : ℕ) (h : Holder) (outer : List Holder) (outcome : Step) → Walks (element_step offset h outer) outcome → Walks (goes_on offset (h ∷ outer)) outcome

  -- the first fault, and its offset
  abbrev pub HasFirstFault : Fault → ℕ → Type 0
  HasFirstFault fault offset = Walks first_step (faulty fault offset)
