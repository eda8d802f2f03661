-- How long the encoding is of a document that was read.
use Rattle.std.proofs.Common.{◌≡◌, ℕ, ◌+◌, ◌*◌, ◌<◌, ◌≤◌, List, ◌++◌, length, take, ap, arith, length-append}
use Rattle.std.specs.Fmt.{decimal}
use Rattle.std.proofs.lemmas.Fmt.{length-decimal-le}
use Rattle.std.proofs.lemmas.List.{length-take-le}
use Rattle.bson_model.specs.Tree.{Datum, string_value, document_value, array_value, binary_value, object_id_value, boolean_value, date_value, null_value, int32_value, timestamp_value, int64_value, min_key_value, max_key_value, Items, no_items, item, Fields, no_fields, field}
use Rattle.bson_model.specs.Spelling.{type_byte_of, framed, element, written, written_value, written_items, written_fields}
use Rattle.bson_model.specs.Grammar.{ReadsValue, ReadsItems, ReadsFields, ReadsAs, IsWithinDepth}
use Rattle.bson_model.proofs.Lengths.{length-framed, length-element}
use Rattle.opmsg_model.specs.Requests.{IsKept}
use Rattle.opmsg_model.specs.MessageSizes.{IsSmall}

-- a value that was read from its one encoding
as_read : (bytes spelled : List ℕ) → bytes ≡ spelled → length spelled ≤ 5 * length bytes
as_read bytes spelled e = omega (arith, ap (λ (l : List ℕ). length l) e)

in_frame : (bytes body spelled : List ℕ) → bytes ≡ framed body → length spelled ≤ 5 * length body → length (framed spelled) ≤ 5 * length bytes
in_frame bytes body spelled e short =
    omega (arith, short, ap (λ (l : List ℕ). length l) e, length-framed body, length-framed spelled)

-- an element before others, by the length of its name
in_element : (kind : ℕ) (bytes name value rest index spelled others : List ℕ) → bytes ≡ element kind name value ++ rest → length index ≤ length name + 8 → length spelled ≤ 5 * length value → length others ≤ 5 * length rest → length (element kind index spelled ++ others) ≤ 5 * length bytes
in_element kind bytes name value rest index spelled others e near short more =
    omega (arith, near, short, more, ap (λ (l : List ℕ). length l) e, length-element kind name value, length-element kind index spelled, length-append (element kind name value) rest, length-append (element kind index spelled) others)

-- the bytes that follow an element
behind : (kind : ℕ) (bytes name value rest : List ℕ) → bytes ≡ element kind name value ++ rest → length bytes ≡ length name + length value + 2 + length rest
behind kind bytes name value rest e =
    omega (arith, ap (λ (l : List ℕ). length l) e, length-element kind name value, length-append (element kind name value) rest)

few_digits : (i : ℕ) → i < 100000000 → length (decimal i) ≤ 8
few_digits i low = length-decimal-le 8 i (omega arith) (omega (arith, low)) (omega (arith, low))

mutual
  value_short : (bytes : List ℕ) (d : Datum) → ReadsValue bytes d → length bytes ≤ 200000000 → length (written_value d) ≤ 5 * length bytes
  value_short bytes (string_value s) (e, utf8, low) few = as_read bytes (written_value (string_value s)) e
  value_short bytes (document_value ms) (body, e, low, reads) few =
      in_frame bytes body (written_fields ms) e (fields_short body ms reads (omega (arith, few, ap (λ (l : List ℕ). length l) e, length-framed body)))
  value_short bytes (array_value ds) (body, e, low, reads) few =
      in_frame bytes body (written_items 0 ds) e (items_short 0 body ds reads (omega (arith, few, ap (λ (l : List ℕ). length l) e, length-framed body)))
  value_short bytes (binary_value subtype content) (e, low) few = as_read bytes (written_value (binary_value subtype content)) e
  value_short bytes (object_id_value content) (e, twelve) few = as_read bytes content e
  value_short bytes (boolean_value b) e few = as_read bytes (written_value (boolean_value b)) e
  value_short bytes (date_value z) (e, fits) few = as_read bytes (written_value (date_value z)) e
  value_short bytes null_value e few = as_read bytes (written_value null_value) e
  value_short bytes (int32_value z) (e, fits) few = as_read bytes (written_value (int32_value z)) e
  value_short bytes (timestamp_value n) (e, low) few = as_read bytes (written_value (timestamp_value n)) e
  value_short bytes (int64_value z) (e, fits) few = as_read bytes (written_value (int64_value z)) e
  value_short bytes min_key_value e few = as_read bytes (written_value min_key_value) e
  value_short bytes max_key_value e few = as_read bytes (written_value max_key_value) e

  items_short : (i : ℕ) (bytes : List ℕ) (ds : Items) → ReadsItems bytes ds → 2 * i + length bytes ≤ 200000000 → length (written_items i ds) ≤ 5 * length bytes
  items_short i bytes no_items e few = omega arith
  items_short i bytes (item d ds) (name, value, rest, e, no_zero, reads, others) few =
      let size = behind (type_byte_of d) bytes name value rest e in
      let digits : length (decimal i) ≤ 8 = few_digits i (omega (arith, few, size)) in
      in_element (type_byte_of d) bytes name value rest (decimal i) (written_value d) (written_items (i + 1) ds) e (omega (arith, digits)) (value_short value d reads (omega (arith, few, size))) (items_short (i + 1) rest ds others (omega (arith, few, size)))

  fields_short : (bytes : List ℕ) (ms : Fields) → ReadsFields bytes ms → length bytes ≤ 200000000 → length (written_fields ms) ≤ 5 * length bytes
  fields_short bytes no_fields e few = omega arith
  fields_short bytes (field name d ms) (value, rest, e, no_zero, utf8, reads, others) few =
      let size = behind (type_byte_of d) bytes name value rest e in
      in_element (type_byte_of d) bytes name value rest name (written_value d) (written_fields ms) e (omega arith) (value_short value d reads (omega (arith, few, size))) (fields_short rest ms others (omega (arith, few, size)))

-- at most five times as long as what was read
pub written_short : (bytes : List ℕ) (ms : Fields) → ReadsAs bytes ms → length bytes ≤ 200000000 → length (written ms) ≤ 5 * length bytes
written_short bytes ms (body, e, low, reads) few =
    in_frame bytes body (written_fields ms) e (fields_short body ms reads (omega (arith, few, ap (λ (l : List ℕ). length l) e, length-framed body)))

pub kept_small : (bytes : List ℕ) (ms : Fields) → IsKept bytes ms → length bytes ≤ 48000000 → IsSmall ms
kept_small bytes ms (reads, depth) few = (depth, omega (arith, few, written_short bytes ms reads (omega (arith, few))))

-- a document that is a prefix of short bytes
pub prefix_small : (bytes : List ℕ) (n : ℕ) (ms : Fields) → length bytes ≤ 48000000 → n ≤ length bytes → ReadsAs (take n bytes) ms → IsWithinDepth ms → IsSmall ms
prefix_small bytes n ms few le reads depth = kept_small (take n bytes) ms (reads, depth) (omega (arith, few, le, length-take-le n bytes le))
