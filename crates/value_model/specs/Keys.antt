-- Keys, and which of them are in a span (MongoDB manual, "Document Field Order and the _id Field" and "Data
-- Partitioning with Chunks"): a range takes its least key and not its greatest.
use Rattle.std.specs.Prelude.{◌≡◌, Bool, true, false, ◌&&◌, List, [], ◌∷◌, Option, Some, None, Result, Ok, Err, codes, if◌then◌else◌}
use Rattle.std.specs.declared.cmp.Ordering.{Ordering}
use Rattle.std.specs.declared.cmp.Ordering.TheVariants.{Less}
use Rattle.std.specs.List.{list_any, AllByRecursion}
use Rattle.std.specs.Ordering.{on, is_le, is_lt}
use Rattle.bson_model.specs.Tree.{Datum, document_value, array_value, min_key_value, max_key_value, Fields, get}
use Rattle.value_model.specs.Order.{order, same_value}

-- a value that may be a key: none with values inside, and neither end of the order
abbrev pub is_key : Datum → Bool
is_key (document_value ms) = false
is_key (array_value ds) = false
is_key min_key_value = false
is_key max_key_value = false
is_key d = true

-- the key of a document is its first _id
abbrev pub key_of : Fields → Option Datum
key_of document = get (codes "_id") document

-- why a document can't be kept under a key: it has no _id, or its first _id is no key
pub data KeyFault : Type 0 where
  absent_key : KeyFault
  wrong_kind : KeyFault

-- the key to keep a document under, or why there is none
abbrev pub valid_key : Fields → Result Datum KeyFault
valid_key document = elim (key_of document) [ None ↦ Err absent_key | Some d ↦ if is_key d then Ok d else Err wrong_kind ]

-- where a range begins or ends: below all keys, at a key or above all keys
pub data Bound : Type 0 where
  min_bound : Bound
  key_bound : Datum → Bound
  max_bound : Bound

abbrev pub value_of_bound : Bound → Datum
value_of_bound min_bound = min_key_value
value_of_bound (key_bound key) = key
value_of_bound max_bound = max_key_value

abbrev pub order_bounds : Bound → Bound → Ordering
order_bounds = on value_of_bound order

-- from min, which is inside, to max, which is not
pub record Range : Type 0 where
  pub min : Bound
  pub max : Bound

abbrev pub IsRange : Range → Type 0
IsRange range = order_bounds range.min range.max ≡ Less

-- a range of keys, or one key
pub data Span : Type 0 where
  range_span : Range → Span
  point_span : Datum → Span

-- the key is in the span
abbrev pub inside : Span → Datum → Bool
inside (range_span range) key = is_le (order_bounds range.min (key_bound key)) && is_lt (order_bounds (key_bound key) range.max)
inside (point_span point) key = same_value point key

-- the key is in one of the spans
abbrev pub inside_some : List Span → Datum → Bool
inside_some spans key = list_any (λ span. inside span key) spans

-- each key inside the first is less than each inside the second
abbrev pub IsBefore : Span → Span → Type 0
IsBefore first second = (a b : Datum) → inside first a ≡ true → inside second b ≡ true → order a b ≡ Less

-- spans in the order of their keys, of which no two have a key in common
abbrev pub AreAscending : List Span → Type 0
AreAscending [] = Unit {0}
AreAscending (span ∷ spans) = AllByRecursion (IsBefore span) spans × AreAscending spans
