-- The keys that a query targets (MongoDB manual, "Targeted Operations vs. Broadcast Operations"; "Comparison Query Operators"). A query targets
-- one key by an equality on `_id` at the top of the query, and not inside an operator; of several the first is taken (own).
-- The documents of which a query holds have their keys in the query's span, a list of ranges and points: of `$eq`, `$in`, `$gt`, `$gte`, `$lt` and
-- `$lte` on `_id`, at the top and inside `$and`. The range goes from the greatest operand of `$gt` and `$gte` to the least of `$lt` and `$lte`. It has
-- its least key also where that is of `$gt`, and it does not end where another kind of values begins: other keys in it do no harm (own). The points are
-- the operands of the first `$eq` or `$in`, as far as they are in the range.
use Rattle.std.specs.Prelude.{[], ◌∷◌, ◌++◌, List, Bool, true, false, ◌&&◌, ◌||◌, Option, Some, None, codes, filter, map, if◌then◌else◌}
use Rattle.std.specs.BTreeSet.{insert_key}
use Rattle.std.specs.Option.{option_or}
use Rattle.std.specs.Ordering.{is_eq, is_gt, is_le, is_lt}
use Rattle.std.specs.Str.{bytes_eq}
use Rattle.bson_model.specs.Tree.{Datum}
use Rattle.value_model.specs.Keys.{Bound, min_bound, key_bound, max_bound, order_bounds, Span, range_span, point_span, is_key}
use Rattle.value_model.specs.Order.{order}
use Rattle.query_model.specs.Paths.{Path, elements}
use Rattle.query_model.specs.Queries.{Query, no_clauses, clause, Clause, path_clause, connective_clause, and_connective, Queries, no_queries, query, Tests, no_tests, test, Test, eq_test, gt_test, gte_test, lt_test, lte_test, in_test}

abbrev pub is_id : Path → Bool
is_id (part ∷ []) = bytes_eq part (codes "_id")
is_id path = false

-- the operand of the first `$eq`
abbrev pub equality_in : Tests → Option Datum
equality_in no_tests = None
equality_in (test (eq_test x) others) = Some x
equality_in (test first others) = equality_in others

-- the operand of the first equality on `_id`
abbrev pub key_asked : Query → Option Datum
key_asked no_clauses = None
key_asked (clause (path_clause path tests) others) = if is_id path then option_or (equality_in tests) (key_asked others) else key_asked others
key_asked (clause first others) = key_asked others

-- the same where it may be a key
abbrev pub key_equal : Query → Option Datum
key_equal asked = elim (key_asked asked) [ None ↦ None | Some x ↦ if is_key x then Some x else None ]

-- from below all keys to above all keys
abbrev pub whole_span : Span
whole_span = range_span (record { min = min_bound; max = max_bound })

-- what is known of the keys of documents
pub record KeyLimits : Type 0 where
  -- none is below
  pub least : Bound
  -- none is above
  pub greatest : Bound
  -- whether the greatest may be one of them
  pub with_greatest : Bool
  -- those that are named, if any are: each once, in order
  pub points : Option (List Datum)

abbrev pub no_limits : KeyLimits
no_limits = record { least = min_bound; greatest = max_bound; with_greatest = false; points = None }

-- what may be a key among those in order; one that compares equal stays
abbrev pub with_key : List Datum → Datum → List Datum
with_key keys x = if is_key x then insert_key order keys x else keys

abbrev pub with_keys : List Datum → List Datum → List Datum
with_keys keys [] = keys
with_keys keys (x ∷ xs) = with_keys (with_key keys x) xs

-- no key is below a value that may be a key
abbrev pub from_value : Datum → KeyLimits → KeyLimits
from_value x limits =
    if is_key x && is_lt (order_bounds limits.least (key_bound x))
    then record { least = key_bound x; greatest = limits.greatest; with_greatest = limits.with_greatest; points = limits.points }
    else limits

-- none is above it, and perhaps none is equal
abbrev pub up_to_value : Datum → Bool → KeyLimits → KeyLimits
up_to_value x with_it limits =
    if is_key x && is_gt (order_bounds limits.greatest (key_bound x))
    then record { least = limits.least; greatest = key_bound x; with_greatest = with_it; points = limits.points }
    else limits

-- they are among some values
abbrev pub among_values : List Datum → KeyLimits → KeyLimits
among_values xs limits = elim limits.points [
  | None ↦ record { least = limits.least; greatest = limits.greatest; with_greatest = limits.with_greatest; points = Some (with_keys [] xs) }
  | Some keys ↦ limits
]

-- what is known once a key passes a test
abbrev pub narrowed_by_test : Test → KeyLimits → KeyLimits
narrowed_by_test (eq_test x) limits = among_values (x ∷ []) limits
narrowed_by_test (in_test xs) limits = among_values (elements xs) limits
narrowed_by_test (gt_test x) limits = from_value x limits
narrowed_by_test (gte_test x) limits = from_value x limits
narrowed_by_test (lt_test x) limits = up_to_value x false limits
narrowed_by_test (lte_test x) limits = up_to_value x true limits
narrowed_by_test other limits = limits

abbrev pub narrowed_by_tests : Tests → KeyLimits → KeyLimits
narrowed_by_tests no_tests limits = limits
narrowed_by_tests (test first others) limits = narrowed_by_tests others (narrowed_by_test first limits)

abbrev mutual
  -- what is known once the query holds of the document
  pub narrowed_by : Query → KeyLimits → KeyLimits
  narrowed_by no_clauses limits = limits
  narrowed_by (clause first others) limits = narrowed_by others (narrowed_by_clause first limits)

  pub narrowed_by_clause : Clause → KeyLimits → KeyLimits
  narrowed_by_clause (path_clause path tests) limits = if is_id path then narrowed_by_tests tests limits else limits
  narrowed_by_clause (connective_clause and_connective inner) limits = narrowed_by_all inner limits
  narrowed_by_clause (connective_clause other inner) limits = limits

  pub narrowed_by_all : Queries → KeyLimits → KeyLimits
  narrowed_by_all no_queries limits = limits
  narrowed_by_all (query first others) limits = narrowed_by_all others (narrowed_by first limits)

-- a key is not outside the bounds
abbrev pub is_within : Bound → Bound → Bool → Datum → Bool
is_within least greatest with_greatest key =
    is_le (order_bounds least (key_bound key))
    && (is_gt (order_bounds greatest (key_bound key)) || (with_greatest && is_eq (order_bounds greatest (key_bound key))))

-- the range between two bounds, if one is below the other
abbrev pub range_between : Bound → Bound → List Span
range_between least greatest =
    if is_lt (order_bounds least greatest) then range_span (record { min = least; max = greatest }) ∷ [] else []

-- the point at a bound, if it is at a key
abbrev pub point_at : Bound → List Span
point_at (key_bound key) = point_span key ∷ []
point_at bound = []

abbrev pub spans_between : Bound → Bound → Bool → List Span
spans_between least greatest with_greatest =
    range_between least greatest ++ (if with_greatest && is_le (order_bounds least greatest) then point_at greatest else [])

-- where the keys are
abbrev pub spans_of : KeyLimits → List Span
spans_of limits = elim limits.points [
  | None ↦ spans_between limits.least limits.greatest limits.with_greatest
  | Some keys ↦ map point_span (filter (is_within limits.least limits.greatest limits.with_greatest) keys)
]

-- a span outside which the query holds of no document
abbrev pub span_of : Query → List Span
span_of asked = spans_of (narrowed_by asked no_limits)
