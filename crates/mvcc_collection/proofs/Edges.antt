-- A search between the edges of a span takes the keys inside it.
use Rattle.std.proofs.Common.{◌≡◌, ℕ, List, [], ◌∷◌, refl, sym, ap, ◌∙◌, subst, Ordering, Less, Equal, Greater}
use Rattle.std.specs.Prelude.{Bool, true, false, not, cond, ◌&&◌, None, filter, if◌then◌else◌}
use Rattle.std.specs.BTreeMap.{is_at}
use Rattle.std.specs.BTreeMap.Range.{IsLeBy, IsLtBy, is_from_start, is_past_end, range_contains, entries_between}
use Rattle.std.specs.Bound.{IsForward}
use Rattle.std.specs.declared.ops.Bound as edges
use Rattle.std.specs.declared.ops.Bound.TheVariants.{Included, Excluded, Unbounded}
use Rattle.std.specs.List.Sorted.{IsStrictlySortedBy}
use Rattle.std.specs.Map.{keys_of, values_of, lookup}
use Rattle.std.specs.Ordering.{is_eq, is_le, is_lt, is_gt, ordering_reverse}
use Rattle.std.proofs.lemmas.Cmp.{alike_right}
use Rattle.std.proofs.lemmas.List.Kept.{IsStrictlySortedBy-filter}
use Rattle.std.proofs.lemmas.Map.Entries.{lookup-filter-keys}
use Rattle.query_model.proofs.Entries.{equal_is, itself}
use Rattle.bson_values.specs.Tree.{Datum, min_key_value, max_key_value}
use Rattle.value_compare.specs.Keys.{Bound, min_bound, key_bound, max_bound, Span, range_span, point_span, order_bounds, is_key, inside}
use Rattle.value_compare.specs.Order.{order}
use Rattle.value_compare.proofs.Flat.{order_total}
use Rattle.history_model.specs.Documents.{ListsDocuments}
use Rattle.mvcc_collection.specs.Chains.{Past}
use Rattle.mvcc_collection.specs.Edges.{lower_edge, upper_edge, first_edge, last_edge, IsSpan}
use Rattle.mvcc_collection.proofs.Rows.{Entries, AreKeys, AreOrdered, at_found, no_key_found, rows_found, rows_ordered}
use Rattle.mvcc_collection.specs.Present.{rows_in}

above_all : (b : Bound) → order_bounds max_bound b ≡ Less → ⊥
above_all min_bound less = cc
above_all (key_bound key) less = none_above key less
  where
    none_above : (d : Datum) → order max_key_value d ≡ Less → ⊥
    none_above max_key_value less = cc
    none_above d less = cc
above_all max_bound less = cc

below_all : (b : Bound) → order_bounds b min_bound ≡ Less → ⊥
below_all min_bound less = cc
below_all (key_bound key) less = none_below key less
  where
    none_below : (d : Datum) → order d min_key_value ≡ Less → ⊥
    none_below min_key_value less = cc
    none_below d less = cc
below_all max_bound less = cc

least : (d : Datum) → is_le (order min_key_value d) ≡ true
least min_key_value = refl
least d = refl

-- a key is below the end of all keys
greatest : (d : Datum) → is_key d ≡ true → is_lt (order d max_key_value) ≡ true
greatest max_key_value key = absurd (cc key)
greatest d key = refl

from_edge : (low high : Bound) (q : Datum) → order_bounds low high ≡ Less → is_from_start order (lower_edge low) q ≡ is_le (order_bounds low (key_bound q))
from_edge min_bound high q less = sym (least q)
from_edge (key_bound key) high q less = refl
from_edge max_bound high q less = absurd (above_all high less)

turned : (a b : Ordering) → a ≡ ordering_reverse b → not (is_le a) ≡ is_lt b
turned a Less e = rw e refl
turned a Equal e = rw e refl
turned a Greater e = rw e refl

pub up_to_edge : (low high : Bound) (q : Datum) → order_bounds low high ≡ Less → is_key q ≡ true →
    not (is_past_end order (upper_edge high) q) ≡ is_lt (order_bounds (key_bound q) high)
up_to_edge low min_bound q less key = absurd (below_all low less)
up_to_edge low (key_bound b) q less key = turned (order b q) (order q b) (order_total.antisymm b q)
up_to_edge low max_bound q less key = sym (greatest q key)

pub up_to_edge_too : (low high : Bound) (q : Datum) → order_bounds low high ≡ Less → is_lt (order_bounds (key_bound q) high) ≡ true →
    not (is_past_end order (upper_edge high) q) ≡ true
up_to_edge_too low min_bound q less below = absurd (below_all low less)
up_to_edge_too low (key_bound b) q less below = turned (order b q) (order q b) (order_total.antisymm b q) ∙ below
up_to_edge_too low max_bound q less below = refl

both : (o : Ordering) → (is_le o && not (is_lt o)) ≡ is_eq o
both Less = refl
both Equal = refl
both Greater = refl

-- a key is between the edges where it is inside
pub key_between : (span : Span) (q : Datum) → IsSpan span → is_key q ≡ true → range_contains order (first_edge span) (last_edge span) q ≡ inside span q
key_between (range_span range) q forward key =
    ap (λ (b : Bool). b && not (is_past_end order (upper_edge range.max) q)) (from_edge range.min range.max q forward)
    ∙ ap (λ (b : Bool). is_le (order_bounds range.min (key_bound q)) && b) (up_to_edge range.min range.max q forward key)
key_between (point_span point) q forward key = both (order point q)

pub and_both : (a b : Bool) → (a && b) ≡ true → (a ≡ true) × (b ≡ true)
and_both true true e = (refl, refl)
and_both true false e = absurd (cc e)
and_both false b e = absurd (cc e)

-- what is inside is between the edges
pub inside_between : (span : Span) (q : Datum) → IsSpan span → inside span q ≡ true → range_contains order (first_edge span) (last_edge span) q ≡ true
inside_between (range_span range) q forward in_span =
    let parts = and_both (is_le (order_bounds range.min (key_bound q))) (is_lt (order_bounds (key_bound q) range.max)) in_span in
    rw (from_edge range.min range.max q forward ∙ parts.0, up_to_edge_too range.min range.max q forward parts.1) refl
inside_between (point_span point) q forward in_span = both (order point q) ∙ in_span

pub span_forward : (span : Span) → IsSpan span → IsForward (IsLeBy order) (IsLtBy order) (first_edge span) (last_edge span)
span_forward (range_span range) forward = of_range range.min range.max forward
  where
    of_range : (low high : Bound) → order_bounds low high ≡ Less → IsForward (IsLeBy order) (IsLtBy order) (lower_edge low) (upper_edge high)
    of_range min_bound high less = tt
    of_range max_bound high less = tt
    of_range (key_bound a) (key_bound b) less = ap is_gt less
    of_range (key_bound a) min_bound less = tt
    of_range (key_bound a) max_bound less = tt
span_forward (point_span point) forward = ap is_gt (itself order_total point)

from_alike : (low : edges.Bound Datum) (q k : Datum) → order q k ≡ Equal → is_from_start order low q ≡ is_from_start order low k
from_alike (Included a) q k same = ap is_le (alike_right order_total q k a same)
from_alike (Excluded a) q k same = ap is_lt (alike_right order_total q k a same)
from_alike Unbounded q k same = refl

past_alike : (high : edges.Bound Datum) (q k : Datum) → order q k ≡ Equal → is_past_end order high q ≡ is_past_end order high k
past_alike (Included a) q k same = ap is_lt (alike_right order_total q k a same)
past_alike (Excluded a) q k same = ap is_le (alike_right order_total q k a same)
past_alike Unbounded q k same = refl

contains_alike : (low high : edges.Bound Datum) (q k : Datum) → order q k ≡ Equal → range_contains order low high q ≡ range_contains order low high k
contains_alike low high q k same =
    ap (λ (b : Bool). b && not (is_past_end order high q)) (from_alike low q k same)
    ∙ ap (λ (b : Bool). is_from_start order low k && not b) (past_alike high q k same)

module _ (span : Span) (es between : Entries) (q : Datum) (chains : List Past) (time : ℕ) (forward : IsSpan span)
    (is : between ≡ entries_between order (first_edge span) (last_edge span) es) (keys : AreKeys between) where
  filtered : (b : Bool) → range_contains order (first_edge span) (last_edge span) q ≡ b →
      lookup (is_at (order q)) between ≡ cond b (lookup (is_at (order q)) es) None
  filtered b e =
      ap (λ (xs : Entries). lookup (is_at (order q)) xs) is
      ∙ lookup-filter-keys (is_at (order q)) (λ k. range_contains order (first_edge span) (last_edge span) k) b
      (λ k at. sym (contains_alike (first_edge span) (last_edge span) q k (equal_is (order q k) at)) ∙ e) es

  found_by : (b : Bool) → inside span q ≡ b → (key : Bool) → is_key q ≡ key →
      at_found chains time (lookup (is_at (order q)) between) ≡ (if b then at_found chains time (lookup (is_at (order q)) es) else None)
  found_by true in_span key e = ap (at_found chains time) (filtered true (inside_between span q forward in_span))
  found_by false out true e = ap (at_found chains time) (filtered false (key_between span q forward e ∙ out))
  found_by false out false e = ap (at_found chains time) (no_key_found q between keys e)

  -- the entries between the edges of a span have what the map has inside it, where their keys may be keys
  pub found_between : at_found chains time (lookup (is_at (order q)) between) ≡
      (if inside span q then at_found chains time (lookup (is_at (order q)) es) else None)
  found_between = found_by (inside span q) refl (is_key q) refl

kept_key : (p : Datum → Bool) (e : Datum × ℕ) (es : Entries) (ks : List Datum) (b : Bool) → keys_of es ≡ ks →
    keys_of (cond b (e ∷ es) es) ≡ cond b (e.0 ∷ ks) ks
kept_key p e es ks true same = ap (λ (rest : List Datum). e.0 ∷ rest) same
kept_key p e es ks false same = same

keys_filter : (p : Datum → Bool) (es : Entries) → keys_of (filter (λ e. p e.0) es) ≡ filter p (keys_of es)
keys_filter p [] = refl
keys_filter p (e ∷ es) = kept_key p e (filter (λ x. p x.0) es) (filter p (keys_of es)) (p e.0) (keys_filter p es)

between_ordered : (p : Datum → Bool) (es between : Entries) → between ≡ filter (λ e. p e.0) es → AreOrdered es → AreOrdered between
between_ordered p es between is ordered =
    subst AreOrdered (sym is) (subst (λ ks. IsStrictlySortedBy order ks) (sym (keys_filter p es)) (IsStrictlySortedBy-filter order p (keys_of es) ordered))

-- the documents of the entries between the edges are, in the order of keys, what is stored under the keys inside
pub lists_span : (span : Span) (es between : Entries) (chains : List Past) (time : ℕ) → IsSpan span →
    between ≡ entries_between order (first_edge span) (last_edge span) es → AreKeys between → AreOrdered es →
    ListsDocuments (λ k. if inside span k then at_found chains time (lookup (is_at (order k)) es) else None) (values_of (rows_in chains time between))
lists_span span es between chains time forward is keys ordered =
    let in_order = between_ordered (λ k. range_contains order (first_edge span) (last_edge span) k) es between is ordered in
    record {
      rows = rows_in chains time between;
      ordered = rows_ordered chains time between in_order;
      found = λ k. rows_found k chains time between in_order ∙ found_between span es between k chains time forward is keys;
      shown = refl;
    }
