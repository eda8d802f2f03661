-- The documents of a collection whose keys are in a span, and reads by them.
use Rattle.std.proofs.Common.{◌≡◌, ℕ, List, [], ◌∷◌, refl, sym, ap, subst, ◌∙◌, Ordering}
use Rattle.std.specs.Prelude.{Bool, true, false, cond, Option, Some, None, Result, Ok, Err, filter, nat_le, if◌then◌else◌}
use Rattle.std.specs.List.{AllByRecursion}
use Rattle.std.specs.List.Sorted.{IsStrictlySortedBy}
use Rattle.std.specs.Map.{values_of}
use Rattle.std.specs.Ordering.{is_eq}
use Rattle.std.specs.Str.{bytes_eq}
use Rattle.bson_model.proofs.Booleans.{both}
use Rattle.bson_model.specs.Tree.{Datum, Fields}
use Rattle.value_model.specs.Order.{order}
use Rattle.value_model.specs.Keys.{Span, inside_some, is_key, key_of, KeyFault, valid_key}
use Rattle.value_model.proofs.Flat.{order_total}
use Rattle.value_model.proofs.Spans.{same_is_key, same_inside_some}
use Rattle.query_model.specs.Effects.{HasSameKey, IsUnder}
use Rattle.query_model.specs.Edits.{same_key}
use Rattle.query_model.proofs.Entries.{equal_is, itself, AreAbove, above_never, same_find}
use Rattle.pipeline_model.specs.Halves.{may_stand_in}
use Rattle.history_model.specs.History.{Operation, key_written, effect, Entry, writes_to, document_after, document_left, document_at}
use Rattle.history_model.specs.Documents.{Rows, AreInOrder, document_under, documents_at, ListsDocuments}
use Rattle.history_model.proofs.Collections.{above_row, later_rows, lists_collection, none_in_order}
use Rattle.history_model.proofs.Keyed.{after_under, written_is_key}
use Rattle.history_model.proofs.LegalHistories.{valid_of}

-- KEYS

hit_is_key : (written : Option Datum) (operation : Operation) (key : Datum) → key_written operation ≡ written → same_key written (Some key) ≡ true
    → is_key key ≡ true
hit_is_key None operation key is same = absurd (cc)
hit_is_key (Some own) operation key is same = sym (same_is_key own key same) ∙ written_is_key operation own is

-- where a document is stored is a key
left_is_key : (namespace : List ℕ) (key : Datum) (document : Fields) (es : List Entry) → document_left namespace (Some key) es ≡ Some document → is_key key
    ≡ true
left_is_key namespace key document [] e = absurd (cc)
left_is_key namespace key document (d ∷ es) e = by_test (writes_to namespace (Some key) d) refl e (λ f. left_is_key namespace key document es f)
  where
    by_test : (b : Bool) → writes_to namespace (Some key) d ≡ b → document_after namespace (Some key) (if b then (effect d.operation None).0 else None) es
        ≡ Some document
        → (document_left namespace (Some key) es ≡ Some document → is_key key ≡ true) → is_key key ≡ true
    by_test true is e later = hit_is_key (key_written d.operation) d.operation key refl
        (both (bytes_eq d.namespace namespace) (same_key (key_written d.operation) (Some key)) is).1
    by_test false is e later = later e

-- a document is stored under its own key
pub record IsKeyed (key : Datum) (document : Fields) : Type 0 where
  pub is : is_key key ≡ true
  pub own : HasSameKey key document

keyed_at : (history : List Entry) (namespace : List ℕ) (time : ℕ) (key : Datum) (document : Fields) → document_at history namespace (Some key) time
    ≡ Some document → IsKeyed key document
keyed_at history namespace time key document stands =
    let es : List Entry = filter (λ (e : Entry). nat_le e.time time) history in
    let is : is_key key ≡ true = left_is_key namespace key document es stands in
    record { is = is; own = subst (λ (o : Option Fields). IsUnder key o) stands (after_under namespace key None es is tt) }

-- such a document may be in the spans in which its key is
keyed_inside : (span : List Span) (key : Datum) (document : Fields) → IsKeyed key document → may_stand_in span document ≡ inside_some span key
keyed_inside span key document keyed =
    let own : Datum = keyed.own.0 in
    let valid : valid_key document ≡ Ok own = valid_of document own keyed.own.1 (same_is_key own key keyed.own.2 ∙ keyed.is) in
    ap (λ (r : Result Datum KeyFault). elim r as (λ s. Bool) [ Ok k ↦ inside_some span k | Err fault ↦ true ]) valid ∙ same_inside_some span own key keyed.own.2

-- ROWS

abbrev AreKeyed : Rows → Type 0
AreKeyed rows = AllByRecursion (λ (row : Datum × Fields). IsKeyed row.0 row.1) rows

with_first : (row : Datum × Fields) (rows : Rows) → AreAbove order_total row.0 rows → AreInOrder rows → AreInOrder (row ∷ rows)
unfolding IsStrictlySortedBy
with_first row rows above ordered = (above, ordered)

-- what is found after the first row is found with it
found_behind : (q : Datum) (row : Datum × Fields) (rows : Rows) (document : Fields) → AreInOrder (row ∷ rows) → document_under q rows ≡ Some document
    → document_under q (row ∷ rows) ≡ Some document
found_behind q row rows document ordered found = by_test (is_eq (order q row.0)) refl
  where
    by_test : (b : Bool) → is_eq (order q row.0) ≡ b → cond b (Some row.1) (document_under q rows) ≡ Some document
    by_test true is =
        let none : document_under q rows ≡ None = same_find order_total q row.0 rows (equal_is (order q row.0) is)
        ∙ above_never order_total row.0 rows (above_row row rows ordered) in
        absurd (let e : None ≡ Some document = sym none ∙ found in cc)
    by_test false is = found

keyed_rows : (rows : Rows) → AreInOrder rows → ((q : Datum) (document : Fields) → document_under q rows ≡ Some document → IsKeyed q document) → AreKeyed rows
keyed_rows [] ordered keyed = tt
keyed_rows (row ∷ rows) ordered keyed = (
  keyed row.0 row.1 (ap (λ (r : Ordering). cond (is_eq r) (Some row.1) (document_under row.0 rows)) (itself order_total row.0)),
  keyed_rows rows (later_rows row rows ordered) (λ q document found. keyed q document (found_behind q row rows document ordered found)),
)

module _ (span : List Span) where
  abbrev in_span : Datum × Fields → Bool
  in_span row = inside_some span row.0

  filtered_values : (rows : Rows) → AreKeyed rows → filter (may_stand_in span) (values_of rows) ≡ values_of (filter in_span rows)
  filtered_values [] keyed = refl
  filtered_values (row ∷ rows) keyed =
      ap (λ (b : Bool). cond b (row.1 ∷ filter (may_stand_in span) (values_of rows)) (filter (may_stand_in span) (values_of rows)))
      (keyed_inside span row.0 row.1 keyed.0)
      ∙ by_test (in_span row) (filtered_values rows keyed.1)
    where
      by_test : (b : Bool) → filter (may_stand_in span) (values_of rows) ≡ values_of (filter in_span rows)
          → cond b (row.1 ∷ filter (may_stand_in span) (values_of rows)) (filter (may_stand_in span) (values_of rows))
          ≡ values_of (cond b (row ∷ filter in_span rows) (filter in_span rows))
      by_test true rest = ap (λ l. row.1 ∷ l) rest
      by_test false rest = rest

  above_filtered : (low : Datum) (rows : Rows) → AreAbove order_total low rows → AreAbove order_total low (filter in_span rows)
  above_filtered low [] above = tt
  above_filtered low (row ∷ rows) above = by_test (in_span row) (above_filtered low rows above.1)
    where
      by_test : (b : Bool) → AreAbove order_total low (filter in_span rows) → AreAbove order_total low
          (cond b (row ∷ filter in_span rows) (filter in_span rows))
      by_test true rest = (above.0, rest)
      by_test false rest = rest

  filtered_in_order : (rows : Rows) → AreInOrder rows → AreInOrder (filter in_span rows)
  filtered_in_order [] ordered = none_in_order
  filtered_in_order (row ∷ rows) ordered = by_test (in_span row) (filtered_in_order rows (later_rows row rows ordered))
    where
      by_test : (b : Bool) → AreInOrder (filter in_span rows) → AreInOrder (cond b (row ∷ filter in_span rows) (filter in_span rows))
      by_test true rest = with_first row (filter in_span rows) (above_filtered row.0 rows (above_row row rows ordered)) rest
      by_test false rest = rest

  if_none : (b : Bool) → None ≡ cond {A = Option Fields} b None None
  if_none true = refl
  if_none false = refl

  filtered_found : (q : Datum) (rows : Rows) → document_under q (filter in_span rows) ≡ cond (inside_some span q) (document_under q rows) None
  filtered_found q [] = if_none (inside_some span q)
  filtered_found q (row ∷ rows) = by_tests (in_span row) (is_eq (order q row.0)) refl refl (filtered_found q rows)
    where
      by_tests : (b c : Bool) → in_span row ≡ b → is_eq (order q row.0) ≡ c → document_under q (filter in_span rows)
          ≡ cond (inside_some span q) (document_under q rows) None
          → document_under q (cond b (row ∷ filter in_span rows) (filter in_span rows))
          ≡ cond (inside_some span q) (cond c (Some row.1) (document_under q rows)) None
      by_tests true true i s rest =
          ap (λ (d : Bool). cond d (Some row.1) (document_under q (filter in_span rows))) s
          ∙ ap (λ (d : Bool). cond d (Some row.1) None) (sym (same_inside_some span q row.0 s ∙ i))
      by_tests true false i s rest = ap (λ (d : Bool). cond d (Some row.1) (document_under q (filter in_span rows))) s ∙ rest
      by_tests false true i s rest =
          let out : inside_some span q ≡ false = same_inside_some span q row.0 s ∙ i in
          rest ∙ ap (λ (d : Bool). cond d (document_under q rows) None) out ∙ ap (λ (d : Bool). cond d (Some row.1) None) (sym out)
      by_tests false false i s rest = rest

  -- the documents of the span, as they are stored under keys
  pub listed_in_span : (history : List Entry) (namespace : List ℕ) (time : ℕ)
      → ListsDocuments (λ q. cond (inside_some span q) (document_at history namespace (Some q) time) None)
      (filter (may_stand_in span) (documents_at history namespace time))
  listed_in_span history namespace time =
      let all = lists_collection history namespace time in
      let keyed : AreKeyed all.rows = keyed_rows all.rows all.ordered (λ q document found. keyed_at history namespace time q document
      (sym (all.found q) ∙ found)) in
      record {
        rows = filter in_span all.rows;
        ordered = filtered_in_order all.rows all.ordered;
        found = λ q. filtered_found q all.rows ∙ ap (λ (o : Option Fields). cond (inside_some span q) o None) (all.found q);
        shown = ap (filter (may_stand_in span)) all.shown ∙ filtered_values all.rows keyed;
      }

-- A document that has a key.
abbrev pub HasKey : Fields → Type 0
HasKey document = (key : Datum) × (key_of document ≡ Some key) × (is_key key ≡ true)

keyed_values : (rows : Rows) → AreKeyed rows → AllByRecursion HasKey (values_of rows)
keyed_values [] keyed = tt
keyed_values (row ∷ rows) keyed =
    let own = keyed.0.own in
    ((own.0, own.1, same_is_key own.0 row.0 own.2 ∙ keyed.0.is), keyed_values rows keyed.1)

-- the documents of a collection have keys
pub documents_keyed : (history : List Entry) (namespace : List ℕ) (time : ℕ) → AllByRecursion HasKey (documents_at history namespace time)
documents_keyed history namespace time =
    let all = lists_collection history namespace time in
    subst (λ (l : List Fields). AllByRecursion HasKey l) (sym all.shown)
    (keyed_values all.rows (keyed_rows all.rows all.ordered (λ q document found. keyed_at history namespace time q document (sym (all.found q) ∙ found))))
