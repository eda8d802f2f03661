-- The documents of a collection that may be in a span are those that are stored under the keys inside it.
use Rattle.std.proofs.Common.{◌≡◌, ℕ, List, [], ◌∷◌, refl, sym, ap, subst, ◌∙◌}
use Rattle.std.specs.Prelude.{Bool, true, false, cond, Option, Some, None, Result, Ok, Err, filter, nat_le, if◌then◌else◌}
use Rattle.std.specs.List.Sorted.{IsStrictlySortedBy}
use Rattle.std.specs.Map.{keys_of, values_of}
use Rattle.std.proofs.lemmas.Map.Entries.{option_filter, lookup-filter-values}
use Rattle.std.proofs.lemmas.Map.Keys.{IsDistinct-from_sorted}
use Rattle.bson_values.specs.Tree.{Datum, Fields}
use Rattle.value_compare.specs.Keys.{Span, KeyFault, absent_key, inside_some, is_key, wrong_kind}
use Rattle.value_compare.specs.Order.{order, same_value}
use Rattle.value_model.proofs.Flat.{order_total}
use Rattle.value_model.proofs.Spans.{same_inside_some, same_is_key, same_value_equivalence}
use Rattle.query_model.specs.Effects.{IsUnder}
use Rattle.query_model.proofs.Entries.{AreAbove}
use Rattle.history_model.specs.Documents.{Rows, AreInOrder, document_under, documents_at, ListsDocuments}
use Rattle.history_model.proofs.Collections.{lists_collection, none_in_order, one_listing}
use Rattle.history_model.proofs.Keyed.{after_under}
use Rattle.node_model.specs.Halves.{may_stand_in}
use Rattle.node_model.specs.History.{Entry, document_at}
use Rattle.shard_store.proofs.Facts.{nothing_at}

-- rows whose documents pass a test
module _ (test : Fields → Bool) where
  abbrev kept : Rows → Rows
  kept rows = filter (λ (row : Datum × Fields). test row.1) rows

  shown_kept : (rows : Rows) → values_of (kept rows) ≡ filter test (values_of rows)
  shown_kept [] = refl
  shown_kept (row ∷ rows) = by (test row.1) (shown_kept rows)
    where
      by : (b : Bool) → values_of (kept rows) ≡ filter test (values_of rows) →
          values_of (cond b (row ∷ kept rows) (kept rows)) ≡ cond b (row.1 ∷ filter test (values_of rows)) (filter test (values_of rows))
      by true rest = ap (λ (documents : List Fields). row.1 ∷ documents) rest
      by false rest = rest

  above_kept : (low : Datum) (rows : Rows) → AreAbove order_total low rows → AreAbove order_total low (kept rows)
  above_kept low [] above = tt
  above_kept low (row ∷ rows) above = by (test row.1) (above_kept low rows above.1)
    where
      by : (b : Bool) → AreAbove order_total low (kept rows) → AreAbove order_total low (cond b (row ∷ kept rows) (kept rows))
      by true rest = (above.0, rest)
      by false rest = rest

  kept_in_order : (rows : Rows) → AreInOrder rows → AreInOrder (kept rows)
  unfolding IsStrictlySortedBy
  kept_in_order [] ordered = tt
  kept_in_order (row ∷ rows) ordered = by (test row.1) (kept_in_order rows ordered.1)
    where
      by : (b : Bool) → AreInOrder (kept rows) → AreInOrder (cond b (row ∷ kept rows) (kept rows))
      by true rest = (above_kept row.0 rows ordered.0, rest)
      by false rest = rest

  kept_found : (key : Datum) (rows : Rows) → AreInOrder rows → document_under key (kept rows) ≡ option_filter test (document_under key rows)
  kept_found key rows ordered = lookup-filter-values same_value_equivalence test key rows (IsDistinct-from_sorted order (keys_of rows) ordered)

same_either : (b : Bool) (x : Option Fields) → x ≡ (if b then x else x)
same_either true x = refl
same_either false x = refl

module _ (span : List Span) where
  inside_if_valid : (key k : Datum) (b : Bool) → is_key k ≡ b → b ≡ true → same_value k key ≡ true →
      elim (if b then Ok k else Err wrong_kind) as (λ r. Bool) [ Ok found ↦ inside_some span found | Err fault ↦ true ] ≡ inside_some span key
  inside_if_valid key k true is valid same = same_inside_some span k key same
  inside_if_valid key k false is valid same = absurd cc

  abbrev by_key : Option Datum → Bool
  by_key found =
      elim (elim found as (λ o. Result Datum KeyFault) [ None ↦ Err absent_key | Some d ↦ if is_key d then Ok d else Err wrong_kind ])
      as (λ r. Bool) [ Ok key ↦ inside_some span key | Err fault ↦ true ]

  -- a document that is stored under a key may be in the span where the key is inside
  stands_inside : (key : Datum) (document : Fields) → is_key key ≡ true → IsUnder key (Some document) → may_stand_in span document ≡ inside_some span key
  stands_inside key document valid under =
      ap by_key under.1 ∙ inside_if_valid key under.0 (is_key under.0) refl (same_is_key under.0 key under.2 ∙ valid) under.2

  module _ (entries : List Entry) (namespace : List ℕ) (time : ℕ) where
    is_valid : (key : Datum) (document : Fields) (b : Bool) → is_key key ≡ b → document_at entries namespace (Some key) time ≡ Some document → b ≡ true
    is_valid key document true is found = refl
    is_valid key document false is found = let nothing = nothing_at entries namespace key time is in absurd cc

    inside_found : (key : Datum) (found : Option Fields) → document_at entries namespace (Some key) time ≡ found →
        option_filter (may_stand_in span) found ≡ (if inside_some span key then found else None)
    inside_found key None is = same_either (inside_some span key) None
    inside_found key (Some document) is =
        let valid : is_key key ≡ true = is_valid key document (is_key key) refl is in
        let under : IsUnder key (Some document) =
        subst (λ (found : Option Fields). IsUnder key found) is
        (after_under namespace key None (filter (λ (e : Entry). nat_le e.time time) entries) valid tt) in
        ap (λ (b : Bool). cond b (Some document) None) (stands_inside key document valid under)

    lists_span : ListsDocuments (λ key. if inside_some span key then document_at entries namespace (Some key) time else None)
        (filter (may_stand_in span) (documents_at entries namespace time))
    lists_span =
        let all = lists_collection entries namespace time in
        record {
          rows = kept (may_stand_in span) all.rows;
          ordered = kept_in_order (may_stand_in span) all.rows all.ordered;
          found = λ key. kept_found (may_stand_in span) key all.rows all.ordered ∙ ap (option_filter (may_stand_in span)) (all.found key)
              ∙ inside_found key (document_at entries namespace (Some key) time) refl;
          shown = sym (shown_kept (may_stand_in span) all.rows ∙ ap (filter (may_stand_in span)) (sym all.shown));
        }

    -- what lists the documents under the keys inside lists those that may be in the span
    pub span_documents : (documents : List Fields) →
        ListsDocuments (λ key. if inside_some span key then document_at entries namespace (Some key) time else None) documents →
        documents ≡ filter (may_stand_in span) (documents_at entries namespace time)
    span_documents documents listed = one_listing _ documents _ listed lists_span

-- under each key the same is stored
pub same_listing : (under other : Datum → Option Fields) (documents : List Fields) → ((key : Datum) → under key ≡ other key) → ListsDocuments under documents →
    ListsDocuments other documents
same_listing under other documents same listed = record {
  rows = listed.rows;
  ordered = listed.ordered;
  found = λ key. listed.found key ∙ same key;
  shown = listed.shown;
}

-- where nothing is stored, nothing is listed
pub nothing_listed : (inside_it : Datum → Bool) (under : Datum → Option Fields) (documents : List Fields) → ((key : Datum) → under key ≡ None) →
    documents ≡ [] → ListsDocuments (λ key. if inside_it key then under key else None) documents
nothing_listed inside_it under documents none no_documents = record {
  rows = [];
  ordered = none_in_order;
  found = λ key. same_either (inside_it key) None ∙ ap (λ (found : Option Fields). if inside_it key then found else None) (sym (none key));
  shown = no_documents;
}
