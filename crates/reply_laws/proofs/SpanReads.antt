-- What reads of a span may give, by the entries that write in it.
use Rattle.std.proofs.Common.{◌≡◌, ℕ, ◌<◌, ◌≤◌, List, [], ◌∷◌, ◌++◌, refl, sym, ap, subst, ◌∙◌}
use Rattle.std.specs.Prelude.{Bool, true, false, cond, not, ◌&&◌, ◌||◌, Option, Some, None, filter, IsPermutation}
use Rattle.std.specs.List.{AllByRecursion}
use Rattle.std.specs.List.Sorted.{IsStrictlySortedBy}
use Rattle.std.specs.Ordering.{is_eq}
use Rattle.std.specs.Str.{bytes_eq}
use Rattle.bson_model.proofs.Booleans.{is_false}
use Rattle.bson_model.specs.Tree.{Datum, Fields}
use Rattle.value_model.specs.Order.{order, same_value}
use Rattle.value_model.specs.Keys.{Span, point_span, inside_some}
use Rattle.value_model.proofs.Flat.{order_total}
use Rattle.value_model.proofs.Spans.{same_inside_some}
use Rattle.query_model.specs.Edits.{same_key}
use Rattle.query_model.proofs.Entries.{equal_turned}
use Rattle.pipeline_model.specs.Stages.{Stage}
use Rattle.pipeline_model.specs.Runs.{Outcome, Runs, Allows}
use Rattle.pipeline_model.specs.Halves.{may_stand_in}
use Rattle.pipeline_model.specs.Split.{span_of_stages, split}
use Rattle.pipeline_laws.proofs.OutsideSpan.{split_run_outside}
use Rattle.command_model.specs.Reading.{Reading}
use Rattle.history_model.specs.History.{key_written, effect, Entry, writes_to, document_left, document_at, Legal}
use Rattle.history_model.specs.Documents.{AreInOrder, documents_at, ListsDocuments}
use Rattle.history_model.proofs.Collections.{one_listing}
use Rattle.history_model.proofs.LegalHistories.{same_after}
use Rattle.reply_model.specs.Reads.{MayGive}
use Rattle.reply_facts.specs.Earlier.{found, touches}
use Rattle.reply_laws.proofs.FilteredOrders.{filter_permutes, others_behind, passed_again, one_order, no_order}
use Rattle.reply_laws.proofs.StandingDocuments.{up_to}
use Rattle.reply_laws.proofs.FoundDocuments.{WritesNone, WritesNoneBetween, last_left, nothing_left, stands_since}
use Rattle.reply_laws.proofs.SpanDocuments.{listed_in_span}

-- STAGES LOOK AT THE DOCUMENTS OF THEIR SPAN

module _ (stages : List Stage) where
  abbrev stands : Fields → Bool
  stands = may_stand_in (span_of_stages stages)

  -- what they allow of all documents they allow of those
  inside_allowed : (docs : List Fields) (out : Outcome) → Allows stages docs out → Allows stages (filter stands docs) out
  inside_allowed docs out allows = record {
    ordered = filter stands allows.ordered;
    permutes = filter_permutes stands docs allows.ordered allows.permutes;
    runs = (split_run_outside stages (split stages).0 (split stages).1 allows.ordered out refl).1 allows.runs;
  }

  -- and the other way round
  all_allowed : (docs : List Fields) (out : Outcome) → Allows stages (filter stands docs) out → Allows stages docs out
  all_allowed docs out allows =
      let all : List Fields = allows.ordered ++ filter (λ (d : Fields). not (stands d)) docs in
      let inside : Runs stages (filter stands allows.ordered) out = (split_run_outside stages (split stages).0
      (split stages).1 allows.ordered out refl).1 allows.runs in
      record {
        ordered = all;
        permutes = others_behind stands docs allows.ordered allows.permutes;
        runs = (split_run_outside stages (split stages).0 (split stages).1 all out refl).0
            (subst (λ (l : List Fields). Runs stages l out) (sym (passed_again stands docs allows.ordered)) inside);
      }

-- WHAT IS IN A SPAN

module _ (history : List Entry) (namespace : List ℕ) where
  abbrev under_in : List Span → ℕ → Datum → Option Fields
  under_in span time q = cond (inside_some span q) (document_at history namespace (Some q) time) None

  -- a document that is stored under a key of the span is written by no entry, where none touches the span
  never_written : (span : List Span) (written : Option Datum) (own : Bool) (q : Datum) → inside_some span q ≡ true
      → (own && elim written as (λ o. Bool) [ None ↦ false | Some key ↦ inside_some span key ]) ≡ false → (own && same_key written (Some q)) ≡ false
  never_written span written false q is none = refl
  never_written span None true q is none = refl
  never_written span (Some key) true q is none =
      is_false (same_value key q) (λ same. let e : true ≡ false = sym (same_inside_some span key q same ∙ is) ∙ none in cc)

  abbrev TouchesNone : List Span → ℕ → ℕ → List Entry → Type 0
  TouchesNone span before time es =
      AllByRecursion (λ (d : Entry). before < d.time → d.time ≤ time → (bytes_eq d.namespace namespace && elim (key_written d.operation) as
      (λ o. Bool) [ None ↦ false | Some key ↦ inside_some span key ]) ≡ false) es

  none_between : (span : List Span) (before time : ℕ) (q : Datum) → inside_some span q ≡ true → (es : List Entry) → TouchesNone span before time es
      → WritesNoneBetween namespace (Some q) before time es
  none_between span before time q is [] none = tt
  none_between span before time q is (d ∷ es) none = (
    (λ less most. never_written span (key_written d.operation) (bytes_eq d.namespace namespace) q is (none.0 less most)),
    none_between span before time q is es none.1,
  )

  same_under : (span : List Span) (before time : ℕ) → before ≤ time → TouchesNone span before time history → (q : Datum) (b : Bool) → inside_some span q ≡ b
      → under_in span time q ≡ under_in span before q
  same_under span before time less none q true is =
      ap (λ (o : Option Fields). cond (inside_some span q) o None) (stands_since namespace (Some q) history before time less
      (none_between span before time q is history none))
  same_under span before time less none q false is =
      ap (λ (b : Bool). cond b (document_at history namespace (Some q) time) None) is
      ∙ ap (λ (b : Bool). cond b (document_at history namespace (Some q) before) None) (sym is)

  -- so the documents of the span are the same
  same_documents : (span : List Span) (before time : ℕ) → before ≤ time → TouchesNone span before time history
      → filter (may_stand_in span) (documents_at history namespace time) ≡ filter (may_stand_in span) (documents_at history namespace before)
  same_documents span before time less none =
      let later = listed_in_span span history namespace time in
      one_listing (under_in span before) _ _
      (record {
        rows = later.rows;
        ordered = later.ordered;
        found = λ q. later.found q ∙ same_under span before time less none q (inside_some span q) refl;
        shown = later.shown;
      })
      (listed_in_span span history namespace before)

  -- at one key it is the document under that

  one_row : (key : Datum) (document : Fields) → AreInOrder ((key, document) ∷ [])
  unfolding IsStrictlySortedBy
  one_row key document = (tt, tt)

  no_row : AreInOrder []
  unfolding IsStrictlySortedBy
  no_row = tt

  or_none : (b : Bool) → (b || false) ≡ b
  or_none true = refl
  or_none false = refl

  alone_under : (key : Datum) (time : ℕ) (q : Datum) (b : Bool) → same_value key q ≡ b
      → cond (is_eq (order q key)) (document_at history namespace (Some key) time) None ≡ under_in (point_span key ∷ []) time q
  alone_under key time q b is =
      at_key b is ∙ ap (λ (c : Bool). cond c (document_at history namespace (Some q) time) None) (sym (or_none (same_value key q)))
    where
      at_key : (b : Bool) → same_value key q ≡ b
          → cond (is_eq (order q key)) (document_at history namespace (Some key) time) None
          ≡ cond (same_value key q) (document_at history namespace (Some q) time) None
      at_key true same =
          ap (λ (c : Bool). cond c (document_at history namespace (Some key) time) None) (equal_turned order_total q key)
          ∙ ap (λ (o : Option Fields). cond (same_value key q) o None) (same_after namespace (Some key) (Some q) same None (up_to time history))
      at_key false same =
          ap (λ (c : Bool). cond c (document_at history namespace (Some key) time) None) (equal_turned order_total q key)
          ∙ ap (λ (c : Bool). cond c (document_at history namespace (Some key) time) None) same
          ∙ ap (λ (c : Bool). cond c (document_at history namespace (Some q) time) None) (sym same)

  nothing_under : (b : Bool) (o : Option Fields) → o ≡ None → None ≡ cond b o None
  nothing_under true o none = sym none
  nothing_under false o none = refl

  found_listed : (key : Datum) (time : ℕ) (o : Option Fields) → document_at history namespace (Some key) time ≡ o
      → ListsDocuments (under_in (point_span key ∷ []) time) (found o)
  found_listed key time None is = record {
    rows = [];
    ordered = no_row;
    found = λ q.
        none_or (is_eq (order q key))
        ∙ ap (λ (o : Option Fields). cond (is_eq (order q key)) o None) (sym is)
        ∙ alone_under key time q (same_value key q) refl;
    shown = refl;
  }
    where
      none_or : (b : Bool) → None ≡ cond {A = Option Fields} b None None
      none_or true = refl
      none_or false = refl
  found_listed key time (Some document) is = record {
    rows = (key, document) ∷ [];
    ordered = one_row key document;
    found = λ q. ap (λ (o : Option Fields). cond (is_eq (order q key)) o None) (sym is) ∙ alone_under key time q (same_value key q) refl;
    shown = refl;
  }

  document_of_key : (key : Datum) (time : ℕ) → filter (may_stand_in (point_span key ∷ [])) (documents_at history namespace time)
      ≡ found (document_at history namespace (Some key) time)
  document_of_key key time =
      one_listing (under_in (point_span key ∷ []) time) _ _ (listed_in_span (point_span key ∷ []) history namespace time)
      (found_listed key time (document_at history namespace (Some key) time) refl)

-- WHAT READS MAY GIVE

one_way : (o : Option Fields) (ordered : List Fields) → IsPermutation (found o) ordered → ordered ≡ found o
one_way None ordered permutes = no_order ordered permutes
one_way (Some document) ordered permutes = one_order document ordered permutes

-- of one key, what its stages make of the document under it
pub runs_of_key : (history : List Entry) (reading : Reading) (key : Datum) (time : ℕ) (out : Outcome) → span_of_stages reading.stages ≡ point_span key ∷ []
    → MayGive history reading time out
    → Runs reading.stages (found (document_at history reading.namespace (Some key) time)) out
runs_of_key history reading key time out at gives =
    let inside = inside_allowed reading.stages (documents_at history reading.namespace time) out gives in
    let docs : filter (may_stand_in (span_of_stages reading.stages)) (documents_at history reading.namespace time)
    ≡ found (document_at history reading.namespace (Some key) time) =
    ap (λ (span : List Span). filter (may_stand_in span) (documents_at history reading.namespace time)) at ∙ document_of_key history reading.namespace key time in
    let same = one_way (document_at history reading.namespace (Some key) time) inside.ordered
    (subst (λ (l : List Fields). IsPermutation l inside.ordered) docs inside.permutes) in
    subst (λ (l : List Fields). Runs reading.stages l out) same inside.runs

pub runs_last : (earlier later : List Entry) (e : Entry) (reading : Reading) (key : Datum) (time : ℕ) (out : Outcome) → Legal (earlier ++ e ∷ later)
    → span_of_stages reading.stages ≡ point_span key ∷ [] → MayGive (earlier ++ e ∷ later) reading time out → e.time ≤ time
    → writes_to reading.namespace (Some key) e ≡ true
    → WritesNone reading.namespace (Some key) time later
    → Runs reading.stages (found (effect e.operation (document_left reading.namespace (Some key) earlier)).0) out
runs_last earlier later e reading key time out legal at gives early hits none =
    subst (λ (o : Option Fields). Runs reading.stages (found o) out) (last_left reading.namespace (Some key) earlier later e time legal early hits none)
    (runs_of_key (earlier ++ e ∷ later) reading key time out at gives)

pub runs_none : (history : List Entry) (reading : Reading) (key : Datum) (time : ℕ) (out : Outcome) → span_of_stages reading.stages ≡ point_span key ∷ []
    → MayGive history reading time out
    → WritesNone reading.namespace (Some key) time history → Runs reading.stages [] out
runs_none history reading key time out at gives none =
    subst (λ (o : Option Fields). Runs reading.stages (found o) out) (nothing_left reading.namespace (Some key) history time none)
    (runs_of_key history reading key time out at gives)

pub gives_before : (history : List Entry) (reading : Reading) (before time : ℕ) (out : Outcome) → MayGive history reading time out → before ≤ time
    → AllByRecursion (λ (d : Entry). before < d.time → d.time ≤ time → touches reading d ≡ false) history → MayGive history reading before out
gives_before history reading before time out gives less none =
    all_allowed reading.stages (documents_at history reading.namespace before) out
    (subst (λ (l : List Fields). Allows reading.stages l out) (same_documents history reading.namespace (span_of_stages reading.stages) before time less none)
    (inside_allowed reading.stages (documents_at history reading.namespace time) out gives))
