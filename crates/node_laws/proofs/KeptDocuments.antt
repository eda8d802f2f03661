-- The documents of a collection at a time: which entries count for them, and whose they are.
use Rattle.std.proofs.Common.{◌≡◌, ℕ, ◌≤◌, List, [], ◌∷◌, ◌++◌, refl, sym, ap, subst, ◌∙◌, arith, Bool}
use Rattle.std.specs.Prelude.{Option, Some, None, IfSome, true, false, filter, nat_le, ◌==◌, if◌then◌else◌}
use Rattle.std.specs.List.{All, AllByRecursion}
use Rattle.std.specs.Map.{values_of}
use Rattle.std.specs.Str.{bytes_eq}
use Rattle.std.proofs.lemmas.Bool.{leb-true}
use Rattle.std.proofs.lemmas.Cmp.{eq_by_cmp_equiv}
use Rattle.std.proofs.lemmas.List.Elements.{All-head, All-tail, filter-append}
use Rattle.std.proofs.lemmas.Map.Keys.{IsDistinct-from_sorted}
use Rattle.std.proofs.lemmas.Map.Views.{All-values_from_lookup}
use Rattle.std.proofs.lemmas.Slice.Eq.{bytes_eq-Decides}
use Rattle.bson_model.proofs.Booleans.{both}
use Rattle.value_model.specs.Order.{order, same_value}
use Rattle.value_model.specs.Keys.{is_key, key_of}
use Rattle.value_model.proofs.Spans.{same_is_key}
use Rattle.value_model.proofs.Flat.{order_total}
use Rattle.query_model.specs.Effects.{HasSameKey, IsUnder}
use Rattle.history_model.specs.Documents.{document_under, row_written, rows_after, rows_at, documents_at}
use Rattle.history_model.proofs.Collections.{lists_collection}
use Rattle.history_model.proofs.Keyed.{after_under, written_is_key}
use Rattle.history_model.proofs.Lists.{all_weaken}
use Rattle.bson_model.specs.Tree.{Datum, Fields}
use Rattle.chunk_model.specs.Changes.{Change}
use Rattle.chunk_model.specs.Placement.{owner}
use Rattle.chunk_model.specs.Tables.{first_shard}
use Rattle.history_model.specs.History.{key_written, same_key, writes_to, effect, Entry, document_after}
use Rattle.reply_model.specs.OneHistory.{IsPlaced}
use Rattle.reply_model.specs.Right.{WasCreated}
use Rattle.reply_model.specs.Reads.{is_on, is_owned, owned_by}
use Rattle.node_laws.proofs.Views.{MovesNothing}
use Rattle.node_laws.proofs.CatalogueTables.{owned_from}
use Rattle.node_laws.proofs.Lists.{all_filtered}

-- WHICH ENTRIES COUNT

-- an entry counts for a collection at a time where it is not above the time, and of the collection
abbrev pub Counts : (namespace : List ℕ) → (time : ℕ) → Entry → Type 0
Counts namespace time e = (e.time ≤ time) × (e.namespace ≡ namespace)

not_own : (e : Entry) (written : Option Datum) (rows : List (Datum × Fields)) → row_written false e written rows ≡ rows
not_own e None rows = refl
not_own e (Some key) rows = refl

-- the entries that are not above a time
abbrev pub up_to : ℕ → List Entry → List Entry
up_to time entries = filter (λ (e : Entry). nat_le e.time time) entries

-- an entry that does not count changes nothing
pub one_uncounted : (namespace : List ℕ) (time : ℕ) (rows : List (Datum × Fields)) (e : Entry) (more : List Entry) → ¬ Counts namespace time e
    → rows_after namespace rows (up_to time (e ∷ more)) ≡ rows_after namespace rows (up_to time more)
one_uncounted namespace time rows e more not_it = by_time (nat_le e.time time) refl
  where
    by_name : (b : Bool) → bytes_eq e.namespace namespace ≡ b → nat_le e.time time ≡ true
        → rows_after namespace (row_written b e (key_written e.operation) rows) (up_to time more) ≡ rows_after namespace rows (up_to time more)
    by_name true h g = absurd (not_it (leb-true _ _ g, (bytes_eq-Decides e.namespace namespace).0 h))
    by_name false h g = ap (λ l. rows_after namespace l (up_to time more)) (not_own e (key_written e.operation) rows)

    by_time : (b : Bool) → nat_le e.time time ≡ b
        → rows_after namespace rows (if b then e ∷ up_to time more else up_to time more) ≡ rows_after namespace rows (up_to time more)
    by_time true g = by_name (bytes_eq e.namespace namespace) refl g
    by_time false g = refl

none_count : (namespace : List ℕ) (time : ℕ) (rows : List (Datum × Fields)) (more : List Entry) → AllByRecursion (λ e. ¬ Counts namespace time e) more
    → rows_after namespace rows (up_to time more) ≡ rows
none_count namespace time rows [] all = refl
none_count namespace time rows (e ∷ more) all = one_uncounted namespace time rows e more all.0 ∙ none_count namespace time rows more all.1

rows_joined : (namespace : List ℕ) (rows : List (Datum × Fields)) (xs ys : List Entry)
    → rows_after namespace rows (xs ++ ys) ≡ rows_after namespace (rows_after namespace rows xs) ys
rows_joined namespace rows [] ys = refl
rows_joined namespace rows (x ∷ xs) ys = rows_joined namespace (row_written (bytes_eq x.namespace namespace) x (key_written x.operation) rows) xs ys

-- entries that don't count change nothing
pub documents_unchanged : (namespace : List ℕ) (time : ℕ) (history more : List Entry) → AllByRecursion (λ e. ¬ Counts namespace time e) more
    → documents_at (history ++ more) namespace time ≡ documents_at history namespace time
documents_unchanged namespace time history more all =
    ap (λ l. values_of (rows_after namespace [] l)) (filter-append (λ (e : Entry). nat_le e.time time) history more)
    ∙ ap (λ l. values_of l) (rows_joined namespace [] (filter (λ (e : Entry). nat_le e.time time) history) (filter (λ (e : Entry). nat_le e.time time) more))
    ∙ ap (λ l. values_of l) (none_count namespace time (rows_at history namespace time) more all)

-- WHOSE DOCUMENTS THEY ARE

-- a document has a key that may be one, in a collection that was created by the time
pub record IsStanding (changes : List Change) (namespace : List ℕ) (time : ℕ) (document : Fields) : Type 0 where
  pub key : Datum
  pub created : WasCreated changes namespace time
  pub own : key_of document ≡ Some key
  pub valid : is_key key ≡ true

-- where a document is stored under a key, an entry wrote it
written_by : (P : Entry → Type 0) (namespace : List ℕ) (key : Option Datum) (es : List Entry) (document : Fields) → AllByRecursion P es
    → document_after namespace key None es ≡ Some document → (e : Entry) × P e × (writes_to namespace key e ≡ true)
written_by P namespace key [] document all found = absurd (cc)
written_by P namespace key (e ∷ es) document all found =
    by_hit (writes_to namespace key e) refl found (λ f. written_by P namespace key es document all.1 f)
  where
    by_hit : (b : Bool) → writes_to namespace key e ≡ b → document_after namespace key (if b then (effect e.operation None).0 else None) es ≡ Some document
        → (document_after namespace key None es ≡ Some document → (d : Entry) × P d × (writes_to namespace key d ≡ true))
        → (d : Entry) × P d × (writes_to namespace key d ≡ true)
    by_hit true h found later = (e, all.0, h)
    by_hit false h found later = later found

key_is_same : (written : Option Datum) (own key : Datum) → written ≡ Some own → same_key written (Some key) ≡ true → same_value own key ≡ true
key_is_same written own key is same = sym (ap (λ o. same_key o (Some key)) is) ∙ same

module _ (changes : List Change) (history : List Entry) (namespace : List ℕ) (time : ℕ) (placed : AllByRecursion (IsPlaced changes) history) where
  found_stands : (q : Datum) (document : Fields) → document_after namespace (Some q) None (filter (λ (e : Entry). nat_le e.time time) history) ≡ Some document
      → IsStanding changes namespace time document
  found_stands q document found =
      let w = written_by (λ e. IsPlaced changes e × (nat_le e.time time ≡ true)) namespace (Some q)
      (filter (λ (e : Entry). nat_le e.time time) history) document
      (all_filtered (IsPlaced changes) (λ (e : Entry). nat_le e.time time) history placed) found in
      let p = w.1.0 in
      let hits = both (bytes_eq w.0.namespace namespace) (same_key (key_written w.0.operation) (Some q)) w.2 in
      let same : same_value p.key q ≡ true = key_is_same (key_written w.0.operation) p.key q p.writes hits.1 in
      let valid : is_key q ≡ true = sym (same_is_key p.key q same) ∙ written_is_key w.0.operation p.key p.writes in
      let under : HasSameKey q document = subst (λ o. IsUnder q o) found
      (after_under namespace q None (filter (λ (e : Entry). nat_le e.time time) history) valid tt) in
      let early : w.0.time ≤ time = leb-true _ _ w.1.1 in
      let before = p.before in
      record {
        key = under.0;
        created = record {
          creation = p.creation;
          begun = p.begun;
          name = p.name ∙ (bytes_eq-Decides w.0.namespace namespace).0 hits.0;
          before = omega arith;
        };
        own = under.1;
        valid = same_is_key under.0 q under.2 ∙ valid;
      }

  -- each document that is stored at a time
  pub all_stand : AllByRecursion (IsStanding changes namespace time) (documents_at history namespace time)
  all_stand =
      let listed = lists_collection history namespace time in
      subst (λ l. AllByRecursion (IsStanding changes namespace time) l) (sym listed.shown)
      (each (values_of listed.rows)
      (All-values_from_lookup (eq_by_cmp_equiv order_total) (IsStanding changes namespace time) listed.rows
      (IsDistinct-from_sorted order _ listed.ordered) (λ q. by_found q (document_under q listed.rows) (listed.found q))))
    where
      by_found : (q : Datum) (o : Option Fields) → o ≡ document_after namespace (Some q) None (filter (λ (e : Entry). nat_le e.time time) history)
          → IfSome o (IsStanding changes namespace time)
      by_found q None e = tt
      by_found q (Some document) e = found_stands q document (sym e)

      each : (documents : List Fields) → All (IsStanding changes namespace time) documents → AllByRecursion (IsStanding changes namespace time) documents
      each [] all = tt
      each (d ∷ documents) all = (
        All-head (IsStanding changes namespace time) d documents all,
        each documents
            (All-tail (IsStanding changes namespace time) d documents all),
      )

-- the first shard owned each
owned_at_first : (changes : List Change) (namespace : List ℕ) (shard time : ℕ) (document : Fields) → AllByRecursion MovesNothing changes
    → IsStanding changes namespace time document → is_owned changes namespace shard time document ≡ (first_shard == shard)
owned_at_first changes namespace shard time document still s =
    ap (λ (o : Option Datum). is_on shard (elim o as (λ (x : Option Datum). Option ℕ) [ None ↦ None | Some k ↦ owner namespace k time changes ])) s.own
    ∙ ap (λ o. is_on shard o) (owned_from changes still namespace s.key time s.created)

abbrev pub AreOwned : List Change → (namespace : List ℕ) → (shard time : ℕ) → List Fields → Type 0
AreOwned changes namespace shard time documents = AllByRecursion (λ d. is_owned changes namespace shard time d ≡ (first_shard == shard)) documents

pub all_owned : (changes : List Change) (history : List Entry) (namespace : List ℕ) (shard time : ℕ) → AllByRecursion MovesNothing changes
    → AllByRecursion (IsPlaced changes) history → AreOwned changes namespace shard time (documents_at history namespace time)
all_owned changes history namespace shard time still placed =
    all_weaken (IsStanding changes namespace time) (λ d. is_owned changes namespace shard time d ≡ (first_shard == shard))
    (documents_at history namespace time)
    (λ d s. owned_at_first changes namespace shard time d still s)
    (all_stand changes history namespace time placed)

same_filter : {X : Type 0} (P Q : X → Bool) (t : Bool) (xs : List X) → AllByRecursion (λ x. P x ≡ t) xs → AllByRecursion (λ x. Q x ≡ t) xs
    → filter P xs ≡ filter Q xs
same_filter P Q t [] p q = refl
same_filter P Q t (x ∷ xs) p q =
    ap (λ (b : Bool). if b then x ∷ filter P xs else filter P xs) p.0
    ∙ ap (λ l. if t then x ∷ l else l) (same_filter P Q t xs p.1 q.1)
    ∙ sym (ap (λ (b : Bool). if b then x ∷ filter Q xs else filter Q xs) q.0)

-- what a shard owned of them is the same by more changes
pub owned_same : (old new : List Change) (namespace : List ℕ) (shard time : ℕ) (documents : List Fields) → AreOwned old namespace shard time documents
    → AreOwned new namespace shard time documents → owned_by new namespace shard time documents ≡ owned_by old namespace shard time documents
owned_same old new namespace shard time documents a b =
    same_filter (is_owned new namespace shard time) (is_owned old namespace shard time) (first_shard == shard) documents b a

filter_all : {X : Type 0} (P : X → Bool) (xs : List X) → AllByRecursion (λ x. P x ≡ true) xs → filter P xs ≡ xs
filter_all P [] all = refl
filter_all P (x ∷ xs) all = ap (λ (b : Bool). if b then x ∷ filter P xs else filter P xs) all.0 ∙ ap (λ l. x ∷ l) (filter_all P xs all.1)

-- the first shard owned all
pub owned_by_first : (changes : List Change) (history : List Entry) (namespace : List ℕ) (time : ℕ) → AllByRecursion MovesNothing changes
    → AllByRecursion (IsPlaced changes) history
    → owned_by changes namespace first_shard time (documents_at history namespace time) ≡ documents_at history namespace time
owned_by_first changes history namespace time still placed =
    filter_all (is_owned changes namespace first_shard time) (documents_at history namespace time)
    (all_owned changes history namespace first_shard time still placed)
