-- The documents of a collection in the order of keys are the document under each key, and there is one such list.
use Rattle.std.proofs.Common.{◌≡◌, ℕ, List, [], ◌∷◌, refl, sym, ap, ◌∙◌, Ordering, Less, Equal, Greater}
use Rattle.std.specs.Prelude.{Bool, true, false, cond, ◌&&◌, Option, Some, None, filter, nat_le, if◌then◌else◌}
use Rattle.std.specs.List.Sorted.{IsStrictlySortedBy}
use Rattle.std.specs.Map.{keys_of, values_of}
use Rattle.std.specs.Ordering.{is_eq}
use Rattle.std.specs.Str.{bytes_eq}
use Rattle.bson_model.specs.Tree.{Datum, Fields}
use Rattle.value_model.specs.Order.{order, same_value}
use Rattle.value_model.proofs.Flat.{order_total}
use Rattle.query_model.proofs.Entries.{equal_is, turned, equal_turned, itself, AreAbove, above_more, above_never, sorted_insert, sorted_remove, same_find, find_insert, find_remove}
use Rattle.query_model.specs.Edits.{same_key}
use Rattle.history_model.specs.History.{Entry, key_written, effect, writes_to, document_after, document_at}
use Rattle.history_model.specs.Documents.{Rows, AreInOrder, document_under, put_under, row_written, rows_after, rows_at, documents_at, ListsDocuments}

put_in_order : (key : Datum) (document : Option Fields) (rows : Rows) → AreInOrder rows → AreInOrder (put_under key document rows)
put_in_order key (Some document) rows ordered = sorted_insert order_total key document rows ordered
put_in_order key None rows ordered = sorted_remove order_total (λ k. is_eq (order key k)) rows ordered

put_found : (key q : Datum) (document : Option Fields) (rows : Rows) → AreInOrder rows →
    document_under q (put_under key document rows) ≡ cond (same_value key q) document (document_under q rows)
put_found key q (Some document) rows ordered = find_insert order_total q key document rows ∙ ap (λ (b : Bool). cond b (Some document) (document_under q rows)) (equal_turned order_total q key)
put_found key q None rows ordered = find_remove order_total q key rows ordered

-- the effect of one entry on the document under a key
by_same : (same : Bool) (key q : Datum) (e : Entry) (rows : Rows) → same_value key q ≡ same →
    cond same (effect e.operation (document_under key rows)).0 (document_under q rows) ≡ (if same then (effect e.operation (document_under q rows)).0 else document_under q rows)
by_same true key q e rows is = ap (λ (before : Option Fields). (effect e.operation before).0) (same_find order_total key q rows (equal_is (order key q) is))
by_same false key q e rows is = refl

never_own : (own : Bool) (x y : Option Fields) → (if own && false then x else y) ≡ y
never_own true x y = refl
never_own false x y = refl

row_found : (own : Bool) (e : Entry) (written : Option Datum) (q : Datum) (rows : Rows) → AreInOrder rows →
    document_under q (row_written own e written rows) ≡ (if own && same_key written (Some q) then (effect e.operation (document_under q rows)).0 else document_under q rows)
row_found own e None q rows ordered = sym (never_own own (effect e.operation (document_under q rows)).0 (document_under q rows))
row_found false e (Some key) q rows ordered = refl
row_found true e (Some key) q rows ordered =
    put_found key q (effect e.operation (document_under key rows)).0 rows ordered ∙ by_same (same_value key q) key q e rows refl

row_in_order : (own : Bool) (e : Entry) (written : Option Datum) (rows : Rows) → AreInOrder rows → AreInOrder (row_written own e written rows)
row_in_order own e None rows ordered = ordered
row_in_order false e (Some key) rows ordered = ordered
row_in_order true e (Some key) rows ordered = put_in_order key (effect e.operation (document_under key rows)).0 rows ordered

after_in_order : (namespace : List ℕ) (rows : Rows) (es : List Entry) → AreInOrder rows → AreInOrder (rows_after namespace rows es)
after_in_order namespace rows [] ordered = ordered
after_in_order namespace rows (e ∷ es) ordered =
    after_in_order namespace (row_written (bytes_eq e.namespace namespace) e (key_written e.operation) rows) es (row_in_order (bytes_eq e.namespace namespace) e (key_written e.operation) rows ordered)

after_found : (namespace : List ℕ) (q : Datum) (rows : Rows) (es : List Entry) → AreInOrder rows →
    document_under q (rows_after namespace rows es) ≡ document_after namespace (Some q) (document_under q rows) es
after_found namespace q rows [] ordered = refl
after_found namespace q rows (e ∷ es) ordered =
    after_found namespace q (row_written (bytes_eq e.namespace namespace) e (key_written e.operation) rows) es (row_in_order (bytes_eq e.namespace namespace) e (key_written e.operation) rows ordered)
    ∙ ap (λ (before : Option Fields). document_after namespace (Some q) before es) (row_found (bytes_eq e.namespace namespace) e (key_written e.operation) q rows ordered)

pub none_in_order : AreInOrder []
unfolding IsStrictlySortedBy
none_in_order = tt

-- the list has the document under each key at the time
pub lists_collection : (history : List Entry) (namespace : List ℕ) (time : ℕ) →
    ListsDocuments (λ key. document_at history namespace (Some key) time) (documents_at history namespace time)
lists_collection history namespace time = record {
  rows = rows_at history namespace time;
  ordered = after_in_order namespace [] (filter (λ (e : Entry). nat_le e.time time) history) none_in_order;
  found = λ key. after_found namespace key [] (filter (λ (e : Entry). nat_le e.time time) history) none_in_order;
  shown = refl;
}

-- Two ordered lists of rows that find the same document under each key are the same.

first_found : (q : Datum) (row : Datum × Fields) (rows : Rows) → order q row.0 ≡ Equal → document_under q (row ∷ rows) ≡ Some row.1
first_found q row rows same = ap (λ (r : Ordering). cond (is_eq r) (Some row.1) (document_under q rows)) same

first_passed : (q : Datum) (row : Datum × Fields) (rows : Rows) → is_eq (order q row.0) ≡ false → document_under q (row ∷ rows) ≡ document_under q rows
first_passed q row rows other = ap (λ (b : Bool). cond b (Some row.1) (document_under q rows)) other

never_found : (document : Fields) (found : Option Fields) → found ≡ Some document → found ≡ None → ⊥
never_found document None some none = absurd cc
never_found document (Some d) some none = absurd cc

pub above_row : (row : Datum × Fields) (rows : Rows) → AreInOrder (row ∷ rows) → AreAbove order_total row.0 rows
unfolding IsStrictlySortedBy
above_row row rows ordered = ordered.0

pub later_rows : (row : Datum × Fields) (rows : Rows) → AreInOrder (row ∷ rows) → AreInOrder rows
unfolding IsStrictlySortedBy
later_rows row rows ordered = ordered.1

-- what is found under a lesser key
below_finds : (q : Datum) (row : Datum × Fields) (rows : Rows) → AreInOrder (row ∷ rows) → order q row.0 ≡ Less → document_under q (row ∷ rows) ≡ None
below_finds q row rows ordered less =
    first_passed q row rows (ap is_eq less) ∙ above_never order_total q rows (above_more order_total q row.0 rows less (above_row row rows ordered))

-- what is found under the first key among the later ones
behind_finds : (q : Datum) (row : Datum × Fields) (rows : Rows) → AreInOrder (row ∷ rows) → order q row.0 ≡ Equal → document_under q rows ≡ None
behind_finds q row rows ordered same = same_find order_total q row.0 rows same ∙ above_never order_total row.0 rows (above_row row rows ordered)

some_is : (c d : Fields) → Some c ≡ Some d → c ≡ d
some_is c d e = cc

module _ (a b : Datum × Fields) (r s : Rows) (first : AreInOrder (a ∷ r)) (second : AreInOrder (b ∷ s)) (same : (q : Datum) → document_under q (a ∷ r) ≡ document_under q (b ∷ s)) where
  heads : order a.0 b.0 ≡ Equal → a.1 ≡ b.1
  heads e = some_is a.1 b.1 (sym (first_found a.0 a r (itself order_total a.0)) ∙ same a.0 ∙ first_found a.0 b s e)

  rests_by : (q : Datum) (at : Bool) → is_eq (order q a.0) ≡ at → order a.0 b.0 ≡ Equal → document_under q r ≡ document_under q s
  rests_by q true is e =
      let at_a : order q a.0 ≡ Equal = equal_is (order q a.0) is in
      behind_finds q a r first at_a ∙ sym (behind_finds q b s second (order_total.congr q a.0 b.0 at_a ∙ e))
  rests_by q false is e =
      let other : is_eq (order q b.0) ≡ false = equal_turned order_total q b.0 ∙ sym (ap is_eq (order_total.congr a.0 b.0 q e)) ∙ equal_turned order_total a.0 q ∙ is in
      sym (first_passed q a r is) ∙ same q ∙ first_passed q b s other

  which_first : (o : Ordering) → order a.0 b.0 ≡ o → (((q : Datum) → document_under q r ≡ document_under q s) → values_of r ≡ values_of s) →
      values_of (a ∷ r) ≡ values_of (b ∷ s)
  which_first Less is rest =
      absurd (never_found a.1 (document_under a.0 (b ∷ s)) (sym (same a.0) ∙ first_found a.0 a r (itself order_total a.0)) (below_finds a.0 b s second is))
  which_first Greater is rest =
      absurd (never_found b.1 (document_under b.0 (a ∷ r)) (same b.0 ∙ first_found b.0 b s (itself order_total b.0)) (below_finds b.0 a r first (turned order_total a.0 b.0 is)))
  which_first Equal is rest =
      ap (λ (d : Fields). d ∷ values_of r) (heads is) ∙ ap (λ (ds : List Fields). b.1 ∷ ds) (rest (λ q. rests_by q (is_eq (order q a.0)) refl is))

one_list : (r s : Rows) → AreInOrder r → AreInOrder s → ((q : Datum) → document_under q r ≡ document_under q s) → values_of r ≡ values_of s
one_list [] [] first second same = refl
one_list [] (b ∷ s) first second same = absurd (never_found b.1 (document_under b.0 (b ∷ s)) (first_found b.0 b s (itself order_total b.0)) (sym (same b.0)))
one_list (a ∷ r) [] first second same = absurd (never_found a.1 (document_under a.0 (a ∷ r)) (first_found a.0 a r (itself order_total a.0)) (same a.0))
one_list (a ∷ r) (b ∷ s) first second same =
    which_first a b r s first second same (order a.0 b.0) refl (λ rest. one_list r s (later_rows a r first) (later_rows b s second) rest)

pub one_listing : (under : Datum → Option Fields) (a b : List Fields) → ListsDocuments under a → ListsDocuments under b → a ≡ b
one_listing under a b first second =
    first.shown ∙ one_list first.rows second.rows first.ordered second.ordered (λ q. first.found q ∙ sym (second.found q)) ∙ sym second.shown
