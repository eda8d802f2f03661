-- The documents of entries, each beside its key.
use Rattle.std.proofs.Common.{◌≡◌, ℕ, List, [], ◌∷◌, ◌++◌, refl, sym, ap, ◌∙◌, Less}
use Rattle.std.specs.Prelude.{Bool, true, false, cond, Option, Some, None}
use Rattle.std.specs.BTreeMap.{is_at}
use Rattle.std.specs.List.{AllByRecursion, slice_get}
use Rattle.std.specs.List.Sorted.{IsStrictlySortedBy}
use Rattle.std.specs.Map.{keys_of, lookup}
use Rattle.std.specs.Ordering.{is_eq}
use Rattle.query_model.proofs.Entries.{equal_is, AreAbove, above_never, same_find}
use Rattle.bson_values.specs.Tree.{Datum, Fields}
use Rattle.value_compare.specs.Keys.{is_key}
use Rattle.value_compare.specs.Order.{order}
use Rattle.value_compare.proofs.Flat.{order_total}
use Rattle.value_compare.proofs.Spans.{same_is_key}
use Rattle.history_model.specs.Documents.{Rows, AreInOrder, document_under}
use Rattle.mvcc_collection.specs.Chains.{Past}
use Rattle.mvcc_collection.specs.Places.{chain_at}
use Rattle.mvcc_collection.specs.Collections.{document_in}
use Rattle.mvcc_collection.specs.Present.{row_of, rows_in}

abbrev pub Entries : Type 0
Entries = List (Datum × ℕ)

abbrev pub AreOrdered : Entries → Type 0
AreOrdered es = IsStrictlySortedBy order (keys_of es)

-- the document of the chain at a place at the time
abbrev pub at_place : List Past → ℕ → ℕ → Option Fields
at_place chains time place = document_in (slice_get chains place) time

abbrev pub at_found : List Past → ℕ → Option ℕ → Option Fields
at_found chains time place = document_in (chain_at chains place) time

above_row : (low key : Datum) (document : Option Fields) (rows : Rows) → order low key ≡ Less → AreAbove order_total low rows →
    AreAbove order_total low (row_of key document ++ rows)
above_row low key None rows less above = above
above_row low key (Some document) rows less above = (less, above)

above_rows : (low : Datum) (chains : List Past) (time : ℕ) (es : Entries) → AreAbove order_total low es → AreAbove order_total low (rows_in chains time es)
above_rows low chains time [] above = tt
above_rows low chains time (e ∷ es) above =
    above_row low e.0 (at_place chains time e.1) (rows_in chains time es) above.0 (above_rows low chains time es above.1)

row_ordered : (key : Datum) (document : Option Fields) (rows : Rows) → AreAbove order_total key rows → AreInOrder rows →
    AreInOrder (row_of key document ++ rows)
unfolding IsStrictlySortedBy
row_ordered key None rows above ordered = ordered
row_ordered key (Some document) rows above ordered = (above, ordered)

pub rows_ordered : (chains : List Past) (time : ℕ) (es : Entries) → AreOrdered es → AreInOrder (rows_in chains time es)
unfolding IsStrictlySortedBy
rows_ordered chains time [] ordered = tt
rows_ordered chains time (e ∷ es) ordered =
    row_ordered e.0 (at_place chains time e.1) (rows_in chains time es) (above_rows e.0 chains time es ordered.0) (rows_ordered chains time es ordered.1)

row_found : (q key : Datum) (document : Option Fields) (rows : Rows) (same : Bool) → is_eq (order q key) ≡ same →
    (same ≡ true → document_under q rows ≡ None) →
    document_under q (row_of key document ++ rows) ≡ cond same document (document_under q rows)
row_found q key None rows true is behind = behind refl
row_found q key None rows false is behind = refl
row_found q key (Some document) rows same is behind = ap (λ (b : Bool). cond b (Some document) (document_under q rows)) is

found_by : (q : Datum) (e : Datum × ℕ) (es : Entries) (chains : List Past) (time : ℕ) (same : Bool) → is_eq (order q e.0) ≡ same →
    cond same (at_place chains time e.1) (at_found chains time (lookup (is_at (order q)) es)) ≡ at_found chains time (lookup (is_at (order q)) (e ∷ es))
found_by q e es chains time true is = rw is refl
found_by q e es chains time false is = rw is refl

behind : (q : Datum) (e : Datum × ℕ) (es : Entries) → AreOrdered (e ∷ es) → is_eq (order q e.0) ≡ true → lookup (is_at (order q)) es ≡ None
unfolding IsStrictlySortedBy
behind q e es ordered is = same_find order_total q e.0 es (equal_is (order q e.0) is) ∙ above_never order_total e.0 es ordered.0

later : (e : Datum × ℕ) (es : Entries) → AreOrdered (e ∷ es) → AreOrdered es
unfolding IsStrictlySortedBy
later e es ordered = ordered.1

pub rows_found : (q : Datum) (chains : List Past) (time : ℕ) (es : Entries) → AreOrdered es →
    document_under q (rows_in chains time es) ≡ at_found chains time (lookup (is_at (order q)) es)
rows_found q chains time [] ordered = refl
rows_found q chains time (e ∷ es) ordered =
    let rest = rows_found q chains time es (later e es ordered) in
    row_found q e.0 (at_place chains time e.1) (rows_in chains time es) (is_eq (order q e.0)) refl
    (λ is. rest ∙ ap (at_found chains time) (behind q e es ordered is))
    ∙ ap (λ (d : Option Fields). cond (is_eq (order q e.0)) (at_place chains time e.1) d) rest
    ∙ found_by q e es chains time (is_eq (order q e.0)) refl

-- among keys that may be keys, none that may not is found
abbrev pub AreKeys : Entries → Type 0
AreKeys es = AllByRecursion (λ k. is_key k ≡ true) (keys_of es)

differ : true ≡ false → ⊥
differ h = cc

none_at : (q : Datum) (e : Datum × ℕ) (es : Entries) (same : Bool) → is_eq (order q e.0) ≡ same → is_key e.0 ≡ true → is_key q ≡ false →
    lookup (is_at (order q)) es ≡ None → cond same (Some e.1) (lookup (is_at (order q)) es) ≡ None
none_at q e es true is key none rest = absurd (differ (sym key ∙ sym (same_is_key q e.0 is) ∙ none))
none_at q e es false is key none rest = rest

pub no_key_found : (q : Datum) (es : Entries) → AreKeys es → is_key q ≡ false → lookup (is_at (order q)) es ≡ None
no_key_found q [] keys none = refl
no_key_found q (e ∷ es) keys none = none_at q e es (is_eq (order q e.0)) refl keys.0 none (no_key_found q es keys.1 none)
