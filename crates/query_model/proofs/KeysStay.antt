-- A change keeps the key of a document, and an upsert begins with the key that its filter targets.
use Rattle.std.proofs.Common.{◌≡◌, ◌⊎◌, inl, inr, ℕ, List, [], ◌∷◌, refl, sym, ap, ◌∙◌}
use Rattle.std.specs.Prelude.{Bool, true, false, Option, Some, None, Result, Ok, Err, codes, is_some, if◌then◌else◌}
use Rattle.std.specs.Option.{option_or}
use Rattle.std.specs.Result.{is_ok, result_ok}
use Rattle.std.specs.Str.{bytes_eq}
use Rattle.bson_model.specs.Tree.{Datum, document_value, Fields, no_fields, field, get}
use Rattle.value_model.specs.Order.{same_value}
use Rattle.value_model.specs.Keys.{is_key, key_of, KeyFault, valid_key}
use Rattle.value_model.proofs.Spans.{same_value_equivalence, same_is_key}
use Rattle.query_model.specs.Paths.{Path}
use Rattle.query_model.specs.Queries.{Query, no_clauses, clause, path_clause, connective_clause, Tests, no_tests, test, eq_test}
use Rattle.query_model.specs.KeySpans.{is_id, equality_in, key_asked, key_equal}
use Rattle.query_model.specs.Changes.{Edit, set_edit, unset_edit, inc_edit, min_edit, max_edit, Change, replacement, edits}
use Rattle.query_model.specs.Edits.{WriteFault, immutable_fault, too_large_fault, not_document_fault, ◌>>=◌, with_field, without_field, value_at, on_the_way, put_at, change_inside, take_at, sum_with, lesser_of, greater_of, edited_at, same_key, if_same_key, edited, edited_by, with_old_key, changed_by, is_too_large, changed}
use Rattle.query_model.specs.Holds.{holds}
use Rattle.query_model.specs.Writes.{Write, insert_write, update_write, delete_write, with_equalities, start_of, read_start, is_plain_query}
use Rattle.query_model.specs.Effects.{Effect, HasSameKey, IsUnder, left_by, updated, upserted_with, not_met, deleted, unmet, inserted, effect_of, write_key}
use Rattle.query_model.proofs.KeysAsked.{kept as kept_if, valid, valid_from}
use Rattle.query_model.proofs.Puts.{failed, done_is, then_ok, same_bytes, put_beside, take_beside, PutsInside, puts_inside}

same_itself : (key : Datum) → same_value key key ≡ true
same_itself key = same_value_equivalence.refl key

same_through : (a b c : Datum) → same_value a b ≡ true → same_value b c ≡ true → same_value a c ≡ true
same_through a b c first second = same_value_equivalence.congr a b c first ∙ second

no_way : (key : Datum) → is_key key ≡ true → on_the_way (Some key) ≡ Err not_document_fault
no_way (document_value ms) e = absurd cc
no_way key e = refl

nothing_inside : (part : List ℕ) (change : Fields → Fields) (key : Datum) (document : Fields) → is_key key ≡ true →
    change_inside part change (Some key) document ≡ document
nothing_inside part change (document_value ms) document e = absurd cc
nothing_inside part change key document e = refl

never_both : (key : Datum) (inner : Fields) → is_key key ≡ true → on_the_way (Some key) ≡ Ok inner → ⊥
never_both key inner k e = differ (sym (no_way key k) ∙ e)
  where
    differ : failed not_document_fault ≡ Ok inner → ⊥
    differ h = cc

put_keeps : (path : Path) (value : Datum) (document after : Fields) (key : Datum) → is_id path ≡ false → key_of document ≡ Some key → is_key key ≡ true →
    put_at path value document ≡ Ok after → key_of after ≡ Some key
put_keeps [] value document after key other there k e = let is : document ≡ after = cc in ap (λ (ms : Fields). key_of ms) (sym is) ∙ there
put_keeps (a ∷ []) value document after key other there k e =
    let is : with_field a value document ≡ after = cc in ap (λ (ms : Fields). key_of ms) (sym is) ∙ put_beside a (codes "_id") value document other ∙ there
put_keeps (a ∷ n ∷ p) value document after key other there k e =
    by_name (bytes_eq a (codes "_id")) refl (puts_inside a n p value document after e)
  where
    by_name : (same : Bool) → bytes_eq a (codes "_id") ≡ same → PutsInside a (n ∷ p) value document after → key_of after ≡ Some key
    by_name false h inside = ap (λ (ms : Fields). key_of ms) inside.is ∙ put_beside a (codes "_id") (document_value inside.changed) document h ∙ there
    by_name true h inside =
        let name : a ≡ codes "_id" = same_bytes a (codes "_id") h in
        absurd (never_both key inside.inner k (ap (λ (x : Option Datum). on_the_way x) (sym (ap (λ (x : List ℕ). get x document) name ∙ there)) ∙ inside.way))

inside_keeps : (a : List ℕ) (change : Fields → Fields) (found : Option Datum) (document : Fields) → bytes_eq a (codes "_id") ≡ false →
    key_of (change_inside a change found document) ≡ key_of document
inside_keeps a change (Some (document_value ms)) document e = put_beside a (codes "_id") (document_value (change ms)) document e
inside_keeps a change (Some d) document e = refl
inside_keeps a change None document e = refl

take_keeps : (path : Path) (document : Fields) (key : Datum) → is_id path ≡ false → key_of document ≡ Some key → is_key key ≡ true →
    key_of (take_at path document) ≡ Some key
take_keeps [] document key other there k = there
take_keeps (a ∷ []) document key other there k = take_beside a (codes "_id") document other ∙ there
take_keeps (a ∷ n ∷ p) document key other there k = by_name (bytes_eq a (codes "_id")) refl
  where
    by_name : (same : Bool) → bytes_eq a (codes "_id") ≡ same → key_of (change_inside a (take_at (n ∷ p)) (get a document) document) ≡ Some key
    by_name false h = inside_keeps a (take_at (n ∷ p)) (get a document) document h ∙ there
    by_name true h =
        let found : get a document ≡ Some key = ap (λ (x : List ℕ). get x document) (same_bytes a (codes "_id") h) ∙ there in
        ap (λ (x : Option Datum). key_of (change_inside a (take_at (n ∷ p)) x document)) found ∙ ap (λ (ms : Fields). key_of ms) (nothing_inside a (take_at (n ∷ p)) key document k) ∙ there

at_keeps : (path : Path) (edit : Edit) (document after : Fields) (key : Datum) → is_id path ≡ false → key_of document ≡ Some key → is_key key ≡ true →
    edited_at path edit document ≡ Ok after → key_of after ≡ Some key
at_keeps path (set_edit value) document after key other there k e = put_keeps path value document after key other there k e
at_keeps path unset_edit document after key other there k e =
    let is : take_at path document ≡ after = cc in ap (λ (ms : Fields). key_of ms) (sym is) ∙ take_keeps path document key other there k
at_keeps path (inc_edit n) document after key other there k e =
    let sum = then_ok (sum_with n (value_at path document)) (λ (s : Datum). put_at path s document) after e in
    put_keeps path sum.0 document after key other there k sum.2
at_keeps path (min_edit value) document after key other there k e = put_keeps path (lesser_of value (value_at path document)) document after key other there k e
at_keeps path (max_edit value) document after key other there k e = put_keeps path (greater_of value (value_at path document)) document after key other there k e

same_found : (after : Fields) (found : Option Datum) (key : Datum) → key_of after ≡ found → same_key found (Some key) ≡ true → HasSameKey key after
same_found after None key there e = absurd cc
same_found after (Some k) key there e = (k, there, e)

-- what is let through has the same key
let_through : (before after document : Fields) (key : Datum) → key_of before ≡ Some key → if_same_key before document ≡ Ok after → HasSameKey key after
let_through before after document key there e = by_test (same_key (key_of document) (key_of before)) refl e
  where
    by_test : (b : Bool) → same_key (key_of document) (key_of before) ≡ b → (if b then Ok document else Err immutable_fault) ≡ Ok after → HasSameKey key after
    by_test true h is =
        let same : document ≡ after = cc in
        same_found after (key_of after) key refl (ap (λ (ms : Fields). same_key (key_of ms) (Some key)) (sym same) ∙ ap (λ (x : Option Datum). same_key (key_of document) x) (sym there) ∙ h)
    by_test false h is = absurd cc

edit_keeps : (path : Path) (edit : Edit) (document after : Fields) (key : Datum) → key_of document ≡ Some key → is_key key ≡ true →
    edited path edit document ≡ Ok after → HasSameKey key after
edit_keeps path edit document after key there k e =
    by_path (is_id path) refl (then_ok (edited_at path edit document) (λ (d : Fields). if is_id path then if_same_key document d else Ok d) after e)
  where
    by_path : (id : Bool) → is_id path ≡ id →
        (d : Fields) × (edited_at path edit document ≡ Ok d) × ((if is_id path then if_same_key document d else Ok d) ≡ Ok after) → HasSameKey key after
    by_path true h step = let_through document after step.0 key there (sym (rw h refl) ∙ step.2)
    by_path false h step =
        let same : step.0 ≡ after = done_is step.0 after (sym (rw h refl) ∙ step.2) in
        (key, ap (λ (ms : Fields). key_of ms) (sym same) ∙ at_keeps path edit document step.0 key h there k step.1, same_itself key)

edits_keep : (es : List (Path × Edit)) (document after : Fields) (key : Datum) → key_of document ≡ Some key → is_key key ≡ true →
    edited_by es document ≡ Ok after → HasSameKey key after
edits_keep [] document after key there k e = let is : document ≡ after = cc in (key, ap (λ (ms : Fields). key_of ms) (sym is) ∙ there, same_itself key)
edits_keep (edit ∷ es) document after key there k e =
    let step = then_ok (edited edit.0 edit.1 document) (edited_by es) after e in
    let first : HasSameKey key step.0 = edit_keeps edit.0 edit.1 document step.0 key there k step.1 in
    let rest : HasSameKey first.0 after = edits_keep es step.0 after first.0 first.1 (same_is_key first.0 key first.2 ∙ k) step.2 in
    (rest.0, rest.1, same_through rest.0 first.0 key rest.2 first.2)

by_keeps : (change : Change) (before after : Fields) (key : Datum) → key_of before ≡ Some key → is_key key ≡ true → changed_by change before ≡ Ok after →
    HasSameKey key after
by_keeps (replacement document) before after key there k e = let_through before after (with_old_key document (key_of document) (key_of before)) key there e
by_keeps (edits es) before after key there k e = edits_keep es before after key there k e

small_is : (large : Bool) (document after : Fields) → (if large then Err too_large_fault else Ok document) ≡ Ok after → document ≡ after
small_is true document after e = absurd cc
small_is false document after e = cc

pub change_keeps : (change : Change) (before after : Fields) (key : Datum) → key_of before ≡ Some key → is_key key ≡ true → changed change before ≡ Ok after →
    HasSameKey key after
change_keeps change before after key there k e =
    let step = then_ok (changed_by change before) (λ (d : Fields). if is_too_large d then Err too_large_fault else Ok d) after e in
    by_keeps change before after key there k (step.1 ∙ ap (λ (d : Fields). Ok d) (small_is (is_too_large step.0) step.0 after step.2))

pub change_keeps_key : (change : Change) (before after : Fields) (key : Datum) → valid_key before ≡ Ok key → changed change before ≡ Ok after →
    (k : Datum) × (valid_key after ≡ Ok k) × (same_value k key ≡ true)
change_keeps_key change before after key found e =
    let is = valid_from (key_of before) key found in
    let kept : HasSameKey key after = change_keeps change before after key is.0 is.1 e in
    let good : is_key kept.0 ≡ true = same_is_key kept.0 key kept.2 ∙ is.1 in
    (kept.0, ap (λ (x : Option Datum). valid x) kept.1 ∙ ap (λ (x : Bool). kept_if kept.0 x) good, kept.2)

-- the equalities of one path, and what comes after them
key_in_front : (part : List ℕ) (tests : Tests) (ms : Fields) (id : Bool) → bytes_eq part (codes "_id") ≡ id →
    key_of (with_equalities part tests ms) ≡ (if id then option_or (equality_in tests) (key_of ms) else key_of ms)
key_in_front part no_tests ms true e = refl
key_in_front part no_tests ms false e = refl
key_in_front part (test (eq_test d) others) ms true e = rw e refl
key_in_front part (test (eq_test d) others) ms false e = rw e (key_in_front part others ms false e)
key_in_front part (test first others) ms id e = key_in_front part others ms id e

pub begins_with_key : (asked : Query) → key_of (start_of asked) ≡ key_asked asked
begins_with_key no_clauses = refl
begins_with_key (clause (path_clause [] tests) others) = begins_with_key others
begins_with_key (clause (path_clause (part ∷ []) tests) others) =
    key_in_front part tests (start_of others) (bytes_eq part (codes "_id")) refl
    ∙ ap (λ (rest : Option Datum). if bytes_eq part (codes "_id") then option_or (equality_in tests) rest else rest) (begins_with_key others)
begins_with_key (clause (path_clause (part ∷ next ∷ parts) tests) others) = begins_with_key others
begins_with_key (clause (connective_clause _ _) others) = begins_with_key others

-- As reading gives it: an insert's document has a key, and an update's start is none, or that of its filter, which targets a key.
abbrev pub BeginsAsRead : Write → Type 0
BeginsAsRead (insert_write document) = is_ok (valid_key document) ≡ true
BeginsAsRead (update_write asked change start) = (start ≡ None) ⊎ ((start ≡ Some (start_of asked)) × (is_some (key_equal asked) ≡ true))
BeginsAsRead (delete_write asked) = Unit {0}

equal_asked : (asked : Option Datum) (key : Datum) → elim asked [ None ↦ None | Some x ↦ if is_key x then Some x else None ] ≡ Some key → asked ≡ Some key
equal_asked None key e = absurd cc
equal_asked (Some x) key e = by_test (is_key x) e
  where
    by_test : (b : Bool) → (if b then Some x else None) ≡ Some key → Some x ≡ Some key
    by_test true h = h
    by_test false h = absurd cc

-- what an insert results in where no document is stored, by whether it is too large
inserted_under : (document : Fields) (key : Datum) (large : Bool) → key_of document ≡ Some key →
    IsUnder key (left_by None (if large then Err too_large_fault else Ok (inserted document)))
inserted_under document key true there = tt
inserted_under document key false there = (key, there, same_itself key)

changed_under : (before : Fields) (key : Datum) (r : Result Fields WriteFault) → HasSameKey key before →
    ((after : Fields) → r ≡ Ok after → HasSameKey key after) →
    IsUnder key (left_by (Some before) (r >>= λ after. Ok (updated before after)))
changed_under before key (Ok after) was keeps = keeps after refl
changed_under before key (Err fault) was keeps = was

begun_under : (key : Datum) (r : Result Fields WriteFault) → ((after : Fields) → r ≡ Ok after → HasSameKey key after) →
    IsUnder key (left_by None (r >>= λ after. Ok (upserted_with after)))
begun_under key (Ok after) keeps = keeps after refl
begun_under key (Err fault) keeps = tt

met_under : (before : Fields) (key : Datum) (change : Change) (start : Option Fields) (met : Bool) → is_key key ≡ true → HasSameKey key before →
    IsUnder key (left_by (Some before) (if met then (changed change before >>= λ after. Ok (updated before after)) else not_met start before))
met_under before key change start true k was =
    changed_under before key (changed change before) was (λ after e. kept_same after (change_keeps change before after was.0 was.1 (same_is_key was.0 key was.2 ∙ k) e))
  where
    kept_same : (after : Fields) → HasSameKey was.0 after → HasSameKey key after
    kept_same after same = (same.0, same.1, same_through same.0 was.0 key same.2 was.2)
met_under before key change None false k was = was
met_under before key change (Some start) false k was = was

taken_under : (before : Fields) (key : Datum) (met : Bool) → HasSameKey key before →
    IsUnder key (left_by (Some before) (Ok (if met then deleted else unmet (Some before))))
taken_under before key true was = tt
taken_under before key false was = was

starts_under : (asked : Query) (change : Change) (start : Fields) (key : Datum) →
    (Some start ≡ None) ⊎ ((Some start ≡ Some (start_of asked)) × (is_some (key_equal asked) ≡ true)) →
    key_asked asked ≡ Some key → is_key key ≡ true →
    IsUnder key (left_by None (changed change start >>= λ after. Ok (upserted_with after)))
starts_under asked change start key (inl none) there k = absurd cc
starts_under asked change start key (inr is) there k =
    let begins = is.0 in
    let same : start ≡ start_of asked = cc in
    let keyed : key_of start ≡ Some key = ap (λ (ms : Fields). key_of ms) same ∙ begins_with_key asked ∙ there in
    begun_under key (changed change start) (λ after e. change_keeps change start after key keyed k e)

ok_is : (found : Result Datum KeyFault) (key : Datum) → result_ok found ≡ Some key → found ≡ Ok key
ok_is (Ok d) key e = let same : d ≡ key = cc in ap (λ (x : Datum). Ok x) same
ok_is (Err fault) key e = absurd cc

-- a write leaves nothing, or a document with its key
pub write_keeps : (write : Write) (before : Option Fields) (key : Datum) → BeginsAsRead write → write_key write ≡ Some key → is_key key ≡ true →
    IsUnder key before →
    IsUnder key (left_by before (effect_of write before))
write_keeps (insert_write document) None key read there k under =
    inserted_under document key (is_too_large document) (valid_from (key_of document) key (ok_is (valid_key document) key there)).0
write_keeps (insert_write document) (Some before) key read there k under = under
write_keeps (update_write asked change start) (Some before) key read there k under = met_under before key change start (holds asked before) k under
write_keeps (update_write asked change None) None key read there k under = tt
write_keeps (update_write asked change (Some start)) None key read there k under = starts_under asked change start key read (equal_asked (key_asked asked) key there) k
write_keeps (delete_write asked) (Some before) key read there k under = taken_under before key (holds asked before) under
write_keeps (delete_write asked) None key read there k under = tt

no_key : (found : Result Datum KeyFault) → is_ok found ≡ true → result_ok found ≡ None → ⊥
no_key (Ok key) e none = absurd cc
no_key (Err fault) e none = absurd cc

none_asked : (found : Option Datum) → is_some found ≡ true → found ≡ None → ⊥
none_asked (Some key) e none = absurd cc
none_asked None e none = absurd cc

-- a write without a key meets nothing
pub keyless_unmet : (write : Write) → BeginsAsRead write → write_key write ≡ None → effect_of write None ≡ Ok (unmet None)
keyless_unmet (insert_write document) read none = absurd (no_key (valid_key document) read none)
keyless_unmet (update_write asked change None) read none = refl
keyless_unmet (update_write asked change (Some start)) (inl e) none = absurd cc
keyless_unmet (update_write asked change (Some start)) (inr e) none = absurd (none_asked (key_equal asked) e.1 none)
keyless_unmet (delete_write asked) read none = refl
