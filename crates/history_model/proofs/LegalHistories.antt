-- Properties of a legal history: entries rise, each statement occurs once, and a document exists until its key is written.
use Rattle.std.proofs.Common.{◌≡◌, ◌≢◌, inl, inr, ℕ, List, [], ◌∷◌, ◌++◌, length, ◌<◌, ◌≤◌, refl, sym, ap, subst, ◌∙◌, arith, append_assoc, append-nil}
use Rattle.std.specs.Prelude.{Bool, true, false, ◌&&◌, Option, Some, None, Result, Ok, Err, if◌then◌else◌}
use Rattle.std.specs.List.{AllByRecursion}
use Rattle.std.specs.Result.{result_map_both, result_ok}
use Rattle.std.specs.Str.{bytes_eq}
use Rattle.std.proofs.lemmas.Slice.Eq.{bytes_eq-Decides}
use Rattle.bson_model.specs.Tree.{Datum, Fields}
use Rattle.value_model.specs.Order.{same_value}
use Rattle.value_model.specs.Keys.{is_key, key_of, KeyFault, valid_key}
use Rattle.value_model.proofs.Spans.{same_value_equivalence, same_is_key}
use Rattle.base_model.specs.Errors.{ErrorCode, object_too_large, duplicate_key}
pub use Rattle.query_model.proofs.Sizes.{not_large, too_long}
use Rattle.query_model.proofs.KeysAsked.{kept, valid, valid_from}
use Rattle.query_model.proofs.ReadWrites.{insert_read}
use Rattle.query_model.specs.Queries.{QueryFault, bad_operand}
use Rattle.query_model.specs.Edits.{WriteFault, too_large_fault, is_too_large, same_key}
use Rattle.query_model.specs.Writes.{Write, insert_write}
use Rattle.query_model.specs.Effects.{Effect, inserted, effect_of, left_by}
use Rattle.history_model.specs.History.{Operation, insert_operation, Outcome, fails_with, outcome_of, read_operation, key_read, effect_read, effect, Entry, key_written, writes_to, document_after, document_left, IsBefore, IsSameStatement, Follows, LegalAfter, Legal}
use Rattle.history_model.proofs.Lists.{all_at}
use Rattle.history_model.proofs.Stores.{document_after_push}
use Rattle.bson_model.proofs.Booleans.{both}

-- each entry follows those before it
legal_at : (earlier prefix back : List Entry) (e : Entry) → LegalAfter earlier (prefix ++ e ∷ back) → Follows (earlier ++ prefix) e
legal_at earlier [] back e legal = rw append-nil legal.0
legal_at earlier (d ∷ prefix) back e legal =
    subst (λ (l : List Entry). Follows l e) (append_assoc earlier (d ∷ []) prefix) (legal_at (earlier ++ d ∷ []) prefix back e legal.1)

pub follows_prefix : (prefix back : List Entry) (e : Entry) → Legal (prefix ++ e ∷ back) → Follows prefix e
follows_prefix prefix back e legal = legal_at [] prefix back e legal

-- entries rise
pub times_rise : (prefix middle back : List Entry) (d e : Entry) → Legal (prefix ++ d ∷ (middle ++ e ∷ back)) → IsBefore d e
times_rise prefix middle back d e legal =
    all_at (λ (c : Entry). IsBefore c e) d (prefix ++ d ∷ middle)
    (follows_prefix (prefix ++ d ∷ middle) back e (subst (λ (l : List Entry). Legal l) (sym (append_assoc prefix (d ∷ middle) (e ∷ back))) legal)).rises
    (prefix, middle, refl)

pub no_statement_twice : (prefix middle back : List Entry) (d e : Entry) → Legal (prefix ++ d ∷ (middle ++ e ∷ back)) → ¬ IsSameStatement d e
no_statement_twice prefix middle back d e legal =
    all_at (λ (c : Entry). ¬ IsSameStatement c e) d (prefix ++ d ∷ middle)
    (follows_prefix (prefix ++ d ∷ middle) back e (subst (λ (l : List Entry). Legal l) (sym (append_assoc prefix (d ∷ middle) (e ∷ back))) legal)).once
    (prefix, middle, refl)

pub not_before_itself : (d e : Entry) → IsBefore d e → d.time ≡ e.time → d.shard ≡ e.shard → ⊥
not_before_itself d e (inl less) time shard = omega arith
not_before_itself d e (inr equal) time shard = omega arith

-- an entry that writes another key or another namespace does not change this document
pub others_untouched : (namespace : List ℕ) (key : Option Datum) (before : Option Fields) (es : List Entry) (e : Entry) → writes_to namespace key e ≡ false → document_after namespace key before (es ++ e ∷ []) ≡ document_after namespace key before es
others_untouched namespace key before es e other = document_after_push namespace key before es e ∙ rw other

pub all_untouched : (namespace : List ℕ) (key : Option Datum) (before : Option Fields) (es : List Entry) → AllByRecursion (λ e. writes_to namespace key e ≡ false) es → document_after namespace key before es ≡ before
all_untouched namespace key before [] others = refl
all_untouched namespace key before (e ∷ es) others = rw others.0 (all_untouched namespace key before es others.1)

pub document_after_append : (namespace : List ℕ) (key : Option Datum) (before : Option Fields) (es more : List Entry) → document_after namespace key before (es ++ more) ≡ document_after namespace key (document_after namespace key before es) more
document_after_append namespace key before [] more = refl
document_after_append namespace key before (e ∷ es) more = document_after_append namespace key (if writes_to namespace key e then (effect e.operation before).0 else before) es more

-- equal keys are written by the same entries
pub same_written : (written : Option Datum) (a b : Datum) → same_value a b ≡ true → same_key written (Some a) ≡ same_key written (Some b)
same_written None a b same = refl
same_written (Some c) a b same = same_value_equivalence.symm c a ∙ same_value_equivalence.congr a b c same ∙ same_value_equivalence.symm b c

pub same_writes : (namespace : List ℕ) (a b : Option Datum) → same_key a b ≡ true → (e : Entry) → writes_to namespace a e ≡ writes_to namespace b e
same_writes namespace None b same e = absurd cc
same_writes namespace (Some a) None same e = absurd cc
same_writes namespace (Some a) (Some b) same e = ap (λ (key : Bool). bytes_eq e.namespace namespace && key) (same_written (key_written e.operation) a b same)

pub same_after : (namespace : List ℕ) (a b : Option Datum) → same_key a b ≡ true → (before : Option Fields) (es : List Entry) → document_after namespace a before es ≡ document_after namespace b before es
same_after namespace a b same before [] = refl
same_after namespace a b same before (e ∷ es) = rw (same_writes namespace a b same e) (same_after namespace a b same (if writes_to namespace b e then (effect e.operation before).0 else before) es)

-- the outcome of an entry is that of its operation on the document under each key that it writes
pub told_under : (prefix : List Entry) (e : Entry) (namespace : List ℕ) (key : Option Datum) → Follows prefix e → writes_to namespace key e ≡ true → e.outcome ≡ (effect e.operation (document_left namespace key prefix)).1
told_under prefix e namespace key follows hits =
    let p = both (bytes_eq e.namespace namespace) (same_key (key_written e.operation) key) hits in
    let name : e.namespace ≡ namespace = (bytes_eq-Decides e.namespace namespace).0 p.0 in
    follows.told
    ∙ ap (λ (n : List ℕ). (effect e.operation (document_left n (key_written e.operation) prefix)).1) name
    ∙ ap (λ (before : Option Fields). (effect e.operation before).1) (same_after namespace (key_written e.operation) key p.1 None prefix)

-- an insert where there is no document, by whether its document is too large
abbrev pub put_in_or : Fields → Bool → Result Effect WriteFault
put_in_or document large = if large then Err too_large_fault else Ok (inserted document)

abbrev pub put_in : Fields → Bool → Option Fields × Outcome
put_in document large = (left_by None (put_in_or document large), outcome_of (put_in_or document large))

told_error : (before : Option Fields) (r : Result Effect WriteFault) (error : ErrorCode) → (outcome_of r).error ≡ Some error → left_by before r ≡ before
told_error before (Ok effect) error e = absurd cc
told_error before (Err fault) error e = refl

read_error : (read : Result Write QueryFault) (before : Option Fields) (error : ErrorCode) → (effect_read read before).1.error ≡ Some error → (effect_read read before).0 ≡ before
read_error (Ok write) before error e = told_error before (effect_of write before) error e
read_error (Err fault) before error e = refl

-- a statement that returns an error does not change the document
pub refused_leaves : (operation : Operation) (before : Option Fields) (error : ErrorCode) → (effect operation before).1.error ≡ Some error → (effect operation before).0 ≡ before
refused_leaves operation before error e = read_error (read_operation operation) before error e

-- the effect of an insert of a document with a key, and the key that it writes
insert_effect : (document : Fields) (key : Datum) (before : Option Fields) → valid_key document ≡ Ok key →
    effect (insert_operation document) before ≡ effect_read (Ok (insert_write document)) before
insert_effect document key before valid = ap (λ (read : Result Write QueryFault). effect_read read before) (insert_read document key valid)

pub insert_new : (document : Fields) (key : Datum) → valid_key document ≡ Ok key → effect (insert_operation document) None ≡ put_in document (is_too_large document)
insert_new document key valid = insert_effect document key None valid

pub insert_again : (document : Fields) (key : Datum) (before : Fields) → valid_key document ≡ Ok key →
    effect (insert_operation document) (Some before) ≡ (Some before, fails_with duplicate_key)
insert_again document key before valid = insert_effect document key (Some before) valid

pub insert_key : (document : Fields) (key : Datum) → valid_key document ≡ Ok key → key_written (insert_operation document) ≡ Some key
insert_key document key valid =
    ap (λ (read : Result Write QueryFault). key_read read) (insert_read document key valid) ∙ ap (λ (found : Result Datum KeyFault). result_ok found) valid

-- a document whose first `_id` is a valid key is stored under it
pub valid_of : (document : Fields) (key : Datum) → key_of document ≡ Some key → is_key key ≡ true → valid_key document ≡ Ok key
valid_of document key found is = ap (λ (o : Option Datum). valid o) found ∙ ap (λ (b : Bool). kept key b) is

pub insert_writes : (document : Fields) (key : Datum) → key_of document ≡ Some key → is_key key ≡ true → key_written (insert_operation document) ≡ Some key
insert_writes document key found is = insert_key document key (valid_of document key found is)

abbrev read_found : Fields → Result Datum KeyFault → Result Write QueryFault
read_found document found = result_map_both (λ (key : Datum). insert_write document) (λ (fault : KeyFault). bad_operand) found

-- an insert that writes a key has a document with a key
pub key_inserted : (document : Fields) (key : Option Datum) → same_key (key_written (insert_operation document)) key ≡ true → (own : Datum) × (valid_key document ≡ Ok own)
key_inserted document key e = by_found (valid_key document) refl e
  where
    by_found : (found : Result Datum KeyFault) → valid_key document ≡ found → same_key (key_read (read_found document found)) key ≡ true → (own : Datum) × (valid_key document ≡ Ok own)
    by_found (Ok own) is same = (own, is)
    by_found (Err fault) is same = absurd cc

written_leaves : (document : Fields) (before : Option Fields) → (effect_read (Ok (insert_write document)) before).1.error ≢ Some object_too_large →
    (effect_read (Ok (insert_write document)) before).0 ≢ None
written_leaves document None small e = by_size (is_too_large document) small e
  where
    by_size : (large : Bool) → (put_in document large).1.error ≢ Some object_too_large → (put_in document large).0 ≢ None
    by_size true small e = absurd (small refl)
    by_size false small e = cc
written_leaves document (Some before) small e = cc

-- an insert of a document with a key that does not return that its document is too large results in a document
pub effect_leaves : (document : Fields) (key : Datum) (before : Option Fields) → valid_key document ≡ Ok key →
    (effect (insert_operation document) before).1.error ≢ Some object_too_large → (effect (insert_operation document) before).0 ≢ None
effect_leaves document key before valid =
    subst (λ (w : Option Fields × Outcome). w.1.error ≢ Some object_too_large → w.0 ≢ None) (sym (insert_effect document key before valid)) (written_leaves document before)

found_stays : (document : Fields) (found : Result Datum KeyFault) (before : Fields) → (effect_read (read_found document found) (Some before)).0 ≡ Some before
found_stays document (Ok key) before = refl
found_stays document (Err fault) before = refl

-- and one that finds a document does not change it
pub effect_stays : (document before : Fields) → (effect (insert_operation document) (Some before)).0 ≡ Some before
effect_stays document before = found_stays document (valid_key document) before

written_refused : (document : Fields) (before : Option Fields) → before ≢ None → (effect_read (Ok (insert_write document)) before).1 ≡ fails_with duplicate_key
written_refused document None some = absurd (some refl)
written_refused document (Some before) some = refl

insert_refused : (document : Fields) (key : Datum) (before : Option Fields) → valid_key document ≡ Ok key → before ≢ None →
    (effect (insert_operation document) before).1 ≡ fails_with duplicate_key
insert_refused document key before valid some = ap (λ (w : Option Fields × Outcome). w.1) (insert_effect document key before valid) ∙ written_refused document before some

-- a document whose key compares equal to a valid key has a key
same_valid : (document : Fields) (own : Datum) → is_key own ≡ true → same_key (Some own) (key_of document) ≡ true →
    (key : Datum) × (key_of document ≡ Some key) × (valid_key document ≡ Ok key)
same_valid document own k same = by_found (key_of document) refl same
  where
    by_found : (found : Option Datum) → key_of document ≡ found → same_key (Some own) found ≡ true → (key : Datum) × (key_of document ≡ Some key) × (valid_key document ≡ Ok key)
    by_found None is e = absurd cc
    by_found (Some key) is e =
        let good : is_key key ≡ true = sym (same_is_key own key e) ∙ k in
        (key, is, valid_of document key is good)

-- an insert after an insert of the same key
pub second_insert_is_refused : (prefix middle back : List Entry) (d e : Entry) (first second : Fields) → Legal (prefix ++ d ∷ (middle ++ e ∷ back)) → d.operation ≡ insert_operation first → d.outcome.error ≢ Some object_too_large → e.operation ≡ insert_operation second → writes_to e.namespace (key_of second) d ≡ true → AllByRecursion (λ m. writes_to e.namespace (key_of second) m ≡ false) middle → e.outcome ≡ fails_with duplicate_key
second_insert_is_refused prefix middle back d e first second legal inserts small again hits others =
    let f = follows_prefix (prefix ++ d ∷ middle) back e (subst (λ (l : List Entry). Legal l) (sym (append_assoc prefix (d ∷ middle) (e ∷ back))) legal) in
    let before : Option Fields = document_left e.namespace (key_of second) prefix in
    let under : same_key (key_written (insert_operation first)) (key_of second) ≡ true =
    subst (λ (o : Operation). same_key (key_written o) (key_of second) ≡ true) inserts (both (bytes_eq d.namespace e.namespace) (same_key (key_written d.operation) (key_of second)) hits).1 in
    let own = key_inserted first (key_of second) under in
    let good = valid_from (key_of first) own.0 own.1 in
    let again_valid = same_valid second own.0 good.1 (sym (ap (λ (k : Option Datum). same_key k (key_of second)) (insert_key first own.0 own.1)) ∙ under) in
    let left : document_left e.namespace (key_of second) (prefix ++ d ∷ middle) ≡ (effect d.operation before).0 = document_after_append e.namespace (key_of second) None prefix (d ∷ middle)
    ∙ rw hits (all_untouched e.namespace (key_of second) (effect d.operation before).0 middle others) in
    let told : d.outcome ≡ (effect d.operation before).1 = told_under prefix d e.namespace (key_of second) (follows_prefix prefix (middle ++ e ∷ back) d legal) hits in
    let stands : (effect d.operation before).0 ≢ None =
    subst (λ (o : Operation). (effect o before).0 ≢ None) (sym inserts) (effect_leaves first own.0 before own.1 (λ large. small (ap (λ (o : Outcome). o.error) told ∙ ap (λ (o : Operation). (effect o before).1.error) inserts ∙ large))) in
    f.told
    ∙ ap (λ (o : Operation). (effect o (document_left e.namespace (key_written o) (prefix ++ d ∷ middle))).1) again
    ∙ ap (λ (k : Option Datum). (effect (insert_operation second) (document_left e.namespace k (prefix ++ d ∷ middle))).1) (insert_key second again_valid.0 again_valid.2 ∙ sym again_valid.1)
    ∙ insert_refused second again_valid.0 (document_left e.namespace (key_of second) (prefix ++ d ∷ middle)) again_valid.2 (λ none. stands (sym left ∙ none))

-- no entry writes where there is no key
never_written : (own : Bool) (written : Option Datum) → (own && same_key written None) ≡ false
never_written true None = refl
never_written true (Some key) = refl
never_written false written = refl

pub none_under : (namespace : List ℕ) (es : List Entry) → document_left namespace None es ≡ None
none_under namespace es = all_untouched namespace None None es (each es)
  where
    each : (es : List Entry) → AllByRecursion (λ e. writes_to namespace None e ≡ false) es
    each [] = tt
    each (e ∷ es) = (never_written (bytes_eq e.namespace namespace) (key_written e.operation), each es)
