-- Operations result in no document, or in one with the key that they write; so the documents of a collection are stored under their keys.
use Rattle.std.proofs.Common.{◌≡◌, inl, inr, ℕ, List, [], ◌∷◌, ◌++◌, refl, sym, ap, subst, ◌∙◌}
use Rattle.std.specs.Prelude.{Bool, true, false, ◌&&◌, Option, Some, None, Result, Ok, Err, if◌then◌else◌}
use Rattle.std.specs.Str.{bytes_eq}
use Rattle.bson_model.specs.Tree.{Datum, Fields}
use Rattle.value_model.specs.Order.{same_value}
use Rattle.value_model.specs.Keys.{is_key}
use Rattle.value_model.proofs.Spans.{same_value_equivalence, same_is_key}
use Rattle.query_model.specs.Queries.{Query, QueryFault}
use Rattle.query_model.specs.Reading.{◌>>=◌, read_query}
use Rattle.query_model.specs.Writes.{Write, delete_write}
use Rattle.query_model.specs.Effects.{Effect, IsUnder, unmet, effect_of, left_by, write_key}
use Rattle.query_model.proofs.KeysAsked.{write_is_key}
use Rattle.query_model.proofs.KeysStay.{BeginsAsRead, write_keeps, keyless_unmet}
use Rattle.query_model.proofs.ReadWrites.{insert_begins, update_begins}
use Rattle.query_model.specs.Edits.{WriteFault, same_key}
use Rattle.history_model.specs.History.{Operation, insert_operation, update_operation, delete_operation, read_operation, key_read, key_written, effect_read, effect, Outcome, outcome_of, MeetsNothing, Entry, writes_to, document_after, document_left, Legal}
use Rattle.history_model.proofs.LegalHistories.{follows_prefix, none_under}
use Rattle.bson_model.proofs.Booleans.{both}

delete_begins : (read : Result Query QueryFault) (write : Write) → (read >>= λ asked. Ok (delete_write asked)) ≡ Ok write → BeginsAsRead write
delete_begins (Ok asked) write e = begins write e
  where
    begins : (w : Write) → Path (Result Write QueryFault) (Ok (delete_write asked)) (Ok w) → BeginsAsRead w
    begins w same = let is : delete_write asked ≡ w = cc in subst (λ (x : Write). BeginsAsRead x) is tt
delete_begins (Err fault) write e = absurd cc

read_is_key : (read : Result Write QueryFault) (key : Datum) → key_read read ≡ Some key → is_key key ≡ true
read_is_key (Ok write) key e = write_is_key write key e
read_is_key (Err fault) key e = absurd (cc)

-- an operation writes under a valid key
pub written_is_key : (operation : Operation) (key : Datum) → key_written operation ≡ Some key → is_key key ≡ true
written_is_key operation key e = read_is_key (read_operation operation) key e

read_begins : (operation : Operation) (write : Write) → read_operation operation ≡ Ok write → BeginsAsRead write
read_begins (insert_operation document) write e = insert_begins document write e
read_begins (update_operation filter words upsert) write e = update_begins filter words upsert write e
read_begins (delete_operation filter) write e = delete_begins (read_query filter) write e

read_keeps : (read : Result Write QueryFault) (before : Option Fields) (key : Datum) → ((write : Write) → read ≡ Ok write → BeginsAsRead write) →
    key_read read ≡ Some key → is_key key ≡ true →
    IsUnder key before → IsUnder key (effect_read read before).0
read_keeps (Ok write) before key begins there k under = write_keeps write before key (begins write refl) there k under
read_keeps (Err fault) before key begins there k under = under

pub operation_keeps : (operation : Operation) (before : Option Fields) (key : Datum) → key_written operation ≡ Some key → is_key key ≡ true →
    IsUnder key before → IsUnder key (effect operation before).0
operation_keeps operation before key there k under = read_keeps (read_operation operation) before key (read_begins operation) there k under

-- keys that compare equal are the same
under_same : (a b : Datum) (document : Option Fields) → same_value a b ≡ true → IsUnder a document → IsUnder b document
under_same a b None same under = tt
under_same a b (Some document) same under = (under.0, under.1, same_value_equivalence.congr under.0 a b under.2 ∙ same)

turned : (a b : Datum) → same_value a b ≡ true → same_value b a ≡ true
turned a b same = same_value_equivalence.symm b a ∙ same

written_under : (written : Option Datum) (operation : Operation) (key : Datum) (before : Option Fields) → key_written operation ≡ written →
    same_key written (Some key) ≡ true → is_key key ≡ true →
    IsUnder key before → IsUnder key (effect operation before).0
written_under None operation key before there same k under = absurd cc
written_under (Some own) operation key before there same k under =
    under_same own key (effect operation before).0 same
    (operation_keeps operation before own there (same_is_key own key same ∙ k) (under_same key own before (turned own key same) under))

entry_under : (e : Entry) (namespace : List ℕ) (key : Datum) (before : Option Fields) (hit : Bool) → writes_to namespace (Some key) e ≡ hit →
    is_key key ≡ true → IsUnder key before →
    IsUnder key (if hit then (effect e.operation before).0 else before)
entry_under e namespace key before true hits k under =
    written_under (key_written e.operation) e.operation key before refl (both (bytes_eq e.namespace namespace) (same_key (key_written e.operation) (Some key)) hits).1 k under
entry_under e namespace key before false hits k under = under

pub after_under : (namespace : List ℕ) (key : Datum) (before : Option Fields) (es : List Entry) → is_key key ≡ true → IsUnder key before →
    IsUnder key (document_after namespace (Some key) before es)
after_under namespace key before [] k under = under
after_under namespace key before (e ∷ es) k under =
    after_under namespace key (if writes_to namespace (Some key) e then (effect e.operation before).0 else before) es k
    (entry_under e namespace key before (writes_to namespace (Some key) e) refl k under)

-- an operation without a key finds no document, or returns that it reads as no write

read_meets_nothing : (read : Result Write QueryFault) → ((write : Write) → read ≡ Ok write → BeginsAsRead write) → key_read read ≡ None →
    MeetsNothing (effect_read read None)
read_meets_nothing (Ok write) begins none =
    inl (ap (λ (r : Result Effect WriteFault). (left_by None r, outcome_of r)) (keyless_unmet write (begins write refl) none))
read_meets_nothing (Err fault) begins none = inr refl

pub keyless_meets_nothing : (operation : Operation) → key_written operation ≡ None → MeetsNothing (effect operation None)
keyless_meets_nothing operation none = read_meets_nothing (read_operation operation) (read_begins operation) none

count_of_nothing : (w : Option Fields × Outcome) → MeetsNothing w → w.1.count ≡ 0
count_of_nothing w (inl e) = ap (λ (x : Option Fields × Outcome). x.1.count) e
count_of_nothing w (inr e) = ap (λ (x : Option Fields × Outcome). x.1.count) e

pub keyless_counts_nothing : (prefix back : List Entry) (e : Entry) → Legal (prefix ++ e ∷ back) → key_written e.operation ≡ None → e.outcome.count ≡ 0
keyless_counts_nothing prefix back e legal none =
    ap (λ (o : Outcome). o.count) (follows_prefix prefix back e legal).told
    ∙ ap (λ (k : Option Datum). (effect e.operation (document_left e.namespace k prefix)).1.count) none
    ∙ ap (λ (before : Option Fields). (effect e.operation before).1.count) (none_under e.namespace prefix)
    ∙ count_of_nothing (effect e.operation None) (keyless_meets_nothing e.operation none)
