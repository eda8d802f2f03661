-- The documents of small answers are small.
use Rattle.std.proofs.Common.{◌≡◌, ℕ, ◌+◌, ◌*◌, ◌<◌, ◌≤◌, ◌^◌, List, [], ◌∷◌, length, refl, Bool, true, false, nat_lt, Option, Some, None, if◌then◌else◌, codes, pos, arith, subst, inl, inr}
use Rattle.std.specs.Prelude.{ℤ}
use Rattle.std.specs.List.{AllByRecursion}
use Rattle.std.proofs.lemmas.List.Sums.{sum_by-cons}
use Rattle.std.proofs.lemmas.Fmt.{length-decimal-le}
use Rattle.bson_model.specs.Tree.{string_value, document_value, array_value, int32_value, int64_value, timestamp_value, Items, no_items, Fields, no_fields, field, value_depth, array_depth, document_depth}
use Rattle.bson_model.specs.Spelling.{written, written_value, written_items, written_fields}
use Rattle.opmsg_model.specs.MessageSizes.{IsWithin}
use Rattle.base_model.specs.Refusals.{Evidence, Refusal, evidence_document, no_evidence, place_evidence, greatest_evidence, cursor_evidence, moments_evidence, disk_evidence, steps_evidence, node_evidence, number_evidence, oldest_evidence, bytes_evidence, tries_evidence, ShownVersion, ShownTry, version_document, try_items}
use Rattle.base_model.specs.ReplyParts.{evidence_shown, refusal_reply, shown_if, write_error}
use Rattle.command_model.specs.AnswerParts.{count, document_items, number, ok, operation_time_at}
use Rattle.command_model.specs.Writes.{WriteKind, insert_kind, update_kind, delete_kind, WriteError, Upserted, WriteSummary, write_error_items, write_errors_shown, upserted_items, upserted_shown, changes_shown}
use Rattle.command_model.specs.Cursors.{Batch, cursor_shown, batch_document}
use Rattle.command_model.specs.KillCursors.{number_items, killed_document}
use Rattle.command_model.specs.Count.{count_document}
use Rattle.command_model.specs.AdminCommands.{changed_document}
use Rattle.command_model.specs.ShardCollection.{sharded_document}
use Rattle.command_model.specs.Answers.{Answer, hello_answer, legacy_answer, done_answer, write_answer, first_answer, next_answer, count_answer, killed_answer, sharded_answer, changed_answer, refusal_answer, answer_document}
use Rattle.command_model.specs.CommandSizes.{IsSmallAnswer, IsSmallBatch, IsSmallError, IsSmallEvidence, IsSmallRefusal, IsSmallSummary, keys_length}
use Rattle.history_model.proofs.Lists.{all_weaken}
use Rattle.bson_model.proofs.Lengths.{length-framed, length-item, length-field, length-string}
use Rattle.bson_model.specs.Limits.{most_bytes_kept, most_bytes_written, most_depth_written}
use Rattle.pipeline_model.specs.Lengths.{document_length, documents_length}
use Rattle.pipeline_model.specs.Batches as batches
use Rattle.command_model.specs.CommandLimits.{most_bytes_upserted, most_cursors, most_statements}

hello_small : (moment : ℕ) → IsWithin most_depth_written most_bytes_written (answer_document (hello_answer moment))
hello_small moment = (omega arith, omega arith)

legacy_small : (moment : ℕ) (shown : Bool) → IsWithin most_depth_written most_bytes_written (answer_document (legacy_answer moment shown))
legacy_small moment true = (omega arith, omega arith)
legacy_small moment false = (omega arith, omega arith)

done_small : IsWithin most_depth_written most_bytes_written (answer_document done_answer)
done_small = (omega arith, omega arith)

-- the versions of a table, as they are shown
version_small : (v : ShownVersion) → (value_depth (version_document v) ≡ 1) × (length (written_value (version_document v)) ≤ 35)
version_small v = (refl, omega arith)

abbrev try_shown : ShownTry → Fields
try_shown t = field (codes "sent") (version_document t.sent) (field (codes "met") (version_document t.met) no_fields)

try_small : (t : ShownTry) → (document_depth (try_shown t) ≤ 2) × (length (written (try_shown t)) ≤ 86)
try_small t =
    let sent = version_small t.sent in
    let met = version_small t.met in
    let behind : Fields = field (codes "met") (version_document t.met) no_fields in (
      omega (arith, sent.0, met.0),
      omega (
        arith,
        sent.1,
        met.1,
        length-field (codes "met") (version_document t.met) no_fields,
        length-field (codes "sent") (version_document t.sent) behind,
        length-framed (written_fields (try_shown t)),
      ),
    )

-- tries, from an index on that has one digit
tries_small : (i : ℕ) (tries : List ShownTry) → i + length tries ≤ 10 → (array_depth (try_items tries) ≤ 3) × (length (written_items i (try_items tries)) ≤ 89 * length tries)
tries_small i [] few = (omega arith, omega arith)
tries_small i (t ∷ tries) few =
    let first = try_small t in
    let others = tries_small (i + 1) tries (omega arith) in (
      omega (arith, first.0, others.0),
      omega (arith, first.1, others.1, length-decimal-le 1 i (omega arith) (omega arith) (omega arith), length-item i (document_value (try_shown t)) (try_items tries)),
    )

tries_document_small : (tries : List ShownTry) → length tries ≤ 10 →
    (document_depth (field (codes "tries") (array_value (try_items tries)) no_fields) ≤ 4) × (length (written (field (codes "tries") (array_value (try_items tries)) no_fields)) ≤ 1000)
tries_document_small tries few =
    let shown : Items = try_items tries in
    let items = tries_small 0 tries (omega (arith, few)) in (
      omega (arith, items.0),
      omega (
        arith,
        few,
        items.1,
        length-framed (written_items 0 shown),
        length-field (codes "tries") (array_value shown) no_fields,
        length-framed (written_fields (field (codes "tries") (array_value shown) no_fields)),
      ),
    )

-- evidence is small
within_shown : (o : Option Fields) → ((document : Fields) → o ≡ Some document → (document_depth document ≤ 4) × (length (written document) ≤ 1000)) → (document_depth (shown_if o) ≤ 5) × (length (written_fields (shown_if o)) ≤ 1020)
within_shown None small = (omega arith, omega arith)
within_shown (Some document) small = let known = small document refl in (omega (arith, known.0), omega (arith, known.1, length-field (codes "evidence") (document_value document) no_fields))

abbrev IsFew : Option Fields → Type 0
IsFew None = Unit {0}
IsFew (Some shown) = (document_depth shown ≤ 4) × (length (written shown) ≤ 1000)

by_same : (o : Option Fields) (document : Fields) → o ≡ Some document → IsFew o → (document_depth document ≤ 4) × (length (written document) ≤ 1000)
by_same None document is few = absurd cc
by_same (Some shown) document is few =
    let same : shown ≡ document = cc in
    subst (λ (ms : Fields). (document_depth ms ≤ 4) × (length (written ms) ≤ 1000)) same few

few_bytes : (evidence : Evidence) → IsSmallEvidence evidence → (document : Fields) → evidence_document evidence ≡ Some document → (document_depth document ≤ 4) × (length (written document) ≤ 1000)
few_bytes no_evidence small document is = absurd cc
few_bytes (place_evidence place) small document is = by_same (evidence_document (place_evidence place)) document is (omega arith, omega arith)
few_bytes (greatest_evidence time) small document is = by_same (evidence_document (greatest_evidence time)) document is (omega arith, omega arith)
few_bytes (cursor_evidence cursor) small document is = by_same (evidence_document (cursor_evidence cursor)) document is (omega arith, omega arith)
few_bytes (moments_evidence arrived now) small document is = by_same (evidence_document (moments_evidence arrived now)) document is (omega arith, omega arith)
few_bytes (disk_evidence node faults) small document is = by_same (evidence_document (disk_evidence node faults)) document is (omega arith, omega arith)
few_bytes (steps_evidence node steps) small document is = by_same (evidence_document (steps_evidence node steps)) document is (omega arith, omega arith)
few_bytes (node_evidence node) small document is = by_same (evidence_document (node_evidence node)) document is (omega arith, omega arith)
few_bytes (number_evidence number) small document is = by_same (evidence_document (number_evidence number)) document is (omega arith, omega arith)
few_bytes (oldest_evidence time) small document is = by_same (evidence_document (oldest_evidence time)) document is (omega arith, omega arith)
few_bytes (bytes_evidence bytes) small document is = by_same (evidence_document (bytes_evidence bytes)) document is (omega arith, omega arith)
few_bytes (tries_evidence tries) small document is = by_same (evidence_document (tries_evidence tries)) document is (tries_document_small tries small)

pub evidence_within : (evidence : Evidence) (document : Fields) → IsSmallEvidence evidence → evidence_document evidence ≡ Some document → IsWithin 10 1000 document
evidence_within evidence document small is = let few = few_bytes evidence small document is in (omega (arith, few.0), omega (arith, few.1))

evidence_small : (evidence : Evidence) → IsSmallEvidence evidence → (document_depth (evidence_shown evidence) ≤ 5) × (length (written_fields (evidence_shown evidence)) ≤ 1020)
evidence_small evidence small = within_shown (evidence_document evidence) (few_bytes evidence small)

-- a write error with a short name
error_small : (e : WriteError) → IsSmallRefusal e.refusal → (document_depth (write_error e.index e.refusal) ≤ 6) × (length (written (write_error e.index e.refusal)) ≤ 1200)
error_small e small =
    let name : List ℕ = e.refusal.error.name in
    let shown : Fields = evidence_shown e.refusal.evidence in
    let evidence = evidence_small e.refusal.evidence small.1 in
    let told : Fields = field (codes "errmsg") (string_value name) shown in
    let coded : Fields = field (codes "code") (int32_value (pos e.refusal.error.number)) told in (
      omega (arith, evidence.0),
      omega (
        arith,
        small.0,
        evidence.1,
        length-string name,
        length-framed (written_fields (write_error e.index e.refusal)),
        length-field (codes "index") (int32_value (pos e.index)) coded,
        length-field (codes "code") (int32_value (pos e.refusal.error.number)) told,
        length-field (codes "errmsg") (string_value name) shown,
      ),
    )

-- write errors with short names, from an index on that has at most five digits
errors_small : (i : ℕ) (errors : List WriteError) → i + length errors ≤ most_statements → AllByRecursion IsSmallError errors → (array_depth (write_error_items errors) ≤ 7) × (length (written_items i (write_error_items errors)) ≤ 1210 * length errors)
errors_small i [] few all = (omega arith, omega arith)
errors_small i (e ∷ errors) few all =
    let first = error_small e all.0.1 in
    let others = errors_small (i + 1) errors (omega arith) all.1 in (
      omega (arith, first.0, others.0),
      omega (arith, first.1, others.1, length-decimal-le 5 i (omega arith) (omega arith) (omega arith), length-item i (document_value (write_error e.index e.refusal)) (write_error_items errors)),
    )

-- the errors, and the last fields of every answer
errors_behind_small : (errors : List WriteError) (time : ℕ) → length errors ≤ most_statements → AllByRecursion IsSmallError errors →
    (document_depth (write_errors_shown errors (ok (operation_time_at time))) ≤ 103) × (length (written_fields (write_errors_shown errors (ok (operation_time_at time)))) ≤ 121001000)
errors_behind_small [] time few all = (omega arith, omega arith)
errors_behind_small (e ∷ errors) time few all =
    let shown : Items = write_error_items (e ∷ errors) in
    let items = errors_small 0 (e ∷ errors) (omega (arith, few)) all in (
      omega (arith, items.0),
      omega (arith, few, items.1, length-framed (written_items 0 shown), length-field (codes "writeErrors") (array_value shown) (ok (operation_time_at time))),
    )

abbrev key_shown : Upserted → Fields
key_shown u = field (codes "index") (number u.index) (field (codes "_id") u.key no_fields)

-- a key without depth, with the index of its statement
key_small : (u : Upserted) → value_depth u.key ≡ 0 → (document_depth (key_shown u) ≤ 1) × (length (written (key_shown u)) ≤ length (written_value u.key) + 30)
key_small u flat = (
  omega (arith, flat),
  omega (arith, length-framed (written_fields (key_shown u)), length-field (codes "index") (number u.index) (field (codes "_id") u.key no_fields), length-field (codes "_id") u.key no_fields),
)

-- keys without depth, from an index on that has at most five digits
keys_small : (i : ℕ) (upserted : List Upserted) → i + length upserted ≤ most_statements → AllByRecursion (λ (u : Upserted). (u.index < most_statements) × (value_depth u.key ≡ 0)) upserted →
    (array_depth (upserted_items upserted) ≤ 2) × (length (written_items i (upserted_items upserted)) ≤ keys_length upserted + 40 * length upserted)
keys_small i [] few all = (omega arith, omega arith)
keys_small i (u ∷ upserted) few all =
    let first = key_small u all.0.1 in
    let others = keys_small (i + 1) upserted (omega arith) all.1 in (
      omega (arith, first.0, others.0),
      omega (arith, first.1, others.1, length-decimal-le 5 i (omega arith) (omega arith) (omega arith), length-item i (document_value (key_shown u)) (upserted_items upserted)),
    )

-- the keys, before small fields
keys_behind_small : (upserted : List Upserted) (more : Fields) → length upserted ≤ most_statements → AllByRecursion (λ (u : Upserted). (u.index < most_statements) × (value_depth u.key ≡ 0)) upserted →
    keys_length upserted ≤ most_bytes_upserted → document_depth more ≤ 103 → length (written_fields more) ≤ 121001000 →
    (document_depth (upserted_shown upserted more) ≤ 103) × (length (written_fields (upserted_shown upserted more)) ≤ 375002000)
keys_behind_small [] more few all short low rest = (omega (arith, low), omega (arith, rest))
keys_behind_small (u ∷ upserted) more few all short low rest =
    let shown : Items = upserted_items (u ∷ upserted) in
    let items = keys_small 0 (u ∷ upserted) (omega (arith, few)) all in (
      omega (arith, items.0, low),
      omega (arith, few, short, items.1, rest, length-framed (written_items 0 shown), length-field (codes "upserted") (array_value shown) more),
    )

-- a count takes at most eight bytes
count_small : (n : ℕ) → (value_depth (count n) ≡ 0) × (length (written_value (count n)) ≤ 8)
count_small n = by_test (nat_lt n (2 ^ 31))
  where
    by_test : (b : Bool) → (value_depth (if b then int32_value (pos n) else int64_value (pos n)) ≡ 0) × (length (written_value (if b then int32_value (pos n) else int64_value (pos n))) ≤ 8)
    by_test true = (refl, omega arith)
    by_test false = (refl, omega arith)

-- what follows the count
changes_small : (kind : WriteKind) (told : WriteSummary) → IsSmallSummary told →
    (document_depth (changes_shown kind told (write_errors_shown told.errors (ok (operation_time_at told.time)))) ≤ 103)
    × (length (written_fields (changes_shown kind told (write_errors_shown told.errors (ok (operation_time_at told.time))))) ≤ 375003000)
changes_small insert_kind told small = let errors = errors_behind_small told.errors told.time small.few small.short in (errors.0, omega (arith, errors.1))
changes_small update_kind told small =
    let more : Fields = write_errors_shown told.errors (ok (operation_time_at told.time)) in
    let errors = errors_behind_small told.errors told.time small.few small.short in
    let keys = keys_behind_small told.upserted more small.few_keys small.flat small.short_keys errors.0 errors.1 in
    let counted = count_small told.modified in
    (omega (arith, counted.0, keys.0), omega (arith, counted.1, keys.1, length-field (codes "nModified") (count told.modified) (upserted_shown told.upserted more)))
changes_small delete_kind told small = let errors = errors_behind_small told.errors told.time small.few small.short in (errors.0, omega (arith, errors.1))

write_small : (kind : WriteKind) (told : WriteSummary) → IsSmallSummary told → IsWithin most_depth_written most_bytes_written (answer_document (write_answer kind told))
write_small kind told small =
    let counted = count_small told.count in
    let behind : Fields = changes_shown kind told (write_errors_shown told.errors (ok (operation_time_at told.time))) in
    let behind_small = changes_small kind told small in (
      omega (arith, counted.0, behind_small.0),
      omega (arith, counted.1, behind_small.1, length-framed (written_fields (field (codes "n") (count told.count) behind)), length-field (codes "n") (count told.count) behind),
    )

-- documents of few levels, from an index on that has at most seven digits
items_within : (i depth : ℕ) (documents : List Fields) → i + length documents < 10 ^ 7 → AllByRecursion (λ document. document_depth document ≤ depth) documents →
    (array_depth (document_items documents) ≤ depth + 1) × (length (written_items i (document_items documents)) ≤ documents_length documents + 9 * length documents)
items_within i depth [] few low = (omega arith, omega arith)
items_within i depth (document ∷ documents) few low =
    let others = items_within (i + 1) depth documents (omega arith) low.1 in (
      omega (arith, low.0, others.0),
      omega (
        arith,
        others.1,
        sum_by-cons document_length document documents,
        length-decimal-le 7 i (omega arith) (omega arith) (omega arith),
        length-item i (document_value document) (document_items documents),
      ),
    )

-- a document has at least five bytes
five_each : (documents : List Fields) → 5 * length documents ≤ documents_length documents
five_each [] = omega arith
five_each (document ∷ documents) = omega (arith, five_each documents, sum_by-cons document_length document documents, length-framed (written_fields document))

-- a batch has few bytes, also where it is one document
bytes_of_batch : (documents : List Fields) → batches.IsSmall documents → AllByRecursion (IsWithin 101 most_bytes_kept) documents → documents_length documents ≤ most_bytes_kept
bytes_of_batch documents (inr few) all = few
bytes_of_batch [] (inl one) all = omega arith
bytes_of_batch (document ∷ []) (inl one) all = omega (arith, all.0.1)
bytes_of_batch (document ∷ another ∷ documents) (inl one) all = absurd (omega arith)

items_of_batch : (documents : List Fields) → batches.IsSmall documents → AllByRecursion (IsWithin 101 most_bytes_kept) documents →
    (array_depth (document_items documents) ≤ 102) × (length (written_items 0 (document_items documents)) ≤ 50000000)
items_of_batch documents small all =
    let bytes = bytes_of_batch documents small all in
    let number = five_each documents in
    let items = items_within 0 101 documents (omega (arith, bytes, number)) (all_weaken (IsWithin 101 most_bytes_kept) (λ document. document_depth document ≤ 101) documents (λ document within. within.0) all) in
    (items.0, omega (arith, bytes, number, items.1))

cursor_small : (name : List ℕ) (batch : Batch) → length name ≤ 100 → IsSmallBatch batch → IsWithin 103 50001000 (cursor_shown name batch)
cursor_small name batch short small =
    let items = items_of_batch batch.documents small.bytes small.each in
    let shown : Items = document_items batch.documents in
    let ending : Fields = field (codes "atClusterTime") (timestamp_value batch.time) no_fields in
    let behind : Fields = field name (array_value shown) ending in
    let from_name : Fields = field (codes "ns") (string_value batch.namespace) behind in (
      omega (arith, items.0),
      omega (
        arith,
        short,
        small.name,
        items.1,
        length-framed (written_items 0 shown),
        length-string batch.namespace,
        length-field (codes "atClusterTime") (timestamp_value batch.time) no_fields,
        length-field name (array_value shown) ending,
        length-field (codes "ns") (string_value batch.namespace) behind,
        length-field (codes "id") (int64_value batch.cursor) from_name,
        length-framed (written_fields (field (codes "id") (int64_value batch.cursor) from_name)),
      ),
    )

batch_small : (name : List ℕ) (batch : Batch) → length name ≤ 100 → IsSmallBatch batch → IsWithin most_depth_written most_bytes_written (batch_document name batch)
batch_small name batch short small =
    let shown : Fields = cursor_shown name batch in
    let inner = cursor_small name batch short small in
    let behind : Fields = ok (operation_time_at batch.time) in (
      omega (arith, inner.0),
      omega (arith, inner.1, length-field (codes "cursor") (document_value shown) behind, length-framed (written_fields (field (codes "cursor") (document_value shown) behind))),
    )

count_document_small : (n time : ℕ) → IsWithin most_depth_written most_bytes_written (count_document n time)
count_document_small n time =
    let counted = count_small n in
    let behind : Fields = field (codes "atClusterTime") (timestamp_value time) (ok (operation_time_at time)) in
    (omega (arith, counted.0), omega (arith, counted.1, length-field (codes "n") (count n) behind, length-framed (written_fields (field (codes "n") (count n) behind))))

-- numbers, from an index on that has at most seven digits
numbers_small : (i : ℕ) (numbers : List ℤ) → i + length numbers < 10 ^ 7 → (array_depth (number_items numbers) ≤ 1) × (length (written_items i (number_items numbers)) ≤ 17 * length numbers)
numbers_small i [] few = (omega arith, omega arith)
numbers_small i (n ∷ numbers) few =
    let others = numbers_small (i + 1) numbers (omega arith) in (
      omega (arith, others.0),
      omega (arith, others.1, length-decimal-le 7 i (omega arith) (omega arith) (omega arith), length-item i (int64_value n) (number_items numbers)),
    )

killed_small : (killed missing : List ℤ) → length killed + length missing ≤ most_cursors → IsWithin most_depth_written most_bytes_written (killed_document killed missing)
killed_small killed missing few =
    let closed = numbers_small 0 killed (omega (arith, few)) in
    let others = numbers_small 0 missing (omega (arith, few)) in
    let ending : Fields = field (codes "cursorsAlive") (array_value no_items) (field (codes "cursorsUnknown") (array_value no_items) (ok no_fields)) in
    let behind : Fields = field (codes "cursorsNotFound") (array_value (number_items missing)) ending in (
      omega (arith, closed.0, others.0),
      omega (
        arith,
        few,
        closed.1,
        others.1,
        length-framed (written_items 0 (number_items missing)),
        length-field (codes "cursorsNotFound") (array_value (number_items missing)) ending,
        length-framed (written_items 0 (number_items killed)),
        length-field (codes "cursorsKilled") (array_value (number_items killed)) behind,
        length-framed (written_fields (field (codes "cursorsKilled") (array_value (number_items killed)) behind)),
      ),
    )

sharded_small : (namespace : List ℕ) (time : ℕ) → length namespace ≤ 255 → IsWithin most_depth_written most_bytes_written (sharded_document namespace time)
sharded_small namespace time short =
    let behind : Fields = ok (operation_time_at time) in (
      omega arith,
      omega (
        arith,
        short,
        length-string namespace,
        length-field (codes "collectionsharded") (string_value namespace) behind,
        length-framed (written_fields (field (codes "collectionsharded") (string_value namespace) behind)),
      ),
    )

changed_small : (time : ℕ) → IsWithin most_depth_written most_bytes_written (changed_document time)
changed_small time = (omega arith, omega arith)

refusal_small : (refusal : Refusal) → IsSmallRefusal refusal → IsWithin most_depth_written most_bytes_written (refusal_reply refusal)
refusal_small refusal small =
    let name : List ℕ = refusal.error.name in
    let shown : Fields = evidence_shown refusal.evidence in
    let evidence = evidence_small refusal.evidence small.1 in
    let named : Fields = field (codes "codeName") (string_value name) shown in
    let coded : Fields = field (codes "code") (int32_value (pos refusal.error.number)) named in
    let told : Fields = field (codes "errmsg") (string_value name) coded in (
      omega (arith, evidence.0),
      omega (
        arith,
        small.0,
        evidence.1,
        length-string name,
        length-field (codes "codeName") (string_value name) shown,
        length-field (codes "code") (int32_value (pos refusal.error.number)) named,
        length-field (codes "errmsg") (string_value name) coded,
        length-field (codes "ok") (int32_value (pos 0)) told,
        length-framed (written_fields (field (codes "ok") (int32_value (pos 0)) told)),
      ),
    )

pub answer_small : (answer : Answer) → IsSmallAnswer answer → IsWithin most_depth_written most_bytes_written (answer_document answer)
answer_small (hello_answer moment) small = hello_small moment
answer_small (legacy_answer moment shown) small = legacy_small moment shown
answer_small done_answer small = done_small
answer_small (write_answer kind told) small = write_small kind told small
answer_small (first_answer batch) small = batch_small (codes "firstBatch") batch (omega arith) small
answer_small (next_answer batch) small = batch_small (codes "nextBatch") batch (omega arith) small
answer_small (count_answer n time) small = count_document_small n time
answer_small (killed_answer killed missing) few = killed_small killed missing few
answer_small (sharded_answer namespace time) short = sharded_small namespace time short
answer_small (changed_answer time) small = changed_small time
answer_small (refusal_answer refusal) small = refusal_small refusal small
