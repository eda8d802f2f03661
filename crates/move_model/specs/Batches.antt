-- The batches in which a moving range is copied (MongoDB manual, "Chunk Migration Procedure"; the limits, and what goes
-- first, are own).
use Rattle.std.specs.Prelude.{ℕ, ◌+◌, List, [], ◌∷◌, ◌++◌, length, map, filter, Option, Some, None, Bool, true, ◌&&◌, ◌||◌, ◌==◌, not, nat_lt, nat_le, if◌then◌else◌}
use Rattle.bson_model.specs.Spelling.{written}
use Rattle.bson_model.specs.Tree.{Datum, Fields}
use Rattle.value_model.specs.Keys.{Bound, key_bound, range_span, inside}
use Rattle.history_model.specs.Documents.{Rows, document_under}
use Rattle.record_model.specs.Moves.{MovedDocument, Batch}
use Rattle.move_model.specs.Sources.{Source, is_up_to, has_key}

-- a key with its document, or with none where the key has none any more
abbrev pub moved : Datum → Option Fields → MovedDocument
moved key document = record { key = key; document = document }

-- the keys of members
abbrev pub keys_of_members : List MovedDocument → List Datum
keys_of_members members = map (λ m. m.key) members

-- the documents of the range after the cursor, in key order
abbrev pub documents_after : Source → Rows → Rows
documents_after s rows = filter (λ row. inside (range_span s.range) row.0 && not (is_up_to s.cursor row.0)) rows

-- What is left to hand out, in the order in which it goes: the documents after the cursor, then the changed keys, each with
-- its present document.
abbrev pub members_left : Source → Rows → List MovedDocument
members_left s rows = map (λ row. moved row.0 (Some row.1)) (documents_after s rows) ++ map (λ key. moved key (document_under key rows)) s.changed

-- the most keys, and the most bytes of documents, of a batch of more than one key
abbrev pub most_keys : ℕ
most_keys = 128

abbrev pub most_bytes : ℕ
most_bytes = 4194304

abbrev pub document_bytes : Option Fields → ℕ
document_bytes None = 0
document_bytes (Some document) = length (written document)

-- a member of so many bytes finds room after so many keys and bytes; the first always does
abbrev pub has_room : (keys bytes more : ℕ) → Bool
has_room keys bytes more = (keys == 0) || (nat_lt keys most_keys && nat_le (bytes + more) most_bytes)

-- the first members that find room, up to the first that does not, after so many keys and bytes
abbrev pub fitting : (keys bytes : ℕ) → List MovedDocument → List MovedDocument
fitting keys bytes [] = []
fitting keys bytes (m ∷ ms) =
    if has_room keys bytes (document_bytes m.document) then m ∷ fitting (keys + 1) (bytes + document_bytes m.document) ms else []

-- the members of the next batch
abbrev pub members_next : Source → Rows → List MovedDocument
members_next s rows = fitting 0 0 (members_left s rows)

-- just after the last of the members
abbrev pub last_bound : Bound → List MovedDocument → Bound
last_bound bound [] = bound
last_bound bound (m ∷ ms) = last_bound (key_bound m.key) ms

-- the cursor after these members: the end of the range where no document is left after them
abbrev pub cursor_after : Source → Rows → List MovedDocument → Bound
cursor_after s rows members = if nat_le (length (documents_after s rows)) (length members) then s.range.max else last_bound s.cursor members

-- the batch that is handed out next
abbrev pub batch_of : Source → Rows → Batch
batch_of s rows = record { number = s.number + 1; upto = cursor_after s rows (members_next s rows); docs = members_next s rows }

-- the source once it has handed out this batch: the changed keys that it has are no longer changed
abbrev pub source_after : Source → Batch → Source
source_after s b = record {
  range = s.range;
  number = b.number;
  cursor = b.upto;
  changed = filter (λ key. not (has_key key (keys_of_members b.docs))) s.changed;
  unanswered = true;
}

-- the bytes of the documents of members
abbrev pub members_bytes : List MovedDocument → ℕ
members_bytes [] = 0
members_bytes (m ∷ ms) = document_bytes m.document + members_bytes ms
