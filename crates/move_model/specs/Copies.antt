-- A copy as a whole: both sides, and the batches between them, of which each may arrive late, again or never; and what is
-- true of it throughout (own).
use Rattle.std.specs.Prelude.{◌≡◌, ◌⊎◌, ℕ, ◌+◌, ◌≤◌, List, [], ◌∷◌, length, Option, None, true, false, ◌==◌, if◌then◌else◌}
use Rattle.bson_model.specs.Tree.{Datum, Fields}
use Rattle.value_model.specs.Keys.{Range, range_span, inside, is_key}
use Rattle.history_model.specs.Documents.{Rows, AreInOrder, document_under, put_under}
use Rattle.history_model.specs.History.{IsIn}
use Rattle.move_model.specs.Sources.{Source, source_start, source_answered, is_up_to, has_key, AreRising, Marks}
use Rattle.record_model.specs.Moves.{MovedDocument, Batch}
use Rattle.move_model.specs.Batches.{batch_of, source_after}
use Rattle.move_model.specs.Recipients.{Fit, next_fit, fit_of, overlay}

pub record Copy : Type 0 where
  pub source : Source
  -- the present documents of the source
  pub documents : Rows
  -- all batches that were handed out, the last first
  pub sent : List Batch
  -- what the recipient has
  pub copied : Datum → Option Fields
  -- the number of the last batch that the recipient applied
  pub applied : ℕ

abbrev pub copy_start : Range → Rows → (Datum → Option Fields) → Copy
copy_start range documents copied = record { source = source_start range; documents = documents; sent = []; copied = copied; applied = 0 }

-- the next batch is handed out
abbrev pub copy_handed_out : Copy → Copy
copy_handed_out c = record {
  source = source_after c.source (batch_of c.source c.documents);
  documents = c.documents;
  sent = batch_of c.source c.documents ∷ c.sent;
  copied = c.copied;
  applied = c.applied;
}

-- the source has this document of the key, or none, and keeps this of the copy
abbrev pub copy_written : Datum → Option Fields → Source → Copy → Copy
copy_written key document source c = record {
  source = source;
  documents = put_under key document c.documents;
  sent = c.sent;
  copied = c.copied;
  applied = c.applied;
}

abbrev pub copy_applied : Batch → Copy → Copy
copy_applied b c = record {
  source = c.source;
  documents = c.documents;
  sent = c.sent;
  copied = λ key. overlay b.docs key (c.copied key);
  applied = b.number;
}

abbrev pub copy_by_fit : Fit → Batch → Copy → Copy
copy_by_fit next_fit b c = copy_applied b c
copy_by_fit fit b c = c

-- a batch arrives: only the next one is applied
abbrev pub copy_received : Batch → Copy → Copy
copy_received b c = copy_by_fit (fit_of c.applied b.number) b c

abbrev pub copy_answered : ℕ → Copy → Copy
copy_answered number c = record {
  source = source_answered number c.source;
  documents = c.documents;
  sent = c.sent;
  copied = c.copied;
  applied = c.applied;
}

-- what happens to a copy without a write at the source
pub data QuietStep : Copy → Copy → Type 0 where
  -- a batch is handed out once the one before it is answered
  hands_out : (c : Copy) → c.source.unanswered ≡ false → QuietStep c (copy_handed_out c)
  -- any of the batches arrives
  receives : (c : Copy) (b : Batch) → IsIn b c.sent → QuietStep c (copy_received b c)
  -- an answer arrives: the recipient answers what it applied
  answers : (c : Copy) (number : ℕ) → number ≤ c.applied → QuietStep c (copy_answered number c)

pub data CopyStep : Copy → Copy → Type 0 where
  quiet : (c d : Copy) → QuietStep c d → CopyStep c d
  -- a write at the source, of which it is noted that the key changed
  writes : (c : Copy) (key : Datum) (document : Option Fields) (source : Source) → Marks key c.source source →
      CopyStep c (copy_written key document source c)

pub data QuietRun : Copy → Copy → Type 0 where
  quiet_start : (c : Copy) → QuietRun c c
  quiet_more : (c d e : Copy) → QuietStep c d → QuietRun d e → QuietRun c e

pub data CopyRun : Copy → Copy → Type 0 where
  copy_stays : (c : Copy) → CopyRun c c
  copy_goes_on : (c d e : Copy) → CopyStep c d → CopyRun d e → CopyRun c e

abbrev pub last_members : List Batch → List MovedDocument
last_members [] = []
last_members (b ∷ sent) = b.docs

-- What the recipient has of the key once the batch in flight is applied: the last one, if it is not yet applied.
abbrev pub will_have : Copy → Datum → Option Fields
will_have c key = if c.applied == c.source.number then c.copied key else overlay (last_members c.sent) key (c.copied key)

-- the relation of a copy at a key: it is past the cursor and the recipient has nothing, or it was handed out and is among the
-- changed keys, or what the recipient will have is what the source has
abbrev pub IsCopied : Copy → Datum → Type 0
IsCopied c key =
    ((is_up_to c.source.cursor key ≡ false) × (will_have c key ≡ None))
    ⊎ ((is_up_to c.source.cursor key ≡ true) × ((has_key key c.source.changed ≡ true) ⊎ (will_have c key ≡ document_under key c.documents)))

-- the batches count down to 1
abbrev pub AreNumbered : List Batch → Type 0
AreNumbered [] = Unit {0}
AreNumbered (b ∷ sent) = (b.number ≡ length sent + 1) × AreNumbered sent

-- What is true of a copy throughout: the relation at each key of the range, and at most one batch is not applied.
pub record IsCopy (c : Copy) : Type 0 where
  pub keys : (key : Datum) → is_key key ≡ true → inside (range_span c.source.range) key ≡ true → IsCopied c key
  pub in_flight : (c.applied ≡ c.source.number) ⊎ ((c.source.unanswered ≡ true) × (c.applied + 1 ≡ c.source.number))
  pub count : c.source.number ≡ length c.sent
  pub numbered : AreNumbered c.sent
  pub rows : AreInOrder c.documents
  pub rising : AreRising c.source.changed

-- the recipient has nothing of the range
abbrev pub HasNone : Range → (Datum → Option Fields) → Type 0
HasNone range copied = (key : Datum) → is_key key ≡ true → inside (range_span range) key ≡ true → copied key ≡ None

-- both sides have the same of the range
abbrev pub AreEqual : Copy → Type 0
AreEqual c = (key : Datum) → is_key key ≡ true → inside (range_span c.source.range) key ≡ true → c.copied key ≡ document_under key c.documents
