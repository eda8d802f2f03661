-- Why a request is not done, with the evidence that is shown.
use Rattle.std.specs.Prelude.{ℕ, ℤ, List, [], ◌∷◌, codes, ◌^◌, ◌-◌, nat_lt, if◌then◌else◌, Option, Some, None, pos}
use Rattle.bson_model.specs.Tree.{Datum, Fields, no_fields, field, Items, no_items, item, array_value, document_value, int32_value, int64_value, timestamp_value}
use Rattle.base_model.specs.Errors.{ErrorCode, invalid_bson, invalid_options}

-- the version of a table, as it is shown: which collection of its name, and how many moves
pub record ShownVersion : Type 0 where
  pub epoch : ℕ
  pub major : ℕ

-- a try with an older table than the shard's: the version that was sent, and that of the shard
pub record ShownTry : Type 0 where
  pub sent : ShownVersion
  pub met : ShownVersion

-- what an error is shown with
pub data Evidence : Type 0 where
  no_evidence : Evidence
  -- how many bytes before a fault
  place_evidence : ℕ → Evidence
  -- the greatest time that was met
  greatest_evidence : ℕ → Evidence
  -- the cursor that was named
  cursor_evidence : ℤ → Evidence
  -- when the request came, and when it was refused
  moments_evidence : (arrived now : ℕ) → Evidence
  -- a node, and the count of its disk's faults
  disk_evidence : (node faults : ℕ) → Evidence
  -- a node, and the count of its steps
  steps_evidence : (node steps : ℕ) → Evidence
  node_evidence : ℕ → Evidence
  -- the number of a transaction
  number_evidence : ℤ → Evidence
  -- the time before which no history is kept
  oldest_evidence : ℕ → Evidence
  -- how many bytes were wanted
  bytes_evidence : ℕ → Evidence
  -- the tries that met a later table, in order
  tries_evidence : List ShownTry → Evidence

-- a count or a moment in 64 bits, at most the greatest of them
abbrev pub count_shown : ℕ → Datum
count_shown n = int64_value (pos (if nat_lt n (2 ^ 63) then n else 2 ^ 63 - 1))

-- a node, in 32 bits, at most the greatest of them
abbrev pub node_shown : ℕ → Datum
node_shown n = int32_value (pos (if nat_lt n (2 ^ 31) then n else 2 ^ 31 - 1))

abbrev pub version_document : ShownVersion → Datum
version_document v = document_value (field (codes "epoch") (count_shown v.epoch) (field (codes "major") (count_shown v.major) no_fields))

abbrev pub try_items : List ShownTry → Items
try_items [] = no_items
try_items (t ∷ tries) =
    item (document_value (field (codes "sent") (version_document t.sent) (field (codes "met") (version_document t.met) no_fields))) (try_items tries)

-- the document that is shown as evidence, if any
abbrev pub evidence_document : Evidence → Option Fields
evidence_document no_evidence = None
evidence_document (place_evidence place) = Some (field (codes "place") (count_shown place) no_fields)
evidence_document (greatest_evidence time) = Some (field (codes "greatest") (timestamp_value time) no_fields)
evidence_document (cursor_evidence cursor) = Some (field (codes "cursor") (int64_value cursor) no_fields)
evidence_document (moments_evidence arrived now) = Some (field (codes "arrived") (count_shown arrived) (field (codes "now") (count_shown now) no_fields))
evidence_document (disk_evidence node faults) = Some (field (codes "node") (node_shown node) (field (codes "faults") (count_shown faults) no_fields))
evidence_document (steps_evidence node steps) = Some (field (codes "node") (node_shown node) (field (codes "steps") (count_shown steps) no_fields))
evidence_document (node_evidence node) = Some (field (codes "node") (node_shown node) no_fields)
evidence_document (number_evidence number) = Some (field (codes "txnNumber") (int64_value number) no_fields)
evidence_document (oldest_evidence time) = Some (field (codes "oldest") (timestamp_value time) no_fields)
evidence_document (bytes_evidence bytes) = Some (field (codes "bytes") (count_shown bytes) no_fields)
evidence_document (tries_evidence tries) = Some (field (codes "tries") (array_value (try_items tries)) no_fields)

-- why a request is not done
pub record Refusal : Type 0 where
  pub error : ErrorCode
  pub evidence : Evidence

-- an error without evidence
abbrev pub without_evidence : ErrorCode → Refusal
without_evidence error = record { error = error; evidence = no_evidence }

-- a body that is no document, with the offset of the fault
abbrev pub no_document_at : ℕ → Refusal
no_document_at place = record { error = invalid_bson; evidence = place_evidence place }

-- a time is named that is above the greatest that was met
abbrev pub time_ahead : ℕ → Refusal
time_ahead greatest = record { error = invalid_options; evidence = greatest_evidence greatest }
