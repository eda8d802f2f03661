-- How a shard serves statements and reads on what it stores.
use Rattle.std.specs.Prelude.{◌≡◌, ℕ, ◌+◌, List, [], ◌∷◌, ◌++◌, Bool, true, false, Option, Some, None, filter}
use Rattle.reply_model.specs.Tree.{Fields}
use Rattle.reply_model.specs.Notes.{Seen, new_statement, done_before, older_than, notes_of, seen}
use Rattle.reply_model.specs.History.{StatementNumber, Outcome, key_written, effect, Entry, document_left}
use Rattle.reply_model.specs.Outcomes.{Done, done_of, was_done, is_older}
use Rattle.reply_model.specs.Right.{ends}
use Rattle.pipeline_model.specs.Halves.{Half, kept_at_head, may_stand_in}
use Rattle.history_model.specs.Documents as documents
use Rattle.node_model.specs.Letters.{Statement}

-- what a number is against the entries of a shard
abbrev pub seen_by : List Entry → StatementNumber → Seen Outcome
seen_by entries number = seen (notes_of entries) number

-- the outcome of the statement of a number without an entry, where it is not new
abbrev pub told_again : StatementNumber → Seen Outcome → Option Done
told_again number new_statement = None
told_again number (done_before time outcome) = Some (record { index = number.index; answer = was_done time outcome })
told_again number (older_than greatest) = Some (record { index = number.index; answer = is_older greatest })

abbrev pub seen_before : StatementNumber → List Entry → Option Done
seen_before number entries = told_again number (seen_by entries number)

-- the entry of a new statement, after these at a time
abbrev pub entry_for : List Entry → (time shard : ℕ) → (namespace : List ℕ) → Statement → Entry
entry_for entries time shard namespace s = record {
  time = time;
  shard = shard;
  number = s.number;
  namespace = namespace;
  operation = s.operation;
  outcome = (effect s.operation (document_left namespace (key_written s.operation) entries)).1;
}

-- Statements are served one after another, after these entries at this time: a retry gets the outcome of its entry,
-- one of an older transaction gets that error, and a new one makes an entry at the next time. The first error ends an ordered command. What is left is served
-- later.
pub data Serves (shard : ℕ) (namespace : List ℕ) (ordered : Bool) : (entries : List Entry) → (time : ℕ) → List Statement → List Done → (made : List Entry) → (last : ℕ) → Type 0 where
  serves_no_more : (entries : List Entry) (time : ℕ) (rest : List Statement) → Serves shard namespace ordered entries time rest [] [] time
  serves_again : (entries : List Entry) (time : ℕ) (s : Statement) (rest : List Statement) (d : Done) (dones : List Done) (made : List Entry) (last : ℕ)
      → seen_before s.number entries ≡ Some d → ends ordered d ≡ false
      → Serves shard namespace ordered entries time rest dones made last
      → Serves shard namespace ordered entries time (s ∷ rest) (d ∷ dones) made last
  serves_new : (entries : List Entry) (time : ℕ) (s : Statement) (rest : List Statement) (dones : List Done) (made : List Entry) (last : ℕ)
      → seen_before s.number entries ≡ None → ends ordered (done_of (entry_for entries (time + 1) shard namespace s)) ≡ false
      → Serves shard namespace ordered (entries ++ entry_for entries (time + 1) shard namespace s ∷ []) (time + 1) rest dones made last
      → Serves shard namespace ordered entries time (s ∷ rest) (done_of (entry_for entries (time + 1) shard namespace s) ∷ dones) (entry_for entries (time + 1) shard namespace s ∷ made) last
  ends_again : (entries : List Entry) (time : ℕ) (s : Statement) (rest : List Statement) (d : Done)
      → seen_before s.number entries ≡ Some d → ends ordered d ≡ true
      → Serves shard namespace ordered entries time (s ∷ rest) (d ∷ []) [] time
  ends_new : (entries : List Entry) (time : ℕ) (s : Statement) (rest : List Statement)
      → seen_before s.number entries ≡ None → ends ordered (done_of (entry_for entries (time + 1) shard namespace s)) ≡ true
      → Serves shard namespace ordered entries time (s ∷ rest) (done_of (entry_for entries (time + 1) shard namespace s) ∷ []) (entry_for entries (time + 1) shard namespace s ∷ []) (time + 1)

-- all of these statements were applied before, and get the outcomes of their entries; what is left is served later
pub data Repeats (ordered : Bool) (entries : List Entry) : List Statement → List Done → Type 0 where
  repeats_no_more : (rest : List Statement) → Repeats ordered entries rest []
  repeats : (s : Statement) (rest : List Statement) (d : Done) (dones : List Done) → seen_before s.number entries ≡ Some d → ends ordered d ≡ false → Repeats ordered entries rest dones → Repeats ordered entries (s ∷ rest) (d ∷ dones)
  ends_repeat : (s : Statement) (rest : List Statement) (d : Done) → seen_before s.number entries ≡ Some d → ends ordered d ≡ true → Repeats ordered entries (s ∷ rest) (d ∷ [])

-- the documents of a half at a time: of those that may be in its span, those that match the filter at the head of its stages
abbrev pub documents_at : List Entry → (namespace : List ℕ) → (at : ℕ) → Half → List Fields
documents_at entries namespace at half = kept_at_head half.stages (filter (may_stand_in half.span) (documents.documents_at entries namespace at))
