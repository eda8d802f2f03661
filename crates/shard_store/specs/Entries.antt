-- The entries that a shard stores and plans, as the history has them.
use Rattle.std.specs.Prelude.{ℕ, List, map, Bool, true, false, Option, None}
use Rattle.std.specs.Arc.{arc_value}
use Rattle.std.specs.Option.{option_map}
use Rattle.bson_values.specs.Tree.{Datum, Fields}
use Rattle.cluster_base.specs.declared.time.Time.{Time}
use Rattle.value_compare.specs.declared.words.Reply.{Reply}
use Rattle.node_model.specs.History.{Operation, insert_operation, Entry}
use Rattle.history_model.specs.Notes.{Note}
use Rattle.history_model.specs.Versions.{Put}
use Rattle.session_book.specs.Books.{note_view}
use Rattle.statement_views.specs.Views.{number_view}
use Rattle.statement_views.specs.Views.{operation_view}
use Rattle.shard_store.specs.declared.entry.Words.{Words}
use Rattle.shard_store.specs.declared.entry.Words.TheVariants.{Insert, Change}
use Rattle.shard_store.specs.declared.entry.LentWords.{LentWords}
use Rattle.shard_store.specs.declared.entry.LentWords.TheVariants as lent
use Rattle.shard_store.specs.declared.entry.Left.{Left}
use Rattle.shard_store.specs.declared.entry.Left.TheVariants.{Same, Other}
use Rattle.shard_store.specs.declared.entry.Planned.{Planned}
use Rattle.shard_store.specs.Outcomes.{outcome_view, reply_view}

-- what a statement does
abbrev pub operation_of : Words → Operation
operation_of (Insert document) = insert_operation (arc_value document)
operation_of (Change words) = operation_view (arc_value words)

-- what a statement does whose operands are borrowed
abbrev pub operation_in : LentWords → Operation
operation_in (lent.Insert document) = insert_operation (arc_value document.now)
operation_in (lent.Change words) = operation_view (arc_value words.now)

-- what is stored after a statement that left this, where that was stored before
abbrev pub left_behind : Left → Option Fields → Option Fields
left_behind Same before = before
left_behind (Other document) before = option_map arc_value document

-- the entry that was planned, of a shard and in a namespace
abbrev pub entry_view : (shard : ℕ) → (namespace : List ℕ) → Planned → Entry
entry_view shard namespace p = record {
  time = p.time.0;
  shard = shard;
  number = number_view p.statement;
  namespace = namespace;
  operation = operation_of p.words;
  outcome = outcome_view p.outcome;
}

-- what is stored of an entry: its namespace, and what was planned
abbrev pub Kept : Type 0
Kept = List ℕ × Planned

abbrev pub entries_kept : (shard : ℕ) → List Kept → List Entry
entries_kept shard kept = map (λ (k : Kept). entry_view shard k.0 k.1) kept

abbrev pub note_kept : Kept → Note Reply
note_kept k = note_view k.1.statement k.1.time (reply_view (outcome_view k.1.outcome))

-- the outcomes of the statements, in order
abbrev pub notes_kept : List Kept → List (Note Reply)
notes_kept kept = map note_kept kept

-- another document is left, or none
abbrev pub is_other : Left → Bool
is_other Same = false
is_other (Other document) = true

-- from this time on what is left is stored under the key
abbrev pub put_of : Datum → Time → Left → Put
put_of key time left = record { key = key; time = time.0; document = left_behind left None }
