-- What a node stores in its journal, record by record, with a shard's entries as the history has them.
use Rattle.std.specs.Prelude.{ℕ, List, [], ◌∷◌, max}
use Rattle.chunk_model.specs.Changes.{Change, create_change, split_change, commit_change, time_of}
use Rattle.reply_model.specs.Tables.{Table}
use Rattle.reply_model.specs.History.{Entry}
use Rattle.record_model.specs.Records.{Record, table_record, ceiling_record, create_record, split_record, commit_record, catalogue_ceiling_record, life_record, block_record, record_of}

-- `kept_ceiling`: documents were read at this time, so later entries are above it; `kept_none`: there was no collection of some name at this time, so a later
-- one begins above it
pub data Kept : Type 0 where
  kept_table : Table → Kept
  kept_entry : Entry → Kept
  kept_ceiling : ℕ → Kept
  kept_change : Change → Kept
  kept_none : ℕ → Kept
  kept_life : ℕ → Kept
  kept_block : ℕ → Kept

-- the record of a change of the catalogue
abbrev pub change_record : Change → Record
change_record (create_change c) = create_record c
change_record (split_change s) = split_record s
change_record (commit_change c) = commit_record c

-- the record that stores it
abbrev pub record_kept : Kept → Record
record_kept (kept_table t) = table_record t
record_kept (kept_entry e) = record_of e
record_kept (kept_ceiling n) = ceiling_record n
record_kept (kept_change x) = change_record x
record_kept (kept_none n) = catalogue_ceiling_record n
record_kept (kept_life n) = life_record n
record_kept (kept_block n) = block_record n

-- the entries that are stored, in order
abbrev pub entries_kept : List Kept → List Entry
entries_kept [] = []
entries_kept (kept_entry e ∷ kept) = e ∷ entries_kept kept
entries_kept (kept_table t ∷ kept) = entries_kept kept
entries_kept (kept_ceiling n ∷ kept) = entries_kept kept
entries_kept (kept_change x ∷ kept) = entries_kept kept
entries_kept (kept_none n ∷ kept) = entries_kept kept
entries_kept (kept_life n ∷ kept) = entries_kept kept
entries_kept (kept_block n ∷ kept) = entries_kept kept

-- the changes of the catalogue that are stored, after these, newest first
abbrev pub changes_onto : List Change → List Kept → List Change
changes_onto older [] = older
changes_onto older (kept_change x ∷ kept) = changes_onto (x ∷ older) kept
changes_onto older (kept_entry e ∷ kept) = changes_onto older kept
changes_onto older (kept_ceiling n ∷ kept) = changes_onto older kept
changes_onto older (kept_none n ∷ kept) = changes_onto older kept
changes_onto older (kept_table t ∷ kept) = changes_onto older kept
changes_onto older (kept_life n ∷ kept) = changes_onto older kept
changes_onto older (kept_block n ∷ kept) = changes_onto older kept

abbrev pub changes_kept : List Kept → List Change
changes_kept kept = changes_onto [] kept

-- the greatest time that is stored, of entries, changes of the catalogue and ceilings
abbrev pub time_kept : Kept → ℕ
time_kept (kept_table t) = 0
time_kept (kept_entry e) = e.time
time_kept (kept_ceiling n) = n
time_kept (kept_change x) = time_of x
time_kept (kept_none n) = n
time_kept (kept_life n) = 0
time_kept (kept_block n) = 0

abbrev pub greatest_kept : List Kept → ℕ
greatest_kept [] = 0
greatest_kept (k ∷ kept) = max (time_kept k) (greatest_kept kept)
