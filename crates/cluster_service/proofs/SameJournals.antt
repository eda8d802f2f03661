-- Files that are journals of two worlds that calls led to: what the nodes keep in one is what they keep in the other.
use Rattle.std.specs.Prelude.{◌≡◌, ℕ, zero, suc, List, [], ◌∷◌, map}
use Rattle.std.proofs.Common.{refl, sym, ap, ◌∙◌}
use Rattle.chunk_model.specs.Changes.{create_change, split_change, commit_change}
use Rattle.history_model.specs.History.{Entry}
use Rattle.journal_frames.proofs.Unique as unique
use Rattle.node_model.specs.Journal.{Kept, kept_table, kept_entry, kept_ceiling, kept_change, kept_none, kept_life, kept_block}
use Rattle.node_model.specs.Journal.{record_kept, entries_kept}
use Rattle.node_model.specs.World.{Held, World, journal_at}
use Rattle.node_laws.proofs.Lists.{all_mapped}
use Rattle.node_replay.specs.Replays.{records_of}
use Rattle.record_model.specs.Records.{Record, table_record, entry_record, ceiling_record, create_record, split_record, commit_record}
use Rattle.record_model.specs.Records.{catalogue_ceiling_record, life_record, block_record}
use Rattle.restart_laws.specs.Calls.{Reached}
use Rattle.restart_laws.proofs.ReachedCalls.{reached_calls_make_one_history}
use Rattle.journal_starts.specs.Journals.{AreJournals, IsHistory, IsJournal}
use Rattle.journal_starts.proofs.OneReading.{one_entries}
use Rattle.journal_starts.proofs.Readings.{same_records, spelled_kept}

-- WHAT IS KEPT, BY RECORDS AND ENTRIES

-- what is kept, by the records and, in place of each that stores an entry, the next entry
abbrev kept_by : List Record → List Entry → List Kept
kept_by [] entries = []
kept_by (table_record t ∷ records) entries = kept_table t ∷ kept_by records entries
kept_by (ceiling_record n ∷ records) entries = kept_ceiling n ∷ kept_by records entries
kept_by (create_record c ∷ records) entries = kept_change (create_change c) ∷ kept_by records entries
kept_by (split_record s ∷ records) entries = kept_change (split_change s) ∷ kept_by records entries
kept_by (commit_record c ∷ records) entries = kept_change (commit_change c) ∷ kept_by records entries
kept_by (catalogue_ceiling_record n ∷ records) entries = kept_none n ∷ kept_by records entries
kept_by (life_record n ∷ records) entries = kept_life n ∷ kept_by records entries
kept_by (block_record n ∷ records) entries = kept_block n ∷ kept_by records entries
kept_by (entry_record w ∷ records) (e ∷ entries) = kept_entry e ∷ kept_by records entries
kept_by (other ∷ records) entries = kept_by records entries

kept_again : (kept : List Kept) → kept_by (records_of kept) (entries_kept kept) ≡ kept
kept_again [] = refl
kept_again (kept_change (create_change c) ∷ kept) = ap (λ (l : List Kept). kept_change (create_change c) ∷ l) (kept_again kept)
kept_again (kept_change (split_change s) ∷ kept) = ap (λ (l : List Kept). kept_change (split_change s) ∷ l) (kept_again kept)
kept_again (kept_change (commit_change c) ∷ kept) = ap (λ (l : List Kept). kept_change (commit_change c) ∷ l) (kept_again kept)
kept_again (k ∷ kept) = ap (λ (l : List Kept). k ∷ l) (kept_again kept)

one_kept : (file : List ℕ) (a b : List Kept) → IsJournal file a → IsJournal file b → entries_kept a ≡ entries_kept b → a ≡ b
one_kept file a b p q entries =
    let records : records_of a ≡ records_of b =
    same_records (records_of a) (records_of b) (all_mapped _ record_kept a p.readable) (all_mapped _ record_kept b q.readable)
    (spelled_kept a ∙ unique.one_list file _ _ p.stands q.stands ∙ sym (spelled_kept b)) in
    sym (kept_again a) ∙ (λ i. kept_by (records i) (entries i)) ∙ kept_again b

kept_at : (files : List (List ℕ)) (nodes others : List Held) (at : ℕ) → AreJournals files nodes → AreJournals files others
    → entries_kept (journal_at nodes at) ≡ entries_kept (journal_at others at) → journal_at nodes at ≡ journal_at others at
kept_at [] [] [] at p q entries = refl
kept_at [] (h ∷ nodes) others at p q entries = absurd p
kept_at [] [] (h ∷ others) at p q entries = absurd q
kept_at (file ∷ files) [] others at p q entries = absurd p
kept_at (file ∷ files) (h ∷ nodes) [] at p q entries = absurd q
kept_at (file ∷ files) (h ∷ nodes) (k ∷ others) zero p q entries = one_kept file h.kept k.kept p.0 q.0 entries
kept_at (file ∷ files) (h ∷ nodes) (k ∷ others) (suc at) p q entries = kept_at files nodes others at p.1 q.1 entries

-- TWO WORLDS

-- the entries of the journal at a place
abbrev entries_in : List (List Entry) → ℕ → List Entry
entries_in [] at = []
entries_in (journal ∷ journals) zero = journal
entries_in (journal ∷ journals) (suc at) = entries_in journals at

at_place : (nodes : List Held) (at : ℕ) → entries_in (map (λ (h : Held). entries_kept h.kept) nodes) at ≡ entries_kept (journal_at nodes at)
at_place [] at = refl
at_place (h ∷ nodes) zero = refl
at_place (h ∷ nodes) (suc at) = at_place nodes at

module _ (others routers : ℕ) where
  is_history : (w : World) → Reached others routers w → IsHistory w.nodes
  is_history w reached = let h = reached_calls_make_one_history others routers w reached in record { legal = h.legal; placed = h.placed }

  pub same_journals : (files : List (List ℕ)) (u w : World) → Reached others routers u → Reached others routers w → AreJournals files u.nodes
      → AreJournals files w.nodes → (at : ℕ) → journal_at u.nodes at ≡ journal_at w.nodes at
  same_journals files u w p q a b at =
      let journals = one_entries files u.nodes w.nodes a b (is_history u p) (is_history w q) in
      kept_at files u.nodes w.nodes at a b
      (sym (at_place u.nodes at) ∙ (ap (λ (l : List (List Entry)). entries_in l at) journals ∙ at_place w.nodes at))
