-- Files keep one history.
use Rattle.std.specs.Prelude.{◌≡◌, ℕ, zero, suc, List, [], ◌∷◌, ◌++◌, map, Option, Some, None}
use Rattle.std.proofs.Common.{refl, ap, sym, ◌∙◌, subst}
use Rattle.std.proofs.lemmas.Option.{same_Some}
use Rattle.std.specs.List.{AllByRecursion}
use Rattle.chunk_model.specs.Changes.{Change, create_change, split_change, commit_change}
use Rattle.chunk_model.specs.Placement.{owner}
use Rattle.history_laws.specs.Merged.{merged}
use Rattle.history_model.proofs.Lists.{all_at, all_from}
use Rattle.history_model.specs.History.{Operation, Entry, LegalAfter, key_written, document_left}
use Rattle.journal_frames.proofs.Unique as unique
use Rattle.node_model.specs.Journal.{Kept, kept_table, kept_entry, kept_change, kept_ceiling, kept_none, kept_life, kept_block, record_kept, entries_kept, changes_onto, changes_kept}
use Rattle.node_model.specs.OneHistory.{IsPlaced}
use Rattle.node_model.specs.World.{Held, journal_at, history_of}
use Rattle.node_laws.proofs.Lists.{all_mapped}
use Rattle.node_replay.specs.Replays.{records_of}
use Rattle.node_replay.proofs.StoredEntries.{in_first_journal, in_later_journals}
use Rattle.record_model.specs.RecordContents.{IsKnown, KeepEntries}
use Rattle.record_model.specs.Records.{EntryWords, Record, create_record, split_record, commit_record, entry_record, record_of}
use Rattle.record_model.proofs.Entries.{known_effect, one_list, own_entries}
use Rattle.shard_records.specs.Readable.{IsReadable}
use Rattle.journal_starts.specs.Journals.{IsJournal, AreJournals, IsHistory}
use Rattle.journal_starts.proofs.Readings.{same_records, spelled_kept}

one_journal : (file : List ℕ) (a b : List Kept) → IsJournal file a → IsJournal file b → map record_kept a ≡ map record_kept b
one_journal file a b p q =
    same_records (records_of a) (records_of b) (all_mapped IsReadable record_kept a p.readable) (all_mapped IsReadable record_kept b q.readable)
    (spelled_kept a ∙ unique.one_list file _ _ p.stands q.stands ∙ sym (spelled_kept b))

-- the journals at one place keep the same records
one_at : (files : List (List ℕ)) (nodes others : List Held) (at : ℕ) → AreJournals files nodes → AreJournals files others
    → map record_kept (journal_at nodes at) ≡ map record_kept (journal_at others at)
one_at [] [] [] at p q = refl
one_at [] (h ∷ nodes) others at p q = absurd p
one_at [] [] (h ∷ others) at p q = absurd q
one_at (file ∷ files) [] others at p q = absurd p
one_at (file ∷ files) (h ∷ nodes) [] at p q = absurd q
one_at (file ∷ files) (h ∷ nodes) (k ∷ others) zero p q = one_journal file h.kept k.kept p.0 q.0
one_at (file ∷ files) (h ∷ nodes) (k ∷ others) (suc at) p q = one_at files nodes others at p.1 q.1

-- the changes of the catalogue among records, after these, newest first
abbrev changes_among : List Change → List Record → List Change
changes_among older [] = older
changes_among older (create_record c ∷ records) = changes_among (create_change c ∷ older) records
changes_among older (split_record s ∷ records) = changes_among (split_change s ∷ older) records
changes_among older (commit_record c ∷ records) = changes_among (commit_change c ∷ older) records
changes_among older (other ∷ records) = changes_among older records

begun : (older : List Change) (kept : List Kept) → changes_onto older kept ≡ changes_among older (map record_kept kept)
begun older [] = refl
begun older (kept_change (create_change c) ∷ kept) = begun (create_change c ∷ older) kept
begun older (kept_change (split_change s) ∷ kept) = begun (split_change s ∷ older) kept
begun older (kept_change (commit_change c) ∷ kept) = begun (commit_change c ∷ older) kept
begun older (kept_table t ∷ kept) = begun older kept
begun older (kept_entry e ∷ kept) = begun older kept
begun older (kept_life n ∷ kept) = begun older kept
begun older (kept_block n ∷ kept) = begun older kept
begun older (kept_ceiling n ∷ kept) = begun older kept
begun older (kept_none n ∷ kept) = begun older kept

-- the entries among records
abbrev entries_among : List Record → List Record
entries_among [] = []
entries_among (entry_record w ∷ records) = entry_record w ∷ entries_among records
entries_among (other ∷ records) = entries_among records

written : (kept : List Kept) → entries_among (map record_kept kept) ≡ map record_of (entries_kept kept)
written [] = refl
written (kept_entry e ∷ kept) = ap (λ (rs : List Record). record_of e ∷ rs) (written kept)
written (kept_change (create_change c) ∷ kept) = written kept
written (kept_change (split_change s) ∷ kept) = written kept
written (kept_change (commit_change c) ∷ kept) = written kept
written (kept_table t ∷ kept) = written kept
written (kept_life n ∷ kept) = written kept
written (kept_block n ∷ kept) = written kept
written (kept_ceiling n ∷ kept) = written kept
written (kept_none n ∷ kept) = written kept

abbrev words_in : Record → Option EntryWords
words_in (entry_record w) = Some w
words_in other = None

-- an entry that is legal has an error with a name
known : (earlier : List Entry) (e : Entry) (later : List Entry) → LegalAfter earlier (e ∷ later) → IsKnown e.outcome.error
known earlier e later legal =
    subst (λ o. IsKnown o.error) (sym legal.0.told) (known_effect e.operation (document_left e.namespace (key_written e.operation) earlier))

-- the changes say on which shard an entry is
same_shard : (changes : List Change) (a b : Entry) → record_of a ≡ record_of b → IsPlaced changes a → IsPlaced changes b → a.shard ≡ b.shard
same_shard changes a b same p q =
    let words = same_Some _ _ (ap words_in same) in
    let times : a.time ≡ b.time = ap (λ (w : EntryWords). w.time) words in
    let names : a.namespace ≡ b.namespace = ap (λ (w : EntryWords). w.namespace) words in
    let operations : a.operation ≡ b.operation = ap (λ (w : EntryWords). w.operation) words in
    let keys : p.key ≡ q.key = same_Some _ _ (sym p.writes ∙ ap (λ (o : Operation). key_written o) operations ∙ q.writes) in
    let owners : owner a.namespace p.key a.time changes ≡ owner b.namespace q.key b.time changes = λ i. owner (names i) (keys i) (times i) changes in
    same_Some _ _ (sym p.owner ∙ owners ∙ q.owner)

same_entry : (a b : Entry) → record_of a ≡ record_of b → a.shard ≡ b.shard → IsKnown a.outcome.error → IsKnown b.outcome.error → a ≡ b
same_entry a b same place p q =
    let own : KeepEntries b.shard (record_of b ∷ []) (a ∷ []) =
    subst (λ (r : Record). KeepEntries b.shard (r ∷ []) (a ∷ [])) same (own_entries b.shard (a ∷ []) ((place, p), tt)) in
    let one : a ∷ [] ≡ b ∷ [] = one_list b.shard (record_of b ∷ []) (a ∷ []) (b ∷ []) own (own_entries b.shard (b ∷ []) ((refl, q), tt)) in cc

-- an entry has an error with a name, and is on the shard that changes say
abbrev IsSound : List Change → Entry → Type 0
IsSound changes e = IsKnown e.outcome.error × IsPlaced changes e

all_sound : (changes : List Change) (earlier entries : List Entry) → LegalAfter earlier entries → AllByRecursion (IsPlaced changes) entries
    → AllByRecursion (IsSound changes) entries
all_sound changes earlier [] legal placed = tt
all_sound changes earlier (e ∷ entries) legal placed =
    ((known earlier e entries legal, placed.0), all_sound changes (earlier ++ e ∷ []) entries legal.1 placed.1)

-- entries that are placed by the same changes are those of their records
same_entries : (changes : List Change) (a b : List Entry) → AllByRecursion (IsSound changes) a → AllByRecursion (IsSound changes) b
    → map record_of a ≡ map record_of b → a ≡ b
same_entries changes [] [] p q same = refl
same_entries changes [] (d ∷ b) p q same = cc
same_entries changes (e ∷ a) [] p q same = cc
same_entries changes (e ∷ a) (d ∷ b) p q same =
    let one : record_of e ≡ record_of d = cc in
    let others : map record_of a ≡ map record_of b = cc in
    let first : e ≡ d = same_entry e d one (same_shard changes e d one p.0.1 q.0.1) p.0.0 q.0.0 in
    let rest : a ≡ b = same_entries changes a b p.1 q.1 others in
    λ i. first i ∷ rest i

-- EACH JOURNAL

abbrev AreSound : List Change → List Held → Type 0
AreSound changes nodes = AllByRecursion (λ (h : Held). AllByRecursion (IsSound changes) (entries_kept h.kept)) nodes

-- so are the entries of each journal
each_sound : (changes : List Change) (nodes : List Held) → AllByRecursion (IsSound changes) (history_of nodes) → AreSound changes nodes
each_sound changes [] all = tt
each_sound changes (h ∷ nodes) all = (
  all_from (IsSound changes) (entries_kept h.kept)
      (λ e i. all_at (IsSound changes) e (history_of (h ∷ nodes)) all (in_first_journal e h nodes i)),
  each_sound changes nodes
      (all_from (IsSound changes) (history_of nodes) (λ e i. all_at (IsSound changes) e (history_of (h ∷ nodes)) all (in_later_journals e h nodes i))),
)

abbrev journals_of : List Held → List (List Entry)
journals_of nodes = map (λ (h : Held). entries_kept h.kept) nodes

same_journals : (changes : List Change) (files : List (List ℕ)) (nodes others : List Held) → AreJournals files nodes → AreJournals files others
    → AreSound changes nodes → AreSound changes others → journals_of nodes ≡ journals_of others
same_journals changes [] [] [] p q a b = refl
same_journals changes [] (h ∷ nodes) others p q a b = absurd p
same_journals changes [] [] (k ∷ others) p q a b = absurd q
same_journals changes (file ∷ files) [] others p q a b = absurd p
same_journals changes (file ∷ files) (h ∷ nodes) [] p q a b = absurd q
same_journals changes (file ∷ files) (h ∷ nodes) (k ∷ others) p q a b =
    let records : map record_of (entries_kept h.kept) ≡ map record_of (entries_kept k.kept) =
    sym (written h.kept) ∙ ap (λ (rs : List Record). entries_among rs) (one_journal file h.kept k.kept p.0 q.0) ∙ written k.kept in
    let first = same_entries changes (entries_kept h.kept) (entries_kept k.kept) a.0 b.0 records in
    let rest = same_journals changes files nodes others p.1 q.1 a.1 b.1 in
    λ i. first i ∷ rest i

-- what the files store is sound by the changes that they store
stored_sound : (changes : List Change) (nodes : List Held) → changes_kept (journal_at nodes 0) ≡ changes → IsHistory nodes → AreSound changes nodes
stored_sound changes nodes same h =
    each_sound changes nodes
    (all_sound changes [] (history_of nodes) h.legal (subst (λ (xs : List Change). AllByRecursion (IsPlaced xs) (history_of nodes)) same h.placed))

-- the catalogue's journal stores the same changes
same_changes : (files : List (List ℕ)) (nodes others : List Held) → AreJournals files nodes → AreJournals files others
    → changes_kept (journal_at nodes 0) ≡ changes_kept (journal_at others 0)
same_changes files nodes others p q =
    begun [] (journal_at nodes 0) ∙ ap (λ (rs : List Record). changes_among [] rs) (one_at files nodes others 0 p q) ∙ sym (begun [] (journal_at others 0))

-- each journal has the same entries
pub one_entries : (files : List (List ℕ)) (nodes others : List Held) → AreJournals files nodes → AreJournals files others → IsHistory nodes → IsHistory others
    → map (λ (h : Held). entries_kept h.kept) nodes ≡ map (λ (h : Held). entries_kept h.kept) others
one_entries files nodes others p q a b =
    same_journals (changes_kept (journal_at others 0)) files nodes others p q
    (stored_sound (changes_kept (journal_at others 0)) nodes (same_changes files nodes others p q) a)
    (stored_sound (changes_kept (journal_at others 0)) others refl b)

pub one_history : (files : List (List ℕ)) (nodes others : List Held) → AreJournals files nodes → AreJournals files others → IsHistory nodes → IsHistory others
    → (changes_kept (journal_at nodes 0) ≡ changes_kept (journal_at others 0)) × (history_of nodes ≡ history_of others)
one_history files nodes others p q a b = (same_changes files nodes others p q, ap (λ l. merged l) (one_entries files nodes others p q a b))
