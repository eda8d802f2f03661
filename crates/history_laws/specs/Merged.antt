-- The history of several journals, one of each shard: their entries in one order, by time, and at one time by shard (own; that a statement is done at most once
-- is MongoDB manual, "Retryable Writes"; that a read at a time sees all shards at it, "Read Concern \"snapshot\"").
use Rattle.std.specs.Prelude.{◌≡◌, ◌≢◌, ℕ, List, [], ◌∷◌, ◌++◌, Option, Bool, true, false, ◌&&◌, ◌||◌, if◌then◌else◌, nat_lt, nat_eq}
use Rattle.std.specs.List.{AllByRecursion}
use Rattle.bson_model.specs.Tree.{Datum}
use Rattle.history_model.specs.History.{Entry, IsBefore, IsIn, writes_to}

-- whether the first entry comes before the second: by time, and at one time by shard
abbrev pub precedes : Entry → Entry → Bool
precedes d e = nat_lt d.time e.time || (nat_eq d.time e.time && nat_lt d.shard e.shard)

-- an entry among others: after the first ones as long as they precede it
abbrev pub placed : Entry → List Entry → List Entry
placed e [] = e ∷ []
placed e (d ∷ later) = if precedes d e then d ∷ placed e later else e ∷ d ∷ later

-- the entries of a journal, each placed among others
abbrev pub merged_with : List Entry → List Entry → List Entry
merged_with [] entries = entries
merged_with (e ∷ journal) entries = placed e (merged_with journal entries)

-- the entries of these journals in one order
abbrev pub merged : List (List Entry) → List Entry
merged [] = []
merged (journal ∷ journals) = merged_with journal (merged journals)

-- each entry comes before all later ones
abbrev pub IsRising : List Entry → Type 0
IsRising [] = Unit {0}
IsRising (e ∷ later) = AllByRecursion (λ d. IsBefore e d) later × IsRising later

-- the entries of one shard, with rising times
pub record IsJournalOf (shard : ℕ) (entries : List Entry) : Type 0 where
  pub own : AllByRecursion (λ e. e.shard ≡ shard) entries
  pub rising : IsRising entries

-- each journal is that of its shard, and the shards differ
abbrev pub AreJournalsOf : List ℕ → List (List Entry) → Type 0
AreJournalsOf [] [] = Unit {0}
AreJournalsOf [] (journal ∷ journals) = ⊥
AreJournalsOf (shard ∷ shards) [] = ⊥
AreJournalsOf (shard ∷ shards) (journal ∷ journals) = IsJournalOf shard journal × AllByRecursion (λ other. other ≢ shard) shards × AreJournalsOf shards journals

-- no key of a namespace is written by an entry of the one and an entry of the other; an entry without a key writes none
abbrev pub ShareNoKey : List Entry → List Entry → Type 0
ShareNoKey some others = (namespace : List ℕ) (key : Option Datum) (d e : Entry) → IsIn d some → IsIn e others
    → writes_to namespace key d ≡ true → writes_to namespace key e ≡ true → ⊥

-- no two of the journals share a key of a namespace
abbrev pub AreApart : List (List Entry) → Type 0
AreApart [] = Unit {0}
AreApart (journal ∷ journals) = AllByRecursion (λ other. ShareNoKey journal other) journals × AreApart journals

-- no entry of these journals writes the key of the namespace
abbrev pub WriteNone : List ℕ → Option Datum → List (List Entry) → Type 0
WriteNone namespace key journals = AllByRecursion (λ journal. AllByRecursion (λ e. writes_to namespace key e ≡ false) journal) journals

-- the entries after are those before, with this one among them
abbrev pub IsOneMore : Entry → List Entry → List Entry → Type 0
IsOneMore e before after = (prefix back : List Entry) × (before ≡ prefix ++ back) × (after ≡ prefix ++ e ∷ back)
