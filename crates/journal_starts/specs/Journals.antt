-- What the files of the nodes store.
use Rattle.std.specs.Prelude.{ℕ, List, [], ◌∷◌}
use Rattle.std.specs.List.{AllByRecursion}
use Rattle.history_model.specs.History.{Legal}
use Rattle.journal_frames.specs.Files.{Stands}
use Rattle.node_model.specs.Journal.{Kept, changes_kept}
use Rattle.node_model.specs.OneHistory.{IsPlaced}
use Rattle.node_model.specs.World.{Held, journal_at, history_of}
use Rattle.node_traits.specs.Effects.{AreReadable, spellings}

-- an opening of the file finds the encoding of each record that is stored, and nothing else; each is read again as that record
pub record IsJournal (file : List ℕ) (kept : List Kept) : Type 0 where
  pub stands : Stands file (spellings kept)
  pub readable : AreReadable kept

-- the files, in order of their nodes, are the journals of these
abbrev pub AreJournals : List (List ℕ) → List Held → Type 0
AreJournals [] [] = Unit {0}
AreJournals (file ∷ files) (h ∷ nodes) = IsJournal file h.kept × AreJournals files nodes
AreJournals files nodes = ⊥

-- what all journals store is a legal history, of collections that the catalogue stores
pub record IsHistory (nodes : List Held) : Type 0 where
  pub legal : Legal (history_of nodes)
  pub placed : AllByRecursion (IsPlaced (changes_kept (journal_at nodes 0))) (history_of nodes)
