-- Journals that are open, and what their disks keep.
use Rattle.std.specs.Prelude.{◌≡◌, ℕ, Bool, IsTrue, List, [], ◌∷◌, map}
use Rattle.std.specs.List.{AllByRecursion}
use Rattle.journal_frames.specs.Files.{Stands}
use Rattle.journal_frames.specs.Views.{IsSettled, JournalView}
use Rattle.node_model.specs.World.{Held}
use Rattle.node_traits.specs.Effects.{AreReadable, spellings}

-- The journal is open, and an opening of its file finds just these records.
pub record IsOpenWith {D : Type 0} (tells : Bool) (content : D → List ℕ) (journal : JournalView D) (records : List (List ℕ)) : Type 0 where
  pub ready : IsTrue journal.is_open
  pub listed : IsTrue tells → journal.records ≡ records
  pub stands : IsTrue tells → Stands (content journal.disk) records

-- the journals, in order of their nodes, are open and store what these do
abbrev pub AreOpenWith : {D : Type 0} → (tells : Bool) → (content : D → List ℕ) → List (JournalView D) → List Held → Type 0
AreOpenWith tells content [] [] = Unit {0}
AreOpenWith tells content (journal ∷ journals) (h ∷ nodes) =
    (IsOpenWith tells content journal (spellings h.kept) × AreReadable h.kept) × AreOpenWith tells content journals nodes
AreOpenWith tells content journals nodes = ⊥

-- records can be appended to each
abbrev pub AreAllOpen : {D : Type 0} → List (JournalView D) → Type 0
AreAllOpen journals = AllByRecursion (λ journal. IsTrue journal.is_open) journals

-- the disks of the journals, in order of their nodes
abbrev pub disks_of : {D : Type 0} → List (JournalView D) → List D
disks_of journals = map (λ journal. journal.disk) journals

-- the disk's file is a journal of records, byte for byte, with nothing after its closed gate, and a crash leaves just this file
abbrev pub IsDurable : {D : Type 0} → (D → List ℕ) → (D → List ℕ → Type 0) → D → Type 0
IsDurable content may_leave disk = (records : List (List ℕ)) × IsSettled (content disk) (may_leave disk) records
