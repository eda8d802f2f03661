-- The records that openings of files find, and the states of nodes that are opened on them (docs/JOURNAL.md, "The program's journals").
use Rattle.std.specs.Prelude.{◌≡◌, ◌⊎◌, ℕ, zero, suc, ◌+◌, List, [], ◌∷◌, Some, nat_lt, if◌then◌else◌}
use Rattle.std.specs.List.{slice_get}
use Rattle.journal_frames.specs.Files.{IsDamaged, Stands}
use Rattle.journal_replay.specs.Replayed.{IsRefused, IsReplayed}
use Rattle.node_model.specs.States.{NodeState}
use Rattle.node_replay.specs.Durable.{DurableState, durable_catalogue, durable_shard, durable_router, empty_catalogue, empty_shard, empty_router}
use Rattle.node_replay.specs.Openings.{opened}

-- these are the records of the files, in order
abbrev pub HaveRecords : (files : List (List ℕ)) → (found : List (List (List ℕ))) → Type 0
HaveRecords [] [] = Unit {0}
HaveRecords (file ∷ files) (records ∷ found) = Stands file records × HaveRecords files found
HaveRecords files found = ⊥

-- the durable part of the node of a number, with an empty journal, where there are so many shards after the first: node 0 is the catalogue, then the shards
-- follow, and all after them are routers
abbrev pub part_at : (others n : ℕ) → DurableState
part_at others zero = durable_catalogue (empty_catalogue 0)
part_at others (suc n) = if nat_lt others n then durable_router (empty_router (suc n) (others + 1)) else durable_shard (empty_shard (suc n))

-- the state after an opening on these records, from an empty journal on: each is read, and what they replay to is opened at the greatest time in them
pub record IsOpened (empty : DurableState) (records : List (List ℕ)) (state : NodeState) : Type 0 where
  pub d : DurableState
  pub time : ℕ
  pub replayed : IsReplayed empty records d time
  pub is : state ≡ opened time d

-- so are the nodes from this number on, in order
abbrev pub AreOpened : (others first : ℕ) → (found : List (List (List ℕ))) → List NodeState → Type 0
AreOpened others first [] [] = Unit {0}
AreOpened others first (records ∷ found) (state ∷ states) = IsOpened (part_at others first) records state × AreOpened others (first + 1) found states
AreOpened others first found states = ⊥

-- among those of the nodes from this number on there is a record that is none or may not follow
abbrev pub SomeRefused : (others first : ℕ) → (found : List (List (List ℕ))) → Type 0
SomeRefused others first [] = ⊥
SomeRefused others first (records ∷ found) = ((index : ℕ) × IsRefused (part_at others first) records index) ⊎ SomeRefused others (first + 1) found

-- No nodes can be opened on the files: one is damaged, or one has a record that is none or may not follow.
pub data AreRefused (others : ℕ) (files : List (List ℕ)) : Type 0 where
  by_damage : (at offset : ℕ) (file : List ℕ) → slice_get files at ≡ Some file → IsDamaged file offset → AreRefused others files
  by_record : (found : List (List (List ℕ))) → HaveRecords files found → SomeRefused others 0 found → AreRefused others files
