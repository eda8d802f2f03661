-- What the catalogue answers to a request for a change (MongoDB manual, "Sharded Cluster Balancer", chunk migration procedure, and
-- "Split Chunks in a Sharded Cluster"; that a repeated commit is answered by its first is own).
use Rattle.std.specs.Prelude.{◌≡◌, ℕ, ◌+◌, List, Bool, true, false, ◌&&◌, ◌==◌, not, Option, Some, None, if◌then◌else◌}
use Rattle.bson_model.specs.Tree.{Datum}
use Rattle.base_model.specs.Identities.{RequestId}
use Rattle.value_model.specs.Keys.{Range}
use Rattle.chunk_model.specs.Catalogue.{Creation, Split, Commit}
use Rattle.chunk_model.specs.Versions.{Version}
use Rattle.chunk_model.specs.Tables.{Chunk, Table, is_owner}
use Rattle.chunk_model.specs.Changes.{Change, create_change, split_change, commit_change, known_table, creations, is_committed, can_split, chunk_with}

-- what a donor requests: the move of this id, of the chunk of this range and version, from its owner to another shard
pub record CommitWords : Type 0 where
  pub id : RequestId
  pub namespace : List ℕ
  pub range : Range
  pub version : Version
  pub from : ℕ
  pub to : ℕ

pub data CatalogueAnswer : Type 0 where
  changed : Change → CatalogueAnswer
  -- what was requested exists
  unchanged : CatalogueAnswer
  -- the move was committed before
  settled : Bool → CatalogueAnswer
  no_collection : CatalogueAnswer
  -- no chunk has that range
  not_a_bound : CatalogueAnswer
  -- the chunk of that range has this version
  version_differs : Version → CatalogueAnswer
  not_owner : CatalogueAnswer
  same_shard : CatalogueAnswer

abbrev pub create_answer : List ℕ → ℕ → List Change → CatalogueAnswer
create_answer namespace at changes =
    elim (known_table namespace changes) as (λ (o : Option Table). CatalogueAnswer) [
      | None ↦ changed (create_change (record { namespace = namespace; epoch = creations namespace changes + 1; at = at }))
      | Some t ↦ unchanged
    ]

abbrev pub split_answer : List ℕ → Datum → ℕ → List Change → CatalogueAnswer
split_answer namespace middle at changes =
    elim (known_table namespace changes) as (λ (o : Option Table). CatalogueAnswer) [
      | None ↦ no_collection
      | Some t ↦ if can_split middle t.chunks then changed (split_change (record { namespace = namespace; middle = middle; at = at })) else unchanged
    ]

abbrev pub same_version : Version → Version → Bool
same_version a b = (a.epoch == b.epoch) && ((a.major == b.major) && (a.minor == b.minor))

-- of the chunk that has the range
abbrev pub chunk_answer : CommitWords → ℕ → Chunk → CatalogueAnswer
chunk_answer words at c =
    if not (same_version c.version words.version) then version_differs c.version
    else if not (is_owner words.from c.owners) then not_owner
    else if words.from == words.to then same_shard
    else changed (commit_change (record {
      id = words.id;
      namespace = words.namespace;
      range = words.range;
      from = words.from;
      to = words.to;
      at = at;
    }))

abbrev pub commit_answer : CommitWords → ℕ → List Change → CatalogueAnswer
commit_answer words at changes =
    if is_committed words.id changes then settled true
    else elim (known_table words.namespace changes) as (λ (o : Option Table). CatalogueAnswer) [
      | None ↦ no_collection
      | Some t ↦ elim (chunk_with words.range t.chunks) as (λ (o : Option Chunk). CatalogueAnswer) [
        | None ↦ not_a_bound
        | Some c ↦ chunk_answer words at c
      ]
    ]
