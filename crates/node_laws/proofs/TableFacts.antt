-- What is known of tables, and of the shards that a request was sent to by one.
use Rattle.std.proofs.Common.{◌≡◌, ℕ, List, [], ◌++◌}
use Rattle.std.specs.Prelude.{Some, true}
use Rattle.std.specs.List.{AllByRecursion}
use Rattle.chunk_model.specs.Changes.{Change, known_table}
use Rattle.chunk_model.specs.Placement.{AreFitting}
use Rattle.chunk_model.specs.Tables.{Table}
use Rattle.chunk_model.specs.Verdicts.{Sent, sent_by}
use Rattle.pipeline_model.specs.Stages.{Stage}
use Rattle.reply_model.specs.Right.{WasCreated}
use Rattle.node_model.specs.States.{Target, Work, writing, reading, sharding, splitting, Wait, for_time, for_catalogue, for_shards}
use Rattle.node_model.specs.RouterRequests.{targets_at, is_owned_at}
use Rattle.node_laws.proofs.Views.{View, changes_in, MovesNothing}

-- a table that the catalogue had: its changes up to one of them make it, and its collection was created by a time
pub record IsKnownTable (v : View) (time : ℕ) (t : Table) : Type 0 where
  pub more : List Change
  pub older : List Change
  pub all : changes_in v ≡ more ++ older
  pub begun : WasCreated older t.namespace time
  pub known : known_table t.namespace older ≡ Some t
  pub fitting : AreFitting older
  pub still : AllByRecursion MovesNothing (changes_in v)

-- the versions that were sent to a shard along with a request are those of a table of the collection that the catalogue had by a time
pub record IsVersionOf (v : View) (time : ℕ) (namespace : List ℕ) (shard : ℕ) (sent : Sent) : Type 0 where
  pub table : Table
  pub known : IsKnownTable v time table
  pub name : table.namespace ≡ namespace
  pub same : sent ≡ sent_by table shard

-- a read was sent to these shards by a table of its collection that says who owned each key at its time
pub record IsSentBy (v : View) (time : ℕ) (namespace : List ℕ) (at : ℕ) (stages : List Stage) (targets : List Target) : Type 0 where
  pub table : Table
  pub known : IsKnownTable v time table
  pub name : table.namespace ≡ namespace
  pub targets_are : targets ≡ targets_at table at stages
  pub enough : is_owned_at table at ≡ true

-- by its work, a request that waits for shards: no other than a read was sent to shards that return parts
abbrev pub IsSentOut : View → (time : ℕ) → (namespace : List ℕ) → Work → List Target → Type 0
IsSentOut v time namespace (writing kind ordered statements c) targets = targets ≡ []
IsSentOut v time namespace (reading named at stages telling) targets = IsSentBy v time namespace at stages targets
IsSentOut v time namespace sharding targets = targets ≡ []
IsSentOut v time namespace (splitting middle) targets = targets ≡ []

-- one that waits for something else was sent to none
abbrev pub IsSentTo : View → (time : ℕ) → (namespace : List ℕ) → Wait → Work → List Target → Type 0
IsSentTo v time namespace for_time work targets = targets ≡ []
IsSentTo v time namespace for_catalogue work targets = targets ≡ []
IsSentTo v time namespace for_shards work targets = IsSentOut v time namespace work targets
