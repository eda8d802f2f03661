-- What nodes are.
use Rattle.std.specs.Prelude.{ℕ, ℤ, List, [], ◌∷◌, Bool, false, ◌==◌, Option, Some, None, Result, if◌then◌else◌}
use Rattle.reply_model.specs.Requests.{Request}
use Rattle.reply_model.specs.History.{Entry}
use Rattle.chunk_model.specs.Changes.{Change}
use Rattle.reply_model.specs.Tables.{Table}
use Rattle.reply_model.specs.Tree.{Datum}
use Rattle.reply_model.specs.Outcomes.{StatementOutcome, Try}
use Rattle.reply_model.specs.Writes.{WriteKind}
use Rattle.pipeline_model.specs.Halves.{Rows}
use Rattle.pipeline_model.specs.Stages.{Stage}
use Rattle.reply_model.specs.Verdicts.{Sent}
use Rattle.reply_model.specs.Cursors.{Cursor}
use Rattle.node_model.specs.Letters.{HalfFault, Letter, Statement}

-- `changes`: newest first
pub record Catalogue : Type 0 where
  pub me : ℕ
  pub time : ℕ
  pub changes : List Change

-- `ceiling`: the greatest of its ceilings; `parked`: the requests that wait for a table
pub record Shard : Type 0 where
  pub me : ℕ
  pub time : ℕ
  pub tables : List Table
  pub entries : List Entry
  pub ceiling : ℕ
  pub parked : List Letter

-- how the result of a read is returned: in batches, of which the first has so many documents at most, and is the only one where `single`; or as the
-- number of documents
pub data Telling : Type 0 where
  in_batches : (size : ℕ) → (single : Bool) → Telling
  as_number : Telling

-- statements of a write, by their indices, that were sent to a shard together, with the versions that were sent along; those that are not answered
pub record Run : Type 0 where
  pub shard : ℕ
  pub sent : Sent
  pub indices : List ℕ

-- How far a write has come: of each statement, by its index, its outcome, if it has one, and its tries that met a later table; and what was sent.
pub record Course : Type 0 where
  pub answers : List (Option StatementOutcome)
  pub tries : List (List Try)
  pub runs : List Run

-- what a request has to do before it is answered
pub data Work : Type 0 where
  -- the statements of a write of this kind, with their indices from 0 on
  writing : WriteKind → (ordered : Bool) → (statements : List Statement) → Course → Work
  -- what stages make of the documents at a time; where none is `named` it is that of the router that reaches this one
  reading : (named : Bool) → (at : ℕ) → List Stage → Telling → Work
  -- its collection is created
  sharding : Work
  -- a chunk of it is split at the key
  splitting : (middle : Datum) → Work

-- what an open request waits for: the time that it reads at, the catalogue (a write may wait for shards too), or the shards
pub data Wait : Type 0 where
  for_time : Wait
  for_catalogue : Wait
  for_shards : Wait

-- a shard that a read was sent to, with the versions that were sent along
pub record Target : Type 0 where
  pub shard : ℕ
  pub sent : Sent

-- what a shard returned for a read: its rows, or why there are none
pub record Part : Type 0 where
  pub shard : ℕ
  pub rows : Result Rows HalfFault

-- A request that is not answered yet. `arrived`: the last moment that the router was given before it took it, 0 if there was none. `tries`: of a read, those that
-- met a later table. `told`: the shards that returned their time to it, in order; of a read that was sent to shards: to which ones, in order of their numbers, and
-- what they returned, in order of arrival.
pub record Open : Type 0 where
  pub count : ℕ
  pub link : ℕ
  pub number : ℤ
  pub request : Request
  pub arrived : ℕ
  pub tries : List Try
  pub namespace : List ℕ
  pub wait : Wait
  pub told : List ℕ
  pub targets : List Target
  pub parts : List Part
  pub work : Work

-- `life` is the one that the router is in, or will begin where `begun` is false; `moment` is the last that it was given; `count` counts
-- the requests that it took in this life; `cursors` are those that it opened in it. Cursors have numbers from 1 on, in blocks of 64: so many
-- `blocks` it has written in all its lives, and the last number that it `gave`: a life begins with the last of the blocks before it. There are so many
-- `shards`, from node 1 on.
pub record Router : Type 0 where
  pub me : ℕ
  pub shards : ℕ
  pub time : ℕ
  pub life : ℕ
  pub begun : Bool
  pub moment : ℕ
  pub count : ℕ
  pub tables : List Table
  pub requests : List Open
  pub cursors : List Cursor
  pub blocks : ℕ
  pub gave : ℕ

pub data NodeState : Type 0 where
  catalogue_state : Catalogue → NodeState
  shard_state : Shard → NodeState
  router_state : Router → NodeState

abbrev pub time_of_node : NodeState → ℕ
time_of_node (catalogue_state c) = c.time
time_of_node (shard_state s) = s.time
time_of_node (router_state r) = r.time

-- the open request with this count
abbrev pub open_with : ℕ → List Open → Option Open
open_with count [] = None
open_with count (q ∷ requests) = if q.count == count then Some q else open_with count requests

abbrev pub without : ℕ → List Open → List Open
without count [] = []
without count (q ∷ requests) = if q.count == count then without count requests else q ∷ without count requests

-- this request in the place of the one with its count
abbrev pub replaced : Open → List Open → List Open
replaced p [] = []
replaced p (q ∷ requests) = if q.count == p.count then p ∷ replaced p requests else q ∷ replaced p requests

-- nodes as they are before their first step
abbrev pub new_catalogue : ℕ → Catalogue
new_catalogue me = record { me = me; time = 0; changes = [] }

abbrev pub new_shard : ℕ → Shard
new_shard me = record { me = me; time = 0; tables = []; entries = []; ceiling = 0; parked = [] }

abbrev pub new_router : (me shards : ℕ) → Router
new_router me shards = record { me = me; shards = shards; time = 0; life = 1; begun = false; moment = 0; count = 0; tables = []; requests = []; cursors = []; blocks = 0; gave = 0 }
