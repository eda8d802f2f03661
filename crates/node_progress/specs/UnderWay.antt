-- What is under way for each request that is not answered yet: of each thing that it waits for, one message is not delivered yet, which requests the
-- thing or brings it; or such a message is parked at a shard, and the table that it wants there is under way in the same manner. This speaks of no
-- schedule: any number of requests may be open, and messages may be delivered in any order, and again.
use Rattle.std.specs.Prelude.{◌≡◌, ◌≢◌, ◌⊎◌, ℕ, List, [], ◌∷◌, map, Bool, true, false, Some, IsSome}
use Rattle.std.specs.List.{AllByRecursion, slice_get}
use Rattle.base_model.specs.Identities.{RequestId}
use Rattle.chunk_model.specs.Tables.{first_shard}
use Rattle.history_model.specs.History.{IsIn}
use Rattle.reply_model.specs.Exchanges.{Asked}
use Rattle.node_model.specs.Journal.{Kept}
use Rattle.node_model.specs.Letters.{At, no_time, at_time, Body, table_ask, table_told, split_ask, split_done, write_ask, write_done, read_ask, half_ask, read_rows, refused, of_request, of_table, is_stale, is_lack, time_ask, time_told, Letter}
use Rattle.node_model.specs.States.{Target, Run, Shard, Router, Wait, for_time, for_catalogue, for_shards, Work, writing, reading, sharding, splitting, Open, router_state, shard_state}
use Rattle.node_model.specs.ShardRows.{Ask, ask_in}
pub use Rattle.node_model.specs.RouterRequests.{first_index}
use Rattle.node_model.specs.RouterRequests.{id_of, shards_of, untold}
use Rattle.node_model.specs.RouterNext.{awaited}
use Rattle.node_model.specs.World.{World, Event, deliver_event}
use Rattle.node_progress.specs.Completion.{IsAnswered, asked_since}

-- THINGS

-- what a node waits for
pub data Thing : Type 0 where
  -- the time of a shard, for a request
  a_time : RequestId → (shard : ℕ) → Thing
  -- the table of a collection, for this node, as it was requested of the catalogue
  a_table : (node : ℕ) → (namespace : List ℕ) → (create : Bool) → At → Thing
  -- that a chunk is split
  a_split : RequestId → Thing
  -- the outcomes of statements of a write that were sent together, of which the first has this index
  a_run : RequestId → (first : ℕ) → Thing
  -- a shard's part of a read, in a turn
  a_part : RequestId → (shard turn : ℕ) → Thing

-- what a request with this left to do waits for from the catalogue
abbrev pub thing_there : RequestId → (node : ℕ) → (namespace : List ℕ) → Work → Thing
thing_there id node namespace (writing kind ordered statements c) = a_table node namespace true no_time
thing_there id node namespace (reading named at stages telling) = a_table node namespace false (at_time at)
thing_there id node namespace sharding = a_table node namespace true no_time
thing_there id node namespace (splitting middle) = a_split id

-- the runs of a write that are under way
abbrev pub runs_of : Work → List Run
runs_of (writing kind ordered statements c) = c.runs
runs_of (reading named at stages telling) = []
runs_of sharding = []
runs_of (splitting middle) = []

abbrev pub things_sent : RequestId → List Run → List Thing
things_sent id runs = map (λ (run : Run). a_run id (first_index run.indices)) runs

-- and from the shards, where its collection has a table: a write waits for its runs, a read for the parts of these
abbrev pub things_stored : RequestId → (node : ℕ) → List Target → (namespace : List ℕ) → Work → List Thing
things_stored id node targets namespace (writing kind ordered statements c) = things_sent id c.runs
things_stored id node targets namespace (reading named at stages telling) = map (λ (x : Target). a_part id x.shard 1) targets
things_stored id node targets namespace sharding = a_table node namespace true no_time ∷ []
things_stored id node targets namespace (splitting middle) = a_split id ∷ []

-- what it waits for, where these shards have not returned their time to it, and these not their parts; a write that waits for a table may have runs under way
abbrev pub things_by : RequestId → (node : ℕ) → (shards : List ℕ) → List Target → (namespace : List ℕ) → Work → Wait → List Thing
things_by id node shards targets namespace work for_time = map (λ shard. a_time id shard) shards
things_by id node shards targets namespace work for_catalogue = thing_there id node namespace work ∷ things_sent id (runs_of work)
things_by id node shards targets namespace work for_shards = things_stored id node targets namespace work

-- what an open request waits for: a read may wait for several shards, a write for several runs and the table, and all else for one thing
abbrev pub things_of : Router → Open → List Thing
things_of r q = things_by (id_of r q.count) r.me (untold q.told (shards_of r)) (awaited q.targets q.parts) q.namespace q.work q.wait

-- MESSAGES

-- The message requests the thing, of a node that has it, or brings it to the node that waits for it. Only a table for the time of a read may be none;
-- any other is there when it comes.
abbrev pub Brings : Thing → (from to : ℕ) → Body → Type 0
Brings t from to (time_ask id) = t ≡ a_time id to
Brings t from to (time_told id) = (t ≡ a_time id from) × (to ≡ id.router)
Brings t from to (table_ask namespace create at) = (t ≡ a_table from namespace create at) × (to ≡ 0)
Brings t from to (table_told namespace create at table) = (t ≡ a_table to namespace create at) × (at ≡ no_time → IsSome table)
Brings t from to (split_ask id namespace middle) = (t ≡ a_split id) × (to ≡ 0) × (from ≡ id.router)
Brings t from to (split_done id found) = (t ≡ a_split id) × (to ≡ id.router)
Brings t from to (write_ask id turn ordered namespace [] sent) = ⊥
Brings t from to (write_ask id turn ordered namespace (s ∷ statements) sent) = (t ≡ a_run id s.number.index) × (to ≡ first_shard)
Brings t from to (write_done id []) = ⊥
Brings t from to (write_done id (d ∷ dones)) = (t ≡ a_run id d.index) × (to ≡ id.router)
Brings t from to (read_ask id turn namespace at half sent) = (t ≡ a_part id to turn) × (to ≡ first_shard)
Brings t from to (half_ask id turn namespace at half documents) = (t ≡ a_part id to turn) × (to ≡ first_shard)
Brings t from to (read_rows id turn rows) = (t ≡ a_part id from turn) × (to ≡ id.router)
Brings t from to (refused what cause) = ⊥

abbrev pub IsFor : Thing → Letter → Type 0
IsFor t m = Brings t m.sender m.receiver m.body

-- one of the messages at places that are left is for the thing
pub record IsSent (left : ℕ → Type 0) (sent : List Letter) (t : Thing) : Type 0 where
  pub place : ℕ
  pub letter : Letter
  pub got : slice_get sent place ≡ Some letter
  pub undelivered : left place
  pub brings : IsFor t letter

-- a request that is parked at this shard wants the table of a collection, which is under way
pub record IsFetched (left : ℕ → Type 0) (sent : List Letter) (s : Shard) (p : Letter) : Type 0 where
  pub ask : Ask
  pub asks : ask_in p.body ≡ Some ask
  pub table : IsSent left sent (a_table s.me ask.namespace false no_time)

-- a message that is for the thing is parked at a shard
pub record IsParked (left : ℕ → Type 0) (w : World) (t : Thing) : Type 0 where
  pub at : ℕ
  pub shard : Shard
  pub kept : List Kept
  pub steps : ℕ
  pub letter : Letter
  pub here : slice_get w.nodes at ≡ Some (record { state = shard_state shard; kept = kept; steps = steps })
  pub parked : IsIn letter shard.parked
  pub brings : IsFor t letter
  pub fetched : IsFetched left w.sent shard letter

abbrev pub IsComing : (left : ℕ → Type 0) → World → Thing → Type 0
IsComing left w t = IsSent left w.sent t ⊎ IsParked left w t

-- there is something that is waited for, and each of these things is under way
pub record AreComing (left : ℕ → Type 0) (w : World) (things : List Thing) : Type 0 where
  pub some : things ≢ []
  pub each : AllByRecursion (IsComing left w) things

-- THE WORLD

-- the request is open at its router, and each thing that it waits for is under way
pub record IsServedNext (left : ℕ → Type 0) (w : World) (a : Asked) : Type 0 where
  pub router : Router
  pub kept : List Kept
  pub steps : ℕ
  pub request : Open
  pub here : slice_get w.nodes a.id.router ≡ Some (record { state = router_state router; kept = kept; steps = steps })
  pub there : IsIn request router.requests
  pub own : a.id ≡ id_of router request.count
  pub coming : AreComing left w (things_of router request)

-- Where the messages at these places are left to deliver: each request that was taken since the first world is answered, or is open, and all that it waits
-- for is under way; all that any open request waits for is, and so is the table of each request that is parked.
pub record IsUnderWay (first : World) (left : ℕ → Type 0) (w : World) : Type 0 where
  pub taken : AllByRecursion (λ (a : Asked). IsAnswered w.answered a ⊎ IsServedNext left w a) (asked_since first w)
  pub waiting : (at : ℕ) (r : Router) (kept : List Kept) (steps : ℕ) (q : Open)
      → slice_get w.nodes at ≡ Some (record { state = router_state r; kept = kept; steps = steps })
      → IsIn q r.requests → AreComing left w (things_of r q)
  pub parked : (at : ℕ) (s : Shard) (kept : List Kept) (steps : ℕ) (p : Letter)
      → slice_get w.nodes at ≡ Some (record { state = shard_state s; kept = kept; steps = steps })
      → IsIn p s.parked → IsFetched left w.sent s p

-- no event delivers the message at a place
abbrev pub IsLeft : List Event → ℕ → Type 0
IsLeft events place = (at : ℕ) → IsIn (deliver_event at place) events → ⊥

abbrev pub IsDelivered : List Event → ℕ → Type 0
IsDelivered events place = (at : ℕ) × IsIn (deliver_event at place) events

-- STALE TABLES

-- the message sends no request back as one that was sent with an older table than the shard's
abbrev pub IsNotStale : Body → Type 0
IsNotStale (refused (of_request id turn first) (is_stale met)) = ⊥
IsNotStale (refused (of_request id turn first) (is_lack node lack)) = Unit {0}
IsNotStale (refused (of_table namespace create at) cause) = Unit {0}
IsNotStale (table_ask namespace create at) = Unit {0}
IsNotStale (table_told namespace create at table) = Unit {0}
IsNotStale (split_ask id namespace middle) = Unit {0}
IsNotStale (split_done id found) = Unit {0}
IsNotStale (write_ask id turn ordered namespace statements sent) = Unit {0}
IsNotStale (write_done id dones) = Unit {0}
IsNotStale (read_ask id turn namespace at half sent) = Unit {0}
IsNotStale (half_ask id turn namespace at half documents) = Unit {0}
IsNotStale (read_rows id turn rows) = Unit {0}
IsNotStale (time_ask id) = Unit {0}
IsNotStale (time_told id) = Unit {0}
