-- What nodes send each other, and what a node takes and returns in one step. Nodes are numbered: the catalogue is 0, shards and then
-- routers follow.
use Rattle.std.specs.Prelude.{ℕ, ℤ, List, [], ◌++◌, Bool, Option, Result}
use Rattle.reply_model.specs.Tree.{Datum, Fields}
use Rattle.pipeline_model.specs.Halves.{Half, Rows}
use Rattle.reply_model.specs.Requests.{Request}
use Rattle.reply_model.specs.History.{StatementNumber, Operation}
use Rattle.reply_model.specs.Tables.{Table}
use Rattle.reply_model.specs.Versions.{Version}
use Rattle.reply_model.specs.Verdicts.{Sent}
use Rattle.base_model.specs.Identities.{RequestId}
use Rattle.reply_model.specs.Outcomes.{Done}
use Rattle.reply_model.specs.Accounts.{Lack}
use Rattle.node_model.specs.Journal.{Kept}

-- for which time a table is requested: for none, or for a read at this one
pub data At : Type 0 where
  no_time : At
  at_time : ℕ → At

-- a statement with its number
pub record Statement : Type 0 where
  pub number : StatementNumber
  pub operation : Operation

-- why a half gives no rows: a sum is outside int64, or they would have so many bytes, which is too much
pub data HalfFault : Type 0 where
  half_overflow : HalfFault
  half_excess : ℕ → HalfFault

-- why a request is refused: it was sent with an older table than the shard's, whose version is this; or a node, this one, was out of memory or at its last step
pub data Cause : Type 0 where
  is_stale : (met : Version) → Cause
  is_lack : (node : ℕ) → Lack → Cause

-- what is refused: of a client's request, what was sent in a turn from a statement on (0 and 0 where it has none); or the request for a table
pub data Refused : Type 0 where
  of_request : RequestId → (turn first : ℕ) → Refused
  of_table : (namespace : List ℕ) → (create : Bool) → At → Refused

-- A turn is one more try of a request, or of a statement of it, that met a later table.
pub data Body : Type 0 where
  -- to the catalogue: the table of a collection, which begins now where `create` is true and there is none
  table_ask : (namespace : List ℕ) → (create : Bool) → At → Body
  -- the answer, with what it answers
  table_told : (namespace : List ℕ) → (create : Bool) → At → Option Table → Body
  -- to the catalogue: a chunk of the collection is split at the key; and the answer: whether there is such a collection
  split_ask : RequestId → (namespace : List ℕ) → (middle : Datum) → Body
  split_done : RequestId → (found : Bool) → Body
  -- to a shard: statements of a request that go there, in order
  write_ask : RequestId → (turn : ℕ) → (ordered : Bool) → (namespace : List ℕ) → List Statement → Sent → Body
  -- the answer: what was done, in order
  write_done : RequestId → List Done → Body
  -- to a shard: what a half shows of its documents at a time
  read_ask : RequestId → (turn : ℕ) → (namespace : List ℕ) → (at : ℕ) → Half → Sent → Body
  -- from a shard to itself: the documents to make it of
  half_ask : RequestId → (turn : ℕ) → (namespace : List ℕ) → (at : ℕ) → Half → List Fields → Body
  -- the answer: the rows, or why there are none
  read_rows : RequestId → (turn : ℕ) → Result Rows HalfFault → Body
  -- the answer to a request that is not served
  refused : Refused → Cause → Body
  -- to a shard, for a read of a time that the router has not reached: its time; and the answer
  time_ask : RequestId → Body
  time_told : RequestId → Body

-- a message, with the time of its sender after the step that sent it
pub record Letter : Type 0 where
  pub sender : ℕ
  pub receiver : ℕ
  pub time : ℕ
  pub body : Body

pub data Input : Type 0 where
  -- a request comes on a link; the number is that of its reply
  client_input : (link : ℕ) → (number : ℤ) → Request → Input
  letter_input : Letter → Input
  -- a moment, in milliseconds since 1970
  moment_input : ℕ → Input
  -- the node was opened
  opened_input : Input

-- a request that a router takes, with what the router knows then
pub record Taken : Type 0 where
  pub id : RequestId
  pub link : ℕ
  pub number : ℤ
  pub time : ℕ
  pub moment : ℕ
  pub request : Request

-- what a request is answered with, at which time of the router
pub record Reply : Type 0 where
  pub id : RequestId
  pub link : ℕ
  pub number : ℤ
  pub request : Request
  pub time : ℕ
  pub document : Fields

-- a reply to a request that a router does not take
pub record Rejection : Type 0 where
  pub link : ℕ
  pub number : ℤ
  pub request : Request
  pub document : Fields

-- What a step results in beside the node: what it wrote in the journal, the messages that it sent, the requests that it took, its replies, and its replies to
-- requests that it did not take.
pub record Effect : Type 0 where
  pub written : List Kept
  pub mail : List Letter
  pub taken : List Taken
  pub replies : List Reply
  pub away : List Rejection

abbrev pub nothing : Effect
nothing = record { written = []; mail = []; taken = []; replies = []; away = [] }

abbrev pub sends : List Letter → Effect
sends mail = record { written = []; mail = mail; taken = []; replies = []; away = [] }

abbrev pub writes : List Kept → List Letter → Effect
writes written mail = record { written = written; mail = mail; taken = []; replies = []; away = [] }

-- one effect after another
abbrev pub both : Effect → Effect → Effect
both f g = record { written = f.written ++ g.written; mail = f.mail ++ g.mail; taken = f.taken ++ g.taken; replies = f.replies ++ g.replies; away = f.away ++ g.away }
