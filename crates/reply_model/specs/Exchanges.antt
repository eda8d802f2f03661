-- The requests that routers took, and the reply to each.
use Rattle.std.specs.Prelude.{ℕ, ℤ, List, [], ◌∷◌, Bool, false, Option, Some, None, pos, if◌then◌else◌}
use Rattle.bson_model.specs.Tree.{Fields}
use Rattle.base_model.specs.Identities.{RequestId, same_request}
use Rattle.opmsg_model.specs.Requests.{Request}
use Rattle.opmsg_model.specs.Replies.{reply_bytes}
use Rattle.command_model.specs.Writes.{ClientNumber}
use Rattle.history_model.specs.History.{Session, client_session, router_session, StatementNumber, Entry}

-- A request that a router took: on which link, with which number for its reply, in which step; and what the router knew then: its cluster time, and its last
-- moment (0 if it had none).
pub record Asked : Type 0 where
  pub id : RequestId
  pub link : ℕ
  pub number : ℤ
  pub came : ℕ
  pub time : ℕ
  pub moment : ℕ
  pub request : Request

-- The reply to a request: on which link, with which number, in which step and at which time of its router.
pub record Answered : Type 0 where
  pub id : RequestId
  pub link : ℕ
  pub number : ℤ
  pub request : Request
  pub step : ℕ
  pub time : ℕ
  pub document : Fields

-- The bytes that are written. A request with moreToCome is answered too, but its reply is not written.
abbrev pub reply_put : ℤ → Request → Fields → List ℕ
reply_put number request document = if request.more then [] else reply_bytes request.form request.id number document

-- the number of the statement with this index, from 0: the client's, or the router's own for the request
abbrev pub number_for : Option ClientNumber → RequestId → ℕ → StatementNumber
number_for None id index = record { session = router_session id.router id.life id.count; transaction = pos 0; index = index }
number_for (Some given) id index = record { session = client_session given.session; transaction = given.transaction; index = index }

abbrev pub is_session_of : RequestId → Session → Bool
is_session_of id (client_session name) = false
is_session_of id (router_session node life request) = same_request (record { router = node; life = life; count = request }) id

-- the entries under the router's own numbers for a request, in the order of the history
abbrev pub entries_by : RequestId → List Entry → List Entry
entries_by id [] = []
entries_by id (e ∷ history) = if is_session_of id e.number.session then e ∷ entries_by id history else entries_by id history
