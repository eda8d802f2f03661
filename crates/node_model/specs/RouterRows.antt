-- What a router may do in a step.
use Rattle.std.specs.Prelude.{◌≡◌, ◌≢◌, ◌<◌, ◌≤◌, ◌⊎◌, ℕ, ℤ, pos, ◌+◌, ◌*◌, max, List, [], ◌∷◌, ◌++◌, length, drop, Bool, true, false, codes, Option, Some, None, Result, Ok, Err, nat_lt, if◌then◌else◌}
use Rattle.std.specs.List.{flat_map}
use Rattle.reply_model.specs.Tree.{Datum, Fields}
use Rattle.reply_model.specs.Requests.{Request}
use Rattle.reply_model.specs.Times.{time_of_moment}
use Rattle.reply_model.specs.Refusals.{Refusal, bytes_evidence, cursor_evidence, time_ahead, without_evidence}
use Rattle.reply_model.specs.Writes.{WriteKind}
use Rattle.command_model.specs.Cursors.{Batch}
use Rattle.command_model.specs.GetMore.{GetMore}
use Rattle.command_model.specs.KillCursors.{KillCursors}
use Rattle.reply_model.specs.Errors.{cursor_not_found, namespace_not_sharded, overflow, query_exceeded_memory}
use Rattle.reply_model.specs.Cursors.{Cursor, open_cursor, ShowsNext, Kills}
use Rattle.pipeline_model.specs.Batches.{IsBatch}
use Rattle.pipeline_model.specs.Stages.{Stage}
use Rattle.pipeline_model.specs.Halves.{Rows, MergesInTurn}
use Rattle.pipeline_model.specs.Split.{split}
use Rattle.pipeline_model.specs.Lengths.{excess_of_answer}
use Rattle.pipeline_model.specs.Runs.{Outcome, listed, overflowed, count_documents}
use Rattle.reply_model.specs.Command.{command_of}
use Rattle.reply_model.specs.Answers.{Answer, first_answer, next_answer, count_answer, killed_answer, changed_answer, refusal_answer, answer_document}
use Rattle.reply_model.specs.Tables.{Table}
use Rattle.base_model.specs.Identities.{RequestId, same_request}
use Rattle.reply_model.specs.Accounts.{Lack}
use Rattle.reply_model.specs.Outcomes.{Done, lack_refusal}
use Rattle.reply_model.specs.Right.{unless_silent}
use Rattle.node_model.specs.Journal.{Kept, kept_block, kept_life}
use Rattle.node_model.specs.Letters.{At, Statement, HalfFault, half_overflow, half_excess, Body, table_told, split_done, write_done, read_rows, refused, of_request, of_table, Cause, is_stale, is_lack, time_told, Letter, Input, client_input, letter_input, moment_input, opened_input, Taken, Reply, Effect, nothing, writes}
use Rattle.node_model.specs.States.{Course, Telling, in_batches, as_number, Work, writing, reading, sharding, splitting, for_time, for_catalogue, Open, Router, open_with, without, replaced}
use Rattle.node_model.specs.RouterRequests.{heard, id_of, plan_of, turn_after, shards_of, untold, reached, at_once, needs, needs_batch, needs_end}
use Rattle.node_model.specs.RouterNext.{reply_to, noted, served_in_part, settled, also_told, with_told, is_target, also_part, with_part, awaited, rows_of, Next, stay_in, letters_in, replies_in, after_next, write_on, begins_work, refused_next, table_refused, was_created, next_of, adopted, knows, at_moment}

-- A REQUEST THAT COMES

-- a request before anything was sent for it
abbrev pub opened_request : Router → (link : ℕ) → (number : ℤ) → Request → (namespace : List ℕ) → Work → Open
opened_request r link number request namespace work = record { count = r.count + 1; link = link; number = number; request = request; arrived = r.moment; tries = []; namespace = namespace; wait = for_catalogue; told = []; targets = []; parts = []; work = work }

abbrev pub taken_now : Router → (link : ℕ) → (number : ℤ) → Request → Taken
taken_now r link number request = record { id = id_of r (r.count + 1); link = link; number = number; time = r.time; moment = r.moment; request = request }

-- THE ROWS

-- a message that carries nothing for a router
abbrev pub TellsNothing : Body → Type 0
TellsNothing (table_told namespace create at table) = ⊥
TellsNothing (split_done id found) = ⊥
TellsNothing (write_done id dones) = ⊥
TellsNothing (read_rows id turn rows) = ⊥
TellsNothing (refused what cause) = ⊥
TellsNothing (time_told id) = ⊥
TellsNothing body = Unit {0}

-- the request with this number, where it is open in this life
abbrev pub open_of : Router → RequestId → Option Open
open_of r id = if same_request id (id_of r id.count) then open_with id.count r.requests else None

-- outcomes are new to an open write where they answer more of its statements
abbrev pub AreNoNews : Option Open → List Done → Type 0
AreNoNews None dones = Unit {0}
AreNoNews (Some q) dones = elim q.work [ writing kind ordered statements c ↦ noted ordered c.answers dones ≡ c.answers | reading named at stages telling ↦ Unit {0} | sharding ↦ Unit {0} | splitting middle ↦ Unit {0} ]

-- rows are new to an open read of the turn that it is in, which was sent to the shard that returns them
abbrev pub IsNoRead : Option Open → (sender turn : ℕ) → Type 0
IsNoRead None sender turn = Unit {0}
IsNoRead (Some q) sender turn = elim q.work [ writing kind ordered statements c ↦ Unit {0} | reading named at stages telling ↦ (turn ≢ turn_after q.tries) ⊎ (is_target sender q.targets ≡ false) | sharding ↦ Unit {0} | splitting middle ↦ Unit {0} ]

-- a time is new to a read that waits for it
abbrev pub IsNotAwaited : Option Open → Type 0
IsNotAwaited None = Unit {0}
IsNotAwaited (Some q) = elim q.work [ writing kind ordered statements c ↦ Unit {0} | reading named at stages telling ↦ q.wait ≢ for_time | sharding ↦ Unit {0} | splitting middle ↦ Unit {0} ]

-- a split is new to a request for one
abbrev pub IsNoSplit : Option Open → Type 0
IsNoSplit None = Unit {0}
IsNoSplit (Some q) = elim q.work [ writing kind ordered statements c ↦ Unit {0} | reading named at stages telling ↦ Unit {0} | sharding ↦ Unit {0} | splitting middle ↦ ⊥ ]

-- a refusal is about no open request, or this does not wait for that
abbrev pub IsNoRefusal : Router → ℕ → Option Open → (sender turn first : ℕ) → Cause → Type 0
IsNoRefusal r time None sender turn first cause = Unit {0}
IsNoRefusal r time (Some q) sender turn first cause = refused_next r time q sender turn first cause ≡ None

-- a message is late: what it carries changes nothing
abbrev pub IsLate : Router → (sender : ℕ) → Body → Type 0
IsLate r sender (write_done id dones) = AreNoNews (open_of r id) dones
IsLate r sender (read_rows id turn rows) = IsNoRead (open_of r id) sender turn
IsLate r sender (time_told id) = IsNotAwaited (open_of r id)
IsLate r sender (split_done id found) = IsNoSplit (open_of r id)
IsLate r sender (refused (of_request id turn first) cause) = IsNoRefusal r r.time (open_of r id) sender turn first cause
IsLate r sender (refused (of_table namespace create at) (is_stale met)) = Unit {0}
IsLate r sender body = ⊥

-- the router in its life
abbrev pub begins : Router → Router
begins r = record { me = r.me; shards = r.shards; time = r.time; life = r.life; begun = true; moment = r.moment; count = 0; tables = r.tables; requests = r.requests; cursors = r.cursors; blocks = r.blocks; gave = r.gave }

-- the router after it took one more request
abbrev pub takes : Router → List Open → Router
takes r more = record { me = r.me; shards = r.shards; time = r.time; life = r.life; begun = r.begun; moment = r.moment; count = r.count + 1; tables = r.tables; requests = r.requests ++ more; cursors = r.cursors; blocks = r.blocks; gave = r.gave }

abbrev pub answers_at_once : Router → (link : ℕ) → (number : ℤ) → Request → Answer → Effect
answers_at_once r link number request answer = record {
  written = [];
  mail = [];
  taken = taken_now r link number request ∷ [];
  replies = record { id = id_of r (r.count + 1); link = link; number = number; request = request; time = r.time; document = answer_document answer } ∷ [];
  away = [];
}

abbrev pub with_cursors : List Cursor → Router → Router
with_cursors cursors r = record { me = r.me; shards = r.shards; time = r.time; life = r.life; begun = r.begun; moment = r.moment; count = r.count; tables = r.tables; requests = r.requests; cursors = cursors; blocks = r.blocks; gave = r.gave }

abbrev pub answers_now : Reply → Effect
answers_now reply = record { written = []; mail = []; taken = []; replies = reply ∷ []; away = [] }

-- what becomes of an open request, and of each
abbrev pub goes_on : Next → Effect
goes_on next = record { written = []; mail = letters_in next; taken = []; replies = replies_in next; away = [] }

abbrev pub go_on : (Open → Next) → List Open → Effect
go_on next requests = record {
  written = [];
  mail = flat_map (λ q. letters_in (next q)) requests;
  taken = [];
  replies = flat_map (λ q. replies_in (next q)) requests;
  away = [];
}

abbrev pub too_much : ℕ → Refusal
too_much n = record { error = query_exceeded_memory; evidence = bytes_evidence n }

-- the cursors that a router has, and the block of numbers that it wrote for a new one, if it did
pub record Opened : Type 0 where
  pub written : List Kept
  pub cursors : List Cursor
  pub blocks : ℕ
  pub gave : ℕ

abbrev pub opens : Opened → Router → Router
opens f r = record { me = r.me; shards = r.shards; time = r.time; life = r.life; begun = r.begun; moment = r.moment; count = r.count; tables = r.tables; requests = r.requests; cursors = f.cursors; blocks = f.blocks; gave = f.gave }

abbrev pub as_before : Router → Opened
as_before r = record { written = []; cursors = r.cursors; blocks = r.blocks; gave = r.gave }

-- the numbers of a block
abbrev pub block_size : ℕ
block_size = 64

-- one more number is given: a new block is begun where the blocks that were written have none left
abbrev pub gives_number : Router → List Cursor → Opened
gives_number r cursors =
    if nat_lt r.gave (block_size * r.blocks) then record { written = []; cursors = cursors; blocks = r.blocks; gave = r.gave + 1 }
    else record { written = kept_block r.blocks ∷ []; cursors = cursors; blocks = r.blocks + 1; gave = block_size * r.blocks + 1 }

-- the number that is given next
abbrev pub next_number : Router → ℕ
next_number r = if nat_lt r.gave (block_size * r.blocks) then r.gave + 1 else block_size * r.blocks + 1

abbrev pub new_cursor : Router → Open → (at : ℕ) → List Fields → Cursor
new_cursor r q at rest = record { router = r.me; life = r.life; number = pos (next_number r); namespace = q.namespace; time = at; remaining = rest }

abbrev pub batch_of : Open → (at : ℕ) → (cursor : ℤ) → List Fields → Batch
batch_of q at cursor documents = record { cursor = cursor; namespace = q.namespace; documents = documents; time = at }

-- what an open read returns for an outcome, and which cursors there are then
pub data Tells (r : Router) (q : Open) (at : ℕ) : Telling → Outcome → Answer → Opened → Type 0 where
  tells_overflow : (telling : Telling) → Tells r q at telling overflowed (refusal_answer (without_evidence overflow)) (as_before r)
  tells_excess : (telling : Telling) (documents : List Fields) (n : ℕ) → excess_of_answer documents ≡ Some n
      → Tells r q at telling (listed documents) (refusal_answer (too_much n)) (as_before r)
  tells_number : (n : ℕ) → Tells r q at as_number (listed (count_documents (codes "n") n)) (count_answer n at) (as_before r)
  -- all documents, or as many as are requested
  tells_batch : (size : ℕ) (single : Bool) (documents batch : List Fields) → excess_of_answer documents ≡ None → IsBatch (Some size) documents batch
      → (drop (length batch) documents ≡ []) ⊎ (single ≡ true)
      → Tells r q at (in_batches size single) (listed documents) (first_answer (batch_of q at (pos 0) batch)) (as_before r)
  -- the others by a cursor
  tells_cursor : (size : ℕ) (documents batch : List Fields) → excess_of_answer documents ≡ None → IsBatch (Some size) documents batch
      → drop (length batch) documents ≢ []
      → Tells r q at (in_batches size false) (listed documents) (first_answer (batch_of q at (pos (next_number r)) batch))
      (gives_number r (r.cursors ++ new_cursor r q at (drop (length batch) documents) ∷ []))

pub data RouterRow : Router → Input → Effect → Router → Type 0 where
  -- a life begins
  router_begin : (r : Router) → r.begun ≡ false → RouterRow r opened_input (writes (kept_life r.life ∷ []) []) (begins r)
  router_opened : (r : Router) → r.begun ≡ true → RouterRow r opened_input nothing r
  -- a request that is answered at once
  router_plain : (r : Router) (link : ℕ) (number : ℤ) (request : Request) (answer : Answer) → r.begun ≡ true
      → plan_of r (id_of r (r.count + 1)) request.more (command_of request) ≡ at_once answer
      → RouterRow r (client_input link number request) (answers_at_once r link number request answer) (takes r [])
  -- the next batch of a cursor is requested; a request that gets no reply leaves it as it is
  router_more : (r : Router) (link : ℕ) (number : ℤ) (request : Request) (more : GetMore) (c : Cursor) (batch : Batch) (next : List Cursor) → r.begun ≡ true
      → plan_of r (id_of r (r.count + 1)) request.more (command_of request) ≡ needs_batch more
      → open_cursor (id_of r (r.count + 1)) more.cursor more.namespace r.cursors ≡ Some c → ShowsNext (id_of r (r.count + 1)) more.size r.cursors c batch next
      → RouterRow r (client_input link number request) (answers_at_once r link number request (next_answer batch))
      (with_cursors (unless_silent request r.cursors next) (takes r []))
  router_no_cursor : (r : Router) (link : ℕ) (number : ℤ) (request : Request) (more : GetMore) → r.begun ≡ true
      → plan_of r (id_of r (r.count + 1)) request.more (command_of request) ≡ needs_batch more
      → open_cursor (id_of r (r.count + 1)) more.cursor more.namespace r.cursors ≡ None
      → RouterRow r (client_input link number request) (answers_at_once r link number request (refusal_answer (record { error = cursor_not_found; evidence = cursor_evidence more.cursor }))) (takes r [])
  router_kill : (r : Router) (link : ℕ) (number : ℤ) (request : Request) (kill : KillCursors) (killed missing : List ℤ) (next : List Cursor) → r.begun ≡ true
      → plan_of r (id_of r (r.count + 1)) request.more (command_of request) ≡ needs_end kill
      → Kills (id_of r (r.count + 1)) kill.namespace r.cursors kill.cursors killed missing next
      → RouterRow r (client_input link number request) (answers_at_once r link number request (killed_answer killed missing)) (with_cursors next (takes r []))
  -- a request that has work to do
  router_take : (r : Router) (link : ℕ) (number : ℤ) (request : Request) (namespace : List ℕ) (work : Work) → r.begun ≡ true
      → plan_of r (id_of r (r.count + 1)) request.more (command_of request) ≡ needs namespace work
      → RouterRow r (client_input link number request)
      (record {
        written = [];
        mail = letters_in (begins_work r r.time (opened_request r link number request namespace work) work);
        taken = taken_now r link number request ∷ [];
        replies = replies_in (begins_work r r.time (opened_request r link number request namespace work) work);
        away = [];
      })
      (takes r (stay_in (begins_work r r.time (opened_request r link number request namespace work) work)))
  -- a table arrives: a longer one is stored, and what waits for it proceeds
  router_learn : (r : Router) (m : Letter) (namespace : List ℕ) (create : Bool) (at : At) (table : Option Table) → m.body ≡ table_told namespace create at table
      → RouterRow r (letter_input m)
      (record {
        written = [];
        mail = flat_map (λ q. letters_in (next_of r (heard r m) (adopted table r.tables) namespace (was_created create table) at q)) r.requests;
        taken = [];
        replies = flat_map (λ q. replies_in (next_of r (heard r m) (adopted table r.tables) namespace (was_created create table) at q)) r.requests;
        away = [];
      })
      (knows r (heard r m) (adopted table r.tables) (flat_map (λ q. stay_in (next_of r (heard r m) (adopted table r.tables) namespace (was_created create table) at q)) r.requests))
  -- a chunk was split, or began there before; or there is no such collection
  router_split : (r : Router) (m : Letter) (id : RequestId) (q : Open) (middle : Datum) → m.body ≡ split_done id true → open_of r id ≡ Some q
      → q.work ≡ splitting middle
      → RouterRow r (letter_input m) (answers_now (reply_to r (heard r m) q (changed_answer (heard r m)))) (knows r (heard r m) r.tables (without q.count r.requests))
  router_not_sharded : (r : Router) (m : Letter) (id : RequestId) (q : Open) (middle : Datum) → m.body ≡ split_done id false → open_of r id ≡ Some q
      → q.work ≡ splitting middle
      → RouterRow r (letter_input m) (answers_now (reply_to r (heard r m) q (refusal_answer (without_evidence namespace_not_sharded))))
      (knows r (heard r m) r.tables (without q.count r.requests))
  -- the time that a read waited for is reached, and it proceeds
  router_reach : (r : Router) (m : Letter) (id : RequestId) (q : Open) (named : Bool) (at : ℕ) (stages : List Stage) (telling : Telling) → m.body ≡ time_told id
      → open_of r id ≡ Some q → q.work ≡ reading named at stages telling → q.wait ≡ for_time → at ≤ heard r m
      → RouterRow r (letter_input m) (goes_on (begins_work r (heard r m) q (reached (heard r m) q.work)))
      (knows r (heard r m) r.tables (after_next q (begins_work r (heard r m) q (reached (heard r m) q.work)) r.requests))
  -- a shard returned its time, the time of the read is ahead, and other shards have not returned theirs
  router_hear : (r : Router) (m : Letter) (id : RequestId) (q : Open) (named : Bool) (at : ℕ) (stages : List Stage) (telling : Telling) → m.body ≡ time_told id
      → open_of r id ≡ Some q → q.work ≡ reading named at stages telling → q.wait ≡ for_time → heard r m < at
      → untold (also_told q.told m.sender) (shards_of r) ≢ []
      → RouterRow r (letter_input m) nothing (knows r (heard r m) r.tables (replaced (with_told q m.sender) r.requests))
  -- every shard returned its time, and the time of the read is ahead
  router_ahead : (r : Router) (m : Letter) (id : RequestId) (q : Open) (named : Bool) (at : ℕ) (stages : List Stage) (telling : Telling) → m.body ≡ time_told id
      → open_of r id ≡ Some q → q.work ≡ reading named at stages telling → q.wait ≡ for_time → heard r m < at
      → untold (also_told q.told m.sender) (shards_of r) ≡ []
      → RouterRow r (letter_input m) (answers_now (reply_to r (heard r m) q (refusal_answer (time_ahead (heard r m)))))
      (knows r (heard r m) r.tables (without q.count r.requests))
  -- statements are answered: the rest is sent again, or the next are sent, or the write is answered
  router_note : (r : Router) (m : Letter) (id : RequestId) (dones : List Done) (q : Open) (kind : WriteKind) (ordered : Bool) (statements : List Statement) (c : Course) (next : Next) → m.body ≡ write_done id dones
      → open_of r id ≡ Some q → q.work ≡ writing kind ordered statements c → noted ordered c.answers dones ≢ c.answers
      → next ≡ write_on r (heard r m) r.tables ordered (served_in_part (noted ordered c.answers dones) c.runs) q kind ordered statements (settled c (noted ordered c.answers dones))
      → RouterRow r (letter_input m) (goes_on next) (knows r (heard r m) r.tables (after_next q next r.requests))
  -- what was sent for a request is refused: it is tried again, or given up
  router_refused : (r : Router) (m : Letter) (id : RequestId) (turn first : ℕ) (cause : Cause) (q : Open) (next : Next) → m.body ≡ refused (of_request id turn first) cause
      → open_of r id ≡ Some q → refused_next r (heard r m) q m.sender turn first cause ≡ Some next
      → RouterRow r (letter_input m) (goes_on next) (knows r (heard r m) r.tables (after_next q next r.requests))
  -- a request for a table is refused: what waits for just that is given up
  router_no_table : (r : Router) (m : Letter) (namespace : List ℕ) (create : Bool) (at : At) (node : ℕ) (lack : Lack) → m.body ≡ refused (of_table namespace create at) (is_lack node lack)
      → RouterRow r (letter_input m) (go_on (table_refused r (heard r m) namespace create at (lack_refusal node lack)) r.requests)
      (knows r (heard r m) r.tables (flat_map (λ q. stay_in (table_refused r (heard r m) namespace create at (lack_refusal node lack) q)) r.requests))
  -- a shard returned its part of a read, and others have not
  router_part : (r : Router) (m : Letter) (id : RequestId) (rows : Result Rows HalfFault) (q : Open) (named : Bool) (at : ℕ) (stages : List Stage) (telling : Telling) → m.body ≡ read_rows id (turn_after q.tries) rows
      → open_of r id ≡ Some q → q.work ≡ reading named at stages telling → is_target m.sender q.targets ≡ true
      → awaited q.targets (also_part q.parts m.sender rows) ≢ []
      → RouterRow r (letter_input m) nothing (knows r (heard r m) r.tables (replaced (with_part q m.sender rows) r.requests))
  -- a read has all its rows
  router_read : (r : Router) (m : Letter) (id : RequestId) (rows : Result Rows HalfFault) (q : Open) (named : Bool) (at : ℕ) (stages : List Stage) (telling : Telling) (all : List Rows) (out : Outcome) (answer : Answer) (f : Opened)
      → m.body ≡ read_rows id (turn_after q.tries) rows → open_of r id ≡ Some q → q.work ≡ reading named at stages telling → is_target m.sender q.targets ≡ true
      → awaited q.targets (also_part q.parts m.sender rows) ≡ [] → rows_of q.targets (also_part q.parts m.sender rows) ≡ Ok all
      → MergesInTurn (split stages).1 all out → Tells r q at telling out answer f
      → RouterRow r (letter_input m) (record { written = f.written; mail = []; taken = []; replies = reply_to r (heard r m) q answer ∷ []; away = [] })
      (opens f (knows r (heard r m) r.tables (without q.count r.requests)))
  -- all returned their parts, and the first that has no rows has too many
  router_excess : (r : Router) (m : Letter) (id : RequestId) (rows : Result Rows HalfFault) (n : ℕ) (q : Open) (named : Bool) (at : ℕ) (stages : List Stage) (telling : Telling) → m.body ≡ read_rows id (turn_after q.tries) rows
      → open_of r id ≡ Some q → q.work ≡ reading named at stages telling → is_target m.sender q.targets ≡ true
      → awaited q.targets (also_part q.parts m.sender rows) ≡ [] → rows_of q.targets (also_part q.parts m.sender rows) ≡ Err (half_excess n)
      → RouterRow r (letter_input m) (answers_now (reply_to r (heard r m) q (refusal_answer (too_much n)))) (knows r (heard r m) r.tables (without q.count r.requests))
  -- the same of one whose sum is outside int64
  router_overflow : (r : Router) (m : Letter) (id : RequestId) (rows : Result Rows HalfFault) (q : Open) (named : Bool) (at : ℕ) (stages : List Stage) (telling : Telling) → m.body ≡ read_rows id (turn_after q.tries) rows
      → open_of r id ≡ Some q → q.work ≡ reading named at stages telling → is_target m.sender q.targets ≡ true
      → awaited q.targets (also_part q.parts m.sender rows) ≡ [] → rows_of q.targets (also_part q.parts m.sender rows) ≡ Err half_overflow
      → RouterRow r (letter_input m) (answers_now (reply_to r (heard r m) q (refusal_answer (without_evidence overflow)))) (knows r (heard r m) r.tables (without q.count r.requests))
  router_late : (r : Router) (m : Letter) → IsLate r m.sender m.body → RouterRow r (letter_input m) nothing (knows r (heard r m) r.tables r.requests)
  -- a message of another kind has no effect
  router_skip : (r : Router) (m : Letter) → TellsNothing m.body → RouterRow r (letter_input m) nothing r
  router_moment : (r : Router) (moment : ℕ) → r.begun ≡ true
      → RouterRow r (moment_input moment) (go_on (at_moment r (max r.time (time_of_moment moment)) moment) r.requests)
      (record { me = r.me; shards = r.shards; time = max r.time (time_of_moment moment); life = r.life; begun = r.begun; moment = moment; count = r.count; tables = r.tables; requests = flat_map (λ q. stay_in (at_moment r (max r.time (time_of_moment moment)) moment q)) r.requests; cursors = r.cursors; blocks = r.blocks; gave = r.gave })
