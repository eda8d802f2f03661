-- What is true at every moment of a run: of each node, of each message that was ever sent, of each request and of each answer.
use Rattle.std.proofs.Common.{◌≡◌, ◌≢◌, ◌⊎◌, ℕ, ◌+◌, ◌<◌, ◌≤◌, List, [], ◌∷◌, ◌++◌, Bool, false}
use Rattle.std.specs.Prelude.{pos, Option, Some, None, Ok, true, map, filter, length, drop, ◌*◌, ◌-◌, ◌==◌, ◌&&◌, if◌then◌else◌}
use Rattle.std.specs.List.{AllByRecursion}
use Rattle.base_model.specs.Refusals.{Refusal}
use Rattle.base_model.specs.ReplyParts.{operation_time}
use Rattle.command_model.specs.Answers.{refusal_answer, answer_document}
use Rattle.command_model.specs.Writes.{WriteCommand}
use Rattle.command_model.specs.Command.{write_command, shard_collection_command, split_command, command_of}
use Rattle.command_model.specs.Reading.{Reading}
use Rattle.reply_model.specs.Cursors.{Cursor}
use Rattle.chunk_model.specs.Changes.{Change, time_of}
use Rattle.chunk_model.specs.Placement.{AreFitting}
use Rattle.chunk_model.specs.Tables.{Table, first_shard}
use Rattle.history_model.specs.History.{Operation, Entry, Legal, IsIn}
use Rattle.base_model.specs.Identities.{RequestId}
use Rattle.reply_model.specs.Exchanges.{Asked, Answered, number_for}
use Rattle.reply_model.specs.Accounts.{Given, Lack, Missed, TurnedAway, Dated, Account, changes_in as changes_of}
use Rattle.reply_model.specs.Outcomes.{lack_refusal, StatementOutcome, WasRefused, Done, AnyDone, dones_from, is_too_old}
use Rattle.reply_model.specs.Right.{ends, IsReadRefused, refused_overflow, refused_excess, refused_ahead, WasCreated, IsRight, right_write, right_find, right_count, right_refused_read, right_stale, right_given_up, right_more, right_no_cursor, right_kill, right_shard, right_split, right_not_sharded, right_hello, right_legacy, right_ping, right_end_sessions, right_refusal}
use Rattle.reply_model.specs.OneHistory.{IsWriteIn, WasWanted, StandsInPart, IsPlaced, AreNumbered, IsFresh, IsInOrder, WasMet, ids_asked, ids_told, AreDifferent}
use Rattle.node_model.specs.Journal.{Kept, entries_kept, changes_kept, greatest_kept}
use Rattle.node_model.specs.ShardRows.{top}
use Rattle.node_model.specs.Letters.{At, no_time, at_time, Statement, Body, table_ask, table_told, split_ask, split_done, write_ask, write_done, read_ask, half_ask, read_rows, refused, time_ask, time_told, Cause, is_stale, is_lack, Refused, of_request, of_table, Letter}
use Rattle.node_model.specs.States.{Catalogue, Shard, Router, Run, Course, Work, writing, reading, sharding, splitting, Wait, for_time, Open, NodeState, catalogue_state, shard_state, router_state, time_of_node}
use Rattle.node_model.specs.RouterRequests.{id_of, statements_from, owner_of_statement, unsent}
use Rattle.node_model.specs.RouterNext.{is_answered}
use Rattle.node_model.specs.RouterRows.{block_size}
use Rattle.node_model.specs.World.{Held, World, journal_at, entries_at}
use Rattle.node_laws.proofs.Views.{Choice, Reach, reach_of, Book, View, view_of, More, entries_in, changes_in, IsShardAt, history_in, HavePassed, IsWithin, MovesNothing, account_in}
use Rattle.node_laws.proofs.Places.{EachAt}
use Rattle.node_laws.proofs.SplitFacts.{IsSplitOf, IsSplitDone, WasMissing, IsMissing}
use Rattle.node_laws.proofs.WriteFacts.{IsDoneAt, AreAnswers, OnlyLast, WasMade}
use Rattle.node_laws.proofs.TimeFacts.{IsPast, HeardFits}
pub use Rattle.node_laws.proofs.TableFacts.{IsKnownTable}
use Rattle.node_laws.proofs.TableFacts.{IsVersionOf, IsSentTo}
use Rattle.node_laws.proofs.Outcomes.{AreOutcomes, IsFront}
use Rattle.node_laws.proofs.SentRuns.{InRun, IsNextRun}
use Rattle.node_laws.proofs.ReadFacts.{is_ahead, NoneBegan, WaitsFor, IsDecided, IsReading, IsReadOf, IsShown, RowsFit}

-- a statement goes to this shard: it owns the key, by a table of the collection that the catalogue had by a time
pub record IsOwned (v : View) (time : ℕ) (namespace : List ℕ) (shard : ℕ) (s : Statement) : Type 0 where
  pub table : Table
  pub known : IsKnownTable v time table
  pub name : table.namespace ≡ namespace
  pub owner : owner_of_statement table s ≡ Some shard

-- WRITES

-- a statement of a write
pub record IsStatementOf (write : WriteCommand) (id : RequestId) (s : Statement) : Type 0 where
  pub before : List Operation
  pub operation : Operation
  pub back : List Operation
  pub all : write.operations ≡ before ++ operation ∷ back
  pub numbered : s.number ≡ number_for write.number id (length before)
  pub does : s.operation ≡ operation

-- statements are the next ones of an ordered write, after those that are answered and did not end it
pub record AreNext (v : View) (time : ℕ) (write : WriteCommand) (id : RequestId) (statements : List Statement) : Type 0 where
  pub front : List Done
  pub back : List Statement
  pub answered : AreAnswers (history_in v) time write id 0 front
  pub goes_on : AllByRecursion (λ d. ends true d ≡ false) front
  pub next : drop (length front) (statements_from write.number id 0 write.operations) ≡ statements ++ back

-- The statements of a message are some of a request, if it is ordered the next ones; the shard that receives it owns their keys, and the message is not older
-- than what the router knew; and it is noted that statements of an ordered one were sent up to them.
pub record IsWriteOf (v : View) (asked : List Asked) (receiver time : ℕ) (id : RequestId) (ordered : Bool) (namespace : List ℕ)
    (statements : List Statement) : Type 0 where
  pub request : Asked
  pub write : WriteCommand
  pub taken : IsIn request asked
  pub own : request.id ≡ id
  pub asks : command_of request.request ≡ Ok (write_command write)
  pub order : ordered ≡ write.ordered
  pub name : namespace ≡ write.namespace
  pub each : AllByRecursion (IsStatementOf write id) statements
  pub next : ordered ≡ true → AreNext v time write id statements
  pub owned : AllByRecursion (IsOwned v time namespace receiver) statements
  pub fresh : request.time ≤ time
  pub below : ordered ≡ true → AllByRecursion (λ (s : Statement). s.number.index < reach_of id v.reached) statements

-- what was sent of an open write: the shard owns the keys of the run's statements, those of an ordered one are the next ones, and the versions are of a table that
-- the catalogue had
pub record RunFits (v : View) (time : ℕ) (namespace : List ℕ) (ordered : Bool) (statements : List Statement) (answers : List (Option StatementOutcome))
    (run : Run) : Type 0 where
  pub owned : InRun run (IsOwned v time namespace run.shard) statements
  pub next : ordered ≡ true → IsNextRun statements answers run
  pub version : IsVersionOf v time namespace run.shard run.sent
  pub within : AllByRecursion (λ i. i < length statements) run.indices

-- The outcomes of an open write belong to its statements, by index; of an ordered one the first have theirs; and it is not answered.
pub record CourseFits (ordered : Bool) (statements : List Statement) (c : Course) : Type 0 where
  pub long : length c.answers ≡ length statements
  pub front : ordered ≡ true → IsFront c.answers
  pub open_yet : is_answered ordered c.answers ≡ false
  pub one : ordered ≡ true → length c.runs ≤ 1

-- so many statements of a write were sent, if it is ordered: all but those that are neither answered nor in a run
abbrev pub reach_in : Work → ℕ
reach_in (writing kind ordered statements c) = if ordered then length statements - length (unsent false statements c) else 0
reach_in (reading named at stages telling) = 0
reach_in sharding = 0
reach_in (splitting middle) = 0

-- LACKS

-- a node could not take a step, for this lack
pub record HasLack (v : View) (node : ℕ) (lack : Lack) : Type 0 where
  pub missed : Missed
  pub had : IsIn missed v.missed
  pub own : missed.node ≡ node
  pub same : missed.lack ≡ lack

-- so a statement is given up
pub record WasLacking (v : View) (refusal : Refusal) : Type 0 where
  pub node : ℕ
  pub lack : Lack
  pub had : HasLack v node lack
  pub is : refusal ≡ lack_refusal node lack

-- a collection of this name was created by a time
abbrev pub HasBegun : View → (time : ℕ) → (namespace : List ℕ) → Type 0
HasBegun v time namespace = WasCreated (changes_in v) namespace time

-- the outcomes of statements of a request, of the shard that owns their keys
pub record IsDoneOf (v : View) (asked : List Asked) (sender time : ℕ) (id : RequestId) (dones : List Done) : Type 0 where
  pub request : Asked
  pub write : WriteCommand
  pub taken : IsIn request asked
  pub own : request.id ≡ id
  pub asks : command_of request.request ≡ Ok (write_command write)
  pub each : AllByRecursion (IsDoneAt (entries_in v sender) time write id) dones
  pub last : OnlyLast write.ordered dones
  pub begun : HasBegun v time write.namespace

-- MESSAGES

-- a table that is to be begun is wanted by a write, or by a request to create it
pub record IsWanted (asked : List Asked) (namespace : List ℕ) (time : ℕ) : Type 0 where
  pub request : Asked
  pub taken : IsIn request asked
  pub asks : IsWriteIn namespace request ⊎ (command_of request.request ≡ Ok (shard_collection_command namespace))
  pub past : request.time ≤ time

-- a message about a request that was taken
pub record IsOfRequest (asked : List Asked) (id : RequestId) : Type 0 where
  pub request : Asked
  pub taken : IsIn request asked
  pub own : request.id ≡ id

abbrev pub AtFits : At → ℕ → Type 0
AtFits no_time time = Unit {0}
AtFits (at_time at) time = at ≤ time

-- what a table that is sent says of its collection
abbrev pub TableFits : View → ℕ → (namespace : List ℕ) → At → Option Table → Type 0
TableFits v time namespace at (Some t) = IsKnownTable v time t × (t.namespace ≡ namespace)
TableFits v time namespace no_time None = Unit {0}
TableFits v time namespace (at_time at) None = NoneBegan v namespace at

-- nothing that was sent for a request met a later table, since nothing moves
abbrev pub CauseFits : View → Refused → Cause → Type 0
CauseFits v (of_request id turn first) (is_stale met) = ⊥
CauseFits v (of_table namespace create at) (is_stale met) = Unit {0}
CauseFits v what (is_lack node lack) = HasLack v node lack

abbrev pub BodyFits : View → List Asked → (sender receiver time : ℕ) → Body → Type 0
BodyFits v asked sender receiver time (table_ask namespace true at) = AtFits at time × IsWanted asked namespace time
BodyFits v asked sender receiver time (table_ask namespace false at) = AtFits at time
BodyFits v asked sender receiver time (table_told namespace create at table) = TableFits v time namespace at table
BodyFits v asked sender receiver time (split_ask id namespace middle) = IsSplitOf asked id namespace middle time
BodyFits v asked sender receiver time (split_done id true) = IsSplitDone v asked id time
BodyFits v asked sender receiver time (split_done id false) = Unit {0}
BodyFits v asked sender receiver time (write_ask id turn ordered namespace statements sent) =
    IsWriteOf v asked receiver time id ordered namespace statements × IsVersionOf v time namespace receiver sent
BodyFits v asked sender receiver time (write_done id dones) = IsShardAt sender × IsDoneOf v asked sender time id dones
BodyFits v asked sender receiver time (read_ask id turn namespace at half sent) =
    IsReadOf v asked id namespace at half × (at ≤ time) × IsShardAt receiver × IsVersionOf v time namespace receiver sent
BodyFits v asked sender receiver time (half_ask id turn namespace at half documents) =
    IsShown v asked sender time id namespace at half documents × IsShardAt receiver
BodyFits v asked sender receiver time (read_rows id turn rows) = RowsFit v asked sender time id rows
BodyFits v asked sender receiver time (refused what cause) = CauseFits v what cause
BodyFits v asked sender receiver time (time_ask id) = IsOfRequest asked id
BodyFits v asked sender receiver time (time_told id) = IsOfRequest asked id

abbrev pub LetterFits : View → List Asked → Letter → Type 0
LetterFits v asked m = BodyFits v asked m.sender m.receiver m.time m.body

-- NODES

pub record CatalogueFits (asked : List Asked) (at : ℕ) (kept : List Kept) (c : Catalogue) : Type 0 where
  pub own : c.me ≡ at
  pub place : at ≡ 0
  pub changes : c.changes ≡ changes_kept kept
  pub past : AllByRecursion (λ x. time_of x ≤ c.time) (changes_kept kept)
  pub fitting : AreFitting (changes_kept kept)
  pub wanted : AllByRecursion (WasWanted asked) (changes_kept kept)

-- a request that waits for a table: it fits as the message that it came in, which is not of a later time than the shard's
abbrev pub ParkedFits : View → List Asked → ℕ → Letter → Type 0
ParkedFits v asked time m = LetterFits v asked m × (m.time ≤ time) × IsShardAt m.receiver

pub record ShardFits (v : View) (asked : List Asked) (at : ℕ) (kept : List Kept) (s : Shard) : Type 0 where
  pub own : s.me ≡ at
  pub came : AllByRecursion (λ (m : Letter). m.receiver ≡ at) s.parked
  pub entries : s.entries ≡ entries_kept kept
  pub tops : top s ≡ greatest_kept kept
  pub past : AllByRecursion (λ (e : Entry). e.time ≤ s.time) s.entries
  pub legal : Legal s.entries
  pub sent : AllByRecursion (WasMade (history_in v) asked v.reached) s.entries
  pub numbers : AreNumbered s.entries
  pub placed : AllByRecursion (IsPlaced (changes_in v)) s.entries
  pub parts : AllByRecursion (StandsInPart s.entries) asked
  pub still : AllByRecursion MovesNothing (changes_in v)
  pub tables : AllByRecursion (IsKnownTable v s.time) s.tables
  pub parked : AllByRecursion (ParkedFits v asked s.time) s.parked

-- what a request still has to do
abbrev pub WorkFits : Asked → (namespace : List ℕ) → Work → Type 0
WorkFits a namespace (writing kind ordered statements c) =
    (write : WriteCommand) × (command_of a.request ≡ Ok (write_command write)) × (kind ≡ write.kind) × (namespace ≡ write.namespace) × (ordered ≡ write.ordered)
    × (statements ≡ statements_from write.number a.id 0 write.operations) × CourseFits ordered statements c
WorkFits a namespace (reading named at stages telling) = IsReading a namespace named at stages telling
WorkFits a namespace sharding = command_of a.request ≡ Ok (shard_collection_command namespace)
WorkFits a namespace (splitting middle) = command_of a.request ≡ Ok (split_command (record { namespace = namespace; middle = middle }))

-- the outcomes of a write that arrived, of entries that are not above a time, and what was sent for it, by tables that the catalogue had by then
abbrev pub AreSeen : View → ℕ → Asked → Work → Type 0
AreSeen v time a (writing kind ordered statements c) =
    (write : WriteCommand) → command_of a.request ≡ Ok (write_command write) → AreOutcomes (WasLacking v) (history_in v) time write a.id 0 c.answers
    × AllByRecursion (RunFits v time write.namespace ordered statements c.answers) c.runs
    × (AnyDone (dones_from 0 c.answers) → HasBegun v time write.namespace)
AreSeen v time a (reading named at stages telling) = Unit {0}
AreSeen v time a sharding = Unit {0}
AreSeen v time a (splitting middle) = Unit {0}

-- it waits for the time that it wants, or has reached one, which is decided for it
abbrev pub HasTime : View → Asked → RequestId → (time : ℕ) → Wait → Work → Type 0
HasTime v a id time wait work = ((wait ≡ for_time) × WaitsFor v a id work) ⊎ ((wait ≢ for_time) × (is_ahead time work ≡ false) × IsDecided v id work)

-- an open request was taken by this router in this life, and is not answered
pub record IsOpenOf (v : View) (asked : List Asked) (answered : List Answered) (r : Router) (q : Open) : Type 0 where
  pub request : Asked
  pub taken : IsIn request asked
  pub own : request.id ≡ id_of r q.count
  pub link : request.link ≡ q.link
  pub number : request.number ≡ q.number
  pub asks : request.request ≡ q.request
  pub arrived : request.moment ≡ q.arrived
  pub past : request.time ≤ r.time
  pub reached : HasTime v request (id_of r q.count) r.time q.wait q.work
  pub silent : AllByRecursion (λ (t : Answered). t.id ≢ id_of r q.count) answered
  pub work : WorkFits request q.namespace q.work
  pub seen : AreSeen v r.time request q.work
  -- and no shard has returned a part of a read, since the only one that it was sent to ends it
  pub sent : IsSentTo v r.time q.namespace q.wait q.work q.targets
  pub parts : q.parts ≡ []

-- what is in a life before this one, or in this one
abbrev pub IsBy : (life now : ℕ) (begun : Bool) → Type 0 → Type 0
IsBy life now begun P = (life < now) ⊎ ((life ≡ now) × (begun ≡ true) × P)

-- a time that was returned is not above this one
abbrev pub ToldBelow : ℕ → Answered → Type 0
ToldBelow bound t = (time : ℕ) → operation_time (Some t.document) ≡ Some time → time ≤ bound

abbrev pub counts_of : List Open → List ℕ
counts_of requests = map (λ (q : Open). q.count) requests

abbrev pub AreDifferentCounts : List ℕ → Type 0
AreDifferentCounts [] = Unit {0}
AreDifferentCounts (n ∷ counts) = AllByRecursion (λ m. m ≢ n) counts × AreDifferentCounts counts

-- the request is open, or it was answered
abbrev pub IsClosedOrOpen : List Open → List Answered → Asked → Type 0
IsClosedOrOpen requests answered a = IsIn a.id.count (counts_of requests) ⊎ IsIn a.id (ids_told answered)

pub record RouterFits (v : View) (asked : List Asked) (answered : List Answered) (at : ℕ) (r : Router) : Type 0 where
  pub own : r.me ≡ at
  pub place : first_shard < at
  pub requests : AllByRecursion (IsOpenOf v asked answered r) r.requests
  pub different : AreDifferentCounts (counts_of r.requests)
  pub counted : AllByRecursion (λ (a : Asked). a.id.router ≡ at → IsBy a.id.life r.life r.begun (a.id.count ≤ r.count)) asked
  pub told : AllByRecursion (λ (t : Answered). t.id.router ≡ at → IsBy t.id.life r.life r.begun (ToldBelow r.time t)) answered
  pub tables : AllByRecursion (IsKnownTable v r.time) r.tables
  pub closed : AllByRecursion (λ (a : Asked). a.id.router ≡ at → a.id.life ≡ r.life → IsClosedOrOpen r.requests answered a) asked
  pub risen : AllByRecursion (λ (a : Asked). a.id.router ≡ at → IsBy a.id.life r.life r.begun (a.time ≤ r.time)) asked

abbrev pub StateFits : View → List Asked → List Answered → ℕ → List Kept → NodeState → Type 0
StateFits v asked answered at kept (catalogue_state c) = CatalogueFits asked at kept c
StateFits v asked answered at kept (shard_state s) = ShardFits v asked at kept s
StateFits v asked answered at kept (router_state r) = RouterFits v asked answered at r

-- a time that was met
abbrev pub IsMet : View → List Given → ℕ → Type 0
IsMet v given time = WasMet (record (account_in v [] []) { given = given }) time

-- CURSORS

-- the number is one of those that were given, in this life or before it; and what a cursor of this life shows is of a time that is past
pub record IsGiven (life : ℕ) (begun : Bool) (gave time : ℕ) (c : Cursor) : Type 0 where
  pub n : ℕ
  pub number : c.number ≡ pos n
  pub given : n ≤ gave
  pub past : IsBy c.life life begun (c.time ≤ time)

-- the cursors of a router, and those of one of its lives
abbrev pub is_of : (router : ℕ) → Cursor → Bool
is_of router c = c.router == router

abbrev pub is_of_life : (router life : ℕ) → Cursor → Bool
is_of_life router life c = (c.router == router) && (c.life == life)

pub record CursorsFit (cursors : List Cursor) (at : ℕ) (r : Router) : Type 0 where
  pub own : filter (is_of_life at r.life) cursors ≡ r.cursors
  pub given : AllByRecursion (IsGiven r.life r.begun r.gave r.time) (filter (is_of at) cursors)
  pub most : r.gave ≤ block_size * r.blocks

abbrev pub OwnCursors : List Cursor → ℕ → NodeState → Type 0
OwnCursors cursors at (catalogue_state c) = Unit {0}
OwnCursors cursors at (shard_state s) = Unit {0}
OwnCursors cursors at (router_state r) = CursorsFit cursors at r

-- a node with what its journal stores
pub record Node : Type 0 where
  pub state : NodeState
  pub kept : List Kept

abbrev pub node_of : Held → Node
node_of h = record { state = h.state; kept = h.kept }

pub record NodeFits (v : View) (asked : List Asked) (answered : List Answered) (given : List Given) (at : ℕ) (h : Node) : Type 0 where
  pub state : StateFits v asked answered at h.kept h.state
  pub met : IsMet v given (time_of_node h.state)
  pub cursors : OwnCursors v.cursors at h.state
  -- nothing that is stored is later than the node
  pub within : greatest_kept h.kept ≤ time_of_node h.state

abbrev pub HeldFits : View → List Asked → List Answered → List Given → (at : ℕ) → Held → Type 0
HeldFits v asked answered given at h = NodeFits v asked answered given at (node_of h)

-- ANSWERS

-- the reply to a read stays right: its time is one that the shards have passed, or the collection is created after it
abbrev pub IsFixed : View → Reading → ℕ → Type 0
IsFixed v read time = HavePassed v time ⊎ NoneBegan v read.namespace time

abbrev pub IsRefusalFixed : View → (account : Account) (a : Asked) (t : Answered) (read : Reading) → IsReadRefused account a t read → Type 0
IsRefusalFixed v account a t read (refused_overflow time of may told) = IsFixed v read time
IsRefusalFixed v account a t read (refused_excess time n of excess told) = IsFixed v read time
IsRefusalFixed v account a t read (refused_ahead ahead told) = Unit {0}

-- no statement after one that was given up was sent
abbrev pub AreCut : List Reach → RequestId → List Done → Type 0
AreCut notes id dones = AllByRecursion (λ (d : Done). WasRefused d.answer → is_too_old d.answer ≡ false → reach_of id notes ≤ d.index + 1) dones

abbrev pub IsSettled : View → (account : Account) (cursors : List Cursor) (a : Asked) (t : Answered) (next : List Cursor)
    → IsRight account cursors a t next → Type 0
IsSettled v account cursors a t _ (right_write write dones asks may whole created told) = (dones ≢ []) × (write.ordered ≡ true → AreCut v.reached a.id dones)
IsSettled v account cursors a t _ (right_find find time documents batch next asks of may small name when shows told) = IsFixed v
    find.reading time
IsSettled v account cursors a t _ (right_count read time n asks of may told) = IsFixed v read time
IsSettled v account cursors a t _ (right_refused_read read reads unread) = IsRefusalFixed v account a t read
    unread
IsSettled v account cursors a t _ (right_stale read tries reads were told) = Unit {0}
IsSettled v account cursors a t _ (right_given_up refusal task why told) = Unit {0}
IsSettled v account cursors a t _ (right_more more c batch next asks found shows told) = Unit {0}
IsSettled v account cursors a t _ (right_no_cursor more asks none told) = Unit {0}
IsSettled v account cursors a t _ (right_kill kill killed missing next asks closed told) = Unit {0}
IsSettled v account cursors a t _ (right_shard namespace asks created told) = Unit {0}
IsSettled v account cursors a t _ (right_split split asks begins told) = Unit {0}
IsSettled v account cursors a t _ (right_not_sharded split asks told) = Unit {0}
IsSettled v account cursors a t _ (right_hello asks told) = Unit {0}
IsSettled v account cursors a t _ (right_legacy legacy asks told) = Unit {0}
IsSettled v account cursors a t _ (right_ping asks told) = Unit {0}
IsSettled v account cursors a t _ (right_end_sessions asks told) = Unit {0}
IsSettled v account cursors a t _ (right_refusal refusal asks told) = Unit {0}

-- an answer to a request that was taken, where it is right
pub record AnswerFits (v : View) (asked : List Asked) (answered : List Answered) (cursors : List Cursor) (t : Answered) (next : List Cursor) : Type 0 where
  pub request : Asked
  pub taken : IsIn request asked
  pub own : request.id ≡ t.id
  pub link : request.link ≡ t.link
  pub number : request.number ≡ t.number
  pub same : request.request ≡ t.request
  pub came : request.came ≤ t.step
  pub risen : request.time ≤ t.time
  pub right : IsRight (account_in v asked answered) cursors request t next
  pub settled : IsSettled v (account_in v asked answered) cursors request t next right

-- all replies, in order, from these cursors to those
pub data AnswersFit (v : View) (asked : List Asked) (answered : List Answered) : List Cursor → List Answered → List Cursor → Type 0 where
  no_answer : (cursors : List Cursor) → AnswersFit v asked answered cursors [] cursors
  one_answer : (cursors next last : List Cursor) (t : Answered) (later : List Answered) → AnswerFits v asked answered cursors t next
      → AnswersFit v asked answered next later last → AnswersFit v asked answered cursors (t ∷ later) last

-- TIMES THAT SHARDS SEND

abbrev pub TimeFits : View → List Dated → List Asked → List Answered → (sender time : ℕ) → Body → Type 0
TimeFits v dated asked answered sender time (time_told id) = (a : Asked) × IsIn a asked × (a.id ≡ id) × IsPast v sender answered a time
TimeFits v dated asked answered sender time (split_done id false) = WasMissing dated asked id
TimeFits v dated asked answered sender time body = Unit {0}

-- no entry of the sender is above the time that it sends; and a collection that is not found was not created
abbrev pub TellsAll : View → List Asked → (sender time : ℕ) → Body → Type 0
TellsAll v asked sender time (time_told id) = AllByRecursion (λ (e : Entry). e.time ≤ time) (entries_in v sender)
TellsAll v asked sender time (split_done id false) = IsMissing v asked id
TellsAll v asked sender time body = Unit {0}

-- WHAT THE CATALOGUE AND THE SHARDS KEEP

-- what changes the catalogue made
pub record AreMade (time : ℕ) (changes : List Change) : Type 0 where
  pub fitting : AreFitting changes
  pub past : AllByRecursion (λ x. time_of x ≤ time) changes
  pub still : AllByRecursion MovesNothing changes

pub record NeighboursFit (v : View) (asked : List Asked) : Type 0 where
  pub begun : AreMade (v.bound 0) (changes_in v)
  pub one : AreDifferent (ids_asked asked)
  pub past : AllByRecursion (IsWithin v.bound) (history_in v)
  pub sent : AllByRecursion (WasMade (history_in v) asked v.reached) (history_in v)
  pub numbers : AreNumbered (history_in v)
  pub parts : AllByRecursion (StandsInPart (history_in v)) asked
  pub placed : AllByRecursion (IsPlaced (changes_in v)) (history_in v)

-- THE WORLD

-- the catalogue is first, then the first shard
abbrev pub IsCatalogue : NodeState → Type 0
IsCatalogue (catalogue_state c) = Unit {0}
IsCatalogue (shard_state s) = ⊥
IsCatalogue (router_state r) = ⊥

abbrev pub IsShard : NodeState → Type 0
IsShard (catalogue_state c) = ⊥
IsShard (shard_state s) = Unit {0}
IsShard (router_state r) = ⊥

abbrev pub InOrder : List Held → Type 0
InOrder nodes = (c : Held) × (s : Held) × (others : List Held) × (nodes ≡ c ∷ s ∷ others) × IsCatalogue c.state × IsShard s.state

-- nothing moves yet: no journal but the first shard's stores entries
abbrev pub IsFirstAlone : List Held → Type 0
IsFirstAlone nodes = (at : ℕ) → at ≢ first_shard → entries_at nodes at ≡ []

-- a request that was not taken was refused for a lack of its router in that step
pub record IsAwayOf (missed : List Missed) (x : TurnedAway) : Type 0 where
  pub lack : Missed
  pub had : IsIn lack missed
  pub own : lack.node ≡ x.router
  pub during : lack.step ≡ x.step
  pub same : x.document ≡ answer_document (refusal_answer (lack_refusal x.router lack.lack))

-- how far the statements of open requests were sent: not beyond what is noted
abbrev pub IsReached : List Reach → Router → Open → Type 0
IsReached notes r q = reach_of (id_of r q.count) notes ≤ reach_in q.work

abbrev pub ReachFits : List Reach → NodeState → Type 0
ReachFits notes (catalogue_state c) = Unit {0}
ReachFits notes (shard_state s) = Unit {0}
ReachFits notes (router_state r) = AllByRecursion (IsReached notes r) r.requests

-- what is noted of them after a step of their router
abbrev pub raise_of : Router → Open → Reach
raise_of r q = record { id = id_of r q.count; index = reach_in q.work }

abbrev pub raises_of : NodeState → List Reach
raises_of (catalogue_state c) = []
raises_of (shard_state s) = []
raises_of (router_state r) = map (raise_of r) r.requests

-- it is noted that the statements of a request were sent so far
abbrev pub IsNoted : List Reach → Router → Open → Type 0
IsNoted notes r q = reach_in q.work ≤ reach_of (id_of r q.count) notes

-- what is true of a message that was ever sent
abbrev pub SentFits : View → List Dated → List Asked → List Answered → List Given → Letter → Type 0
SentFits v dated asked answered given m = LetterFits v asked m × IsMet v given m.time × TimeFits v dated asked answered m.sender m.time m.body

pub record Good (w : World) (book : Book) : Type 0 where
  pub order : InOrder w.nodes
  pub nodes : EachAt (HeldFits (view_of w.nodes book) w.asked w.answered w.given) 0 w.nodes
  pub dated : changes_of w.changed ≡ changes_kept (journal_at w.nodes 0)
  pub beside : IsFirstAlone w.nodes
  pub letters : AllByRecursion (SentFits (view_of w.nodes book) w.changed w.asked w.answered w.given) w.sent
  pub heard : EachAt (λ at h. HeardFits (view_of w.nodes book) w.asked w.answered h.state) 0 w.nodes
  pub answers : AnswersFit (view_of w.nodes book) w.asked w.answered [] w.answered book.cursors
  pub decided : AllByRecursion (λ (c : Choice). IsIn c.id (ids_asked w.asked)) book.chosen
  pub came : AllByRecursion (λ (a : Asked). a.came < w.now + 1) w.asked
  pub one : AreDifferent (ids_asked w.asked)
  pub once : AreDifferent (ids_told w.answered)
  pub fresh : AllByRecursion (IsFresh w.answered) w.asked
  pub in_order : AllByRecursion (IsInOrder w.asked) w.asked
  pub known : AllByRecursion (λ (a : Asked). IsMet (view_of w.nodes book) w.given a.time) w.asked
  pub met : AllByRecursion (λ (t : Answered). IsMet (view_of w.nodes book) w.given t.time) w.answered
  -- what is noted of moments and lacks is theirs
  pub given : More book.given w.given
  pub missed : w.missed ≡ book.missed
  pub lacks : AllByRecursion (λ (x : Missed). x.step < w.now + 1) w.missed
  pub away : AllByRecursion (IsAwayOf w.missed) w.away
  -- and of an open request no statement was sent but those that are answered or in a run
  pub reach : EachAt (λ at h. ReachFits book.reached h.state) 0 w.nodes
  pub noted : AllByRecursion (λ (x : Reach). IsIn x.id (ids_asked w.asked)) book.reached

-- WHAT A STEP OWES

-- a step does not change the kind of a node
abbrev pub SameKind : NodeState → NodeState → Type 0
SameKind (catalogue_state c) (catalogue_state d) = Unit {0}
SameKind (shard_state s) (shard_state t) = Unit {0}
SameKind (router_state r) (router_state q) = Unit {0}
SameKind s t = ⊥
