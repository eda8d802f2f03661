-- What an open request of a router has to do, and what is sent for it.
use Rattle.std.specs.Prelude.{ℕ, zero, suc, ◌+◌, max, List, [], ◌∷◌, ◌++◌, length, map, filter, not, Bool, true, false, ◌==◌, ◌&&◌, ◌||◌, Option, Some, None, is_some, Result, Ok, Err, if◌then◌else◌}
use Rattle.std.specs.List.{list_all, list_any}
use Rattle.std.specs.Option.{unwrap_or}
use Rattle.reply_model.specs.Tree.{null_value}
use Rattle.reply_model.specs.Refusals.{Refusal}
use Rattle.reply_model.specs.Writes.{ClientNumber, WriteKind}
use Rattle.reply_model.specs.Reading.{Reading}
pub use Rattle.reply_model.specs.Reads.{is_on}
use Rattle.command_model.specs.GetMore.{GetMore}
use Rattle.command_model.specs.KillCursors.{KillCursors}
use Rattle.pipeline_model.specs.Stages.{Stage}
use Rattle.pipeline_model.specs.Halves.{Half}
use Rattle.pipeline_model.specs.Split.{split}
use Rattle.reply_model.specs.Keys.{Span}
use Rattle.chunk_model.specs.Tables.{Chunk, owner_among}
use Rattle.chunk_model.specs.Targets.{targets}
use Rattle.reply_model.specs.Command.{Command, hello_command, legacy_command, ping_command, end_sessions_command, write_command, find_command, count_command, more_command, kill_command, shard_collection_command, split_command}
use Rattle.reply_model.specs.Answers.{Answer, hello_answer, legacy_answer, done_answer, refusal_answer}
use Rattle.reply_model.specs.History.{Operation, key_written}
use Rattle.reply_model.specs.Tables.{Table, first_shard, collection_version, owner_now, owner_at}
use Rattle.reply_model.specs.Verdicts.{sent_by}
use Rattle.base_model.specs.Identities.{RequestId}
use Rattle.reply_model.specs.Exchanges.{number_for}
use Rattle.reply_model.specs.Versions.{Version, is_later}
use Rattle.reply_model.specs.Outcomes.{StatementOutcome, Try, none_yet, has_outcome}
use Rattle.reply_model.specs.Right.{usual_size}
use Rattle.node_model.specs.Letters.{no_time, at_time, Statement, Body, table_ask, split_ask, write_ask, read_ask, time_ask, Letter}
use Rattle.node_model.specs.States.{Target, Run, Course, Telling, in_batches, as_number, Work, writing, reading, sharding, splitting, Router}

-- THE STATE

abbrev pub heard : Router → Letter → ℕ
heard r m = max r.time m.time

abbrev pub id_of : Router → ℕ → RequestId
id_of r count = record { router = r.me; life = r.life; count = count }

-- WHAT A REQUEST HAS TO DO

-- the statements of a write, numbered from this index on
abbrev pub statements_from : Option ClientNumber → RequestId → ℕ → List Operation → List Statement
statements_from given id index [] = []
statements_from given id index (operation ∷ operations) = record { number = number_for given id index; operation = operation } ∷ statements_from given id (index + 1) operations

-- a write of which nothing was sent
abbrev pub begun_write : WriteKind → Bool → List Statement → Work
begun_write kind ordered statements =
    writing kind ordered statements (record { answers = none_yet statements; tries = map (λ (s : Statement). []) statements; runs = [] })

-- a command is answered at once, or is about cursors, or there is work to do on a collection first
pub data RequestPlan : Type 0 where
  at_once : Answer → RequestPlan
  needs : (namespace : List ℕ) → Work → RequestPlan
  needs_batch : GetMore → RequestPlan
  needs_end : KillCursors → RequestPlan

-- a read is of the time that it names, or else of the router's time, which must have come to the one that is to be reached
abbrev pub plan_read : Router → Reading → Telling → RequestPlan
plan_read r read telling = needs read.namespace (elim read.at [
  | None ↦ reading false (max r.time (unwrap_or read.after 0)) read.stages telling
  | Some named ↦ reading true named read.stages telling
])

abbrev pub plan_of : Router → RequestId → (silent : Bool) → Result Command Refusal → RequestPlan
plan_of r id silent (Err refusal) = at_once (refusal_answer refusal)
plan_of r id silent (Ok hello_command) = at_once (hello_answer r.moment)
plan_of r id silent (Ok (legacy_command legacy)) = at_once (legacy_answer r.moment legacy.shows_hello_ok)
plan_of r id silent (Ok ping_command) = at_once done_answer
plan_of r id silent (Ok end_sessions_command) = at_once done_answer
plan_of r id silent (Ok (write_command write)) = needs write.namespace (begun_write write.kind write.ordered (statements_from write.number id 0 write.operations))
plan_of r id silent (Ok (find_command find)) =
    plan_read r find.reading (in_batches (unwrap_or find.batches.size usual_size) (find.batches.single || silent))
plan_of r id silent (Ok (count_command read)) = plan_read r read as_number
plan_of r id silent (Ok (more_command more)) = needs_batch more
plan_of r id silent (Ok (kill_command kill)) = needs_end kill
plan_of r id silent (Ok (shard_collection_command namespace)) = needs namespace sharding
plan_of r id silent (Ok (split_command split)) = needs split.namespace (splitting split.middle)

-- TRIES (MongoDB manual, "Sharded Cluster Query Routing"; how many is own)

-- the version that the last try met
abbrev pub last_met : List Try → Option Version
last_met [] = None
last_met (x ∷ tries) = elim (last_met tries) [ None ↦ Some x.met | Some met ↦ Some met ]

-- the table is not older than what the last try met
abbrev pub reaches : Table → List Try → Bool
reaches t tries = elim (last_met tries) [ None ↦ true | Some met ↦ not (is_later met (collection_version t)) ]

-- the number of the turn after these tries, from 1 on
abbrev pub turn_after : List Try → ℕ
turn_after tries = length tries + 1

abbrev pub tries_at : ℕ → List (List Try) → List Try
tries_at index [] = []
tries_at zero (own ∷ tries) = own
tries_at (suc index) (own ∷ tries) = tries_at index tries

-- one try more of the statement with this index, and of the statements with these
abbrev pub with_try : Try → ℕ → List (List Try) → List (List Try)
with_try x index [] = []
with_try x zero (own ∷ tries) = (own ++ x ∷ []) ∷ tries
with_try x (suc index) (own ∷ tries) = own ∷ with_try x index tries

abbrev pub with_tries : Try → List ℕ → List (List Try) → List (List Try)
with_tries x [] tries = tries
with_tries x (index ∷ indices) tries = with_try x index (with_tries x indices tries)

-- WHAT IT REQUESTS

abbrev pub says : Router → (to time : ℕ) → Body → Letter
says r to time body = record { sender = r.me; receiver = to; time = time; body = body }

abbrev pub owner_of_statement : Table → Statement → Option ℕ
owner_of_statement t s = elim (key_written s.operation) [ None ↦ None | Some key ↦ owner_now t key ]

-- the shard that a statement can be sent to by a table
abbrev pub shard_for : Table → List (List Try) → Statement → Option ℕ
shard_for t tries s = if reaches t (tries_at s.number.index tries) then owner_of_statement t s else None

-- the statements that follow one another and go to a shard
abbrev pub run_to : Table → List (List Try) → ℕ → List Statement → List Statement
run_to t tries shard [] = []
run_to t tries shard (s ∷ statements) = if is_on shard (shard_for t tries s) then s ∷ run_to t tries shard statements else []

abbrev pub indices_of : List Statement → List ℕ
indices_of statements = map (λ (s : Statement). s.number.index) statements

abbrev pub run_of : Table → ℕ → List Statement → Run
run_of t shard statements = record { shard = shard; sent = sent_by t shard; indices = indices_of statements }

-- the next run of an ordered write: to the shard that the first of these statements goes to
abbrev pub next_run : Table → List (List Try) → List Statement → List Run
next_run t tries [] = []
next_run t tries (s ∷ statements) = elim (shard_for t tries s) [ None ↦ [] | Some shard ↦ run_of t shard (run_to t tries shard (s ∷ statements)) ∷ [] ]

-- the shards that statements go to, in order of the first statement of each
abbrev pub shards_for : Table → List (List Try) → List Statement → List ℕ
shards_for t tries [] = []
shards_for t tries (s ∷ statements) = elim (shard_for t tries s) [
  | None ↦ shards_for t tries statements
  | Some shard ↦ shard ∷ filter (λ other. not (other == shard)) (shards_for t tries statements)
]

-- a run to each of them
abbrev pub all_runs : Table → List (List Try) → List Statement → List Run
all_runs t tries statements = map (λ shard. run_of t shard (filter (λ (s : Statement). is_on shard (shard_for t tries s)) statements)) (shards_for t tries statements)

abbrev pub has_index : List ℕ → ℕ → Bool
has_index indices index = list_any (λ i. i == index) indices

abbrev pub is_sent : List Run → Statement → Bool
is_sent runs s = list_any (λ (run : Run). has_index run.indices s.number.index) runs

-- the statements that are not answered
abbrev pub unanswered : List Statement → List (Option StatementOutcome) → List Statement
unanswered statements answers = filter (λ (s : Statement). not (has_outcome answers s.number.index)) statements

-- the statements that are to be sent: of an ordered write only where no run is under way
abbrev pub unsent : (ordered : Bool) → List Statement → Course → List Statement
unsent true statements c = elim c.runs [ [] ↦ unanswered statements c.answers | run ∷ runs ↦ [] ]
unsent false statements c = filter (λ (s : Statement). not (is_sent c.runs s)) (unanswered statements c.answers)

-- what of them a table sends
abbrev pub runs_by : (ordered : Bool) → Option Table → List Statement → Course → List Run
runs_by ordered None statements c = []
runs_by true (Some t) statements c = next_run t c.tries (unsent true statements c)
runs_by false (Some t) statements c = all_runs t c.tries (unsent false statements c)

abbrev pub with_runs : Course → List Run → Course
with_runs c more = record { answers = c.answers; tries = c.tries; runs = c.runs ++ more }

abbrev pub first_index : List ℕ → ℕ
first_index [] = 0
first_index (index ∷ indices) = index

abbrev pub turn_of : Course → Run → ℕ
turn_of c run = turn_after (tries_at (first_index run.indices) c.tries)

-- the statements of a run
abbrev pub in_run : Run → List Statement → List Statement
in_run run statements = filter (λ (s : Statement). has_index run.indices s.number.index) statements

-- the message of each of these runs of a write, in the turn of its statements
abbrev pub asks_to_write : Router → ℕ → RequestId → (namespace : List ℕ) → (ordered : Bool) → List Statement → Course → List Run → List Letter
asks_to_write r time id namespace ordered statements c runs =
    map (λ (run : Run). says r run.shard time (write_ask id (turn_of c run) ordered namespace (in_run run statements) run.sent)) runs

-- the shards that own keys of a span at a time, rising; where the span has no key, the owner of the least one
abbrev pub owners_of_span : Table → ℕ → List Span → List ℕ
owners_of_span t at span = elim (targets t span at) [
  | [] ↦ elim (owner_at t null_value at) [ None ↦ [] | Some shard ↦ shard ∷ [] ]
  | shard ∷ shards ↦ shard ∷ shards
]

-- which shards a read of these stages is sent to, by a table
abbrev pub targets_at : Table → ℕ → List Stage → List Target
targets_at t at stages = map (λ shard. record { shard = shard; sent = sent_by t shard }) (owners_of_span t at (split stages).0.span)

abbrev pub asks_to_read : Router → ℕ → RequestId → (namespace : List ℕ) → (turn at : ℕ) → Half → List Target → List Letter
asks_to_read r time id namespace turn at half targets = map (λ (t : Target). says r t.shard time (read_ask id turn namespace at half t.sent)) targets

-- what it sends to the catalogue: a write creates its collection
abbrev pub asks_catalogue : Router → ℕ → (count : ℕ) → (namespace : List ℕ) → Work → Letter
asks_catalogue r time count namespace (writing kind ordered statements c) = says r 0 time (table_ask namespace true no_time)
asks_catalogue r time count namespace (reading named at stages telling) = says r 0 time (table_ask namespace false (at_time at))
asks_catalogue r time count namespace sharding = says r 0 time (table_ask namespace true no_time)
asks_catalogue r time count namespace (splitting middle) = says r 0 time (split_ask (id_of r count) namespace middle)

-- a chunk has an owner at a time
abbrev pub has_owner : (at : ℕ) → Chunk → Bool
has_owner at c = is_some (owner_among at c.owners)

-- a table says who owned each key at a time: each of its chunks has an owner then
abbrev pub is_owned_at : Table → (at : ℕ) → Bool
is_owned_at t at = list_all (has_owner at) t.chunks

-- the table that a read can be sent with after these tries, if it is there
abbrev pub table_to_read : Option Table → (at : ℕ) → List Try → Option Table
table_to_read None at tries = None
table_to_read (Some t) at tries = if reaches t tries && is_owned_at t at then Some t else None

-- so many places, from this one on
abbrev pub places_from : (first count : ℕ) → List ℕ
places_from first zero = []
places_from first (suc count) = first ∷ places_from (first + 1) count

-- all shards
abbrev pub shards_of : Router → List ℕ
shards_of r = places_from first_shard r.shards

-- the shards of these that have not returned their time
abbrev pub untold : (told shards : List ℕ) → List ℕ
untold told shards = filter (λ s. not (list_any (λ t. t == s) told)) shards

-- requests the time of each shard that has not returned it
abbrev pub asks_times : Router → ℕ → RequestId → (told : List ℕ) → List Letter
asks_times r time id told = map (λ s. says r s time (time_ask id)) (untold told (shards_of r))

-- a read that names no time is of the time that is reached
abbrev pub reached : ℕ → Work → Work
reached time (writing kind ordered statements c) = writing kind ordered statements c
reached time (reading named at stages telling) = reading named (if named then at else time) stages telling
reached time sharding = sharding
reached time (splitting middle) = splitting middle
