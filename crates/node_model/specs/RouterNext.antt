-- What becomes of an open request of a router: it goes on, or it is answered.
use Rattle.std.specs.Prelude.{ℕ, zero, suc, pos, ◌+◌, List, [], ◌∷◌, ◌++◌, length, filter, not, Bool, true, false, ◌==◌, ◌&&◌, ◌||◌, Option, Some, None, is_some, Result, Ok, Err, nat_lt, nat_le, if◌then◌else◌}
use Rattle.std.specs.List.{list_any}
use Rattle.std.specs.Str.{bytes_eq}
use Rattle.reply_model.specs.Refusals.{Refusal}
use Rattle.reply_model.specs.Writes.{WriteKind}
use Rattle.pipeline_model.specs.Stages.{Stage}
use Rattle.pipeline_model.specs.Halves.{Rows}
use Rattle.pipeline_model.specs.Split.{split}
use Rattle.reply_model.specs.Command.{time_limit}
use Rattle.reply_model.specs.Answers.{Answer, first_answer, count_answer, sharded_answer, refusal_answer, answer_document}
use Rattle.reply_model.specs.Tables.{Table, table_of, with_table, collection_version}
use Rattle.reply_model.specs.Versions.{Version, is_later}
use Rattle.reply_model.specs.Outcomes.{Done, StatementOutcome, was_refused, Try, most_tries, stale_refusal, expired_refusal, lack_refusal, refusal_in, has_outcome, with_outcome, dones_from, answer_of}
use Rattle.node_model.specs.Letters.{At, no_time, at_time, Statement, HalfFault, Cause, is_stale, is_lack, Letter, Reply}
use Rattle.node_model.specs.States.{Target, Part, Run, Course, Telling, in_batches, as_number, Work, writing, reading, sharding, splitting, Wait, for_time, for_catalogue, for_shards, Open, Router, without, replaced}
use Rattle.node_model.specs.RouterRequests.{id_of, turn_after, tries_at, with_tries, indices_of, unanswered, unsent, runs_by, with_runs, first_index, turn_of, asks_to_write, targets_at, asks_to_read, asks_catalogue, table_to_read, asks_times}

-- REPLIES

-- an open request gets a reply at a time of the router
abbrev pub reply_to : Router → ℕ → Open → Answer → Reply
reply_to r time q answer = record { id = id_of r q.count; link = q.link; number = q.number; request = q.request; time = time; document = answer_document answer }

-- all statements before this index have outcomes
abbrev pub has_before : (index : ℕ) → List (Option StatementOutcome) → Bool
has_before zero answers = true
has_before (suc index) [] = false
has_before (suc index) (x ∷ answers) = is_some x && has_before index answers

-- the outcomes with one that arrives; of an ordered write only where all statements before it have theirs
abbrev pub with_done : (ordered : Bool) → Done → List (Option StatementOutcome) → List (Option StatementOutcome)
with_done ordered d answers = if not ordered || has_before d.index answers then with_outcome d.index d.answer answers else answers

-- the outcomes with those that arrive
abbrev pub noted : (ordered : Bool) → List (Option StatementOutcome) → List Done → List (Option StatementOutcome)
noted ordered answers [] = answers
noted ordered answers (d ∷ dones) = noted ordered (with_done ordered d answers) dones

-- all statements are answered, or those up to an error that ends the command
abbrev pub is_answered : (ordered : Bool) → List (Option StatementOutcome) → Bool
is_answered ordered [] = true
is_answered ordered (None ∷ answers) = false
is_answered ordered (Some x ∷ answers) = if ordered && is_some (refusal_in x) then true else is_answered ordered answers

-- what is not answered of runs
abbrev pub left_of : List (Option StatementOutcome) → List Run → List Run
left_of answers [] = []
left_of answers (run ∷ runs) = elim (filter (λ i. not (has_outcome answers i)) run.indices) [
  | [] ↦ left_of answers runs
  | i ∷ indices ↦ record { shard = run.shard; sent = run.sent; indices = i ∷ indices } ∷ left_of answers runs
]

-- the runs of which some statements are answered
abbrev pub served_in_part : List (Option StatementOutcome) → List Run → List Run
served_in_part answers runs = filter (λ (run : Run). list_any (has_outcome answers) run.indices) runs

-- the course after more statements are answered
abbrev pub settled : Course → List (Option StatementOutcome) → Course
settled c answers = record { answers = answers; tries = c.tries; runs = left_of answers c.runs }

abbrev pub with_work : Open → Wait → List Target → Work → Open
with_work q wait targets work = record { count = q.count; link = q.link; number = q.number; request = q.request; arrived = q.arrived; tries = q.tries; namespace = q.namespace; wait = wait; told = q.told; targets = targets; parts = []; work = work }

-- the shards that returned their time, with one more
abbrev pub also_told : (told : List ℕ) → (shard : ℕ) → List ℕ
also_told told shard = if list_any (λ t. t == shard) told then told else told ++ shard ∷ []

abbrev pub with_told : Open → (shard : ℕ) → Open
with_told q shard = record { count = q.count; link = q.link; number = q.number; request = q.request; arrived = q.arrived; tries = q.tries; namespace = q.namespace; wait = q.wait; told = also_told q.told shard; targets = q.targets; parts = q.parts; work = q.work }

-- PARTS OF A READ

-- what a shard returned, if it did
abbrev pub part_of : (shard : ℕ) → List Part → Option (Result Rows HalfFault)
part_of shard [] = None
part_of shard (p ∷ parts) = if p.shard == shard then Some p.rows else part_of shard parts

abbrev pub is_target : (shard : ℕ) → List Target → Bool
is_target shard targets = list_any (λ (t : Target). t.shard == shard) targets

-- a shard returned its part, the first time
abbrev pub also_part : List Part → (shard : ℕ) → Result Rows HalfFault → List Part
also_part parts shard rows = if is_some (part_of shard parts) then parts else parts ++ record { shard = shard; rows = rows } ∷ []

abbrev pub with_part : Open → (shard : ℕ) → Result Rows HalfFault → Open
with_part q shard rows = record { count = q.count; link = q.link; number = q.number; request = q.request; arrived = q.arrived; tries = q.tries; namespace = q.namespace; wait = q.wait; told = q.told; targets = q.targets; parts = also_part q.parts shard rows; work = q.work }

-- the targets that have not returned their parts
abbrev pub awaited : List Target → List Part → List Target
awaited targets parts = filter (λ (t : Target). not (is_some (part_of t.shard parts))) targets

-- the rows of these parts, in order of the targets; or why the first that has none has none
abbrev pub rows_of : List Target → List Part → Result (List Rows) HalfFault
rows_of [] parts = Ok []
rows_of (t ∷ targets) parts = elim (part_of t.shard parts) [
  | None ↦ rows_of targets parts
  | Some (Err fault) ↦ Err fault
  | Some (Ok rows) ↦ elim (rows_of targets parts) [ Err fault ↦ Err fault | Ok others ↦ Ok (rows ∷ others) ]
]

-- the answer is that to a read of this time
abbrev pub is_for : At → ℕ → Bool
is_for no_time at = false
is_for (at_time told) at = told == at

-- the try that a turn of a read was, which met this version: all its shards were asked by one table
abbrev pub tried : Version → List Target → List Try
tried met [] = []
tried met (t ∷ targets) = record { sent = t.sent.collection; met = met } ∷ []

-- a read with one try more
abbrev pub also_tried : Open → Version → Open
also_tried q met = record { count = q.count; link = q.link; number = q.number; request = q.request; arrived = q.arrived; tries = q.tries ++ tried met q.targets; namespace = q.namespace; wait = q.wait; told = q.told; targets = q.targets; parts = q.parts; work = q.work }

-- WHAT BECOMES OF AN OPEN REQUEST

-- it stays open, and messages are sent; or it is answered
pub data Next : Type 0 where
  stays : Open → List Letter → Next
  is_told : Reply → Next

abbrev pub stay_in : Next → List Open
stay_in (stays q letters) = q ∷ []
stay_in (is_told reply) = []

abbrev pub letters_in : Next → List Letter
letters_in (stays q letters) = letters
letters_in (is_told reply) = []

abbrev pub replies_in : Next → List Reply
replies_in (stays q letters) = []
replies_in (is_told reply) = reply ∷ []

-- the requests after that of one of them
abbrev pub after_next : Open → Next → List Open → List Open
after_next q (stays p letters) requests = replaced p requests
after_next q (is_told reply) requests = without q.count requests

abbrev pub is_for_catalogue : Wait → Bool
is_for_catalogue for_time = false
is_for_catalogue for_catalogue = true
is_for_catalogue for_shards = false

-- A write goes on: it is answered; or what can be sent by the router's tables is sent, and of these runs the rest; where statements are left that no table
-- sends, the catalogue is asked if `asks`.
abbrev pub write_on : Router → ℕ → List Table → (asks : Bool) → (again : List Run) → Open → WriteKind → Bool → List Statement → Course → Next
write_on r time tables asks again q kind ordered statements c =
    let more = runs_by ordered (table_of q.namespace tables) statements c in
    let d = with_runs c more in
    let work = writing kind ordered statements d in
    let letters = asks_to_write r time (id_of r q.count) q.namespace ordered statements d (left_of c.answers again ++ more) in
    if is_answered ordered c.answers then is_told (reply_to r time q (answer_of kind time (dones_from 0 c.answers)))
    else elim (unsent ordered statements d) [
      | [] ↦ stays (with_work q for_shards [] work) letters
      | s ∷ left ↦ stays (with_work q for_catalogue [] work) (if asks then asks_catalogue r time q.count q.namespace work ∷ letters else letters)
    ]

-- a read goes on: a turn begins with all its shards, by a table that is enough; else the catalogue is asked if `asks`
abbrev pub read_on : Router → ℕ → List Table → (asks : Bool) → Open → (named : Bool) → (at : ℕ) → List Stage → Telling → Next
read_on r time tables asks q named at stages telling =
    let work = reading named at stages telling in
    elim (table_to_read (table_of q.namespace tables) at q.tries) [
      | None ↦ stays (with_work q for_catalogue [] work) (if asks then asks_catalogue r time q.count q.namespace work ∷ [] else [])
      | Some t ↦ stays (with_work q for_shards (targets_at t at stages) work)
          (asks_to_read r time (id_of r q.count) q.namespace (turn_after q.tries) at (split stages).0 (targets_at t at stages))
    ]

-- work begins, at a time of the router; a read waits until its time is reached
abbrev pub begins_work : Router → ℕ → Open → Work → Next
begins_work r time q (writing kind ordered statements c) = write_on r time r.tables true [] q kind ordered statements c
begins_work r time q (reading named at stages telling) =
    if nat_lt time at then stays (with_work q for_time [] (reading named at stages telling)) (asks_times r time (id_of r q.count) [])
    else read_on r time r.tables true q named at stages telling
begins_work r time q sharding = stays (with_work q for_catalogue [] sharding) (asks_catalogue r time q.count q.namespace sharding ∷ [])
begins_work r time q (splitting middle) =
    stays (with_work q for_catalogue [] (splitting middle)) (asks_catalogue r time q.count q.namespace (splitting middle) ∷ [])

-- WORK THAT IS GIVEN UP

abbrev pub with_outcomes : List ℕ → StatementOutcome → List (Option StatementOutcome) → List (Option StatementOutcome)
with_outcomes [] x answers = answers
with_outcomes (index ∷ indices) x answers = with_outcome index x (with_outcomes indices x answers)

-- of these statements each is refused, of an ordered write the first, which ends it
abbrev pub given_up : (ordered : Bool) → Refusal → List ℕ → List (Option StatementOutcome) → List (Option StatementOutcome)
given_up ordered refusal [] answers = answers
given_up true refusal (index ∷ indices) answers = with_outcome index (was_refused refusal) answers
given_up false refusal (index ∷ indices) answers = with_outcomes (index ∷ indices) (was_refused refusal) answers

-- Several statements of an ordered write are under way together: where the first were given up, the shard might still apply the others, so none is.
abbrev pub is_bound : (ordered : Bool) → List Run → Bool
is_bound ordered runs = ordered && list_any (λ (run : Run). nat_lt 1 (length run.indices)) runs

abbrev pub gives_up : Router → ℕ → Open → WriteKind → Bool → List Statement → Course → Refusal → List ℕ → Next
gives_up r time q kind ordered statements c refusal indices =
    write_on r time r.tables false [] q kind ordered statements (settled c (given_up ordered refusal indices c.answers))

-- WORK THAT MET A LATER TABLE

-- the run that a message was about, by its turn and its first statement
abbrev pub run_with : (turn first : ℕ) → Course → List Run → Option Run
run_with turn first c [] = None
run_with turn first c (run ∷ runs) =
    if (first_index run.indices == first) && (turn_of c run == turn) then Some run else run_with turn first c runs

abbrev pub without_run : (first : ℕ) → List Run → List Run
without_run first runs = filter (λ (run : Run). not (first_index run.indices == first)) runs

-- of these statements those that have had all their tries are refused, of an ordered write the first
abbrev pub worn_out : (ordered : Bool) → List ℕ → List (List Try) → List (Option StatementOutcome) → List (Option StatementOutcome)
worn_out ordered [] tries answers = answers
worn_out ordered (index ∷ indices) tries answers =
    let others = if ordered then answers else worn_out ordered indices tries answers in
    if length (tries_at index tries) == most_tries then with_outcome index (was_refused (stale_refusal (tries_at index tries))) others else others

-- a run is no longer under way, and each of its statements has one try more
abbrev pub after_stale : (ordered : Bool) → Course → Run → Version → Course
after_stale ordered c run met =
    let tries = with_tries (record { sent = run.sent.collection; met = met }) run.indices c.tries in
    record { answers = worn_out ordered run.indices tries c.answers; tries = tries; runs = without_run (first_index run.indices) c.runs }

-- the router's table is older than a version
abbrev pub is_below : Option Table → Version → Bool
is_below None met = true
is_below (Some t) met = is_later met (collection_version t)

-- a read goes on after one try more
abbrev pub read_again : Router → ℕ → Open → Bool → ℕ → List Stage → Telling → Next
read_again r time q named at stages telling =
    if length q.tries == most_tries then is_told (reply_to r time q (refusal_answer (stale_refusal q.tries)))
    else read_on r time r.tables true q named at stages telling

-- WORK THAT A NODE REFUSED

abbrev pub write_refused : Router → ℕ → Open → Cause → WriteKind → Bool → List Statement → Course → Run → Option Next
write_refused r time q (is_stale met) kind ordered statements c run =
    Some (write_on r time r.tables (is_below (table_of q.namespace r.tables) met) [] q kind ordered statements (after_stale ordered c run met))
write_refused r time q (is_lack node lack) kind ordered statements c run =
    if is_bound ordered (run ∷ []) then None else Some (gives_up r time q kind ordered statements c (lack_refusal node lack) run.indices)

-- of a read that waits for shards
abbrev pub read_refused : Router → ℕ → Open → Cause → Bool → ℕ → List Stage → Telling → Next
read_refused r time q (is_stale met) named at stages telling = read_again r time (also_tried q met) named at stages telling
read_refused r time q (is_lack node lack) named at stages telling = is_told (reply_to r time q (refusal_answer (lack_refusal node lack)))

-- of what has no turn
abbrev pub task_refused : Router → ℕ → Open → (turn first : ℕ) → Cause → Option Next
task_refused r time q turn first (is_stale met) = None
task_refused r time q turn first (is_lack node lack) =
    if (turn == 0) && (first == 0) then Some (is_told (reply_to r time q (refusal_answer (lack_refusal node lack)))) else None

-- What a refusal does to the open request that it is about, if anything: its run is under way, its turn has no part of the sender, or it waits for the sender's
-- time or the catalogue.
abbrev pub refused_next : Router → ℕ → Open → (sender turn first : ℕ) → Cause → Option Next
refused_next r time q sender turn first cause = elim q.work [
  | writing kind ordered statements c ↦ elim (run_with turn first c c.runs) [ None ↦ None | Some run ↦ write_refused r time q cause kind ordered statements c run ]
  | reading named at stages telling ↦ elim q.wait [
    | for_time ↦ if list_any (λ t. t == sender) q.told then None else task_refused r time q turn first cause
    | for_catalogue ↦ None
    | for_shards ↦
        if (turn == turn_after q.tries) && ((first == 0) && is_target sender (awaited q.targets q.parts))
        then Some (read_refused r time q cause named at stages telling) else None
  ]
  | sharding ↦ None
  | splitting middle ↦ task_refused r time q turn first cause
]

abbrev pub is_no_time : At → Bool
is_no_time no_time = true
is_no_time (at_time at) = false

-- the request for a table that this work sends
abbrev pub wants_table : Work → (create : Bool) → At → Bool
wants_table (writing kind ordered statements c) create at = create && is_no_time at
wants_table (reading named time stages telling) create at = not create && is_for at time
wants_table sharding create at = create && is_no_time at
wants_table (splitting middle) create at = false

-- a request for a table was refused: all that waits for just that
abbrev pub table_refused : Router → ℕ → (namespace : List ℕ) → (create : Bool) → At → Refusal → Open → Next
table_refused r time namespace create at refusal q =
    if not (is_for_catalogue q.wait && (bytes_eq q.namespace namespace && wants_table q.work create at)) then stays q []
    else elim q.work [
      | writing kind ordered statements c ↦ gives_up r time q kind ordered statements c refusal (indices_of (unsent ordered statements c))
      | reading named wanted stages telling ↦ is_told (reply_to r time q (refusal_answer refusal))
      | sharding ↦ is_told (reply_to r time q (refusal_answer refusal))
      | splitting middle ↦ stays q []
    ]

-- A TABLE THAT ARRIVES

-- the reply about a collection that is not there
abbrev pub empty_answer : Open → ℕ → Telling → Answer
empty_answer q at (in_batches size single) = first_answer (record { cursor = pos 0; namespace = q.namespace; documents = []; time = at })
empty_answer q at as_number = count_answer 0 at

-- the table of a collection arrived that was to be created
abbrev pub was_created : (create : Bool) → Option Table → Bool
was_created create None = false
was_created create (Some t) = create

-- where the answer has the time of a read, and no table says who owned what it reads, nothing is there
abbrev pub next_of : Router → ℕ → (tables : List Table) → (namespace : List ℕ) → (made : Bool) → At → Open → Next
next_of r time tables namespace made told q = if not (is_for_catalogue q.wait && bytes_eq q.namespace namespace) then stays q [] else elim q.work [
  | writing kind ordered statements c ↦ write_on r time tables false [] q kind ordered statements c
  | reading named at stages telling ↦
      if is_for told at && not (is_some (table_to_read (table_of q.namespace tables) at [])) then is_told (reply_to r time q (empty_answer q at telling))
      else read_on r time tables false q named at stages telling
  | sharding ↦ if made then is_told (reply_to r time q (sharded_answer q.namespace time)) else stays q []
  | splitting middle ↦ stays q []
]

abbrev pub adopted : Option Table → List Table → List Table
adopted None tables = tables
adopted (Some t) tables = with_table t tables

-- the router after a table arrived
abbrev pub knows : Router → ℕ → List Table → List Open → Router
knows r time tables requests = record { me = r.me; shards = r.shards; time = time; life = r.life; begun = r.begun; moment = r.moment; count = r.count; tables = tables; requests = requests; cursors = r.cursors; blocks = r.blocks; gave = r.gave }

-- AT A MOMENT

-- what an open request waits for is requested again, with what was sent
abbrev pub asks_again : Router → ℕ → Open → List Letter
asks_again r time q = elim q.work [
  | writing kind ordered statements c ↦
      let letters = asks_to_write r time (id_of r q.count) q.namespace ordered statements c c.runs in
      if is_for_catalogue q.wait then asks_catalogue r time q.count q.namespace q.work ∷ letters else letters
  | reading named at stages telling ↦ elim q.wait [
    | for_time ↦ asks_times r time (id_of r q.count) q.told
    | for_catalogue ↦ asks_catalogue r time q.count q.namespace q.work ∷ []
    | for_shards ↦ asks_to_read r time (id_of r q.count) q.namespace (turn_after q.tries) at (split stages).0 (awaited q.targets q.parts)
  ]
  | sharding ↦ asks_catalogue r time q.count q.namespace q.work ∷ []
  | splitting middle ↦ asks_catalogue r time q.count q.namespace q.work ∷ []
]

-- the time limit has passed, counted from the last moment before the request was taken (MongoDB manual, "maxTimeMS"; that it counts moments is own)
abbrev pub is_expired : Open → (moment : ℕ) → Bool
is_expired q moment = nat_lt 0 (time_limit q.request) && nat_le (q.arrived + time_limit q.request) moment

abbrev pub at_moment : Router → (time moment : ℕ) → Open → Next
at_moment r time moment q = if not (is_expired q moment) then stays q (asks_again r time q) else elim q.work [
  | writing kind ordered statements c ↦
      if is_bound ordered c.runs then stays q (asks_again r time q)
      else gives_up r time q kind ordered statements c (expired_refusal q.arrived moment) (indices_of (unanswered statements c.answers))
  | reading named at stages telling ↦ is_told (reply_to r time q (refusal_answer (expired_refusal q.arrived moment)))
  | sharding ↦ is_told (reply_to r time q (refusal_answer (expired_refusal q.arrived moment)))
  | splitting middle ↦ is_told (reply_to r time q (refusal_answer (expired_refusal q.arrived moment)))
]
