-- Which replies are right by one history, and by what their routers knew.
use Rattle.std.specs.Prelude.{◌≡◌, ◌⊎◌, ℕ, ℤ, ◌+◌, ◌<◌, ◌≤◌, List, [], ◌∷◌, ◌++◌, length, map, int_lt, Option, Some, None, Result, Ok, Err, Bool, true, false, ◌==◌, ◌&&◌, ◌||◌, codes, if◌then◌else◌}
use Rattle.std.specs.List.{AllByRecursion}
use Rattle.std.specs.Option.{unwrap_or}
use Rattle.bson_model.specs.Tree.{Datum, Fields}
use Rattle.opmsg_model.specs.Requests.{Request}
use Rattle.base_model.specs.Errors.{cursor_not_found, namespace_not_sharded, overflow, query_exceeded_memory}
use Rattle.base_model.specs.Refusals.{Refusal, bytes_evidence, cursor_evidence, time_ahead, without_evidence}
use Rattle.command_model.specs.Writes.{ClientNumber, WriteCommand}
use Rattle.command_model.specs.Reading.{Reading, Batches}
use Rattle.command_model.specs.Find.{Find}
use Rattle.command_model.specs.Cursors.{Batch}
use Rattle.command_model.specs.GetMore.{GetMore}
use Rattle.command_model.specs.KillCursors.{KillCursors}
use Rattle.command_model.specs.IsMaster.{Legacy}
use Rattle.command_model.specs.Split.{SplitCommand}
use Rattle.command_model.specs.Command.{Command, hello_command, legacy_command, ping_command, end_sessions_command, write_command, find_command, count_command, more_command, kill_command, shard_collection_command, split_command, command_of, time_limit}
use Rattle.command_model.specs.Answers.{hello_answer, legacy_answer, done_answer, first_answer, next_answer, count_answer, killed_answer, sharded_answer, changed_answer, refusal_answer, answer_document}
use Rattle.pipeline_model.specs.Runs.{listed, overflowed, count_documents}
use Rattle.history_model.specs.History.{StatementNumber, Operation, Entry, IsIn}
use Rattle.pipeline_model.specs.Lengths.{excess_of_answer}
use Rattle.chunk_model.specs.Catalogue.{Creation}
use Rattle.chunk_model.specs.Changes.{Change, create_change, time_of, known_table, begins_at}
use Rattle.chunk_model.specs.Tables.{Table, collection_version}
use Rattle.chunk_model.specs.Versions.{Version, is_later}
use Rattle.base_model.specs.Identities.{RequestId}
use Rattle.reply_model.specs.Exchanges.{Asked, Answered, number_for, entries_by}
use Rattle.reply_model.specs.Accounts.{Given, Learned, Lack, Missed, Account}
use Rattle.reply_model.specs.Outcomes.{Try, most_tries, stale_refusal, expired_refusal, lack_refusal, StatementOutcome, was_refused, WasRefused, is_older, Done, answer_by, done_of, fails, AnyDone, answer_of}
use Rattle.reply_model.specs.Cursors.{Cursor, open_cursor, ShowsFirst, ShowsNext, Kills}
use Rattle.reply_model.specs.Reads.{IsTimeRead, MayGive, IsExcess, IsAhead}

-- the entry belongs to this statement: it has its number, its namespace and its operation, as the client sent it
pub record IsStatement (number : StatementNumber) (namespace : List ℕ) (operation : Operation) (e : Entry) : Type 0 where
  pub same_number : e.number ≡ number
  pub name : e.namespace ≡ namespace
  pub does : e.operation ≡ operation

-- the statement ends its command: it has an error, and the command is ordered
abbrev pub ends : Bool → Done → Bool
ends ordered d = ordered && fails d

-- WHO SENT A STATEMENT

-- the entry belongs to the statement with this index of a request
pub record IsEntryAt (a : Asked) (write : WriteCommand) (index : ℕ) (e : Entry) : Type 0 where
  pub prefix : List Operation
  pub operation : Operation
  pub back : List Operation
  pub both : write.operations ≡ prefix ++ operation ∷ back
  pub at : length prefix ≡ index
  pub statement : IsStatement (number_for write.number a.id index) write.namespace operation e

-- the request sent the entry's statement
pub record Sends (a : Asked) (e : Entry) : Type 0 where
  pub write : WriteCommand
  pub index : ℕ
  pub asks : command_of a.request ≡ Ok (write_command write)
  pub entry : IsEntryAt a write index e

-- a request that sent it had come by then
pub record HadSent (asked : List Asked) (e : Entry) (t : Answered) : Type 0 where
  pub request : Asked
  pub taken : IsIn request asked
  pub sends : Sends request e
  pub came : request.came ≤ t.step

-- WHY WORK IS GIVEN UP

-- a node took no step, for this lack, not after the reply
pub record WasMissed (account : Account) (t : Answered) (node : ℕ) (lack : Lack) : Type 0 where
  pub missed : Missed
  pub had : IsIn missed account.missed
  pub own : missed.node ≡ node
  pub same : missed.lack ≡ lack
  pub before : missed.step ≤ t.step

-- The reply was made at a moment that the request's router was given after it took the request, and the request's time limit, counted from the router's last
-- moment before, had passed (MongoDB manual, "maxTimeMS"; that it counts moments is own).
pub record IsExpired (account : Account) (a : Asked) (t : Answered) (now : ℕ) : Type 0 where
  pub given : Given
  pub had : IsIn given account.given
  pub own : given.node ≡ a.id.router
  pub moment : given.moment ≡ now
  pub after : a.came < given.step
  pub same : given.step ≡ t.step
  pub limited : 0 < time_limit a.request
  pub passed : a.moment + time_limit a.request ≤ now

-- a reply may say so of any work
pub data IsGivenUp (account : Account) (a : Asked) (t : Answered) : Refusal → Type 0 where
  given_up_late : (now : ℕ) → IsExpired account a t now → IsGivenUp account a t (expired_refusal a.moment now)
  given_up_lacking : (node : ℕ) (lack : Lack) → WasMissed account t node lack → IsGivenUp account a t (lack_refusal node lack)

-- the catalogue had a table of the collection with this version
pub record HadVersion (changes : List Change) (namespace : List ℕ) (version : Version) : Type 0 where
  pub later : List Change
  pub older : List Change
  pub table : Table
  pub all : changes ≡ later ++ older
  pub known : known_table namespace older ≡ Some table
  pub same : collection_version table ≡ version

-- the first of the tries was not sent with an older version than this
abbrev pub StartsWith : Version → List Try → Type 0
StartsWith version [] = Unit {0}
StartsWith version (x ∷ tries) = is_later version x.sent ≡ false

-- each try met a later version than was sent, and the next was not sent with an older version than that
abbrev pub AreTurns : List Try → Type 0
AreTurns [] = Unit {0}
AreTurns (x ∷ tries) = (is_later x.met x.sent ≡ true) × StartsWith x.met tries × AreTurns tries

-- All tries for work of the request met a later table of the collection, and all versions are of tables that the catalogue had; the first was sent with one that
-- is not older than any table that the router had received before the request came.
pub record WereStale (account : Account) (a : Asked) (namespace : List ℕ) (tries : List Try) : Type 0 where
  pub all : length tries ≡ most_tries
  pub turns : AreTurns tries
  pub had : AllByRecursion (λ (x : Try). HadVersion account.changes namespace x.sent × HadVersion account.changes namespace x.met) tries
  pub first : (x : Learned) → IsIn x account.learned → x.node ≡ a.id.router → x.step < a.came → x.table.namespace ≡ namespace
      → StartsWith (collection_version x.table) tries

-- OUTCOMES OF STATEMENTS

-- The right outcomes of a statement: that of its own entry; where a client gave the number, that of another entry under it; or that an entry of the client's
-- session has this greater transaction. The entry is not later than what the router knows as it replies. Or it was given up, and may be applied or not.
pub data MayBeTold (account : Account) (a : Asked) (t : Answered) (given : Option ClientNumber) (number : StatementNumber) (namespace : List ℕ)
    (operation : Operation) : StatementOutcome → Type 0 where
  told_own : (e : Entry) → IsIn e account.history → IsStatement number namespace operation e → e.time ≤ t.time
      → MayBeTold account a t given number namespace operation (answer_by e)
  told_other : (e : Entry) (by : ClientNumber) → IsIn e account.history → given ≡ Some by → e.number ≡ number → e.time ≤ t.time → HadSent account.asked e t
      → MayBeTold account a t given number namespace operation (answer_by e)
  told_older : (e : Entry) (by : ClientNumber) → IsIn e account.history → given ≡ Some by → e.number.session ≡ number.session
      → int_lt number.transaction e.number.transaction ≡ true → e.time ≤ t.time → HadSent account.asked e t
      → MayBeTold account a t given number namespace operation (is_older e.number.transaction)
  told_stale : (tries : List Try) → WereStale account a namespace tries → MayBeTold account a t given number namespace operation (was_refused (stale_refusal tries))
  told_given_up : (refusal : Refusal) → IsGivenUp account a t refusal → MayBeTold account a t given number namespace operation (was_refused refusal)

-- these are right outcomes of the statements of a write from this index on, of all, or up to the error that ends an ordered command
abbrev pub AreTold : Account → Asked → Answered → WriteCommand → ℕ → List Operation → List Done → Type 0
AreTold account a t write index [] dones = dones ≡ []
AreTold account a t write index (operation ∷ operations) [] = ⊥
AreTold account a t write index (operation ∷ operations) (d ∷ dones) =
    (d.index ≡ index)
    × MayBeTold account a t write.number (number_for write.number t.id index) write.namespace operation d.answer
    × elim (ends write.ordered d) [ true ↦ dones ≡ [] | false ↦ AreTold account a t write (index + 1) operations dones ]

-- THE STORED PART OF A WRITE THAT HAS NO NUMBER FROM ITS CLIENT

-- the entry belongs to the statement of the request that has its index
pub record IsStored (id : RequestId) (write : WriteCommand) (e : Entry) : Type 0 where
  pub before : List Operation
  pub operation : Operation
  pub back : List Operation
  pub all : write.operations ≡ before ++ operation ∷ back
  pub at : length before ≡ e.number.index
  pub statement : IsStatement (number_for None id e.number.index) write.namespace operation e

-- these entries belong to the statements from this index on, in their order; the first error ends an ordered command
abbrev pub AreStatements : RequestId → List ℕ → (ordered : Bool) → ℕ → List Operation → List Entry → Type 0
AreStatements id namespace ordered index operations [] = Unit {0}
AreStatements id namespace ordered index [] (e ∷ entries) = ⊥
AreStatements id namespace ordered index (operation ∷ operations) (e ∷ entries) =
    IsStatement (number_for None id index) namespace operation e × (ends ordered (done_of e) ≡ true → entries ≡ [])
    × AreStatements id namespace ordered (index + 1) operations entries

-- these entries belong to statements, each to another
abbrev pub AreSingle : RequestId → WriteCommand → List Entry → Type 0
AreSingle id write [] = Unit {0}
AreSingle id write (e ∷ entries) =
    IsStored id write e × AllByRecursion (λ (d : Entry). (d.number.index == e.number.index) ≡ false) entries × AreSingle id write entries

-- The stored part: of an ordered write the entries of a prefix of its statements, in order; of another one at most one entry for each statement.
abbrev pub IsPart : List Entry → RequestId → WriteCommand → Type 0
IsPart history id write = elim write.ordered [
  | true ↦ AreStatements id write.namespace true 0 write.operations (entries_by id history)
  | false ↦ AreSingle id write (entries_by id history)
]

-- the outcomes of its entries, in the order of the history
abbrev pub told_by : RequestId → List Entry → List Done
told_by id history = map done_of (entries_by id history)

-- the entry's statement has an outcome: that of the entry, or a refusal
abbrev pub IsShown : Entry → List Done → Type 0
IsShown e [] = ⊥
IsShown e (d ∷ dones) = ((d ≡ done_of e) ⊎ ((d.index ≡ e.number.index) × WasRefused d.answer)) ⊎ IsShown e dones

-- It is answered as a whole: each statement with a stored entry has an outcome, which is that of the entry unless it is refused.
pub record IsWhole (history : List Entry) (id : RequestId) (write : WriteCommand) (dones : List Done) : Type 0 where
  pub part : IsPart history id write
  pub shown : AllByRecursion (λ (e : Entry). IsShown e dones) (entries_by id history)

-- REPLIES TO READS

-- the greatest size of a first batch, where no size is given
abbrev pub usual_size : ℕ
usual_size = 101

-- the command reads this
pub data Reads : Result Command Refusal → Reading → Type 0 where
  find_reads : (find : Find) → Reads (Ok (find_command find)) find.reading
  count_reads : (reading : Reading) → Reads (Ok (count_command reading)) reading

-- the command is work on a collection that is done, or given up, as one
abbrev pub IsOneTask : Result Command Refusal → Type 0
IsOneTask (Ok (find_command find)) = Unit {0}
IsOneTask (Ok (count_command reading)) = Unit {0}
IsOneTask (Ok (shard_collection_command namespace)) = Unit {0}
IsOneTask (Ok (split_command split)) = Unit {0}
IsOneTask command = ⊥

-- a request that gets no reply asks for no other batch
abbrev pub asks_for_one : Batches → Request → Bool
asks_for_one batches request = batches.single || request.more

-- a request that gets no reply does not change the cursors
abbrev pub unless_silent : Request → (before after : List Cursor) → List Cursor
unless_silent request before after = if request.more then before else after

-- A read is refused: it has no outcome, or one that is too long, or its time is ahead of the router's, which is shown.
pub data IsReadRefused (account : Account) (a : Asked) (t : Answered) (reading : Reading) : Type 0 where
  refused_overflow : (time : ℕ) → IsTimeRead a t reading time → MayGive account.history reading time overflowed
      → t.document ≡ answer_document (refusal_answer (without_evidence overflow)) → IsReadRefused account a t reading
  refused_excess : (time n : ℕ) → IsTimeRead a t reading time → IsExcess account reading time n
      → t.document ≡ answer_document (refusal_answer (record { error = query_exceeded_memory; evidence = bytes_evidence n }))
      → IsReadRefused account a t reading
  refused_ahead : IsAhead account a t reading
      → t.document ≡ answer_document (refusal_answer (time_ahead t.time)) → IsReadRefused account a t reading

-- REPLIES ABOUT CHUNKS (MongoDB manual, "shardCollection" and "split")

-- a collection of this name was created by a time
pub record WasCreated (changes : List Change) (namespace : List ℕ) (time : ℕ) : Type 0 where
  pub creation : Creation
  pub begun : IsIn (create_change creation) changes
  pub name : creation.namespace ≡ namespace
  pub before : creation.at ≤ time

-- the catalogue had, by changes that are not later than a time, a chunk of the collection that begins at the key
pub record WasSplit (changes : List Change) (namespace : List ℕ) (key : Datum) (time : ℕ) : Type 0 where
  pub later : List Change
  pub older : List Change
  pub table : Table
  pub all : changes ≡ later ++ older
  pub past : AllByRecursion (λ x. time_of x ≤ time) older
  pub known : known_table namespace older ≡ Some table
  pub bound : begins_at key table.chunks ≡ true

-- the reply that no collection of the name exists
abbrev pub not_sharded : Fields
not_sharded = answer_document (refusal_answer (without_evidence namespace_not_sharded))

-- The reply to the request is a right one, where the first cursors were open before it, and the next ones are after it: right outcomes of its statements, in
-- a collection that was created if one was applied; or a batch of a result that the read may have at its time, or the number of documents, or why it is
-- refused; or that all its tries met later tables, or why it is given up; or the next batch of its cursor, or that this is not open; or which cursors are
-- closed; or that a collection was created, or that a chunk of it begins at a key, or that there is none (`OneHistory` says when); or a reply that needs no
-- document; or its refusal.
pub data IsRight (account : Account) (cursors : List Cursor) (a : Asked) (t : Answered) : (next : List Cursor) → Type 0 where
  right_write : (write : WriteCommand) (dones : List Done) → command_of a.request ≡ Ok (write_command write)
      → AreTold account a t write 0 write.operations dones → (write.number ≡ None → IsWhole account.history a.id write dones)
      → (AnyDone dones → WasCreated account.changes write.namespace t.time)
      → t.document ≡ answer_document (answer_of write.kind t.time dones) → IsRight account cursors a t cursors
  right_find : (find : Find) (time : ℕ) (documents : List Fields) (batch : Batch) (next : List Cursor) → command_of a.request ≡ Ok (find_command find)
      → IsTimeRead a t find.reading time → MayGive account.history find.reading time (listed documents) → excess_of_answer documents ≡ None
      → batch.namespace ≡ find.reading.namespace → batch.time ≡ time
      → ShowsFirst a.id (unwrap_or find.batches.size usual_size) (asks_for_one find.batches a.request) cursors documents batch next
      → t.document ≡ answer_document (first_answer batch) → IsRight account cursors a t next
  right_count : (reading : Reading) (time n : ℕ) → command_of a.request ≡ Ok (count_command reading) → IsTimeRead a t reading time
      → MayGive account.history reading time (listed (count_documents (codes "n") n))
      → t.document ≡ answer_document (count_answer n time) → IsRight account cursors a t cursors
  right_stale : (reading : Reading) (tries : List Try) → Reads (command_of a.request) reading → WereStale account a reading.namespace tries
      → t.document ≡ answer_document (refusal_answer (stale_refusal tries)) → IsRight account cursors a t cursors
  right_given_up : (refusal : Refusal) → IsOneTask (command_of a.request) → IsGivenUp account a t refusal
      → t.document ≡ answer_document (refusal_answer refusal) → IsRight account cursors a t cursors
  right_refused_read : (reading : Reading) → Reads (command_of a.request) reading → IsReadRefused account a t reading
      → IsRight account cursors a t cursors
  right_more : (more : GetMore) (c : Cursor) (batch : Batch) (next : List Cursor) → command_of a.request ≡ Ok (more_command more)
      → open_cursor a.id more.cursor more.namespace cursors ≡ Some c → ShowsNext a.id more.size cursors c batch next
      → t.document ≡ answer_document (next_answer batch) → IsRight account cursors a t (unless_silent a.request cursors next)
  right_no_cursor : (more : GetMore) → command_of a.request ≡ Ok (more_command more) → open_cursor a.id more.cursor more.namespace cursors ≡ None
      → t.document ≡ answer_document (refusal_answer (record { error = cursor_not_found; evidence = cursor_evidence more.cursor }))
      → IsRight account cursors a t cursors
  right_kill : (kill : KillCursors) (killed missing : List ℤ) (next : List Cursor) → command_of a.request ≡ Ok (kill_command kill)
      → Kills a.id kill.namespace cursors kill.cursors killed missing next → t.document ≡ answer_document (killed_answer killed missing)
      → IsRight account cursors a t next
  right_shard : (namespace : List ℕ) → command_of a.request ≡ Ok (shard_collection_command namespace) → WasCreated account.changes namespace t.time
      → t.document ≡ answer_document (sharded_answer namespace t.time) → IsRight account cursors a t cursors
  right_split : (split : SplitCommand) → command_of a.request ≡ Ok (split_command split) → WasSplit account.changes split.namespace split.middle t.time
      → t.document ≡ answer_document (changed_answer t.time) → IsRight account cursors a t cursors
  right_not_sharded : (split : SplitCommand) → command_of a.request ≡ Ok (split_command split) → t.document ≡ not_sharded
      → IsRight account cursors a t cursors
  right_hello : command_of a.request ≡ Ok hello_command → t.document ≡ answer_document (hello_answer a.moment)
      → IsRight account cursors a t cursors
  right_legacy : (legacy : Legacy) → command_of a.request ≡ Ok (legacy_command legacy)
      → t.document ≡ answer_document (legacy_answer a.moment legacy.shows_hello_ok) → IsRight account cursors a t cursors
  right_ping : command_of a.request ≡ Ok ping_command → t.document ≡ answer_document done_answer → IsRight account cursors a t cursors
  right_end_sessions : command_of a.request ≡ Ok end_sessions_command → t.document ≡ answer_document done_answer
      → IsRight account cursors a t cursors
  right_refusal : (refusal : Refusal) → command_of a.request ≡ Err refusal → t.document ≡ answer_document (refusal_answer refusal)
      → IsRight account cursors a t cursors
