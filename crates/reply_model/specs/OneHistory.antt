-- What it means that the replies to clients are one history of an unsharded collection, over any number of routers.
use Rattle.std.specs.Prelude.{◌≡◌, ◌≢◌, ◌⊎◌, ℕ, ◌+◌, ◌<◌, ◌≤◌, List, [], ◌∷◌, map, Some, None, Ok, true, false, ◌==◌, ◌&&◌, nat_lt, int_lt, if◌then◌else◌}
use Rattle.std.specs.List.{AllByRecursion}
use Rattle.bson_model.specs.Tree.{Datum}
use Rattle.base_model.specs.Times.{time_of_moment}
use Rattle.base_model.specs.ReplyParts.{operation_time}
use Rattle.command_model.specs.Writes.{WriteCommand}
use Rattle.command_model.specs.Command.{Command, write_command, shard_collection_command, split_command, command_of}
use Rattle.command_model.specs.Split.{SplitCommand}
use Rattle.chunk_model.specs.Catalogue.{Creation}
use Rattle.chunk_model.specs.Changes.{Change, create_change, split_change, commit_change, time_of, known_table}
use Rattle.chunk_model.specs.Placement.{AreFitting, owner}
use Rattle.history_model.specs.History.{Entry, Legal, IsIn, key_written}
use Rattle.base_model.specs.Identities.{RequestId}
use Rattle.reply_model.specs.Exchanges.{Asked, Answered}
use Rattle.reply_model.specs.Accounts.{Dated, changes_in, Given, Missed, TurnedAway, nothing_stored, Account}
use Rattle.reply_model.specs.Cursors.{Cursor}
use Rattle.reply_model.specs.Right.{IsPart, IsRight, Sends, AreTold, WasCreated, WasSplit, ends, not_sharded}
use Rattle.reply_model.specs.Outcomes.{Done, lack_refusal, AnyDone, is_too_old, answer_of}
use Rattle.command_model.specs.Answers.{sharded_answer, changed_answer, refusal_answer, answer_document}

-- the request is a write in the namespace
pub record IsWriteIn (namespace : List ℕ) (a : Asked) : Type 0 where
  pub write : WriteCommand
  pub asks : command_of a.request ≡ Ok (write_command write)
  pub name : write.namespace ≡ namespace

-- the outcomes that the reply to a write shows
pub record Shows (account : Account) (a : Asked) (t : Answered) (write : WriteCommand) : Type 0 where
  pub dones : List Done
  pub told : AreTold account a t write 0 write.operations dones
  pub same : t.document ≡ answer_document (answer_of write.kind t.time dones)

-- A reply ends with an error of a statement before this index, other than that of a greater transaction: a session that goes on to another transaction while
-- an ordered command runs may leave entries after that one (MongoDB manual, "Retryable Writes", forbids such a use).
abbrev pub EndsBefore : (index : ℕ) → WriteCommand → List Done → Type 0
EndsBefore index write [] = ⊥
EndsBefore index write (d ∷ dones) = ((d.index < index) × (ends write.ordered d ≡ true) × (is_too_old d.answer ≡ false)) ⊎ EndsBefore index write dones

-- The entry was made for a request that a router took and that sent its statement: it is later than what the router knew then, and the reply to the request
-- did not say that the write had ended before that statement.
pub record WasSent (account : Account) (e : Entry) : Type 0 where
  pub request : Asked
  pub taken : IsIn request account.asked
  pub sends : Sends request e
  pub later : request.time < e.time
  pub goes_on : (t : Answered) → IsIn t account.answered → t.id ≡ request.id
      → (shown : Shows account request t sends.write) × (¬ EndsBefore sends.index sends.write shown.dones)

-- the request asks for this change: as a write in the collection or to create it, or to split it at that key; no command moves a chunk yet
abbrev pub AsksFor : Asked → Change → Type 0
AsksFor a (create_change c) = IsWriteIn c.namespace a ⊎ (command_of a.request ≡ Ok (shard_collection_command c.namespace))
AsksFor a (split_change s) = command_of a.request ≡ Ok (split_command (record { namespace = s.namespace; middle = s.middle }))
AsksFor a (commit_change c) = ⊥

-- a change of the catalogue was made for a request that a router took, and is later than what the router knew then
pub record WasWanted (asked : List Asked) (x : Change) : Type 0 where
  pub request : Asked
  pub taken : IsIn request asked
  pub asks : AsksFor request x
  pub later : request.time < time_of x

-- of a write without a client's number a prefix of the statements is stored, where it is ordered; else each is stored at most once
abbrev pub StandsInPart : List Entry → Asked → Type 0
StandsInPart history a = (write : WriteCommand) → command_of a.request ≡ Ok (write_command write) → write.number ≡ None → IsPart history a.id write

-- each request that sent the entry's statement is ordered
abbrev pub IsOrdered : List Asked → Entry → Type 0
IsOrdered asked e = AllByRecursion (λ (b : Asked). (sends : Sends b e) → sends.write.ordered ≡ true) asked

-- then each statement before it was applied before it, without an error
abbrev pub IsReached : Account → Entry → Type 0
IsReached account e = IsOrdered account.asked e → (i : ℕ) → i < e.number.index
    → (d : Entry) × IsIn d account.history × (d.number ≡ record { session = e.number.session; transaction = e.number.transaction; index = i })
    × (d.outcome.error ≡ None) × (d.time < e.time)

-- of two entries of a shard the later has another number, and no smaller transaction of the session
pub record KeepsNumbers (d e : Entry) : Type 0 where
  pub apart : d.shard ≡ e.shard → e.number ≢ d.number
  pub rises : d.shard ≡ e.shard → d.number.session ≡ e.number.session → int_lt e.number.transaction d.number.transaction ≡ false

abbrev pub AreNumbered : List Entry → Type 0
AreNumbered [] = Unit {0}
AreNumbered (d ∷ history) = AllByRecursion (KeepsNumbers d) history × AreNumbered history

abbrev pub last_from : (node step moment : ℕ) → List Given → ℕ
last_from node step moment [] = moment
last_from node step moment (g ∷ given) =
    if (g.node == node) && nat_lt g.step step then last_from node step g.moment given else last_from node step moment given

-- the last moment that a node was given before a step, 0 if it was given none
abbrev pub last_given : (node step : ℕ) → List Given → ℕ
last_given node step given = last_from node step 0 given

-- the time has come in the run: it is not above that of a moment that was given, of a change of the catalogue or of an entry
abbrev pub WasMet : Account → ℕ → Type 0
WasMet account time =
    (time ≡ 0)
    ⊎ (((g : Given) × IsIn g account.given × (time ≤ time_of_moment g.moment))
    ⊎ (((x : Change) × IsIn x account.changes × (time ≤ time_of x))
    ⊎ ((e : Entry) × IsIn e account.history × (time ≤ e.time))))

-- the reply is a right one to a request that was taken, on its link and with its number, not before it, and at a time that has come in the run
pub record IsRightOf (account : Account) (cursors : List Cursor) (t : Answered) (next : List Cursor) : Type 0 where
  pub request : Asked
  pub taken : IsIn request account.asked
  pub own : request.id ≡ t.id
  pub link : request.link ≡ t.link
  pub number : request.number ≡ t.number
  pub same : request.request ≡ t.request
  pub came : request.came ≤ t.step
  pub risen : request.time ≤ t.time
  pub met : WasMet account t.time
  pub right : IsRight account cursors request t next

-- all replies, in order, starting with these cursors
pub data AreRight (account : Account) : List Cursor → List Answered → Type 0 where
  nothing_told : (cursors : List Cursor) → AreRight account cursors []
  then_told : (cursors next : List Cursor) (t : Answered) (later : List Answered) → IsRightOf account cursors t next → AreRight account next later
      → AreRight account cursors (t ∷ later)

-- a time returned in the life of the request's router, before it came, is not later than what the router knew when it took it
abbrev pub IsNotBefore : Asked → Answered → Type 0
IsNotBefore a t = (time : ℕ) → t.id.router ≡ a.id.router → t.id.life ≡ a.id.life → t.step < a.came → operation_time (Some t.document) ≡ Some time
    → time ≤ a.time

-- So neither what a request reads nor what it writes is older, since an entry is later.
abbrev pub IsFresh : List Answered → Asked → Type 0
IsFresh answered a = AllByRecursion (IsNotBefore a) answered

-- a request that came before in that life was taken at a time that is not later
abbrev pub IsInOrder : List Asked → Asked → Type 0
IsInOrder asked a = AllByRecursion (λ (b : Asked). b.id.router ≡ a.id.router → b.id.life ≡ a.id.life → b.came < a.came → b.time ≤ a.time) asked

-- what a router knew when it took a request: its last moment, and a time that has come in the run and is not before that
pub record IsKnown (account : Account) (a : Asked) : Type 0 where
  pub moment : a.moment ≡ last_given a.id.router a.came account.given
  pub time : WasMet account a.time
  pub reached : time_of_moment a.moment ≤ a.time

-- no request has the number of another
abbrev pub AreDifferent : List RequestId → Type 0
AreDifferent [] = Unit {0}
AreDifferent (id ∷ ids) = AllByRecursion (λ other. ¬ (other ≡ id)) ids × AreDifferent ids

abbrev pub ids_asked : List Asked → List RequestId
ids_asked asked = map (λ (a : Asked). a.id) asked

abbrev pub ids_told : List Answered → List RequestId
ids_told answered = map (λ (t : Answered). t.id) answered

-- the entry is on the shard that owned its key at its time, in a collection that was created before it
pub record IsPlaced (changes : List Change) (e : Entry) : Type 0 where
  pub creation : Creation
  pub key : Datum
  pub begun : IsIn (create_change creation) changes
  pub name : creation.namespace ≡ e.namespace
  pub before : creation.at < e.time
  pub writes : key_written e.operation ≡ Some key
  pub owner : owner e.namespace key e.time changes ≡ Some e.shard

-- the changes that were made before a step
abbrev pub changes_before : ℕ → List Dated → List Change
changes_before step [] = []
changes_before step (d ∷ dated) = if nat_lt d.step step then d.change ∷ changes_before step dated else changes_before step dated

-- in a step from one to another there was no collection of this name
pub record WasAbsent (dated : List Dated) (namespace : List ℕ) (came told : ℕ) : Type 0 where
  pub step : ℕ
  pub after : came ≤ step
  pub before : step ≤ told
  pub none : known_table namespace (changes_before step dated) ≡ None

-- the reply is to a request with this command
pub record IsReplyTo (asked : List Asked) (a : Asked) (command : Command) (t : Answered) : Type 0 where
  pub taken : IsIn a asked
  pub own : a.id ≡ t.id
  pub asks : command_of a.request ≡ Ok command

-- the changes that were made by the step of a reply
abbrev pub changes_by : List Dated → Answered → List Change
changes_by dated t = changes_before (t.step + 1) dated

-- a statement of the write was applied only in a collection that was created by the step of the reply
pub record IsCausedWrite (account : Account) (a : Asked) (t : Answered) (write : WriteCommand) : Type 0 where
  pub shown : Shows account a t write
  pub created : AnyDone shown.dones → WasCreated (changes_by account.dated t) write.namespace t.time

-- a request that was not taken is refused for a lack of its router in that step
pub record IsTurnedAway (account : Account) (x : TurnedAway) : Type 0 where
  pub missed : Missed
  pub had : IsIn missed account.missed
  pub own : missed.node ≡ x.router
  pub during : missed.step ≡ x.step
  pub same : x.document ≡ answer_document (refusal_answer (lack_refusal x.router missed.lack))

-- What a reply says of the catalogue was so by its step: the collection of a write was created if a statement was applied, or the one that is to be created,
-- and a chunk begins where one is to be split. Where it says that there is no collection to split, there was none in a step after the request came, and not
-- after the reply.
pub record IsCaused (account : Account) (t : Answered) : Type 0 where
  pub written : (a : Asked) (write : WriteCommand) → IsReplyTo account.asked a (write_command write) t → IsCausedWrite account a t write
  pub created : (a : Asked) (namespace : List ℕ) → IsReplyTo account.asked a (shard_collection_command namespace) t
      → t.document ≡ answer_document (sharded_answer namespace t.time) → WasCreated (changes_by account.dated t) namespace t.time
  pub begins : (a : Asked) (split : SplitCommand) → IsReplyTo account.asked a (split_command split) t → t.document ≡ answer_document (changed_answer t.time)
      → WasSplit (changes_by account.dated t) split.namespace split.middle t.time
  pub absent : (a : Asked) (split : SplitCommand) → IsReplyTo account.asked a (split_command split) t → t.document ≡ not_sharded
      → WasAbsent account.dated split.namespace a.came t.step

-- For all inputs: the entries are one legal history of an unsharded collection with each statement at most once; each belongs to a request that a router
-- took, is on the shard that owns its key and is later than what its router knew; no shard uses a number again, nor applies an older transaction; each
-- statement before a stored one was applied, where all requests that sent it are ordered; each change of the catalogue was made for a request, and follows
-- those before it; each request has at most one reply, a right one, and what this says of the catalogue was so by its step; a request that is not taken is
-- refused for a lack of its router; and what its router knew then is not before what it had returned and taken. Currently nothing is stored at the start.
pub record OneHistory (account : Account) : Type 0 where
  pub legal : Legal account.history
  pub sent : AllByRecursion (WasSent account) account.history
  pub numbers : AreNumbered account.history
  pub reached : AllByRecursion (IsReached account) account.history
  pub placed : AllByRecursion (IsPlaced account.changes) account.history
  pub parts : AllByRecursion (StandsInPart account.history) account.asked
  pub wanted : AllByRecursion (WasWanted account.asked) account.changes
  pub fitting : AreFitting account.changes
  pub steps : changes_in account.dated ≡ account.changes
  pub caused : AllByRecursion (IsCaused account) account.answered
  pub right : AreRight account [] account.answered
  pub away : AllByRecursion (IsTurnedAway account) account.away
  pub one : AreDifferent (ids_asked account.asked)
  pub once : AreDifferent (ids_told account.answered)
  pub fresh : AllByRecursion (IsFresh account.answered) account.asked
  pub order : AllByRecursion (IsInOrder account.asked) account.asked
  pub known : AllByRecursion (IsKnown account) account.asked
  pub anew : account.stored ≡ nothing_stored
