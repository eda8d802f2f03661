-- What right replies return, by what the requests are.
use Rattle.std.proofs.Common.{◌≡◌, ℕ, ℤ, ◌≤◌, ◌⊎◌, inl, inr, List, [], ◌∷◌, refl, sym, ap, subst, ◌∙◌, arith}
use Rattle.std.specs.Prelude.{Option, Some, None, Result, Ok, Err, codes}
use Rattle.std.specs.Option.{unwrap_or}
use Rattle.bson_model.specs.Tree.{Fields}
use Rattle.base_model.specs.Errors.{cursor_not_found}
use Rattle.base_model.specs.Refusals.{Refusal, cursor_evidence}
use Rattle.base_model.specs.ReplyParts.{operation_time}
use Rattle.command_model.specs.Writes.{WriteCommand, WriteKind}
use Rattle.command_model.specs.Reading.{Reading}
use Rattle.command_model.specs.Find.{Find}
use Rattle.command_model.specs.Cursors.{Batch}
use Rattle.command_model.specs.GetMore.{GetMore}
use Rattle.command_model.specs.KillCursors.{KillCursors}
use Rattle.command_model.specs.Split.{SplitCommand}
use Rattle.command_model.specs.AnswerParts.{document_items}
use Rattle.command_model.specs.Command.{Command, hello_command, legacy_command, ping_command, end_sessions_command, write_command, find_command, count_command, more_command, kill_command, shard_collection_command, split_command, command_of}
use Rattle.command_model.specs.Answers.{hello_answer, legacy_answer, done_answer, first_answer, next_answer, count_answer, killed_answer, sharded_answer, changed_answer, refusal_answer, answer_document}
use Rattle.command_model.proofs.AnswerTimes.{time_of_write}
use Rattle.pipeline_model.specs.Runs.{listed, count_documents}
use Rattle.pipeline_model.specs.Lengths.{excess_of_answer}
use Rattle.history_model.specs.History.{IsIn, Outcome}
use Rattle.history_model.proofs.Lists.{in_cons, in_none}
use Rattle.reply_model.specs.Exchanges.{Asked, Answered}
use Rattle.reply_model.specs.Accounts.{Account}
use Rattle.reply_model.specs.Outcomes.{Try, stale_refusal, StatementOutcome, was_done, was_refused, Done, AnyDone, later, summary_of, time_of, answer_of}
use Rattle.reply_model.specs.Cursors.{Cursor, open_cursor, ShowsFirst, ShowsNext, Kills}
use Rattle.reply_model.specs.Reads.{IsTimeRead, MayGive}
use Rattle.reply_model.specs.Right.{IsGivenUp, WereStale, AreTold, IsWhole, IsOneTask, usual_size, asks_for_one, unless_silent, Reads, find_reads, count_reads, IsReadRefused, WasCreated, WasSplit, not_sharded, IsRight, right_write, right_find, right_count, right_refused_read, right_stale, right_given_up, right_more, right_no_cursor, right_kill, right_shard, right_split, right_not_sharded, right_hello, right_legacy, right_ping, right_end_sessions, right_refusal}

-- BY THE COMMAND

-- what is right of a write
pub record TellsWrite (account : Account) (a : Asked) (t : Answered) (write : WriteCommand) : Type 0 where
  pub dones : List Done
  pub tells : AreTold account a t write 0 write.operations dones
  pub whole : write.number ≡ None → IsWhole account.history a.id write dones
  pub created : AnyDone dones → WasCreated account.changes write.namespace t.time
  pub says : t.document ≡ answer_document (answer_of write.kind t.time dones)

module _ (account : Account) (cursors : List Cursor) (a : Asked)
    (t : Answered) where
  pub record TellsFirst (find : Find) (next : List Cursor) : Type 0 where
    pub documents : List Fields
    pub batch : Batch
    pub time : IsTimeRead a t find.reading batch.time
    pub gives : MayGive account.history find.reading batch.time (listed documents)
    pub small : excess_of_answer documents ≡ None
    pub name : batch.namespace ≡ find.reading.namespace
    pub shows : ShowsFirst a.id (unwrap_or find.batches.size usual_size) (asks_for_one find.batches a.request) cursors documents batch next
    pub says : t.document ≡ answer_document (first_answer batch)

  pub record TellsCount (reading : Reading) : Type 0 where
    pub time : ℕ
    pub number : ℕ
    pub read : IsTimeRead a t reading time
    pub gives : MayGive account.history reading time (listed (count_documents (codes "n") number))
    pub says : t.document ≡ answer_document (count_answer number time)

  pub record TellsNext (more : GetMore) (next : List Cursor) : Type 0 where
    pub cursor : Cursor
    pub batch : Batch
    pub shown : List Cursor
    pub found : open_cursor a.id more.cursor more.namespace cursors ≡ Some cursor
    pub shows : ShowsNext a.id more.size cursors cursor batch shown
    pub then : next ≡ unless_silent a.request cursors shown
    pub says : t.document ≡ answer_document (next_answer batch)

  pub record TellsNoCursor (more : GetMore) : Type 0 where
    pub closed : open_cursor a.id more.cursor more.namespace cursors ≡ None
    pub says : t.document ≡ answer_document (refusal_answer (record { error = cursor_not_found; evidence = cursor_evidence more.cursor }))

  pub record TellsKilled (kill : KillCursors) (next : List Cursor) : Type 0 where
    pub killed : List ℤ
    pub missing : List ℤ
    pub kills : Kills a.id kill.namespace cursors kill.cursors killed missing next
    pub says : t.document ≡ answer_document (killed_answer killed missing)

  pub record TellsSharded (namespace : List ℕ) : Type 0 where
    pub created : WasCreated account.changes namespace t.time
    pub says : t.document ≡ answer_document (sharded_answer namespace t.time)

  pub record TellsSplit (split : SplitCommand) : Type 0 where
    pub begins : WasSplit account.changes split.namespace split.middle t.time
    pub says : t.document ≡ answer_document (changed_answer t.time)

  -- the work is given up
  pub record TellsGivenUp : Type 0 where
    pub refusal : Refusal
    pub why : IsGivenUp account a t refusal
    pub says : t.document ≡ answer_document (refusal_answer refusal)

  pub record TellsStale (reading : Reading) : Type 0 where
    pub tries : List Try
    pub were : WereStale account a reading.namespace tries
    pub says : t.document ≡ answer_document (refusal_answer (stale_refusal tries))

  -- why a read has no result
  pub data IsNotRead (reading : Reading) : Type 0 where
    not_read : IsReadRefused account a t reading → IsNotRead reading
    not_tried : TellsStale reading → IsNotRead reading
    not_finished : TellsGivenUp → IsNotRead reading

  -- what is right of a request that is read as this
  abbrev pub RightBy : Result Command Refusal → List Cursor → Type 0
  RightBy (Ok hello_command) next = (t.document ≡ answer_document (hello_answer a.moment)) × (next ≡ cursors)
  RightBy (Ok (legacy_command legacy)) next = (t.document ≡ answer_document (legacy_answer a.moment legacy.shows_hello_ok)) × (next ≡ cursors)
  RightBy (Ok ping_command) next = (t.document ≡ answer_document done_answer) × (next ≡ cursors)
  RightBy (Ok end_sessions_command) next = (t.document ≡ answer_document done_answer) × (next ≡ cursors)
  RightBy (Ok (write_command write)) next = TellsWrite account a t write × (next ≡ cursors)
  RightBy (Ok (find_command find)) next = TellsFirst find next ⊎ (IsNotRead find.reading × (next ≡ cursors))
  RightBy (Ok (count_command reading)) next = (TellsCount reading ⊎ IsNotRead reading) × (next ≡ cursors)
  RightBy (Ok (more_command more)) next = TellsNext more next ⊎ (TellsNoCursor more × (next ≡ cursors))
  RightBy (Ok (kill_command kill)) next = TellsKilled kill next
  RightBy (Ok (shard_collection_command namespace)) next = (TellsSharded namespace ⊎ TellsGivenUp) × (next ≡ cursors)
  RightBy (Ok (split_command split)) next = (TellsSplit split ⊎ ((t.document ≡ not_sharded) ⊎ TellsGivenUp)) × (next ≡ cursors)
  RightBy (Err refusal) next = (t.document ≡ answer_document (refusal_answer refusal)) × (next ≡ cursors)

  not_read_by : (r : Result Command Refusal) (reading : Reading) → Reads r reading → IsNotRead reading → RightBy r cursors
  not_read_by r reading (find_reads find) not = inr (not, refl)
  not_read_by r reading (count_reads other) not = (inr not, refl)

  given_up_by : (r : Result Command Refusal) → IsOneTask r → TellsGivenUp → RightBy r cursors
  given_up_by (Ok hello_command) task tells = absurd task
  given_up_by (Ok (legacy_command legacy)) task tells = absurd task
  given_up_by (Ok ping_command) task tells = absurd task
  given_up_by (Ok end_sessions_command) task tells = absurd task
  given_up_by (Ok (write_command write)) task tells = absurd task
  given_up_by (Ok (find_command find)) task tells = inr (not_finished tells, refl)
  given_up_by (Ok (count_command reading)) task tells = (inr (not_finished tells), refl)
  given_up_by (Ok (more_command more)) task tells = absurd task
  given_up_by (Ok (kill_command kill)) task tells = absurd task
  given_up_by (Ok (shard_collection_command namespace)) task tells = (inr tells, refl)
  given_up_by (Ok (split_command split)) task tells = (inr (inr tells), refl)
  given_up_by (Err refusal) task tells = absurd task

  -- a reply is right by what its request is
  pub right_by : (next : List Cursor) → IsRight account cursors a t next → RightBy (command_of a.request) next
  right_by next (right_write write dones wants tells whole created says) =
      subst (λ r. RightBy r cursors) (sym wants) (record { dones = dones; tells = tells; whole = whole; created = created; says = says }, refl)
  right_by next (right_find find time documents batch after wants read gives small name at shows says) =
      subst (λ r. RightBy r after) (sym wants)
      (inl (record {
        documents = documents;
        batch = batch;
        time = subst (λ n. IsTimeRead a t find.reading n) (sym at) read;
        gives = subst (λ n. MayGive account.history find.reading n (listed documents)) (sym at) gives;
        small = small;
        name = name;
        shows = shows;
        says = says;
      }))
  right_by next (right_count reading time n wants read gives says) =
      subst (λ r. RightBy r cursors) (sym wants) (inl (record { time = time; number = n; read = read; gives = gives; says = says }), refl)
  right_by next (right_refused_read reading wants refused) = not_read_by (command_of a.request) reading wants (not_read refused)
  right_by next (right_stale reading tries wants were says) =
      not_read_by (command_of a.request) reading wants (not_tried (record { tries = tries; were = were; says = says }))
  right_by next (right_given_up refusal task why says) = given_up_by (command_of a.request) task (record { refusal = refusal; why = why; says = says })
  right_by next (right_more more c batch shown wants found shows says) =
      subst (λ r. RightBy r (unless_silent a.request cursors shown)) (sym wants)
      (inl (record { cursor = c; batch = batch; shown = shown; found = found; shows = shows; then = refl; says = says }))
  right_by next (right_no_cursor more wants closed says) = subst (λ r. RightBy r cursors) (sym wants) (inr (record { closed = closed; says = says }, refl))
  right_by next (right_kill kill killed missing after wants kills says) =
      subst (λ r. RightBy r after) (sym wants) (record { killed = killed; missing = missing; kills = kills; says = says })
  right_by next (right_shard namespace wants created says) =
      subst (λ r. RightBy r cursors) (sym wants) (inl (record { created = created; says = says }), refl)
  right_by next (right_split split wants begins says) = subst (λ r. RightBy r cursors) (sym wants) (inl (record { begins = begins; says = says }), refl)
  right_by next (right_not_sharded split wants says) = subst (λ r. RightBy r cursors) (sym wants) (inr (inl says), refl)
  right_by next (right_hello wants says) = subst (λ r. RightBy r cursors) (sym wants) (says, refl)
  right_by next (right_legacy legacy wants says) = subst (λ r. RightBy r cursors) (sym wants) (says, refl)
  right_by next (right_ping wants says) = subst (λ r. RightBy r cursors) (sym wants) (says, refl)
  right_by next (right_end_sessions wants says) = subst (λ r. RightBy r cursors) (sym wants) (says, refl)
  right_by next (right_refusal refusal wants says) = subst (λ r. RightBy r cursors) (sym wants) (says, refl)

  pub right_of : (r : Result Command Refusal) (next : List Cursor) → command_of a.request ≡ r → IsRight account cursors a t next
      → RightBy r next
  right_of r next asks right = subst (λ s. RightBy s next) asks (right_by next right)

-- A WRITE

-- it shows the greatest time of what was done, or else its router's
pub write_time : (kind : WriteKind) (time : ℕ) (dones : List Done)
    → operation_time (Some (answer_document (answer_of kind time dones))) ≡ Some (unwrap_or (time_of dones) time)
write_time kind time dones = time_of_write kind (summary_of time dones)

-- the time is one, and this one is not later
abbrev IsReached : ℕ → Option ℕ → Type 0
IsReached before None = ⊥
IsReached before (Some time) = before ≤ time

reached_by : (d : Done) (dones : List Done) (before : ℕ) (outcome : Outcome) → d.answer ≡ was_done before outcome → IsReached before (time_of (d ∷ dones))
reached_by d dones before outcome is =
    subst (λ (answer : StatementOutcome). IsReached before (time_of (record { index = d.index; answer = answer } ∷ dones))) (sym is) (of_rest (time_of dones))
  where
    of_rest : (rest : Option ℕ) → before ≤ later before rest
    of_rest None = omega arith
    of_rest (Some other) = omega arith

reached_later : (d : Done) (dones : List Done) (before : ℕ) → IsReached before (time_of dones) → IsReached before (time_of (d ∷ dones))
reached_later d dones before reached = by_answer d.answer (time_of dones) reached
  where
    by_answer : (answer : StatementOutcome) (rest : Option ℕ) → IsReached before rest
        → IsReached before (elim answer as (λ (a : StatementOutcome). Option ℕ) [ was_done time outcome ↦ Some (later time rest) | was_refused refusal ↦ rest ])
    by_answer (was_done time outcome) None is = absurd is
    by_answer (was_done time outcome) (Some other) is = omega (arith, is)
    by_answer (was_refused refusal) rest is = is

reached_in : (dones : List Done) (d : Done) (before : ℕ) (outcome : Outcome) → IsIn d dones → d.answer ≡ was_done before outcome
    → IsReached before (time_of dones)
reached_in [] d before outcome i is = absurd (in_none d i)
reached_in (x ∷ dones) d before outcome i is = by_place (in_cons d x dones i) (λ j. reached_in dones d before outcome j is)
  where
    by_place : (d ≡ x) ⊎ IsIn d dones → (IsIn d dones → IsReached before (time_of dones)) → IsReached before (time_of (x ∷ dones))
    by_place (inl same) more = reached_by x dones before outcome (ap (λ (y : Done). y.answer) (sym same) ∙ is)
    by_place (inr j) more = reached_later x dones before (more j)

-- so the time that is shown is not before that of any statement that was done
pub most : (dones : List Done) (time : ℕ) (d : Done) (before : ℕ) (outcome : Outcome) → IsIn d dones → d.answer ≡ was_done before outcome
    → before ≤ unwrap_or (time_of dones) time
most dones time d before outcome i is = of_time (time_of dones) (reached_in dones d before outcome i is)
  where
    of_time : (shown : Option ℕ) → IsReached before shown → before ≤ unwrap_or shown time
    of_time None reached = absurd reached
    of_time (Some greatest) reached = reached

-- BATCHES

same_items : (documents others : List Fields) → document_items documents ≡ document_items others → documents ≡ others
same_items [] [] same = refl
same_items [] (other ∷ others) same = absurd (cc)
same_items (document ∷ documents) [] same = absurd (cc)
same_items (document ∷ documents) (other ∷ others) same =
    let first : document ≡ other = cc in
    let rest : document_items documents ≡ document_items others = cc in
    let more : documents ≡ others = same_items documents others rest in
    cc

same_parts : (a b : Batch) → a.cursor ≡ b.cursor → a.namespace ≡ b.namespace → document_items a.documents ≡ document_items b.documents → a.time ≡ b.time → a
    ≡ b
same_parts a b cursor namespace items time =
    let documents : a.documents ≡ b.documents = same_items a.documents b.documents items in
    λ i. record { cursor = cursor i; namespace = namespace i; documents = documents i; time = time i }

-- replies that are alike return one batch
pub same_first : (a b : Batch) → answer_document (first_answer a) ≡ answer_document (first_answer b) → a ≡ b
same_first a b same =
    let cursor : a.cursor ≡ b.cursor = cc in
    let namespace : a.namespace ≡ b.namespace = cc in
    let items : document_items a.documents ≡ document_items b.documents = cc in
    let time : a.time ≡ b.time = cc in
    same_parts a b cursor namespace items time

pub same_next : (a b : Batch) → answer_document (next_answer a) ≡ answer_document (next_answer b) → a ≡ b
same_next a b same =
    let cursor : a.cursor ≡ b.cursor = cc in
    let namespace : a.namespace ≡ b.namespace = cc in
    let items : document_items a.documents ≡ document_items b.documents = cc in
    let time : a.time ≡ b.time = cc in
    same_parts a b cursor namespace items time
