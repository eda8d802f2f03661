-- Each transition of a router keeps the facts that stay.
use Rattle.std.proofs.Common.{◌≡◌, ℕ, List, [], ◌∷◌, ◌++◌, refl, sym, ap, subst, ◌∙◌}
use Rattle.std.specs.Prelude.{length, map, nat_lt, Bool, true, false, Option, Some, None, Result, Ok, Err, if◌then◌else◌}
use Rattle.std.specs.List.{AllByRecursion}
use Rattle.base_model.specs.Identities.{RequestId}
use Rattle.base_model.specs.Refusals.{Refusal}
use Rattle.bson_model.specs.Tree.{Datum}
use Rattle.chunk_model.specs.Tables.{Table, table_of}
use Rattle.command_model.specs.Answers.{Answer, sharded_answer, answer_document}
use Rattle.command_model.specs.Command.{Command, hello_command, legacy_command, ping_command, end_sessions_command, write_command, find_command, count_command, more_command, kill_command, shard_collection_command, split_command, command_of}
use Rattle.command_model.specs.Writes.{WriteCommand, WriteKind}
use Rattle.command_model.proofs.Taken.{middle_is_key}
use Rattle.history_model.proofs.Lists.{all_from, all_filter}
use Rattle.history_model.specs.History.{Entry, IsIn}
use Rattle.reply_model.specs.Requests.{Request}
use Rattle.pipeline_model.specs.Halves.{Half}
use Rattle.pipeline_model.specs.Split.{split}
use Rattle.pipeline_model.specs.Stages.{Stage}
use Rattle.reply_model.specs.Exchanges.{Asked}
use Rattle.reply_model.specs.Outcomes.{dones_from, answer_of}
use Rattle.node_model.specs.Letters.{At, Statement, time_ask, Letter, Reply}
use Rattle.node_model.specs.RouterRequests.{says, id_of, RequestPlan, at_once, needs, needs_batch, needs_end, plan_of, statements_from, has_index, turn_after, runs_by, with_runs, asks_to_write, asks_to_read, asks_catalogue, targets_at, shards_of, untold, asks_times}
use Rattle.node_model.specs.RouterNext.{reply_to, is_answered, left_of, awaited, Next, stays, empty_answer, is_for_catalogue, write_on, read_on, begins_work, next_of, asks_again, with_work}
use Rattle.node_model.specs.States.{Target, Run, Course, Telling, Work, writing, reading, sharding, splitting, Wait, for_time, for_catalogue, for_shards, Open, Router}
use Rattle.node_laws.proofs.RouterAnswers.{as_answered, same_write}
use Rattle.node_laws.proofs.Outcomes.{none_long, statements_long}
use Rattle.node_laws.proofs.NextCases.{more_of, work_after, asks_after, with_catalogue, by_write, by_read, by_next}
use Rattle.node_laws.proofs.NextRequests.{NextIs}
use Rattle.node_replay.specs.Acknowledged.{AreInTurn, are_all, IsOutcomeAt, IsStored}
use Rattle.node_replay.proofs.NextOnes.{OneNext, one_more}
use Rattle.node_replay.proofs.Noted.{IsPrefix, prefix_turns, full_turns, all_done, nothing_noted, nothing_before}
use Rattle.node_replay.proofs.StayFacts.{AreSent, LetterStays, IsNoWrite, WorkStays, OpenStays}

-- WHAT A COMMAND HAS TO DO

abbrev pub PlanStays : List Entry → RequestId → Request → RequestPlan → Type 0
PlanStays history id request (at_once answer) = IsNoWrite request
PlanStays history id request (needs namespace work) = WorkStays history id request namespace work
PlanStays history id request (needs_batch more) = IsNoWrite request
PlanStays history id request (needs_end kill) = IsNoWrite request

module _ (history : List Entry) (r : Router) (id : RequestId) (request : Request) (silent : Bool) where
  -- a read has no write to do, whatever its time
  plan_read_stays : IsNoWrite request → (namespace : List ℕ) (at : Option ℕ) (time : ℕ) (stages : List Stage) (telling : Telling)
      → WorkStays history id request namespace (elim at as (λ (o : Option ℕ). Work) [
        | None ↦ reading false time stages telling
        | Some named ↦ reading true named stages telling
      ])
  plan_read_stays plain namespace None time stages telling = plain
  plan_read_stays plain namespace (Some named) time stages telling = plain

  other_command : (c : Result Command Refusal) → command_of request ≡ c → ((write : WriteCommand) → c ≡ Ok (write_command write) → ⊥) → IsNoWrite request
  other_command c is none write asks = none write (sym is ∙ asks)

  pub plan_stays : (c : Result Command Refusal) → command_of request ≡ c → PlanStays history id request (plan_of r id silent c)
  plan_stays (Err refusal) is = other_command _ is (λ write e. cc)
  plan_stays (Ok hello_command) is = other_command _ is (λ write e. cc)
  plan_stays (Ok (legacy_command legacy)) is = other_command _ is (λ write e. cc)
  plan_stays (Ok ping_command) is = other_command _ is (λ write e. cc)
  plan_stays (Ok end_sessions_command) is = other_command _ is (λ write e. cc)
  plan_stays (Ok (write_command write)) is = (
    write,
    is,
    refl,
    refl,
    refl,
    nothing_noted (IsOutcomeAt history write id) 0 (statements_from write.number id 0 write.operations),
    refl,
    none_long (statements_from write.number id 0 write.operations),
    λ ordered. (nothing_before (statements_from write.number id 0 write.operations), tt),
  )
  plan_stays (Ok (find_command find)) is =
      plan_read_stays (other_command _ is (λ write e. cc)) find.reading.namespace find.reading.at _ find.reading.stages _
  plan_stays (Ok (count_command read)) is = plan_read_stays (other_command _ is (λ write e. cc)) read.namespace read.at _ read.stages _
  plan_stays (Ok (more_command more)) is = other_command _ is (λ write e. cc)
  plan_stays (Ok (kill_command kill)) is = other_command _ is (λ write e. cc)
  plan_stays (Ok (shard_collection_command namespace)) is = other_command _ is (λ write e. cc)
  plan_stays (Ok (split_command words)) is = is

-- the plan of a request that comes
pub planned : (history : List Entry) (r : Router) (id : RequestId) (request : Request) (silent : Bool) (p : RequestPlan)
    → plan_of r id silent (command_of request) ≡ p → PlanStays history id request p
planned history r id request silent p same = subst (λ x. PlanStays history id request x) same (plan_stays history r id request silent (command_of request) refl)

-- WHAT IT REQUESTS

-- a request that was taken, with what it has to do
pub record IsWorking (asked : List Asked) (history : List Entry) (id : RequestId) (namespace : List ℕ) (work : Work) : Type 0 where
  pub request : Asked
  pub taken : IsIn request asked
  pub own : request.id ≡ id
  pub does : WorkStays history id request.request namespace work

module _ (asked : List Asked) (history : List Entry) (r : Router) (time count : ℕ) (namespace : List ℕ) where
  abbrev Stay : List Letter → Type 0
  Stay letters = AllByRecursion (LetterStays asked history) letters

  -- of a write each statement is its own
  write_stays : (ordered : Bool) (statements : List Statement) (c : Course) (runs : List Run) → AreSent asked (id_of r count) namespace statements
      → Stay (asks_to_write r time (id_of r count) namespace ordered statements c runs)
  write_stays ordered statements c [] sent = tt
  write_stays ordered statements c (run ∷ runs) sent = (
    record {
      request = sent.request;
      write = sent.write;
      taken = sent.taken;
      own = sent.own;
      asks = sent.asks;
      name = sent.name;
      each = all_filter (λ x. IsIn x (statements_from sent.write.number (id_of r count) 0 sent.write.operations))
          (λ (x : Statement). has_index run.indices x.number.index) statements sent.each;
    },
    write_stays ordered statements c runs sent,
  )

  pub read_stays : (turn at : ℕ) (half : Half) (targets : List Target) → Stay (asks_to_read r time (id_of r count) namespace turn at half targets)
  read_stays turn at half [] = tt
  read_stays turn at half (t ∷ targets) = (tt, read_stays turn at half targets)

  -- its statements
  all_sent : (kind : WriteKind) (ordered : Bool) (statements : List Statement) (c : Course)
      → IsWorking asked history (id_of r count) namespace (writing kind ordered statements c)
      → AreSent asked (id_of r count) namespace statements
  all_sent kind ordered statements c w = record {
    request = w.request;
    write = w.does.0;
    taken = w.taken;
    own = w.own;
    asks = w.does.1;
    name = w.does.3;
    each = subst (λ l. AllByRecursion (λ x. IsIn x (statements_from w.does.0.number (id_of r count) 0 w.does.0.operations)) l) (sym w.does.4)
        (all_from (λ x. IsIn x (statements_from w.does.0.number (id_of r count) 0 w.does.0.operations))
        (statements_from w.does.0.number (id_of r count) 0 w.does.0.operations) (λ x i. i));
  }

  pub runs_stay : (kind : WriteKind) (ordered : Bool) (statements : List Statement) (c : Course) (runs : List Run)
      → IsWorking asked history (id_of r count) namespace (writing kind ordered statements c)
      → Stay (asks_to_write r time (id_of r count) namespace ordered statements c runs)
  runs_stay kind ordered statements c runs w = write_stays ordered statements c runs (all_sent kind ordered statements c w)

  pub catalogue_stays : (work : Work) → IsWorking asked history (id_of r count) namespace work
      → LetterStays asked history (asks_catalogue r time count namespace work)
  catalogue_stays (writing kind ordered statements answers) w = tt
  catalogue_stays (reading named at stages telling) w = tt
  catalogue_stays sharding w = tt
  catalogue_stays (splitting middle) w = middle_is_key w.request.request (record { namespace = namespace; middle = middle }) w.does

  -- nothing is known of the times of shards
  pub times_stay : (told : List ℕ) → Stay (asks_times r time (id_of r count) told)
  times_stay told = each_stays (untold told (shards_of r))
    where
      each_stays : (shards : List ℕ) → Stay (map (λ s. says r s time (time_ask (id_of r count))) shards)
      each_stays [] = tt
      each_stays (s ∷ shards) = (tt, each_stays shards)

-- OPEN REQUESTS

module _ (asked : List Asked) (history : List Entry) (now : ℕ) (r : Router) where
  abbrev pub IsOwn : Open → Type 0
  IsOwn q = OpenStays asked history r.me r.life q

  abbrev pub IsTold : Reply → Type 0
  IsTold x = IsStored history (as_answered now x)

  pub working : (q : Open) → IsOwn q → IsWorking asked history (id_of r q.count) q.namespace q.work
  working q o = record {
    request = o.request;
    taken = o.taken;
    own = o.own;
    does = subst (λ x. WorkStays history (id_of r q.count) x q.namespace q.work) (sym o.asks) o.work;
  }

  -- it proceeds with this work
  pub goes_on : (q : Open) (wait : Wait) (targets : List Target) (work : Work) → IsOwn q
      → WorkStays history (id_of r q.count) q.request q.namespace work
      → IsOwn (with_work q wait targets work)
  goes_on q wait targets work o does = record { request = o.request; taken = o.taken; own = o.own; asks = o.asks; work = does }

  -- a reply to no write
  pub plain_told : (q : Open) (time : ℕ) (answer : Answer) → IsNoWrite q.request → IsTold (reply_to r time q answer)
  plain_told q time answer plain write asks = absurd (plain write asks)

  pub split_no_write : (request : Request) (namespace : List ℕ) (middle : Datum)
      → command_of request ≡ Ok (split_command (record { namespace = namespace; middle = middle })) → IsNoWrite request
  split_no_write request namespace middle is write asks = absurd (other is asks)
    where
      other : command_of request ≡ Ok (split_command (record { namespace = namespace; middle = middle })) → command_of request ≡ Ok (write_command write) → ⊥
      other a b = cc

  -- what it waits for is requested again
  pub again_stays : (time : ℕ) (q : Open) → IsOwn q → AllByRecursion (LetterStays asked history) (asks_again r time q)
  again_stays time q o = by_work q.work refl
    where
      w : (work : Work) → q.work ≡ work → IsWorking asked history (id_of r q.count) q.namespace work
      w work is = subst (λ x. IsWorking asked history (id_of r q.count) q.namespace x) is (working q o)

      by_wait : (at : ℕ) (half : Half) (wait : Wait) → AllByRecursion (LetterStays asked history) (elim wait as (λ (x : Wait). List Letter) [
        | for_time ↦ asks_times r time (id_of r q.count) q.told
        | for_catalogue ↦ asks_catalogue r time q.count q.namespace q.work ∷ []
        | for_shards ↦ asks_to_read r time (id_of r q.count) q.namespace (turn_after q.tries) at half (awaited q.targets q.parts)
      ])
      by_wait at half for_time = times_stay asked history r time q.count q.namespace q.told
      by_wait at half for_catalogue = (catalogue_stays asked history r time q.count q.namespace q.work (working q o), tt)
      by_wait at half for_shards = read_stays asked history r time q.count q.namespace (turn_after q.tries) at half (awaited q.targets q.parts)

      by_both : (b : Bool) (letters : List Letter) → AllByRecursion (LetterStays asked history) letters
          → AllByRecursion (LetterStays asked history) (if b then asks_catalogue r time q.count q.namespace q.work ∷ letters else letters)
      by_both true letters all = (catalogue_stays asked history r time q.count q.namespace q.work (working q o), all)
      by_both false letters all = all

      by_work : (work : Work) → q.work ≡ work → AllByRecursion (LetterStays asked history) (elim work as (λ (x : Work). List Letter) [
        | writing kind ordered statements c ↦
            if is_for_catalogue q.wait then asks_catalogue r time q.count q.namespace q.work
            ∷ asks_to_write r time (id_of r q.count) q.namespace ordered statements c c.runs
            else asks_to_write r time (id_of r q.count) q.namespace ordered statements c c.runs
        | reading named at stages telling ↦ elim q.wait [
          | for_time ↦ asks_times r time (id_of r q.count) q.told
          | for_catalogue ↦ asks_catalogue r time q.count q.namespace q.work ∷ []
          | for_shards ↦ asks_to_read r time (id_of r q.count) q.namespace (turn_after q.tries) at (split stages).0 (awaited q.targets q.parts)
        ]
        | sharding ↦ asks_catalogue r time q.count q.namespace q.work ∷ []
        | splitting middle ↦ asks_catalogue r time q.count q.namespace q.work ∷ []
      ])
      by_work (writing kind ordered statements c) is =
          by_both (is_for_catalogue q.wait) (asks_to_write r time (id_of r q.count) q.namespace ordered statements c c.runs)
          (runs_stay asked history r time q.count q.namespace kind ordered statements c c.runs (w (writing kind ordered statements c) is))
      by_work (reading named at stages telling) is = by_wait at (split stages).0 q.wait
      by_work sharding is = (catalogue_stays asked history r time q.count q.namespace q.work (working q o), tt)
      by_work (splitting middle) is = (catalogue_stays asked history r time q.count q.namespace q.work (working q o), tt)

  -- the reply to a write has the outcomes that arrived
  wrote_told : (q : Open) (time : ℕ) (kind : WriteKind) (ordered : Bool) (statements : List Statement) (c : Course)
      → WorkStays history (id_of r q.count) q.request q.namespace (writing kind ordered statements c)
      → is_answered ordered c.answers ≡ true → IsTold (reply_to r time q (answer_of kind time (dones_from 0 c.answers)))
  wrote_told q time kind ordered statements c (own, is, same, name, all, each, order, long, turns) whole write asks =
      let one : own ≡ write = same_write own write (command_of q.request) is asks in
      let in_turn : AreInTurn 0 (dones_from 0 c.answers) = by_order ordered refl turns whole in
      let every : are_all own.ordered own.operations (dones_from 0 c.answers) ≡ true =
      all_done own.ordered 0 c.answers own.operations
      (long ∙ ap (λ (l : List Statement). length l) all ∙ statements_long own.number (id_of r q.count) 0 own.operations)
      (subst (λ o. is_answered o c.answers ≡ true) order whole) in
      record {
        dones = dones_from 0 c.answers;
        turns = in_turn;
        all = subst (λ (w : WriteCommand). are_all w.ordered w.operations (dones_from 0 c.answers) ≡ true) one every;
        document = ap (λ k. answer_document (answer_of k time (dones_from 0 c.answers))) (same ∙ ap (λ (w : WriteCommand). w.kind) one);
        stored = subst (λ w. AllByRecursion (IsOutcomeAt history w (id_of r q.count)) (dones_from 0 c.answers)) one each;
      }
    where
      by_order : (b : Bool) → ordered ≡ b → (ordered ≡ true → IsPrefix c.answers × OneNext statements c.answers c.runs) → is_answered ordered c.answers ≡ true
          → AreInTurn 0 (dones_from 0 c.answers)
      by_order true h turns whole = prefix_turns 0 c.answers (turns h).0
      by_order false h turns whole = full_turns 0 c.answers (subst (λ b. is_answered b c.answers ≡ true) h whole)

  -- WHAT BECOMES OF A REQUEST

  abbrev pub Becomes : Next → Type 0
  Becomes next = NextIs IsOwn (LetterStays asked history) IsTold next

  pub write_becomes : (time : ℕ) (tables : List Table) (asks : Bool) (again : List Run) (q : Open) (kind : WriteKind) (ordered : Bool)
      (statements : List Statement) (c : Course) → IsOwn q
      → WorkStays history (id_of r q.count) q.request q.namespace (writing kind ordered statements c)
      → Becomes (write_on r time tables asks again q kind ordered statements c)
  write_becomes time tables asks again q kind ordered statements c o (own, is, same, name, all, each, order, long, turns) =
      by_write Becomes r time tables q asks again kind ordered statements c
      (λ h. wrote_told q time kind ordered statements c (own, is, same, name, all, each, order, long, turns) h)
      (λ h none. (goes_on q for_shards [] After o does, letters))
      (λ h s left some. (goes_on q for_catalogue [] After o does, with_asks asks))
    where
      After : Work
      After = work_after tables q kind ordered statements c

      does : WorkStays history (id_of r q.count) q.request q.namespace (work_after tables q kind ordered statements c)
      does = (own, is, same, name, all, each, order, long, λ h. ((turns h).0, one h))
        where
          one : ordered ≡ true → OneNext statements c.answers (c.runs ++ more_of tables q ordered statements c)
          one h =
              subst (λ b. OneNext statements c.answers (c.runs ++ runs_by b (table_of q.namespace tables) statements c)) (sym h)
              (one_more (table_of q.namespace tables) statements c (turns h).1)

      w : IsWorking asked history (id_of r q.count) q.namespace (work_after tables q kind ordered statements c)
      w = record {
        request = o.request;
        taken = o.taken;
        own = o.own;
        does = subst (λ x. WorkStays history (id_of r q.count) x q.namespace (work_after tables q kind ordered statements c)) (sym o.asks) does;
      }

      letters : AllByRecursion (LetterStays asked history) (asks_after r time tables q ordered statements c again)
      letters = runs_stay asked history r time q.count q.namespace kind ordered statements (with_runs c (more_of tables q ordered statements c))
          (left_of c.answers again ++ more_of tables q ordered statements c) w

      with_asks : (b : Bool) → AllByRecursion (LetterStays asked history)
          (with_catalogue b (asks_catalogue r time q.count q.namespace (work_after tables q kind ordered statements c))
          (asks_after r time tables q ordered statements c again))
      with_asks true = (tt, letters)
      with_asks false = letters

  pub read_becomes : (time : ℕ) (tables : List Table) (asks : Bool) (q : Open) (named : Bool) (at : ℕ) (stages : List Stage) (telling : Telling) → IsOwn q
      → IsNoWrite q.request → Becomes (read_on r time tables asks q named at stages telling)
  read_becomes time tables asks q named at stages telling o plain =
      by_read Becomes r time tables q asks named at stages telling
      (λ none. (goes_on q for_catalogue [] (reading named at stages telling) o plain, with_asks asks))
      (λ t got. (
        goes_on q for_shards (targets_at t at stages) (reading named at stages telling) o plain,
        read_stays asked history r time q.count q.namespace (turn_after q.tries) at (split stages).0 (targets_at t at stages),
      ))
    where
      with_asks : (b : Bool) → AllByRecursion (LetterStays asked history)
          (with_catalogue b (asks_catalogue r time q.count q.namespace (reading named at stages telling)) [])
      with_asks true = (tt, tt)
      with_asks false = tt

  pub begins_becomes : (time : ℕ) (q : Open) (work : Work) → IsOwn q → WorkStays history (id_of r q.count) q.request q.namespace work
      → Becomes (begins_work r time q work)
  begins_becomes time q (writing kind ordered statements c) o does = write_becomes time r.tables true [] q kind ordered statements c o does
  begins_becomes time q (reading named at stages telling) o does = by_time (nat_lt time at)
    where
      by_time : (b : Bool) → Becomes
          (if b then stays (with_work q for_time [] (reading named at stages telling)) (asks_times r time (id_of r q.count) [])
          else read_on r time r.tables true q named at stages telling)
      by_time true = (goes_on q for_time [] (reading named at stages telling) o does, times_stay asked history r time q.count q.namespace [])
      by_time false = read_becomes time r.tables true q named at stages telling o does
  begins_becomes time q sharding o does = (goes_on q for_catalogue [] sharding o does, (tt, tt))
  begins_becomes time q (splitting middle) o does = (
    goes_on q for_catalogue [] (splitting middle) o does,
    (
      catalogue_stays asked history r time q.count q.namespace (splitting middle) (record {
        request = o.request;
        taken = o.taken;
        own = o.own;
        does = subst (λ x. WorkStays history (id_of r q.count) x q.namespace (splitting middle)) (sym o.asks) does;
      }),
      tt,
    ),
  )

  pub next_stays : (time : ℕ) (tables : List Table) (namespace : List ℕ) (made : Bool) (told : At) (q : Open) → IsOwn q
      → Becomes (next_of r time tables namespace made told q)
  next_stays time tables namespace made told q o =
      by_next Becomes r time tables q namespace made told (λ h. (o, tt)) (λ h. (
        (λ kind ordered statements c is. write_becomes time tables false [] q kind ordered statements c o (its (writing kind ordered statements c) is)),
        (λ named at stages telling is own. plain_told q time (empty_answer q at telling) (its (reading named at stages telling) is)),
        (λ named at stages telling is. read_becomes time tables false q named at stages telling o (its (reading named at stages telling) is)),
        (λ is e. plain_told q time (sharded_answer q.namespace time) (its sharding is)),
        (λ e. (o, tt)),
        λ middle is. (o, tt),
      ))
    where
      its : (work : Work) → q.work ≡ work → WorkStays history (id_of r q.count) q.request q.namespace work
      its work is = subst (λ x. WorkStays history (id_of r q.count) q.request q.namespace x) is o.work
