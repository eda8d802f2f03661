-- The replies of a router are right, and stay so.
use Rattle.std.proofs.Common.{◌≡◌, ◌≢◌, ◌⊎◌, inl, inr, ℕ, ◌+◌, ◌<◌, ◌≤◌, List, [], ◌∷◌, ◌++◌, refl, sym, ap, subst, ◌∙◌, arith, append_assoc, Bool}
use Rattle.std.specs.Prelude.{pos, Option, Some, None, Result, Ok, Err, true, false, is_some, length, int_lt, ◌&&◌, if◌then◌else◌}
use Rattle.std.specs.List.{AllByRecursion}
use Rattle.history_model.proofs.Lists.{all_weaken, all_at, in_push}
use Rattle.base_model.specs.Refusals.{Refusal, time_ahead}
use Rattle.command_model.specs.Writes.{ClientNumber, WriteCommand, WriteKind}
use Rattle.command_model.specs.Command.{Command, hello_command, legacy_command, ping_command, end_sessions_command, write_command, find_command, count_command, more_command, kill_command, shard_collection_command, split_command, command_of}
use Rattle.command_model.specs.Answers.{Answer, hello_answer, legacy_answer, refusal_answer, answer_document}
use Rattle.reply_model.specs.Cursors.{Cursor}
use Rattle.history_model.specs.History.{StatementNumber, Operation, Entry, IsIn}
use Rattle.base_model.specs.Identities.{RequestId}
use Rattle.reply_model.specs.Exchanges.{Asked, Answered, number_for, entries_by}
use Rattle.reply_model.specs.Outcomes.{StatementOutcome, WasRefused, is_too_old, Done, AnyDone, refusal_in, dones_from, answer_of}
use Rattle.reply_model.specs.Accounts.{Account}
use Rattle.command_model.proofs.Taken.{some_operations}
use Rattle.reply_model.specs.Right.{IsStatement, HadSent, MayBeTold, told_own, told_other, told_older, told_given_up, IsGivenUp, AreTold, IsPart, IsWhole, right_write, right_refused_read, refused_ahead, right_hello, right_legacy, right_ping, right_end_sessions, right_refusal}
use Rattle.reply_model.specs.OneHistory.{StandsInPart, IsPlaced, ids_asked, AreDifferent}
use Rattle.node_model.specs.Letters.{Statement, Reply}
use Rattle.node_model.specs.States.{Course, writing, Open, Router}
use Rattle.node_model.specs.RouterRequests.{statements_from, at_once, plan_of}
use Rattle.node_model.specs.RouterNext.{noted, is_answered, reply_to}
use Rattle.reply_facts.proofs.Requests.{number_same, one_asked, by_in}
use Rattle.reply_facts.proofs.Statements.{one_number, ordered_part, numbered_at, part_whole}
use Rattle.node_laws.proofs.Views.{Reach, reach_of, View, entries_in, changes_in, history_in, IsShardAt, account_in}
use Rattle.node_laws.proofs.ReadFacts.{IsAwaited}
use Rattle.node_laws.proofs.TimeFacts.{IsToldOf, IsPast}
use Rattle.node_laws.proofs.WriteFacts.{IsAnswerOf, by_entry, by_older, IsDoneAt, OnlyLast, WasMade}
use Rattle.node_laws.proofs.Outcomes.{IsOutcomeAt, AreOutcomes, AreNone, IsFront, no_dones, open_ends, open_outcomes, noted_long, noted_outcomes, noted_front, statements_long}
use Rattle.node_laws.proofs.Cuts.{made_for, told_as_far}
use Rattle.node_laws.proofs.CatalogueTables.{placed_first}
use Rattle.node_laws.proofs.Facts.{WasLacking, AreCut, HasBegun, IsDoneOf, WorkFits, AreSeen, IsOpenOf, AnswerFits, NeighboursFit}
use Rattle.node_laws.proofs.SeenStatements.{true_false}
use Rattle.node_laws.proofs.Histories.{entry_of_shard}
use Rattle.node_laws.proofs.Growth.{done_at_grows}
use Rattle.node_laws.proofs.Answers.{StaysRight}
use Rattle.node_laws.proofs.NotedOutcomes.{made_no_other}
use Rattle.node_laws.proofs.AnswerTimes.{ShowsBelow, refusal_below, hello_below, legacy_below, done_below}

-- the answer that a reply is, in a step
abbrev pub as_answered : ℕ → Reply → Answered
as_answered now x = record { id = x.id; link = x.link; number = x.number; request = x.request; step = now; time = x.time; document = x.document }

-- an open request gets a right reply
pub answer_fits : (v : View) (asked : List Asked) (answered told : List Answered) (r : Router) (time now : ℕ)
    (q : Open) (answer : Answer) (cursors next : List Cursor) (o : IsOpenOf v asked answered r q) → r.time ≤ time → o.request.came < now + 1
    → StaysRight v asked told cursors o.request (as_answered now (reply_to r time q answer)) next
    → AnswerFits v asked told cursors (as_answered now (reply_to r time q answer)) next
answer_fits v asked answered told r time now q answer cursors next o later came s = record {
  request = o.request;
  taken = o.taken;
  own = o.own;
  link = o.link;
  number = o.number;
  same = o.asks;
  came = omega arith;
  risen = (let p = o.past in omega arith);
  right = s.right;
  settled = s.settled;
}

-- A TIME THAT IS AHEAD

-- the shard that stores all entries returned its time, requested after the request came
pub ahead_right : (v : View) (asked : List Asked) (told : List Answered) (cursors : List Cursor) (a : Asked) (t : Answered) (id : RequestId)
    (at shard heard now : ℕ) (old : List Answered)
    → IsAwaited v a id at → IsPast v shard old a heard → ((e : Entry) → IsIn e (history_in v) → e.shard ≡ shard) → heard ≤ t.time → t.time < at → a.came < now + 1 → told ≡ old ++ t ∷ [] → t.step ≡ now
    → t.document ≡ answer_document (refusal_answer (time_ahead t.time)) → StaysRight v asked told cursors a t cursors
ahead_right v asked told cursors a t id at shard heard now old waits past all_of by_now ahead came all step document = record {
  right = right_refused_read waits.read waits.reads (refused_ahead (record {
    wanted = at;
    wants = waits.wanted;
    ahead = ahead;
    of_all = λ s write index e i before asks stands number shows nothing.
        by_place s write index e before stands (asks, number, shows, nothing) (in_push s old t (subst (λ l. IsIn s l) all i));
  }) document);
  settled = tt;
}
  where
    by_place : (s : Answered) (write : WriteCommand) (index : ℕ) (e : Entry) → s.step < a.came → IsIn e (history_in v) → IsToldOf s write index e
        → IsIn s old ⊎ (s ≡ t) → e.time < at
    by_place s write index e before stands shown (inl i) =
        let l = past s write index e i before stands (all_of e stands) shown in omega arith
    by_place s write index e before stands shown (inr same) =
        let now_too : s.step ≡ t.step = ap (λ (x : Answered). x.step) same in absurd (omega arith)

-- WRITES

pub same_write : (a b : WriteCommand) (command : Result Command Refusal) → command ≡ Ok (write_command a) → command ≡ Ok (write_command b) → a ≡ b
same_write a b command e f = cc

same_place : (xs : List Operation) (x : Operation) (ys us : List Operation) (u : Operation) (vs : List Operation) → xs ++ x ∷ ys ≡ us ++ u ∷ vs
    → length xs ≡ length us → x ≡ u
same_place [] x ys [] u vs e n = cc
same_place [] x ys (w ∷ us) u vs e n = absurd (cc)
same_place (z ∷ xs) x ys [] u vs e n = absurd (cc)
same_place (z ∷ xs) x ys (w ∷ us) u vs e n = same_place xs x ys us u vs (cc) (omega arith)

-- a request that was taken, with its write, and a reply to it after all that was taken
pub record IsTelling (v : View) (asked : List Asked) (a : Asked) (write : WriteCommand) (t : Answered) : Type 0 where
  pub around : NeighboursFit v asked
  pub taken : IsIn a asked
  pub asks : command_of a.request ≡ Ok (write_command write)
  pub own : a.id ≡ t.id
  pub came : AllByRecursion (λ (b : Asked). b.came ≤ t.step) asked

module _ (v : View) (asked : List Asked) (answered : List Answered) (a : Asked) (write : WriteCommand) (t : Answered) (x : IsTelling v asked a write t) where
  made : (e : Entry) → IsIn e (history_in v) → WasMade (history_in v) asked v.reached e
  made e i = all_at (WasMade (history_in v) asked v.reached) e (history_in v) x.around.sent i

  had : (e : Entry) → IsIn e (history_in v) → HadSent asked e t
  had e i =
      let m = made e i in
      record { request = m.request; taken = m.taken; sends = m.sends; came = all_at (λ (b : Asked). b.came ≤ t.step) m.request asked x.came m.taken }

  -- the entry under a router's own number is that of its statement
  own_statement : (e : Entry) (prefix : List Operation) (operation : Operation) (back : List Operation) → write.number ≡ None
      → write.operations ≡ prefix ++ operation ∷ back → IsIn e (history_in v) → e.number ≡ number_for write.number t.id (length prefix)
      → IsStatement (number_for write.number t.id (length prefix)) write.namespace operation e
  own_statement e prefix operation back none both i numbered =
      let m = made e i in
      let sent = m.sends.entry in
      let number : number_for None t.id (length prefix) ≡ number_for m.sends.write.number m.request.id m.sends.index =
      ap (λ g. number_for g t.id (length prefix)) (sym none) ∙ sym numbered ∙ sent.statement.same_number in
      let id : t.id ≡ m.request.id = number_same t.id m.request.id m.sends.write.number (length prefix) m.sends.index number in
      let one : m.request ≡ a = one_asked m.request a asked x.around.one m.taken x.taken (sym id ∙ sym x.own) in
      let is : m.sends.write ≡ write = same_write m.sends.write write (command_of a.request)
      (ap (λ (b : Asked). command_of b.request) (sym one) ∙ m.sends.asks) x.asks in
      let index : m.sends.index ≡ length prefix = sym (index_at m.sends.write.number m.request.id m.sends.index)
      ∙ ap (λ (n : StatementNumber). n.index) (sym number) in
      let does : sent.operation ≡ operation = same_place sent.prefix sent.operation sent.back prefix operation back
      (sym sent.both ∙ ap (λ (c : WriteCommand). c.operations) is ∙ both) (sent.at ∙ index) in
      record { same_number = numbered; name = sent.statement.name ∙ ap (λ (c : WriteCommand). c.namespace) is; does = sent.statement.does ∙ does }
    where
      index_at : (g : Option ClientNumber) (id : RequestId) (n : ℕ) → (number_for g id n).index ≡ n
      index_at None id n = refl
      index_at (Some by) id n = refl

  -- an outcome of an entry may be returned
  may_tell : (prefix : List Operation) (operation : Operation) (back : List Operation) (answer : StatementOutcome)
      → write.operations ≡ prefix ++ operation ∷ back
      → IsAnswerOf (history_in v) t.time (number_for write.number t.id (length prefix)) answer
      → MayBeTold (account_in v asked answered) a t write.number (number_for write.number t.id (length prefix)) write.namespace operation answer
  may_tell prefix operation back answer both is = by_number write.number refl answer is
    where
      of_own : (number : StatementNumber) → number ≡ number_for write.number t.id (length prefix) → write.number ≡ None → (answer : StatementOutcome)
          → IsAnswerOf (history_in v) t.time number answer
          → MayBeTold (account_in v asked answered) a t write.number (number_for write.number t.id (length prefix)) write.namespace operation answer
      of_own number same none _ (by_entry e i numbered past) = told_own e i (own_statement e prefix operation back none both i (numbered ∙ same)) past
      of_own number same none _ (by_older e i session less past) =
          let zero : number ≡ number_for None t.id (length prefix) = same ∙ ap (λ g. number_for g t.id (length prefix)) none in
          let first : number.transaction ≡ pos 0 = ap (λ (n : StatementNumber). n.transaction) zero in
          let other : e.number.transaction ≡ pos 0 = made_no_other (history_in v) asked v.reached e (made e i) t.id.router t.id.life t.id.count
          (session ∙ ap (λ (n : StatementNumber). n.session) zero) in
          absurd (true_false (sym less ∙ ap (λ n. int_lt n e.number.transaction) first ∙ ap (λ n. int_lt (pos 0) n) other))

      of_client : (by : ClientNumber) → write.number ≡ Some by → (answer : StatementOutcome)
          → IsAnswerOf (history_in v) t.time (number_for write.number t.id (length prefix)) answer
          → MayBeTold (account_in v asked answered) a t write.number (number_for write.number t.id (length prefix)) write.namespace operation answer
      of_client by some _ (by_entry e i numbered past) = told_other e by i some numbered past (had e i)
      of_client by some _ (by_older e i session less past) = told_older e by i some session less past (had e i)

      by_number : (given : Option ClientNumber) → write.number ≡ given → (answer : StatementOutcome)
          → IsAnswerOf (history_in v) t.time (number_for write.number t.id (length prefix)) answer
          → MayBeTold (account_in v asked answered) a t write.number (number_for write.number t.id (length prefix)) write.namespace operation answer
      by_number None none answer is = of_own (number_for write.number t.id (length prefix)) refl none answer is
      by_number (Some by) some answer is = of_client by some answer is

  -- outcomes of all statements, or up to the error that ends the command, where some were given up rightly
  are_told : (gave : Refusal → Type 0) → ((refusal : Refusal) → gave refusal → IsGivenUp (account_in v asked answered) a t refusal) → (prefix operations : List Operation) (answers : List (Option StatementOutcome)) → write.operations ≡ prefix ++ operations
      → length answers ≡ length operations → AreOutcomes gave (history_in v) t.time write t.id (length prefix) answers
      → (write.ordered ≡ true → IsFront answers) → is_answered write.ordered answers ≡ true
      → AreTold (account_in v asked answered) a t write (length prefix) operations (dones_from (length prefix) answers)
  are_told gave why prefix [] [] both long all front whole = refl
  are_told gave why prefix [] (x ∷ answers) both long all front whole = absurd (omega arith)
  are_told gave why prefix (operation ∷ operations) [] both long all front whole = absurd (omega arith)
  are_told gave why prefix (operation ∷ operations) (None ∷ answers) both long all front whole = absurd (cc)
  are_told gave why prefix (operation ∷ operations) (Some x ∷ answers) both long all front whole = (
    refl,
    by_outcome all.0,
    by_end write.ordered (is_some (refusal_in x)) refl refl whole front
        (λ front rest. subst (λ n. AreTold (account_in v asked answered) a t write n operations (dones_from n answers)) (length_push prefix)
        (are_told gave why (prefix ++ operation ∷ []) operations answers (both ∙ sym (append_assoc prefix (operation ∷ []) operations)) (omega arith)
        (subst (λ n. AreOutcomes gave (history_in v) t.time write t.id n answers) (sym (length_push prefix)) all.1) front rest)),
  )
    where
      by_outcome : IsOutcomeAt gave (history_in v) t.time write t.id (record { index = length prefix; answer = x })
          → MayBeTold (account_in v asked answered) a t write.number (number_for write.number t.id (length prefix)) write.namespace operation x
      by_outcome (inl done) = may_tell prefix operation operations x both done.answer
      by_outcome (inr given) = subst
          (λ (y : StatementOutcome).
          MayBeTold (account_in v asked answered) a t write.number (number_for write.number t.id (length prefix)) write.namespace operation y) (sym given.is)
          (told_given_up given.refusal (why given.refusal given.why))

      length_push : (xs : List Operation) → length (xs ++ operation ∷ []) ≡ length xs + 1
      length_push [] = refl
      length_push (y ∷ xs) = let n = length_push xs in omega (arith, n)

      by_end : (o b : Bool) → write.ordered ≡ o → is_some (refusal_in x) ≡ b → (if o && b then true else is_answered o answers) ≡ true
          → (o ≡ true → elim b as (λ z. Type 0) [ true ↦ AreNone answers | false ↦ IsFront answers ])
          → ((write.ordered ≡ true → IsFront answers) → is_answered write.ordered answers ≡ true
          → AreTold (account_in v asked answered) a t write (length prefix + 1) operations (dones_from (length prefix + 1) answers))
          → (elim (o && b) as (λ z. Type 0) [
            | true ↦ dones_from (length prefix + 1) answers ≡ []
            | false ↦ AreTold (account_in v asked answered) a t write (length prefix + 1) operations (dones_from (length prefix + 1) answers)
          ])
      by_end true true order ends whole front more = no_dones (length prefix + 1) answers (front refl)
      by_end true false order ends whole front more = more (λ e. front refl) (ap (λ b. is_answered b answers) order ∙ whole)
      by_end false b order ends whole front more =
          more (λ e. absurd (true_false (sym e ∙ order))) (ap (λ b. is_answered b answers) order ∙ whole)

-- what is noted of an open write
pub record NotedFits (gave : Refusal → Type 0) (v : View) (a : Asked) (time : ℕ) (namespace : List ℕ) (kind : WriteKind) (ordered : Bool) (statements : List Statement)
    (answers : List (Option StatementOutcome)) : Type 0 where
  pub write : WriteCommand
  pub asks : command_of a.request ≡ Ok (write_command write)
  pub is : kind ≡ write.kind
  pub name : namespace ≡ write.namespace
  pub order : ordered ≡ write.ordered
  pub all : statements ≡ statements_from write.number a.id 0 write.operations
  pub long : length answers ≡ length statements
  pub outcomes : AreOutcomes gave (history_in v) time write a.id 0 answers
  pub front : ordered ≡ true → IsFront answers
  pub begun : AnyDone (dones_from 0 answers) → HasBegun v time write.namespace
  pub cut : ordered ≡ true → AreCut v.reached a.id (dones_from 0 answers)

-- where none was given up, a refusal is only that the transaction is too old
cut_answers : (notes : List Reach) (own : RequestId) (history : List Entry) (time : ℕ) (write : WriteCommand) (id : RequestId) (index : ℕ)
    (answers : List (Option StatementOutcome)) → AreOutcomes (λ r. ⊥) history time write id index answers → AreCut notes own (dones_from index answers)
cut_answers notes own history time write id index [] all = tt
cut_answers notes own history time write id index (None ∷ answers) all = cut_answers notes own history time write id (index + 1) answers all
cut_answers notes own history time write id index (Some x ∷ answers) all =
    (by_outcome all.0, cut_answers notes own history time write id (index + 1) answers all.1)
  where
    of_answer : (number : StatementNumber) (answer : StatementOutcome) → IsAnswerOf history time number answer → WasRefused answer
        → is_too_old answer ≡ false → reach_of own notes ≤ index + 1
    of_answer number _ (by_entry e i numbered past) refused young = absurd refused
    of_answer number _ (by_older e i session less past) refused young = absurd (true_false young)

    by_outcome : IsOutcomeAt (λ r. ⊥) history time write id (record { index = index; answer = x }) → WasRefused x → is_too_old x ≡ false
        → reach_of own notes ≤ index + 1
    by_outcome (inl done) refused young = of_answer (number_for write.number id index) x done.answer refused young
    by_outcome (inr given) refused young = absurd given.why

pub noted_fits : (v : View) (asked : List Asked) (a : Asked) (sender early time : ℕ) (id : RequestId) (namespace : List ℕ)
    (kind : WriteKind) (ordered : Bool) (statements : List Statement) (c : Course) (dones : List Done)
    → AreDifferent (ids_asked asked) → IsIn a asked → a.id ≡ id → WorkFits a namespace (writing kind ordered statements c)
    → AreSeen v time a (writing kind ordered statements c) → early ≤ time → IsShardAt sender
    → IsDoneOf v asked sender early id dones → NotedFits (WasLacking v) v a time namespace kind ordered statements (noted ordered c.answers dones)
noted_fits v asked a sender early time id namespace kind ordered statements c dones different taken own
    (write, asks, is, name, order, all, course) seen le of_shard done =
    let one : done.request ≡ a = one_asked done.request a asked different done.taken taken (done.own ∙ sym own) in
    let same : done.write ≡ write = same_write done.write write (command_of a.request)
    (ap (λ (b : Asked). command_of b.request) (sym one) ∙ done.asks) asks in
    let each : AllByRecursion (IsDoneAt (entries_in v sender) early write a.id) dones =
    subst (λ i. AllByRecursion (IsDoneAt (entries_in v sender) early write i) dones) (sym own)
    (subst (λ x. AllByRecursion (IsDoneAt (entries_in v sender) early x id) dones) same done.each) in
    let last : OnlyLast write.ordered dones = subst (λ (x : WriteCommand). OnlyLast x.ordered dones) same done.last in
    let begun : HasBegun v early write.namespace = subst (λ (x : WriteCommand). HasBegun v early x.namespace) same done.begun in
    let before = begun.before in
    let later : AllByRecursion (IsDoneAt (history_in v) time write a.id) dones =
    all_weaken (IsDoneAt (entries_in v sender) early write a.id) (IsDoneAt (history_in v) time write a.id) dones
    (λ d x. done_at_grows (entries_in v sender) (history_in v) early time write a.id d (λ e i. entry_of_shard v sender e of_shard i) le x) each in
    record {
      write = write;
      asks = asks;
      is = is;
      name = name;
      order = order;
      all = all;
      long = noted_long ordered c.answers dones ∙ course.long;
      outcomes = noted_outcomes (WasLacking v) (history_in v) time write a.id ordered c.answers dones (seen write asks).0
          later;
      front = λ in_order.
          subst (λ b. IsFront (noted b c.answers dones)) (sym in_order)
          (noted_front c.answers dones (course.front in_order)
          (open_ends c.answers (course.front in_order) (subst (λ b. is_answered b c.answers ≡ false) in_order course.open_yet))
          (subst (λ b. OnlyLast b dones) (sym order ∙ in_order) last));
      cut = λ in_order. cut_answers v.reached a.id (history_in v) time write a.id 0 (noted ordered c.answers dones)
          (noted_outcomes (λ r. ⊥) (history_in v) time write a.id ordered c.answers dones
          (open_outcomes (WasLacking v) (history_in v) time write a.id 0 c.answers
          (open_ends c.answers (course.front in_order) (subst (λ b. is_answered b c.answers ≡ false) in_order course.open_yet)) (seen write asks).0) later);
      begun = λ any. record { creation = begun.creation; begun = begun.begun; name = begun.name; before = omega arith };
    }

-- a write has statements
some_told : (account : Account) (a : Asked) (t : Answered) (write : WriteCommand) (operations : List Operation) (dones : List Done) → operations ≢ []
    → AreTold account a t write 0 operations dones → dones ≢ []
some_told account a t write [] dones some told none = some refl
some_told account a t write (operation ∷ operations) [] some told none = told
some_told account a t write (operation ∷ operations) (d ∷ dones) some told none = cc

pub wrote_right : (gave : Refusal → Type 0) (v : View) (asked : List Asked) (old : List Answered) (cursors : List Cursor) (a : Asked) (t : Answered)
    (namespace : List ℕ) (kind : WriteKind) (ordered : Bool) (statements : List Statement) (answers : List (Option StatementOutcome))
    → ((refusal : Refusal) → gave refusal → IsGivenUp (account_in v asked old) a t refusal) → (n : NotedFits gave v a t.time namespace kind ordered statements answers)
    → IsTelling v asked a n.write t → is_answered ordered answers ≡ true
    → t.document ≡ answer_document (answer_of kind t.time (dones_from 0 answers)) → StaysRight v asked old cursors a t cursors
wrote_right gave v asked old cursors a t namespace kind ordered statements answers why n x whole document = record {
  right = right_write n.write (dones_from 0 answers) n.asks told
      (λ none. subst (λ (i : RequestId). IsWhole (history_in v) i n.write (dones_from 0 answers)) (sym x.own)
      (part_whole (account_in v asked old) a t n.write none one_entry (dones_from 0 answers) told
      (subst (λ (i : RequestId). IsPart (history_in v) i n.write) x.own
      (all_at (StandsInPart (history_in v)) a asked x.around.parts x.taken n.write n.asks none)) (λ in_order e i. reaches none in_order e i)))
      n.begun (document ∙ ap (λ k. answer_document (answer_of k t.time (dones_from 0 answers))) n.is);
  settled = (
    some_told (account_in v asked old) a t n.write n.write.operations (dones_from 0 answers) (some_operations a.request n.write n.asks) told,
    λ in_order. n.cut (n.order ∙ in_order),
  );
}
  where
    long : length answers ≡ length n.write.operations
    long = n.long ∙ ap (λ (l : List Statement). length l) n.all ∙ statements_long n.write.number a.id 0 n.write.operations

    told : AreTold (account_in v asked old) a t n.write 0 n.write.operations (dones_from 0 answers)
    told = are_told v asked old a n.write t x gave why [] n.write.operations answers refl long
        (subst (λ i. AreOutcomes gave (history_in v) t.time n.write i 0 answers) x.own n.outcomes) (λ e. n.front (n.order ∙ e))
        (ap (λ b. is_answered b answers) (sym n.order) ∙ whole)

    one_entry : (d e : Entry) → IsIn d (history_in v) → IsIn e (history_in v) → d.number ≡ e.number → d ≡ e
    one_entry = one_number (history_in v) x.around.numbers
        (λ e i. placed_first (changes_in v) x.around.begun.still e (all_at (IsPlaced (changes_in v)) e (history_in v) x.around.placed i))

    reaches : n.write.number ≡ None → n.write.ordered ≡ true → (e : Entry) → IsIn e (entries_by t.id (history_in v))
        → e.number.index < length (dones_from 0 answers)
    reaches none in_order e i =
        let by = by_in t.id (history_in v) e i in
        told_as_far (account_in v asked old) v.reached one_entry a t n.write (dones_from 0 answers) e x.own none in_order told (n.cut (n.order ∙ in_order))
        (made_for (history_in v) asked v.reached a n.write e e.number.index x.around.one x.taken n.asks none
        (numbered_at t.id n.write.namespace n.write.ordered 0 n.write.operations (entries_by t.id (history_in v)) e
        (ordered_part (history_in v) t.id n.write in_order
        (subst (λ (k : RequestId). IsPart (history_in v) k n.write) x.own
        (all_at (StandsInPart (history_in v)) a asked x.around.parts x.taken n.write n.asks none))) i
        ∙ ap (λ (k : RequestId). number_for None k e.number.index) (sym x.own)) (all_at (WasMade (history_in v) asked v.reached) e (history_in v) x.around.sent by.0))

-- AT ONCE

pub record IsPlain (v : View) (asked : List Asked) (told : List Answered) (cursors : List Cursor) (a : Asked) (t : Answered) (bound : ℕ)
    (answer : Answer) : Type 0 where
  pub right : StaysRight v asked told cursors a t cursors
  pub below : ShowsBelow bound answer

one_answer : (x y : Answer) → at_once x ≡ at_once y → x ≡ y
one_answer x y e = cc

pub plain_fits : (v : View) (asked : List Asked) (told : List Answered) (cursors : List Cursor) (a : Asked) (t : Answered) (r : Router) (id : RequestId)
    (silent : Bool)
    (bound : ℕ) (answer : Answer)
    (command : Result Command Refusal) → command_of a.request ≡ command
    → a.moment ≡ r.moment → plan_of r id silent command ≡ at_once answer → t.document ≡ answer_document answer → IsPlain v asked told cursors a t bound answer
plain_fits v asked told cursors a t r id silent bound answer (Err refusal) asks moment plan document =
    let same = one_answer (refusal_answer refusal) answer plan in
    record {
      right = record { right = right_refusal refusal asks (document ∙ ap answer_document (sym same)); settled = tt };
      below = subst (λ x. ShowsBelow bound x) same (refusal_below bound refusal);
    }
plain_fits v asked told cursors a t r id silent bound answer (Ok hello_command) asks moment plan document =
    let same = one_answer _ answer plan in
    record {
      right = record {
        right = right_hello asks (document ∙ ap answer_document (sym same) ∙ ap (λ m. answer_document (hello_answer m)) (sym moment));
        settled = tt;
      };
      below = subst (λ x. ShowsBelow bound x) same (hello_below bound r.moment);
    }
plain_fits v asked told cursors a t r id silent bound answer (Ok (legacy_command legacy)) asks moment plan document =
    let same = one_answer _ answer plan in
    record {
      right = record {
        right = right_legacy legacy asks (document ∙ ap answer_document (sym same) ∙ ap (λ m. answer_document (legacy_answer m legacy.shows_hello_ok))
            (sym moment));
        settled = tt;
      };
      below = subst (λ x. ShowsBelow bound x) same (legacy_below bound r.moment legacy.shows_hello_ok);
    }
plain_fits v asked told cursors a t r id silent bound answer (Ok ping_command) asks moment plan document =
    let same = one_answer _ answer plan in
    record {
      right = record { right = right_ping asks (document ∙ ap answer_document (sym same)); settled = tt };
      below = subst (λ x. ShowsBelow bound x) same (done_below bound);
    }
plain_fits v asked told cursors a t r id silent bound answer (Ok end_sessions_command) asks moment plan document =
    let same = one_answer _ answer plan in
    record {
      right = record { right = right_end_sessions asks (document ∙ ap answer_document (sym same)); settled = tt };
      below = subst (λ x. ShowsBelow bound x) same (done_below bound);
    }
plain_fits v asked told cursors a t r id silent bound answer (Ok (write_command write)) asks moment plan document = absurd (cc)
plain_fits v asked told cursors a t r id silent bound answer (Ok (find_command find)) asks moment plan document = absurd (cc)
plain_fits v asked told cursors a t r id silent bound answer (Ok (count_command read)) asks moment plan document = absurd (cc)
plain_fits v asked told cursors a t r id silent bound answer (Ok (more_command get)) asks moment plan document = absurd (cc)
plain_fits v asked told cursors a t r id silent bound answer (Ok (kill_command kill)) asks moment plan document = absurd (cc)
plain_fits v asked told cursors a t r id silent bound answer (Ok (shard_collection_command namespace)) asks moment plan document = absurd (cc)
plain_fits v asked told cursors a t r id silent bound answer (Ok (split_command split)) asks moment plan document = absurd (cc)
