-- What follows where history, requests and answers are one history.
use Rattle.std.proofs.Common.{◌≡◌, ℕ, ◌<◌, ◌≤◌, ◌⊎◌, inl, inr, List, [], ◌∷◌, refl, sym, ap, subst, ◌∙◌, arith}
use Rattle.std.specs.Prelude.{Option, Some, None, Ok, true}
use Rattle.std.specs.Option.{unwrap_or}
use Rattle.std.specs.List.{AllByRecursion}
use Rattle.bson_model.specs.Tree.{Fields}
use Rattle.base_model.specs.Refusals.{time_ahead}
use Rattle.base_model.specs.ReplyParts.{operation_time}
use Rattle.command_model.specs.Writes.{ClientNumber, WriteCommand}
use Rattle.command_model.specs.Reading.{Reading}
use Rattle.command_model.specs.Command.{write_command, command_of}
use Rattle.command_model.specs.Answers.{refusal_answer, answer_document}
use Rattle.history_model.specs.History.{StatementNumber, Outcome, Entry, IsIn}
use Rattle.history_model.proofs.Lists.{all_at, in_cons, in_first, in_later, in_none}
use Rattle.base_model.specs.Identities.{RequestId}
use Rattle.reply_model.specs.Exchanges.{Asked, Answered, number_for, is_session_of, entries_by}
use Rattle.reply_model.specs.Accounts.{Account}
use Rattle.reply_model.specs.Outcomes.{StatementOutcome, was_done, was_refused, WasDone, Done, AnyDone, answer_by, later, time_of, answer_of}
use Rattle.reply_model.specs.Cursors.{Cursor}
use Rattle.reply_model.specs.Reads.{GivesUpNothing, IsTimeRead}
use Rattle.reply_model.specs.Right.{Sends, MayBeTold, AreTold, told_by, IsWhole, IsRight, Reads}
use Rattle.reply_model.specs.OneHistory.{WasSent, IsPlaced, IsRightOf, AreRight, nothing_told, then_told, IsNotBefore, IsFresh, IsInOrder, OneHistory}
use Rattle.reply_facts.specs.Earlier.{IsTold, WasToldBefore, WasTakenBefore}
use Rattle.reply_facts.proofs.Requests.{own_session, number_same, one_asked, by_in, entry_by}
use Rattle.reply_facts.proofs.RightAnswers.{TellsWrite, right_of, write_time, most}
use Rattle.reply_facts.proofs.Statements.{on_first, one_number, IsAnswerOf, answer_of_entry, told_in, ordered_part, all_told}
use Rattle.reply_facts.proofs.ReadTimes.{shown_time, not_before, not_before_after, ahead_time, is_ahead, wanted_is}

-- each of the answers is right, with some cursors before it and after it
pub record IsRightIn (account : Account)
    (t : Answered) : Type 0 where
  pub cursors : List Cursor
  pub next : List Cursor
  pub is : IsRightOf account cursors t next

pub right_in : (account : Account) (cursors : List Cursor)
    (told : List Answered)
    → AreRight account cursors told → (t : Answered) → IsIn t told → IsRightIn account t
right_in account cursors told (nothing_told c) t i = absurd (in_none t i)
right_in account cursors told (then_told c next s later right rest) t i =
    by_place (in_cons t s later i) (λ j. right_in account next later rest t j)
  where
    by_place : (t ≡ s) ⊎ IsIn t later → (IsIn t later → IsRightIn account t) → IsRightIn account t
    by_place (inl same) more = record {
      cursors = c;
      next = next;
      is = subst (λ (x : Answered). IsRightOf account c x next) (sym same) right;
    }
    by_place (inr j) more = more j

-- one request's answer, with the cursors around it
pub record IsRightFor (account : Account) (a : Asked)
    (t : Answered) : Type 0 where
  pub cursors : List Cursor
  pub next : List Cursor
  pub right : IsRight account cursors a t next
  pub risen : a.time ≤ t.time

module _ (account : Account)
    (one : OneHistory account) where
  -- REQUESTS AND THEIR ANSWERS

  right_told : (t : Answered) → IsIn t account.answered → IsRightIn account t
  right_told t i = right_in account [] account.answered one.right t i

  -- the reply to a request is right, and its router's time was not lower then
  pub answer_right : (a : Asked) (t : Answered) → IsTold account.asked account.answered a t → IsRightFor account a t
  answer_right a t told =
      let r = right_told t told.told in
      let same : r.is.request ≡ a = one_asked r.is.request a account.asked one.one r.is.taken told.taken (r.is.own ∙ sym told.own) in
      subst (λ (b : Asked). IsRightFor account b t) same
      (record { cursors = r.cursors; next = r.next; right = r.is.right; risen = r.is.risen })

  -- each reply belongs to a request
  pub record HasRequest (t : Answered) : Type 0 where
    pub request : Asked
    pub is : IsTold account.asked account.answered request t
    pub same : request.request ≡ t.request

  pub told_to : (t : Answered) → IsIn t account.answered → HasRequest t
  told_to t i = let r = (right_told t i).is in record { request = r.request; is = record { taken = r.taken; told = i; own = r.own }; same = r.same }

  pub tells_its_write : (a : Asked) (t : Answered) (write : WriteCommand) → IsTold account.asked account.answered a t
      → command_of a.request ≡ Ok (write_command write)
      → TellsWrite account a t write
  tells_its_write a t write told asks =
      let r = answer_right a t told in
      (right_of account r.cursors a t (Ok (write_command write)) r.next asks r.right).0

  -- the reply to a write
  pub record ToldWrite (t : Answered) (write : WriteCommand) : Type 0 where
    pub request : Asked
    pub is : IsTold account.asked account.answered request t
    pub tells : TellsWrite account request t write

  pub told_write : (t : Answered) (write : WriteCommand) → IsIn t account.answered → command_of t.request ≡ Ok (write_command write)
      → ToldWrite t write
  told_write t write i asks =
      let h = told_to t i in
      record { request = h.request; is = h.is; tells = tells_its_write h.request t write h.is (ap command_of h.same ∙ asks) }

  pub whole_told : (t : Answered) (write : WriteCommand) (told : ToldWrite t write) → write.number ≡ None
      → IsWhole account.history t.id write told.tells.dones
  whole_told t write told none =
      subst (λ (id : RequestId). IsWhole account.history id write told.tells.dones) told.is.own (told.tells.whole none)

  -- ENTRIES AND THEIR REQUESTS

  pub one_entry : (d e : Entry) → IsIn d account.history → IsIn e account.history → d.number ≡ e.number → d ≡ e
  one_entry d e i j same =
      one_number account.history one.numbers
      (λ x k. on_first account.asked account.changes one.wanted x (all_at (IsPlaced account.changes) x account.history one.placed k)) d e i j same

  -- without a client's number the reply to an ordered write whose statements were all applied has the outcomes of their entries
  pub tells_all : (t : Answered) (write : WriteCommand) (told : ToldWrite t write) → write.number ≡ None → write.ordered ≡ true
      → AllByRecursion (λ (d : Done). WasDone d.answer) told.tells.dones → told.tells.dones ≡ told_by t.id account.history
  tells_all t write told none ordered done =
      all_told account told.request t write none one_entry 0 write.operations told.tells.dones (entries_by t.id account.history) told.tells.tells
      (ordered_part account.history t.id write ordered (whole_told t write told none).part) (λ e j. (by_in t.id account.history e j).0)
      (λ e n j le numbered. entry_by t.id e account.history j (ap (λ (k : StatementNumber). is_session_of t.id k.session) numbered ∙ own_session t.id)) done

  -- the same statement of a session has the same entry
  pub told_again : (a b : Asked) (s t : Answered) (write again : WriteCommand) (by : ClientNumber) (first second : List Done) (d e : Done) (before now : ℕ)
      (outcome other : Outcome)
      → AreTold account a s write 0 write.operations first → AreTold account b t again 0 again.operations second → write.number ≡ Some by
      → again.number ≡ Some by → IsIn d first → IsIn e second → d.index ≡ e.index → d.answer ≡ was_done before outcome → e.answer ≡ was_done now other
      → (before ≡ now) × (outcome ≡ other)
  told_again a b s t write again by first second d e before now outcome other told also own own_again i j index is is_again =
      let f = entry_of a s write by first d before outcome told own i is in
      let g = entry_of b t again by second e now other also own_again j is_again in
      let same : f.entry ≡ g.entry = one_entry f.entry g.entry f.stands g.stands (f.numbered ∙ ap (λ n. number_for (Some by) s.id n) index ∙ sym g.numbered) in
      let answers : was_done before outcome ≡ was_done now other = f.says ∙ ap answer_by same ∙ sym g.says in
      (cc, cc)
    where
      entry_of : (a : Asked) (t : Answered) (write : WriteCommand) (by : ClientNumber) (dones : List Done) (d : Done) (before : ℕ) (outcome : Outcome)
          → AreTold account a t write 0 write.operations dones → write.number ≡ Some by → IsIn d dones → d.answer ≡ was_done before outcome
          → IsAnswerOf account.history (number_for (Some by) t.id d.index) (was_done before outcome)
      entry_of a t write by dones d before outcome told own i is =
          let so = told_in account a t write 0 write.operations dones d told i in
          subst (λ (answer : StatementOutcome). IsAnswerOf account.history (number_for (Some by) t.id d.index) answer) is
          (subst (λ (given : Option ClientNumber). IsAnswerOf account.history (number_for given t.id d.index) d.answer) own
          (answer_of_entry account a t write.number (number_for write.number t.id d.index) write.namespace so.operation d.answer so.may
          (subst (λ (answer : StatementOutcome). WasDone answer) (sym is) tt)))

  pub sent : (e : Entry) → IsIn e account.history → WasSent account e
  sent e i = all_at (WasSent account) e account.history one.sent i

  -- an entry under a router's own number is later than what it knew as it took the request
  above : (a : Asked) (e : Entry) (index : ℕ) → IsIn a account.asked → IsIn e account.history → e.number ≡ number_for None a.id index → a.time < e.time
  above a e index i j is =
      let s = sent e j in
      let same : s.request ≡ a = one_asked s.request a account.asked one.one s.taken i
      (sym (number_same a.id s.request.id s.sends.write.number index s.sends.index (sym is ∙ s.sends.entry.statement.same_number))) in
      subst (λ (b : Asked). b.time < e.time) same s.later

  -- WHAT CAME BEFORE

  pub told_before : (a : Asked) (t : Answered) (time : ℕ) → IsIn a account.asked → WasToldBefore account.answered a t
      → operation_time (Some t.document) ≡ Some time
      → time ≤ a.time
  told_before a t time i w shows = all_at (IsNotBefore a) t account.answered (all_at (IsFresh account.answered) a account.asked one.fresh i) w.told time
      w.router w.life w.before shows

  pub taken_before : (a b : Asked) → IsIn a account.asked → WasTakenBefore account.asked a b → b.time ≤ a.time
  taken_before a b i w = all_at (λ (c : Asked). c.id.router ≡ a.id.router → c.id.life ≡ a.id.life → c.came < a.came → c.time ≤ a.time) b account.asked
      (all_at (IsInOrder account.asked) a account.asked one.order i) w.taken w.router w.life w.before

  -- what an entry was made for, and what came before that
  pub comes_later : (e : Entry) → IsIn e account.history
      → (a : Asked) × IsIn a account.asked × Sends a e
      × ((t : Answered) (time : ℕ) → WasToldBefore account.answered a t → operation_time (Some t.document) ≡ Some time → time < e.time)
      × ((b : Asked) → WasTakenBefore account.asked a b → b.time < e.time)
  comes_later e i =
      let s = sent e i in (
        s.request,
        s.taken,
        s.sends,
        λ t time w shows. omega (arith, told_before s.request t time s.taken w shows, s.later),
        λ b w. omega (arith, taken_before s.request b s.taken w, s.later),
      )

  -- the time that an answer to a read shows
  pub read_at : (a : Asked) (t : Answered) (reading : Reading) (now : ℕ) → IsTold account.asked account.answered a t → Reads (command_of a.request) reading
      → operation_time (Some t.document) ≡ Some now → IsTimeRead a t reading now
  read_at a t reading now told asks shown =
      let r = answer_right a t told in
      shown_time account r.cursors a t r.next reading now asks r.right shown

  pub reads_at_least : (a : Asked) (s t : Answered) (reading : Reading) (before now : ℕ) → IsTold account.asked account.answered a t
      → WasToldBefore account.answered a s
      → Reads (command_of a.request) reading → reading.at ≡ None → operation_time (Some s.document) ≡ Some before
      → operation_time (Some t.document) ≡ Some now → before ≤ now
  reads_at_least a s t reading before now told w asks none shows shown =
      omega (arith, not_before a t reading now (read_at a t reading now told asks shown) none, told_before a s before told.taken w shows)

  pub reads_after : (a : Asked) (t : Answered) (reading : Reading) (after now : ℕ) → IsTold account.asked account.answered a t
      → Reads (command_of a.request) reading
      → reading.at ≡ None → reading.after ≡ Some after → operation_time (Some t.document) ≡ Some now → after ≤ now
  reads_after a t reading after now told asks none wants shown = not_before_after a t reading now after (read_at a t reading now told asks shown) none wants

  pub reaches : (a : Asked) (s t : Answered) (write : WriteCommand) (dones : List Done) (d : Done) (before time : ℕ) (outcome : Outcome) (reading : Reading)
      → IsTold account.asked account.answered a t → WasToldBefore account.answered a s → s.document ≡ answer_document (answer_of write.kind s.time dones)
      → IsIn d dones
      → d.answer ≡ was_done before outcome → Reads (command_of a.request) reading → reading.at ≡ None → operation_time (Some t.document) ≡ Some time
      → before ≤ time
  reaches a s t write dones d before time outcome reading told w says i is asks none shown =
      let shows : operation_time (Some s.document) ≡ Some (unwrap_or (time_of dones) s.time) = ap (λ (f : Fields). operation_time (Some f)) says
      ∙ write_time write.kind s.time dones in
      omega (
        arith,
        most dones s.time d before outcome i is,
        told_before a s (unwrap_or (time_of dones) s.time) told.taken w shows,
        not_before a t reading time (read_at a t reading time told asks shown) none,
      )

  pub greatest_at_least : (a : Asked) (s t : Answered) (before greatest : ℕ) → IsTold account.asked account.answered a t → WasToldBefore account.answered a s
      → operation_time (Some s.document) ≡ Some before → t.document ≡ answer_document (refusal_answer (time_ahead greatest)) → before ≤ greatest
  greatest_at_least a s t before greatest told w shows says =
      let r = answer_right a t told in
      omega (
        arith,
        ahead_time account r.cursors a t r.next greatest r.right says,
        r.risen,
        told_before a s before told.taken w shows,
      )

  -- WRITES THAT COME LATER

  any_done : (dones : List Done) → AnyDone dones → (d : Done) × IsIn d dones × WasDone d.answer
  any_done [] any = absurd any
  any_done (d ∷ dones) (inl done) = (d, in_first d dones, done)
  any_done (d ∷ dones) (inr any) = let found = any_done dones any in (found.0, in_later found.0 d dones found.1, found.2)

  -- a write of which a statement was applied returns a later time than its router had returned
  pub later_told : (a : Asked) (s t : Answered) (write : WriteCommand) (dones : List Done) (before now : ℕ) → IsTold account.asked account.answered a t
      → WasToldBefore account.answered a s → write.number ≡ None → AreTold account a t write 0 write.operations dones
      → t.document ≡ answer_document (answer_of write.kind t.time dones) → AnyDone dones → operation_time (Some s.document) ≡ Some before
      → operation_time (Some t.document) ≡ Some now → before < now
  later_told a s t write dones before now told w none tells says any shows shown =
      let first = any_done dones any in
      let so = told_in account a t write 0 write.operations dones first.0 tells first.1 in
      let may = subst (λ (given : Option ClientNumber). MayBeTold account a t given
      (number_for given t.id first.0.index) write.namespace so.operation first.0.answer) none so.may in
      let f = answer_of_entry account a t None (number_for None t.id first.0.index) write.namespace so.operation first.0.answer may first.2 in
      let times : Some now ≡ Some (unwrap_or (time_of dones) t.time) = sym shown ∙ ap (λ (d : Fields). operation_time (Some d)) says
      ∙ write_time write.kind t.time dones in
      let same : now ≡ unwrap_or (time_of dones) t.time = cc in
      omega (
        arith,
        same,
        most dones t.time first.0 f.entry.time f.entry.outcome first.1 f.says,
        above a f.entry first.0.index told.taken f.stands (f.numbered ∙ ap (λ (id : RequestId). number_for None id first.0.index) (sym told.own)),
        told_before a s before told.taken w shows,
      )

  done_at : (dones : List Done) (time : ℕ) → time_of dones ≡ Some time → AnyDone dones
  done_at [] time is = absurd (cc)
  done_at (d ∷ dones) time is = by_answer d.answer refl is (λ rest. done_at dones time rest)
    where
      by_answer : (x : StatementOutcome) → d.answer ≡ x
          → elim x as (λ (y : StatementOutcome). Option ℕ) [ was_done at outcome ↦ Some (later at (time_of dones)) | was_refused refusal ↦ time_of dones ] ≡ Some time
          → (time_of dones ≡ Some time → AnyDone dones) → AnyDone (d ∷ dones)
      by_answer (was_done at outcome) own is more = inl (subst (λ (y : StatementOutcome). WasDone y) (sym own) tt)
      by_answer (was_refused refusal) own is more = inr (more is)

  -- any write of which no client gave the number returns none that is earlier
  pub not_earlier : (a : Asked) (s t : Answered) (write : WriteCommand) (before now : ℕ) → IsTold account.asked account.answered a t
      → WasToldBefore account.answered a s → command_of a.request ≡ Ok (write_command write) → write.number ≡ None
      → operation_time (Some s.document) ≡ Some before → operation_time (Some t.document) ≡ Some now → before ≤ now
  not_earlier a s t write before now told w asks none shows shown =
      let tells = tells_its_write a t write told asks in
      let r = answer_right a t told in
      let times : Some now ≡ Some (unwrap_or (time_of tells.dones) t.time) = sym shown ∙ ap (λ (d : Fields). operation_time (Some d)) tells.says
      ∙ write_time write.kind t.time tells.dones in
      let same : now ≡ unwrap_or (time_of tells.dones) t.time = cc in
      by_time tells same r.risen (time_of tells.dones) refl
    where
      by_time : (tells : TellsWrite account a t write) → now ≡ unwrap_or (time_of tells.dones) t.time → a.time ≤ t.time
          → (o : Option ℕ) → time_of tells.dones ≡ o → before ≤ now
      by_time tells same risen None is =
          let time : unwrap_or (time_of tells.dones) t.time ≡ t.time = ap (λ (o : Option ℕ). unwrap_or o t.time) is in
          omega (arith, same, time, risen, told_before a s before told.taken w shows)
      by_time tells same risen (Some time) is =
          omega (arith, later_told a s t write tells.dones before now told w none tells.tells tells.says (done_at tells.dones time is) shows shown)

  -- TIMES THAT ARE AHEAD

  pub never_ahead_of_told : (a : Asked) (s t : Answered) (write : WriteCommand) (index : ℕ) (e : Entry) (reading : Reading) (greatest : ℕ)
      → IsTold account.asked account.answered a t
      → IsIn s account.answered → s.step < a.came → command_of s.request ≡ Ok (write_command write) → IsIn e account.history
      → e.number ≡ number_for write.number s.id index
      → operation_time (Some s.document) ≡ Some e.time → GivesUpNothing s write → Reads (command_of a.request) reading
      → (reading.at ≡ Some e.time) ⊎ ((reading.at ≡ None) × (reading.after ≡ Some e.time))
      → t.document ≡ answer_document (refusal_answer (time_ahead greatest)) → ⊥
  never_ahead_of_told a s t write index e reading greatest told i before writes j numbered shows nothing asks wants says =
      let r = answer_right a t told in
      let ahead = is_ahead account r.cursors a t r.next reading greatest asks r.right says in
      let same : ahead.wanted ≡ e.time = wanted_is reading ahead.wanted e.time ahead.wants wants in
      omega (arith, same, ahead.of_all s write index e i before writes j numbered shows nothing)
