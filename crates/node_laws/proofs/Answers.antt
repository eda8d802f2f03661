-- Replies that were returned stay right, whatever is written later.
use Rattle.std.proofs.Common.{◌≡◌, ◌≢◌, ◌⊎◌, inl, inr, ℕ, ◌+◌, ◌<◌, ◌≤◌, List, [], ◌∷◌, ◌++◌, refl, sym, ap, subst, ◌∙◌, arith, Bool}
use Rattle.std.specs.Prelude.{Option, Some, None, Result, Ok, true, false, int_lt, IsPermutation}
use Rattle.std.specs.List.{AllByRecursion}
use Rattle.std.specs.Option.{unwrap_or}
use Rattle.history_model.proofs.Lists.{all_weaken, all_at, in_first, in_later, in_prefix, in_append}
use Rattle.command_model.specs.Writes.{ClientNumber, WriteCommand}
use Rattle.base_model.specs.Refusals.{Refusal}
use Rattle.base_model.specs.ReplyParts.{operation_time}
use Rattle.command_model.specs.Command.{Command, write_command, command_of}
use Rattle.command_model.specs.Reading.{Reading}
use Rattle.command_model.specs.Answers.{answer_document}
use Rattle.reply_model.specs.Cursors.{Cursor}
use Rattle.chunk_model.specs.Tables.{first_shard}
use Rattle.history_model.specs.Documents.{documents_at}
use Rattle.pipeline_model.specs.Runs.{Outcome, Allows}
use Rattle.history_model.specs.History.{StatementNumber, Operation, Entry, IsIn}
use Rattle.base_model.specs.Identities.{RequestId}
use Rattle.reply_model.specs.Exchanges.{Asked, Answered, number_for, entries_by}
use Rattle.reply_facts.proofs.Requests.{by_in}
use Rattle.reply_facts.proofs.Statements.{one_number, ordered_part, numbered_at, part_whole}
use Rattle.reply_facts.proofs.Grown.{Grows as GrownAccount, created_still, stale_still, given_up_still, told_stays}
use Rattle.reply_facts.proofs.GivenUp.{IsNotGivenUp, none_given_up, stale_says, given_up_says}
use Rattle.reply_model.specs.Accounts.{Account}
use Rattle.reply_model.specs.Outcomes.{stale_refusal, gives_up, StatementOutcome, was_done, was_refused, WasRefused, is_too_old, Done, time_of, answer_of, later as greatest}
use Rattle.reply_model.specs.Reads.{GivesUpNothing, MayGive, IsExcess, excess_answer, excess_half, IsAhead, owned_by}
use Rattle.reply_model.specs.Right.{ends, MayBeTold, told_own, told_other, told_older, told_stale, told_given_up, AreTold, IsPart, IsWhole, Reads, find_reads, count_reads, IsOneTask, IsReadRefused, refused_overflow, refused_excess, refused_ahead, IsRight, right_write, right_find, right_count, right_refused_read, right_stale, right_given_up, right_more, right_no_cursor, right_kill, right_shard, right_split, right_not_sharded, right_hello, right_legacy, right_ping, right_end_sessions, right_refusal}
use Rattle.reply_model.specs.OneHistory.{StandsInPart, IsPlaced, KeepsNumbers}
use Rattle.node_laws.proofs.Views.{reach_of, View, changes_in, IsShardAt, history_in, IsWithin, IsBeyond, Later, account_in}
use Rattle.node_laws.proofs.TimeFacts.{IsToldOf}
use Rattle.node_laws.proofs.Facts.{AreCut, IsFixed, IsRefusalFixed, IsSettled, AnswersFit, no_answer, one_answer, NeighboursFit}
use Rattle.node_laws.proofs.CatalogueTables.{placed_first}
use Rattle.node_laws.proofs.KeptDocuments.{AreOwned, all_owned, owned_same}
use Rattle.node_laws.proofs.SeenStatements.{true_false}
use Rattle.node_laws.proofs.LongerJournals.{more_changes}
use Rattle.node_laws.proofs.WriteFacts.{WasMade}
use Rattle.node_laws.proofs.Cuts.{MadeFor, made_for, told_as_far}
use Rattle.node_laws.proofs.Histories.{history_extends, passed_of, passed_later, stored_passed, IsStoredOrNew, stored_or_new, history_stays}
use Rattle.node_laws.proofs.Growth.{begun_grows, begins_grows, began_grows, documents_stay}
use Rattle.node_laws.proofs.AnswerTimes.{IsBelow, AreBelow, greatest_below, time_shown}

pub some_none : {X : Type 0} {x : X} → Some x ≡ None → ⊥
some_none e = cc

-- REQUESTS THAT DO NOT WRITE

abbrev pub IsNoWrite : Result Command Refusal → Type 0
IsNoWrite command = (write : WriteCommand) → command ≢ Ok (write_command write)

reads_not : (command : Result Command Refusal) (read : Reading) → Reads command read → IsNoWrite command
reads_not _ _ (find_reads find) write e = cc
reads_not _ _ (count_reads read) write e = cc

task_not : (command : Result Command Refusal) → IsOneTask command → IsNoWrite command
task_not command task write e = subst (λ (c : Result Command Refusal). IsOneTask c) e task

other_command : (command other : Result Command Refusal) → command ≡ other → IsNoWrite other → IsNoWrite command
other_command command other same not write e = not write (sym same ∙ e)

-- WHAT GROWS

-- a later view, where more is requested and replied in a step
pub record Grows (v w : View) (asked more : List Asked) (answered news : List Answered) (now : ℕ) : Type 0 where
  pub later : Later v w
  pub before : NeighboursFit v asked
  pub after : NeighboursFit w (asked ++ more)
  pub came : AllByRecursion (λ (a : Asked). a.came < now + 1) asked
  pub steps : AllByRecursion (λ (t : Answered). t.step ≡ now) news
  -- of what was answered no more was sent
  pub cut : AllByRecursion (λ (t : Answered). reach_of t.id w.reached ≤ reach_of t.id v.reached) answered

-- TIMES THAT WERE RETURNED

may_below : (account : Account) (a : Asked) (t : Answered) (bound : ℕ) (given : Option ClientNumber) (number : StatementNumber)
    (namespace : List ℕ) (operation : Operation) (answer : StatementOutcome) → AllByRecursion (λ (e : Entry). e.time ≤ bound) account.history
    → MayBeTold account a t given number namespace operation answer → IsBelow bound answer
may_below account a t bound given number namespace operation _ past (told_own e i is at) = all_at (λ (d : Entry). d.time ≤ bound) e account.history past i
may_below account a t bound given number namespace operation _ past (told_other e by i some is at had) =
    all_at (λ (d : Entry). d.time ≤ bound) e account.history past i
may_below account a t bound given number namespace operation _ past (told_older e by i some is less at had) = tt
may_below account a t bound given number namespace operation _ past (told_stale tries were) = tt
may_below account a t bound given number namespace operation _ past (told_given_up refusal is) = tt

told_below : (account : Account) (a : Asked) (t : Answered) (bound : ℕ) (write : WriteCommand) (index : ℕ) (operations : List Operation)
    (dones : List Done) → AllByRecursion (λ (e : Entry). e.time ≤ bound) account.history → AreTold account a t write index operations dones → AreBelow bound dones
told_below account a t bound write index [] dones past told = subst (λ l. AreBelow bound l) (sym told) tt
told_below account a t bound write index (operation ∷ operations) [] past told = absurd told
told_below account a t bound write index (operation ∷ operations) (d ∷ dones) past told = (
  may_below account a t bound write.number (number_for write.number t.id index) write.namespace operation d.answer past told.1,
  by_end (ends write.ordered d) told.2 (λ rest. told_below account a t bound write (index + 1) operations dones past rest),
)
  where
    by_end : (b : Bool) → (elim b as (λ x. Type 0) [ true ↦ dones ≡ [] | false ↦ AreTold account a t write (index + 1) operations dones ])
        → (AreTold account a t write (index + 1) operations dones → AreBelow bound dones) → AreBelow bound dones
    by_end true none later = subst (λ l. AreBelow bound l) (sym none) tt
    by_end false rest later = later rest

-- the statements of a request are of one session and transaction
numbers_beside : (given : Option ClientNumber) (id : RequestId) (i j : ℕ)
    → ((number_for given id i).session ≡ (number_for given id j).session) × ((number_for given id i).transaction ≡ (number_for given id j).transaction)
numbers_beside None id i j = (refl, refl)
numbers_beside (Some by) id i j = (refl, refl)

-- replies that were returned have outcomes of entries that were stored then
abbrev pub IsClosed : View → View → Answered → Type 0
IsClosed v w s = (write : WriteCommand) (index : ℕ) (e : Entry) → IsIn e (history_in w) → IsToldOf s write index e
    → IsIn e (history_in v)

write_is : (a b : WriteCommand) (command : Result Command Refusal) → command ≡ Ok (write_command a) → command ≡ Ok (write_command b) → a ≡ b
write_is a b command e f = cc

module _ (v w : View) (asked more : List Asked) (answered : List Answered) (later : Later v w) (before : NeighboursFit v asked)
    (after : NeighboursFit w (asked ++ more)) where
  -- an entry that comes later is of no statement that was answered with an older one
  none_later : (a : Asked) (t : Answered) (write : WriteCommand) (index : ℕ) (operations : List Operation) (dones : List Done) (e : Entry) (j : ℕ)
      → AreTold (account_in v asked answered) a t write index operations dones → AllByRecursion IsNotGivenUp dones → dones ≢ [] → time_of dones ≡ None
      → IsIn e (history_in w) → ((x : Entry) → IsIn x (history_in v) → KeepsNumbers x e) → e.number ≡ number_for write.number t.id j → ⊥
  none_later a t write index [] dones e j told kept some none stands keeps number = some told
  none_later a t write index (operation ∷ operations) [] e j told kept some none stands keeps number = some refl
  none_later a t write index (operation ∷ operations) (d ∷ dones) e j told kept some none stands keeps number = by_answer d.answer told.1 kept.0 none
    where
      first : (x : Entry) → IsIn x (history_in w) → x.shard ≡ first_shard
      first x i = placed_first (changes_in w) after.begun.still x (all_at (IsPlaced (changes_in w)) x (history_in w) after.placed i)

      by_older : (x : Entry) → IsIn x (history_in v) → x.number.session ≡ (number_for write.number t.id index).session
          → int_lt (number_for write.number t.id index).transaction x.number.transaction ≡ true → ⊥
      by_older x i session less =
          let same = numbers_beside write.number t.id index j in
          let at : e.number.transaction ≡ (number_for write.number t.id index).transaction = ap (λ (n : StatementNumber). n.transaction) number ∙ sym same.1 in
          let of : x.number.session ≡ e.number.session = session ∙ same.0 ∙ sym (ap (λ (n : StatementNumber). n.session) number) in
          let not_less : int_lt e.number.transaction x.number.transaction ≡ false =
          (keeps x i).rises (first x (history_stays v w x later i) ∙ sym (first e stands)) of in
          true_false (sym less ∙ ap (λ n. int_lt n x.number.transaction) (sym at) ∙ not_less)

      by_answer : (answer : StatementOutcome)
          → MayBeTold (account_in v asked answered) a t write.number (number_for write.number t.id index) write.namespace operation answer
          → ((refusal : Refusal) → answer ≡ was_refused refusal → gives_up refusal.error ≡ false)
          → (elim answer as (λ (x : StatementOutcome). Option ℕ) [
            | was_done at outcome ↦ Some (greatest at (time_of dones))
            | was_refused refusal ↦ time_of
                dones
          ])
          ≡ None → ⊥
      by_answer _ (told_own x i is past) kept none = absurd (cc)
      by_answer _ (told_other x by i some is past had) kept none = absurd (cc)
      by_answer _ (told_older x by i some session less past had) kept none = by_older x i session less
      by_answer _ (told_stale tries were) kept none = true_false (sym (stale_says tries) ∙ kept (stale_refusal tries) refl)
      by_answer _ (told_given_up refusal is) kept none =
          true_false (sym (given_up_says (account_in v asked answered) a t refusal is) ∙ kept refusal refl)

  told_closed : (a : Asked) (t : Answered) (write : WriteCommand) (dones : List Done) → AreTold (account_in v asked answered) a t write 0 write.operations dones
      → dones ≢ [] → t.document ≡ answer_document (answer_of write.kind t.time dones) → command_of t.request ≡ Ok (write_command write) → IsClosed v w t
  told_closed a t write dones told some document asks other index e stands (same, number, shows, nothing) =
      by_place (stored_or_new v.bound (history_in v) (history_in w) e (history_extends v w later) after.numbers stands)
    where
      one : other ≡ write
      one = write_is other write (command_of t.request) same asks

      at : Some (unwrap_or (time_of dones) t.time) ≡ Some e.time
      at = sym (time_shown write.kind t.time dones) ∙ ap (λ d. operation_time (Some d)) (sym document) ∙ shows

      passed : AllByRecursion (λ (x : Entry). x.time ≤ v.bound e.shard) (history_in v)
      passed = all_weaken (IsWithin v.bound) (λ (x : Entry). x.time ≤ v.bound e.shard) (history_in v)
          (λ x within. passed_of v e.shard x.time of_shard (stored_passed v x within)) before.past
        where
          of_shard : IsShardAt e.shard
          of_shard = placed_first (changes_in w) after.begun.still e (all_at (IsPlaced (changes_in w)) e (history_in w) after.placed stands)

      by_time : (time : Option ℕ) → time_of dones ≡ time → Some (unwrap_or time t.time) ≡ Some e.time → IsBeyond v.bound e
          → ((x : Entry) → IsIn x (history_in v) → KeepsNumbers x e) → ⊥
      by_time None none shown new keeps =
          none_later a t write 0 write.operations dones e index told
          (none_given_up t write dones (subst (λ (x : WriteCommand). GivesUpNothing t x) one nothing) document) some none stands keeps
          (number ∙ ap (λ (x : WriteCommand). number_for x.number t.id index) one)
      by_time (Some time) is shown new keeps =
          let above : v.bound e.shard < e.time = new.1 in
          let below : time ≤ v.bound e.shard = greatest_below (v.bound e.shard) dones
          (told_below (account_in v asked answered) a t (v.bound e.shard) write 0 write.operations dones passed told) time is in
          let exact : time ≡ e.time = cc in
          omega arith

      by_place : IsStoredOrNew v.bound (history_in v) e → IsIn e (history_in v)
      by_place (inl i) = i
      by_place (inr (new, keeps)) = absurd (by_time (time_of dones) refl at new keeps)

  -- a reply to a request that does not write has no entry
  other_closed : (t : Answered) → IsNoWrite (command_of t.request) → IsClosed v w t
  other_closed t not write index e stands told = absurd (not write told.0)

  closed_right : (cursors next : List Cursor) (a : Asked) (t : Answered) → a.request ≡ t.request
      → (r : IsRight (account_in v asked answered) cursors a t next)
      → IsSettled v (account_in v asked answered) cursors a t next r → IsClosed v w t
  closed_right cursors _ a t same (right_stale read tries reads were told) settled =
      other_closed t (reads_not (command_of t.request) read (subst (λ q. Reads (command_of q) read) same reads))
  closed_right cursors _ a t same (right_given_up refusal task why told) settled =
      other_closed t (task_not (command_of t.request) (subst (λ q. IsOneTask (command_of q)) same task))
  closed_right cursors _ a t same (right_write write dones asks may whole created told) settled =
      told_closed a t write dones may settled.0 told (ap (λ q. command_of q) (sym same) ∙ asks)
  closed_right cursors _ a t same (right_find find time documents batch next asks of may small name when shows told) settled =
      other_closed t (other_command _ _ (ap (λ q. command_of q) (sym same) ∙ asks) (λ write e. cc))
  closed_right cursors _ a t same (right_count read time n asks of may told) settled =
      other_closed t (other_command _ _ (ap (λ q. command_of q) (sym same) ∙ asks) (λ write e. cc))
  closed_right cursors _ a t same (right_more get c batch next asks found shows told) settled =
      other_closed t (other_command _ _ (ap (λ q. command_of q) (sym same) ∙ asks) (λ write e. cc))
  closed_right cursors _ a t same (right_no_cursor get asks none told) settled =
      other_closed t (other_command _ _ (ap (λ q. command_of q) (sym same) ∙ asks) (λ write e. cc))
  closed_right cursors _ a t same (right_kill kill killed missing next asks closed told) settled =
      other_closed t (other_command _ _ (ap (λ q. command_of q) (sym same) ∙ asks) (λ write e. cc))
  closed_right cursors _ a t same (right_shard namespace asks created told) settled =
      other_closed t (other_command _ _ (ap (λ q. command_of q) (sym same) ∙ asks) (λ write e. cc))
  closed_right cursors _ a t same (right_split split asks begins told) settled =
      other_closed t (other_command _ _ (ap (λ q. command_of q) (sym same) ∙ asks) (λ write e. cc))
  closed_right cursors _ a t same (right_not_sharded split asks told) settled =
      other_closed t (other_command _ _ (ap (λ q. command_of q) (sym same) ∙ asks) (λ write e. cc))
  closed_right cursors _ a t same (right_hello asks told) settled =
      other_closed t (other_command _ _ (ap (λ q. command_of q) (sym same) ∙ asks) (λ write e. cc))
  closed_right cursors _ a t same (right_legacy legacy asks told) settled =
      other_closed t (other_command _ _ (ap (λ q. command_of q) (sym same) ∙ asks) (λ write e. cc))
  closed_right cursors _ a t same (right_ping asks told) settled =
      other_closed t (other_command _ _ (ap (λ q. command_of q) (sym same) ∙ asks) (λ write e. cc))
  closed_right cursors _ a t same (right_end_sessions asks told) settled =
      other_closed t (other_command _ _ (ap (λ q. command_of q) (sym same) ∙ asks) (λ write e. cc))
  closed_right cursors _ a t same (right_refusal refusal asks told) settled =
      other_closed t (other_command _ _ (ap (λ q. command_of q) (sym same) ∙ asks) (λ write e. cc))
  closed_right cursors _ a t same (right_refused_read read reads refused) settled =
      other_closed t (reads_not (command_of t.request) read (subst (λ q. Reads (command_of q) read) same reads))

  pub all_closed : (cursors last : List Cursor) (told : List Answered) → AnswersFit v asked answered cursors told last
      → AllByRecursion (IsClosed v w) told
  all_closed _ _ _ (no_answer cursors) = tt
  all_closed _ _ _ (one_answer cursors next last t rest f others) =
      (closed_right cursors next f.request t f.same f.right f.settled, all_closed next last rest others)

-- REPLIES TO READS

give_stays : (v w : View) (read : Reading) (time : ℕ) (out : Outcome) → Later v w → IsFixed v read time
    → AllByRecursion (IsPlaced (changes_in w)) (history_in w)
    → MayGive (history_in v) read time out → MayGive (history_in w) read time out
give_stays v w read time out later fixed placed may =
    subst (λ l. Allows read.stages l out) (sym (documents_stay v w read.namespace time later fixed placed)) may

fixed_grows : (v w : View) (read : Reading) (time : ℕ) → Later v w → IsFixed v read time → IsFixed w read time
fixed_grows v w read time later (inl h) = inl (passed_later v w time later h)
fixed_grows v w read time later (inr h) = inr (began_grows v w read.namespace time later h)

excess_stays : (v w : View) (asked more : List Asked) (answered news : List Answered) (read : Reading) (time n : ℕ) → Later v w → NeighboursFit v asked
    → NeighboursFit w (asked ++ more)
    → IsFixed v read time
    → IsExcess (account_in v asked answered) read time n → IsExcess (account_in w (asked ++ more) (answered ++ news)) read time n
excess_stays v w asked more answered news read time n later before after fixed (excess_answer answer may much) =
    excess_answer answer (give_stays v w read time _ later fixed after.placed may) much
excess_stays v w asked more answered news read time n later before after fixed (excess_half shard ordered rows permutes makes much) =
    let same = documents_stay v w read.namespace time later fixed after.placed in
    let old = all_owned (changes_in v) (history_in v) read.namespace shard time before.begun.still before.placed in
    let new = all_owned (changes_in w) (history_in w) read.namespace shard time after.begun.still after.placed in
    let owned : owned_by (changes_in w) read.namespace shard time (documents_at (history_in w) read.namespace time)
    ≡ owned_by (changes_in v) read.namespace shard time (documents_at (history_in v) read.namespace time) =
    ap (λ l. owned_by (changes_in w) read.namespace shard time l) same
    ∙ owned_same (changes_in v) (changes_in w) read.namespace shard time (documents_at (history_in v) read.namespace time) old
    (subst (λ l. AreOwned (changes_in w) read.namespace shard time l) same new) in
    excess_half shard ordered rows (subst (λ l. IsPermutation l ordered) (sym owned) permutes) makes much

-- ALL ANSWERS

-- an answer, with that its read stays
pub record StaysRight (w : View) (asked : List Asked) (answered : List Answered) (cursors : List Cursor) (a : Asked) (t : Answered)
    (next : List Cursor) : Type 0 where
  pub right : IsRight (account_in w asked answered) cursors a t next
  pub settled : IsSettled w (account_in w asked answered) cursors a t next right

module _ (v w : View) (asked more : List Asked) (answered news : List Answered) (now : ℕ) (g : Grows v w asked more answered news now)
    (closed : AllByRecursion (IsClosed v w) answered) where
  abbrev After : List Cursor → Asked → Answered → List Cursor → Type 0
  After cursors a t next = StaysRight w (asked ++ more) (answered ++ news) cursors a t next

  ahead_stays : (a : Asked) (t : Answered) (read : Reading) → a.came < now + 1 → IsAhead (account_in v asked answered) a t read
      → IsAhead (account_in w (asked ++ more) (answered ++ news)) a t read
  ahead_stays a t read came h = record {
    wanted = h.wanted;
    wants = h.wants;
    ahead = h.ahead;
    of_all = λ s write index e i before asks stands number shows nothing.
        by_place s write index e before stands (asks, number, shows, nothing) (in_append s answered news i);
  }
    where
      by_place : (s : Answered) (write : WriteCommand) (index : ℕ) (e : Entry) → s.step < a.came → IsIn e (history_in w) → IsToldOf s write index e
          → IsIn s answered ⊎ IsIn s news → e.time < h.wanted
      by_place s write index e before stands told (inl i) =
          h.of_all s write index e i before told.0 (all_at (IsClosed v w) s answered closed i write index e stands told) told.1 told.2 told.3
      by_place s write index e before stands told (inr i) =
          let at : s.step ≡ now = all_at (λ (x : Answered). x.step ≡ now) s news g.steps i in absurd (omega arith)

  refused_stays : (a : Asked) (t : Answered) (read : Reading) (cursors : List Cursor) → a.came < now + 1 → Reads (command_of a.request) read
      → (r : IsReadRefused (account_in v asked answered) a t read)
      → IsRefusalFixed v (account_in v asked answered) a t read r → After cursors a t cursors
  refused_stays a t read cursors came reads (refused_overflow time of may told) fixed = record {
    right = right_refused_read read reads (refused_overflow time of (give_stays v w read time _ g.later fixed g.after.placed may) told);
    settled = fixed_grows v w read time g.later fixed;
  }
  refused_stays a t read cursors came reads (refused_excess time n of much told) fixed = record {
    right = right_refused_read read reads (refused_excess time n of (excess_stays v w asked more answered news read time n g.later g.before g.after fixed
        much) told);
    settled = fixed_grows v w read time g.later fixed;
  }
  refused_stays a t read cursors came reads (refused_ahead ahead told) fixed =
      record { right = right_refused_read read reads (refused_ahead (ahead_stays a t read came ahead) told); settled = tt }

  one_entry : (d e : Entry) → IsIn d (history_in w) → IsIn e (history_in w) → d.number ≡ e.number → d ≡ e
  one_entry d e i j same =
      one_number (history_in w) g.after.numbers
      (λ x k. placed_first (changes_in w) g.after.begun.still x (all_at (IsPlaced (changes_in w)) x (history_in w) g.after.placed k)) d e i j same

  grown : (a : Asked) → GrownAccount (account_in v asked answered) (account_in w (asked ++ more) (answered ++ news)) a
  grown a =
      let m = more_changes v w g.later in
      record {
        stays = λ e i. history_stays v w e g.later i;
        taken = λ b i. in_prefix b asked more i;
        given = λ x i. subst (λ l. IsIn x l) (sym g.later.given.same) (in_prefix x v.given g.later.given.news i);
        missed = λ x i. subst (λ l. IsIn x l) (sym g.later.missed.same) (in_prefix x v.missed g.later.missed.news i);
        learned = λ x i before. i;
        more = m.more;
        changes = m.same;
      }

  cut_stays : (a : Asked) (t : Answered) (dones : List Done) → IsIn t answered → a.id ≡ t.id → AreCut v.reached a.id dones → AreCut w.reached a.id dones
  cut_stays a t dones i own cut =
      let same : reach_of a.id w.reached ≤ reach_of a.id v.reached =
      subst (λ id. reach_of id w.reached ≤ reach_of id v.reached) (sym own)
      (all_at (λ (x : Answered). reach_of x.id w.reached ≤ reach_of x.id v.reached) t answered g.cut i) in
      all_weaken (λ (d : Done). WasRefused d.answer → is_too_old d.answer ≡ false → reach_of a.id v.reached ≤ d.index + 1)
      (λ (d : Done). WasRefused d.answer → is_too_old d.answer ≡ false → reach_of a.id w.reached ≤ d.index + 1) dones
      (λ d h refused young. let least = h refused young in omega (arith, same, least)) cut

  right_stays : (cursors next : List Cursor) (a : Asked) (t : Answered) → IsIn a asked → IsIn t answered → a.id ≡ t.id
      → (r : IsRight (account_in v asked answered) cursors a t next)
      → IsSettled v (account_in v asked answered) cursors a t next r → After cursors a t next
  right_stays cursors _ a t taken there own (right_write write dones asks may whole created told) settled =
      let new : Account = account_in w (asked ++ more) (answered ++ news) in
      let still : AreTold new a t write 0 write.operations dones =
      told_stays (account_in v asked answered) new a t (grown a) write 0 write.operations dones may in
      let cut : write.ordered ≡ true → AreCut w.reached a.id dones = λ ordered. cut_stays a t dones there own (settled.1 ordered) in
      record {
        right = right_write write dones asks still
            (λ none. subst (λ (i : RequestId). IsWhole (history_in w) i write dones) (sym own)
            (part_whole new a t write none one_entry dones still
            (subst (λ (i : RequestId). IsPart (history_in w) i write) own
            (all_at (StandsInPart (history_in w)) a (asked ++ more) g.after.parts (in_prefix a asked more taken) write asks none))
            (λ ordered e i. told_as_far new w.reached one_entry a t write dones e own none ordered still (cut ordered)
            (own_made a t write e (in_prefix a asked more taken) own asks none ordered i))))
            (λ any. created_still (account_in v asked answered) new a t (grown a) write.namespace t.time (created any)) told;
        settled = (settled.0, cut);
      }
    where
      own_made : (a : Asked) (t : Answered) (write : WriteCommand) (e : Entry) → IsIn a (asked ++ more) → a.id ≡ t.id
          → command_of a.request ≡ Ok (write_command write) → write.number ≡ None → write.ordered ≡ true → IsIn e (entries_by t.id (history_in w))
          → MadeFor w.reached (history_in w) a write e
      own_made a t write e taken own asks none ordered i =
          let part : IsPart (history_in w) t.id write = subst (λ (i : RequestId). IsPart (history_in w) i write) own
          (all_at (StandsInPart (history_in w)) a (asked ++ more) g.after.parts taken write asks none) in
          made_for (history_in w) (asked ++ more) w.reached a write e e.number.index g.after.one taken asks none
          (numbered_at t.id write.namespace write.ordered 0 write.operations (entries_by t.id (history_in w)) e
          (ordered_part (history_in w) t.id write ordered part) i ∙ ap (λ (id : RequestId). number_for None id e.number.index) (sym own))
          (all_at (WasMade (history_in w) (asked ++ more) w.reached) e (history_in w) g.after.sent (by_in t.id (history_in w) e i).0)
  right_stays cursors _ a t taken there own (right_stale read tries reads were told) settled = record {
    right = right_stale read tries reads (stale_still (account_in v asked answered) (account_in w (asked ++ more) (answered ++ news)) a t (grown a)
        read.namespace tries were) told;
    settled = tt;
  }
  right_stays cursors _ a t taken there own (right_given_up refusal task why told) settled = record {
    right = right_given_up refusal task (given_up_still (account_in v asked answered) (account_in w (asked ++ more) (answered ++ news)) a t (grown a)
        refusal why) told;
    settled = tt;
  }
  right_stays cursors _ a t taken there own (right_find find time documents batch next asks of may small name when shows told) settled = record {
    right = right_find find time documents batch next asks of (give_stays v w find.reading time _ g.later settled g.after.placed may) small name
        when shows told;
    settled = fixed_grows v w find.reading time g.later settled;
  }
  right_stays cursors _ a t taken there own (right_count read time n asks of may told) settled = record {
    right = right_count read time n asks of (give_stays v w read time _ g.later settled g.after.placed may) told;
    settled = fixed_grows v w read time g.later settled;
  }
  right_stays cursors _ a t taken there own (right_refused_read read reads refused) settled =
      refused_stays a t read cursors (all_at (λ (b : Asked). b.came < now + 1) a asked g.came taken) reads refused settled
  right_stays cursors _ a t taken there own (right_more get c batch next asks found shows told) settled = record
      { right = right_more get c batch next asks found shows told; settled = tt }
  right_stays cursors _ a t taken there own (right_no_cursor get asks none told) settled = record { right = right_no_cursor get asks none told; settled = tt }
  right_stays cursors _ a t taken there own (right_kill kill killed missing next asks ended told) settled =
      record { right = right_kill kill killed missing next asks ended told; settled = tt }
  right_stays cursors _ a t taken there own (right_shard namespace asks created told) settled =
      record { right = right_shard namespace asks (begun_grows v w t.time namespace g.later created) told; settled = tt }
  right_stays cursors _ a t taken there own (right_split split asks begins told) settled = record {
    right = right_split split asks (begins_grows v w split.namespace split.middle t.time t.time g.later (omega arith) begins) told;
    settled = tt;
  }
  right_stays cursors _ a t taken there own (right_not_sharded split asks told) settled = record { right = right_not_sharded split asks told; settled = tt }
  right_stays cursors _ a t taken there own (right_hello asks told) settled = record { right = right_hello asks told; settled = tt }
  right_stays cursors _ a t taken there own (right_legacy legacy asks told) settled = record { right = right_legacy legacy asks told; settled = tt }
  right_stays cursors _ a t taken there own (right_ping asks told) settled = record { right = right_ping asks told; settled = tt }
  right_stays cursors _ a t taken there own (right_end_sessions asks told) settled = record { right = right_end_sessions asks told; settled = tt }
  right_stays cursors _ a t taken there own (right_refusal refusal asks told) settled = record { right = right_refusal refusal asks told; settled = tt }

  pub answers_grow : (cursors last : List Cursor) (told : List Answered) → ((t : Answered) → IsIn t told → IsIn t answered)
      → AnswersFit v asked answered cursors told last → AnswersFit w (asked ++ more) (answered ++ news) cursors told last
  answers_grow _ _ _ among (no_answer cursors) = no_answer cursors
  answers_grow _ _ _ among (one_answer cursors next last t rest f others) =
      let s = right_stays cursors next f.request t f.taken (among t (in_first t rest)) f.own f.right f.settled in
      one_answer cursors next last t rest (record {
        request = f.request;
        taken = in_prefix f.request asked more f.taken;
        own = f.own;
        link = f.link;
        number = f.number;
        same = f.same;
        came = f.came;
        risen = f.risen;
        right = s.right;
        settled = s.settled;
      }) (answers_grow next last rest (λ x i. among x (in_later x t rest i)) others)

-- replies after one another
pub answers_joined : (v : View) (asked : List Asked) (answered : List Answered) (first middle last : List Cursor) (xs ys : List Answered)
    → AnswersFit v asked answered first xs middle
    → AnswersFit v asked answered middle ys last → AnswersFit v asked answered first (xs ++ ys) last
answers_joined v asked answered _ _ last _ ys (no_answer cursors) more = more
answers_joined v asked answered _ _ last _ ys (one_answer cursors next middle t rest f others) more =
    one_answer cursors next last t (rest ++ ys) f (answers_joined v asked answered next middle last rest ys others more)
