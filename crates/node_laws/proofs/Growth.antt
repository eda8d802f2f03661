-- Journals grow, more is requested and replied: what was true of messages, tables and entries stays.
use Rattle.std.proofs.Common.{◌≡◌, ◌⊎◌, inl, inr, ℕ, ◌<◌, ◌≤◌, List, [], ◌∷◌, ◌++◌, refl, sym, ap, subst, ◌∙◌, arith, append-nil, append_assoc, ◌+◌, Bool}
use Rattle.std.specs.Prelude.{Option, Some, None, Result, Ok, Err, true, false, max, filter, nat_le, if◌then◌else◌}
use Rattle.std.specs.List.{AllByRecursion}
use Rattle.std.proofs.lemmas.Bool.{leb-true, leb-false}
use Rattle.history_model.proofs.Lists.{all_weaken, all_append, all_at, in_prefix}
use Rattle.bson_model.specs.Tree.{Datum, Fields}
use Rattle.base_model.specs.Refusals.{Refusal}
use Rattle.chunk_model.specs.Changes.{Change, create_change, split_change, commit_change, time_of}
use Rattle.chunk_model.specs.Tables.{Table}
use Rattle.chunk_model.specs.Verdicts.{Sent}
use Rattle.history_model.specs.Documents.{documents_at}
use Rattle.pipeline_model.specs.Halves.{Half, Rows, kept_at_head, may_stand_in}
use Rattle.command_model.specs.Writes.{WriteCommand}
use Rattle.history_model.specs.History.{StatementNumber, Entry, IsIn}
use Rattle.base_model.specs.Identities.{RequestId, same_request}
use Rattle.reply_model.specs.Exchanges.{Asked, number_for, is_session_of, entries_by}
use Rattle.reply_model.specs.Accounts.{Given, Lack}
use Rattle.reply_model.specs.Outcomes.{StatementOutcome, Done}
use Rattle.reply_model.specs.OneHistory.{WasWanted, IsPlaced}
use Rattle.node_model.specs.Letters.{At, no_time, at_time, Statement, HalfFault, half_overflow, half_excess, Body, table_ask, table_told, split_ask, split_done, write_ask, write_done, read_ask, half_ask, read_rows, refused, time_ask, time_told, Cause, is_stale, is_lack, Refused, of_request, of_table, Letter}
use Rattle.node_model.specs.RouterRequests.{has_index}
use Rattle.node_model.specs.States.{Run, Work, writing, reading, sharding, splitting}
use Rattle.reply_model.specs.Right.{WasSplit}
use Rattle.node_laws.proofs.Views.{Reach, reach_of, View, entries_in, changes_in, history_in, HavePassed, IsBeyond, MovesNothing, Later}
use Rattle.node_laws.proofs.LongerJournals.{IsNewAt, IsNewChange, more_entries, more_changes, entry_stays, change_stays, still_grows}
use Rattle.node_laws.proofs.CatalogueTables.{unmoved, owned_from}
use Rattle.node_laws.proofs.ReadFacts.{BeginsAfter, NoneBegan, IsReadOf, IsShown, IsMade, RowsFit}
use Rattle.node_laws.proofs.WriteFacts.{IsAnswerOf, by_entry, by_older, IsDoneAt, AreAnswers, WasMade}
use Rattle.node_laws.proofs.Outcomes.{IsOutcomeAt, AreOutcomes}
use Rattle.node_laws.proofs.TableFacts.{IsVersionOf}
use Rattle.node_laws.proofs.SplitFacts.{IsSplitOf, IsSplitDone}
use Rattle.node_laws.proofs.Facts.{HasLack, WasLacking, CauseFits, IsKnownTable, IsOwned, AreNext, IsWriteOf, RunFits, HasBegun, IsDoneOf, TableFits, IsWanted, IsOfRequest, BodyFits, LetterFits, AreSeen, IsMet}
use Rattle.node_laws.proofs.Choices.{decided_stays}
use Rattle.node_laws.proofs.KeptDocuments.{Counts, documents_unchanged}
use Rattle.node_laws.proofs.Histories.{history_extends, passed_of, documents_extended, history_stays}

-- WHAT A HISTORY SAYS OF A TIME

pub entries_by_longer : (id : RequestId) (history more : List Entry) → entries_by id (history ++ more) ≡ entries_by id history ++ entries_by id more
entries_by_longer id [] more = refl
entries_by_longer id (e ∷ history) more = by_test (is_session_of id e.number.session) (entries_by_longer id history more)
  where
    by_test : (a : Bool) → entries_by id (history ++ more) ≡ entries_by id history ++ entries_by id more
        → (if a then e ∷ entries_by id (history ++ more) else entries_by id (history ++ more)) ≡
        (if a then e ∷ entries_by id history else entries_by id history) ++ entries_by id more
    by_test true rest = ap (λ l. e ∷ l) rest
    by_test false rest = rest

-- FACTS ON TABLES

pub known_grows : (v w : View) (a b : ℕ) (t : Table) → Later v w → a ≤ b → IsKnownTable v a t → IsKnownTable w b t
known_grows v w a b t later le k =
    let m = more_changes v w later in
    record {
      more = m.more ++ k.more;
      older = k.older;
      all = m.same ∙ ap (λ l. m.more ++ l) k.all ∙ sym (append_assoc m.more k.more k.older);
      begun = (let c = k.begun in record { creation = c.creation; begun = c.begun; name = c.name; before = (let p = c.before in omega arith) });
      known = k.known;
      fitting = k.fitting;
      still = still_grows v w later k.still;
    }

later_begins : (namespace : List ℕ) (time bound : ℕ) (x : Change) → time ≤ bound → bound < time_of x → BeginsAfter namespace time x
later_begins namespace time bound (create_change c) le less = λ name. omega arith
later_begins namespace time bound (split_change s) le less = tt
later_begins namespace time bound (commit_change c) le less = tt

pub began_grows : (v w : View) (namespace : List ℕ) (time : ℕ) → Later v w → NoneBegan v namespace time → NoneBegan w namespace time
began_grows v w namespace time later n =
    let m = more_changes v w later in
    let le : v.bound 0 ≤ w.bound 0 = later.times 0 in
    let early : time ≤ v.bound 0 = n.0 in (
      omega arith,
      subst (λ l. AllByRecursion (BeginsAfter namespace time) l) (sym m.same)
          (all_append (BeginsAfter namespace time) m.more (changes_in v)
          (all_weaken (IsNewChange (v.bound 0)) (BeginsAfter namespace time) m.more (λ x h. later_begins namespace time (v.bound 0) x early h.0) m.above)
          n.1),
    )

-- an entry of a collection that did not begin by a time is above it
before_all : (v : View) (namespace : List ℕ) (time : ℕ) (e : Entry) → NoneBegan v namespace time → IsPlaced (changes_in v) e → ¬ Counts namespace time e
before_all v namespace time e none p counts =
    let after : time < p.creation.at = all_at (BeginsAfter namespace time) (create_change p.creation) (changes_in v) none.1 p.begun
    (p.name ∙ counts.1) in
    let before = p.before in
    let early = counts.0 in
    absurd (omega arith)

pub owned_grows : (v w : View) (a b : ℕ) (namespace : List ℕ) (shard : ℕ) (s : Statement) → Later v w → a ≤ b → IsOwned v a namespace shard s
    → IsOwned w b namespace shard s
owned_grows v w a b namespace shard s later le o =
    record { table = o.table; known = known_grows v w a b o.table later le o.known; name = o.name; owner = o.owner }

-- FACTS ON READS AND WRITES

-- where the time of a read is past, or its collection begins after it, the documents stay in a later history
pub documents_stay : (v w : View) (namespace : List ℕ) (time : ℕ) → Later v w → HavePassed v time ⊎ NoneBegan v namespace time
    → AllByRecursion (IsPlaced (changes_in w)) (history_in w)
    → documents_at (history_in w) namespace time ≡ documents_at (history_in v) namespace time
documents_stay v w namespace time later fixed placed =
    documents_extended v.bound namespace time (history_in v) (history_in w) (history_extends v w later) (λ e i new counts. not_counted fixed e i new counts)
  where
    not_counted : HavePassed v time ⊎ NoneBegan v namespace time → (e : Entry) → IsIn e (history_in w) → IsBeyond v.bound e → ¬ Counts namespace time e
    not_counted (inl passed) e i new counts =
        let below : time ≤ v.bound e.shard = passed_of v e.shard time new.0 passed in
        let above = new.1 in
        let early = counts.0 in
        absurd (omega (arith, below, above, early))
    not_counted (inr none) e i new counts =
        before_all w namespace time e (began_grows v w namespace time later none) (all_at (IsPlaced (changes_in w)) e (history_in w) placed i) counts

-- so do those of a shard that has passed the time
settled_stay : (v w : View) (at : ℕ) (namespace : List ℕ) (time : ℕ) → Later v w → time ≤ v.bound at
    → documents_at (entries_in w at) namespace time ≡ documents_at (entries_in v at) namespace time
settled_stay v w at namespace time later settled =
    let m = more_entries v w at later in
    ap (λ l. documents_at l namespace time) m.same
    ∙ documents_unchanged namespace time (entries_in v at) m.more
    (all_weaken (IsNewAt at (v.bound at)) (λ e. ¬ Counts namespace time e) m.more
    (λ e h counts. let above = h.1 in let early = counts.0 in absurd (omega (arith, above, early))) m.above)

-- nothing is stored in a collection that was not created
pub nothing_stands : (v : View) (namespace : List ℕ) (time : ℕ) → NoneBegan v namespace time
    → AllByRecursion (IsPlaced (changes_in v)) (history_in v)
    → documents_at (history_in v) namespace time ≡ []
nothing_stands v namespace time none placed =
    documents_unchanged namespace time [] (history_in v)
    (all_weaken (IsPlaced (changes_in v)) (λ e. ¬ Counts namespace time e) (history_in v)
    (λ e p counts. before_all v namespace time e none p counts) placed)

abbrev pub read_grows : (v w : View) (asked more : List Asked) (id : RequestId) (namespace : List ℕ) (at : ℕ) (half : Half) → Later v w
    → IsReadOf v asked id namespace at half → IsReadOf w (asked ++ more) id namespace at half
read_grows v w asked more id namespace at half later r = record {
  request = r.request;
  read = r.read;
  taken = in_prefix r.request asked more r.taken;
  own = r.own;
  reads = r.reads;
  name = r.name;
  shows = r.shows;
  decided = decided_stays v w id at later r.decided;
}

pub shown_grows : (v w : View) (asked more : List Asked) (sender early late : ℕ) (id : RequestId) (namespace : List ℕ) (at : ℕ) (half : Half)
    (documents : List Fields) → Later v w
    → early ≤ late → IsShown v asked sender early id namespace at half documents → IsShown w (asked ++ more) sender late id namespace at half documents
shown_grows v w asked more sender early late id namespace at half documents later le s =
    let risen : v.bound sender ≤ w.bound sender = later.times sender in
    let settled = s.settled in
    let past = s.past in
    record {
      read = read_grows v w asked more id namespace at half later s.read;
      owner = s.owner;
      documents_are = s.documents_are
          ∙ ap (λ l. kept_at_head half.stages (filter (may_stand_in half.span) l)) (sym (settled_stay v w sender namespace at later s.settled));
      settled = omega arith;
      past = omega arith;
    }

made_grows : (v w : View) (asked more : List Asked) (sender early late : ℕ) (id : RequestId) (rows : Rows) → Later v w → early ≤ late
    → IsMade v asked sender early id rows → IsMade w (asked ++ more) sender late id rows
made_grows v w asked more sender early late id rows later le m = record {
  namespace = m.namespace;
  at = m.at;
  half = m.half;
  documents = m.documents;
  shown = shown_grows v w asked more sender early late id m.namespace m.at m.half m.documents later le m.shown;
  makes = m.makes;
}

rows_grow : (v w : View) (asked more : List Asked) (sender time : ℕ) (id : RequestId) (rows : Result Rows HalfFault) → Later v w
    → RowsFit v asked sender time id rows → RowsFit w (asked ++ more) sender time id rows
rows_grow v w asked more sender time id (Ok rows) later f = made_grows v w asked more sender time time id rows later (omega arith) f
rows_grow v w asked more sender time id (Err half_overflow) later f = f
rows_grow v w asked more sender time id (Err (half_excess n)) later f = record {
  rows = f.rows;
  made = made_grows v w asked more sender time time id f.rows later (omega arith) f.made;
  length = f.length;
  excess = f.excess;
  told = f.told;
}

-- outcomes of statements are those of more entries, at a later time
answer_grows : (old new : List Entry) (early late : ℕ) (number : StatementNumber) (answer : StatementOutcome) → ((e : Entry) → IsIn e old → IsIn e new)
    → early ≤ late → IsAnswerOf old early number answer → IsAnswerOf new late number answer
answer_grows old new early late number _ more le (by_entry e i numbered past) = by_entry e (more e i) numbered (omega arith)
answer_grows old new early late number _ more le (by_older e i session less past) = by_older e (more e i) session less (omega arith)

pub done_at_grows : (old new : List Entry) (early late : ℕ) (write : WriteCommand) (id : RequestId) (d : Done) → ((e : Entry) → IsIn e old → IsIn e new)
    → early ≤ late → IsDoneAt old early write id d → IsDoneAt new late write id d
done_at_grows old new early late write id d more le a =
    record { within = a.within; answer = answer_grows old new early late (number_for write.number id d.index) d.answer more le a.answer }

pub answers_later : (v w : View) (early late : ℕ) (write : WriteCommand) (id : RequestId) (index : ℕ) (dones : List Done) → Later v w → early ≤ late
    → AreAnswers (history_in v) early write id index dones → AreAnswers (history_in w) late write id index dones
answers_later v w early late write id index [] later le all = tt
answers_later v w early late write id index (d ∷ dones) later le all = (
  all.0,
  done_at_grows (history_in v) (history_in w) early late write id d (λ e i. history_stays v w e later i) le all.1,
  answers_later v w early late write id (index + 1) dones later le all.2,
)

pub lack_grows : (v w : View) (node : ℕ) (lack : Lack) → Later v w → HasLack v node lack → HasLack w node lack
lack_grows v w node lack later h = record {
  missed = h.missed;
  had = subst (λ l. IsIn h.missed l) (sym later.missed.same) (in_prefix h.missed v.missed later.missed.news h.had);
  own = h.own;
  same = h.same;
}

pub lacking_grows : (v w : View) (refusal : Refusal) → Later v w → WasLacking v refusal → WasLacking w refusal
lacking_grows v w refusal later h = record { node = h.node; lack = h.lack; had = lack_grows v w h.node h.lack later h.had; is = h.is }

cause_grows : (v w : View) (what : Refused) (cause : Cause) → Later v w → CauseFits v what cause → CauseFits w what cause
cause_grows v w (of_request id turn first) (is_stale met) later f = f
cause_grows v w (of_request id turn first) (is_lack node lack) later f = lack_grows v w node lack later f
cause_grows v w (of_table namespace create at) (is_stale met) later f = f
cause_grows v w (of_table namespace create at) (is_lack node lack) later f = lack_grows v w node lack later f

pub version_grows : (v w : View) (a b : ℕ) (namespace : List ℕ) (shard : ℕ) (sent : Sent) → Later v w → a ≤ b → IsVersionOf v a namespace shard sent
    → IsVersionOf w b namespace shard sent
version_grows v w a b namespace shard sent later le o =
    record { table = o.table; known = known_grows v w a b o.table later le o.known; name = o.name; same = o.same }

-- what is noted of a request stays so
pub reach_longer : (id : RequestId) (old more : List Reach) → reach_of id old ≤ reach_of id (old ++ more)
reach_longer id [] more = omega arith
reach_longer id (x ∷ old) more = by_test (same_request x.id id) (reach_longer id old more)
  where
    by_test : (b : Bool) → reach_of id old ≤ reach_of id (old ++ more)
        → (if b then max x.index (reach_of id old) else reach_of id old) ≤ (if b then max x.index (reach_of id (old ++ more)) else reach_of id (old ++ more))
    by_test true le = omega (arith, le)
    by_test false le = le

pub reach_grows : (v w : View) (id : RequestId) → Later v w → reach_of id v.reached ≤ reach_of id w.reached
reach_grows v w id later = subst (λ l. reach_of id v.reached ≤ reach_of id l) (sym later.reached.same) (reach_longer id v.reached later.reached.news)

pub outcomes_later : (v w : View) (early late : ℕ) (write : WriteCommand) (id : RequestId) (index : ℕ) (answers : List (Option StatementOutcome)) → Later v w
    → early ≤ late → AreOutcomes (WasLacking v) (history_in v) early write id index answers
    → AreOutcomes (WasLacking w) (history_in w) late write id index answers
outcomes_later v w early late write id index [] later le all = tt
outcomes_later v w early late write id index (None ∷ answers) later le all = outcomes_later v w early late write id (index + 1) answers later le all
outcomes_later v w early late write id index (Some x ∷ answers) later le all =
    (by_outcome all.0, outcomes_later v w early late write id (index + 1) answers later le all.1)
  where
    by_outcome : IsOutcomeAt (WasLacking v) (history_in v) early write id (record { index = index; answer = x })
        → IsOutcomeAt (WasLacking w) (history_in w) late write id (record { index = index; answer = x })
    by_outcome (inl done) =
        inl (done_at_grows (history_in v) (history_in w) early late write id (record { index = index; answer = x }) (λ e i. history_stays v w e later i) le done)
    by_outcome (inr given) =
        inr (record { within = given.within; refusal = given.refusal; is = given.is; why = lacking_grows v w given.refusal later given.why })

pub run_later : (v w : View) (early late : ℕ) (namespace : List ℕ) (ordered : Bool) (statements : List Statement) (answers : List (Option StatementOutcome))
    (run : Run) → Later v w → early ≤ late → RunFits v early namespace ordered statements answers run → RunFits w late namespace ordered statements answers run
run_later v w early late namespace ordered statements answers run later le f = record {
  owned = all_weaken (λ (s : Statement). has_index run.indices s.number.index ≡ true → IsOwned v early namespace run.shard s)
      (λ (s : Statement). has_index run.indices s.number.index ≡ true → IsOwned w late namespace run.shard s) statements
      (λ s h is. owned_grows v w early late namespace run.shard s later le (h is)) f.owned;
  next = f.next;
  version = version_grows v w early late namespace run.shard run.sent later le f.version;
  within = f.within;
}

pub next_later : (v w : View) (early late : ℕ) (write : WriteCommand) (id : RequestId) (statements : List Statement) → Later v w → early ≤ late
    → AreNext v early write id statements → AreNext w late write id statements
next_later v w early late write id statements later le n = record {
  front = n.front;
  back = n.back;
  answered = answers_later v w early late write id 0 n.front later le n.answered;
  goes_on = n.goes_on;
  next = n.next;
}

pub write_grows : (v w : View) (asked more : List Asked) (receiver time : ℕ) (id : RequestId) (ordered : Bool) (namespace : List ℕ)
    (statements : List Statement) → Later v w → IsWriteOf v asked receiver time id ordered namespace statements
    → IsWriteOf w (asked ++ more) receiver time id ordered namespace statements
write_grows v w asked more receiver time id ordered namespace statements later a =
    record {
      request = a.request;
      write = a.write;
      taken = in_prefix a.request asked more a.taken;
      own = a.own;
      asks = a.asks;
      order = a.order;
      name = a.name;
      each = a.each;
      next = λ is. next_later v w time time a.write id statements later (omega arith) (a.next is);
      owned = all_weaken (IsOwned v time namespace receiver) (IsOwned w time namespace receiver) statements
          (λ s o. owned_grows v w time time namespace receiver s later (omega arith) o) a.owned;
      fresh = a.fresh;
      below = λ is. all_weaken (λ (s : Statement). s.number.index < reach_of id v.reached) (λ (s : Statement). s.number.index < reach_of id w.reached) statements
          (λ s less. let grows = reach_grows v w id later in omega (arith, less, grows)) (a.below is);
    }

pub begun_grows : (v w : View) (time : ℕ) (namespace : List ℕ) → Later v w → HasBegun v time namespace → HasBegun w time namespace
begun_grows v w time namespace later b =
    record { creation = b.creation; begun = change_stays v w (create_change b.creation) later b.begun; name = b.name; before = b.before }

pub done_grows : (v w : View) (asked more : List Asked) (sender time : ℕ) (id : RequestId) (dones : List Done) → Later v w
    → IsDoneOf v asked sender time id dones → IsDoneOf w (asked ++ more) sender time id dones
done_grows v w asked more sender time id dones later b = record {
  request = b.request;
  write = b.write;
  taken = in_prefix b.request asked more b.taken;
  own = b.own;
  asks = b.asks;
  each = all_weaken (IsDoneAt (entries_in v sender) time b.write id) (IsDoneAt (entries_in w sender) time b.write id) dones
      (λ d a. done_at_grows (entries_in v sender) (entries_in w sender) time time b.write id d (λ e i. entry_stays v w sender e later i) (omega arith) a)
      b.each;
  last = b.last;
  begun = begun_grows v w time b.write.namespace later b.begun;
}

-- MESSAGES

pub wanted_grows : (asked more : List Asked) (namespace : List ℕ) (time : ℕ) → IsWanted asked namespace time → IsWanted (asked ++ more) namespace time
wanted_grows asked more namespace time s = record { request = s.request; taken = in_prefix s.request asked more s.taken; asks = s.asks; past = s.past }

split_grows : (asked more : List Asked) (id : RequestId) (namespace : List ℕ) (middle : Datum) (time : ℕ) → IsSplitOf asked id namespace middle time
    → IsSplitOf (asked ++ more) id namespace middle time
split_grows asked more id namespace middle time s = record {
  request = s.request;
  taken = in_prefix s.request asked more s.taken;
  own = s.own;
  asks = s.asks;
  key = s.key;
  past = s.past;
}

-- a chunk that began at a key by a time did so by the changes of then
pub begins_grows : (v w : View) (namespace : List ℕ) (key : Datum) (early late : ℕ) → Later v w → early ≤ late
    → WasSplit (changes_in v) namespace key early → WasSplit (changes_in w) namespace key late
begins_grows v w namespace key early late later le s =
    let m = more_changes v w later in
    record {
      later = m.more ++ s.later;
      older = s.older;
      table = s.table;
      all = m.same ∙ ap (λ l. m.more ++ l) s.all ∙ sym (append_assoc m.more s.later s.older);
      past = all_weaken (λ x. time_of x ≤ early) (λ x. time_of x ≤ late) s.older (λ x h. omega arith) s.past;
      known = s.known;
      bound = s.bound;
    }

split_done_grows : (v w : View) (asked more : List Asked) (id : RequestId) (time : ℕ) → Later v w → IsSplitDone v asked id time
    → IsSplitDone w (asked ++ more) id time
split_done_grows v w asked more id time later s = record {
  request = s.request;
  taken = in_prefix s.request asked more s.taken;
  own = s.own;
  split = s.split;
  asks = s.asks;
  begins = begins_grows v w s.split.namespace s.split.middle time time later (omega arith) s.begins;
}

pub request_grows : (asked more : List Asked) (id : RequestId) → IsOfRequest asked id → IsOfRequest (asked ++ more) id
request_grows asked more id r = record { request = r.request; taken = in_prefix r.request asked more r.taken; own = r.own }

table_fits_grows : (v w : View) (time : ℕ) (namespace : List ℕ) (at : At) (table : Option Table) → Later v w → TableFits v time namespace at table
    → TableFits w time namespace at table
table_fits_grows v w time namespace at (Some t) later f = (known_grows v w time time t later (omega arith) f.0, f.1)
table_fits_grows v w time namespace no_time None later f = f
table_fits_grows v w time namespace (at_time at) None later f = began_grows v w namespace at later f

body_grows : (v w : View) (asked more : List Asked) (sender receiver time : ℕ) (b : Body) → Later v w → BodyFits v asked sender receiver time b
    → BodyFits w (asked ++ more) sender receiver time b
body_grows v w asked more sender receiver time (table_ask namespace true at) later f = (f.0, wanted_grows asked more namespace time f.1)
body_grows v w asked more sender receiver time (table_ask namespace false at) later f = f
body_grows v w asked more sender receiver time (table_told namespace create at table) later f = table_fits_grows v w time namespace at table later f
body_grows v w asked more sender receiver time (split_ask id namespace middle) later f = split_grows asked more id namespace middle time f
body_grows v w asked more sender receiver time (split_done id true) later f = split_done_grows v w asked more id time later f
body_grows v w asked more sender receiver time (split_done id false) later f = f
body_grows v w asked more sender receiver time (write_ask id turn ordered namespace statements sent) later f =
    (write_grows v w asked more receiver time id ordered namespace statements later f.0, version_grows v w time time namespace receiver sent later (omega arith) f.1)
body_grows v w asked more sender receiver time (write_done id dones) later f =
    (f.0, done_grows v w asked more sender time id dones later f.1)
body_grows v w asked more sender receiver time (read_ask id turn namespace at half sent) later f =
    (read_grows v w asked more id namespace at half later f.0, f.1, f.2, version_grows v w time time namespace receiver sent later (omega arith) f.3)
body_grows v w asked more sender receiver time (half_ask id turn namespace at half documents) later f =
    (shown_grows v w asked more sender time time id namespace at half documents later (omega arith) f.0, f.1)
body_grows v w asked more sender receiver time (read_rows id turn rows) later f = rows_grow v w asked more sender time id rows later f
body_grows v w asked more sender receiver time (refused what cause) later f = cause_grows v w what cause later f
body_grows v w asked more sender receiver time (time_ask id) later f = request_grows asked more id f
body_grows v w asked more sender receiver time (time_told id) later f = request_grows asked more id f

pub letter_grows : (v w : View) (asked more : List Asked) (m : Letter) → Later v w → LetterFits v asked m → LetterFits w (asked ++ more) m
letter_grows v w asked more m later f = body_grows v w asked more m.sender m.receiver m.time m.body later f

-- WORK, ENTRIES AND TIMES

pub seen_grows : (v w : View) (early late : ℕ) (a : Asked) (work : Work) → Later v w → early ≤ late → AreSeen v early a work → AreSeen w late a work
seen_grows v w early late a (writing kind ordered statements c) later le seen =
    λ write asks. (
      outcomes_later v w early late write a.id 0 c.answers later le (seen write asks).0,
      all_weaken (RunFits v early write.namespace ordered statements c.answers) (RunFits w late write.namespace ordered statements c.answers) c.runs
          (λ run f. run_later v w early late write.namespace ordered statements c.answers run later le f) (seen write asks).1,
      λ any.
          let b = begun_grows v w early write.namespace later ((seen write asks).2 any) in
          record { creation = b.creation; begun = b.begun; name = b.name; before = let h = b.before in omega arith },
    )
seen_grows v w early late a (reading named at stages telling) later le seen = tt
seen_grows v w early late a sharding later le seen = tt
seen_grows v w early late a (splitting middle) later le seen = tt

-- an entry was made for a request, also among more entries and requests
pub entry_grows : (old new : List Entry) (asked more : List Asked) (notes raises : List Reach) (e : Entry) → ((d : Entry) → IsIn d old → IsIn d new)
    → WasMade old asked notes e → WasMade new (asked ++ more) (notes ++ raises) e
entry_grows old new asked more notes raises e stays m = record {
  request = m.request;
  taken = in_prefix m.request asked more m.taken;
  sends = m.sends;
  later = m.later;
  reached = λ ordered i before. let r = m.reached ordered i before in (r.0, stays r.0 r.1, r.2, r.3, r.4);
  below = λ ordered. let less = m.below ordered in let grows = reach_longer m.request.id notes raises in omega (arith, less, grows);
}

pub made_grows_both : (v w : View) (asked more : List Asked) (e : Entry) → Later v w → WasMade (history_in v) asked v.reached e
    → WasMade (history_in w) (asked ++ more) w.reached e
made_grows_both v w asked more e later m =
    subst (λ n. WasMade (history_in w) (asked ++ more) n e) (sym later.reached.same)
    (entry_grows (history_in v) (history_in w) asked more v.reached later.reached.news e (λ d i. history_stays v w d later i) m)

-- also where only journals are longer
pub made_later : (v w : View) (asked : List Asked) (e : Entry) → Later v w → WasMade (history_in v) asked v.reached e → WasMade (history_in w) asked w.reached e
made_later v w asked e later m =
    subst (λ l. WasMade (history_in w) l w.reached e) (append-nil asked) (made_grows_both v w asked [] e later m)

pub change_wanted_grows : (asked more : List Asked) (x : Change) → WasWanted asked x → WasWanted (asked ++ more) x
change_wanted_grows asked more x s = record { request = s.request; taken = in_prefix s.request asked more s.taken; asks = s.asks; later = s.later }

pub placed_grows : (v w : View) (e : Entry) → Later v w → AllByRecursion MovesNothing (changes_in v) → IsPlaced (changes_in v) e → IsPlaced (changes_in w) e
placed_grows v w e later still p =
    let begun : IsIn (create_change p.creation) (changes_in w) = change_stays v w (create_change p.creation) later p.begun in
    let before = p.before in
    record {
      creation = p.creation;
      key = p.key;
      begun = begun;
      name = p.name;
      before = p.before;
      writes = p.writes;
      owner = owned_from (changes_in w) (still_grows v w later still) e.namespace p.key e.time
          (record { creation = p.creation; begun = begun; name = p.name; before = omega arith })
          ∙ ap (λ (n : ℕ). Some n) (sym (unmoved (changes_in v) still e.namespace p.key e.time e.shard p.owner).shard_is);
    }

pub met_grows : (v w : View) (given more : List Given) (time : ℕ) → Later v w → IsMet v given time → IsMet w (given ++ more) time
met_grows v w given more time later (inl z) = inl z
met_grows v w given more time later (inr (inl (g, i, e))) = inr (inl (g, in_prefix g given more i, e))
met_grows v w given more time later (inr (inr (inl (x, i, e)))) = inr (inr (inl (x, change_stays v w x later i, e)))
met_grows v w given more time later (inr (inr (inr (d, i, e)))) = inr (inr (inr (d, history_stays v w d later i, e)))

pub met_later : (v w : View) (given : List Given) (time : ℕ) → Later v w → IsMet v given time → IsMet w given time
met_later v w given time later m = subst (λ l. IsMet w l time) (append-nil given) (met_grows v w given [] time later m)

-- of two times that were met the greater was met
pub met_max : (v : View) (given : List Given) (a b : ℕ) → IsMet v given a → IsMet v given b → IsMet v given (max a b)
met_max v given a b x y = by_test (nat_le a b) refl
  where
    by_test : (t : Bool) → nat_le a b ≡ t → IsMet v given (max a b)
    by_test true h = subst (λ n. IsMet v given n) (let le : a ≤ b = leb-true _ _ h in omega arith) y
    by_test false h = subst (λ n. IsMet v given n) (let le : b < a = leb-false _ _ h in omega arith) x
