-- The rows of a router in which work is given up, where what is given up of a write fits.
use Rattle.std.proofs.Common.{◌≡◌, ◌⊎◌, inl, inr, ℕ, zero, suc, ◌+◌, ◌<◌, ◌≤◌, List, [], ◌∷◌, ◌++◌, refl, sym, ap, subst, ◌∙◌, arith, Bool}
use Rattle.std.specs.Prelude.{Option, Some, None, true, false, not, nat_lt, nat_le, ◌&&◌, max, length}
use Rattle.std.specs.List.{AllByRecursion}
use Rattle.std.proofs.lemmas.Bool.{ltb-true, leb-true}
use Rattle.history_model.proofs.Lists.{all_weaken, all_filter, all_at}
use Rattle.history_model.specs.History.{Entry, IsIn}
use Rattle.base_model.specs.Refusals.{Refusal}
use Rattle.base_model.specs.Identities.{RequestId}
use Rattle.base_model.specs.Times.{time_of_moment}
use Rattle.chunk_model.specs.Versions.{Version}
use Rattle.command_model.specs.Answers.{refusal_answer}
use Rattle.command_model.specs.Command.{command_of, time_limit}
use Rattle.command_model.specs.Reading.{Reading}
use Rattle.command_model.specs.Writes.{WriteKind, WriteCommand}
use Rattle.reply_model.specs.Accounts.{Lack, Missed}
use Rattle.reply_model.specs.Exchanges.{Asked, Answered}
use Rattle.reply_model.specs.Outcomes.{StatementOutcome, was_refused, has_outcome, with_outcome, AnyDone, dones_from, answer_of, lack_refusal, expired_refusal}
use Rattle.reply_model.specs.Right.{IsOneTask, IsGivenUp, given_up_late, given_up_lacking, right_given_up}
use Rattle.node_model.specs.Journal.{Kept}
use Rattle.node_model.specs.Letters.{At, Cause, is_stale, is_lack, Refused, refused, of_request, of_table, Statement, Letter, letter_input, moment_input}
use Rattle.node_model.specs.States.{Run, Course, Telling, Work, writing, reading, sharding, splitting, Open, Router, router_state}
use Rattle.node_model.specs.RouterRequests.{id_of, heard, indices_of, unanswered, unsent}
use Rattle.node_model.specs.RouterNext.{is_answered, left_of, settled, Next, stay_in, after_next, reply_to, with_outcomes, given_up, is_bound, gives_up, run_with, refused_next, table_refused, is_expired, asks_again, at_moment}
use Rattle.node_model.specs.RouterRows.{as_before, goes_on, go_on}
use Rattle.node_model.specs.World.{World, answered_by}
use Rattle.node_laws.proofs.SeenStatements.{true_false}
use Rattle.node_laws.proofs.Views.{reach_of, Book, View, view_of, history_in, account_in}
use Rattle.node_laws.proofs.ReadFacts.{IsTelling, tells_find, tells_count}
use Rattle.node_laws.proofs.Outcomes.{Answers, AreOutcomes, IsFront, HasMore, outcomes_weaken, outcomes_below, statements_long}
use Rattle.node_laws.proofs.SentRuns.{left_long, all_left, rest_of, rest_owned, rest_next}
use Rattle.node_laws.proofs.Facts.{reach_in, IsOwned, HasLack, WasLacking, AreCut, CauseFits, IsKnownTable, RunFits, WorkFits, AreSeen, IsOpenOf, IsReached, IsNoted, NodeFits, IsMet, NeighboursFit, Good}
use Rattle.node_laws.proofs.Owes.{IsSaid, InputFits, Owes}
use Rattle.node_laws.proofs.Growth.{seen_grows, met_max}
use Rattle.node_laws.proofs.Journals.{later_self}
use Rattle.node_laws.proofs.OpenRequests.{open_of_found}
use Rattle.node_laws.proofs.NextRequests.{NextIs, left_by, told_by}
use Rattle.node_laws.proofs.NextCases.{IsTask, by_write, by_refused, by_no_table, by_moment}
use Rattle.node_laws.proofs.NextKeeps.{refused_keeps, no_table_keeps, moment_keeps}
use Rattle.node_laws.proofs.Raises.{TellsReach, given_more, refused_raises, no_table_raises, moment_raises}
use Rattle.node_laws.proofs.AnswerTimes.{refusal_below, write_below}
use Rattle.node_laws.proofs.OpenFacts.{with_own, opener_of, open_rises}
use Rattle.node_laws.proofs.RouterAsks.{again_fits}
use Rattle.node_laws.proofs.Goings.{write_goes}
use Rattle.node_laws.proofs.RouterAnswers.{as_answered, answer_fits, NotedFits, wrote_right}
use Rattle.node_laws.proofs.NextFacts.{IsToldRightly}
use Rattle.node_laws.proofs.RouterLater.{IsKept, goes_to}
use Rattle.node_laws.proofs.RouterForms.{IsBehind, each_open, came_by, known_tables, each_owes, next_owes}
use Rattle.node_laws.proofs.RouterMessages.{heard_met, body_in}
use Rattle.node_laws.proofs.RouterRows.{RestOwes}
use Rattle.node_laws.proofs.StepsKeep.{AllRest}

-- WHAT IS GIVEN UP OF A WRITE (`GivesWell`)

-- the statements of a write that are given up: those of a run, where it is not bound; those that wait for a table; or all that are open, where no run is bound
pub data IsGivenNext (ordered : Bool) (statements : List Statement) (c : Course) : List ℕ → Type 0 where
  given_run : (turn first : ℕ) (run : Run) → run_with turn first c c.runs ≡ Some run → is_bound ordered (run ∷ []) ≡ false
      → IsGivenNext ordered statements c run.indices
  given_unsent : IsGivenNext ordered statements c (indices_of (unsent ordered statements c))
  given_open : is_bound ordered c.runs ≡ false → IsGivenNext ordered statements c (indices_of (unanswered statements c.answers))

-- of an ordered write the first outcomes are there, and no more was sent than what is answered and the one that is given up
pub record GivesWell (v : View) (id : RequestId) (ordered : Bool) (sent : ℕ) (answers : List (Option StatementOutcome)) : Type 0 where
  pub front : ordered ≡ true → IsFront answers
  pub cut : ordered ≡ true → reach_of id v.reached ≤ sent → AreCut v.reached id (dones_from 0 answers)

pub record GivesFit : Type 0 where
  pub well : (v : View) (asked : List Asked) (answered : List Answered) (r : Router) (q : Open) → IsOpenOf v asked answered r q → (kind : WriteKind)
      (ordered : Bool) (statements : List Statement) (c : Course) (refusal : Refusal) (indices : List ℕ) → q.work ≡ writing kind ordered statements c
      → IsGivenNext ordered statements c indices → GivesWell v (id_of r q.count) ordered (reach_in q.work) (given_up ordered refusal indices c.answers)
  -- where all that is open is given up, it is answered
  pub answered : (v : View) (asked : List Asked) (answered : List Answered) (r : Router) (q : Open) → IsOpenOf v asked answered r q → (kind : WriteKind)
      (ordered : Bool) (statements : List Statement) (c : Course) (refusal : Refusal) → q.work ≡ writing kind ordered statements c
      → is_answered ordered (given_up ordered refusal (indices_of (unanswered statements c.answers)) c.answers) ≡ true

-- OUTCOMES OF WHAT IS GIVEN UP

module _ (gave : Refusal → Type 0) (history : List Entry) (time : ℕ) (write : WriteCommand) (id : RequestId) (refusal : Refusal) (why : gave refusal) where
  given_one : (first index : ℕ) (answers : Answers) → first + length answers ≡ length write.operations
      → AreOutcomes gave history time write id first answers → AreOutcomes gave history time write id first (with_outcome index (was_refused refusal) answers)
  given_one first index [] long all = tt
  given_one first zero (None ∷ answers) long all = (inr (record { within = omega (arith, long); refusal = refusal; is = refl; why = why }), all)
  given_one first zero (Some y ∷ answers) long all = all
  given_one first (suc index) (None ∷ answers) long all = given_one (first + 1) index answers (omega (arith, long)) all
  given_one first (suc index) (Some y ∷ answers) long all = (all.0, given_one (first + 1) index answers (omega (arith, long)) all.1)

long_one : (index : ℕ) (x : StatementOutcome) (answers : Answers) → length (with_outcome index x answers) ≡ length answers
long_one index x [] = refl
long_one zero x (None ∷ answers) = refl
long_one zero x (Some y ∷ answers) = refl
long_one (suc index) x (y ∷ answers) = ap suc (long_one index x answers)

long_all : (indices : List ℕ) (x : StatementOutcome) (answers : Answers) → length (with_outcomes indices x answers) ≡ length answers
long_all [] x answers = refl
long_all (index ∷ indices) x answers = long_one index x (with_outcomes indices x answers) ∙ long_all indices x answers

given_long : (ordered : Bool) (refusal : Refusal) (indices : List ℕ) (answers : Answers) → length (given_up ordered refusal indices answers) ≡ length answers
given_long ordered refusal [] answers = refl
given_long true refusal (index ∷ indices) answers = long_one index (was_refused refusal) answers
given_long false refusal (index ∷ indices) answers = long_all (index ∷ indices) (was_refused refusal) answers

given_outcomes : (gave : Refusal → Type 0) (history : List Entry) (time : ℕ) (write : WriteCommand) (id : RequestId) (refusal : Refusal) → gave refusal
    → (ordered : Bool) (indices : List ℕ) (answers : Answers) → length answers ≡ length write.operations → AreOutcomes gave history time write id 0 answers
    → AreOutcomes gave history time write id 0 (given_up ordered refusal indices answers)
given_outcomes gave history time write id refusal why ordered [] answers long all = all
given_outcomes gave history time write id refusal why true (index ∷ indices) answers long all =
    given_one gave history time write id refusal why 0 index answers (omega (arith, long)) all
given_outcomes gave history time write id refusal why false (index ∷ indices) answers long all = each (index ∷ indices)
  where
    each : (rest : List ℕ) → AreOutcomes gave history time write id 0 (with_outcomes rest (was_refused refusal) answers)
    each [] = all
    each (i ∷ rest) = given_one gave history time write id refusal why 0 i (with_outcomes rest (was_refused refusal) answers)
        (let same = long_all rest (was_refused refusal) answers in omega (arith, long, same)) (each rest)

-- nothing more is applied
done_one : (first index : ℕ) (refusal : Refusal) (answers : Answers) → AnyDone (dones_from first (with_outcome index (was_refused refusal) answers))
    → AnyDone (dones_from first answers)
done_one first index refusal [] any = any
done_one first zero refusal (None ∷ answers) (inl done) = absurd done
done_one first zero refusal (None ∷ answers) (inr any) = any
done_one first zero refusal (Some y ∷ answers) any = any
done_one first (suc index) refusal (None ∷ answers) any = done_one (first + 1) index refusal answers any
done_one first (suc index) refusal (Some y ∷ answers) (inl done) = inl done
done_one first (suc index) refusal (Some y ∷ answers) (inr any) = inr (done_one (first + 1) index refusal answers any)

done_all : (indices : List ℕ) (refusal : Refusal) (answers : Answers) → AnyDone (dones_from 0 (with_outcomes indices (was_refused refusal) answers))
    → AnyDone (dones_from 0 answers)
done_all [] refusal answers any = any
done_all (index ∷ indices) refusal answers any =
    done_all indices refusal answers (done_one 0 index refusal (with_outcomes indices (was_refused refusal) answers) any)

given_done : (ordered : Bool) (refusal : Refusal) (indices : List ℕ) (answers : Answers) → AnyDone (dones_from 0 (given_up ordered refusal indices answers))
    → AnyDone (dones_from 0 answers)
given_done ordered refusal [] answers any = any
given_done true refusal (index ∷ indices) answers any = done_one 0 index refusal answers any
given_done false refusal (index ∷ indices) answers any = done_all (index ∷ indices) refusal answers any

-- what is left of runs fits, with more outcomes
left_fits : (v : View) (time : ℕ) (namespace : List ℕ) (ordered : Bool) (statements : List Statement) (old new : List (Option StatementOutcome))
    (runs : List Run) → HasMore old new → AllByRecursion (RunFits v time namespace ordered statements old) runs
    → AllByRecursion (RunFits v time namespace ordered statements new) (left_of new runs)
left_fits v time namespace ordered statements old new runs more all =
    all_left (RunFits v time namespace ordered statements new) new runs
    (all_weaken (RunFits v time namespace ordered statements old) (λ run. RunFits v time namespace ordered statements new (rest_of new run)) runs
    (λ run f. record {
      version = f.version;
      within = all_filter (λ i. i < length statements) (λ i. not (has_outcome new i)) run.indices f.within;
      owned = rest_owned (IsOwned v time namespace run.shard) statements new run f.owned;
      next = λ in_order. rest_next statements old new run more (f.next in_order);
    }) all)

-- WORK THAT IS ONE TASK

one_task : (a : Asked) (namespace : List ℕ) (work : Work) → IsTask work → WorkFits a namespace work → IsOneTask (command_of a.request)
one_task a namespace (writing kind ordered statements c) task f = absurd task
one_task a namespace (reading named at stages telling) task f = by_telling f.tells
  where
    by_telling : {read : Reading} → {telling : Telling} → IsTelling a read telling → IsOneTask (command_of a.request)
    by_telling (tells_find find asks) = subst (λ x. IsOneTask x) (sym asks) tt
    by_telling (tells_count read asks) = subst (λ x. IsOneTask x) (sym asks) tt
one_task a namespace sharding task f = subst (λ x. IsOneTask x) (sym f) tt
one_task a namespace (splitting middle) task f = subst (λ x. IsOneTask x) (sym f) tt

module _ (fit : GivesFit) (w : World) (book : Book) (at : ℕ) (kept : List Kept) (r : Router) (good : Good w book)
    (h : NodeFits (view_of w.nodes book) w.asked w.answered w.given at (record { state = router_state r; kept = kept }))
    (reach : AllByRecursion (IsReached book.reached r) r.requests) where
  abbrev Behind : View → Type 0
  Behind v = IsBehind w book at kept r good h reach v

  -- a lack that is noted was one by now
  lack_given : (said : List Answered) (v : View) → IsKept v w → (a : Asked) (t : Answered) → t.step ≡ w.now → (refusal : Refusal) → WasLacking v refusal
      → IsGivenUp (account_in v w.asked said) a t refusal
  lack_given said v k a t now refusal lacking =
      let had = lacking.had in
      let before : had.missed.step < w.now + 1 = all_at (λ (x : Missed). x.step < w.now + 1) had.missed v.missed k.lacks had.had in
      subst (λ x. IsGivenUp (account_in v w.asked said) a t x) (sym lacking.is)
      (given_up_lacking lacking.node lacking.lack (record {
        missed = had.missed;
        had = had.had;
        own = had.own;
        same = had.same;
        before = omega (arith, before, now);
      }))

  -- a reply that says so
  task_told : (said : List Answered) (v : View) (time : ℕ) (q : Open) (o : IsOpenOf v w.asked w.answered r q) (refusal : Refusal) → r.time ≤ time → IsTask q.work
      → IsGivenUp (account_in v w.asked said) o.request (as_answered w.now (reply_to r time q (refusal_answer refusal))) refusal
      → IsToldRightly v w.asked said book.cursors time w.now (reply_to r time q (refusal_answer refusal))
  task_told said v time q o refusal up task why = (
    answer_fits v w.asked w.answered said r time w.now q (refusal_answer refusal) book.cursors book.cursors o up
        (came_by w book at kept r good h reach o.request o.taken)
        (record { right = right_given_up refusal (one_task o.request q.namespace q.work task o.work) why refl; settled = tt }),
    refusal_below time refusal,
    refl,
  )

  module _ (said : List Answered) (v : View) (behind : Behind v) (kept_so : IsKept v w) (n : NeighboursFit v w.asked) (s : Router) (up : r.time ≤ s.time)
      (known : AllByRecursion (IsKnownTable v s.time) r.tables) (met : IsMet v w.given s.time) (q : Open) (o : IsOpenOf v w.asked w.answered r q)
      (kind : WriteKind) (ordered : Bool) (statements : List Statement) (c : Course) (refusal : Refusal) (indices : List ℕ)
      (work : q.work ≡ writing kind ordered statements c) (next : IsGivenNext ordered statements c indices) where
    abbrev New : List (Option StatementOutcome)
    New = given_up ordered refusal indices c.answers

    abbrev Shown : Answered
    Shown = as_answered w.now (reply_to r s.time q (answer_of kind s.time (dones_from 0 New)))

    does : WorkFits o.request q.namespace (writing kind ordered statements c)
    does = subst (λ x. WorkFits o.request q.namespace x) work o.work

    seen : AreSeen v s.time o.request (writing kind ordered statements c)
    seen = subst (λ x. AreSeen v s.time o.request x) work (seen_grows v v r.time s.time o.request q.work (later_self v) up o.seen)

    well : GivesWell v (id_of r q.count) ordered (reach_in q.work) New
    well = fit.well v w.asked w.answered r q o kind ordered statements c refusal indices work next

    noted_given : (gave : Refusal → Type 0) → gave refusal → ((x : Refusal) → WasLacking v x → gave x) → reach_of (id_of r q.count) v.reached ≤ reach_in q.work
        → NotedFits gave v o.request s.time q.namespace kind ordered statements New
    noted_given gave why more reaching =
        let long : length c.answers ≡ length does.0.operations =
        does.6.long ∙ ap (λ (l : List Statement). length l) does.5 ∙ statements_long does.0.number o.request.id 0 does.0.operations in
        record {
          write = does.0;
          asks = does.1;
          is = does.2;
          name = does.3;
          order = does.4;
          all = does.5;
          long = given_long ordered refusal indices c.answers ∙ does.6.long;
          outcomes = given_outcomes gave (history_in v) s.time does.0 o.request.id refusal why ordered indices c.answers long
              (outcomes_weaken (WasLacking v) gave (history_in v) s.time does.0 o.request.id 0 c.answers more (seen does.0 does.1).0);
          front = well.front;
          begun = λ any. (seen does.0 does.1).2 (given_done ordered refusal indices c.answers any);
          cut = λ in_order. subst (λ i. AreCut v.reached i (dones_from 0 New)) (sym o.own) (well.cut in_order reaching);
        }

    told_given : (gave : Refusal → Type 0) → gave refusal → ((x : Refusal) → WasLacking v x → gave x)
        → ((x : Refusal) → gave x → IsGivenUp (account_in v w.asked said) o.request Shown x) → reach_of (id_of r q.count) v.reached ≤ reach_in q.work
        → is_answered ordered New ≡ true
        → IsToldRightly v w.asked said book.cursors s.time w.now (reply_to r s.time q (answer_of kind s.time (dones_from 0 New)))
    unfolding noted_given does
    told_given gave why more each reaching whole =
        let f = noted_given gave why more reaching in (
          answer_fits v w.asked w.answered said r s.time w.now q (answer_of kind s.time (dones_from 0 New)) book.cursors book.cursors o up
              (came_by w book at kept r good h reach o.request o.taken)
              (wrote_right gave v w.asked said book.cursors o.request Shown q.namespace kind ordered statements New each f
              (record {
                around = n;
                taken = o.taken;
                asks = does.1;
                own = o.own;
                came = all_weaken (λ (a : Asked). a.came < w.now + 1) (λ (a : Asked). a.came ≤ w.now) w.asked (λ a l. omega arith) good.came;
              }) whole refl),
          write_below s.time kind s.time (dones_from 0 New) (omega arith) (outcomes_below gave (history_in v) s.time does.0 o.request.id 0 New f.outcomes),
          refl,
        )

    -- what is noted, where it is answered
    reaches : TellsReach v.reached r q (gives_up r s.time q kind ordered statements c refusal indices) → is_answered ordered New ≡ true
        → reach_of (id_of r q.count) v.reached ≤ reach_in q.work
    reaches all whole =
        by_write (λ x. TellsReach v.reached r q x → reach_of (id_of r q.count) v.reached ≤ reach_in q.work) r s.time r.tables q false [] kind ordered statements
        (settled c New) (λ whole x. x) (λ open_yet none x. absurd (true_false (sym whole ∙ open_yet)))
        (λ open_yet x left some y. absurd (true_false (sym whole ∙ open_yet))) all

    -- for a lack
    pub gives_lack : WasLacking v refusal → AllByRecursion (IsNoted v.reached r) (stay_in (gives_up r s.time q kind ordered statements c refusal indices))
        → TellsReach v.reached r q (gives_up r s.time q kind ordered statements c refusal indices)
        → NextIs (IsOpenOf v w.asked w.answered (with_own r s)) (IsSaid v w.asked w.given) (IsToldRightly v w.asked said book.cursors s.time w.now)
        (gives_up r s.time q kind ordered statements c refusal indices)
    gives_lack lacking noted all =
        let more : HasMore c.answers New = given_more ordered refusal indices c.answers in
        write_goes v w.asked w.answered w.given r s met r.tables known (IsToldRightly v w.asked said book.cursors s.time w.now) false [] q
        (opener_of v w.asked w.answered r s.time q up o) kind ordered statements (settled c New)
        (record {
          write = does.0;
          asks = does.1;
          is = does.2;
          name = does.3;
          order = does.4;
          all = does.5;
          long = given_long ordered refusal indices c.answers ∙ does.6.long;
          front = well.front;
          outcomes = given_outcomes (WasLacking v) (history_in v) s.time does.0 o.request.id refusal lacking ordered indices c.answers
              (does.6.long ∙ ap (λ (l : List Statement). length l) does.5 ∙ statements_long does.0.number o.request.id 0 does.0.operations) (seen does.0 does.1).0;
          begun = λ any. (seen does.0 does.1).2 (given_done ordered refusal indices c.answers any);
          one = λ in_order. left_long New c.runs (does.6.one in_order);
          runs = left_fits v s.time does.0.namespace ordered statements c.answers New c.runs more (seen does.0 does.1).1;
          again_fits = tt;
          again_in = tt;
        })
        (λ whole. told_given (WasLacking v) lacking (λ x l. l) (λ x l. lack_given said v kept_so o.request Shown refl x l)
        (reaches all whole) whole) noted

    -- where all is answered
    pub gives_late : IsGivenUp (account_in v w.asked said) o.request Shown refusal → is_answered ordered New ≡ true
        → TellsReach v.reached r q (gives_up r s.time q kind ordered statements c refusal indices)
        → NextIs (IsOpenOf v w.asked w.answered (with_own r s)) (IsSaid v w.asked w.given) (IsToldRightly v w.asked said book.cursors s.time w.now)
        (gives_up r s.time q kind ordered statements c refusal indices)
    gives_late why whole all =
        by_write (NextIs (IsOpenOf v w.asked w.answered (with_own r s)) (IsSaid v w.asked w.given) (IsToldRightly v w.asked said book.cursors s.time w.now))
        r s.time r.tables q false [] kind ordered statements (settled c New)
        (λ answered. told_given (λ x. WasLacking v x ⊎ (x ≡ refusal)) (inr refl) (λ x l. inl l) (λ x g. by_reason x g) (reaches all whole) whole)
        (λ open_yet none. absurd (true_false (sym whole ∙ open_yet))) (λ open_yet x left some. absurd (true_false (sym whole ∙ open_yet)))
      where
        by_reason : (x : Refusal) → WasLacking v x ⊎ (x ≡ refusal) → IsGivenUp (account_in v w.asked said) o.request Shown x
        by_reason x (inl lacking) = lack_given said v kept_so o.request Shown refl x lacking
        by_reason x (inr is) = subst (λ y. IsGivenUp (account_in v w.asked said) o.request Shown y) (sym is) why

  -- A MESSAGE THAT REFUSES

  module _ (m : Letter) (comes : InputFits w book at (letter_input m)) where
    up_now : r.time ≤ heard r m
    up_now = omega arith

    met_now : IsMet (view_of w.nodes book) w.given (heard r m)
    met_now = heard_met w book at kept r good h reach m comes

    says_now : (v : View) → Behind v → (what : Refused) (cause : Cause) → m.body ≡ refused what cause → CauseFits v what cause
    says_now v behind what cause says = body_in w book at kept r good h reach m comes v behind (refused what cause) says

    one_owes : (id : RequestId) (turn first : ℕ) (cause : Cause) (q : Open) (next : Next) → m.body ≡ refused (of_request id turn first) cause
        → IsIn q r.requests → refused_next r (heard r m) q m.sender turn first cause ≡ Some next
        → Owes w book at (record { state = router_state r; kept = kept }) (goes_on next)
        (router_state (goes_to r (heard r m) r.moment r.tables (after_next q next r.requests) (as_before r)))
    one_owes id turn first cause q next says stands is =
        next_owes w book at kept r good h reach q next (heard r m) [] stands (refused_keeps r (heard r m) q m.sender turn first cause next is)
        (refused_raises r (heard r m) q m.sender turn first cause next (λ met same. never (view_of w.nodes book) (later_self (view_of w.nodes book), λ p other. refl) met same) is)
        up_now met_now tt (λ n other. refl)
        (λ said v behind chosen k n known met noted reaching.
        let o = all_at (IsOpenOf v w.asked w.answered r) q r.requests (each_open w book at kept r good h reach v behind chosen) stands in
        by_refused
        (λ x. AllByRecursion (IsNoted v.reached r) (stay_in x) → TellsReach v.reached r q x
        → NextIs (IsOpenOf v w.asked w.answered After) (IsSaid v w.asked w.given) (IsToldRightly v w.asked said book.cursors (heard r m) w.now) x)
        r (heard r m) q m.sender turn first cause next (record {
          stale_write = λ kind ordered statements c run met work same. absurd (never v behind met same);
          lack_write = λ kind ordered statements c run node lack work same has free noted reaching.
              gives_lack said v behind k n After up_now known met q o kind ordered statements c (lack_refusal node lack) run.indices work
              (given_run turn first run has free) (record { node = node; lack = lack; had = had v behind node lack same; is = refl }) noted reaching;
          stale_read = λ named time stages telling met work same. absurd (never v behind met same);
          lack_task = λ node lack same task noted reaching.
              task_told said v (heard r m) q o (lack_refusal node lack) up_now task
              (lack_given said v k o.request (as_answered w.now (reply_to r (heard r m) q (refusal_answer (lack_refusal node lack)))) refl (lack_refusal node lack)
              (record { node = node; lack = lack; had = had v behind node lack same; is = refl }));
        }) is noted reaching)
      where
        After : Router
        After = goes_to r (heard r m) r.moment r.tables (after_next q next r.requests) (as_before r)

        never : (v : View) → Behind v → (met : Version) → cause ≡ is_stale met → ⊥
        never v behind met same =
            subst (λ x. CauseFits v (of_request id turn first) x) same (says_now v behind (of_request id turn first) cause says)

        had : (v : View) → Behind v → (node : ℕ) (lack : Lack) → cause ≡ is_lack node lack → HasLack v node lack
        had v behind node lack same =
            subst (λ x. CauseFits v (of_request id turn first) x) same (says_now v behind (of_request id turn first) cause says)

    table_owes : (namespace : List ℕ) (create : Bool) (wanted : At) (node : ℕ) (lack : Lack) → m.body ≡ refused (of_table namespace create wanted) (is_lack node lack)
        → Owes w book at (record { state = router_state r; kept = kept })
        (go_on (table_refused r (heard r m) namespace create wanted (lack_refusal node lack)) r.requests)
        (router_state (goes_to r (heard r m) r.moment r.tables
        (left_by (λ q. table_refused r (heard r m) namespace create wanted (lack_refusal node lack) q) r.requests) (as_before r)))
    table_owes namespace create wanted node lack says =
        each_owes w book at kept r good h reach Becomes (heard r m) r.moment r.tables up_now met_now
        (λ q. no_table_keeps r (heard r m) namespace create wanted (lack_refusal node lack) q)
        (λ q. no_table_raises r (heard r m) namespace create wanted (lack_refusal node lack) q)
        (λ v behind. known_tables w book at kept r good h reach v behind (heard r m) up_now)
        (λ v behind k n known met q o.
        by_no_table
        (λ x. AllByRecursion (IsNoted v.reached r) (stay_in x) → TellsReach v.reached r q x
        → NextIs (IsOpenOf v w.asked w.answered After) (IsSaid v w.asked w.given) (IsToldRightly v w.asked Said book.cursors (heard r m) w.now) x)
        r (heard r m) namespace create wanted (lack_refusal node lack) q
        (λ noted reaching. (open_rises v w.asked w.answered r After q up_now o, tt))
        (λ kind ordered statements c work waits noted reaching.
        gives_lack Said v behind k n After up_now known met q o kind ordered statements c (lack_refusal node lack) (indices_of (unsent ordered statements c)) work
        given_unsent (lacking v behind) noted reaching)
        (λ task noted reaching.
        task_told Said v (heard r m) q o (lack_refusal node lack) up_now task
        (lack_given Said v k o.request (as_answered w.now (reply_to r (heard r m) q (refusal_answer (lack_refusal node lack)))) refl (lack_refusal node lack)
        (lacking v behind))))
      where
        Becomes : Open → Next
        Becomes q = table_refused r (heard r m) namespace create wanted (lack_refusal node lack) q

        Said : List Answered
        Said = w.answered ++ answered_by w.now (told_by Becomes r.requests)

        After : Router
        After = goes_to r (heard r m) r.moment r.tables (left_by Becomes r.requests) (as_before r)

        lacking : (v : View) → Behind v → WasLacking v (lack_refusal node lack)
        lacking v behind = record { node = node; lack = lack; had = says_now v behind (of_table namespace create wanted) (is_lack node lack) says; is = refl }

  -- A MOMENT

  moment_owes : (moment : ℕ) → InputFits w book at (moment_input moment)
      → Owes w book at (record { state = router_state r; kept = kept }) (go_on (at_moment r (max r.time (time_of_moment moment)) moment) r.requests)
      (router_state (goes_to r (max r.time (time_of_moment moment)) moment r.tables
      (left_by (λ q. at_moment r (max r.time (time_of_moment moment)) moment q) r.requests) (as_before r)))
  moment_owes moment comes =
      each_owes w book at kept r good h reach Becomes Time moment r.tables up_now (met_max (view_of w.nodes book) w.given r.time (time_of_moment moment) h.met comes.0)
      (λ q. moment_keeps r Time moment q) (λ q. moment_raises r Time moment q) (λ v behind. known_tables w book at kept r good h reach v behind Time up_now)
      (λ v behind k n known met q o.
      by_moment
      (λ x. AllByRecursion (IsNoted v.reached r) (stay_in x) → TellsReach v.reached r q x
      → NextIs (IsOpenOf v w.asked w.answered After) (IsSaid v w.asked w.given) (IsToldRightly v w.asked Said book.cursors Time w.now) x)
      r Time moment q
      (λ noted reaching. asks v q o met noted.0)
      (λ late kind ordered statements c work free noted reaching.
      gives_late Said v behind k n After up_now known met q o kind ordered statements c (expired_refusal q.arrived moment)
      (indices_of (unanswered statements c.answers)) work (given_open free)
      (why v k q o late (as_answered w.now (reply_to r Time q (answer_of kind Time
      (dones_from 0 (given_up ordered (expired_refusal q.arrived moment) (indices_of (unanswered statements c.answers)) c.answers))))) refl)
      (fit.answered v w.asked w.answered r q o kind ordered statements c (expired_refusal q.arrived moment) work) reaching)
      (λ late task noted reaching.
      task_told Said v Time q o (expired_refusal q.arrived moment) up_now task
      (why v k q o late (as_answered w.now (reply_to r Time q (refusal_answer (expired_refusal q.arrived moment)))) refl)))
    where
      Time : ℕ
      Time = max r.time (time_of_moment moment)

      up_now : r.time ≤ max r.time (time_of_moment moment)
      up_now = omega arith

      Becomes : Open → Next
      Becomes q = at_moment r Time moment q

      Said : List Answered
      Said = w.answered ++ answered_by w.now (told_by Becomes r.requests)

      After : Router
      After = goes_to r Time moment r.tables (left_by Becomes r.requests) (as_before r)

      asks : (v : View) (q : Open) → IsOpenOf v w.asked w.answered r q → IsMet v w.given Time → IsNoted v.reached r q
          → IsOpenOf v w.asked w.answered After q × AllByRecursion (IsSaid v w.asked w.given) (asks_again r Time q)
      asks v q o met noted =
          let p = open_rises v w.asked w.answered r After q up_now o in (
            p,
            again_fits v w.asked w.given r Time met q p.request p.taken p.own p.past p.work p.seen p.reached p.sent noted,
          )

      both_true : (a b : Bool) → (a && b) ≡ true → (a ≡ true) × (b ≡ true)
      both_true true b e = (refl, e)
      both_true false b e = absurd (cc)

      why : (v : View) → IsKept v w → (q : Open) (o : IsOpenOf v w.asked w.answered r q) → is_expired q moment ≡ true → (t : Answered) → t.step ≡ w.now
          → IsGivenUp (account_in v w.asked Said) o.request t (expired_refusal q.arrived moment)
      why v k q o late t now =
          let parts = both_true (nat_lt 0 (time_limit q.request)) (nat_le (q.arrived + time_limit q.request) moment) late in
          let limited : 0 < time_limit q.request = ltb-true 0 (time_limit q.request) parts.0 in
          let passed : q.arrived + time_limit q.request ≤ moment = leb-true (q.arrived + time_limit q.request) moment parts.1 in
          let limit : time_limit o.request.request ≡ time_limit q.request = ap (λ x. time_limit x) o.asks in
          let arrived = o.arrived in
          subst (λ x. IsGivenUp (account_in v w.asked Said) o.request t (expired_refusal x moment)) o.arrived
          (given_up_late moment (record {
            given = record { node = at; moment = moment; step = w.now };
            had = subst (λ l. IsIn (record { node = at; moment = moment; step = w.now }) l) (sym k.given) comes.1;
            own = sym h.state.own ∙ ap (λ (i : RequestId). i.router) (sym o.own);
            moment = refl;
            after = all_at (λ (a : Asked). a.came < w.now) o.request w.asked comes.2 o.taken;
            same = sym now;
            limited = omega (arith, limited, limit);
            passed = omega (arith, passed, limit, arrived);
          }))

  -- ALL THREE

  rests : RestOwes w book at kept r
  rests = record {
    refused_one = λ m id turn first cause q next comes says found is. one_owes m comes id turn first cause q next says (open_of_found r id q found).stands is;
    refused_table = λ m namespace create wanted node lack comes says. table_owes m comes namespace create wanted node lack says;
    given_moment = λ moment begun comes. moment_owes moment comes;
  }

pub all_rest : GivesFit → AllRest
all_rest fit = λ w book at kept r good h reach. rests fit w book at kept r good h reach
