-- A request is answered where what it waits for is given up: currently that is all that it has to do.
use Rattle.std.proofs.Common.{◌≡◌, ◌⊎◌, inl, inr, ℕ, zero, suc, ◌<◌, List, [], ◌∷◌, refl, sym, ap, subst, ◌∙◌, arith, Bool}
use Rattle.std.specs.Prelude.{Option, Some, None, is_some, true, false, not, length, ◌&&◌, if◌then◌else◌}
use Rattle.base_model.specs.Refusals.{Refusal}
use Rattle.command_model.specs.Writes.{WriteKind}
use Rattle.history_model.specs.History.{IsIn}
use Rattle.history_model.proofs.Lists.{in_first, in_cons, in_none}
use Rattle.chunk_model.specs.Versions.{Version}
use Rattle.reply_model.specs.Accounts.{Lack}
use Rattle.reply_model.specs.Outcomes.{StatementOutcome, was_refused, refusal_in, has_outcome, with_outcome, lack_refusal}
use Rattle.node_model.specs.Letters.{At, Statement, Cause, is_stale, is_lack, Letter}
use Rattle.node_model.specs.RouterRequests.{indices_of, unanswered, unsent}
use Rattle.node_model.specs.RouterNext.{has_before, is_answered, settled, with_outcomes, given_up, Next, stays, is_told, write_on, refused_next, table_refused, asks_again, at_moment}
use Rattle.node_model.specs.States.{Run, Course, Wait, for_time, for_catalogue, for_shards, writing, Open, Router}
use Rattle.node_laws.proofs.NextCases.{by_write}
use Rattle.node_laws.proofs.Outcomes.{HasMore, with_long, with_more}
use Rattle.node_replay.specs.Acknowledged.{says_lacking}
use Rattle.node_replay.proofs.GivenUp.{AreGivenUp, of_run, of_unanswered, of_unsent, IsCourseAfter, after_given_up, after_later_table, GoesOn, write_goes, read_goes, is_answered as is_refused, StaysOrGoes, just_stays, goes_on, refused_goes, table_refused_goes, moment_goes}
use Rattle.node_progress.proofs.Members.{in_map, in_filter, in_filtered, is_false}
use Rattle.node_progress.proofs.OneRun.{AreStated, HasNext, going_of, all_unsent}
use Rattle.node_progress.proofs.Lateness.{IsGoing, WaitFits, only_one_run}
use Rattle.node_progress.proofs.RouterWaits.{IsWaiting}

abbrev Answers : Type 0
Answers = List (Option StatementOutcome)

-- OUTCOMES

with_here : (index : ℕ) (x : StatementOutcome) (answers : Answers) → index < length answers → has_outcome (with_outcome index x answers) index ≡ true
with_here index x [] less = absurd (omega (arith, less))
with_here zero x (None ∷ answers) less = refl
with_here zero x (Some y ∷ answers) less = refl
with_here (suc index) x (y ∷ answers) less = with_here index x answers (omega (arith, less))

with_all_long : (indices : List ℕ) (x : StatementOutcome) (answers : Answers) → length (with_outcomes indices x answers) ≡ length answers
with_all_long [] x answers = refl
with_all_long (index ∷ indices) x answers = with_long index x (with_outcomes indices x answers) ∙ with_all_long indices x answers

with_all_more : (indices : List ℕ) (x : StatementOutcome) (answers : Answers) → HasMore answers (with_outcomes indices x answers)
with_all_more [] x answers i has = has
with_all_more (index ∷ indices) x answers i has = with_more index x (with_outcomes indices x answers) i (with_all_more indices x answers i has)

each_here : (indices : List ℕ) (x : StatementOutcome) (answers : Answers) (i : ℕ) → IsIn i indices → i < length answers
    → has_outcome (with_outcomes indices x answers) i ≡ true
each_here [] x answers i there less = absurd (in_none i there)
each_here (index ∷ indices) x answers i there less = by_place (in_cons i index indices there) (λ j. each_here indices x answers i j less)
  where
    by_place : (i ≡ index) ⊎ IsIn i indices → (IsIn i indices → has_outcome (with_outcomes indices x answers) i ≡ true)
        → has_outcome (with_outcome index x (with_outcomes indices x answers)) i ≡ true
    by_place (inl same) later =
        ap (λ n. has_outcome (with_outcome index x (with_outcomes indices x answers)) n) same
        ∙ with_here index x (with_outcomes indices x answers) (let l = with_all_long indices x answers in omega (arith, same, less, l))
    by_place (inr j) later = with_more index x (with_outcomes indices x answers) i (later j)

-- the outcome of the first statement that is not answered ends an ordered write
ends_there : (index : ℕ) (refusal : Refusal) (answers : Answers) → has_before index answers ≡ true → index < length answers → has_outcome answers index ≡ false
    → is_answered true (with_outcome index (was_refused refusal) answers) ≡ true
ends_there index refusal [] before less none = absurd (omega (arith, less))
ends_there zero refusal (None ∷ answers) before less none = refl
ends_there zero refusal (Some y ∷ answers) before less none = absurd (cc none)
ends_there (suc index) refusal (None ∷ answers) before less none = absurd (cc before)
ends_there (suc index) refusal (Some y ∷ answers) before less none =
    by_test (is_some (refusal_in y)) (ends_there index refusal answers before (omega (arith, less)) none)
  where
    by_test : (b : Bool) → is_answered true (with_outcome index (was_refused refusal) answers) ≡ true
        → (if true && b then true else is_answered true (with_outcome index (was_refused refusal) answers)) ≡ true
    by_test true more = refl
    by_test false more = more

each_given_up : (refusal : Refusal) (indices : List ℕ) (answers : Answers) → given_up false refusal indices answers ≡ with_outcomes indices (was_refused refusal) answers
each_given_up refusal [] answers = refl
each_given_up refusal (index ∷ indices) answers = refl

-- where all statements that are not answered are given up, the write is answered
pub all_given_up : (ordered : Bool) (refusal : Refusal) (statements : List Statement) (answers : Answers) → AreStated statements answers
    → HasNext statements answers → is_answered ordered (given_up ordered refusal (indices_of (unanswered statements answers)) answers) ≡ true
all_given_up true refusal statements answers stated n =
    ap (λ l. is_answered true (given_up true refusal (indices_of l) answers)) n.left
    ∙ ends_there n.first.number.index refusal answers n.next.before n.next.within n.next.missing
all_given_up false refusal statements answers stated n =
    ap (λ l. is_answered false l) (each_given_up refusal indices answers) ∙ by_answered (is_answered false new) refl
  where
    indices : List ℕ
    indices = indices_of (unanswered statements answers)

    new : Answers
    new = with_outcomes indices (was_refused refusal) answers

    stated_new : AreStated statements new
    stated_new = record {
      given = stated.given;
      id = stated.id;
      operations = stated.operations;
      are = stated.are;
      keys = stated.keys;
      long = with_all_long indices (was_refused refusal) answers ∙ stated.long;
    }

    -- a statement that has no outcome then had none, and was given up
    none_left : HasNext statements new → ⊥
    none_left m = by_old (has_outcome answers m.first.number.index) refl
      where
        found : IsIn m.first statements × (not (has_outcome new m.first.number.index) ≡ true)
        found = in_filtered (λ (s : Statement). not (has_outcome new s.number.index)) m.first statements
            (subst (λ l. IsIn m.first l) (sym m.left) (in_first m.first m.more))

        missing : has_outcome new m.first.number.index ≡ false
        missing = is_false (has_outcome new m.first.number.index) found.1

        by_old : (b : Bool) → has_outcome answers m.first.number.index ≡ b → ⊥
        by_old true has =
            let still : has_outcome new m.first.number.index ≡ true = with_all_more indices (was_refused refusal) answers m.first.number.index has in
            cc (still, missing)
        by_old false none =
            let among : IsIn m.first (unanswered statements answers) =
            in_filter (λ (s : Statement). not (has_outcome answers s.number.index)) m.first statements found.0 (ap (λ b. not b) none) in
            let one : IsIn m.first.number.index indices = in_map (λ (s : Statement). s.number.index) m.first (unanswered statements answers) among in
            let within = m.next.within in
            let long = with_all_long indices (was_refused refusal) answers in
            let has : has_outcome new m.first.number.index ≡ true =
            each_here indices (was_refused refusal) answers m.first.number.index one (omega (arith, within, long)) in
            cc (has, missing)

    by_answered : (b : Bool) → is_answered false new ≡ b → is_answered false new ≡ true
    by_answered true h = h
    by_answered false h = absurd (none_left (going_of false statements new stated_new h))

-- these are all that are not answered
all_of_it : (wait : Wait) (kind : WriteKind) (ordered : Bool) (statements : List Statement) (c : Course) (indices : List ℕ)
    → WaitFits (writing kind ordered statements c) wait → AreGivenUp wait ordered statements c indices → indices ≡ indices_of (unanswered statements c.answers)
all_of_it wait kind ordered statements c _ fits (of_run run there) = by_wait wait fits
  where
    by_wait : (w : Wait) → WaitFits (writing kind ordered statements c) w → run.indices ≡ indices_of (unanswered statements c.answers)
    by_wait for_time fit = absurd fit
    by_wait for_catalogue fit = absurd (in_none run (subst (λ l. IsIn run l) fit there))
    by_wait for_shards fit =
        let same : run ≡ fit.run = only_one_run run fit.run (subst (λ l. IsIn run l) fit.alone there) in
        ap (λ (x : Run). x.indices) same ∙ fit.all
all_of_it wait kind ordered statements c _ fits of_unanswered = refl
all_of_it wait kind ordered statements c _ fits (of_unsent is) =
    let none : c.runs ≡ [] = subst (λ w. WaitFits (writing kind ordered statements c) w) is fits in
    ap (λ runs. indices_of (unsent ordered statements (record { answers = c.answers; tries = c.tries; runs = runs }))) none
    ∙ ap (λ l. indices_of l) (all_unsent ordered statements c.tries c.answers)

-- WHAT IS NEXT

abbrev pub IsOver : Next → Type 0
IsOver (stays q letters) = ⊥
IsOver (is_told reply) = Unit {0}

-- of an open write its statements and outcomes are known
abbrev pub HasStated : Open → Type 0
HasStated q = (kind : WriteKind) (ordered : Bool) (statements : List Statement) (c : Course) → q.work ≡ writing kind ordered statements c
    → AreStated statements c.answers

-- it stays, with these messages, or is answered
pub data StaysOrOver (q : Open) (mail : List Letter) : Next → Type 0 where
  stays_open : StaysOrOver q mail (stays q mail)
  is_over : (next : Next) → IsOver next → StaysOrOver q mail next

module _ (r : Router) (time : ℕ) (q : Open) (waiting : IsWaiting q) (stated : HasStated q) where
  write_over : (asks : Bool) (kind : WriteKind) (ordered : Bool) (statements : List Statement) (c d : Course) → q.work ≡ writing kind ordered statements c
      → IsCourseAfter ⊥ q.wait ordered statements c d → IsOver (write_on r time r.tables asks [] q kind ordered statements d)
  write_over asks kind ordered statements c _ is (after_given_up refusal indices says given) =
      by_write IsOver r time r.tables q asks [] kind ordered statements (settled c (given_up ordered refusal indices c.answers)) (λ told. tt)
      (λ h none. absurd (cc (all, h))) (λ h s left some. absurd (cc (all, h)))
    where
      fits : WaitFits (writing kind ordered statements c) q.wait
      fits = subst (λ w. WaitFits w q.wait) is waiting.fits

      going : HasNext statements c.answers
      going = subst (λ w. IsGoing w) is waiting.going

      all : is_answered ordered (given_up ordered refusal indices c.answers) ≡ true
      all = ap (λ l. is_answered ordered (given_up ordered refusal l c.answers)) (all_of_it q.wait kind ordered statements c indices fits given)
          ∙ all_given_up ordered refusal statements c.answers (stated kind ordered statements c is) going
  write_over asks kind ordered statements c _ is (after_later_table never run met there) = absurd never

  goes_over : (next : Next) → GoesOn ⊥ r time q next → IsOver next
  goes_over _ (write_goes asks kind ordered statements c d is course) = write_over asks kind ordered statements c d is course
  goes_over _ (read_goes never met named at stages telling is waits) = absurd never
  goes_over _ (is_refused answer plain) = tt

  -- what was sent for it is refused, not because of a later table
  pub refused_over : (sender turn first : ℕ) (cause : Cause) (next : Next) → ((met : Version) → cause ≡ is_stale met → ⊥)
      → refused_next r time q sender turn first cause ≡ Some next → IsOver next
  refused_over sender turn first (is_stale met) next other is = absurd (other met refl)
  refused_over sender turn first (is_lack node lack) next other is = goes_over next (refused_goes r time q sender turn first (is_lack node lack) next is)

  stays_or_over : (mail : List Letter) (next : Next) → StaysOrGoes r time q (stays q mail) next → StaysOrOver q mail next
  stays_or_over mail _ just_stays = stays_open
  stays_or_over mail _ (goes_on next goes) = is_over next (goes_over next goes)

  -- a request for a table is refused, or a moment is given
  pub table_over : (namespace : List ℕ) (create : Bool) (at : At) (node : ℕ) (lack : Lack)
      → StaysOrOver q [] (table_refused r time namespace create at (lack_refusal node lack) q)
  table_over namespace create at node lack =
      stays_or_over [] (table_refused r time namespace create at (lack_refusal node lack) q)
      (table_refused_goes r time q namespace create at (lack_refusal node lack) (says_lacking node lack))

  pub moment_over : (moment : ℕ) → StaysOrOver q (asks_again r time q) (at_moment r time moment q)
  moment_over moment = stays_or_over (asks_again r time q) (at_moment r time moment q) (moment_goes r time q moment)
