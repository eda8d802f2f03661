-- What becomes of an open request where what was sent for it is refused, where it met a later table, or where its time limit has passed, by cases.
use Rattle.std.proofs.Common.{◌≡◌, ℕ, List, [], ◌∷◌, refl, sym, subst, Bool}
use Rattle.std.specs.Prelude.{length, Option, Some, None, true, false, not, ◌==◌, ◌&&◌, if◌then◌else◌}
use Rattle.std.specs.List.{list_any}
use Rattle.std.specs.Str.{bytes_eq}
use Rattle.base_model.specs.Refusals.{Refusal}
use Rattle.command_model.specs.Answers.{Answer, refusal_answer}
use Rattle.command_model.specs.Writes.{WriteKind}
use Rattle.history_model.proofs.Lists.{in_first, in_later}
use Rattle.history_model.specs.History.{IsIn}
use Rattle.chunk_model.specs.Tables.{table_of}
use Rattle.chunk_model.specs.Versions.{Version}
use Rattle.pipeline_model.specs.Stages.{Stage}
use Rattle.reply_model.specs.Outcomes.{StatementOutcome, was_refused, Try, most_tries, stale_refusal, expired_refusal, lack_refusal, with_outcome}
use Rattle.node_model.specs.Letters.{At, Statement, Cause, is_stale, is_lack}
use Rattle.node_model.specs.RouterRequests.{turn_after, tries_at, indices_of, unanswered, unsent, first_index, turn_of}
use Rattle.node_model.specs.RouterNext.{reply_to, settled, is_target, awaited, also_tried, Next, stays, is_told, is_for_catalogue, write_on, read_on, with_outcomes, given_up, is_bound, gives_up, run_with, worn_out, after_stale, is_below, write_refused, read_refused, task_refused, refused_next, wants_table, table_refused, asks_again, is_expired, at_moment}
use Rattle.node_model.specs.States.{Run, Course, Telling, Work, writing, reading, sharding, splitting, Wait, for_time, for_catalogue, for_shards, Open, Router}
use Rattle.node_replay.specs.Acknowledged.{SaysGivenUp, says_stale, says_late, says_lacking}

abbrev Answers : Type 0
Answers = List (Option StatementOutcome)

-- OUTCOMES OF STATEMENTS THAT ARE GIVEN UP

-- what stays true where a statement is given up
abbrev pub StaysGivenUp : (Answers → Type 0) → Type 0
StaysGivenUp P = (index : ℕ) (refusal : Refusal) (answers : Answers) → SaysGivenUp refusal → P answers → P (with_outcome index (was_refused refusal) answers)

module _ (P : Answers → Type 0) (keeps : StaysGivenUp P) (answers : Answers) (here : P answers) where
  each_given_up : (refusal : Refusal) (indices : List ℕ) → SaysGivenUp refusal → P (with_outcomes indices (was_refused refusal) answers)
  each_given_up refusal [] says = here
  each_given_up refusal (index ∷ indices) says =
      keeps index refusal (with_outcomes indices (was_refused refusal) answers) says (each_given_up refusal indices says)

  pub given_up_keeps : (ordered : Bool) (refusal : Refusal) (indices : List ℕ) → SaysGivenUp refusal → P (given_up ordered refusal indices answers)
  given_up_keeps ordered refusal [] says = here
  given_up_keeps true refusal (index ∷ indices) says = keeps index refusal answers says here
  given_up_keeps false refusal (index ∷ indices) says = each_given_up refusal (index ∷ indices) says

  pub worn_out_keeps : (ordered : Bool) (indices : List ℕ) (tries : List (List Try)) → P (worn_out ordered indices tries answers)
  worn_out_keeps ordered [] tries = here
  worn_out_keeps ordered (index ∷ indices) tries =
      by_test (length (tries_at index tries) == most_tries) (if ordered then answers else worn_out ordered indices tries answers)
      (others ordered (worn_out_keeps ordered indices tries))
    where
      others : (b : Bool) → P (worn_out ordered indices tries answers) → P (if b then answers else worn_out ordered indices tries answers)
      others true more = here
      others false more = more

      by_test : (b : Bool) (rest : Answers) → P rest
          → P (if b then with_outcome index (was_refused (stale_refusal (tries_at index tries))) rest else rest)
      by_test true rest more = keeps index (stale_refusal (tries_at index tries)) rest (says_stale (tries_at index tries)) more
      by_test false rest more = more

-- WHAT A WRITE HAS THEN

-- the statements that are given up: those of a run, or those that are not answered, or, where the catalogue is waited for, those that are not sent
pub data AreGivenUp (wait : Wait) (ordered : Bool) (statements : List Statement) (c : Course) : List ℕ → Type 0 where
  of_run : (run : Run) → IsIn run c.runs → AreGivenUp wait ordered statements c run.indices
  of_unanswered : AreGivenUp wait ordered statements c (indices_of (unanswered statements c.answers))
  of_unsent : wait ≡ for_catalogue → AreGivenUp wait ordered statements c (indices_of (unsent ordered statements c))

-- the course after statements were given up, or met a later table, where one did
pub data IsCourseAfter (again : Type 0) (wait : Wait) (ordered : Bool) (statements : List Statement) (c : Course) : Course → Type 0 where
  after_given_up : (refusal : Refusal) (indices : List ℕ) → SaysGivenUp refusal → AreGivenUp wait ordered statements c indices
      → IsCourseAfter again wait ordered statements c (settled c (given_up ordered refusal indices c.answers))
  after_later_table : again → (run : Run) (met : Version) → IsIn run c.runs → IsCourseAfter again wait ordered statements c (after_stale ordered c run met)

-- WHAT BECOMES OF A REQUEST

abbrev pub IsNoWriting : Work → Type 0
IsNoWriting (writing kind ordered statements c) = ⊥
IsNoWriting (reading named at stages telling) = Unit {0}
IsNoWriting sharding = Unit {0}
IsNoWriting (splitting middle) = Unit {0}

-- a write goes on; a read is tried again, where one met a later table; or it is told why it is given up
pub data GoesOn (again : Type 0) (r : Router) (time : ℕ) (q : Open) : Next → Type 0 where
  write_goes : (asks : Bool) (kind : WriteKind) (ordered : Bool) (statements : List Statement) (c d : Course) → q.work ≡ writing kind ordered statements c
      → IsCourseAfter again q.wait ordered statements c d → GoesOn again r time q (write_on r time r.tables asks [] q kind ordered statements d)
  read_goes : again → (met : Version) (named : Bool) (at : ℕ) (stages : List Stage) (telling : Telling) → q.work ≡ reading named at stages telling → q.wait ≡ for_shards
      → GoesOn again r time q (read_on r time r.tables true (also_tried q met) named at stages telling)
  is_answered : (answer : Answer) → IsNoWriting q.work → GoesOn again r time q (is_told (reply_to r time q answer))

-- it stays as it is, with these messages, or goes on
pub data StaysOrGoes (r : Router) (time : ℕ) (q : Open) (mail : Next) : Next → Type 0 where
  just_stays : StaysOrGoes r time q mail mail
  goes_on : (next : Next) → GoesOn ⊥ r time q next → StaysOrGoes r time q mail next

-- the cause is a later table
abbrev pub IsLaterTable : Cause → Type 0
IsLaterTable (is_stale met) = Unit {0}
IsLaterTable (is_lack node lack) = ⊥

-- A REFUSAL

found_run : (turn first : ℕ) (c : Course) (runs : List Run) (run : Run) → run_with turn first c runs ≡ Some run → IsIn run runs
found_run turn first c [] run same = absurd (cc)
found_run turn first c (x ∷ runs) run same =
    by_test ((first_index x.indices == first) && (turn_of c x == turn)) same (λ more. found_run turn first c runs run more)
  where
    by_test : (b : Bool) → (if b then Some x else run_with turn first c runs) ≡ Some run → (run_with turn first c runs ≡ Some run → IsIn run runs)
        → IsIn run (x ∷ runs)
    by_test true is more = let e : x ≡ run = cc in subst (λ y. IsIn run (y ∷ runs)) (sym e) (in_first run runs)
    by_test false is more = in_later run x runs (more is)

some_next : (a b : Next) → Some a ≡ Some b → a ≡ b
some_next a b e = cc

none_next : {X : Type 0} (next : Next) → None ≡ Some next → X
none_next next e = absurd (cc)

module _ (r : Router) (time : ℕ) (q : Open) where
  is_one : {again : Type 0} (a next : Next) → Some a ≡ Some next → GoesOn again r time q a → GoesOn again r time q next
  is_one {again} a next same goes = subst (λ x. GoesOn again r time q x) (some_next a next same) goes

  write_refused_goes : (cause : Cause) (kind : WriteKind) (ordered : Bool) (statements : List Statement) (c : Course) (run : Run) (next : Next)
      → q.work ≡ writing kind ordered statements c → IsIn run c.runs → write_refused r time q cause kind ordered statements c run ≡ Some next
      → GoesOn (IsLaterTable cause) r time q next
  write_refused_goes (is_stale met) kind ordered statements c run next is there same =
      is_one _ next same (write_goes (is_below (table_of q.namespace r.tables) met) kind ordered statements c _ is (after_later_table tt run met there))
  write_refused_goes (is_lack node lack) kind ordered statements c run next is there same = by_test (is_bound ordered (run ∷ [])) same
    where
      by_test : (b : Bool) → (if b then None else Some (gives_up r time q kind ordered statements c (lack_refusal node lack) run.indices)) ≡ Some next → GoesOn ⊥ r time q next
      by_test true e = none_next next e
      by_test false e =
          is_one _ next e
          (write_goes false kind ordered statements c _ is (after_given_up (lack_refusal node lack) run.indices (says_lacking node lack) (of_run run there)))

  read_refused_goes : (cause : Cause) (named : Bool) (at : ℕ) (stages : List Stage) (telling : Telling) → q.work ≡ reading named at stages telling
      → q.wait ≡ for_shards → GoesOn (IsLaterTable cause) r time q (read_refused r time q cause named at stages telling)
  read_refused_goes (is_lack node lack) named at stages telling is waits =
      is_answered (refusal_answer (lack_refusal node lack)) (subst (λ w. IsNoWriting w) (sym is) tt)
  read_refused_goes (is_stale met) named at stages telling is waits = by_test (length (also_tried q met).tries == most_tries)
    where
      by_test : (b : Bool) → GoesOn (Unit {0}) r time q (if b then is_told (reply_to r time (also_tried q met) (refusal_answer (stale_refusal (also_tried q met).tries)))
          else read_on r time r.tables true (also_tried q met) named at stages telling)
      by_test true = is_answered (refusal_answer (stale_refusal (also_tried q met).tries)) (subst (λ w. IsNoWriting w) (sym is) tt)
      by_test false = read_goes tt met named at stages telling is waits

  task_refused_goes : (turn first : ℕ) (cause : Cause) (next : Next) → IsNoWriting q.work → task_refused r time q turn first cause ≡ Some next
      → GoesOn (IsLaterTable cause) r time q next
  task_refused_goes turn first (is_stale met) next plain same = none_next next same
  task_refused_goes turn first (is_lack node lack) next plain same = by_test ((turn == 0) && (first == 0)) same
    where
      by_test : (b : Bool) → (if b then Some (is_told (reply_to r time q (refusal_answer (lack_refusal node lack)))) else None) ≡ Some next
          → GoesOn ⊥ r time q next
      by_test true e = is_one _ next e (is_answered (refusal_answer (lack_refusal node lack)) plain)
      by_test false e = none_next next e

  pub refused_goes : (sender turn first : ℕ) (cause : Cause) (next : Next) → refused_next r time q sender turn first cause ≡ Some next
      → GoesOn (IsLaterTable cause) r time q next
  refused_goes sender turn first cause next same = by_work q.work refl same
    where
      by_run : (kind : WriteKind) (ordered : Bool) (statements : List Statement) (c : Course) → q.work ≡ writing kind ordered statements c
          → (o : Option Run) → run_with turn first c c.runs ≡ o → elim o as (λ (o : Option Run). Option Next) [
            | None ↦ None
            | Some run ↦ write_refused r time q cause kind ordered statements c run
          ] ≡ Some next → GoesOn (IsLaterTable cause) r time q next
      by_run kind ordered statements c is None h e = none_next next e
      by_run kind ordered statements c is (Some run) h e =
          write_refused_goes cause kind ordered statements c run next is (found_run turn first c c.runs run h) e

      by_told : (plain : IsNoWriting q.work) (b : Bool) → (if b then None else task_refused r time q turn first cause) ≡ Some next
          → GoesOn (IsLaterTable cause) r time q next
      by_told plain true e = none_next next e
      by_told plain false e = task_refused_goes turn first cause next plain e

      by_part : (named : Bool) (at : ℕ) (stages : List Stage) (telling : Telling) → q.work ≡ reading named at stages telling → q.wait ≡ for_shards → (b : Bool)
          → (if b then Some (read_refused r time q cause named at stages telling) else None) ≡ Some next → GoesOn (IsLaterTable cause) r time q next
      by_part named at stages telling is waits true e = is_one _ next e (read_refused_goes cause named at stages telling is waits)
      by_part named at stages telling is waits false e = none_next next e

      by_wait : (named : Bool) (at : ℕ) (stages : List Stage) (telling : Telling) → q.work ≡ reading named at stages telling → (wait : Wait) → q.wait ≡ wait
          → elim wait as (λ (w : Wait). Option Next) [
            | for_time ↦ if list_any (λ t. t == sender) q.told then None else task_refused r time q turn first cause
            | for_catalogue ↦ None
            | for_shards ↦
                if (turn == turn_after q.tries) && ((first == 0) && is_target sender (awaited q.targets q.parts))
                then Some (read_refused r time q cause named at stages telling) else None
          ] ≡ Some next → GoesOn (IsLaterTable cause) r time q next
      by_wait named at stages telling is for_time h e =
          by_told (subst (λ w. IsNoWriting w) (sym is) tt) (list_any (λ t. t == sender) q.told) e
      by_wait named at stages telling is for_catalogue h e = none_next next e
      by_wait named at stages telling is for_shards h e =
          by_part named at stages telling is h ((turn == turn_after q.tries) && ((first == 0) && is_target sender (awaited q.targets q.parts))) e

      by_work : (work : Work) → q.work ≡ work → elim work as (λ (w : Work). Option Next) [
        | writing kind ordered statements c ↦ elim (run_with turn first c c.runs) [ None ↦ None | Some run ↦ write_refused r time q cause kind ordered statements c run ]
        | reading named at stages telling ↦ elim q.wait [
          | for_time ↦ if list_any (λ t. t == sender) q.told then None else task_refused r time q turn first cause
          | for_catalogue ↦ None
          | for_shards ↦
              if (turn == turn_after q.tries) && ((first == 0) && is_target sender (awaited q.targets q.parts))
              then Some (read_refused r time q cause named at stages telling) else None
        ]
        | sharding ↦ None
        | splitting middle ↦ task_refused r time q turn first cause
      ] ≡ Some next → GoesOn (IsLaterTable cause) r time q next
      by_work (writing kind ordered statements c) is e = by_run kind ordered statements c is (run_with turn first c c.runs) refl e
      by_work (reading named at stages telling) is e = by_wait named at stages telling is q.wait refl e
      by_work sharding is e = none_next next e
      by_work (splitting middle) is e = task_refused_goes turn first cause next (subst (λ w. IsNoWriting w) (sym is) tt) e

  -- a request for a table was refused
  pub table_refused_goes : (namespace : List ℕ) (create : Bool) (at : At) (refusal : Refusal) → SaysGivenUp refusal
      → StaysOrGoes r time q (stays q []) (table_refused r time namespace create at refusal q)
  table_refused_goes namespace create at refusal says =
      by_test (is_for_catalogue q.wait && (bytes_eq q.namespace namespace && wants_table q.work create at)) refl
    where
      catalogue : (w : Wait) (b : Bool) → (is_for_catalogue w && b) ≡ true → w ≡ for_catalogue
      catalogue for_time b h = absurd (cc h)
      catalogue for_catalogue b h = refl
      catalogue for_shards b h = absurd (cc h)

      by_work : q.wait ≡ for_catalogue → (work : Work) → q.work ≡ work → StaysOrGoes r time q (stays q []) (elim work as (λ (w : Work). Next) [
        | writing kind ordered statements c ↦ gives_up r time q kind ordered statements c refusal (indices_of (unsent ordered statements c))
        | reading named wanted stages telling ↦ is_told (reply_to r time q (refusal_answer refusal))
        | sharding ↦ is_told (reply_to r time q (refusal_answer refusal))
        | splitting middle ↦ stays q []
      ])
      by_work wait (writing kind ordered statements c) is =
          goes_on _
          (write_goes false kind ordered statements c _ is (after_given_up refusal (indices_of (unsent ordered statements c)) says (of_unsent wait)))
      by_work wait (reading named wanted stages telling) is = goes_on _ (is_answered (refusal_answer refusal) (subst (λ w. IsNoWriting w) (sym is) tt))
      by_work wait sharding is = goes_on _ (is_answered (refusal_answer refusal) (subst (λ w. IsNoWriting w) (sym is) tt))
      by_work wait (splitting middle) is = just_stays

      by_test : (b : Bool) → (is_for_catalogue q.wait && (bytes_eq q.namespace namespace && wants_table q.work create at)) ≡ b
          → StaysOrGoes r time q (stays q []) (if not b then stays q [] else elim q.work as (λ (w : Work). Next) [
            | writing kind ordered statements c ↦ gives_up r time q kind ordered statements c refusal (indices_of (unsent ordered statements c))
            | reading named wanted stages telling ↦ is_told (reply_to r time q (refusal_answer refusal))
            | sharding ↦ is_told (reply_to r time q (refusal_answer refusal))
            | splitting middle ↦ stays q []
          ])
      by_test true h =
          by_work (catalogue q.wait (bytes_eq q.namespace namespace && wants_table q.work create at) h) q.work refl
      by_test false h = just_stays

  -- a moment is given
  pub moment_goes : (moment : ℕ) → StaysOrGoes r time q (stays q (asks_again r time q)) (at_moment r time moment q)
  moment_goes moment = by_test (is_expired q moment)
    where
      late : SaysGivenUp (expired_refusal q.arrived moment)
      late = says_late q.arrived moment

      by_bound : (kind : WriteKind) (ordered : Bool) (statements : List Statement) (c : Course) → q.work ≡ writing kind ordered statements c → (b : Bool)
          → StaysOrGoes r time q (stays q (asks_again r time q)) (
          if b then stays q (asks_again r time q)
          else gives_up r time q kind ordered statements c (expired_refusal q.arrived moment) (indices_of (unanswered statements c.answers)))
      by_bound kind ordered statements c is true = just_stays
      by_bound kind ordered statements c is false =
          goes_on _ (write_goes false kind ordered statements c _ is
          (after_given_up (expired_refusal q.arrived moment) (indices_of (unanswered statements c.answers)) late of_unanswered))

      by_work : (work : Work) → q.work ≡ work → StaysOrGoes r time q (stays q (asks_again r time q)) (elim work as (λ (w : Work). Next) [
        | writing kind ordered statements c ↦
            if is_bound ordered c.runs then stays q (asks_again r time q)
            else gives_up r time q kind ordered statements c (expired_refusal q.arrived moment) (indices_of (unanswered statements c.answers))
        | reading named at stages telling ↦ is_told (reply_to r time q (refusal_answer (expired_refusal q.arrived moment)))
        | sharding ↦ is_told (reply_to r time q (refusal_answer (expired_refusal q.arrived moment)))
        | splitting middle ↦ is_told (reply_to r time q (refusal_answer (expired_refusal q.arrived moment)))
      ])
      by_work (writing kind ordered statements c) is = by_bound kind ordered statements c is (is_bound ordered c.runs)
      by_work (reading named at stages telling) is =
          goes_on _ (is_answered (refusal_answer (expired_refusal q.arrived moment)) (subst (λ w. IsNoWriting w) (sym is) tt))
      by_work sharding is = goes_on _ (is_answered (refusal_answer (expired_refusal q.arrived moment)) (subst (λ w. IsNoWriting w) (sym is) tt))
      by_work (splitting middle) is = goes_on _ (is_answered (refusal_answer (expired_refusal q.arrived moment)) (subst (λ w. IsNoWriting w) (sym is) tt))

      by_test : (b : Bool) → StaysOrGoes r time q (stays q (asks_again r time q)) (if not b then stays q (asks_again r time q) else elim q.work as (λ (w : Work). Next) [
        | writing kind ordered statements c ↦
            if is_bound ordered c.runs then stays q (asks_again r time q)
            else gives_up r time q kind ordered statements c (expired_refusal q.arrived moment) (indices_of (unanswered statements c.answers))
        | reading named at stages telling ↦ is_told (reply_to r time q (refusal_answer (expired_refusal q.arrived moment)))
        | sharding ↦ is_told (reply_to r time q (refusal_answer (expired_refusal q.arrived moment)))
        | splitting middle ↦ is_told (reply_to r time q (refusal_answer (expired_refusal q.arrived moment)))
      ])
      by_test true = by_work q.work refl
      by_test false = just_stays
