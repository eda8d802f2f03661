-- What stays true of an open request where work is refused or given up.
use Rattle.std.proofs.Common.{◌≡◌, ℕ, List, [], ◌∷◌, refl, sym, ap, subst, ◌∙◌, arith, Bool}
use Rattle.std.specs.Prelude.{length, Option, true, false, ◌==◌, if◌then◌else◌}
use Rattle.std.specs.List.{AllByRecursion}
use Rattle.base_model.specs.Identities.{RequestId}
use Rattle.base_model.specs.Refusals.{Refusal}
use Rattle.command_model.specs.Writes.{WriteCommand, WriteKind}
use Rattle.history_model.specs.History.{Entry}
use Rattle.reply_model.specs.Exchanges.{Asked}
use Rattle.reply_model.specs.Outcomes.{StatementOutcome, was_refused, Try, most_tries, stale_refusal, with_outcome, dones_from}
use Rattle.reply_model.specs.Requests.{Request}
use Rattle.node_model.specs.Letters.{Statement}
use Rattle.node_model.specs.RouterRequests.{id_of, statements_from, tries_at, indices_of, unanswered}
use Rattle.node_model.specs.RouterNext.{Next, also_tried, given_up, worn_out, after_stale}
use Rattle.node_model.specs.States.{Run, Course, Wait, Work, writing, reading, sharding, splitting, Open, Router}
use Rattle.node_laws.proofs.Outcomes.{HasMore, with_long, with_more, statements_long}
use Rattle.node_replay.specs.Acknowledged.{IsOutcomeAt, of_none}
use Rattle.node_replay.proofs.GivenUp.{StaysGivenUp, given_up_keeps, worn_out_keeps, AreGivenUp, of_run, of_unanswered, of_unsent, IsCourseAfter, after_given_up, after_later_table, IsNoWriting, GoesOn, write_goes, read_goes, is_answered, StaysOrGoes, just_stays, goes_on}
use Rattle.node_replay.proofs.NextOnes.{AreNext, OneNext, next_before, all_next, one_later, one_without, one_is_next}
use Rattle.node_replay.proofs.Noted.{IsPrefix, with_all, with_prefix}
use Rattle.node_replay.proofs.RouterStays.{IsOwn, split_no_write, plain_told, Becomes, write_becomes, read_becomes}
use Rattle.node_replay.proofs.StayFacts.{IsNoWrite, WorkStays}

abbrev Answers : Type 0
Answers = List (Option StatementOutcome)

-- A WRITE

-- what is given up of an ordered write are its next statements
given_next : (wait : Wait) (statements : List Statement) (c : Course) (indices : List ℕ) → OneNext statements c.answers c.runs
    → AreGivenUp wait true statements c indices
    → AreNext statements c.answers indices
given_next wait statements c _ one (of_run run there) = one_is_next statements c.answers run c.runs there one
given_next wait statements c _ one of_unanswered = all_next statements c.answers
given_next wait statements c _ one (of_unsent waits) = by_runs c.runs
  where
    by_runs : (runs : List Run) → AreNext statements c.answers (indices_of (elim runs as (λ (l : List Run). List Statement) [
      | [] ↦ unanswered statements c.answers
      | run ∷ rest ↦ []
    ]))
    by_runs [] = all_next statements c.answers
    by_runs (run ∷ rest) = (_, refl)

module _ (write : WriteCommand) (id : RequestId) (statements : List Statement) (same : statements ≡ statements_from write.number id 0 write.operations)
    (answers : Answers) (prefix : IsPrefix answers) where
  next_prefix : (index : ℕ) (rest : List ℕ) (x : StatementOutcome) → AreNext statements answers (index ∷ rest) → IsPrefix (with_outcome index x answers)
  next_prefix index rest x next =
      with_prefix index x answers prefix
      (next_before write.number id answers write.operations index rest (subst (λ l. AreNext l answers (index ∷ rest)) same next))

  given_prefix : (refusal : Refusal) (indices : List ℕ) → AreNext statements answers indices → IsPrefix (given_up true refusal indices answers)
  given_prefix refusal [] next = prefix
  given_prefix refusal (index ∷ rest) next = next_prefix index rest (was_refused refusal) next

  worn_prefix : (indices : List ℕ) (tries : List (List Try)) → AreNext statements answers indices → IsPrefix (worn_out true indices tries answers)
  worn_prefix [] tries next = prefix
  worn_prefix (index ∷ rest) tries next = by_test (length (tries_at index tries) == most_tries)
    where
      by_test : (b : Bool) → IsPrefix (if b then with_outcome index (was_refused (stale_refusal (tries_at index tries))) answers else answers)
      by_test true = next_prefix index rest (was_refused (stale_refusal (tries_at index tries))) next
      by_test false = prefix

module _ (history : List Entry) (write : WriteCommand) (id : RequestId) (long : ℕ) (count : long ≡ length write.operations) where
  -- the outcomes are right, and as many as statements
  abbrev AreRight : Answers → Type 0
  AreRight answers = AllByRecursion (IsOutcomeAt history write id) (dones_from 0 answers) × (length answers ≡ long)

  right_stays : StaysGivenUp AreRight
  right_stays index refusal answers says (all, same) = (
    with_all (IsOutcomeAt history write id) 0 index (was_refused refusal) answers
        (λ less. record { within = omega (arith, less, same, count); outcome = of_none refusal says }) all,
    with_long index (was_refused refusal) answers ∙ same,
  )

more_stays : (old : Answers) → StaysGivenUp (HasMore old)
more_stays old index refusal answers says more i h = with_more index (was_refused refusal) answers i (more i h)

pub after_stays : (again : Type 0) (wait : Wait) (history : List Entry) (id : RequestId) (request : Request) (namespace : List ℕ) (kind : WriteKind)
    (ordered : Bool) (statements : List Statement) (c d : Course) → WorkStays history id request namespace (writing kind ordered statements c)
    → IsCourseAfter again wait ordered statements c d → WorkStays history id request namespace (writing kind ordered statements d)
after_stays again wait history id request namespace kind ordered statements c _ (write, asks, same, name, all, each, order, long, turns)
    (after_given_up refusal indices says given) =
    let count : length statements ≡ length write.operations =
    ap (λ (l : List Statement). length l) all ∙ statements_long write.number id 0 write.operations in
    let right = given_up_keeps (AreRight history write id (length statements) count) (right_stays history write id (length statements) count) c.answers
    (each, long) ordered refusal indices says in
    let more : HasMore c.answers (given_up ordered refusal indices c.answers) =
    given_up_keeps (HasMore c.answers) (more_stays c.answers) c.answers (λ i h. h) ordered refusal indices says in (
      write,
      asks,
      same,
      name,
      all,
      right.0,
      order,
      right.1,
      λ h. (
        subst (λ b. IsPrefix (given_up b refusal indices c.answers)) (sym h)
            (given_prefix write id statements all c.answers (turns h).0 refusal indices
            (given_next wait statements c indices (turns h).1 (subst (λ b. AreGivenUp wait b statements c indices) h given))),
        one_later statements c.answers (given_up ordered refusal indices c.answers) c.runs more (turns h).1,
      ),
    )
after_stays again wait history id request namespace kind ordered statements c _ (write, asks, same, name, all, each, order, long, turns)
    (after_later_table later run met there) =
    let count : length statements ≡ length write.operations =
    ap (λ (l : List Statement). length l) all ∙ statements_long write.number id 0 write.operations in
    let tries : List (List Try) = (after_stale ordered c run met).tries in
    let right = worn_out_keeps (AreRight history write id (length statements) count) (right_stays history write id (length statements) count) c.answers
    (each, long) ordered run.indices tries in (
      write,
      asks,
      same,
      name,
      all,
      right.0,
      order,
      right.1,
      λ h. (
        subst (λ b. IsPrefix (worn_out b run.indices tries c.answers)) (sym h)
            (worn_prefix write id statements all c.answers (turns h).0 run.indices tries
            (one_is_next statements c.answers run c.runs there (turns h).1)),
        one_without statements c.answers (worn_out ordered run.indices tries c.answers) run c.runs there (turns h).1,
      ),
    )

-- WHAT BECOMES OF A REQUEST

module _ (asked : List Asked) (history : List Entry) (now : ℕ) (r : Router) (time : ℕ) (q : Open) (o : IsOwn asked history now r q) where
  no_write : (work : Work) → IsNoWriting work → WorkStays history (id_of r q.count) q.request q.namespace work → IsNoWrite q.request
  no_write (writing kind ordered statements c) plain does = absurd plain
  no_write (reading named at stages telling) plain does = does
  no_write sharding plain does = does
  no_write (splitting middle) plain does = split_no_write asked history now r q.request q.namespace middle does

  its : (work : Work) → q.work ≡ work → WorkStays history (id_of r q.count) q.request q.namespace work
  its work is = subst (λ x. WorkStays history (id_of r q.count) q.request q.namespace x) is o.work

  pub goes_stays : (again : Type 0) (next : Next) → GoesOn again r time q next → Becomes asked history now r next
  goes_stays again _ (write_goes asks kind ordered statements c d is after) =
      write_becomes asked history now r time r.tables asks [] q kind ordered statements d o
      (after_stays again q.wait history (id_of r q.count) q.request q.namespace kind ordered statements c d (its (writing kind ordered statements c) is) after)
  goes_stays again _ (read_goes later met named at stages telling is waits) =
      read_becomes asked history now r time r.tables true (also_tried q met) named at stages telling
      (record { request = o.request; taken = o.taken; own = o.own; asks = o.asks; work = o.work }) (its (reading named at stages telling) is)
  goes_stays again _ (is_answered answer plain) = plain_told asked history now r q time answer (no_write q.work plain o.work)

  pub stays_or_goes : (mail next : Next) → Becomes asked history now r mail → StaysOrGoes r time q mail next → Becomes asked history now r next
  stays_or_goes mail _ same just_stays = same
  stays_or_goes mail _ same (goes_on next goes) = goes_stays ⊥ next goes
