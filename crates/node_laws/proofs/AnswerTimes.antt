-- Which operation times answers show.
use Rattle.std.proofs.Common.{◌≡◌, ℕ, ℤ, ◌≤◌, List, [], ◌∷◌, refl, arith}
use Rattle.std.specs.Prelude.{Option, Some, None, Bool, max}
use Rattle.std.specs.List.{AllByRecursion}
use Rattle.std.specs.Option.{unwrap_or}
use Rattle.command_model.proofs.AnswerTimes.{time_of_write, time_of_first, time_of_next, time_of_count, time_of_killed, time_of_sharded, time_of_changed, time_of_legacy, time_refused}
use Rattle.command_model.specs.Cursors.{Batch}
use Rattle.command_model.specs.Writes.{WriteKind}
use Rattle.base_model.specs.Refusals.{Refusal}
use Rattle.base_model.specs.ReplyParts.{operation_time}
use Rattle.command_model.specs.Answers.{Answer, hello_answer, legacy_answer, done_answer, first_answer, next_answer, count_answer, killed_answer, sharded_answer, changed_answer, refusal_answer, answer_document}
use Rattle.reply_model.specs.Outcomes.{StatementOutcome, was_done, was_refused, Done, later, time_of, summary_of, answer_of}

-- an answer shows no time above this one
abbrev pub ShowsBelow : ℕ → Answer → Type 0
ShowsBelow bound answer = (time : ℕ) → operation_time (Some (answer_document answer)) ≡ Some time → time ≤ bound

pub shows_none : (bound : ℕ) (answer : Answer) → operation_time (Some (answer_document answer)) ≡ None → ShowsBelow bound answer
shows_none bound answer none time shows = absurd (cc)

pub shows_one : (bound shown : ℕ) (answer : Answer) → operation_time (Some (answer_document answer)) ≡ Some shown → shown ≤ bound → ShowsBelow bound answer
shows_one bound shown answer one below time shows = let same : shown ≡ time = cc in omega arith

pub refusal_below : (bound : ℕ) (refusal : Refusal) → ShowsBelow bound (refusal_answer refusal)
refusal_below bound refusal = shows_none bound (refusal_answer refusal) (time_refused refusal)

pub first_below : (bound : ℕ) (batch : Batch) → batch.time ≤ bound → ShowsBelow bound (first_answer batch)
first_below bound batch below = shows_one bound batch.time (first_answer batch) (time_of_first batch) below

pub next_below : (bound : ℕ) (batch : Batch) → batch.time ≤ bound → ShowsBelow bound (next_answer batch)
next_below bound batch below = shows_one bound batch.time (next_answer batch) (time_of_next batch) below

pub count_below : (bound n at : ℕ) → at ≤ bound → ShowsBelow bound (count_answer n at)
count_below bound n at below = shows_one bound at (count_answer n at) (time_of_count n at) below

pub killed_below : (bound : ℕ) (killed missing : List ℤ) → ShowsBelow bound (killed_answer killed missing)
killed_below bound killed missing = shows_none bound (killed_answer killed missing) (time_of_killed killed missing)

pub sharded_below : (bound : ℕ) (namespace : List ℕ) (at : ℕ) → at ≤ bound → ShowsBelow bound (sharded_answer namespace at)
sharded_below bound namespace at below = shows_one bound at (sharded_answer namespace at) (time_of_sharded namespace at) below

pub changed_below : (bound at : ℕ) → at ≤ bound → ShowsBelow bound (changed_answer at)
changed_below bound at below = shows_one bound at (changed_answer at) (time_of_changed at) below

-- a reply without a look at documents shows no time
pub legacy_below : (bound moment : ℕ) (shown : Bool) → ShowsBelow bound (legacy_answer moment shown)
legacy_below bound moment shown = shows_none bound (legacy_answer moment shown) (time_of_legacy moment shown)

pub hello_below : (bound moment : ℕ) → ShowsBelow bound (hello_answer moment)
hello_below bound moment = shows_none bound (hello_answer moment) refl

pub done_below : (bound : ℕ) → ShowsBelow bound done_answer
done_below bound = shows_none bound done_answer refl

-- WRITES

-- what was done was done by this time
abbrev pub IsBelow : ℕ → StatementOutcome → Type 0
IsBelow bound (was_done time outcome) = time ≤ bound
IsBelow bound (was_refused refusal) = Unit {0}

abbrev pub AreBelow : ℕ → List Done → Type 0
AreBelow bound dones = AllByRecursion (λ (d : Done). IsBelow bound d.answer) dones

pub greatest_below : (bound : ℕ) (dones : List Done) → AreBelow bound dones → (time : ℕ) → time_of dones ≡ Some time → time ≤ bound
greatest_below bound [] all time shows = absurd (cc)
greatest_below bound (d ∷ dones) all time shows = by_answer d.answer all.0 shows (greatest_below bound dones all.1)
  where
    by_rest : (at : ℕ) (rest : Option ℕ) → at ≤ bound → Some (later at rest) ≡ Some time → ((other : ℕ) → rest ≡ Some other → other ≤ bound) → time ≤ bound
    by_rest at None le same more = let is : at ≡ time = cc in omega arith
    by_rest at (Some other) le same more = let is : max at other ≡ time = cc in let rest = more other refl in omega arith

    by_answer : (answer : StatementOutcome) → IsBelow bound answer
        → (elim answer as (λ (x : StatementOutcome). Option ℕ) [ was_done at outcome ↦ Some (later at (time_of dones)) | was_refused refusal ↦ time_of dones ])
        ≡ Some time → ((other : ℕ) → time_of dones ≡ Some other → other ≤ bound) → time ≤ bound
    by_answer (was_done at outcome) le same more = by_rest at (time_of dones) le same more
    by_answer (was_refused refusal) le same more = more time same

-- the time that an answer to a write shows
pub time_shown : (kind : WriteKind) (time : ℕ) (dones : List Done)
    → operation_time (Some (answer_document (answer_of kind time dones))) ≡ Some (unwrap_or (time_of dones) time)
time_shown kind time dones = time_of_write kind (summary_of time dones)

pub write_below : (bound : ℕ) (kind : WriteKind) (time : ℕ) (dones : List Done) → time ≤ bound → AreBelow bound dones
    → ShowsBelow bound (answer_of kind time dones)
write_below bound kind time dones le all =
    shows_one bound (unwrap_or (time_of dones) time) (answer_of kind time dones) (time_shown kind time dones) (by_time (time_of dones) refl)
  where
    by_time : (shown : Option ℕ) → time_of dones ≡ shown → unwrap_or shown time ≤ bound
    by_time None e = le
    by_time (Some at) e = greatest_below bound dones all at e
