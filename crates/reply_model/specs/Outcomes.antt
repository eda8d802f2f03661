-- The outcomes of statements, and their joint answer (MongoDB manual, "insert", "update", "delete", "ordered", "Error Codes").
use Rattle.std.specs.Prelude.{◌⊎◌, ℕ, ℤ, zero, suc, ◌+◌, List, [], ◌∷◌, map, Option, Some, None, Bool, false, ◌==◌, max, is_some, ◌||◌}
use Rattle.std.specs.Option.{unwrap_or}
use Rattle.history_model.specs.History.{Outcome, Entry}
use Rattle.base_model.specs.Errors.{ErrorCode, transaction_too_old, stale_config, max_time_expired, exceeded_memory_limit, shutdown_in_progress}
use Rattle.base_model.specs.Refusals.{Refusal, ShownVersion, ShownTry, moments_evidence, number_evidence, steps_evidence, tries_evidence, without_evidence}
use Rattle.chunk_model.specs.Versions.{Version}
use Rattle.command_model.specs.Writes.{Upserted, WriteError, WriteKind, WriteSummary}
use Rattle.command_model.specs.Answers.{Answer, write_answer}
use Rattle.reply_model.specs.Accounts.{Lack, no_memory, no_steps}

-- WHY WORK IS GIVEN UP

-- a try with an older table than the shard's: the versions of the collection by the router's table and by the shard's (MongoDB manual, "Sharded Cluster Query
-- Routing")
pub record Try : Type 0 where
  pub sent : Version
  pub met : Version

-- so many tries are made (own)
abbrev pub most_tries : ℕ
most_tries = 10

abbrev pub version_shown : Version → ShownVersion
version_shown v = record { epoch = v.epoch; major = v.major }

abbrev pub try_shown : Try → ShownTry
try_shown x = record { sent = version_shown x.sent; met = version_shown x.met }

-- every try met a later table (StaleConfig)
abbrev pub stale_refusal : List Try → Refusal
stale_refusal tries = record { error = stale_config; evidence = tries_evidence (map try_shown tries) }

-- the time limit has passed (MaxTimeMSExpired): the last moment before the request was taken, and the moment now
abbrev pub expired_refusal : (arrived now : ℕ) → Refusal
expired_refusal arrived now = record { error = max_time_expired; evidence = moments_evidence arrived now }

-- a node is out of memory (ExceededMemoryLimit), or at its last step (ShutdownInProgress)
abbrev pub lack_refusal : (node : ℕ) → Lack → Refusal
lack_refusal node no_memory = without_evidence exceeded_memory_limit
lack_refusal node (no_steps steps) = record { error = shutdown_in_progress; evidence = steps_evidence node steps }

-- an error that says that work was given up, though it may be done
abbrev pub gives_up : ErrorCode → Bool
gives_up error =
    (error.number == stale_config.number)
    || ((error.number == max_time_expired.number) || ((error.number == exceeded_memory_limit.number) || (error.number == shutdown_in_progress.number)))

-- OUTCOMES

-- The outcome of a statement: it was applied, at this time and with this result; or why it was not.
pub data StatementOutcome : Type 0 where
  was_done : (time : ℕ) → Outcome → StatementOutcome
  was_refused : Refusal → StatementOutcome

abbrev pub WasDone : StatementOutcome → Type 0
WasDone (was_done time outcome) = Unit {0}
WasDone (was_refused refusal) = ⊥

abbrev pub WasRefused : StatementOutcome → Type 0
WasRefused (was_done time outcome) = ⊥
WasRefused (was_refused refusal) = Unit {0}

-- its session has a greater transaction
abbrev pub is_older : (greatest : ℤ) → StatementOutcome
is_older greatest = was_refused (record { error = transaction_too_old; evidence = number_evidence greatest })

-- the outcome of the statement with this index
pub record Done : Type 0 where
  pub index : ℕ
  pub answer : StatementOutcome

-- the outcome of a statement with this entry
abbrev pub answer_by : Entry → StatementOutcome
answer_by e = was_done e.time e.outcome

abbrev pub done_of : Entry → Done
done_of e = record { index = e.number.index; answer = answer_by e }

-- OUTCOMES BY INDEX: a list as long as the statements, with an outcome for each that has one

abbrev pub none_yet : {A : Type 0} → List A → List (Option StatementOutcome)
none_yet statements = map (λ s. None) statements

-- the statement with this index has an outcome
abbrev pub has_outcome : List (Option StatementOutcome) → ℕ → Bool
has_outcome [] index = false
has_outcome (x ∷ outcomes) zero = is_some x
has_outcome (x ∷ outcomes) (suc index) = has_outcome outcomes index

-- the statement with this index gets an outcome, unless it has one
abbrev pub with_outcome : ℕ → StatementOutcome → List (Option StatementOutcome) → List (Option StatementOutcome)
with_outcome index x [] = []
with_outcome zero x (None ∷ outcomes) = Some x ∷ outcomes
with_outcome zero x (Some y ∷ outcomes) = Some y ∷ outcomes
with_outcome (suc index) x (y ∷ outcomes) = y ∷ with_outcome index x outcomes

-- the outcomes that there are, of statements from this index on
abbrev pub dones_from : ℕ → List (Option StatementOutcome) → List Done
dones_from index [] = []
dones_from index (None ∷ outcomes) = dones_from (index + 1) outcomes
dones_from index (Some x ∷ outcomes) = record { index = index; answer = x } ∷ dones_from (index + 1) outcomes

-- a statement that is refused changes nothing
abbrev pub outcome_in : StatementOutcome → Outcome
outcome_in (was_done time outcome) = outcome
outcome_in (was_refused refusal) = record { count = 0; modified = 0; upserted = None; error = Some refusal.error }

-- the error of a statement, with its evidence
abbrev pub refusal_in : StatementOutcome → Option Refusal
refusal_in (was_done time outcome) = elim outcome.error [ None ↦ None | Some error ↦ Some (without_evidence error) ]
refusal_in (was_refused refusal) = Some refusal

-- its session has a greater transaction (TransactionTooOld)
abbrev pub is_too_old : StatementOutcome → Bool
is_too_old (was_done time outcome) = false
is_too_old (was_refused refusal) = refusal.error.number == transaction_too_old.number

-- the statement has an error
abbrev pub fails : Done → Bool
fails d = is_some (refusal_in d.answer)

-- a statement was applied
abbrev pub AnyDone : List Done → Type 0
AnyDone [] = ⊥
AnyDone (d ∷ dones) = WasDone d.answer ⊎ AnyDone dones

-- how many documents were inserted, matched or deleted
abbrev pub sum_of : List Done → ℕ
sum_of [] = 0
sum_of (d ∷ dones) = (outcome_in d.answer).count + sum_of dones

-- how many documents were changed
abbrev pub modified_by : List Done → ℕ
modified_by [] = 0
modified_by (d ∷ dones) = (outcome_in d.answer).modified + modified_by dones

-- the keys of the upserted documents
abbrev pub upserted_by : List Done → List Upserted
upserted_by [] = []
upserted_by (d ∷ dones) =
    elim (outcome_in d.answer).upserted [ None ↦ upserted_by dones | Some key ↦ record { index = d.index; key = key } ∷ upserted_by dones ]

abbrev pub errors_of : List Done → List WriteError
errors_of [] = []
errors_of (d ∷ dones) = elim (refusal_in d.answer) [ None ↦ errors_of dones | Some refusal ↦ record { index = d.index; refusal = refusal } ∷ errors_of dones ]

abbrev pub later : ℕ → Option ℕ → ℕ
later time None = time
later time (Some other) = max time other

-- the greatest time of the entries, if there are any
abbrev pub time_of : List Done → Option ℕ
time_of [] = None
time_of (d ∷ dones) = elim d.answer [ was_done time outcome ↦ Some (later time (time_of dones)) | was_refused refusal ↦ time_of dones ]

-- the operation's time is that, or else this time of the router
abbrev pub summary_of : (time : ℕ) → List Done → WriteSummary
summary_of time dones = record {
  count = sum_of dones;
  modified = modified_by dones;
  upserted = upserted_by dones;
  errors = errors_of dones;
  time = unwrap_or (time_of dones) time;
}

-- the joint answer of the statements of a command
abbrev pub answer_of : WriteKind → (time : ℕ) → List Done → Answer
answer_of kind time dones = write_answer kind (summary_of time dones)
