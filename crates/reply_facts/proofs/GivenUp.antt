-- A reply to a write whose errors do not say that statements were given up gave none up.
use Rattle.std.proofs.Common.{◌≡◌, ℕ, List, [], ◌∷◌, refl, sym, ap, subst, ◌∙◌}
use Rattle.std.specs.Prelude.{Bool, true, false, ◌==◌, ◌||◌, Option, Some, None, map, pos}
use Rattle.std.specs.List.{AllByRecursion}
use Rattle.base_model.specs.Errors.{ErrorCode, stale_config, max_time_expired, exceeded_memory_limit, shutdown_in_progress}
use Rattle.base_model.specs.Refusals.{Refusal}
use Rattle.command_model.specs.AnswerParts.{ok, operation_time_at}
use Rattle.command_model.specs.Writes.{WriteKind, insert_kind, update_kind, delete_kind, WriteError, Upserted, WriteSummary, WriteCommand, write_error_items, write_errors_shown, upserted_shown}
use Rattle.command_model.specs.Answers.{write_answer, answer_document}
use Rattle.reply_model.specs.Exchanges.{Asked, Answered}
use Rattle.reply_model.specs.Accounts.{Lack, no_memory, no_steps, Account}
use Rattle.reply_model.specs.Outcomes.{Try, stale_refusal, lack_refusal, gives_up, StatementOutcome, was_done, was_refused, Done, refusal_in, errors_of, answer_of, summary_of}
use Rattle.reply_model.specs.Reads.{GivesUpNothing}
use Rattle.reply_model.specs.Right.{IsGivenUp, given_up_late, given_up_lacking}

-- the numbers of errors
abbrev numbers_of : List WriteError → List ℕ
numbers_of errors = map (λ (x : WriteError). x.refusal.error.number) errors

items_alike : (xs ys : List WriteError) → write_error_items xs ≡ write_error_items ys → numbers_of xs ≡ numbers_of ys
items_alike [] [] same = refl
items_alike [] (y ∷ ys) same = absurd (cc)
items_alike (x ∷ xs) [] same = absurd (cc)
items_alike (x ∷ xs) (y ∷ ys) same =
    let number : x.refusal.error.number ≡ y.refusal.error.number = cc in
    let rest : write_error_items xs ≡ write_error_items ys = cc in
    let more : numbers_of xs ≡ numbers_of ys = items_alike xs ys rest in
    λ i. number i ∷ more i

errors_alike : (xs ys : List WriteError) (s t : ℕ) → write_errors_shown xs (ok (operation_time_at s)) ≡ write_errors_shown ys (ok (operation_time_at t))
    → numbers_of xs ≡ numbers_of ys
errors_alike [] [] s t same = refl
errors_alike [] (y ∷ ys) s t same = absurd (cc)
errors_alike (x ∷ xs) [] s t same = absurd (cc)
errors_alike (x ∷ xs) (y ∷ ys) s t same =
    let items : write_error_items (x ∷ xs) ≡ write_error_items (y ∷ ys) = cc in
    items_alike (x ∷ xs) (y ∷ ys) items

keys_alike : (us vs : List Upserted) (xs ys : List WriteError) (s t : ℕ)
    → upserted_shown us (write_errors_shown xs (ok (operation_time_at s))) ≡ upserted_shown vs (write_errors_shown ys (ok (operation_time_at t)))
    → numbers_of xs ≡ numbers_of ys
keys_alike [] [] xs ys s t same = errors_alike xs ys s t same
keys_alike [] (v ∷ vs) [] ys s t same = absurd (cc)
keys_alike [] (v ∷ vs) (x ∷ xs) ys s t same = absurd (cc)
keys_alike (u ∷ us) [] xs [] s t same = absurd (cc)
keys_alike (u ∷ us) [] xs (y ∷ ys) s t same = absurd (cc)
keys_alike (u ∷ us) (v ∷ vs) xs ys s t same =
    let rest : write_errors_shown xs (ok (operation_time_at s)) ≡ write_errors_shown ys (ok (operation_time_at t)) = cc in
    errors_alike xs ys s t rest

-- replies that are alike show errors of the same numbers
answers_alike : (kind : WriteKind) (a b : WriteSummary) → answer_document (write_answer kind a) ≡ answer_document (write_answer kind b)
    → numbers_of a.errors ≡ numbers_of b.errors
answers_alike insert_kind a b same =
    let rest : write_errors_shown a.errors (ok (operation_time_at a.time)) ≡ write_errors_shown b.errors (ok (operation_time_at b.time)) = cc in
    errors_alike a.errors b.errors a.time b.time rest
answers_alike update_kind a b same =
    let rest : upserted_shown a.upserted (write_errors_shown a.errors (ok (operation_time_at a.time)))
    ≡ upserted_shown b.upserted (write_errors_shown b.errors (ok (operation_time_at b.time))) = cc in
    keys_alike a.upserted b.upserted a.errors b.errors a.time b.time rest
answers_alike delete_kind a b same =
    let rest : write_errors_shown a.errors (ok (operation_time_at a.time)) ≡ write_errors_shown b.errors (ok (operation_time_at b.time)) = cc in
    errors_alike a.errors b.errors a.time b.time rest

-- by the number
abbrev says_so : ℕ → Bool
says_so n = (n == stale_config.number) || ((n == max_time_expired.number) || ((n == exceeded_memory_limit.number) || (n == shutdown_in_progress.number)))

abbrev NoneSays : List ℕ → Type 0
NoneSays numbers = AllByRecursion (λ n. says_so n ≡ false) numbers

numbers_say : (errors : List WriteError) → AllByRecursion (λ (x : WriteError). gives_up x.refusal.error ≡ false) errors → NoneSays (numbers_of errors)
numbers_say [] all = tt
numbers_say (x ∷ errors) all = (all.0, numbers_say errors all.1)

-- the outcome is not that the statement was given up
abbrev pub IsNotGivenUp : Done → Type 0
IsNotGivenUp d = (refusal : Refusal) → d.answer ≡ was_refused refusal → gives_up refusal.error ≡ false

dones_say : (dones : List Done) → NoneSays (numbers_of (errors_of dones)) → AllByRecursion IsNotGivenUp dones
dones_say [] none = tt
dones_say (d ∷ dones) none = by_answer d.answer refl none (λ rest. dones_say dones rest)
  where
    some_same : (x y : Refusal) → was_refused x ≡ was_refused y → x ≡ y
    some_same x y same = cc

    by_error : (time : ℕ) (o : Option Refusal) → (d.answer ≡ was_refused (record { error = stale_config; evidence = (stale_refusal []).evidence }) → ⊥)
        → NoneSays (numbers_of (elim o as (λ (x : Option Refusal). List WriteError) [
          | None ↦ errors_of dones
          | Some refusal ↦ record { index = d.index; refusal = refusal } ∷ errors_of dones
        ])) → NoneSays (numbers_of (errors_of dones))
    by_error time None not none = none
    by_error time (Some refusal) not none = none.1

    by_answer : (x : StatementOutcome) → d.answer ≡ x
        → NoneSays (numbers_of (elim (refusal_in x) as (λ (o : Option Refusal). List WriteError) [
          | None ↦ errors_of dones
          | Some refusal ↦ record { index = d.index; refusal = refusal } ∷ errors_of dones
        ])) → (NoneSays (numbers_of (errors_of dones)) → AllByRecursion IsNotGivenUp dones) → AllByRecursion IsNotGivenUp (d ∷ dones)
    by_answer (was_done time outcome) is none more = (
      (λ refusal same. absurd (let e : was_done time outcome ≡ was_refused refusal = sym is ∙ same in cc)),
      more (by_error time (refusal_in (was_done time outcome)) (λ same. let e = sym is ∙ same in cc) none),
    )
    by_answer (was_refused x) is none more = (
      (λ refusal same. subst (λ (y : Refusal). gives_up y.error ≡ false) (some_same x refusal (sym is ∙ same)) none.0),
      more none.1,
    )

pub none_given_up : (t : Answered) (write : WriteCommand) (dones : List Done) → GivesUpNothing t write
    → t.document ≡ answer_document (answer_of write.kind t.time dones) → AllByRecursion IsNotGivenUp dones
none_given_up t write dones nothing says =
    dones_say dones
    (subst (λ l. NoneSays l) (answers_alike write.kind nothing.told (summary_of t.time dones) (sym nothing.same ∙ says)) (numbers_say nothing.told.errors nothing.each))

-- what is given up says so
pub stale_says : (tries : List Try) → gives_up (stale_refusal tries).error ≡ true
stale_says tries = refl

lack_says : (node : ℕ) (lack : Lack) → gives_up (lack_refusal node lack).error ≡ true
lack_says node no_memory = refl
lack_says node (no_steps steps) = refl

pub given_up_says : (account : Account) (a : Asked) (t : Answered) (refusal : Refusal) → IsGivenUp account a t refusal → gives_up refusal.error ≡ true
given_up_says account a t _ (given_up_late now is) = refl
given_up_says account a t _ (given_up_lacking node lack was) = lack_says node lack
