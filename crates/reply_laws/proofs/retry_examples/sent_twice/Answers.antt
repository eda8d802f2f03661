-- Each statement has one entry, whose outcome both requests get.
use Rattle.std.proofs.Common.{◌≡◌, ℕ, pos, List, [], ◌∷◌, refl, arith}
use Rattle.std.specs.Prelude.{false}
use Rattle.base_model.specs.Errors.{duplicate_key}
use Rattle.command_laws.specs.SampleNumbers.{sevens}
use Rattle.command_laws.specs.SampleRequests.{five, long_five, second_fails, six, with_id}
use Rattle.command_model.specs.Writes.{ClientNumber, insert_kind}
use Rattle.history_model.specs.History.{Entry, done, fails_with, insert_operation}
use Rattle.history_model.proofs.Lists.{in_first, in_later}
use Rattle.reply_model.specs.Exchanges.{Asked}
use Rattle.reply_model.specs.Outcomes.{answer_by}
use Rattle.reply_model.specs.Right.{told_own}
use Rattle.reply_laws.specs.SampleExchanges.{tells}
use Rattle.reply_laws.specs.SampleRetries.{IsToldJust, entry_under, number_in, put_five, three_done, three_sent}
use Rattle.reply_laws.proofs.NumberedWrites.{gives_another, gives_itself, told_just}
use Rattle.reply_laws.proofs.retry_examples.sent_twice.Goals as goal

abbrev four : ClientNumber
four = record { session = sevens; transaction = pos 4 }

abbrev duplicate : Entry
duplicate = entry_under sevens 3 (pos 4) 1 (insert_operation (with_id long_five)) (fails_with duplicate_key)

abbrev last : Entry
last = entry_under sevens 4 (pos 4) 2 (insert_operation (with_id six)) done

abbrev both : List Asked
both = three_sent 1 2 ∷ three_sent 2 4 ∷ []

told_three : (count came step : ℕ) → IsToldJust three_done both (three_sent count came) step 4 (second_fails 2 4)
told_three count came step =
    told_just three_done both (three_sent count came) step 4 insert_kind false four refl
    (insert_operation (with_id five) ∷ insert_operation (with_id long_five) ∷ insert_operation (with_id six) ∷ [])
    (answer_by put_five ∷ answer_by duplicate ∷ answer_by last ∷ []) (second_fails 2 4) refl (
      (λ document. told_own put_five (in_first put_five (duplicate ∷ last ∷ [])) (record { same_number = refl; name = refl; does = refl }) (omega arith)),
      (λ document. let t = tells (three_sent count came) step 4 document in (
        gives_itself both t (number_in sevens (pos 4) 0) put_five refl,
        (
          gives_another both t (number_in sevens (pos 4) 0) (λ x. x ≡ answer_by put_five) duplicate (λ same. cc) refl,
          (gives_another both t (number_in sevens (pos 4) 0) (λ x. x ≡ answer_by put_five) last (λ same. cc) refl, tt),
        ),
      )),
      (
        (λ document. told_own duplicate (in_later duplicate put_five (duplicate ∷ last ∷ []) (in_first duplicate (last ∷ [])))
            (record { same_number = refl; name = refl; does = refl }) (omega arith)),
        (λ document. let t = tells (three_sent count came) step 4 document in (
          gives_another both t (number_in sevens (pos 4) 1) (λ x. x ≡ answer_by duplicate) put_five (λ same. cc) refl,
          (
            gives_itself both t (number_in sevens (pos 4) 1) duplicate refl,
            (gives_another both t (number_in sevens (pos 4) 1) (λ x. x ≡ answer_by duplicate) last (λ same. cc) refl, tt),
          ),
        )),
        (
          (λ document. told_own last (in_later last put_five (duplicate ∷ last ∷ []) (in_later last duplicate (last ∷ []) (in_first last [])))
              (record { same_number = refl; name = refl; does = refl }) (omega arith)),
          (λ document. let t = tells (three_sent count came) step 4 document in (
            gives_another both t (number_in sevens (pos 4) 2) (λ x. x ≡ answer_by last) put_five (λ same. cc) refl,
            (
              gives_another both t (number_in sevens (pos 4) 2) (λ x. x ≡ answer_by last) duplicate (λ same. cc) refl,
              (gives_itself both t (number_in sevens (pos 4) 2) last refl, tt),
            ),
          )),
          refl,
        ),
      ),
    )
    (omega arith) refl

pub returns-clause-first : goal.returns-clause-first
returns-clause-first c = told_three 1 2 3

pub returns-clause-second : goal.returns-clause-second
returns-clause-second c = told_three 2 4 5
