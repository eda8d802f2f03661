-- The entry that failed gives its error.
use Rattle.std.proofs.Common.{◌≡◌, pos, [], ◌∷◌, refl, arith}
use Rattle.std.specs.Prelude.{true}
use Rattle.command_laws.specs.SampleNumbers.{sevens}
use Rattle.base_model.specs.SampleReplies.{duplicate_reply}
use Rattle.command_laws.specs.SampleRequests.{long_five, with_id}
use Rattle.command_model.specs.Writes.{ClientNumber, insert_kind}
use Rattle.history_model.specs.History.{insert_operation}
use Rattle.history_model.proofs.Lists.{in_first, in_later}
use Rattle.reply_model.specs.Outcomes.{answer_by}
use Rattle.reply_model.specs.Right.{told_own}
use Rattle.reply_laws.specs.SampleExchanges.{first_entry, tells}
use Rattle.reply_laws.specs.SampleRetries.{failed, failing_again, failing_sent, removed, until_removed}
use Rattle.reply_laws.proofs.NumberedWrites.{gives_elsewhere, gives_itself, told_just}
use Rattle.reply_laws.proofs.retry_examples.retried_error.Goals as goal

abbrev four : ClientNumber
four = record { session = sevens; transaction = pos 4 }

pub returns-clause-same : goal.returns-clause-same
returns-clause-same c =
    told_just until_removed failing_sent failing_again 9 5 insert_kind true four refl (insert_operation (with_id long_five) ∷ [])
    (answer_by failed ∷ []) duplicate_reply refl (
      (λ document.
          told_own failed (in_later failed first_entry (failed ∷ removed ∷ []) (in_first failed (removed ∷ [])))
          (record { same_number = refl; name = refl; does = refl }) (omega arith)),
      (λ document.
          let t = tells failing_again 9 5 document in (
            gives_elsewhere failing_sent t failed.number (λ x. x ≡ answer_by failed) first_entry (λ same. cc),
            (
              gives_itself failing_sent t failed.number failed refl,
              (gives_elsewhere failing_sent t failed.number (λ x. x ≡ answer_by failed) removed (λ same. cc), tt),
            ),
          )),
      refl,
    )
    (omega arith) refl
