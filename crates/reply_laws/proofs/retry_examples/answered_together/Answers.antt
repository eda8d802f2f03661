-- The first statement's own entry, and the later one with the greater transaction.
use Rattle.std.proofs.Common.{pos, [], ◌∷◌, refl, arith}
use Rattle.std.specs.Prelude.{true, false}
use Rattle.command_laws.specs.SampleNumbers.{sevens}
use Rattle.command_laws.specs.SampleRequests.{five, six, with_id}
use Rattle.command_model.specs.Writes.{ClientNumber}
use Rattle.chunk_model.specs.SampleCollections.{creation}
use Rattle.chunk_model.specs.Changes.{create_change}
use Rattle.history_model.specs.History.{Entry, done, insert_operation}
use Rattle.history_model.proofs.Lists.{in_first, in_later}
use Rattle.reply_model.specs.Outcomes.{answer_by, is_older}
use Rattle.reply_model.specs.Right.{Sends, right_write, told_older, told_own}
use Rattle.reply_laws.specs.SampleRetries.{entry_under, inserts_under, put_five, sent_two, six_as}
use Rattle.reply_laws.proofs.retry_examples.answered_together.Goals as goal

abbrev four : ClientNumber
four = record { session = sevens; transaction = pos 4 }

abbrev fifth : Entry
fifth = entry_under sevens 3 (pos 5) 0 (insert_operation (with_id six)) done

fifth_sent : Sends (six_as (pos 5)) fifth
fifth_sent = record {
  write = inserts_under (pos 5) (with_id six ∷ []) true;
  index = 0;
  asks = refl;
  entry = record {
    prefix = [];
    operation = insert_operation (with_id six);
    back = [];
    both = refl;
    at = refl;
    statement = record { same_number = refl; name = refl; does = refl };
  };
}

pub returns : goal.returns
returns c =
    right_write (inserts_under (pos 4) (with_id five ∷ with_id six ∷ []) false)
    (record { index = 0; answer = answer_by put_five } ∷ record { index = 1; answer = is_older (pos 5) } ∷ []) refl (
      refl,
      told_own put_five (in_first put_five (fifth ∷ [])) (record { same_number = refl; name = refl; does = refl }) (omega arith),
      (
        refl,
        told_older fifth four (in_later fifth put_five (fifth ∷ []) (in_first fifth [])) refl refl refl (omega arith)
            (record {
              request = six_as (pos 5);
              taken = in_later (six_as (pos 5)) sent_two (six_as (pos 5) ∷ []) (in_first (six_as (pos 5)) []);
              sends = fifth_sent;
              came = omega arith;
            }),
        refl,
      ),
    )
    (λ none. absurd (cc)) (λ any. record { creation = creation; begun = in_first (create_change creation) []; name = refl; before = omega arith }) refl
