-- The entries are the statements' own.
use Rattle.std.proofs.Common.{[], ◌∷◌, refl, codes, arith}
use Rattle.std.specs.Prelude.{None, Bool, true, false, map, Ok}
use Rattle.base_model.specs.Errors.{duplicate_key}
use Rattle.command_laws.specs.SampleRequests.{five, long_five, second_fails, six, three, with_id}
use Rattle.command_model.specs.Command.{write_command}
use Rattle.history_model.specs.History.{Entry, insert_operation, fails_with}
use Rattle.command_model.specs.Writes.{WriteCommand, insert_kind}
use Rattle.reply_model.specs.Exchanges.{number_for}
use Rattle.reply_laws.specs.SampleExchanges.{account_of, entry_at, first_entry, id_at, tells, three_asked, three_entries, two_entries}
use Rattle.reply_facts.proofs.RightAnswers.{right_of}
use Rattle.reply_facts.proofs.Statements.{told_at}
use Rattle.reply_laws.proofs.Quiet.{quiet}
use Rattle.reply_laws.proofs.NumberedWrites.{told_by_entries, gives_another}
use Rattle.reply_laws.proofs.OwnWrites.{IsDone, own_right, own_untold}
use Rattle.reply_laws.proofs.examples.many_statements.Goals as goal

abbrev asks_three : Bool → WriteCommand
asks_three ordered = record { kind = insert_kind; namespace = codes "d.c"; operations = map insert_operation three; ordered = ordered; number = None }

two_done : IsDone two_entries (id_at 2 1) (asks_three true)
two_done = record {
  part = (
    record { same_number = refl; name = refl; does = refl },
    (λ e. absurd (cc)),
    (record { same_number = refl; name = refl; does = refl }, (λ e. refl), tt),
  );
  all = refl;
}

three_done : IsDone three_entries (id_at 2 1) (asks_three false)
three_done = record {
  part = (
    record { same_number = refl; name = refl; does = refl },
    (λ e. absurd (cc)),
    (record { same_number = refl; name = refl; does = refl }, (λ e. absurd (cc)), (record { same_number = refl; name = refl; does = refl }, (λ e. refl), tt)),
  );
  all = refl;
}

pub returns-clause-ordered : goal.returns-clause-ordered
returns-clause-ordered c =
    own_right two_entries [] (three_asked false true) (tells (three_asked false true) 3 3 (second_fails 1 3)) (asks_three true) refl [] refl refl two_done
    (omega arith, (omega arith, tt)) refl (omega arith) refl

pub returns-clause-unordered : goal.returns-clause-unordered
returns-clause-unordered c =
    own_right three_entries [] (three_asked false false) (tells (three_asked false false) 3 4 (second_fails 2 4)) (asks_three false) refl [] refl refl three_done
    (omega arith, (omega arith, (omega arith, tt))) refl (omega arith) refl

pub returns-clause-silent : goal.returns-clause-silent
returns-clause-silent c =
    own_right two_entries [] (three_asked true true) (tells (three_asked true true) 3 3 (second_fails 1 3)) (asks_three true) refl [] refl refl two_done
    (omega arith, (omega arith, tt)) refl (omega arith) refl

pub returns-clause-one_more : goal.returns-clause-one_more
returns-clause-one_more c dones whole = let ended = whole.part.2.1 refl in cc

abbrev second_failed : Entry
second_failed = entry_at 3 2 1 1 long_five (fails_with duplicate_key)

-- no entry is of the third statement
pub returns-clause-one_less : goal.returns-clause-one_less
returns-clause-one_less c next right =
    let t = tells (three_asked false false) 3 3 (second_fails 1 3) in
    let told = (right_of (account_of two_entries [] []) [] (three_asked false false) t (Ok (write_command (asks_three false))) next refl right).0 in
    let third = told_at (account_of two_entries [] []) (three_asked false false) t (asks_three false) 0 (asks_three false).operations told.dones told.tells refl
    (insert_operation (with_id five) ∷ insert_operation (with_id long_five) ∷ []) (insert_operation (with_id six)) [] refl in
    told_by_entries (account_of two_entries [] []) (three_asked false false) t (quiet two_entries [] [] (three_asked false false) t refl) None
    (number_for None t.id 2) (codes "d.c") (insert_operation (with_id six)) (λ x. ⊥) third.has.done.answer (
      gives_another [] t (number_for None t.id 2) (λ x. ⊥) first_entry (λ same. cc) refl,
      (gives_another [] t (number_for None t.id 2) (λ x. ⊥) second_failed (λ same. cc) refl, tt),
    ) third.may

pub returns-clause-silent_lost : goal.returns-clause-silent_lost
returns-clause-silent_lost c next right =
    own_untold [] [] (three_asked true true) 3 3 insert_kind true (insert_operation (with_id five))
    (insert_operation (with_id long_five) ∷ insert_operation (with_id six) ∷ []) refl refl (λ document. tt) (second_fails 1 3) next right
