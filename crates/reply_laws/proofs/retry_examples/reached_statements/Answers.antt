-- The only entry of the first statement failed.
use Rattle.std.proofs.Common.{◌≡◌, ◌<◌, pos, List, [], ◌∷◌, refl, sym, ap, ◌∙◌, arith}
use Rattle.std.specs.Prelude.{true, false, None, Ok}
use Rattle.std.specs.List.{AllByRecursion}
use Rattle.command_model.specs.Command.{command_of, write_command}
use Rattle.command_laws.specs.SampleNumbers.{sevens}
use Rattle.base_model.specs.SampleReplies.{duplicate_reply}
use Rattle.command_laws.specs.SampleRequests.{long_five, six, with_id}
use Rattle.base_model.specs.Times.{timestamp}
use Rattle.command_model.specs.Writes.{ClientNumber, WriteCommand, insert_kind}
use Rattle.history_model.specs.History.{Entry, IsIn, StatementNumber, insert_operation}
use Rattle.history_model.proofs.Lists.{all_at, in_first, in_later}
use Rattle.reply_model.specs.Exchanges.{Asked}
use Rattle.reply_model.specs.Outcomes.{answer_by}
use Rattle.reply_model.specs.Right.{Sends, told_own}
use Rattle.reply_laws.specs.SampleExchanges.{first_entry, tells}
use Rattle.reply_laws.specs.SampleRetries.{both_done, failed, failing, inserts_under, number_in, second_done, two_documents, two_sent}
use Rattle.reply_laws.proofs.NumberedWrites.{gives_another, gives_elsewhere, gives_itself, told_just}
use Rattle.reply_laws.proofs.OwnWrites.{same_write}
use Rattle.reply_laws.proofs.retry_examples.reached_statements.Goals as goal

abbrev four : ClientNumber
four = record { session = sevens; transaction = pos 4 }

-- a request for an ordered write sends it as that
ordered_by : (a : Asked) (write : WriteCommand) → command_of a.request ≡ Ok (write_command write) → write.ordered ≡ true → (sends : Sends a (second_done 4))
    → sends.write.ordered ≡ true
ordered_by a write asks ordered sends = ap (λ (w : WriteCommand). w.ordered) (sym (same_write write sends.write (sym asks ∙ sends.asks))) ∙ ordered

-- no entry of the first statement is without an error
abbrev IsNoFirst : Entry → Type 0
IsNoFirst d = d.number ≡ number_in sevens (pos 4) 0 → d.outcome.error ≡ None → ⊥

first_other : IsNoFirst first_entry
first_other same fine = let sessions = ap (λ (n : StatementNumber). n.session) same in cc

first_failed : IsNoFirst failed
first_failed same fine = cc

second_other : IsNoFirst (second_done 4)
second_other same fine = let indices : 1 ≡ 0 = ap (λ (n : StatementNumber). n.index) same in omega (arith, indices)

none_first : (history : List Entry) → AllByRecursion IsNoFirst history
    → (d : Entry) × IsIn d history × (d.number ≡ number_in sevens (pos 4) 0) × (d.outcome.error ≡ None) × (d.time < timestamp 1000 4) → ⊥
none_first history none r = all_at IsNoFirst r.0 history none r.1 r.2 r.3

abbrev two : WriteCommand
two = inserts_under (pos 4) two_documents true

abbrev one : WriteCommand
one = inserts_under (pos 4) (with_id long_five ∷ []) true

pub returns-clause-behind_error : goal.returns-clause-behind_error
returns-clause-behind_error c reached =
    none_first both_done (first_other, (first_failed, (second_other, tt)))
    (reached ((λ sends. ordered_by (two_sent 2 2 4 true) two refl refl sends), ((λ sends. ordered_by (two_sent 3 1 6 true) two refl refl sends), tt)) 0
    (omega arith))

pub returns-clause-behind_another : goal.returns-clause-behind_another
returns-clause-behind_another c reached =
    none_first both_done (first_other, (first_failed, (second_other, tt)))
    (reached ((λ sends. ordered_by failing one refl refl sends), ((λ sends. ordered_by (two_sent 3 1 6 true) two refl refl sends), tt)) 0 (omega arith))

pub returns-clause-gap : goal.returns-clause-gap
returns-clause-gap c reached =
    none_first (second_done 4 ∷ []) (second_other, tt) (reached ((λ sends. ordered_by (two_sent 2 2 4 true) two refl refl sends), tt) 0 (omega arith))

abbrev sent_unordered : Sends (two_sent 3 1 6 false) (second_done 4)
sent_unordered = record {
  write = inserts_under (pos 4) two_documents false;
  index = 1;
  asks = refl;
  entry = record {
    prefix = insert_operation (with_id long_five) ∷ [];
    operation = insert_operation (with_id six);
    back = [];
    both = refl;
    at = refl;
    statement = record { same_number = refl; name = refl; does = refl };
  };
}

pub returns-clause-unordered : goal.returns-clause-unordered
returns-clause-unordered c ordered = absurd (let both : false ≡ true = ordered.1.0 sent_unordered in cc)

pub returns-clause-ended : goal.returns-clause-ended
returns-clause-ended c =
    told_just both_done (two_sent 2 2 4 true ∷ two_sent 3 1 6 false ∷ []) (two_sent 2 2 4 true) 9 5 insert_kind true four refl
    (insert_operation (with_id long_five) ∷ insert_operation (with_id six) ∷ []) (answer_by failed ∷ []) duplicate_reply refl (
      (λ document.
          told_own failed (in_later failed first_entry (failed ∷ second_done 4 ∷ []) (in_first failed (second_done 4 ∷ [])))
          (record { same_number = refl; name = refl; does = refl }) (omega arith)),
      (λ document.
          let t = tells (two_sent 2 2 4 true) 9 5 document in (
            gives_elsewhere (two_sent 2 2 4 true ∷ two_sent 3 1 6 false ∷ []) t failed.number (λ x. x ≡ answer_by failed) first_entry (λ same. cc),
            (
              gives_itself (two_sent 2 2 4 true ∷ two_sent 3 1 6 false ∷ []) t failed.number failed refl,
              (
                gives_another (two_sent 2 2 4 true ∷ two_sent 3 1 6 false ∷ []) t failed.number (λ x. x ≡ answer_by failed) (second_done 4) (λ same. cc) refl,
                tt,
              ),
            ),
          )),
      refl,
    )
    (omega arith) refl
