-- The entry under the number gives the outcome, and no other does.
use Rattle.std.proofs.Common.{◌≡◌, ◌≤◌, pos, List, [], ◌∷◌, ◌++◌, refl, ap, ◌∙◌, codes, arith}
use Rattle.std.specs.Prelude.{true, Some, None}
use Rattle.bson_model.specs.Tree.{Fields}
use Rattle.command_laws.specs.SampleCommands.{change_one}
use Rattle.command_laws.specs.SampleNumbers.{sevens}
use Rattle.base_model.specs.SampleReplies.{done_reply}
use Rattle.command_laws.specs.SampleRequests.{five, six, with_id}
use Rattle.command_model.specs.Writes.{ClientNumber, WriteCommand, delete_kind, insert_kind, update_kind}
use Rattle.history_model.specs.History.{Entry, Operation, StatementNumber, delete_operation, done, insert_operation, update_operation}
use Rattle.history_model.proofs.Lists.{all_at, in_first}
use Rattle.reply_model.specs.Exchanges.{Asked, number_for}
use Rattle.reply_model.specs.Outcomes.{answer_by}
use Rattle.reply_model.specs.Right.{HadSent, Sends, told_other}
use Rattle.reply_laws.specs.SampleExchanges.{tells}
use Rattle.reply_laws.specs.SampleRetries.{both_sent, delete_three, eights, entry_under, first_three, five_elsewhere, insert_elsewhere, insert_five, insert_six, inserted_five, inserts_under, number_in, sends_three, sent_again, then_three, unmodified_reply, unnumbered_six, upsert_three, upserted_five}
use Rattle.reply_laws.proofs.NumberedWrites.{gives_another, gives_elsewhere, gives_itself, gives_nothing, told_just, untold}
use Rattle.reply_laws.proofs.OwnWrites.{own_untold, same_write}
use Rattle.reply_laws.proofs.retry_examples.numbers_used_again.Goals as goal

abbrev by_three : ClientNumber
by_three = record { session = sevens; transaction = pos 3 }

abbrev four : ClientNumber
four = record { session = sevens; transaction = pos 4 }

-- ANOTHER STATEMENT UNDER THE NUMBER

abbrev upserts : WriteCommand
upserts = record {
  kind = update_kind;
  namespace = codes "d.c";
  operations = update_operation (with_id five) change_one true ∷ [];
  ordered = true;
  number = Some by_three;
}

abbrev inserts_elsewhere : WriteCommand
inserts_elsewhere = record {
  kind = insert_kind;
  namespace = codes "d.b";
  operations = insert_operation (with_id five) ∷ [];
  ordered = true;
  number = Some by_three;
}

upsert_sent : Sends (first_three (upsert_three five)) upserted_five
upsert_sent = record {
  write = upserts;
  index = 0;
  asks = refl;
  entry = record {
    prefix = [];
    operation = update_operation (with_id five) change_one true;
    back = [];
    both = refl;
    at = refl;
    statement = record { same_number = refl; name = refl; does = refl };
  };
}

insert_sent : Sends (first_three insert_five) inserted_five
insert_sent = record {
  write = inserts_under (pos 3) (with_id five ∷ []) true;
  index = 0;
  asks = refl;
  entry = record {
    prefix = [];
    operation = insert_operation (with_id five);
    back = [];
    both = refl;
    at = refl;
    statement = record { same_number = refl; name = refl; does = refl };
  };
}

sent_elsewhere : Sends (first_three insert_elsewhere) five_elsewhere
sent_elsewhere = record {
  write = inserts_elsewhere;
  index = 0;
  asks = refl;
  entry = record {
    prefix = [];
    operation = insert_operation (with_id five);
    back = [];
    both = refl;
    at = refl;
    statement = record { same_number = refl; name = refl; does = refl };
  };
}

pub returns-clause-insert : goal.returns-clause-insert
returns-clause-insert c =
    told_just (upserted_five ∷ []) (sends_three (upsert_three five) insert_six) (then_three insert_six) 5 4 insert_kind true by_three refl
    (insert_operation (with_id six) ∷ []) (answer_by upserted_five ∷ []) done_reply refl (
      (λ document.
          told_other upserted_five by_three (in_first upserted_five []) refl refl (omega arith)
          (record {
            request = first_three (upsert_three five);
            taken = in_first (first_three (upsert_three five)) (then_three insert_six ∷ []);
            sends = upsert_sent;
            came = omega arith;
          })),
      (λ document. (
        gives_itself (sends_three (upsert_three five) insert_six)
            (tells (then_three insert_six) 5 4 document) upserted_five.number upserted_five refl,
        tt,
      )),
      refl,
    )
    (omega arith) refl

pub returns-clause-delete : goal.returns-clause-delete
returns-clause-delete c =
    told_just (upserted_five ∷ []) (sends_three (upsert_three five) (delete_three six)) (then_three (delete_three six)) 5 4 delete_kind true by_three refl
    (delete_operation (with_id six) ∷ []) (answer_by upserted_five ∷ []) done_reply refl (
      (λ document.
          told_other upserted_five by_three (in_first upserted_five []) refl refl (omega arith)
          (record {
            request = first_three (upsert_three five);
            taken = in_first (first_three (upsert_three five)) (then_three (delete_three six) ∷ []);
            sends = upsert_sent;
            came = omega arith;
          })),
      (λ document. (
        gives_itself (sends_three (upsert_three five) (delete_three six))
            (tells (then_three (delete_three six)) 5 4 document) upserted_five.number upserted_five refl,
        tt,
      )),
      refl,
    )
    (omega arith) refl

pub returns-clause-update : goal.returns-clause-update
returns-clause-update c =
    told_just (inserted_five ∷ []) (sends_three insert_five (upsert_three six)) (then_three (upsert_three six)) 5 4 update_kind true by_three refl
    (update_operation (with_id six) change_one true ∷ []) (answer_by inserted_five ∷ []) unmodified_reply refl (
      (λ document.
          told_other inserted_five by_three (in_first inserted_five []) refl refl (omega arith)
          (record {
            request = first_three insert_five;
            taken = in_first (first_three insert_five) (then_three (upsert_three six) ∷ []);
            sends = insert_sent;
            came = omega arith;
          })),
      (λ document. (
        gives_itself (sends_three insert_five (upsert_three six))
            (tells (then_three (upsert_three six)) 5 4 document) inserted_five.number inserted_five refl,
        tt,
      )),
      refl,
    )
    (omega arith) refl

pub returns-clause-elsewhere : goal.returns-clause-elsewhere
returns-clause-elsewhere c =
    told_just (five_elsewhere ∷ []) (sends_three insert_elsewhere (delete_three six)) (then_three (delete_three six)) 5 4 delete_kind true by_three refl
    (delete_operation (with_id six) ∷ []) (answer_by five_elsewhere ∷ []) done_reply refl (
      (λ document.
          told_other five_elsewhere by_three (in_first five_elsewhere []) refl refl (omega arith)
          (record {
            request = first_three insert_elsewhere;
            taken = in_first (first_three insert_elsewhere) (then_three (delete_three six) ∷ []);
            sends = sent_elsewhere;
            came = omega arith;
          })),
      (λ document. (
        gives_itself (sends_three insert_elsewhere (delete_three six))
            (tells (then_three (delete_three six)) 5 4 document) five_elsewhere.number five_elsewhere refl,
        tt,
      )),
      refl,
    )
    (omega arith) refl

-- ANOTHER NUMBER

abbrev index_one : Entry
index_one = entry_under sevens 2 (pos 4) 1 (insert_operation (with_id six)) done

abbrev smaller : Entry
smaller = entry_under sevens 2 (pos 3) 0 (insert_operation (with_id five)) done

abbrev elsewhere : Entry
elsewhere = entry_under eights 2 (pos 4) 0 (insert_operation (with_id five)) done

pub returns-clause-another_index : goal.returns-clause-another_index
returns-clause-another_index c =
    untold (index_one ∷ []) both_sent sent_again 5 4 insert_kind true four refl (insert_operation (with_id five)) [] refl
    (λ document. (gives_another both_sent (tells sent_again 5 4 document) (number_in sevens (pos 4) 0) (λ x. ⊥) index_one (λ same. cc) refl, tt))

pub returns-clause-smaller_transaction : goal.returns-clause-smaller_transaction
returns-clause-smaller_transaction c =
    untold (smaller ∷ []) both_sent sent_again 5 4 insert_kind true four refl (insert_operation (with_id five)) [] refl
    (λ document. (
      gives_nothing both_sent (tells sent_again 5 4 document) (number_in sevens (pos 4) 0) (λ x. ⊥) smaller
          (λ same. let n : pos 3 ≡ pos 4 = ap (λ (n : StatementNumber). n.transaction) same in cc) refl,
      tt,
    ))

pub returns-clause-unnumbered : goal.returns-clause-unnumbered
returns-clause-unnumbered c =
    own_untold (upserted_five ∷ []) (first_three (upsert_three five) ∷ unnumbered_six ∷ []) unnumbered_six 5 4 insert_kind true (insert_operation (with_id six))
    [] refl refl
    (λ document. (
      gives_elsewhere (first_three (upsert_three five) ∷ unnumbered_six ∷ []) (tells unnumbered_six 5 4 document)
          (number_for None unnumbered_six.id 0) (λ x. ⊥) upserted_five (λ same. cc),
      tt,
    ))

pub returns-clause-another_session : goal.returns-clause-another_session
returns-clause-another_session c =
    untold (elsewhere ∷ []) both_sent sent_again 5 4 insert_kind true four refl (insert_operation (with_id five)) [] refl
    (λ document. (gives_elsewhere both_sent (tells sent_again 5 4 document) (number_in sevens (pos 4) 0) (λ x. ⊥) elsewhere (λ same. cc), tt))

-- the words of the second request are no update
not_again : Sends (then_three insert_six) upserted_five → ⊥
not_again sends =
    let same : inserts_under (pos 3) (with_id six ∷ []) true ≡ sends.write =
    same_write (inserts_under (pos 3) (with_id six ∷ []) true) sends.write sends.asks in
    no_update sends.entry.prefix sends.entry.operation sends.entry.back (ap (λ (w : WriteCommand). w.operations) same ∙ sends.entry.both)
    sends.entry.statement.does
  where
    no_update : (prefix : List Operation) (operation : Operation) (back : List Operation) → insert_operation (with_id six) ∷ [] ≡ prefix ++ operation ∷ back
        → update_operation (with_id five) change_one true ≡ operation → ⊥
    no_update [] operation back both does = cc
    no_update (x ∷ []) operation back both does = cc
    no_update (x ∷ (y ∷ prefix)) operation back both does = cc

abbrev later_sent : Asked
later_sent = record (first_three (upsert_three five)) { came = 8 }

not_sent : (document : Fields) → HadSent (later_sent ∷ then_three insert_six ∷ []) upserted_five (tells (then_three insert_six) 5 4 document) → ⊥
not_sent document had =
    all_at (λ (a : Asked). Sends a upserted_five → a.came ≤ 5 → ⊥) had.request (later_sent ∷ then_three insert_six ∷ [])
    ((λ sends came. omega (arith, came)), ((λ sends came. not_again sends), tt))
    had.taken had.sends had.came

pub returns-clause-foretold : goal.returns-clause-foretold
returns-clause-foretold c =
    untold (upserted_five ∷ []) (later_sent ∷ then_three insert_six ∷ []) (then_three insert_six) 5 4 insert_kind true by_three refl
    (insert_operation (with_id six)) [] refl
    (λ document. (
      record {
        own = λ is early. absurd (let words : update_operation (with_id five) change_one true ≡ insert_operation (with_id six) = is.does in cc);
        other = λ same early had. not_sent document had;
        older = λ session less had. absurd (cc);
      },
      tt,
    ))
