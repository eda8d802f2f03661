-- The one entry is that of both requests.
use Rattle.std.proofs.Common.{◌≡◌, ◌≤◌, ℕ, pos, inl, inr, [], ◌∷◌, refl, sym, ap, ◌∙◌, arith}
use Rattle.std.specs.Prelude.{true, Some, None, Ok}
use Rattle.command_model.specs.Command.{command_of, write_command}
use Rattle.command_laws.specs.SampleNumbers.{sevens}
use Rattle.base_model.specs.SampleReplies.{done_reply}
use Rattle.command_laws.specs.SampleRequests.{five, with_id}
use Rattle.command_model.specs.Writes.{ClientNumber, WriteCommand, insert_kind}
use Rattle.chunk_model.specs.SampleCollections.{creation}
use Rattle.chunk_model.specs.Changes.{create_change}
use Rattle.history_model.specs.History.{IsIn, insert_operation}
use Rattle.history_model.proofs.Lists.{all_at, in_first, in_later}
use Rattle.base_model.specs.Identities.{RequestId}
use Rattle.reply_model.specs.Exchanges.{Asked, Answered}
use Rattle.reply_model.specs.Accounts.{Given}
use Rattle.reply_model.specs.Outcomes.{answer_by}
use Rattle.reply_model.specs.OneHistory.{AreDifferent, IsCaused, IsKnown, Shows, changes_by, IsRightOf, StandsInPart, nothing_told, then_told}
use Rattle.reply_model.specs.Right.{IsRight, Sends, right_write, told_own}
use Rattle.reply_laws.specs.SampleExchanges.{id_at, tells, created, created_dated, account_of}
use Rattle.reply_laws.specs.SampleRetries.{answer_again, both_answers, both_sent, first_answer, inserts_under, put_five, sent_again, sent_first}
use Rattle.reply_laws.proofs.NumberedWrites.{gives_itself, gives_later, told_just, untold}
use Rattle.reply_laws.proofs.CausedReplies.{by_write, caused_by, made_by}
use Rattle.reply_laws.proofs.OwnWrites.{none_before, same_write}
use Rattle.reply_laws.proofs.retry_examples.retried.Goals as goal

abbrev four : ClientNumber
four = record { session = sevens; transaction = pos 4 }

abbrev inserts : WriteCommand
inserts = inserts_under (pos 4) (with_id five ∷ []) true

abbrev first_sends : Sends sent_first put_five
first_sends = record {
  write = inserts;
  index = 0;
  asks = refl;
  entry = record {
    prefix = [];
    operation = insert_operation (with_id five);
    back = [];
    both = refl;
    at = refl;
    statement = record { same_number = refl; name = refl; does = refl };
  };
}

abbrev IsOfBoth : Asked → Type 0
IsOfBoth a = IsIn a both_sent

first_taken : IsOfBoth sent_first
first_taken = in_first sent_first (sent_again ∷ [])

again_taken : IsOfBoth sent_again
again_taken = in_later sent_again sent_first (sent_again ∷ []) (in_first sent_again [])

both_right : (a : Asked) (step : ℕ) → command_of a.request ≡ Ok (write_command inserts)
    → IsRight (account_of (put_five ∷ []) both_sent both_answers) [] a (tells a step 2 done_reply) []
both_right a step asks =
    right_write inserts (record { index = 0; answer = answer_by put_five } ∷ []) asks
    (refl, told_own put_five (in_first put_five []) (record { same_number = refl; name = refl; does = refl }) (omega arith), refl)
    (λ none. absurd (cc)) (λ any. record { creation = creation; begun = in_first (create_change creation) []; name = refl; before = omega arith }) refl

first_right : IsRightOf (account_of (put_five ∷ []) both_sent both_answers) [] first_answer []
first_right = record {
  request = sent_first;
  taken = first_taken;
  own = refl;
  link = refl;
  number = refl;
  same = refl;
  came = omega arith;
  risen = omega arith;
  met = inr (inr (inr (put_five, in_first put_five [], omega arith)));
  right = both_right sent_first 3 refl;
}

again_right : IsRightOf (account_of (put_five ∷ []) both_sent both_answers) [] answer_again []
again_right = record {
  request = sent_again;
  taken = again_taken;
  own = refl;
  link = refl;
  number = refl;
  same = refl;
  came = omega arith;
  risen = omega arith;
  met = inr (inr (inr (put_five, in_first put_five [], omega arith)));
  right = both_right sent_again 5 refl;
}

no_part : (a : Asked) → command_of a.request ≡ Ok (write_command inserts) → StandsInPart (put_five ∷ []) a
no_part a is write asks none = absurd (numbered (same_write inserts write (sym is ∙ asks)))
  where
    numbered : inserts ≡ write → ⊥
    numbered same = let both : Some four ≡ None = ap (λ (w : WriteCommand). w.number) same ∙ none in cc

abbrev two_moment : Given
two_moment = record { node = 2; moment = 1000000; step = 0 }

abbrev three_moment : Given
three_moment = record { node = 3; moment = 1000000; step = 1 }

first_known : IsKnown (account_of (put_five ∷ []) both_sent both_answers) sent_first
first_known = record { moment = refl; time = inr (inl (two_moment, in_first two_moment (three_moment ∷ []), omega arith)); reached = omega arith }

again_known : IsKnown (account_of (put_five ∷ []) both_sent both_answers) sent_again
again_known = record {
  moment = refl;
  time = inr (inl (three_moment, in_later three_moment two_moment (three_moment ∷ []) (in_first three_moment []), omega arith));
  reached = omega arith;
}

first_shown : (t : Answered) → IsIn t both_answers → t.id ≡ sent_first.id → Shows (account_of (put_five ∷ []) both_sent both_answers) sent_first t inserts
first_shown t i own =
    all_at (λ (x : Answered). x.id ≡ sent_first.id → Shows (account_of (put_five ∷ []) both_sent both_answers) sent_first x inserts) t both_answers (
      (λ same. record {
        dones = record { index = 0; answer = answer_by put_five } ∷ [];
        told = (refl, told_own put_five (in_first put_five []) (record { same_number = refl; name = refl; does = refl }) (omega arith), refl);
        same = refl;
      }),
      ((λ same. absurd (let routers = ap (λ (id : RequestId). id.router) same in cc)), tt),
    ) i own

again_shown : (t : Answered) → IsIn t both_answers → t.id ≡ sent_again.id → Shows (account_of (put_five ∷ []) both_sent both_answers) sent_again t inserts
again_shown t i own =
    all_at (λ (x : Answered). x.id ≡ sent_again.id → Shows (account_of (put_five ∷ []) both_sent both_answers) sent_again x inserts) t both_answers (
      (λ same. absurd (let routers = ap (λ (id : RequestId). id.router) same in cc)),
      (
        (λ same. record {
          dones = record { index = 0; answer = answer_by put_five } ∷ [];
          told = (refl, told_own put_five (in_first put_five []) (record { same_number = refl; name = refl; does = refl }) (omega arith), refl);
          same = refl;
        }),
        tt,
      ),
    ) i own

-- the collection was created before both replies
both_caused : (t : Answered) → IsIn t both_answers → changes_by created_dated t ≡ created → creation.at ≤ t.time → IsCaused (account_of (put_five ∷ []) both_sent both_answers) t
both_caused t i same past =
    caused_by (account_of (put_five ∷ []) both_sent both_answers) t (
      by_write (account_of (put_five ∷ []) both_sent both_answers) sent_first t inserts (λ own. first_shown t i (sym own)) (made_by created_dated t same past),
      (
        by_write (account_of (put_five ∷ []) both_sent both_answers) sent_again t inserts (λ own. again_shown t i (sym own))
            (made_by created_dated t same past),
        tt,
      ),
    )

different : AreDifferent (id_at 2 1 ∷ id_at 3 1 ∷ [])
different = (((λ e. let routers = ap (λ (id : RequestId). id.router) e in cc), tt), (tt, tt))

pub returns-clause-whole : goal.returns-clause-whole
returns-clause-whole c = record {
  legal = (record { rises = tt; told = refl; once = tt }, tt);
  sent = (
    record {
      request = sent_first;
      taken = first_taken;
      sends = first_sends;
      later = omega arith;
      goes_on = λ t i own. (first_shown t i own, λ before. none_before inserts (first_shown t i own).dones before);
    },
    tt,
  );
  numbers = (tt, tt);
  reached = ((λ ordered i less. absurd (omega (arith, less))), tt);
  placed = (
    record { creation = creation; key = five; begun = in_first (create_change creation) []; name = refl; before = omega arith; writes = refl; owner = refl },
    tt,
  );
  parts = (no_part sent_first refl, (no_part sent_again refl, tt));
  wanted = (record { request = sent_first; taken = first_taken; asks = inl (record { write = inserts; asks = refl; name = refl }); later = omega arith }, tt);
  fitting = (record { later = tt; fits = record { absent = refl; next = refl } }, tt);
  steps = refl;
  caused = (both_caused first_answer (in_first first_answer (answer_again ∷ [])) refl (omega arith), (both_caused answer_again (in_later answer_again first_answer (answer_again ∷ []) (in_first answer_again [])) refl (omega arith), tt));
  right = then_told [] [] first_answer (answer_again ∷ []) first_right (then_told [] [] answer_again [] again_right (nothing_told []));
  away = tt;
  one = different;
  once = different;
  fresh = (
    ((λ time router life before shows. omega (arith, before)), ((λ time router life before shows. omega (arith, before)), tt)),
    (
      ((λ time router life before shows. absurd (cc)), ((λ time router life before shows. omega (arith, before)), tt)),
      tt,
    ),
  );
  order = (
    ((λ router life before. omega arith), ((λ router life before. omega arith), tt)),
    (((λ router life before. omega arith), ((λ router life before. omega arith), tt)), tt),
  );
  known = (first_known, (again_known, tt));
  anew = refl;
}

pub returns-clause-same : goal.returns-clause-same
returns-clause-same c =
    told_just (put_five ∷ []) both_sent sent_again 5 4 insert_kind true four refl (insert_operation (with_id five) ∷ []) (answer_by put_five ∷ []) done_reply refl (
      (λ document. told_own put_five (in_first put_five []) (record { same_number = refl; name = refl; does = refl }) (omega arith)),
      (λ document. (gives_itself both_sent (tells sent_again 5 4 document) put_five.number put_five refl, tt)),
      refl,
    )
    (omega arith) refl

pub returns-clause-lost : goal.returns-clause-lost
returns-clause-lost c = untold [] both_sent sent_again 5 2 insert_kind true four refl (insert_operation (with_id five)) [] refl (λ document. tt)

pub returns-clause-foretold : goal.returns-clause-foretold
returns-clause-foretold c =
    untold (put_five ∷ []) both_sent sent_again 5 1 insert_kind true four refl (insert_operation (with_id five)) [] refl
    (λ document. (gives_later both_sent (tells sent_again 5 1 document) put_five.number (λ x. ⊥) put_five (omega arith) refl, tt))
