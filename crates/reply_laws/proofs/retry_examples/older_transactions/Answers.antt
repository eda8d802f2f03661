-- The entry with the greater transaction gives the outcome, and it was sent before.
use Rattle.std.proofs.Common.{◌≡◌, ◌≤◌, ℕ, pos, negsuc, inl, inr, [], ◌∷◌, refl, sym, ap, ◌∙◌, arith, codes}
use Rattle.std.specs.Prelude.{Bool, true, false, Option, Some, None}
use Rattle.bson_model.specs.Tree.{Fields}
use Rattle.command_laws.specs.SampleNumbers.{sevens}
use Rattle.command_laws.specs.SampleRequests.{five, long_five, six, with_id}
use Rattle.base_model.specs.Times.{time_of_moment, timestamp}
use Rattle.command_model.specs.Writes.{ClientNumber, WriteCommand, insert_kind}
use Rattle.chunk_model.specs.Changes.{Change, time_of}
use Rattle.history_model.specs.History.{Entry, Operation, StatementNumber, done, insert_operation}
use Rattle.history_model.proofs.Lists.{all_at, in_first}
use Rattle.base_model.specs.Identities.{RequestId}
use Rattle.reply_model.specs.Exchanges.{Asked, number_for}
use Rattle.reply_model.specs.Accounts.{Given}
use Rattle.reply_model.specs.Outcomes.{is_older}
use Rattle.reply_model.specs.OneHistory.{WasMet}
use Rattle.reply_model.specs.Right.{HadSent, MayBeTold, Sends, told_older}
use Rattle.reply_laws.specs.SampleExchanges.{moments, tells, created, account_of}
use Rattle.reply_laws.specs.SampleRetries.{eights, entry_under, errors_reply, inserts_under, late_two, newer, newer_entry, number_in, older_error, six_as, two_documents, unnumbered_six, zero_sent}
use Rattle.reply_laws.proofs.NumberedWrites.{Gives, gives_elsewhere, gives_older, told_just, untold}
use Rattle.reply_laws.proofs.OwnWrites.{own_untold, same_write}
use Rattle.reply_laws.proofs.retry_examples.older_transactions.Goals as goal

abbrev four : ClientNumber
four = record { session = sevens; transaction = pos 4 }

newer_sent : Sends newer newer_entry
newer_sent = record {
  write = inserts_under (pos 5) (with_id five ∷ []) true;
  index = 0;
  asks = refl;
  entry = record {
    prefix = [];
    operation = insert_operation (with_id five);
    back = [];
    both = refl;
    at = refl;
    statement = record { same_number = refl; name = refl; does = refl };
  };
}

may : (ordered : Bool) (index : ℕ) (operation : Operation) (document : Fields)
    → MayBeTold (account_of (newer_entry ∷ []) (newer ∷ late_two ordered ∷ []) []) (late_two ordered) (tells (late_two ordered) 5 4 document) (Some four)
    (number_in sevens (pos 4) index)
    (codes "d.c") operation (is_older (pos 5))
may ordered index operation document =
    told_older newer_entry four (in_first newer_entry []) refl refl refl (omega arith)
    (record { request = newer; taken = in_first newer (late_two ordered ∷ []); sends = newer_sent; came = omega arith })

gives : (ordered : Bool) (index : ℕ) (operation : Operation) (document : Fields)
    → Gives (newer ∷ late_two ordered ∷ []) (tells (late_two ordered) 5 4 document) (number_in sevens (pos 4) index) (codes "d.c") operation
    (λ x. x ≡ is_older (pos 5)) newer_entry
gives ordered index operation document =
    gives_older (newer ∷ late_two ordered ∷ []) (tells (late_two ordered) 5 4 document) (number_in sevens (pos 4) index) newer_entry
    (λ same. let transactions : pos 5 ≡ pos 4 = ap (λ (n : StatementNumber). n.transaction) same in cc)

pub returns-clause-ordered : goal.returns-clause-ordered
returns-clause-ordered c =
    told_just (newer_entry ∷ []) (newer ∷ late_two true ∷ []) (late_two true) 5 4 insert_kind true four refl
    (insert_operation (with_id long_five) ∷ insert_operation (with_id six) ∷ [])
    (is_older (pos 5) ∷ []) (errors_reply 0 4 (older_error (pos 5) 0 ∷ [])) refl (
      (λ document. may true 0 (insert_operation (with_id long_five)) document),
      (λ document. (gives true 0 (insert_operation (with_id long_five)) document, tt)),
      refl,
    )
    (omega arith) refl

pub returns-clause-unordered : goal.returns-clause-unordered
returns-clause-unordered c =
    told_just (newer_entry ∷ []) (newer ∷ late_two false ∷ []) (late_two false) 5 4 insert_kind false four refl
    (insert_operation (with_id long_five) ∷ insert_operation (with_id six) ∷ [])
    (is_older (pos 5) ∷ is_older (pos 5) ∷ []) (errors_reply 0 4 (older_error (pos 5) 0 ∷ older_error (pos 5) 1 ∷ [])) refl (
      (λ document. may false 0 (insert_operation (with_id long_five)) document),
      (λ document. (gives false 0 (insert_operation (with_id long_five)) document, tt)),
      ((λ document. may false 1 (insert_operation (with_id six)) document), (λ document. (gives false 1 (insert_operation (with_id six)) document, tt)), refl),
    )
    (omega arith) refl

-- BELOW ZERO

abbrev below : ClientNumber
below = record { session = sevens; transaction = negsuc 0 }

abbrev zero_entry : Entry
zero_entry = entry_under sevens 2 (pos 0) 0 (insert_operation (with_id five)) done

zero_sends : Sends zero_sent zero_entry
zero_sends = record {
  write = inserts_under (pos 0) (with_id five ∷ []) true;
  index = 0;
  asks = refl;
  entry = record {
    prefix = [];
    operation = insert_operation (with_id five);
    back = [];
    both = refl;
    at = refl;
    statement = record { same_number = refl; name = refl; does = refl };
  };
}

pub returns-clause-below_zero : goal.returns-clause-below_zero
returns-clause-below_zero c =
    told_just (zero_entry ∷ []) (zero_sent ∷ six_as (negsuc 0) ∷ []) (six_as (negsuc 0)) 5 4 insert_kind true below refl (insert_operation (with_id six) ∷ [])
    (is_older (pos 0) ∷ []) (errors_reply 0 4 (older_error (pos 0) 0 ∷ [])) refl (
      (λ document.
          told_older zero_entry below (in_first zero_entry []) refl refl refl (omega arith)
          (record { request = zero_sent; taken = in_first zero_sent (six_as (negsuc 0) ∷ []); sends = zero_sends; came = omega arith })),
      (λ document. (
        gives_older (zero_sent ∷ six_as (negsuc 0) ∷ []) (tells (six_as (negsuc 0)) 5 4 document) (number_in sevens (negsuc 0) 0) zero_entry
            (λ same. let transactions : pos 0 ≡ negsuc 0 = ap (λ (n : StatementNumber). n.transaction) same in cc),
        tt,
      )),
      refl,
    )
    (omega arith) refl

-- NOT RETURNED

abbrev elsewhere : Entry
elsewhere = record newer_entry { number = number_in eights (pos 5) 0 }

pub returns-clause-unnumbered : goal.returns-clause-unnumbered
returns-clause-unnumbered c =
    own_untold (newer_entry ∷ []) (newer ∷ unnumbered_six ∷ []) unnumbered_six 5 4 insert_kind true (insert_operation (with_id six)) [] refl refl
    (λ document. (
      gives_elsewhere (newer ∷ unnumbered_six ∷ []) (tells unnumbered_six 5 4 document) (number_for None unnumbered_six.id 0) (λ x. ⊥) newer_entry
          (λ same. cc),
      tt,
    ))

pub returns-clause-another_session : goal.returns-clause-another_session
returns-clause-another_session c =
    untold (elsewhere ∷ []) (newer ∷ late_two true ∷ []) (late_two true) 5 4 insert_kind true four refl (insert_operation (with_id long_five))
    (insert_operation (with_id six) ∷ []) refl
    (λ document. (
      gives_elsewhere (newer ∷ late_two true ∷ []) (tells (late_two true) 5 4 document) (number_in sevens (pos 4) 0) (λ x. ⊥) elsewhere
          (λ same. cc),
      tt,
    ))

abbrev later_sent : Asked
later_sent = record newer { came = 8 }

transaction_of : (given : Option ClientNumber) (id : RequestId) (index : ℕ) → given ≡ Some four → (number_for given id index).transaction ≡ pos 4
transaction_of given id index is = ap (λ (g : Option ClientNumber). (number_for g id index).transaction) is

not_late : Sends (late_two true) newer_entry → ⊥
not_late sends =
    let same : inserts_under (pos 4) two_documents true ≡ sends.write = same_write (inserts_under (pos 4) two_documents true) sends.write sends.asks in
    let number : sends.write.number ≡ Some four = ap (λ (w : WriteCommand). w.number) (sym same) in
    let transactions : pos 5 ≡ pos 4 = ap (λ (n : StatementNumber). n.transaction) sends.entry.statement.same_number
    ∙ transaction_of sends.write.number (late_two true).id sends.index number in cc

not_sent : (document : Fields) → HadSent (later_sent ∷ late_two true ∷ []) newer_entry (tells (late_two true) 5 4 document) → ⊥
not_sent document had =
    all_at (λ (a : Asked). Sends a newer_entry → a.came ≤ 5 → ⊥) had.request (later_sent ∷ late_two true ∷ [])
    ((λ sends came. omega (arith, came)), ((λ sends came. not_late sends), tt))
    had.taken had.sends had.came

pub returns-clause-foretold : goal.returns-clause-foretold
returns-clause-foretold c =
    untold (newer_entry ∷ []) (later_sent ∷ late_two true ∷ []) (late_two true) 5 4 insert_kind true four refl (insert_operation (with_id long_five))
    (insert_operation (with_id six) ∷ []) refl
    (λ document. (
      record {
        own = λ is early. absurd (let n : pos 5 ≡ pos 4 = ap (λ (n : StatementNumber). n.transaction) is.same_number in cc);
        other = λ same early had. absurd (let n : pos 5 ≡ pos 4 = ap (λ (n : StatementNumber). n.transaction) same in cc);
        older = λ session less had. not_sent document had;
      },
      tt,
    ))

-- no moment, collection or entry is of this time
never_met : WasMet (account_of (newer_entry ∷ []) [] []) (timestamp 2000 0) → ⊥
never_met (inl zero) = omega (arith, zero)
never_met (inr (inl (g, i, same))) =
    all_at (λ (g : Given). timestamp 2000 0 ≤ time_of_moment g.moment → ⊥) g moments ((λ e. omega (arith, e)), ((λ e. omega (arith, e)), tt)) i same
never_met (inr (inr (inl (x, i, same)))) = all_at (λ (x : Change). timestamp 2000 0 ≤ time_of x → ⊥) x created ((λ e. omega (arith, e)), tt) i same
never_met (inr (inr (inr (e, i, same)))) = all_at (λ (e : Entry). timestamp 2000 0 ≤ e.time → ⊥) e (newer_entry ∷ []) ((λ e. omega (arith, e)), tt) i same

pub returns-clause-made_up : goal.returns-clause-made_up
returns-clause-made_up c document next is = never_met is.met
