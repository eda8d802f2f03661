-- A time that was returned is wanted, and a request that has ended proceeds no further.
use Rattle.std.proofs.Common.{◌≡◌, ◌<◌, ℕ, pos, inl, [], ◌∷◌, List, refl, sym, ap, subst, ◌∙◌, arith}
use Rattle.std.specs.Prelude.{true, false, Option, Some, None}
use Rattle.command_laws.specs.SampleRequests.{five, long_five, with_id}
use Rattle.base_model.specs.Times.{timestamp}
use Rattle.command_model.specs.Writes.{ClientNumber, WriteCommand}
use Rattle.history_model.specs.History.{Entry, IsIn, StatementNumber, insert_operation}
use Rattle.history_model.proofs.Lists.{all_at, in_first}
use Rattle.base_model.specs.Identities.{RequestId}
use Rattle.reply_model.specs.Exchanges.{Asked, Answered, number_for}
use Rattle.reply_model.specs.Outcomes.{StatementOutcome, Done, answer_by, is_too_old, summary_of, done_of}
use Rattle.reply_model.specs.OneHistory.{EndsBefore, Shows}
use Rattle.reply_model.specs.Reads.{IsAhead}
use Rattle.reply_model.specs.Right.{AreTold, Sends, ends, find_reads}
use Rattle.reply_laws.specs.SampleExchanges.{find_of, first_entry, account_of}
use Rattle.reply_laws.specs.SampleRetries.{ended, failed, finding_two, first_answer, inserts_under, put_five, second_done, sent_first, told_ahead, two_documents, two_sent, unordered_later}
use Rattle.reply_laws.proofs.OwnWrites.{same_write}
use Rattle.reply_laws.proofs.Quiet.{quiet}
use Rattle.reply_laws.proofs.NumberedWrites.{told_by_entries, gives_elsewhere, gives_itself, gives_another}
use Rattle.reply_facts.proofs.ReadTimes.{is_ahead}
use Rattle.reply_laws.proofs.retry_examples.told_before.Goals as goal

pub returns-clause-ahead : goal.returns-clause-ahead
returns-clause-ahead c next right =
    let ahead : IsAhead (account_of (put_five ∷ []) (sent_first ∷ finding_two ∷ []) (first_answer ∷ [])) finding_two told_ahead
    (find_of five (Some (timestamp 1000 2))).reading =
    is_ahead (account_of (put_five ∷ []) (sent_first ∷ finding_two ∷ []) (first_answer ∷ [])) [] finding_two told_ahead next
    (find_of five (Some (timestamp 1000 2))).reading (timestamp 1000 0) (find_reads (find_of five (Some (timestamp 1000 2)))) right refl in
    let same : timestamp 1000 2 ≡ ahead.wanted = wanted ahead.wanted ahead.wants in
    omega (
      arith,
      same,
      ahead.of_all first_answer (inserts_under (pos 4) (with_id five ∷ []) true) 0 put_five (in_first first_answer []) (omega arith) refl
          (in_first put_five []) refl refl (record { told = summary_of first_answer.time (done_of put_five ∷ []); same = refl; each = tt }),
    )
  where
    wanted : (n : ℕ) → Some (timestamp 1000 2) ≡ Some n → timestamp 1000 2 ≡ n
    wanted n e = cc

-- AN ENTRY THAT IS TOO EARLY

abbrev early : Entry
early = second_done 50

abbrev entries : List Entry
entries = first_entry ∷ failed ∷ early ∷ []

abbrev sent : List Asked
sent = two_sent 2 2 4 true ∷ unordered_later ∷ []

abbrev two : WriteCommand
two = inserts_under (pos 4) two_documents true

-- an entry may be made for it after all its outcomes
abbrev GoesOn : (a : Asked) → Sends a early → Type 0
GoesOn a sends =
    (t : Answered) → IsIn t (ended ∷ []) → t.id ≡ a.id
    → (shown : Shows (account_of entries sent (ended ∷ [])) a t sends.write) × (¬ EndsBefore sends.index sends.write shown.dones)

-- the first outcome is that of the entry that failed
abbrev IsFailed : StatementOutcome → Type 0
IsFailed x = x ≡ answer_by failed

ends_first : (index : ℕ) → 0 < index → (dones : List Done) → AreTold (account_of entries sent (ended ∷ [])) (two_sent 2 2 4 true) ended two 0 two.operations dones
    → EndsBefore index two dones
ends_first index later [] told = absurd told
ends_first index later (d ∷ dones) told =
    let at : d.index ≡ 0 = told.0 in
    let says : d.answer ≡ answer_by failed =
    told_by_entries (account_of entries sent (ended ∷ [])) (two_sent 2 2 4 true) ended
    (quiet entries sent (ended ∷ []) (two_sent 2 2 4 true) ended refl) two.number (number_for two.number ended.id 0) two.namespace
    (insert_operation (with_id long_five)) IsFailed d.answer (
      gives_elsewhere sent ended (number_for two.number ended.id 0) IsFailed first_entry (λ same. cc),
      (
        gives_itself sent ended (number_for two.number ended.id 0) failed refl,
        (gives_another sent ended (number_for two.number ended.id 0) IsFailed early (λ same. cc) refl, tt),
      ),
    ) told.1 in
    let same : record { index = 0; answer = answer_by failed } ≡ d = λ i. record { index = sym at i; answer = sym says i } in
    inl (subst (λ (x : Done). (x.index < index) × (ends two.ordered x ≡ true) × (is_too_old x.answer ≡ false)) same (omega (arith, later), refl, refl))

index_of : (given : Option ClientNumber) (id : RequestId) (index : ℕ) → (number_for given id index).index ≡ index
index_of None id index = refl
index_of (Some by) id index = refl

not_first : (sends : Sends (two_sent 2 2 4 true) early) → GoesOn (two_sent 2 2 4 true) sends → ⊥
not_first sends goes_on =
    let same : two ≡ sends.write = same_write two sends.write sends.asks in
    let at : 1 ≡ sends.index = ap (λ (n : StatementNumber). n.index) sends.entry.statement.same_number
    ∙ index_of sends.write.number (two_sent 2 2 4 true).id sends.index in
    let more = goes_on ended (in_first ended []) refl in
    more.1 (subst (λ (w : WriteCommand). EndsBefore sends.index w more.0.dones) same (ends_first sends.index (omega (arith, at)) more.0.dones
    (subst (λ (w : WriteCommand). AreTold (account_of entries sent (ended ∷ [])) (two_sent 2 2 4 true) ended w 0 w.operations more.0.dones) (sym same) more.0.told)))

pub returns-clause-ended : goal.returns-clause-ended
returns-clause-ended c was =
    all_at (λ (a : Asked). (sends : Sends a early) → a.time < early.time → GoesOn a sends → ⊥) was.request sent
    ((λ sends later goes_on. not_first sends goes_on), ((λ sends later goes_on. omega (arith, later)), tt))
    was.taken was.sends was.later was.goes_on
