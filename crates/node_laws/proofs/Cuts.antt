-- An entry of an ordered write is of no statement after one that ended it, nor after one that was given up.
use Rattle.std.proofs.Common.{◌≡◌, ◌⊎◌, inl, inr, ℕ, ◌+◌, ◌<◌, ◌≤◌, List, [], ◌∷◌, refl, sym, ap, subst, ◌∙◌, arith, Bool}
use Rattle.std.specs.Prelude.{Option, Some, None, Result, Ok, true, false, is_some, length, zero, suc, ◌-◌}
use Rattle.std.proofs.lemmas.List.{length-append}
use Rattle.history_model.proofs.Lists.{all_at, in_first, in_later}
use Rattle.base_model.specs.Errors.{ErrorCode}
use Rattle.base_model.specs.Refusals.{Refusal, without_evidence}
use Rattle.command_model.specs.Writes.{ClientNumber, WriteCommand}
use Rattle.command_model.specs.Command.{Command, write_command, command_of}
use Rattle.history_model.specs.History.{StatementNumber, Operation, Entry, IsIn}
use Rattle.base_model.specs.Identities.{RequestId}
use Rattle.reply_facts.proofs.Requests.{number_same, one_asked}
use Rattle.reply_facts.proofs.Statements.{UnlessEnded}
use Rattle.reply_model.specs.Exchanges.{Asked, Answered, number_for}
use Rattle.reply_model.specs.Accounts.{Lack, no_memory, no_steps, Account}
use Rattle.reply_model.specs.Outcomes.{lack_refusal, StatementOutcome, was_refused, WasRefused, is_too_old, Done, answer_by}
use Rattle.reply_model.specs.Right.{IsGivenUp, given_up_late, given_up_lacking, ends, MayBeTold, told_own, told_other, told_older, told_stale, told_given_up, AreTold}
use Rattle.reply_model.specs.OneHistory.{ids_asked, AreDifferent}
use Rattle.node_laws.proofs.Views.{Reach, reach_of}
use Rattle.node_laws.proofs.WriteFacts.{AreDoneBefore, WasMade}
use Rattle.node_laws.proofs.Facts.{AreCut}
use Rattle.node_laws.proofs.SeenStatements.{true_false}

-- an entry without an error ends nothing
not_over : (e : Entry) (index : ℕ) (ordered : Bool) → e.outcome.error ≡ None → ends ordered (record { index = index; answer = answer_by e }) ≡ true → ⊥
not_over e index false none over = true_false (sym over)
not_over e index true none over = by_error e.outcome.error none over
  where
    by_error : (o : Option ErrorCode) → o ≡ None
        → is_some (elim o as (λ (x : Option ErrorCode). Option Refusal) [ None ↦ None | Some error ↦ Some (without_evidence error) ]) ≡ true → ⊥
    by_error None same over = true_false (sym over)
    by_error (Some error) same over = cc

in_order : (ordered : Bool) (d : Done) → ends ordered d ≡ true → ordered ≡ true
in_order true d over = refl
in_order false d over = over

module _ (account : Account) (one_entry : (d e : Entry) → IsIn d account.history → IsIn e account.history → d.number ≡ e.number → d ≡ e) (a : Asked)
    (t : Answered) (write : WriteCommand) (time index : ℕ) (reached : write.ordered ≡ true → AreDoneBefore account.history time write t.id index) where
  -- an entry before it ends nothing
  entry_goes : (i : ℕ) (d : Done) (e : Entry) → i < index → IsIn e account.history → e.number ≡ number_for write.number t.id i → d.answer ≡ answer_by e
      → ends write.ordered d ≡ true → ⊥
  entry_goes i d e below stands number is over =
      let r = reached (in_order write.ordered d over) i below in
      let one : r.0 ≡ e = one_entry r.0 e r.1 stands (r.2 ∙ sym number) in
      not_over e d.index write.ordered (ap (λ (x : Entry). x.outcome.error) (sym one) ∙ r.3)
      (ap (λ y. ends write.ordered (record { index = d.index; answer = y })) (sym is) ∙ over)

  -- nor does an outcome, but that of a greater transaction, or of a statement that was given up
  pub answer_goes : (i : ℕ) (d : Done) (namespace : List ℕ) (operation : Operation) (answer : StatementOutcome) → i < index → d.answer ≡ answer
      → MayBeTold account a t write.number (number_for write.number t.id i) namespace operation answer → ends write.ordered d ≡ true
      → (is_too_old d.answer ≡ true) ⊎ WasRefused d.answer
  answer_goes i d namespace operation _ below is (told_own e stands own past) over = absurd (entry_goes i d e below stands own.same_number is over)
  answer_goes i d namespace operation _ below is (told_other e by stands some own past had) over = absurd (entry_goes i d e below stands own is over)
  answer_goes i d namespace operation _ below is (told_older e by stands some session less past had) over =
      inl (ap (λ (x : StatementOutcome). is_too_old x) is)
  answer_goes i d namespace operation _ below is (told_stale tries were) over = inr (subst (λ (x : StatementOutcome). WasRefused x) (sym is) tt)
  answer_goes i d namespace operation _ below is (told_given_up refusal why) over = inr (subst (λ (x : StatementOutcome). WasRefused x) (sym is) tt)

-- the outcome that ended an ordered write before a statement
pub record HasEnded (account : Account) (a : Asked) (t : Answered) (write : WriteCommand) (dones : List Done) (n : ℕ) : Type 0 where
  pub done : Done
  pub stands : IsIn done dones
  pub before : done.index < n
  pub over : ends write.ordered done ≡ true
  pub operation : Operation
  pub may : MayBeTold account a t write.number (number_for write.number t.id done.index) write.namespace operation done.answer

-- a statement has an outcome, or one before it ended the write
pub ended_before : (account : Account) (a : Asked) (t : Answered) (write : WriteCommand) (index : ℕ) (operations : List Operation) (dones : List Done) (n : ℕ)
    → AreTold account a t write index operations dones → index ≤ n → n < index + length operations
    → (n < index + length dones) ⊎ HasEnded account a t write dones n
ended_before account a t write index [] dones n told least most = absurd (omega (arith, least, most))
ended_before account a t write index (operation ∷ operations) [] n told least most = absurd told
ended_before account a t write index (operation ∷ operations) (d ∷ dones) n told least most =
    by_end (ends write.ordered d) refl told.2 (λ rest less. ended_before account a t write (index + 1) operations dones n rest less (omega (arith, most)))
  where
    here : index < n → ends write.ordered d ≡ true → HasEnded account a t write (d ∷ dones) n
    here less over = record {
      done = d;
      stands = in_first d dones;
      before = (let at = told.0 in omega (arith, at, less));
      over = over;
      operation = operation;
      may = subst (λ k. MayBeTold account a t write.number (number_for write.number t.id k) write.namespace operation d.answer) (sym told.0) told.1;
    }

    later : HasEnded account a t write dones n → HasEnded account a t write (d ∷ dones) n
    later h = record { done = h.done; stands = in_later h.done d dones h.stands; before = h.before; over = h.over; operation = h.operation; may = h.may }

    by_rest : (n < index + 1 + length dones) ⊎ HasEnded account a t write dones n → (n < index + length (d ∷ dones)) ⊎ HasEnded account a t write (d ∷ dones) n
    by_rest (inl less) = inl (omega (arith, less))
    by_rest (inr h) = inr (later h)

    by_place : (x : (n ≡ index) ⊎ (index < n)) → (b : Bool) → ends write.ordered d ≡ b → UnlessEnded b dones (AreTold account a t write (index + 1) operations dones)
        → (AreTold account a t write (index + 1) operations dones → index + 1 ≤ n → (n < index + 1 + length dones) ⊎ HasEnded account a t write dones n)
        → (n < index + length (d ∷ dones)) ⊎ HasEnded account a t write (d ∷ dones) n
    by_place (inl same) b over rest more = inl (omega (arith, same))
    by_place (inr less) true over rest more = inr (here less over)
    by_place (inr less) false over rest more = by_rest (more rest (omega (arith, less)))

    place : (n ≡ index) ⊎ (index < n)
    place = by_test (n - index) refl
      where
        by_test : (k : ℕ) → n - index ≡ k → (n ≡ index) ⊎ (index < n)
        by_test zero e = inl (omega (arith, e, least))
        by_test (suc k) e = inr (omega (arith, e, least))

    by_end : (b : Bool) → ends write.ordered d ≡ b → UnlessEnded b dones (AreTold account a t write (index + 1) operations dones)
        → (AreTold account a t write (index + 1) operations dones → index + 1 ≤ n → (n < index + 1 + length dones) ⊎ HasEnded account a t write dones n)
        → (n < index + length (d ∷ dones)) ⊎ HasEnded account a t write (d ∷ dones) n
    by_end b over rest more = by_place place b over rest more

-- what was made for a request under its router's own numbers
pub record MadeFor (notes : List Reach) (history : List Entry) (a : Asked) (write : WriteCommand) (e : Entry) : Type 0 where
  pub within : e.number.index < length write.operations
  pub reached : write.ordered ≡ true → AreDoneBefore history e.time write a.id e.number.index
  pub below : write.ordered ≡ true → e.number.index < reach_of a.id notes

index_of : (given : Option ClientNumber) (id : RequestId) (n : ℕ) → (number_for given id n).index ≡ n
index_of None id n = refl
index_of (Some by) id n = refl

one_write : (x y : WriteCommand) (command : Result Command Refusal) → command ≡ Ok (write_command x) → command ≡ Ok (write_command y) → x ≡ y
one_write x y command e f = cc

pub made_for : (history : List Entry) (asked : List Asked) (notes : List Reach) (a : Asked) (write : WriteCommand) (e : Entry) (index : ℕ)
    → AreDifferent (ids_asked asked) → IsIn a asked → command_of a.request ≡ Ok (write_command write) → write.number ≡ None
    → e.number ≡ number_for None a.id index → WasMade history asked notes e → MadeFor notes history a write e
made_for history asked notes a write e index different taken asks none numbered m =
    let number : number_for None a.id index ≡ number_for m.sends.write.number m.request.id m.sends.index = sym numbered ∙ m.sends.entry.statement.same_number in
    let own : a.id ≡ m.request.id = number_same a.id m.request.id m.sends.write.number index m.sends.index number in
    let one : m.request ≡ a = one_asked m.request a asked different m.taken taken (sym own) in
    let is : m.sends.write ≡ write = one_write m.sends.write write (command_of a.request) (ap (λ (b : Asked). command_of b.request) (sym one) ∙ m.sends.asks) asks in
    let at : m.sends.index ≡ e.number.index = sym (index_of m.sends.write.number m.request.id m.sends.index)
    ∙ ap (λ (n : StatementNumber). n.index) (sym m.sends.entry.statement.same_number) in
    let all : length m.sends.write.operations ≡ length m.sends.entry.prefix + length (m.sends.entry.operation ∷ m.sends.entry.back) =
    ap (λ (l : List Operation). length l) m.sends.entry.both ∙ length-append m.sends.entry.prefix (m.sends.entry.operation ∷ m.sends.entry.back) in
    let place = m.sends.entry.at in
    let long : length m.sends.write.operations ≡ length write.operations = ap (λ (x : WriteCommand). length x.operations) is in
    record {
      within = omega (arith, all, place, at, long);
      reached = λ ordered. subst (λ i. AreDoneBefore history e.time write i e.number.index) (sym own)
          (subst (λ n. AreDoneBefore history e.time write m.request.id n) at
          (subst (λ (x : WriteCommand). AreDoneBefore history e.time x m.request.id m.sends.index) is
          (m.reached (ap (λ (x : WriteCommand). x.ordered) is ∙ ordered))));
      below = λ ordered. subst (λ i. e.number.index < reach_of i notes) (sym own)
          (subst (λ n. n < reach_of m.request.id notes) at (m.below (ap (λ (x : WriteCommand). x.ordered) is ∙ ordered)));
    }

-- what says that work was given up says of no greater transaction
lack_young : (node : ℕ) (lack : Lack) → is_too_old (was_refused (lack_refusal node lack)) ≡ false
lack_young node no_memory = refl
lack_young node (no_steps steps) = refl

never_old : (account : Account) (a : Asked) (t : Answered) (refusal : Refusal) → IsGivenUp account a t refusal → is_too_old (was_refused refusal) ≡ true → ⊥
never_old account a t _ (given_up_late now is) old = true_false (sym old)
never_old account a t _ (given_up_lacking node lack was) old = true_false (sym old ∙ lack_young node lack)

-- the outcomes of an ordered write reach as far as its entries
pub told_as_far : (account : Account) (notes : List Reach)
    → ((d e : Entry) → IsIn d account.history → IsIn e account.history → d.number ≡ e.number → d ≡ e) → (a : Asked) (t : Answered) (write : WriteCommand)
    (dones : List Done) (e : Entry) → a.id ≡ t.id → write.number ≡ None → write.ordered ≡ true
    → AreTold account a t write 0 write.operations dones → AreCut notes a.id dones → MadeFor notes account.history a write e → e.number.index < length dones
told_as_far account notes one_entry a t write dones e own none ordered told cut made =
    by_ended (ended_before account a t write 0 write.operations dones e.number.index told (omega arith) (let within = made.within in omega (arith, within)))
  where
    never : HasEnded account a t write dones e.number.index → ⊥
    never h = by_answer
        (answer_goes account one_entry a t write e.time e.number.index
        (λ is. subst (λ i. AreDoneBefore account.history e.time write i e.number.index) own (made.reached is)) h.done.index h.done write.namespace h.operation
        h.done.answer h.before refl h.may h.over)
      where
        cut_at : WasRefused h.done.answer → is_too_old h.done.answer ≡ false → ⊥
        cut_at refused young =
            let least = all_at (λ (d : Done). WasRefused d.answer → is_too_old d.answer ≡ false → reach_of a.id notes ≤ d.index + 1) h.done dones cut h.stands
            refused young in
            let below = made.below ordered in
            let before = h.before in
            omega (arith, least, below, before)

        young_own : (answer : StatementOutcome) (given : Option ClientNumber) (number : StatementNumber) → given ≡ None
            → MayBeTold account a t given number write.namespace h.operation answer → is_too_old answer ≡ true → ⊥
        young_own _ given number alone (told_own x stands own past) old = true_false (sym old)
        young_own _ given number alone (told_other x by stands some own past had) old = absurd (let both : None ≡ Some by = sym alone ∙ some in cc)
        young_own _ given number alone (told_older x by stands some session less past had) old = absurd (let both : None ≡ Some by = sym alone ∙ some in cc)
        young_own _ given number alone (told_stale tries were) old = true_false (sym old)
        young_own _ given number alone (told_given_up refusal why) old = never_old account a t refusal why old

        by_old : (b : Bool) → is_too_old h.done.answer ≡ b → WasRefused h.done.answer → ⊥
        by_old true old refused = young_own h.done.answer write.number (number_for write.number t.id h.done.index) none h.may old
        by_old false young refused = cut_at refused young

        by_answer : (is_too_old h.done.answer ≡ true) ⊎ WasRefused h.done.answer → ⊥
        by_answer (inl old) = young_own h.done.answer write.number (number_for write.number t.id h.done.index) none h.may old
        by_answer (inr refused) = by_old (is_too_old h.done.answer) refl refused

    by_ended : (e.number.index < 0 + length dones) ⊎ HasEnded account a t write dones e.number.index → e.number.index < length dones
    by_ended (inl less) = omega (arith, less)
    by_ended (inr h) = absurd (never h)
