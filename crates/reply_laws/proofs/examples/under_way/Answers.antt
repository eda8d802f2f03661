-- The second statement has no entry.
use Rattle.std.proofs.Common.{◌≡◌, ℕ, List, [], ◌∷◌, refl, subst, codes}
use Rattle.std.specs.Prelude.{None, true, false, map, Ok}
use Rattle.base_model.specs.SampleReplies.{done_reply}
use Rattle.command_laws.specs.SampleRequests.{five, long_five, six, three, with_id}
use Rattle.command_model.specs.Command.{write_command}
use Rattle.command_model.specs.Writes.{WriteCommand, insert_kind}
use Rattle.history_model.specs.History.{Operation, insert_operation}
use Rattle.reply_model.specs.Exchanges.{Answered, number_for}
use Rattle.reply_model.specs.Outcomes.{Done, answer_by, done_of}
use Rattle.reply_model.specs.Right.{AreTold, ends}
use Rattle.reply_facts.proofs.RightAnswers.{right_of}
use Rattle.reply_facts.proofs.Statements.{UnlessEnded}
use Rattle.reply_laws.specs.SampleExchanges.{account_of, first_entry, tells, three_asked}
use Rattle.reply_laws.proofs.Quiet.{IsQuiet, quiet}
use Rattle.reply_laws.proofs.NumberedWrites.{told_by_entries, gives_another, gives_itself}
use Rattle.reply_laws.proofs.examples.under_way.Goals as goal

abbrev inserts_three : WriteCommand
inserts_three = record { kind = insert_kind; namespace = codes "d.c"; operations = map insert_operation three; ordered = true; number = None }

abbrev early : Answered
early = tells (three_asked false true) 3 2 done_reply

abbrev Told : (index : ℕ) → List Operation → List Done → Type 0
Told index operations dones = AreTold (account_of (first_entry ∷ []) [] []) (three_asked false true) early inserts_three index operations dones

calm : IsQuiet (account_of (first_entry ∷ []) [] []) (three_asked false true) early
calm = quiet (first_entry ∷ []) [] [] (three_asked false true) early refl

no_second : (dones : List Done) → Told 1 (insert_operation (with_id long_five) ∷ insert_operation (with_id six) ∷ []) dones → ⊥
no_second [] told = told
no_second (d ∷ dones) told =
    told_by_entries (account_of (first_entry ∷ []) [] []) (three_asked false true) early calm None (number_for None early.id 1) (codes "d.c") (insert_operation (with_id long_five))
    (λ x. ⊥) d.answer (gives_another [] early (number_for None early.id 1) (λ x. ⊥) first_entry (λ same. cc) refl, tt) told.1

-- the first has an outcome without an error
no_answer : (dones : List Done) → Told 0 (map insert_operation three) dones → ⊥
no_answer [] told = told
no_answer (d ∷ dones) told =
    let says : d.answer ≡ answer_by first_entry =
    told_by_entries (account_of (first_entry ∷ []) [] []) (three_asked false true) early calm None (number_for None early.id 0) (codes "d.c") (insert_operation (with_id five))
    (λ x. x ≡ answer_by first_entry) d.answer (gives_itself [] early (number_for None early.id 0) first_entry refl, tt) told.1 in
    let at : d.index ≡ 0 = told.0 in
    let same : d ≡ done_of first_entry = λ i. record { index = at i; answer = says i } in
    no_second dones (subst (λ (x : Done). UnlessEnded (ends true x) dones
    (Told 1 (insert_operation (with_id long_five) ∷ insert_operation (with_id six) ∷ []) dones)) same told.2)

pub returns-clause-answered_early : goal.returns-clause-answered_early
returns-clause-answered_early c next right =
    let told = (right_of (account_of (first_entry ∷ []) [] []) [] (three_asked false true) early (Ok (write_command inserts_three)) next refl right).0 in
    no_answer told.dones told.tells
