-- Writes with clients' numbers, to try the definitions on: which outcomes their statements may have by the entries.
use Rattle.std.proofs.Common.{◌≡◌, ◌≢◌, ℕ, ◌+◌, ◌<◌, ◌≤◌, List, [], ◌∷◌, refl, sym, ap, subst, ◌∙◌, arith, codes}
use Rattle.std.specs.Prelude.{Bool, true, false, ◌&&◌, Option, Some, Ok, int_lt}
use Rattle.std.specs.List.{AllByRecursion}
use Rattle.bson_model.specs.Tree.{Fields}
use Rattle.command_model.specs.Writes.{ClientNumber, WriteCommand, WriteKind}
use Rattle.command_model.specs.Answers.{answer_document}
use Rattle.command_model.specs.Command.{command_of, time_limit, write_command}
use Rattle.base_model.specs.Times.{timestamp}
use Rattle.chunk_model.specs.SampleCollections.{creation}
use Rattle.chunk_model.specs.Changes.{create_change}
use Rattle.history_model.specs.History.{Operation, StatementNumber, Entry}
use Rattle.history_model.proofs.Lists.{all_at, in_first}
use Rattle.reply_model.specs.Exchanges.{Asked, Answered, number_for}
use Rattle.reply_model.specs.Accounts.{Account}
use Rattle.reply_model.specs.Outcomes.{StatementOutcome, is_older, Done, answer_by, fails, answer_of}
use Rattle.reply_model.specs.Right.{IsStatement, HadSent, MayBeTold, told_own, told_other, told_older, told_stale, told_given_up, AreTold, right_write}
use Rattle.reply_laws.specs.SampleExchanges.{tells, account_of}
use Rattle.reply_laws.specs.SampleRetries.{IsToldJust, IsUntold}
use Rattle.reply_facts.proofs.RightAnswers.{right_of}
use Rattle.reply_laws.proofs.Quiet.{IsQuiet, quiet}
use Rattle.reply_facts.proofs.Statements.{UnlessEnded}

-- the outcomes from this index on
abbrev pub dones_from : ℕ → List StatementOutcome → List Done
dones_from index [] = []
dones_from index (answer ∷ answers) = record { index = index; answer = answer } ∷ dones_from (index + 1) answers

-- WHICH OUTCOME AN ENTRY GIVES

-- an outcome that a statement may have by the entry has a property
pub record Gives (asked : List Asked) (t : Answered) (number : StatementNumber) (namespace : List ℕ) (operation : Operation) (P : StatementOutcome → Type 0)
    (e : Entry) : Type 0 where
  pub own : IsStatement number namespace operation e → e.time ≤ t.time → P (answer_by e)
  pub other : e.number ≡ number → e.time ≤ t.time → HadSent asked e t → P (answer_by e)
  pub older : e.number.session ≡ number.session → int_lt number.transaction e.number.transaction ≡ true → HadSent asked e t → P (is_older e.number.transaction)

pub told_by_entries : (account : Account) (a : Asked) (t : Answered) (quiet : IsQuiet account a t) (given : Option ClientNumber) (number : StatementNumber) (namespace : List ℕ)
    (operation : Operation)
    (P : StatementOutcome → Type 0) (answer : StatementOutcome) → AllByRecursion (Gives account.asked t number namespace operation P) account.history
    → MayBeTold account a t given number namespace operation answer → P answer
told_by_entries account a t quiet given number namespace operation P answer all (told_own e i is early) =
    (all_at (Gives account.asked t number namespace operation P) e account.history all i).own is early
told_by_entries account a t quiet given number namespace operation P answer all (told_other e by i some is early had) =
    (all_at (Gives account.asked t number namespace operation P) e account.history all i).other is early had
told_by_entries account a t quiet given number namespace operation P answer all (told_older e by i some session less early had) =
    (all_at (Gives account.asked t number namespace operation P) e account.history all i).older session less had
told_by_entries account a t quiet given number namespace operation P answer all (told_stale tries were) = absurd (quiet.0 namespace tries were)
told_by_entries account a t quiet given number namespace operation P answer all (told_given_up refusal is) = absurd (quiet.1 refusal is)

module _ (asked : List Asked) (t : Answered) (number : StatementNumber) where
  -- another session's gives none
  pub gives_elsewhere : {namespace : List ℕ} {operation : Operation} (P : StatementOutcome → Type 0) (e : Entry) → e.number.session ≢ number.session
      → Gives asked t number namespace operation P e
  gives_elsewhere P e another = record {
    own = λ is early. absurd (another (ap (λ (n : StatementNumber). n.session) is.same_number));
    other = λ same early had. absurd (another (ap (λ (n : StatementNumber). n.session) same));
    older = λ session less had. absurd (another session);
  }

  -- nor another number of a transaction that is not greater
  pub gives_nothing : {namespace : List ℕ} {operation : Operation} (P : StatementOutcome → Type 0) (e : Entry) → e.number ≢ number
      → int_lt number.transaction e.number.transaction ≡ false → Gives asked t number namespace operation P e
  gives_nothing P e another no_more = record {
    own = λ is early. absurd (another is.same_number);
    other = λ same early had. absurd (another same);
    older = λ session less had. absurd (let both : true ≡ false = sym less ∙ no_more in cc);
  }

  pub gives_another : {namespace : List ℕ} {operation : Operation} (P : StatementOutcome → Type 0) (e : Entry) → e.number.index ≢ number.index
      → int_lt number.transaction e.number.transaction ≡ false → Gives asked t number namespace operation P e
  gives_another P e another no_more = gives_nothing P e (λ same. another (ap (λ (n : StatementNumber). n.index) same)) no_more

  -- one that is greater gives its own
  pub gives_older : {namespace : List ℕ} {operation : Operation} (e : Entry) → e.number ≢ number
      → Gives asked t number namespace operation (λ x. x ≡ is_older e.number.transaction) e
  gives_older e another = record {
    own = λ is early. absurd (another is.same_number);
    other = λ same early had. absurd (another same);
    older = λ session less had. refl;
  }

  -- the number's own entry
  pub gives_itself : {namespace : List ℕ} {operation : Operation} (e : Entry) → int_lt number.transaction e.number.transaction ≡ false
      → Gives asked t number namespace operation (λ x. x ≡ answer_by e) e
  gives_itself e no_more = record {
    own = λ is early. refl;
    other = λ same early had. refl;
    older = λ session less had. absurd (let both : true ≡ false = sym less ∙ no_more in cc);
  }

  -- an entry that is later gives none
  pub gives_later : {namespace : List ℕ} {operation : Operation} (P : StatementOutcome → Type 0) (e : Entry) → t.time < e.time
      → int_lt number.transaction e.number.transaction ≡ false → Gives asked t number namespace operation P e
  gives_later P e late no_more = record {
    own = λ is early. absurd (omega (arith, late, early));
    other = λ same early had. absurd (omega (arith, late, early));
    older = λ session less had. absurd (let both : true ≡ false = sym less ∙ no_more in cc);
  }

-- WHICH OUTCOMES A COMMAND MAY HAVE

module _ (history : List Entry) (asked : List Asked) (a : Asked) (step counter : ℕ) (kind : WriteKind) (ordered : Bool) (by : ClientNumber)
    (free : time_limit a.request ≡ 0) where
  abbrev pub command_with : List Operation → WriteCommand
  command_with operations = record { kind = kind; namespace = codes "d.c"; operations = operations; ordered = ordered; number = Some by }

  -- each statement may have this outcome, and this alone
  abbrev pub AreJust : ℕ → List Operation → List StatementOutcome → Type 0
  AreJust index [] answers = answers ≡ []
  AreJust index (operation ∷ operations) [] = ⊥
  AreJust index (operation ∷ operations) (answer ∷ answers) =
      ((document : Fields) → MayBeTold (account_of history asked []) a (tells a step counter document) (Some by) (number_for (Some by) a.id index)
      (codes "d.c") operation answer)
      × ((document : Fields) → AllByRecursion
      (Gives asked (tells a step counter document) (number_for (Some by) a.id index) (codes "d.c") operation (λ x. x ≡ answer)) history)
      × elim (ordered && fails (record { index = index; answer = answer })) [ true ↦ answers ≡ [] | false ↦ AreJust (index + 1) operations answers ]

  module _ (operations : List Operation) (document : Fields) where
    abbrev Told : ℕ → List Operation → List Done → Type 0
    Told index rest dones = AreTold (account_of history asked []) a (tells a step counter document) (command_with operations) index rest dones

    just_told : (index : ℕ) (rest : List Operation) (answers : List StatementOutcome) → AreJust index rest answers → Told index rest (dones_from index answers)
    just_told index [] answers just = ap (λ (xs : List StatementOutcome). dones_from index xs) just
    just_told index (operation ∷ rest) [] just = absurd just
    just_told index (operation ∷ rest) (answer ∷ answers) just =
        (refl, just.0 document, by_end (ordered && fails (record { index = index; answer = answer })) just.2 (λ more. just_told (index + 1) rest answers more))
      where
        by_end : (b : Bool) → UnlessEnded b answers (AreJust (index + 1) rest answers)
            → (AreJust (index + 1) rest answers → Told (index + 1) rest (dones_from (index + 1) answers))
            → UnlessEnded b (dones_from (index + 1) answers) (Told (index + 1) rest (dones_from (index + 1) answers))
        by_end true none more = ap (λ (xs : List StatementOutcome). dones_from (index + 1) xs) none
        by_end false every more = more every

    just_only : (index : ℕ) (rest : List Operation) (answers : List StatementOutcome) (dones : List Done) → AreJust index rest answers → Told index rest dones
        → dones ≡ dones_from index answers
    just_only index [] answers dones just told = told ∙ sym (ap (λ (xs : List StatementOutcome). dones_from index xs) just)
    just_only index (operation ∷ rest) [] dones just told = absurd just
    just_only index (operation ∷ rest) (answer ∷ answers) [] just told = absurd told
    just_only index (operation ∷ rest) (answer ∷ answers) (d ∷ dones) just told =
        let more : dones ≡ dones_from (index + 1) answers = by_end (ordered && fails expected)
        (subst (λ (x : Done). UnlessEnded (ordered && fails x) dones (Told (index + 1) rest dones)) same told.2) just.2
        (λ t j. just_only (index + 1) rest answers dones j t) in
        λ i. same i ∷ more i
      where
        expected : Done
        expected = record { index = index; answer = answer }

        same : d ≡ record { index = index; answer = answer }
        same =
            let says : d.answer ≡ answer =
            told_by_entries (account_of history asked []) a (tells a step counter document) (quiet history asked [] a (tells a step counter document) free) (Some by) (number_for (Some by) a.id index) (codes "d.c") operation
            (λ x. x ≡ answer) d.answer
            (just.1 document) told.1 in
            λ i. record { index = told.0 i; answer = says i }

        by_end : (b : Bool) → UnlessEnded b dones (Told (index + 1) rest dones) → UnlessEnded b answers (AreJust (index + 1) rest answers)
            → (Told (index + 1) rest dones → AreJust (index + 1) rest answers → dones ≡ dones_from (index + 1) answers) → dones ≡ dones_from (index + 1) answers
        by_end true told_none all_none more = told_none ∙ sym (ap (λ (xs : List StatementOutcome). dones_from (index + 1) xs) all_none)
        by_end false some every more = more some every

  pub told_just : (operations : List Operation) (answers : List StatementOutcome) (document : Fields)
      → command_of a.request ≡ Ok (write_command (command_with operations))
      → AreJust 0 operations answers → creation.at ≤ timestamp 1000 counter
      → document ≡ answer_document (answer_of kind (timestamp 1000 counter) (dones_from 0 answers)) → IsToldJust history asked a step counter document
  told_just operations answers document asks just begun says = (
    right_write (command_with operations) (dones_from 0 answers) asks (just_told operations document 0 operations answers just) (λ none. absurd (cc))
        (λ any. record { creation = creation; begun = in_first (create_change creation) []; name = refl; before = begun }) says,
    λ other next right.
        let told = (right_of (account_of history asked []) [] a (tells a step counter other)
        (Ok (write_command (command_with operations))) next asks right).0 in
        told.says
        ∙ ap (λ (dones : List Done). answer_document (answer_of kind (timestamp 1000 counter) dones))
        (just_only operations other 0 operations answers told.dones just told.tells)
        ∙ sym says,
  )

  -- the first statement may have no outcome
  pub untold : (operation : Operation) (rest : List Operation) → command_of a.request ≡ Ok (write_command (command_with (operation ∷ rest)))
      → ((document : Fields) → AllByRecursion
      (Gives asked (tells a step counter document) (number_for (Some by) a.id 0) (codes "d.c") operation (λ x. ⊥)) history)
      → IsUntold history asked a step counter
  untold operation rest asks none other next right =
      let told = (right_of (account_of history asked []) [] a (tells a step counter other)
      (Ok (write_command (command_with (operation ∷ rest)))) next asks right).0 in
      no_first told.dones told.tells
    where
      no_first : (dones : List Done)
          → AreTold (account_of history asked []) a (tells a step counter other) (command_with (operation ∷ rest)) 0 (operation ∷ rest) dones → ⊥
      no_first [] told = told
      no_first (d ∷ dones) told =
          told_by_entries (account_of history asked []) a (tells a step counter other) (quiet history asked [] a (tells a step counter other) free) (Some by) (number_for (Some by) a.id 0) (codes "d.c") operation
          (λ x. ⊥) d.answer
          (none other) told.1
