-- The request of an answer is the one that was taken.
use Rattle.std.proofs.Common.{◌≡◌, ◌⊎◌, inl, inr, ℕ, ◌+◌, List, length, refl, subst, arith}
use Rattle.std.specs.Prelude.{Option, None}
use Rattle.base_model.specs.Refusals.{Refusal}
use Rattle.command_model.specs.Writes.{ClientNumber}
use Rattle.history_model.specs.History.{StatementNumber, Operation, Entry, IsIn}
use Rattle.reply_model.specs.Exchanges.{Asked, Answered, number_for}
use Rattle.reply_model.specs.Accounts.{Account}
use Rattle.reply_model.specs.Outcomes.{StatementOutcome, stale_refusal}
use Rattle.reply_model.specs.Right.{IsStatement, MayBeTold, told_own, told_other, told_older, told_stale, told_given_up}
use Rattle.reply_facts.proofs.Freshness.{told_write, whole_told, tells_all}
use Rattle.reply_facts.proofs.Statements.{told_at}
use Rattle.reply_facts.specs.Earlier.{IsTold}
use Rattle.reply_laws.specs.UnfinishedReads.{WasGivenUp}
use Rattle.reply_laws.proofs.laws.told_writes_stand.Goals as goal

pub returns-clause-statements : goal.returns-clause-statements
returns-clause-statements c account t write one i asks =
    let told = told_write account one t write i asks in
    (told.request, told.is, told.tells.dones, told.tells.tells, told.tells.says)

pub returns-clause-whole : goal.returns-clause-whole
returns-clause-whole c account t write one i asks none =
    let told = told_write account one t write i asks in
    (told.request, told.tells.dones, told.tells.tells, whole_told account one t write told none, told.tells.says)

pub returns-clause-told : goal.returns-clause-told
returns-clause-told c account t write one i asks none ordered =
    let told = told_write account one t write i asks in
    (told.request, told.tells.dones, told.tells.tells, told.tells.says, λ done. tells_all account one t write told none ordered done)

-- without a client's number an outcome is that of the statement's own entry, or why it was given up
own_stands : (account : Account) (a : Asked) (t : Answered) (number : StatementNumber) (namespace : List ℕ) (operation : Operation) (answer : StatementOutcome)
    → MayBeTold account a t None number namespace operation answer
    → ((e : Entry) × IsIn e account.history × IsStatement number namespace operation e)
    ⊎ ((refusal : Refusal) × WasGivenUp account a t namespace refusal)
own_stands account a t number namespace operation answer (told_own e i is early) = inl (e, i, is)
own_stands account a t number namespace operation answer (told_other e by i some is early had) = absurd (cc)
own_stands account a t number namespace operation answer (told_older e by i some session less early had) = absurd (cc)
own_stands account a t number namespace operation answer (told_stale tries were) = inr (stale_refusal tries, inl (tries, were, refl))
own_stands account a t number namespace operation answer (told_given_up refusal is) = inr (refusal, inr is)

by_stands : (account : Account) (a : Asked) (t : Answered) (number : StatementNumber) (namespace : List ℕ) (operation : Operation)
    → IsTold account.asked account.answered a t
    → ((e : Entry) × IsIn e account.history × IsStatement number namespace operation e) ⊎ ((refusal : Refusal) × WasGivenUp account a t namespace refusal)
    → ((e : Entry) × IsIn e account.history × IsStatement number namespace operation e)
    ⊎ ((a : Asked) × (refusal : Refusal) × IsTold account.asked account.answered a t × WasGivenUp account a t namespace refusal)
by_stands account a t number namespace operation told (inl stands) = inl stands
by_stands account a t number namespace operation told (inr given) = inr (a, given.0, told, given.1)

pub returns-clause-each : goal.returns-clause-each
returns-clause-each c account t write one i asks none loose before operation back all =
    let told = told_write account one t write i asks in
    let found = told_at account told.request t write 0 write.operations told.tells.dones told.tells.tells loose before operation back all in
    let at : 0 + length before ≡ length before = omega arith in
    by_stands account told.request t (number_for None t.id (length before)) write.namespace operation told.is
    (own_stands account told.request t (number_for None t.id (length before)) write.namespace operation found.has.done.answer
    (subst (λ n. MayBeTold account told.request t None (number_for None t.id n) write.namespace operation found.has.done.answer) at
    (subst (λ (g : Option ClientNumber). MayBeTold account told.request t g (number_for g t.id (0 + length before)) write.namespace operation
    found.has.done.answer) none found.may)))
