-- The outcomes of an ordered write that arrived, and which of its entries are stored.
use Rattle.std.proofs.Common.{◌≡◌, ◌⊎◌, inl, inr, ℕ, ◌+◌, ◌<◌, ◌≤◌, List, [], ◌∷◌, ◌++◌, refl, sym, ap, subst, ◌∙◌, arith, Bool}
use Rattle.std.specs.Prelude.{pos, Option, Some, None, map, int_lt}
use Rattle.std.specs.List.{AllByRecursion}
use Rattle.history_model.proofs.Lists.{all_weaken, all_at, in_none, in_cons}
use Rattle.command_model.specs.Writes.{ClientNumber, WriteCommand}
use Rattle.history_model.specs.History.{router_session, StatementNumber, Operation, Entry, IsIn}
use Rattle.base_model.specs.Identities.{RequestId}
use Rattle.reply_model.specs.Exchanges.{Asked, number_for, is_session_of, entries_by}
use Rattle.reply_model.specs.Outcomes.{StatementOutcome, Done, answer_by, done_of}
use Rattle.reply_model.specs.Right.{AreStatements, told_by}
use Rattle.node_laws.proofs.Views.{Reach}
use Rattle.node_laws.proofs.WriteFacts.{IsAnswerOf, by_entry, by_older, AreAnswers, WasMade}
use Rattle.node_laws.proofs.SeenStatements.{true_false, own_session, entry_by}

-- the entries of statements have their indexes, from the first on
indexes_from : (id : RequestId) (namespace : List ℕ) (ordered : Bool) (index : ℕ) (operations : List Operation) (es : List Entry)
    → AreStatements id namespace ordered index operations es → AllByRecursion (λ (e : Entry). index ≤ e.number.index) es
indexes_from id namespace ordered index operations [] each = tt
indexes_from id namespace ordered index [] (e ∷ es) each = absurd each
indexes_from id namespace ordered index (d ∷ operations) (e ∷ es) each =
    let here : e.number.index ≡ index = ap (λ (n : StatementNumber). n.index) each.0.same_number in (
      omega arith,
      all_weaken (λ (f : Entry). index + 1 ≤ f.number.index) (λ (f : Entry). index ≤ f.number.index) es (λ f l. omega arith)
          (indexes_from id namespace ordered (index + 1) operations es each.2),
    )

-- the outcomes of statements from an index on, of these entries
abbrev pub StandIn : List Entry → ℕ → List Done → Type 0
StandIn es index [] = Unit {0}
StandIn es index (d ∷ dones) = ((e : Entry) × IsIn e es × (e.number.index ≡ index) × (d ≡ done_of e)) × StandIn es (index + 1) dones

-- after the first entry
stand_behind : (f : Entry) (es : List Entry) (least index : ℕ) (dones : List Done) → f.number.index < least → least ≤ index → StandIn (f ∷ es) index dones
    → StandIn es index dones
stand_behind f es least index [] first le all = tt
stand_behind f es least index (d ∷ dones) first le ((e, i, at, same), all) =
    ((e, by_place (in_cons e f es i), at, same), stand_behind f es least (index + 1) dones first (omega arith) all)
  where
    by_place : (e ≡ f) ⊎ IsIn e es → IsIn e es
    by_place (inl is) = absurd (let n : e.number.index ≡ f.number.index = ap (λ (x : Entry). x.number.index) is in omega arith)
    by_place (inr j) = j

-- they are the first of the outcomes of all entries
pub stand_first : (id : RequestId) (namespace : List ℕ) (ordered : Bool) (index : ℕ) (operations : List Operation) (es : List Entry) (answers : List Done)
    → AreStatements id namespace ordered index operations es → StandIn es index answers → (more : List Done) × (map done_of es ≡ answers ++ more)
stand_first id namespace ordered index operations es [] each all = (map done_of es, refl)
stand_first id namespace ordered index operations [] (a ∷ answers) each ((e, i, at, same), all) = absurd (in_none e i)
stand_first id namespace ordered index [] (f ∷ es) (a ∷ answers) each all = absurd each
stand_first id namespace ordered index (d ∷ operations) (f ∷ es) (a ∷ answers) each ((e, i, at, same), all) =
    let first : f.number.index ≡ index = ap (λ (n : StatementNumber). n.index) each.0.same_number in
    let r = stand_first id namespace ordered (index + 1) operations es answers each.2
    (stand_behind f es (index + 1) (index + 1) answers (omega arith) (omega arith) all) in
    let head : done_of f ≡ a = by_place (in_cons e f es i) in
    (r.0, ap (λ x. x ∷ map done_of es) head ∙ ap (λ l. a ∷ l) r.1)
  where
    by_place : (e ≡ f) ⊎ IsIn e es → done_of f ≡ a
    by_place (inl is) = ap done_of (sym is) ∙ sym same
    by_place (inr j) =
        let behind : index + 1 ≤ e.number.index =
        all_at (λ (x : Entry). index + 1 ≤ x.number.index) e es (indexes_from id namespace ordered (index + 1) operations es each.2) j in
        absurd (omega arith)

-- a router's own numbers have no transaction but 0
abbrev pub HasNoOther : Entry → Type 0
HasNoOther e = (node life request : ℕ) → e.number.session ≡ router_session node life request → e.number.transaction ≡ pos 0

number_no_other : (given : Option ClientNumber) (id : RequestId) (index node life request : ℕ)
    → (number_for given id index).session ≡ router_session node life request → (number_for given id index).transaction ≡ pos 0
number_no_other None id index node life request same = refl
number_no_other (Some by) id index node life request same = absurd (cc)

pub made_no_other : (history : List Entry) (asked : List Asked) (notes : List Reach) (e : Entry) → WasMade history asked notes e → HasNoOther e
made_no_other history asked notes e m node life request same =
    let number = m.sends.entry.statement.same_number in
    ap (λ (n : StatementNumber). n.transaction) number
    ∙ number_no_other m.sends.write.number m.request.id m.sends.index node life request (sym (ap (λ (n : StatementNumber). n.session) number) ∙ same)

-- so that a statement under one has the outcome of its own entry
pub own_answer : (history : List Entry) (time : ℕ) (id : RequestId) (index : ℕ) (answer : StatementOutcome) → AllByRecursion HasNoOther history
    → IsAnswerOf history time (number_for None id index) answer
    → (e : Entry) × IsIn e history × (e.number ≡ number_for None id index) × (answer ≡ answer_by e)
own_answer history time id index _ none (by_entry e i numbered past) = (e, i, numbered, refl)
own_answer history time id index _ none (by_older e i session less past) =
    let zero : e.number.transaction ≡ pos 0 = all_at HasNoOther e history none i id.router id.life id.count session in
    absurd (true_false (sym less ∙ ap (λ n. int_lt (pos 0) n) zero))

own_stands : (history : List Entry) (time : ℕ) (write : WriteCommand) (id : RequestId) (index : ℕ) (answers : List Done) → write.number ≡ None
    → AllByRecursion HasNoOther history → AreAnswers history time write id index answers → StandIn (entries_by id history) index answers
own_stands history time write id index [] own none all = tt
own_stands history time write id index (d ∷ answers) own none all =
    let a = own_answer history time id d.index d.answer none (subst (λ g. IsAnswerOf history time (number_for g id d.index) d.answer) own all.1.answer) in
    let place : a.0.number.index ≡ d.index = ap (λ (n : StatementNumber). n.index) a.2 in (
      (
        a.0,
        entry_by id a.0 history a.1 (ap (λ (n : StatementNumber). is_session_of id n.session) a.2 ∙ own_session id),
        place ∙ all.0,
        (λ i. record { index = (sym place) i; answer = a.3 i }),
      ),
      own_stands history time write id (index + 1) answers own none all.2,
    )

-- the outcomes of a write without a client's number that arrived are the first of those of its entries
pub answers_stand : (history : List Entry) (time : ℕ) (write : WriteCommand) (id : RequestId) (answers : List Done) → write.number ≡ None
    → AllByRecursion HasNoOther history → AreStatements id write.namespace write.ordered 0 write.operations (entries_by id history)
    → AreAnswers history time write id 0 answers
    → (more : List Done) × (told_by id history ≡ answers ++ more)
answers_stand history time write id answers own none part all =
    stand_first id write.namespace write.ordered 0 write.operations (entries_by id history) answers part
    (own_stands history time write id 0 answers own none all)
