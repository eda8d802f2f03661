-- What is known of writes: for which request an entry was made, and the outcomes of statements.
use Rattle.std.proofs.Common.{◌≡◌, ℕ, ◌+◌, ◌<◌, ◌≤◌, List, [], ◌∷◌, Bool}
use Rattle.std.specs.Prelude.{None, true, length, int_lt}
use Rattle.command_model.specs.Writes.{WriteCommand}
use Rattle.history_model.specs.History.{StatementNumber, Entry, IsIn}
use Rattle.base_model.specs.Identities.{RequestId}
use Rattle.reply_model.specs.Exchanges.{Asked, number_for}
use Rattle.reply_model.specs.Outcomes.{StatementOutcome, is_older, Done, answer_by}
use Rattle.reply_model.specs.Right.{ends, Sends}
use Rattle.node_laws.proofs.Views.{Reach, reach_of}

-- THE OUTCOME OF A STATEMENT

-- the outcome is of an entry that is stored under the number, or of one of a greater transaction of its session; the entry is not above a time
pub data IsAnswerOf (history : List Entry) (time : ℕ) (number : StatementNumber) : StatementOutcome → Type 0 where
  by_entry : (e : Entry) → IsIn e history → e.number ≡ number → e.time ≤ time → IsAnswerOf history time number (answer_by e)
  by_older : (e : Entry) → IsIn e history → e.number.session ≡ number.session → int_lt number.transaction e.number.transaction ≡ true → e.time ≤ time
      → IsAnswerOf history time number (is_older e.number.transaction)

-- a statement of a write has this outcome
pub record IsDoneAt (history : List Entry) (time : ℕ) (write : WriteCommand) (id : RequestId) (d : Done) : Type 0 where
  pub within : d.index < length write.operations
  pub answer : IsAnswerOf history time (number_for write.number id d.index) d.answer

-- so are those from an index on, in their order
abbrev pub AreAnswers : List Entry → (time : ℕ) → WriteCommand → RequestId → (index : ℕ) → List Done → Type 0
AreAnswers history time write id index [] = Unit {0}
AreAnswers history time write id index (d ∷ dones) = (d.index ≡ index) × IsDoneAt history time write id d × AreAnswers history time write id (index + 1) dones

-- only the last may end the command
abbrev pub OnlyLast : Bool → List Done → Type 0
OnlyLast ordered [] = Unit {0}
OnlyLast ordered (d ∷ dones) = (ends ordered d ≡ true → dones ≡ []) × OnlyLast ordered dones

-- WHO SENT AN ENTRY

-- each statement before an index was done before a time, without an error
abbrev pub AreDoneBefore : List Entry → (time : ℕ) → WriteCommand → RequestId → (index : ℕ) → Type 0
AreDoneBefore history time write id index = (i : ℕ) → i < index
    → (d : Entry) × IsIn d history × (d.number ≡ number_for write.number id i) × (d.outcome.error ≡ None) × (d.time < time)

-- The entry was made for a request that a router took, and where that is ordered, after all statements before it; and its statement is noted as one that was
-- sent.
pub record WasMade (history : List Entry) (asked : List Asked) (notes : List Reach) (e : Entry) : Type 0 where
  pub request : Asked
  pub taken : IsIn request asked
  pub sends : Sends request e
  pub later : request.time < e.time
  pub reached : sends.write.ordered ≡ true → AreDoneBefore history e.time sends.write request.id sends.index
  pub below : sends.write.ordered ≡ true → sends.index < reach_of request.id notes
