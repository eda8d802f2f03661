-- What stays true in runs in which nodes stop and are started again (MongoDB manual, "Write Concern": an acknowledged write is not lost;
-- "Retryable Writes": a statement is applied at most once).
use Rattle.std.specs.Prelude.{◌≡◌, ◌<◌, ℕ, List, ◌++◌, length, Ok, Bool, true, false, int_lt, [], ◌∷◌, ◌+◌, if◌then◌else◌}
use Rattle.std.specs.List.{AllByRecursion}
use Rattle.command_model.specs.Answers.{answer_document}
use Rattle.command_model.specs.Command.{write_command, command_of}
use Rattle.command_model.specs.Writes.{WriteCommand}
use Rattle.base_model.specs.Identities.{RequestId}
use Rattle.base_model.specs.Refusals.{Refusal}
use Rattle.chunk_model.specs.Placement.{AreFitting}
use Rattle.history_model.specs.History.{StatementNumber, Operation, Entry, Legal, IsIn}
use Rattle.reply_model.specs.Exchanges.{Asked, Answered, number_for}
use Rattle.reply_model.specs.Accounts.{Lack, changes_in}
use Rattle.reply_model.specs.OneHistory.{AreNumbered, ids_asked, AreDifferent}
use Rattle.reply_model.specs.Outcomes.{Try, stale_refusal, expired_refusal, lack_refusal, StatementOutcome, was_refused, is_older, Done, answer_by, answer_of}
use Rattle.reply_model.specs.Right.{ends, Sends}
use Rattle.node_model.specs.Journal.{Kept, changes_kept}
use Rattle.node_model.specs.World.{World, journal_at, history_of}

-- why a statement is given up: each of its tries met a later table, its time limit has passed, or a node was out of memory or at its last step
pub data SaysGivenUp : Refusal → Type 0 where
  says_stale : (tries : List Try) → SaysGivenUp (stale_refusal tries)
  says_late : (arrived now : ℕ) → SaysGivenUp (expired_refusal arrived now)
  says_lacking : (node : ℕ) (lack : Lack) → SaysGivenUp (lack_refusal node lack)

-- the outcome is that of a stored entry under the number, or says that a stored entry has a greater transaction of its session, or that the statement was given
-- up, which is not acknowledged: it may be stored or not
pub data IsOutcomeOf (history : List Entry) (number : StatementNumber) : StatementOutcome → Type 0 where
  of_entry : (e : Entry) → IsIn e history → e.number ≡ number → IsOutcomeOf history number (answer_by e)
  of_greater : (e : Entry) → IsIn e history → e.number.session ≡ number.session → int_lt number.transaction e.number.transaction ≡ true
      → IsOutcomeOf history number (is_older e.number.transaction)
  of_none : (refusal : Refusal) → SaysGivenUp refusal → IsOutcomeOf history number (was_refused refusal)

-- of a statement of a write
pub record IsOutcomeAt (history : List Entry) (write : WriteCommand) (id : RequestId) (d : Done) : Type 0 where
  pub within : d.index < length write.operations
  pub outcome : IsOutcomeOf history (number_for write.number id d.index) d.answer

-- these outcomes are of statements from this index on, one after another
abbrev pub AreInTurn : (index : ℕ) → List Done → Type 0
AreInTurn index [] = Unit {0}
AreInTurn index (d ∷ dones) = (d.index ≡ index) × AreInTurn (index + 1) dones

-- these are outcomes of all statements, or of those up to an error that ends the command
abbrev pub are_all : (ordered : Bool) → List Operation → List Done → Bool
are_all ordered [] dones = true
are_all ordered (operation ∷ operations) [] = false
are_all ordered (operation ∷ operations) (d ∷ dones) = if ends ordered d then true else are_all ordered operations dones

-- the reply to a write returns the outcomes of all its statements, or of those up to the error that ends an ordered one, and each of these is stored, unless its
-- statement was given up
pub record IsAcknowledged (history : List Entry) (write : WriteCommand) (t : Answered) : Type 0 where
  pub dones : List Done
  pub turns : AreInTurn 0 dones
  pub all : are_all write.ordered write.operations dones ≡ true
  pub document : t.document ≡ answer_document (answer_of write.kind t.time dones)
  pub stored : AllByRecursion (IsOutcomeAt history write t.id) dones

abbrev pub IsStored : List Entry → Answered → Type 0
IsStored history t = (write : WriteCommand) → command_of t.request ≡ Ok (write_command write) → IsAcknowledged history write t

-- a request that a router took sent the entry's statement
abbrev pub WasSentBy : List Asked → Entry → Type 0
WasSentBy asked e = (a : Asked) × IsIn a asked × Sends a e

-- What all journals store is one legal history of an unsharded collection, with each statement at most once; each entry is that of a statement
-- that a client sent; each reply to a write is one of what is stored; the catalogue's changes fit, and are those that its journal stores;
-- no two requests have one number.
pub record KeepsWrites (w : World) : Type 0 where
  pub legal : Legal (history_of w.nodes)
  pub numbers : AreNumbered (history_of w.nodes)
  pub sent : AllByRecursion (WasSentBy w.asked) (history_of w.nodes)
  pub acknowledged : AllByRecursion (IsStored (history_of w.nodes)) w.answered
  pub fitting : AreFitting (changes_kept (journal_at w.nodes 0))
  pub one : AreDifferent (ids_asked w.asked)
  pub dated : changes_in w.changed ≡ changes_kept (journal_at w.nodes 0)

-- each journal of one world has all records that it had in another, in order, and then more
abbrev pub KeepsJournals : World → World → Type 0
KeepsJournals u w = (at : ℕ) → (more : List Kept) × (journal_at w.nodes at ≡ journal_at u.nodes at ++ more)
