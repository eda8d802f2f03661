-- The right results of a read, by one history (MongoDB manual, "Read Concern", "Read Isolation, Consistency, and Recency").
use Rattle.std.specs.Prelude.{◌≡◌, ℕ, ◌<◌, ◌≤◌, List, Bool, false, ◌==◌, filter, Option, Some, None, Ok, IsPermutation}
use Rattle.bson_model.specs.Tree.{Fields}
use Rattle.value_model.specs.Keys.{key_of}
use Rattle.chunk_model.specs.Changes.{Change}
use Rattle.chunk_model.specs.Placement.{owner}
use Rattle.pipeline_model.specs.Runs.{Outcome, listed, Allows}
use Rattle.pipeline_model.specs.Halves.{Rows, IsHalf}
use Rattle.pipeline_model.specs.Split.{split}
use Rattle.pipeline_model.specs.Lengths.{excess_of_answer, excess_of_half}
use Rattle.base_model.specs.ReplyParts.{operation_time}
use Rattle.std.specs.List.{AllByRecursion}
use Rattle.command_model.specs.Writes.{WriteCommand, WriteError, WriteSummary}
use Rattle.command_model.specs.Answers.{write_answer, answer_document}
use Rattle.command_model.specs.Command.{write_command, command_of}
use Rattle.command_model.specs.Reading.{Reading}
use Rattle.history_model.specs.History.{Entry, IsIn}
use Rattle.history_model.specs.Documents.{documents_at}
use Rattle.reply_model.specs.Exchanges.{Asked, Answered, number_for}
use Rattle.reply_model.specs.Accounts.{Account}
use Rattle.reply_model.specs.Outcomes.{gives_up}

-- no time is to be reached, or this one is not before it
abbrev pub IfReached : Option ℕ → ℕ → Type 0
IfReached None time = Unit {0}
IfReached (Some after) time = after ≤ time

-- The time of a read, by what its router knew: the one that is named; or else the router's time as it took the request, where that is not before the time to
-- be reached; or else one that the router reached later.
pub data IsTimeRead (a : Asked) (t : Answered) (reading : Reading) : (time : ℕ) → Type 0 where
  named_time : (time : ℕ) → reading.at ≡ Some time → time ≤ t.time → IsTimeRead a t reading time
  own_time : reading.at ≡ None → IfReached reading.after a.time → IsTimeRead a t reading a.time
  later_time : (time after : ℕ) → reading.at ≡ None → reading.after ≡ Some after → a.time < after → after ≤ time → time ≤ t.time → IsTimeRead a t reading time

-- the read has this outcome at the time
abbrev pub MayGive : List Entry → Reading → (time : ℕ) → Outcome → Type 0
MayGive history reading time outcome = Allows reading.stages (documents_at history reading.namespace time) outcome

abbrev pub is_on : ℕ → Option ℕ → Bool
is_on shard None = false
is_on shard (Some owner) = owner == shard

-- the documents of a collection whose keys a shard owned at a time, by the changes of the catalogue
abbrev pub is_owned : List Change → (namespace : List ℕ) → (shard time : ℕ) → Fields → Bool
is_owned changes namespace shard time document = is_on shard (elim (key_of document) [ None ↦ None | Some key ↦ owner namespace key time changes ])

abbrev pub owned_by : List Change → (namespace : List ℕ) → (shard time : ℕ) → List Fields → List Fields
owned_by changes namespace shard time documents = filter (is_owned changes namespace shard time) documents

-- A length that is too great: of a result that the read may have, of a document of one, or of the rows that the half returns for the documents that one shard
-- owned.
pub data IsExcess (account : Account) (reading : Reading) (time n : ℕ) : Type 0 where
  excess_answer : (answer : List Fields) → MayGive account.history reading time (listed answer) → excess_of_answer answer ≡ Some n
      → IsExcess account reading time n
  excess_half : (shard : ℕ) (ordered : List Fields) (rows : Rows)
      → IsPermutation (owned_by account.changes reading.namespace shard time (documents_at account.history reading.namespace time)) ordered
      → IsHalf (split reading.stages).0 ordered rows → excess_of_half rows ≡ Some n → IsExcess account reading time n

-- the time that a read names, or that it is to reach
abbrev pub time_wanted : Reading → Option ℕ
time_wanted reading = elim reading.at [ None ↦ reading.after | Some named ↦ Some named ]

-- no error that the reply to a write shows says that a statement was given up
pub record GivesUpNothing (t : Answered) (write : WriteCommand) : Type 0 where
  pub told : WriteSummary
  pub same : t.document ≡ answer_document (write_answer write.kind told)
  pub each : AllByRecursion (λ (x : WriteError). gives_up x.refusal.error ≡ false) told.errors

-- The time that a read requires is ahead of the router's, and of each operation time that a router returned to a write before the request came and that is
-- the time of an entry of that write, where the reply gave no statement up.
pub record IsAhead (account : Account) (a : Asked) (t : Answered) (reading : Reading) : Type 0 where
  pub wanted : ℕ
  pub wants : time_wanted reading ≡ Some wanted
  pub ahead : t.time < wanted
  pub of_all : (s : Answered) (write : WriteCommand) (index : ℕ) (e : Entry) → IsIn s account.answered → s.step < a.came
      → command_of s.request ≡ Ok (write_command write)
      → IsIn e account.history → e.number ≡ number_for write.number s.id index → operation_time (Some s.document) ≡ Some e.time → GivesUpNothing s write
      → e.time < wanted
