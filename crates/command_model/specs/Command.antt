-- The command of a request, or its first refusal with its evidence (MongoDB manual, "Database Commands"; the order of refusals and the evidence are own).
-- Each command is an entry of the list: its name and its form.
use Rattle.std.specs.Prelude.{ℕ, List, [], ◌∷◌, Option, Some, None, Result, Ok, Err, if◌then◌else◌, codes}
use Rattle.std.specs.Option.{unwrap_or}
use Rattle.std.specs.Str.{bytes_eq}
use Rattle.bson_model.specs.Tree.{Datum, Fields, no_fields, field}
use Rattle.opmsg_model.specs.Requests.{Form, Body, read_body, faulty_body, Request}
use Rattle.base_model.specs.Errors.{ErrorCode, command_not_found}
use Rattle.base_model.specs.Refusals.{Refusal, no_document_at, without_evidence}
use Rattle.command_model.specs.Checks.{Verdict}
use Rattle.command_model.specs.Forms.{CommandForm, Sequences, check_command, command_by, made_into}
use Rattle.command_model.specs.Hello.{hello_form}
use Rattle.command_model.specs.IsMaster.{Legacy, legacy_form}
use Rattle.command_model.specs.Ping.{ping_form}
use Rattle.command_model.specs.EndSessions.{end_sessions_form}
use Rattle.command_model.specs.Writes.{WriteCommand, insert_kind, update_kind, delete_kind, write_form}
use Rattle.command_model.specs.Reading.{Reading, number_given}
use Rattle.command_model.specs.Find.{Find, find_form}
use Rattle.command_model.specs.Aggregate.{aggregate_form}
use Rattle.command_model.specs.Count.{count_form}
use Rattle.command_model.specs.GetMore.{GetMore, more_form}
use Rattle.command_model.specs.KillCursors.{KillCursors, kill_form}
use Rattle.command_model.specs.ShardCollection.{shard_collection_form}
use Rattle.command_model.specs.Split.{SplitCommand, split_form}

pub data Command : Type 0 where
  hello_command : Command
  -- `isMaster` and `ismaster`
  legacy_command : Legacy → Command
  ping_command : Command
  end_sessions_command : Command
  write_command : WriteCommand → Command
  -- `find` and `aggregate`
  find_command : Find → Command
  count_command : Reading → Command
  more_command : GetMore → Command
  kill_command : KillCursors → Command
  shard_collection_command : (namespace : List ℕ) → Command
  split_command : SplitCommand → Command

pub record Row : Type 0 where
  pub name : List ℕ
  pub form : CommandForm Command

abbrev pub rows : List Row
rows =
    record { name = codes "hello"; form = made_into (λ hello. hello_command) hello_form }
    ∷ record { name = codes "isMaster"; form = made_into legacy_command legacy_form }
    ∷ record { name = codes "ismaster"; form = made_into legacy_command legacy_form }
    ∷ record { name = codes "ping"; form = made_into (λ ping. ping_command) ping_form }
    ∷ record { name = codes "endSessions"; form = made_into (λ end_sessions. end_sessions_command) end_sessions_form }
    ∷ record { name = codes "insert"; form = made_into write_command (write_form insert_kind) }
    ∷ record { name = codes "update"; form = made_into write_command (write_form update_kind) }
    ∷ record { name = codes "delete"; form = made_into write_command (write_form delete_kind) }
    ∷ record { name = codes "find"; form = made_into find_command find_form }
    ∷ record { name = codes "aggregate"; form = made_into find_command aggregate_form }
    ∷ record { name = codes "count"; form = made_into count_command count_form }
    ∷ record { name = codes "getMore"; form = made_into more_command more_form }
    ∷ record { name = codes "killCursors"; form = made_into kill_command kill_form }
    ∷ record { name = codes "shardCollection"; form = made_into shard_collection_command shard_collection_form }
    ∷ record { name = codes "split"; form = made_into split_command split_form }
    ∷ []

abbrev pub find_form_in : List ℕ → List Row → Option (CommandForm Command)
find_form_in name [] = None
find_form_in name (row ∷ others) = if bytes_eq row.name name then Some row.form else find_form_in name others

abbrev pub form_of : List ℕ → Option (CommandForm Command)
form_of name = find_form_in name rows

abbrev pub by_verdict : Verdict → Command → Result Command ErrorCode
by_verdict None command = Ok command
by_verdict (Some error) command = Err error

abbrev pub by_form : Option (CommandForm Command) → Form → (own : List ℕ) → (value : Datum) → (others : Fields) → Sequences → Result Command ErrorCode
by_form None sent own value others sequences = Err command_not_found
by_form (Some form) sent own value others sequences = by_verdict (check_command form sent own value others sequences) (command_by form sent own value others sequences)

-- the command of these documents, or the first error
abbrev pub command_asked : Form → Fields → Sequences → Result Command ErrorCode
command_asked sent no_fields sequences = Err command_not_found
command_asked sent (field own value others) sequences = by_form (form_of own) sent own value others sequences

abbrev pub or_refusal : Result Command ErrorCode → Result Command Refusal
or_refusal (Ok command) = Ok command
or_refusal (Err error) = Err (without_evidence error)

-- a document that is not BSON is refused first; the error of a check has no evidence
abbrev pub command_in : Form → Body → Result Command Refusal
command_in sent (read_body document sequences) = or_refusal (command_asked sent document sequences)
command_in sent (faulty_body fault place) = Err (no_document_at place)

-- the command of a request, or its first refusal
abbrev pub command_of : Request → Result Command Refusal
command_of request = command_in request.form request.body

-- how many milliseconds a request may take, 0 where there is no limit (MongoDB manual, "maxTimeMS")
abbrev pub time_limit : Request → ℕ
time_limit request = elim request.body [
  | read_body document sequences ↦ unwrap_or (number_given (codes "maxTimeMS") document) 0
  | faulty_body fault place ↦ 0
]
