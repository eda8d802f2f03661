-- The command of a small request is small; a write command has statements, each with a key; a split has a key.
use Rattle.std.proofs.Common.{◌≡◌, ◌≢◌, ℕ, List, [], refl, true, Option, Some, None, Ok, Err, codes, arith, subst}
use Rattle.std.specs.Prelude.{Result, drop}
use Rattle.std.specs.List.{AllByRecursion}
use Rattle.bson_model.specs.Tree.{Datum, Fields, no_fields, field}
use Rattle.opmsg_model.specs.Requests.{Form, Body, read_body, faulty_body, Request}
use Rattle.opmsg_model.specs.MessageSizes.{IsSmall, IsSmallBody}
use Rattle.value_model.specs.Keys.{is_key}
use Rattle.base_model.specs.Refusals.{Refusal}
use Rattle.command_model.specs.Checks.{Verdict}
use Rattle.command_model.specs.Forms.{CommandForm, Sequences, check_command, command_by}
use Rattle.command_model.specs.Writes.{insert_kind, update_kind, delete_kind, WriteCommand}
use Rattle.command_model.specs.Reading.{Reading}
use Rattle.command_model.specs.Find.{Find}
use Rattle.command_model.specs.Split.{SplitCommand}
use Rattle.command_model.specs.Command.{Command, hello_command, ping_command, end_sessions_command, write_command, find_command, count_command, split_command, rows, form_of, by_form, by_verdict, command_asked, command_in, command_of, or_refusal}
use Rattle.command_model.specs.CommandSizes.{IsSmallCommand, IsTaken}
use Rattle.command_model.proofs.ShortErrors.{IsShort, command_short}
use Rattle.command_model.proofs.Judged.{HasKey}
use Rattle.command_model.proofs.Int64.{HaveInt64}
use Rattle.command_model.proofs.Rows.{found_row}
use Rattle.command_model.proofs.Sound.{AreSmall, HasKeys, HasNumbers, IsSound, aggregate_sound, count_sound, find_sound, handshake_sound, kill_sound, legacy_sound, more_sound, shard_collection_sound, split_sound}
use Rattle.command_model.proofs.SoundWrites.{write_sound}

reads_sound : AllByRecursion (λ row. IsSound row.name row.form) (drop 8 rows)
reads_sound = (find_sound, (aggregate_sound, (count_sound, (more_sound, (kill_sound, (shard_collection_sound, (split_sound, tt)))))))

writes_sound : AllByRecursion (λ row. IsSound row.name row.form) (drop 5 rows)
writes_sound = (write_sound insert_kind, (write_sound update_kind, (write_sound delete_kind, reads_sound)))

all_sound : AllByRecursion (λ row. IsSound row.name row.form) rows
all_sound = (
  handshake_sound (codes "hello") (λ document. hello_command) (λ ms. tt) (λ ms. tt) (λ ms. tt),
  (
    legacy_sound (codes "isMaster"),
    (
      legacy_sound (codes "ismaster"),
      (
        handshake_sound (codes "ping") (λ document. ping_command) (λ ms. tt) (λ ms. tt) (λ ms. tt),
        (handshake_sound (codes "endSessions") (λ document. end_sessions_command) (λ ms. tt) (λ ms. tt) (λ ms. tt), writes_sound),
      ),
    ),
  ),
)

sound_of : (name : List ℕ) (form : CommandForm Command) → form_of name ≡ Some form → IsSound name form
sound_of name form found = found_row IsSound name rows form all_sound found

by_verdict_taken : (v : Verdict) (command : Command) → IsShort v → (v ≡ None → IsSmallCommand command) → IsTaken (or_refusal (by_verdict v command))
by_verdict_taken None command short taken = taken refl
by_verdict_taken (Some error) command short taken = (short, tt)

by_form_taken : (form : Option (CommandForm Command)) (sent : Form) (own : List ℕ) (value : Datum) (others : Fields) (sequences : Sequences) → form_of own ≡ form → IsSmall (field own value others) → AreSmall sequences →
    IsTaken (or_refusal (by_form form sent own value others sequences))
by_form_taken None sent own value others sequences found small all = (omega arith, tt)
by_form_taken (Some form) sent own value others sequences found small all =
    let sound = sound_of own form found in
    by_verdict_taken (check_command form sent own value others sequences) (command_by form sent own value others sequences) (command_short form sent own value others sequences sound.short)
    (λ passed. sound.small sent value others sequences small all passed)

asked_taken : (sent : Form) (document : Fields) (sequences : Sequences) → IsSmall document → AreSmall sequences → IsTaken (or_refusal (command_asked sent document sequences))
asked_taken sent no_fields sequences small all = (omega arith, tt)
asked_taken sent (field own value others) sequences small all = by_form_taken (form_of own) sent own value others sequences refl small all

body_taken : (sent : Form) (body : Body) → IsSmallBody body → IsTaken (command_in sent body)
body_taken sent (read_body document sequences) small = asked_taken sent document sequences small.0 small.1
body_taken sent (faulty_body fault place) small = (omega arith, tt)

pub command_taken : (request : Request) → IsSmallBody request.body → IsTaken (command_of request)
command_taken request small = body_taken request.form request.body small

-- what holds of each command that passes holds of the command of a request

abbrev IfAsked : (Command → Type 0) → Result Command Refusal → Type 0
IfAsked P (Ok command) = P command
IfAsked P (Err refusal) = Unit {0}

abbrev OfForms : (Command → Type 0) → Type 0
OfForms P =
    (own : List ℕ) (form : CommandForm Command) (sent : Form) (value : Datum) (others : Fields) (sequences : Sequences) → form_of own ≡ Some form →
    check_command form sent own value others sequences ≡ None → P (command_by form sent own value others sequences)

module _ (P : Command → Type 0) (of_forms : OfForms P) where
  by_verdict_has : (v : Verdict) (command : Command) → (v ≡ None → P command) → IfAsked P (or_refusal (by_verdict v command))
  by_verdict_has None command has = has refl
  by_verdict_has (Some error) command has = tt

  by_form_has : (form : Option (CommandForm Command)) (sent : Form) (own : List ℕ) (value : Datum) (others : Fields) (sequences : Sequences) → form_of own ≡ form → IfAsked P (or_refusal (by_form form sent own value others sequences))
  by_form_has None sent own value others sequences found = tt
  by_form_has (Some form) sent own value others sequences found =
      by_verdict_has (check_command form sent own value others sequences) (command_by form sent own value others sequences) (of_forms own form sent value others sequences found)

  body_has : (sent : Form) (body : Body) → IfAsked P (command_in sent body)
  body_has sent (read_body no_fields sequences) = tt
  body_has sent (read_body (field own value others) sequences) = by_form_has (form_of own) sent own value others sequences refl
  body_has sent (faulty_body fault place) = tt

  asked_has : (request : Request) (command : Command) → command_of request ≡ Ok command → P command
  asked_has request command is = subst (IfAsked P) is (body_has request.form request.body)

has_keys : OfForms HasKeys
has_keys own form sent value others sequences found passed = (sound_of own form found).keys sent value others sequences passed

pub some_operations : (request : Request) (write : WriteCommand) → command_of request ≡ Ok (write_command write) → write.operations ≢ []
some_operations request write is = (asked_has HasKeys has_keys request (write_command write) is).0

pub operations_with_keys : (request : Request) (write : WriteCommand) → command_of request ≡ Ok (write_command write) → AllByRecursion HasKey write.operations
operations_with_keys request write is = (asked_has HasKeys has_keys request (write_command write) is).1

-- the middle of a split is a key
pub middle_is_key : (request : Request) (split : SplitCommand) → command_of request ≡ Ok (split_command split) → is_key split.middle ≡ true
middle_is_key request split is = asked_has HasKeys has_keys request (split_command split) is

has_numbers : OfForms HasNumbers
has_numbers own form sent value others sequences found passed = (sound_of own form found).numbers sent value others sequences

pub int64_of_find : (request : Request) (find : Find) → command_of request ≡ Ok (find_command find) → HaveInt64 find.reading.stages
int64_of_find request find is = asked_has HasNumbers has_numbers request (find_command find) is

pub int64_of_count : (request : Request) (reading : Reading) → command_of request ≡ Ok (count_command reading) → HaveInt64 reading.stages
int64_of_count request reading is = asked_has HasNumbers has_numbers request (count_command reading) is
