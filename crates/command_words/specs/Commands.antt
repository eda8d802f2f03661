-- The program's commands, by the definitions.
use Rattle.std.specs.Prelude.{◌≡◌, map, Result, Ok, Err}
use Rattle.base_model.specs.Errors.{ErrorCode}
use Rattle.base_model.specs.Refusals as history
use Rattle.cluster_base.specs.Codes.{meaning_of}
use Rattle.command_model.specs.IsMaster as legacies
use Rattle.command_model.specs.Writes as writes
use Rattle.command_model.specs.Reading as readings
use Rattle.command_model.specs.Find as finds
use Rattle.command_model.specs.GetMore as mores
use Rattle.command_model.specs.KillCursors as kills
use Rattle.command_model.specs.Split as splits
use Rattle.command_model.specs.Command as model
use Rattle.command_words.specs.declared.is_master.Legacy as program_legacies
use Rattle.command_words.specs.declared.writes.WriteCommand as program_writes
use Rattle.command_words.specs.declared.reading.Reading as program_readings
use Rattle.command_words.specs.declared.find.Find as program_finds
use Rattle.command_words.specs.declared.get_more.GetMore as program_mores
use Rattle.command_words.specs.declared.kill_cursors.KillCursors as program_kills
use Rattle.command_words.specs.declared.split.SplitCommand as program_splits
use Rattle.command_words.specs.declared.command.Command.{Command}
use Rattle.command_words.specs.declared.command.Command.TheVariants.{Hello, Legacy, Ping, EndSessions, Write, Find, Count, GetMore, KillCursors, ShardCollection, Split}
use Rattle.command_words.specs.declared.fault.CommandFault.{CommandFault}
use Rattle.command_words.specs.declared.fault.CommandFault.TheVariants as faults
use Rattle.command_fields.specs.Times.{time_view}
use Rattle.command_fields.specs.declared.fault.CheckFault.{CheckFault}
use Rattle.command_fields.specs.declared.fault.CheckFault.TheVariants.{Refused, Memory}
use Rattle.command_replies.specs.Kinds.{given_view, kind_view}
use Rattle.command_replies.specs.Refusals.{refusal_view}
use Rattle.statement_views.specs.Views.{operation_view}

abbrev pub legacy_view : program_legacies.Legacy → legacies.Legacy
legacy_view legacy = record { shows_hello_ok = legacy.shows_hello_ok }

abbrev pub write_view : program_writes.WriteCommand → writes.WriteCommand
write_view write = record {
  kind = kind_view write.kind;
  namespace = write.namespace;
  operations = map operation_view write.operations.items;
  ordered = write.ordered;
  number = given_view write.number;
}

abbrev pub reading_view : program_readings.Reading → readings.Reading
reading_view reading = record { namespace = reading.namespace; stages = reading.pipeline; at = time_view reading.at; after = time_view reading.after }

abbrev pub find_view : program_finds.Find → finds.Find
find_view find = record { reading = reading_view find.reading; batches = record { size = find.batches.size; single = find.batches.single } }

abbrev pub more_view : program_mores.GetMore → mores.GetMore
more_view more = record { namespace = more.namespace; cursor = more.cursor; size = more.size }

abbrev pub kill_view : program_kills.KillCursors → kills.KillCursors
kill_view kill = record { namespace = kill.namespace; cursors = kill.cursors.items }

abbrev pub split_view : program_splits.SplitCommand → splits.SplitCommand
split_view split = record { namespace = split.namespace; middle = split.middle }

abbrev pub command_view : Command → model.Command
command_view Hello = model.hello_command
command_view (Legacy legacy) = model.legacy_command (legacy_view legacy)
command_view Ping = model.ping_command
command_view EndSessions = model.end_sessions_command
command_view (Write write) = model.write_command (write_view write)
command_view (Find find) = model.find_command (find_view find)
command_view (Count reading) = model.count_command (reading_view reading)
command_view (GetMore more) = model.more_command (more_view more)
command_view (KillCursors kill) = model.kill_command (kill_view kill)
command_view (ShardCollection namespace) = model.shard_collection_command namespace
command_view (Split split) = model.split_command (split_view split)

-- the program returns the command or the error that the checks return; nothing is said where memory runs out
abbrev pub Tells : Result Command CheckFault → Result model.Command ErrorCode → Type 0
Tells (Ok command) told = told ≡ Ok (command_view command)
Tells (Err (Refused code)) told = told ≡ Err (meaning_of code)
Tells (Err Memory) told = Unit {0}

-- the program returns the command or the refusal of the definitions; nothing is said where memory runs out
abbrev pub Answers : Result Command CommandFault → Result model.Command history.Refusal → Type 0
Answers (Ok command) told = told ≡ Ok (command_view command)
Answers (Err (faults.Refused refusal)) told = told ≡ Err (refusal_view refusal)
Answers (Err faults.Memory) told = Unit {0}
