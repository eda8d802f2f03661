-- The program's table of commands, by the definitions.
use Rattle.std.specs.Prelude.{◌≡◌, ℕ, List, Option, Some, codes}
use Rattle.command_model.specs.Forms.{CommandForm, made_into}
use Rattle.command_model.specs.Hello.{hello_form}
use Rattle.command_model.specs.IsMaster.{legacy_form}
use Rattle.command_model.specs.Ping.{ping_form}
use Rattle.command_model.specs.EndSessions.{end_sessions_form}
use Rattle.command_model.specs.Writes.{write_form}
use Rattle.command_replies.specs.Kinds.{kind_view}
use Rattle.command_model.specs.Find.{find_form}
use Rattle.command_model.specs.Aggregate.{aggregate_form}
use Rattle.command_model.specs.Count.{count_form}
use Rattle.command_model.specs.GetMore.{more_form}
use Rattle.command_model.specs.KillCursors.{kill_form}
use Rattle.command_model.specs.ShardCollection.{shard_collection_form}
use Rattle.command_model.specs.Split.{split_form}
use Rattle.command_model.specs.Command.{Command, hello_command, legacy_command, ping_command, end_sessions_command, write_command, find_command, count_command, more_command, kill_command, shard_collection_command, split_command}
use Rattle.command_words.specs.declared.command.AnyForm.{AnyForm}
use Rattle.command_words.specs.declared.command.AnyForm.TheVariants.{Hello, IsMaster, Ping, EndSessions, Write, Find, Aggregate, Count, GetMore, KillCursors, ShardCollection, Split}
use Rattle.command_words.specs.WriteNames.{name_view}

abbrev pub row_view : AnyForm → CommandForm Command
row_view (Hello form) = made_into (λ hello. hello_command) hello_form
row_view (IsMaster form) = made_into legacy_command legacy_form
row_view (Ping form) = made_into (λ ping. ping_command) ping_form
row_view (EndSessions form) = made_into (λ end_sessions. end_sessions_command) end_sessions_form
row_view (Write form) = made_into write_command (write_form (kind_view form.kind))
row_view (Find form) = made_into find_command find_form
row_view (Aggregate form) = made_into find_command aggregate_form
row_view (Count form) = made_into count_command count_form
row_view (GetMore form) = made_into more_command more_form
row_view (KillCursors form) = made_into kill_command kill_form
row_view (ShardCollection form) = made_into shard_collection_command shard_collection_form
row_view (Split form) = made_into split_command split_form

-- the name of an entry, where it is compared
abbrev pub IsRowNamed : Option AnyForm → List ℕ → Type 0
IsRowNamed (Some (Write form)) name = name ≡ name_view form.kind
IsRowNamed (Some (GetMore form)) name = name ≡ codes "getMore"
IsRowNamed (Some (Split form)) name = name ≡ codes "split"
IsRowNamed form name = Unit {0}
