-- The program's kinds of writes, and the numbers that clients give them, by the definitions.
use Rattle.std.specs.Prelude.{Option}
use Rattle.std.specs.Option.{option_map}
use Rattle.command_model.specs.Writes as model
use Rattle.command_replies.specs.declared.answer.ClientNumber.{ClientNumber}
use Rattle.command_replies.specs.declared.answer.WriteKind.{WriteKind}
use Rattle.command_replies.specs.declared.answer.WriteKind.TheVariants.{Insert, Update, Delete}

abbrev pub kind_view : WriteKind → model.WriteKind
kind_view Insert = model.insert_kind
kind_view Update = model.update_kind
kind_view Delete = model.delete_kind

abbrev pub number_view : ClientNumber → model.ClientNumber
number_view n = record { session = n.session; transaction = n.transaction }

-- the number that a client gave, if it gave one
abbrev pub given_view : Option ClientNumber → Option model.ClientNumber
given_view given = option_map number_view given
