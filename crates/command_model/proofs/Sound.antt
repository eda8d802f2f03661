-- A form is sound where what it gives has the keys that it needs, and is as small as its request. The forms that give no write are.
use Rattle.std.proofs.Common.{◌≡◌, ◌≢◌, ℕ, List, [], ◌∷◌, true, Option, Some, None, codes, arith, subst}
use Rattle.std.specs.List.{AllByRecursion}
use Rattle.std.specs.Option.{unwrap_or}
use Rattle.bson_model.specs.Tree.{Datum, null_value, Fields, no_fields, field, get}
use Rattle.opmsg_model.specs.Requests.{Form}
use Rattle.opmsg_model.specs.MessageSizes.{IsSmall}
use Rattle.value_model.specs.Keys.{is_key}
use Rattle.base_model.specs.Errors.{failed_to_parse}
use Rattle.command_model.specs.Fields.{check_fields, check_required, names_of}
use Rattle.command_model.specs.Forms.{CommandForm, Sequences, check_command, check_database, check_sequences, command_by, database_of, made_into}
use Rattle.command_model.specs.Handshake.{handshake_form}
use Rattle.command_model.specs.IsMaster.{legacy_of, legacy_form}
use Rattle.command_model.specs.Statements.{document_or_none}
use Rattle.command_model.specs.Find.{find_form}
use Rattle.command_model.specs.Aggregate.{aggregate_form}
use Rattle.command_model.specs.Count.{count_form}
use Rattle.command_model.specs.GetMore.{more_form}
use Rattle.command_model.specs.KillCursors.{kill_form}
use Rattle.command_model.specs.AdminCommands.{check_full_name, key_given}
use Rattle.command_model.specs.ShardCollection.{shard_collection_form}
use Rattle.command_model.specs.Split.{split_form, split_rules}
use Rattle.command_model.specs.Command.{Command, hello_command, legacy_command, ping_command, end_sessions_command, write_command, find_command, count_command, more_command, kill_command, shard_collection_command, split_command}
use Rattle.command_model.specs.CommandSizes.{IsSmallCommand}
use Rattle.command_model.proofs.ShortErrors.{IsShortForm, aggregate_short, collection_short, count_rules_short, cursor_number_short, find_short, full_name_short, handshake_short, kill_short, more_short, required_short, shard_collection_short, split_short, two_needed_short}
use Rattle.command_model.proofs.Passed.{field_passed, passed_parts}
use Rattle.command_model.proofs.Judged.{HasKey}
use Rattle.command_model.proofs.Inside.{document_small}
use Rattle.command_model.proofs.Int64.{HaveInt64, numbers_of_find, numbers_of_pipeline, numbers_of_count}
use Rattle.command_model.proofs.OnlyKeys.{key_given_is, key_passed}

abbrev pub AreSmall : Sequences → Type 0
AreSmall sequences = AllByRecursion (λ s. AllByRecursion IsSmall s.1) sequences

-- a write command has statements, each with a key; a split has a key
abbrev pub HasKeys : Command → Type 0
HasKeys hello_command = Unit {0}
HasKeys (legacy_command legacy) = Unit {0}
HasKeys ping_command = Unit {0}
HasKeys end_sessions_command = Unit {0}
HasKeys (write_command write) = (write.operations ≢ []) × AllByRecursion HasKey write.operations
HasKeys (find_command find) = Unit {0}
HasKeys (count_command reading) = Unit {0}
HasKeys (more_command more) = Unit {0}
HasKeys (kill_command kill) = Unit {0}
HasKeys (shard_collection_command namespace) = Unit {0}
HasKeys (split_command split) = is_key split.middle ≡ true

-- the numbers of documents that a command skips or keeps are less than 2^63
abbrev pub HasNumbers : Command → Type 0
HasNumbers hello_command = Unit {0}
HasNumbers (legacy_command legacy) = Unit {0}
HasNumbers ping_command = Unit {0}
HasNumbers end_sessions_command = Unit {0}
HasNumbers (write_command write) = Unit {0}
HasNumbers (find_command find) = HaveInt64 find.reading.stages
HasNumbers (count_command reading) = HaveInt64 reading.stages
HasNumbers (more_command more) = Unit {0}
HasNumbers (kill_command kill) = Unit {0}
HasNumbers (shard_collection_command namespace) = Unit {0}
HasNumbers (split_command split) = Unit {0}

-- a command of that name and form that passes has its keys, and is as small as its request
pub record IsSound (name : List ℕ) (form : CommandForm Command) : Type 0 where
  pub short : IsShortForm form
  pub keys : (sent : Form) (value : Datum) (others : Fields) (sequences : Sequences) → check_command form sent name value others sequences ≡ None → HasKeys (command_by form sent name value others sequences)
  pub small : (sent : Form) (value : Datum) (others : Fields) (sequences : Sequences) → IsSmall (field name value others) → AreSmall sequences → check_command form sent name value others sequences ≡ None →
      IsSmallCommand (command_by form sent name value others sequences)
  pub numbers : (sent : Form) (value : Datum) (others : Fields) (sequences : Sequences) → HasNumbers (command_by form sent name value others sequences)

pub find_sound : IsSound (codes "find") (made_into find_command find_form)
find_sound = record {
  short = record {
    own_check = collection_short;
    each_rule = λ database. find_short;
    others = omega arith;
    sequence_rule = tt;
    needed = λ document sequences. tt;
    last = λ document sequences. tt;
  };
  keys = λ sent value others sequences passed. tt;
  small = λ sent value others sequences small all passed. tt;
  numbers = λ sent value others sequences. numbers_of_find (field (codes "find") value others);
}

pub aggregate_sound : IsSound (codes "aggregate") (made_into find_command aggregate_form)
aggregate_sound = record {
  short = record {
    own_check = collection_short;
    each_rule = λ database. aggregate_short;
    others = omega arith;
    sequence_rule = tt;
    needed = λ document sequences. two_needed_short (codes "pipeline") (codes "cursor") document;
    last = λ document sequences. tt;
  };
  keys = λ sent value others sequences passed. tt;
  small = λ sent value others sequences small all passed. tt;
  numbers = λ sent value others sequences. numbers_of_pipeline (get (codes "pipeline") (field (codes "aggregate") value others));
}

pub count_sound : IsSound (codes "count") (made_into count_command count_form)
count_sound = record {
  short = record {
    own_check = collection_short;
    each_rule = λ database. count_rules_short;
    others = omega arith;
    sequence_rule = tt;
    needed = λ document sequences. tt;
    last = λ document sequences. tt;
  };
  keys = λ sent value others sequences passed. tt;
  small = λ sent value others sequences small all passed. tt;
  numbers = λ sent value others sequences. numbers_of_count (field (codes "count") value others);
}

pub more_sound : IsSound (codes "getMore") (made_into more_command more_form)
more_sound = record {
  short = record {
    own_check = cursor_number_short;
    each_rule = more_short;
    others = omega arith;
    sequence_rule = tt;
    needed = λ document sequences. required_short (codes "collection") document;
    last = λ document sequences. tt;
  };
  keys = λ sent value others sequences passed. tt;
  small = λ sent value others sequences small all passed. tt;
  numbers = λ sent value others sequences. tt;
}

pub kill_sound : IsSound (codes "killCursors") (made_into kill_command kill_form)
kill_sound = record {
  short = record {
    own_check = collection_short;
    each_rule = kill_short;
    others = omega arith;
    sequence_rule = tt;
    needed = λ document sequences. required_short (codes "cursors") document;
    last = λ document sequences. tt;
  };
  keys = λ sent value others sequences passed. tt;
  small = λ sent value others sequences small all passed. tt;
  numbers = λ sent value others sequences. tt;
}

pub shard_collection_sound : IsSound (codes "shardCollection") (made_into shard_collection_command shard_collection_form)
shard_collection_sound = record {
  short = record {
    own_check = full_name_short;
    each_rule = λ database. shard_collection_short;
    others = omega arith;
    sequence_rule = tt;
    needed = λ document sequences. required_short (codes "key") document;
    last = λ document sequences. tt;
  };
  keys = λ sent value others sequences passed. tt;
  small = λ sent value others sequences small all passed. tt;
  numbers = λ sent value others sequences. tt;
}

-- a split that passes has its key
split_passes : (sent : Form) (value : Datum) (others : Fields) (sequences : Sequences) → check_command (made_into split_command split_form) sent (codes "split") value others sequences ≡ None →
    (key : Datum) × (key_given (get (codes "middle") others) ≡ Some key)
split_passes sent value others sequences passed =
    let document : Fields = field (codes "split") value others in
    let first = passed_parts (check_database sent (get (codes "$db") document)) _ passed in
    let second = passed_parts (check_full_name (database_of sent document) value) _ first.1 in
    let third = passed_parts (check_fields (Some failed_to_parse) split_rules (codes "split" ∷ []) others) _ second.1 in
    let fourth = passed_parts (check_sequences None (codes "split" ∷ names_of others) sequences) _ third.1 in
    let fifth = passed_parts (check_required (codes "middle") document) _ fourth.1 in
    key_passed (get (codes "middle") others) (λ d got. field_passed split_rules (codes "split" ∷ []) others (codes "middle") d third.0 got) fifth.0

middle_is_key : (o : Option Datum) → (key : Datum) × (key_given o ≡ Some key) → is_key (unwrap_or (key_given o) null_value) ≡ true
middle_is_key o (key, is) = rw is (key_given_is o key is).1

middle_small : (o : Option Datum) → (key : Datum) × (key_given o ≡ Some key) → IsSmall (document_or_none o) → IsSmall (field (codes "_id") (unwrap_or (key_given o) null_value) no_fields)
middle_small o (key, is) small = rw is (subst IsSmall (key_given_is o key is).0 small)

pub split_sound : IsSound (codes "split") (made_into split_command split_form)
split_sound = record {
  short = record {
    own_check = full_name_short;
    each_rule = λ database. split_short;
    others = omega arith;
    sequence_rule = tt;
    needed = λ document sequences. required_short (codes "middle") document;
    last = λ document sequences. tt;
  };
  keys = λ sent value others sequences passed. middle_is_key (get (codes "middle") others) (split_passes sent value others sequences passed);
  small = λ sent value others sequences small all passed.
      middle_small (get (codes "middle") others) (split_passes sent value others sequences passed) (document_small (codes "middle") (field (codes "split") value others) small);
  numbers = λ sent value others sequences. tt;
}

-- the commands that read only two fields
handshake_is_short : (command : Fields → Command) → IsShortForm (handshake_form command)
handshake_is_short command = record {
  own_check = λ database value. tt;
  each_rule = λ database. handshake_short;
  others = tt;
  sequence_rule = tt;
  needed = λ document sequences. tt;
  last = λ document sequences. tt;
}

pub handshake_sound : (name : List ℕ) (command : Fields → Command) → ((ms : Fields) → HasKeys (command ms)) → ((ms : Fields) → IsSmallCommand (command ms)) → ((ms : Fields) → HasNumbers (command ms)) →
    IsSound name (handshake_form command)
handshake_sound name command keys small numbers = record {
  short = handshake_is_short command;
  keys = λ sent value others sequences passed. keys (field name value others);
  small = λ sent value others sequences document_small all passed. small (field name value others);
  numbers = λ sent value others sequences. numbers (field name value others);
}

pub legacy_sound : (name : List ℕ) → IsSound name (made_into legacy_command legacy_form)
legacy_sound name = handshake_sound name (λ document. legacy_command (legacy_of document)) (λ ms. tt) (λ ms. tt) (λ ms. tt)
