-- The form of a command, and the one order of its checks (MongoDB manual, "Database Commands"; the order of refusals is own).
use Rattle.std.specs.Prelude.{ℕ, List, [], ◌∷◌, Bool, ◌||◌, not, Option, Some, None, if◌then◌else◌, codes}
use Rattle.std.specs.Str.{bytes_eq}
use Rattle.bson_model.specs.Tree.{Datum, string_value, Fields, field, get}
use Rattle.opmsg_model.specs.Requests.{Form, msg_form, query_form}
use Rattle.base_model.specs.Errors.{failed_to_parse, invalid_namespace, type_mismatch}
use Rattle.base_model.specs.Names.{is_open_namespace}
use Rattle.command_model.specs.Checks.{Verdict, first_of, is_one_of, unless_passes}
use Rattle.command_model.specs.Fields.{Rule, check_fields, names_of}

-- the document sequences of a request, with their identifiers
abbrev pub Sequences : Type 0
Sequences = List (List ℕ × List Fields)

-- the document sequence that a command may have: its identifier, and the check of its documents
pub record SequenceRule : Type 0 where
  pub identifier : List ℕ
  pub check : List Fields → Verdict

-- the form of a command that is read as a value of C
pub record CommandForm (C : Type 0) : Type 0 where
  -- the value of the command's own field, given the database
  pub check_own : (database : List ℕ) → Datum → Verdict
  -- the fields after it, given the database, and the error of one that has no rule
  pub rules : (database : List ℕ) → List Rule
  pub unlisted : Verdict
  pub sequence : Option SequenceRule
  -- the whole document and the sequences: what is required, and what is checked last
  pub check_needed : Fields → Sequences → Verdict
  pub check_last : Fields → Sequences → Verdict
  -- the command, where all passes, from the database, the value of its own field, the document and the sequences
  pub command : (database : List ℕ) → Datum → Fields → Sequences → C

-- the database is required, except in OP_QUERY
abbrev pub check_database : Form → Option Datum → Verdict
check_database sent (Some (string_value database)) = None
check_database sent (Some value) = Some type_mismatch
check_database msg_form None = Some failed_to_parse
check_database query_form None = None

abbrev pub string_or : List ℕ → Option Datum → List ℕ
string_or other (Some (string_value s)) = s
string_or other value = other

-- the database; in OP_QUERY it is `admin`
abbrev pub database_of : Form → Fields → List ℕ
database_of query_form document = codes "admin"
database_of msg_form document = string_or [] (get (codes "$db") document)

-- an own field that names a collection
abbrev pub check_collection : List ℕ → Datum → Verdict
check_collection database (string_value collection) = unless_passes (is_open_namespace database collection) invalid_namespace
check_collection database value = Some type_mismatch

-- one sequence, given whether a field or a sequence with its identifier occurred before
abbrev pub check_sequence : Option SequenceRule → (given : Bool) → List ℕ × List Fields → Verdict
check_sequence None given s = Some failed_to_parse
check_sequence (Some rule) given s = if given || not (bytes_eq s.0 rule.identifier) then Some failed_to_parse else rule.check s.1

-- the sequences in order, after the fields and sequences with these names
abbrev pub check_sequences : Option SequenceRule → List (List ℕ) → Sequences → Verdict
check_sequences rule given [] = None
check_sequences rule given (s ∷ sequences) = first_of (check_sequence rule (is_one_of s.0 given) s ∷ check_sequences rule (s.0 ∷ given) sequences ∷ [])

-- all checks of a command, in their order: the own field has this name and value, and these are the others
abbrev pub check_command : {C : Type 0} → CommandForm C → Form → (own : List ℕ) → (value : Datum) → (others : Fields) → Sequences → Verdict
check_command form sent own value others sequences =
    first_of
    (check_database sent (get (codes "$db") (field own value others))
    ∷ form.check_own (database_of sent (field own value others)) value
    ∷ check_fields form.unlisted (form.rules (database_of sent (field own value others))) (own ∷ []) others
    ∷ check_sequences form.sequence (own ∷ names_of others) sequences
    ∷ form.check_needed (field own value others) sequences
    ∷ form.check_last (field own value others) sequences
    ∷ [])

abbrev pub command_by : {C : Type 0} → CommandForm C → Form → (own : List ℕ) → (value : Datum) → (others : Fields) → Sequences → C
command_by form sent own value others sequences = form.command (database_of sent (field own value others)) value (field own value others) sequences

-- the form of a command whose values are mapped by a function
abbrev pub made_into : {C D : Type 0} → (C → D) → CommandForm C → CommandForm D
made_into make form = record {
  check_own = form.check_own;
  rules = form.rules;
  unlisted = form.unlisted;
  sequence = form.sequence;
  check_needed = form.check_needed;
  check_last = form.check_last;
  command = λ database own document sequences. make (form.command database own document sequences);
}

abbrev pub any_own : List ℕ → Datum → Verdict
any_own database value = None

abbrev pub nothing_judged : Fields → Sequences → Verdict
nothing_judged document sequences = None
