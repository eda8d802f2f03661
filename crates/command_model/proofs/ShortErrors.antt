-- The name of each error that a check returns is short.
use Rattle.std.proofs.Common.{ℕ, ◌≤◌, List, [], ◌∷◌, ◌++◌, length, Bool, true, false, ◌||◌, not, Option, Some, None, if◌then◌else◌, codes, arith}
use Rattle.std.specs.List.{AllByRecursion}
use Rattle.std.specs.Str.{bytes_eq}
use Rattle.bson_model.specs.Tree.{Datum, string_value, document_value, array_value, binary_value, boolean_value, timestamp_value, Fields, no_fields, field, get}
use Rattle.std.specs.Prelude.{ℤ, pos, Result, Ok, Err, is_some}
use Rattle.std.specs.Ordering.{int_eq}
use Rattle.pipeline_model.specs.Operands.{whole_number}
use Rattle.pipeline_model.specs.SortKeys.{read_sort}
use Rattle.pipeline_model.specs.Stages.{as_natural, read_pipeline}
use Rattle.query_model.specs.Queries.{QueryFault}
use Rattle.query_model.specs.Reading.{read_query}
use Rattle.query_model.specs.Writes.{Write}
use Rattle.history_model.specs.History.{Operation, read_operation}
use Rattle.value_model.specs.Keys.{is_key}
use Rattle.opmsg_model.specs.Requests.{Form, msg_form, query_form}
use Rattle.base_model.specs.Errors.{ErrorCode, bad_value, failed_to_parse, invalid_namespace, type_mismatch}
use Rattle.command_model.specs.Checks.{Verdict, first_of, is_one_of, unless_passes}
use Rattle.command_model.specs.Fields.{Rule, any_value, boolean_needed, by_rule, check_inner_fields, check_fields, check_required, check_session, common_rules, document_needed, false_needed, find_rule, names_of, rules_by, session_id, session_rules, is_time_limit, time_limit_needed, string_needed, timestamp_needed}
use Rattle.command_model.specs.Forms.{CommandForm, SequenceRule, Sequences, check_collection, check_command, check_database, check_sequence, check_sequences, database_of}
use Rattle.command_model.specs.Handshake.{handshake_rules}
use Rattle.command_model.specs.Statements.{StatementForm, check_key, check_statement, check_statements, check_words, key_asked_by}
use Rattle.command_model.specs.Update.{update_rules}
use Rattle.command_model.specs.Delete.{delete_rules, limit_needed}
use Rattle.command_model.specs.Writes.{WriteKind, insert_kind, update_kind, delete_kind, check_count, check_documents, documents_in, documents_needed, session_needed, some_needed, statement_form, whole_needed, write_rules}
use Rattle.command_model.specs.Reading.{check_concern, check_level, concern_rules, may_name_time, natural_needed, unless_faulty}
use Rattle.command_model.specs.Find.{find_rules, only_false, read_shown}
use Rattle.command_model.specs.Aggregate.{aggregate_rules, cursor_rules, pipeline_needed}
use Rattle.command_model.specs.Count.{count_rules}
use Rattle.command_model.specs.KillCursors.{are_whole_numbers, cursors_needed, kill_rules}
use Rattle.command_model.specs.GetMore.{check_cursor, more_rules}
use Rattle.command_model.specs.AdminCommands.{check_full_name, key_needed, only_key}
use Rattle.command_model.specs.ShardCollection.{is_shard_key, shard_collection_rules, shard_key_needed}
use Rattle.command_model.specs.Split.{split_rules}
use Rattle.command_model.specs.Cursors.{is_open_database}
use Rattle.command_model.specs.Command.{Command}

abbrev pub IsShort : Verdict → Type 0
IsShort None = Unit {0}
IsShort (Some error) = length error.name ≤ 100

abbrev pub AreShort : List Rule → Type 0
AreShort rules = AllByRecursion (λ rule. (value : Datum) → IsShort (rule.check value)) rules

unless_short : (b : Bool) (error : ErrorCode) → length error.name ≤ 100 → IsShort (unless_passes b error)
unless_short true error short = tt
unless_short false error short = short

first_short : (v : Verdict) (vs : List Verdict) → IsShort v → IsShort (first_of vs) → IsShort (first_of (v ∷ vs))
first_short None vs here there = there
first_short (Some error) vs here there = here

if_short : (b : Bool) (v : Verdict) → IsShort v → IsShort (if b then Some failed_to_parse else v)
if_short true v short = omega arith
if_short false v short = short

-- a check by rules, each of which returns short errors

rule_short : (unlisted : Verdict) (name : List ℕ) (rules : List Rule) (given : Bool) (value : Datum) → IsShort unlisted → AreShort rules → IsShort (by_rule unlisted (find_rule name rules) given value)
rule_short unlisted name [] given value none short = none
rule_short unlisted name (rule ∷ rules) given value none short = by_name (bytes_eq rule.name name) (rule_short unlisted name rules given value none short.1)
  where
    by_name : (b : Bool) → IsShort (by_rule unlisted (find_rule name rules) given value) → IsShort (by_rule unlisted (if b then Some rule else find_rule name rules) given value)
    by_name true there = if_short given (rule.check value) (short.0 value)
    by_name false there = there

fields_short : (unlisted : Verdict) (rules : List Rule) (given : List (List ℕ)) (ms : Fields) → IsShort unlisted → AreShort rules → IsShort (check_fields unlisted rules given ms)
fields_short unlisted rules given no_fields none short = tt
fields_short unlisted rules given (field name value ms) none short =
    first_short (by_rule unlisted (find_rule name rules) (is_one_of name given) value) (check_fields unlisted rules (name ∷ given) ms ∷ []) (rule_short unlisted name rules (is_one_of name given) value none short)
    (first_short (check_fields unlisted rules (name ∷ given) ms) [] (fields_short unlisted rules (name ∷ given) ms none short) tt)

inner_fields_short : (rules : List Rule) (ms : Fields) → AreShort rules → IsShort (check_inner_fields rules ms)
inner_fields_short rules ms short = fields_short (Some failed_to_parse) rules [] ms (omega arith) short

pub collection_short : (database : List ℕ) (value : Datum) → IsShort (check_collection database value)
collection_short database (string_value s) = unless_short _ _ (omega arith)
collection_short database value = omega arith

text_short : (value : Datum) → IsShort (string_needed value)
text_short (string_value s) = tt
text_short value = omega arith

boolean_short : (value : Datum) → IsShort (boolean_needed value)
boolean_short (boolean_value b) = tt
boolean_short value = omega arith

false_short : (value : Datum) → IsShort (false_needed value)
false_short (boolean_value false) = tt
false_short (boolean_value true) = omega arith
false_short value = omega arith

any_short : (value : Datum) → IsShort (any_value value)
any_short value = tt

document_short : (check : Fields → Verdict) → ((ms : Fields) → IsShort (check ms)) → (value : Datum) → IsShort (document_needed check value)
document_short check short (document_value ms) = short ms
document_short check short value = omega arith

session_id_short : (value : Datum) → IsShort (session_id value)
session_id_short (binary_value subtype content) = unless_short _ bad_value (omega arith)
session_id_short value = omega arith

pub required_short : (name : List ℕ) (ms : Fields) → IsShort (check_required name ms)
required_short name ms = by_found (get name ms)
  where
    by_found : (o : Option Datum) → IsShort (elim o [ None ↦ Some failed_to_parse | Some value ↦ None ])
    by_found None = omega arith
    by_found (Some value) = tt

session_short : (ms : Fields) → IsShort (check_session ms)
session_short ms =
    first_short (check_inner_fields session_rules ms) (check_required (codes "id") ms ∷ []) (inner_fields_short session_rules ms (session_id_short, tt))
    (first_short (check_required (codes "id") ms) [] (required_short (codes "id") ms) tt)

time_limit_short : (value : Datum) → IsShort (time_limit_needed value)
time_limit_short value = by_number (whole_number value)
  where
    by_number : (o : Option ℤ) → IsShort (elim o [ None ↦ Some type_mismatch | Some n ↦ unless_passes (is_time_limit n) bad_value ])
    by_number None = omega arith
    by_number (Some n) = unless_short _ bad_value (omega arith)

common_short : AreShort common_rules
common_short =
    (text_short, (document_short check_session session_short, (any_short, (any_short, (any_short, (time_limit_short, (text_short, (boolean_short, (boolean_short, tt)))))))))

count_short : (documents : List Fields) → IsShort (check_count documents)
count_short documents = unless_short _ bad_value (omega arith)

check_documents_short : (o : Option (List Fields)) → IsShort (check_documents o)
check_documents_short None = omega arith
check_documents_short (Some documents) = count_short documents

documents_short : (value : Datum) → IsShort (documents_needed value)
documents_short (array_value ds) = check_documents_short (documents_in ds)
documents_short value = omega arith

whole_short : (value : Datum) → IsShort (whole_needed value)
whole_short value = by_number (whole_number value)
  where
    by_number : (o : Option ℤ) → IsShort (elim o [ None ↦ Some type_mismatch | Some n ↦ None ])
    by_number None = omega arith
    by_number (Some n) = tt

pub write_short : (form : StatementForm) → AreShort (write_rules form)
write_short form = (documents_short, (boolean_short, (document_short (λ ms. None) (λ ms. tt), (boolean_short, (whole_short, common_short)))))

session_needed_short : (document : Fields) → IsShort (session_needed document)
session_needed_short document = by_value (get (codes "txnNumber") document)
  where
    by_value : (o : Option Datum) → IsShort (elim o [ None ↦ None | Some value ↦ check_required (codes "lsid") document ])
    by_value None = tt
    by_value (Some value) = required_short (codes "lsid") document

level_short : (value : Datum) → IsShort (check_level value)
level_short (string_value s) = unless_short _ bad_value (omega arith)
level_short value = omega arith

time_short : (value : Datum) → IsShort (timestamp_needed value)
time_short (timestamp_value n) = tt
time_short value = omega arith

named_time_short : (o : Option Datum) (b : Bool) → IsShort (elim o [ None ↦ None | Some value ↦ unless_passes b bad_value ])
named_time_short None b = tt
named_time_short (Some value) b = unless_short b bad_value (omega arith)

concern_short : (ms : Fields) → IsShort (check_concern ms)
concern_short ms =
    first_short (check_inner_fields concern_rules ms) _ (inner_fields_short concern_rules ms (level_short, (time_short, (time_short, tt))))
    (first_short _ [] (named_time_short (get (codes "atClusterTime") ms) (may_name_time ms)) tt)

read_concern_short : (value : Datum) → IsShort (document_needed check_concern value)
read_concern_short value = document_short check_concern concern_short value

words_read_short : {A : Type 0} (read : Result A QueryFault) → IsShort (unless_faulty read)
words_read_short (Ok x) = tt
words_read_short (Err fault) = omega arith

words_needed_short : {A : Type 0} (read : Fields → Result A QueryFault) (value : Datum) → IsShort (document_needed (λ ms. unless_faulty (read ms)) value)
words_needed_short read value = document_short (λ ms. unless_faulty (read ms)) (λ ms. words_read_short (read ms)) value

natural_short : (value : Datum) → IsShort (natural_needed value)
natural_short value = by_number (whole_number value)
  where
    by_number : (o : Option ℤ) → IsShort (elim o [ None ↦ Some type_mismatch | Some n ↦ unless_faulty (as_natural n) ])
    by_number None = omega arith
    by_number (Some n) = words_read_short (as_natural n)

only_false_short : AreShort (rules_by false_needed only_false ++ common_rules)
only_false_short = (false_short, (false_short, (false_short, (false_short, common_short))))

pub find_short : AreShort find_rules
find_short = (
  words_needed_short read_query,
  (
    words_needed_short read_sort,
    (
      words_needed_short read_shown,
      (
        natural_short,
        (natural_short, (natural_short, (boolean_short, (boolean_short, (boolean_short, (boolean_short, (read_concern_short, only_false_short))))))),
      ),
    ),
  ),
)

pipeline_short : (value : Datum) → IsShort (pipeline_needed value)
pipeline_short (array_value stages) = words_read_short (read_pipeline stages)
pipeline_short value = omega arith

cursor_words_short : (ms : Fields) → IsShort (check_inner_fields cursor_rules ms)
cursor_words_short ms = inner_fields_short cursor_rules ms (natural_short, tt)

pub aggregate_short : AreShort aggregate_rules
aggregate_short = (pipeline_short, (document_short (check_inner_fields cursor_rules) cursor_words_short, (read_concern_short, (boolean_short, common_short))))

pub count_rules_short : AreShort count_rules
count_rules_short = (words_needed_short read_query, (natural_short, (natural_short, (read_concern_short, common_short))))

pub more_short : (database : List ℕ) → AreShort (more_rules database)
more_short database = (collection_short database, (natural_short, common_short))

cursors_short : (value : Datum) → IsShort (cursors_needed value)
cursors_short (array_value values) = unless_short (are_whole_numbers values) type_mismatch (omega arith)
cursors_short value = omega arith

pub kill_short : (database : List ℕ) → AreShort (kill_rules database)
kill_short database = (cursors_short, common_short)

shard_key_short : (value : Datum) → IsShort (shard_key_needed value)
shard_key_short value = document_short (λ ms. unless_passes (is_shard_key ms) bad_value) (λ ms. unless_short (is_shard_key ms) bad_value (omega arith)) value

pub shard_collection_short : AreShort shard_collection_rules
shard_collection_short = (shard_key_short, common_short)

middle_short : (value : Datum) → IsShort (key_needed value)
middle_short value = document_short (λ ms. unless_passes (is_some (only_key ms)) bad_value) (λ ms. unless_short (is_some (only_key ms)) bad_value (omega arith)) value

pub split_short : AreShort split_rules
split_short = (middle_short, common_short)

pub handshake_short : AreShort handshake_rules
handshake_short = (text_short, (boolean_short, tt))

-- the other parts of forms

pub cursor_number_short : (database : List ℕ) (value : Datum) → IsShort (check_cursor database value)
cursor_number_short database value = by_test (is_some (whole_number value))
  where
    by_test : (b : Bool) → IsShort (if b then unless_passes (is_open_database database) invalid_namespace else Some type_mismatch)
    by_test true = unless_short (is_open_database database) invalid_namespace (omega arith)
    by_test false = omega arith

pub full_name_short : (database : List ℕ) (value : Datum) → IsShort (check_full_name database value)
full_name_short database (string_value s) = unless_short _ _ (omega arith)
full_name_short database value = omega arith

pub some_short : (o : Option (List Fields)) → IsShort (some_needed o)
some_short None = omega arith
some_short (Some documents) = tt

pub write_needed_short : (o : Option (List Fields)) (document : Fields) → IsShort (first_of (some_needed o ∷ session_needed document ∷ []))
write_needed_short o document =
    first_short (some_needed o) (session_needed document ∷ []) (some_short o) (first_short (session_needed document) [] (session_needed_short document) tt)

pub two_needed_short : (first second : List ℕ) (document : Fields) → IsShort (first_of (check_required first document ∷ check_required second document ∷ []))
two_needed_short first second document =
    first_short (check_required first document) _ (required_short first document) (first_short (check_required second document) [] (required_short second document) tt)

-- statements

key_short : (o : Option Datum) → IsShort (check_key o)
key_short None = omega arith
key_short (Some key) = unless_short (is_key key) bad_value (omega arith)

words_short : (operation : Operation) → IsShort (check_words operation)
words_short operation = by_words (read_operation operation)
  where
    by_words : (read : Result Write QueryFault) → IsShort (elim read [ Ok write ↦ None | Err fault ↦ Some bad_value ])
    by_words (Ok write) = tt
    by_words (Err fault) = omega arith

limit_short : (value : Datum) → IsShort (limit_needed value)
limit_short value = by_number (whole_number value)
  where
    by_number : (o : Option ℤ) → IsShort (elim o [ None ↦ Some type_mismatch | Some n ↦ unless_passes (int_eq n (pos 0) || int_eq n (pos 1)) bad_value ])
    by_number None = omega arith
    by_number (Some n) = unless_short _ bad_value (omega arith)

any_document_short : (value : Datum) → IsShort (document_needed (λ ms. None) value)
any_document_short value = document_short (λ ms. None) (λ ms. tt) value

two_required_short : (rules : List Rule) (first second : List ℕ) (statement : Fields) → AreShort rules →
    IsShort (first_of (check_inner_fields rules statement ∷ check_required first statement ∷ check_required second statement ∷ []))
two_required_short rules first second statement short =
    first_short (check_inner_fields rules statement) _ (inner_fields_short rules statement short) (two_needed_short first second statement)

fields_of_statement_short : (kind : WriteKind) (statement : Fields) → IsShort ((statement_form kind).check statement)
fields_of_statement_short insert_kind statement = tt
fields_of_statement_short update_kind statement = two_required_short update_rules (codes "q") (codes "u") statement (any_document_short, (any_document_short, (boolean_short, (boolean_short, tt))))
fields_of_statement_short delete_kind statement = two_required_short delete_rules (codes "q") (codes "limit") statement (any_document_short, (limit_short, tt))

statement_short : (kind : WriteKind) (statement : Fields) → IsShort (check_statement (statement_form kind) statement)
statement_short kind statement =
    let operation : Operation = (statement_form kind).operation statement in
    first_short ((statement_form kind).check statement) _ (fields_of_statement_short kind statement)
    (first_short (check_key (key_asked_by operation)) _ (key_short (key_asked_by operation)) (first_short (check_words operation) [] (words_short operation) tt))

pub statements_short : (kind : WriteKind) (statements : List Fields) → IsShort (check_statements (statement_form kind) statements)
statements_short kind [] = tt
statements_short kind (statement ∷ statements) =
    first_short (check_statement (statement_form kind) statement) (check_statements (statement_form kind) statements ∷ []) (statement_short kind statement)
    (first_short (check_statements (statement_form kind) statements) [] (statements_short kind statements) tt)

abbrev pub IsShortSequence : Option SequenceRule → Type 0
IsShortSequence None = Unit {0}
IsShortSequence (Some rule) = (documents : List Fields) → IsShort (rule.check documents)

pub documents_sequence_short : (identifier : List ℕ) → IsShortSequence (Some (record { identifier = identifier; check = check_count }))
documents_sequence_short identifier = count_short

-- each check of the form returns short errors
pub record IsShortForm (form : CommandForm Command) : Type 0 where
  pub own_check : (database : List ℕ) (value : Datum) → IsShort (form.check_own database value)
  pub each_rule : (database : List ℕ) → AreShort (form.rules database)
  pub others : IsShort form.unlisted
  pub sequence_rule : IsShortSequence form.sequence
  pub needed : (document : Fields) (sequences : Sequences) → IsShort (form.check_needed document sequences)
  pub last : (document : Fields) (sequences : Sequences) → IsShort (form.check_last document sequences)

-- all checks of a command, in their order

database_short : (sent : Form) (o : Option Datum) → IsShort (check_database sent o)
database_short sent (Some (string_value s)) = tt
database_short sent (Some value) = omega arith
database_short msg_form None = omega arith
database_short query_form None = tt

sequence_short : (rule : Option SequenceRule) (given : Bool) (s : List ℕ × List Fields) → IsShortSequence rule → IsShort (check_sequence rule given s)
sequence_short None given s short = omega arith
sequence_short (Some rule) given s short = if_short (given || not (bytes_eq s.0 rule.identifier)) (rule.check s.1) (short s.1)

sequences_short : (rule : Option SequenceRule) (given : List (List ℕ)) (sequences : Sequences) → IsShortSequence rule → IsShort (check_sequences rule given sequences)
sequences_short rule given [] short = tt
sequences_short rule given (s ∷ sequences) short =
    first_short (check_sequence rule (is_one_of s.0 given) s) (check_sequences rule (s.0 ∷ given) sequences ∷ []) (sequence_short rule (is_one_of s.0 given) s short)
    (first_short (check_sequences rule (s.0 ∷ given) sequences) [] (sequences_short rule (s.0 ∷ given) sequences short) tt)

pub command_short : (form : CommandForm Command) (sent : Form) (own : List ℕ) (value : Datum) (others : Fields) (sequences : Sequences) → IsShortForm form → IsShort (check_command form sent own value others sequences)
command_short form sent own value others sequences short =
    first_short (check_database sent (get (codes "$db") (field own value others))) _ (database_short sent (get (codes "$db") (field own value others)))
    (first_short (form.check_own (database_of sent (field own value others)) value) _ (short.own_check (database_of sent (field own value others)) value)
    (first_short (check_fields form.unlisted (form.rules (database_of sent (field own value others))) (own ∷ []) others) _
    (fields_short form.unlisted (form.rules (database_of sent (field own value others))) (own ∷ []) others short.others (short.each_rule (database_of sent (field own value others))))
    (first_short (check_sequences form.sequence (own ∷ names_of others) sequences) _ (sequences_short form.sequence (own ∷ names_of others) sequences short.sequence_rule)
    (first_short (form.check_needed (field own value others) sequences) _ (short.needed (field own value others) sequences)
    (first_short (form.check_last (field own value others) sequences) [] (short.last (field own value others) sequences) tt)))))
