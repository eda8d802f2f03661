-- Statements that pass are writes under keys; where their documents are small they may be stored.
use Rattle.std.proofs.Common.{◌≡◌, List, [], ◌∷◌, refl, sym, ap, ◌∙◌, Bool, true, Option, Some, None, Ok, Err, codes}
use Rattle.std.specs.Prelude.{Result, map, if◌then◌else◌}
use Rattle.std.specs.List.{AllByRecursion}
use Rattle.bson_model.specs.Tree.{Datum, Fields}
use Rattle.opmsg_model.specs.MessageSizes.{IsSmall}
use Rattle.value_model.specs.Keys.{is_key, key_of, valid_key}
use Rattle.base_model.specs.Errors.{bad_value}
use Rattle.query_model.specs.DocumentKeys.{key_asked_in}
use Rattle.query_model.specs.Queries.{Query, QueryFault}
use Rattle.query_model.specs.Reading.{◌>>=◌, read_query}
use Rattle.query_model.specs.KeySpans.{key_asked, key_equal}
use Rattle.query_model.specs.Changes.{Change, read_change}
use Rattle.query_model.specs.Writes.{Write, insert_write, update_write, delete_write, read_start}
use Rattle.query_model.specs.Effects.{write_key}
use Rattle.query_model.proofs.DocumentKeys.{keys_of_documents}
use Rattle.query_model.proofs.ReadWrites.{insert_read}
use Rattle.history_model.specs.History.{Operation, insert_operation, update_operation, delete_operation, read_operation, key_read, key_written}
use Rattle.history_model.proofs.LegalHistories.{valid_of}
use Rattle.command_model.specs.Checks.{Verdict}
use Rattle.command_model.specs.Statements.{StatementForm, check_key, check_statement, check_statements, check_words, key_asked_by}
use Rattle.command_model.specs.Writes.{WriteKind, insert_kind, update_kind, delete_kind, statement_form}
use Rattle.command_model.specs.CommandSizes.{AreSmallWords, IsKeepable}
use Rattle.command_model.proofs.Passed.{passed_last, passed_parts, passed_test}
use Rattle.command_model.proofs.Inside.{document_small}

-- the operation is a write under a key
abbrev pub HasKey : Operation → Type 0
HasKey operation = (key : Datum) × (key_written operation ≡ Some key)

-- the write that an operation is, and its key
record IsRead (operation : Operation) : Type 0 where
  write : Write
  reads : read_operation operation ≡ Ok write
  key : Datum
  under : write_key write ≡ Some key

-- a document that reads as a query requires the key that the query's write has

record AsksFor (document : Fields) (write : Write) : Type 0 where
  asked : Query
  reads : read_query document ≡ Ok asked
  acts : write_key write ≡ key_equal asked

update_written : (document : Fields) (asked : Query) (change : Change) (start : Result (Option Fields) QueryFault) (write : Write) → read_query document ≡ Ok asked →
    (start >>= λ begins. Ok (update_write asked change begins)) ≡ Ok write → AsksFor document write
update_written document asked change (Ok begins) write is e =
    let same : update_write asked change begins ≡ write = cc in
    record { asked = asked; reads = is; acts = ap write_key (sym same) }
update_written document asked change (Err fault) write is e = absurd cc

update_changes : (document : Fields) (asked : Query) (change : Result Change QueryFault) (upsert : Bool) (write : Write) → read_query document ≡ Ok asked →
    (change >>= λ read. read_start upsert asked >>= λ start. Ok (update_write asked read start)) ≡ Ok write → AsksFor document write
update_changes document asked (Ok change) upsert write is e = update_written document asked change (read_start upsert asked) write is e
update_changes document asked (Err fault) upsert write is e = absurd cc

update_asks : (document words : Fields) (upsert : Bool) (query : Result Query QueryFault) (write : Write) → read_query document ≡ query →
    (query >>= λ asked. read_change words >>= λ change. read_start upsert asked >>= λ start. Ok (update_write asked change start)) ≡ Ok write → AsksFor document write
update_asks document words upsert (Ok asked) write is e = update_changes document asked (read_change words) upsert write is e
update_asks document words upsert (Err fault) write is e = absurd cc

delete_asks : (document : Fields) (query : Result Query QueryFault) (write : Write) → read_query document ≡ query → (query >>= λ asked. Ok (delete_write asked)) ≡ Ok write → AsksFor document write
delete_asks document (Ok asked) write is e =
    let same : delete_write asked ≡ write = cc in
    record { asked = asked; reads = is; acts = ap write_key (sym same) }
delete_asks document (Err fault) write is e = absurd cc

key_equal_of : (asked : Query) (key : Datum) → key_asked asked ≡ Some key → is_key key ≡ true → key_equal asked ≡ Some key
key_equal_of asked key asks is =
    ap (λ (o : Option Datum). elim o [ None ↦ None | Some x ↦ if is_key x then Some x else None ]) asks ∙ ap (λ (b : Bool). if b then Some key else None) is

acts_under : (document : Fields) (write : Write) (key : Datum) → AsksFor document write → key_asked_in document ≡ Some key → is_key key ≡ true → write_key write ≡ Some key
acts_under document write key asks found is = asks.acts ∙ key_equal_of asks.asked key (sym (keys_of_documents document asks.asked asks.reads) ∙ found) is

insert_acts : (document : Fields) (write : Write) (key : Datum) → read_operation (insert_operation document) ≡ Ok write → key_of document ≡ Some key → is_key key ≡ true → write_key write ≡ Some key
insert_acts document write key e found is =
    let valid : valid_key document ≡ Ok key = valid_of document key found is in
    let same : insert_write document ≡ write = let both : Path (Result Write QueryFault) (Ok (insert_write document)) (Ok write) = sym (insert_read document key valid) ∙ e in cc in
    ap write_key (sym same) ∙ (rw valid refl)

-- an operation that reads as a write has the key that it requires
pub key_of_write : (operation : Operation) (write : Write) (key : Datum) → read_operation operation ≡ Ok write → key_asked_by operation ≡ Some key → is_key key ≡ true → write_key write ≡ Some key
key_of_write (insert_operation document) write key e found is = insert_acts document write key e found is
key_of_write (update_operation filter words upsert) write key e found is = acts_under filter write key (update_asks filter words upsert (read_query filter) write refl e) found is
key_of_write (delete_operation filter) write key e found is = acts_under filter write key (delete_asks filter (read_query filter) write refl e) found is

judged_key : (o : Option Datum) → check_key o ≡ None → (key : Datum) × (o ≡ Some key) × (is_key key ≡ true)
judged_key None e = absurd cc
judged_key (Some key) e = (key, refl, passed_test (is_key key) bad_value e)

abbrev words_verdict : Result Write QueryFault → Verdict
words_verdict read = elim read [ Ok write ↦ None | Err fault ↦ Some bad_value ]

judged_words : (read : Result Write QueryFault) → words_verdict read ≡ None → (write : Write) × (read ≡ Ok write)
judged_words (Ok write) e = (write, refl)
judged_words (Err fault) e = absurd cc

-- the document of an insert that has a key reads as a write
pub insert_reads : (document : Fields) → check_key (key_of document) ≡ None → check_words (insert_operation document) ≡ None
insert_reads document keyed =
    let key = judged_key (key_of document) keyed in
    ap words_verdict (insert_read document key.0 (valid_of document key.0 key.1 key.2))

judged : (operation : Operation) → check_key (key_asked_by operation) ≡ None → check_words operation ≡ None → IsRead operation
judged operation keyed worded =
    let key = judged_key (key_asked_by operation) keyed in
    let write = judged_words (read_operation operation) worded in
    record { write = write.0; reads = write.1; key = key.0; under = key_of_write operation write.0 key.0 write.1 key.1 key.2 }

statement_judged : (form : StatementForm) (statement : Fields) → check_statement form statement ≡ None → IsRead (form.operation statement)
statement_judged form statement e =
    let fields = passed_parts (form.check statement) (check_key (key_asked_by (form.operation statement)) ∷ check_words (form.operation statement) ∷ []) e in
    let key = passed_parts (check_key (key_asked_by (form.operation statement))) (check_words (form.operation statement) ∷ []) fields.1 in
    judged (form.operation statement) key.0 (passed_last (check_words (form.operation statement)) key.1)

with_key : (operation : Operation) → IsRead operation → HasKey operation
with_key operation read = (read.key, ap key_read read.reads ∙ read.under)

-- the documents of a small statement are small
words_small : (kind : WriteKind) (statement : Fields) → IsSmall statement → AreSmallWords ((statement_form kind).operation statement)
words_small insert_kind statement small = small
words_small update_kind statement small = (document_small (codes "q") statement small, document_small (codes "u") statement small)
words_small delete_kind statement small = document_small (codes "q") statement small

may_be_kept : (operation : Operation) → AreSmallWords operation → IsRead operation → IsKeepable operation
may_be_kept operation small read = record { small = small; write = read.write; reads = read.reads; key = read.key; under = read.under }

-- statements that pass have keys
pub keys_passed : (form : StatementForm) (statements : List Fields) → check_statements form statements ≡ None → AllByRecursion HasKey (map form.operation statements)
keys_passed form [] e = tt
keys_passed form (statement ∷ statements) e =
    let told = passed_parts (check_statement form statement) (check_statements form statements ∷ []) e in
    (with_key (form.operation statement) (statement_judged form statement told.0), keys_passed form statements (passed_last (check_statements form statements) told.1))

-- small statements that pass may be stored
pub keepable : (kind : WriteKind) (statements : List Fields) → AllByRecursion IsSmall statements → check_statements (statement_form kind) statements ≡ None →
    AllByRecursion IsKeepable (map (statement_form kind).operation statements)
keepable kind [] small e = tt
keepable kind (statement ∷ statements) small e =
    let form : StatementForm = statement_form kind in
    let told = passed_parts (check_statement form statement) (check_statements form statements ∷ []) e in (
      may_be_kept (form.operation statement) (words_small kind statement small.0) (statement_judged form statement told.0),
      keepable kind statements small.1 (passed_last (check_statements form statements) told.1),
    )
