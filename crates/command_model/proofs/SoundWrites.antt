-- The forms of write commands are sound.
use Rattle.std.proofs.Common.{◌≡◌, ◌≢◌, ℕ, ◌≤◌, List, [], ◌∷◌, length, refl, false, Option, Some, None, codes, arith, subst, ◌∙◌, sym}
use Rattle.std.specs.Prelude.{map}
use Rattle.std.specs.Str.{bytes_eq}
use Rattle.std.specs.List.{AllByRecursion}
use Rattle.bson_model.specs.Tree.{Datum, array_value, Fields, field, get}
use Rattle.bson_model.specs.Spelling.{written_items, written_fields}
use Rattle.opmsg_model.specs.Requests.{Form}
use Rattle.opmsg_model.specs.MessageSizes.{IsSmall}
use Rattle.base_model.specs.Errors.{failed_to_parse}
use Rattle.command_model.specs.Checks.{first_of, is_one_of}
use Rattle.command_model.specs.Fields.{by_rule, check_fields, find_rule, names_of}
use Rattle.command_model.specs.Forms.{CommandForm, SequenceRule, Sequences, check_collection, check_command, check_database, check_sequence, check_sequences, database_of, made_into}
use Rattle.command_model.specs.Statements.{StatementForm, check_statements}
use Rattle.command_model.specs.Writes.{WriteKind, insert_kind, update_kind, delete_kind, check_count, check_documents, documents_asked, documents_needed, documents_of_value, or_documents, session_needed, some_needed, statement_form, write_form, write_rules}
use Rattle.command_model.specs.Command.{Command, write_command}
use Rattle.command_model.specs.CommandSizes.{IsKeepable}
use Rattle.bson_model.proofs.Lengths.{length-framed}
use Rattle.command_model.proofs.ShortErrors.{collection_short, documents_sequence_short, statements_short, write_needed_short, write_short}
use Rattle.command_model.proofs.Passed.{few_documents, field_passed, passed_else, passed_last, passed_parts, some_counted}
use Rattle.command_model.proofs.Judged.{keepable, keys_passed}
use Rattle.command_model.proofs.Inside.{got_inside, items_small}
use Rattle.command_model.proofs.Sound.{AreSmall, IsSound}
use Rattle.command_model.specs.CommandLimits.{most_statements}

-- the statements of a write command are counted

abbrev counting : List ℕ → Option SequenceRule
counting identifier = Some (record { identifier = identifier; check = check_count })

counted_value : (value : Datum) (documents : List Fields) → documents_needed value ≡ None → documents_of_value value ≡ Some documents → check_count documents ≡ None
counted_value (array_value ds) documents passed is = subst (λ (o : Option (List Fields)). check_documents o ≡ None) is passed
counted_value value documents passed is = absurd cc

counted_sequence : (identifier : List ℕ) (given : List (List ℕ)) (sequences : Sequences) (documents : List Fields) → check_sequences (counting identifier) given sequences ≡ None →
    elim sequences [ [] ↦ None | s ∷ more ↦ Some s.1 ] ≡ Some documents → check_count documents ≡ None
counted_sequence identifier given [] documents passed is = absurd cc
counted_sequence identifier given (s ∷ more) documents passed is =
    let same : s.1 ≡ documents = cc in
    let told = passed_parts (check_sequence (counting identifier) (is_one_of s.0 given) s) (check_sequences (counting identifier) (s.0 ∷ given) more ∷ []) passed in
    subst (λ (l : List Fields). check_count l ≡ None) same (passed_else _ _ told.0)

counted_asked : (identifier : List ℕ) (o : Option Datum) (given : List (List ℕ)) (sequences : Sequences) (documents : List Fields) → ((value : Datum) → o ≡ Some value → documents_needed value ≡ None) →
    check_sequences (counting identifier) given sequences ≡ None → elim o [ Some value ↦ documents_of_value value | None ↦ elim sequences [ [] ↦ None | s ∷ more ↦ Some s.1 ] ] ≡ Some documents → check_count documents ≡ None
counted_asked identifier None given sequences documents needed passed is = counted_sequence identifier given sequences documents passed is
counted_asked identifier (Some value) given sequences documents needed passed is = counted_value value documents (needed value refl) is

-- and small

small_value : (identifier : List ℕ) (document : Fields) (value : Datum) (documents : List Fields) → IsSmall document → get identifier document ≡ Some value → documents_of_value value ≡ Some documents → AllByRecursion IsSmall documents
small_value identifier document (array_value ds) documents small got is =
    let inside = got_inside identifier document (array_value ds) got in
    items_small 0 ds documents (omega (arith, inside.0, small.0)) (omega (arith, inside.1, small.1, length-framed (written_items 0 ds), length-framed (written_fields document))) is
small_value identifier document value documents small got is = absurd cc

small_sequence : (sequences : Sequences) (documents : List Fields) → AreSmall sequences → elim sequences [ [] ↦ None | s ∷ more ↦ Some s.1 ] ≡ Some documents → AllByRecursion IsSmall documents
small_sequence [] documents small is = absurd cc
small_sequence (s ∷ more) documents small is =
    let same : s.1 ≡ documents = cc in
    subst (λ (l : List Fields). AllByRecursion IsSmall l) same small.0

small_asked : (identifier : List ℕ) (o : Option Datum) (document : Fields) (sequences : Sequences) (documents : List Fields) → IsSmall document → AreSmall sequences → get identifier document ≡ o →
    elim o [ Some value ↦ documents_of_value value | None ↦ elim sequences [ [] ↦ None | s ∷ more ↦ Some s.1 ] ] ≡ Some documents → AllByRecursion IsSmall documents
small_asked identifier None document sequences documents small all got is = small_sequence sequences documents all is
small_asked identifier (Some value) document sequences documents small all got is = small_value identifier document value documents small got is

-- a write command that passes all checks
record Passes (form : StatementForm) (document : Fields) (sequences : Sequences) : Type 0 where
  counted : (documents : List Fields) → documents_asked form document sequences ≡ Some documents → check_count documents ≡ None
  needed : some_needed (documents_asked form document sequences) ≡ None
  judged : check_statements form (or_documents (documents_asked form document sequences)) ≡ None

-- the field of the statements is checked by its own rule
statements_rule : (kind : WriteKind) (value : Datum) → by_rule (Some failed_to_parse) (find_rule (statement_form kind).identifier (write_rules (statement_form kind))) false value ≡ documents_needed value
statements_rule insert_kind value = refl
statements_rule update_kind value = refl
statements_rule delete_kind value = refl

behind_own : (own name : List ℕ) (value : Datum) (others : Fields) → bytes_eq own name ≡ false → get name (field own value others) ≡ get name others
behind_own own name value others differs = rw differs refl

-- the names of write commands, which differ from those of their statements
abbrev name_of_kind : WriteKind → List ℕ
name_of_kind insert_kind = codes "insert"
name_of_kind update_kind = codes "update"
name_of_kind delete_kind = codes "delete"

names_differ : (kind : WriteKind) → bytes_eq (name_of_kind kind) (statement_form kind).identifier ≡ false
names_differ insert_kind = refl
names_differ update_kind = refl
names_differ delete_kind = refl

abbrev form_of_kind : WriteKind → CommandForm Command
form_of_kind kind = made_into write_command (write_form kind)

write_passes : (kind : WriteKind) (sent : Form) (value : Datum) (others : Fields) (sequences : Sequences) → check_command (form_of_kind kind) sent (name_of_kind kind) value others sequences ≡ None →
    Passes (statement_form kind) (field (name_of_kind kind) value others) sequences
write_passes kind sent value others sequences passed =
    let own : List ℕ = name_of_kind kind in
    let form : StatementForm = statement_form kind in
    let document : Fields = field own value others in
    let first = passed_parts (check_database sent (get (codes "$db") document)) _ passed in
    let second = passed_parts (check_collection (database_of sent document) value) _ first.1 in
    let third = passed_parts (check_fields (Some failed_to_parse) (write_rules form) (own ∷ []) others) _ second.1 in
    let fourth = passed_parts (check_sequences (counting form.identifier) (own ∷ names_of others) sequences) _ third.1 in
    let fifth = passed_parts (first_of (some_needed (documents_asked form document sequences) ∷ session_needed document ∷ [])) _ fourth.1 in
    record {
      counted = λ documents is. counted_asked form.identifier (get form.identifier document) (own ∷ names_of others) sequences documents
          (λ d got. sym (statements_rule kind d) ∙ field_passed (write_rules form) (own ∷ []) others form.identifier d third.0 (sym (behind_own own form.identifier value others (names_differ kind)) ∙ got)) fourth.0 is;
      needed = (passed_parts (some_needed (documents_asked form document sequences)) _ fifth.0).0;
      judged = passed_last (check_statements form (or_documents (documents_asked form document sequences))) fifth.1;
    }

some_of : (form : StatementForm) (o : Option (List Fields)) → ((documents : List Fields) → o ≡ Some documents → check_count documents ≡ None) → some_needed o ≡ None → map form.operation (or_documents o) ≢ []
some_of form None counted needed none = absurd cc
some_of form (Some []) counted needed none = some_counted [] (counted [] refl) refl
some_of form (Some (document ∷ documents)) counted needed none = absurd cc

length_of_map : (form : StatementForm) (documents : List Fields) → length (map form.operation documents) ≡ length documents
length_of_map form [] = refl
length_of_map form (document ∷ documents) = omega (arith, length_of_map form documents)

small_of : (kind : WriteKind) (o : Option (List Fields)) → ((documents : List Fields) → o ≡ Some documents → check_count documents ≡ None) → ((documents : List Fields) → o ≡ Some documents → AllByRecursion IsSmall documents) →
    check_statements (statement_form kind) (or_documents o) ≡ None →
    (length (map (statement_form kind).operation (or_documents o)) ≤ most_statements) × AllByRecursion IsKeepable (map (statement_form kind).operation (or_documents o))
small_of kind None counted small judged = (omega arith, tt)
small_of kind (Some documents) counted small judged =
    (omega (arith, length_of_map (statement_form kind) documents, few_documents documents (counted documents refl)), keepable kind documents (small documents refl) judged)

pub write_sound : (kind : WriteKind) → IsSound (name_of_kind kind) (form_of_kind kind)
write_sound kind = record {
  short = record {
    own_check = collection_short;
    each_rule = λ database. write_short (statement_form kind);
    others = omega arith;
    sequence_rule = documents_sequence_short (statement_form kind).identifier;
    needed = λ document sequences. write_needed_short (documents_asked (statement_form kind) document sequences) document;
    last = λ document sequences. statements_short kind (or_documents (documents_asked (statement_form kind) document sequences));
  };
  keys = λ sent value others sequences passed.
      let asked : Option (List Fields) = documents_asked (statement_form kind) (field (name_of_kind kind) value others) sequences in
      let passes = write_passes kind sent value others sequences passed in
      (some_of (statement_form kind) asked passes.counted passes.needed, keys_passed (statement_form kind) (or_documents asked) passes.judged);
  small = λ sent value others sequences small all passed.
      let form : StatementForm = statement_form kind in
      let document : Fields = field (name_of_kind kind) value others in
      let passes = write_passes kind sent value others sequences passed in
      small_of kind (documents_asked form document sequences) passes.counted
      (λ documents is. small_asked form.identifier (get form.identifier document) document sequences documents small all refl is) passes.judged;
  numbers = λ sent value others sequences. tt;
}
