-- Documents and keys that are read.
use Rattle.std.proofs.Common.{◌≡◌, ◌≢◌, ℕ, ◌+◌, ◌≤◌, List, [], ◌∷◌, ◌++◌, length, take, drop, Bool, true, false, refl, sym, ap, subst, ◌∙◌, arith, codes, Result, Ok, Err, Option, Some, None, length-append}
use Rattle.std.specs.Prelude.{nat_lt, nat_eq, IfOk, IfErr, if◌then◌else◌}
use Rattle.std.specs.Str.{bytes_eq}
use Rattle.std.proofs.lemmas.Slice.Eq.{bytes_eq-Decides}
use Rattle.bson_model.specs.Faults.{Fault, HasFirstFault}
use Rattle.bson_model.specs.Grammar.{AreBytes, ReadsAs, IsWithinDepth}
use Rattle.bson_model.specs.Limits.{IsWritable}
use Rattle.bson_model.specs.Spelling.{type_byte_of, framed, element, written, written_value, written_fields}
use Rattle.bson_model.specs.Tree.{Datum, document_value, array_value, min_key_value, max_key_value, Fields, no_fields, field, get, value_depth, document_depth}
use Rattle.bson_model.proofs.Lengths.{length-framed}
use Rattle.bson_values.specs.declared.fault.BsonFault.{BsonFault}
use Rattle.bson_values.specs.declared.fault.BsonFault.TheVariants.{Short, BadLength, BadType, BadText, BadBool, Deep, Trailing, Memory}
use Rattle.bson_values.specs.ReadFaults.{fault_from}
use Rattle.bson_values.specs.Readers.{whole_at}
use Rattle.bson_values.proofs.FirstFault.{never_both, TellsFirst}
use Rattle.bson_values.proofs.Whole.{whole_takes, whole_again}
use Rattle.value_model.specs.Keys.{is_key, key_of, KeyFault, absent_key, wrong_kind, valid_key}
use Rattle.record_model.specs.RecordFormat.{key_document}
use Rattle.shard_records.specs.Sizes.{FitsRecord}
use Rattle.record_parts.specs.declared.fault.RecordFault.{RecordFault}
use Rattle.record_parts.specs.Finds.{Finds, fault_view}
use Rattle.record_parts.specs.Readers.{whole_in}

-- what was found is the document that is there
pub found_whole : (bytes : List ℕ) (ms : Fields) (n : ℕ) → n ≤ length bytes → ReadsAs (take n bytes) ms → IsWithinDepth ms → whole_in (whole_at bytes) ≡ Some (ms, n)
found_whole bytes ms n le reads low = rw (whole_again bytes ms n le reads low) refl

-- where there is a fault there is no document
pub no_whole : (bytes : List ℕ) (fault : Fault) (offset : ℕ) → AreBytes bytes → HasFirstFault bytes fault offset → whole_in (whole_at bytes) ≡ None
no_whole bytes fault offset are first = by_read (whole_at bytes) refl
  where
    by_read : (read : Result (Fields × ℕ) BsonFault) → whole_at bytes ≡ read → whole_in read ≡ None
    by_read (Ok x) e = let t = whole_takes bytes x are e in absurd (never_both bytes x.1 x.0 fault offset are (t.within, t.reads, t.low) first)
    by_read (Err d) e = refl

none_there : (bytes : List ℕ) (e : BsonFault) → AreBytes bytes → e ≢ Memory → (e ≢ Memory → TellsFirst bytes e) → whole_in (whole_at bytes) ≡ None
none_there bytes e are other first = let t = first other in no_whole bytes t.0 t.1 are t.3

by_fault : (bytes : List ℕ) (e : BsonFault) → AreBytes bytes → (e ≢ Memory → TellsFirst bytes e) → Finds (λ (x : Fields × ℕ). x) (Err (fault_view e)) (whole_in (whole_at bytes))
by_fault bytes (Short offset) are first = none_there bytes (Short offset) are (λ q. cc) first
by_fault bytes (BadLength offset) are first = none_there bytes (BadLength offset) are (λ q. cc) first
by_fault bytes (BadType offset byte) are first = none_there bytes (BadType offset byte) are (λ q. cc) first
by_fault bytes (BadText offset) are first = none_there bytes (BadText offset) are (λ q. cc) first
by_fault bytes (BadBool offset) are first = none_there bytes (BadBool offset) are (λ q. cc) first
by_fault bytes (Deep offset) are first = none_there bytes (Deep offset) are (λ q. cc) first
by_fault bytes (Trailing offset) are first = none_there bytes (Trailing offset) are (λ q. cc) first
by_fault bytes Memory are first = tt

-- a call that failed in reading a document returns that
pub found_fault : (bytes : List ℕ) (e : BsonFault) (d : RecordFault) → AreBytes bytes → d ≡ fault_view e → (e ≢ Memory → (fault : Fault) × (offset : ℕ) × (e ≡ fault_from fault offset) × HasFirstFault bytes fault offset) → Finds (λ (x : Fields × ℕ). x) (Err d) (whole_in (whole_at bytes))
found_fault bytes e d are is first = subst (λ (f : RecordFault). Finds (λ (x : Fields × ℕ). x) (Err f) (whole_in (whole_at bytes))) (sym is) (by_fault bytes e are first)

abbrev KeyRead : Type 0
KeyRead = Result Datum KeyFault

kept_key : (b : Bool) (k key : Datum) → is_key k ≡ b → Path KeyRead (if b then Ok k else Err wrong_kind) (Ok key) → (k ≡ key) × (is_key k ≡ true)
kept_key true k key is f = (cc (f), is)
kept_key false k key is f = absurd (cc (f))

by_key : (document : Fields) (key : Datum) (o : Option Datum) → key_of document ≡ o → Path KeyRead (elim o [ None ↦ Err absent_key | Some d ↦ if is_key d then Ok d else Err wrong_kind ]) (Ok key) → (get (codes "_id") document ≡ Some key) × (is_key key ≡ true)
by_key document key None there f = absurd (cc (f))
by_key document key (Some k) there f =
    let same = kept_key (is_key k) k key refl f in
    (there ∙ ap (λ (d : Datum). Some d) same.0, subst (λ (d : Datum). is_key d ≡ true) same.0 same.1)

pub found_key : (document : Fields) (key : Datum) → valid_key document ≡ Ok key → (get (codes "_id") document ≡ Some key) × (is_key key ≡ true)
found_key document key e = by_key document key (key_of document) refl e

pub flat_key : (key : Datum) → is_key key ≡ true → value_depth key ≡ 0
flat_key (document_value ms) e = absurd (cc (e))
flat_key (array_value ds) e = absurd (cc (e))
flat_key min_key_value e = refl
flat_key max_key_value e = refl
flat_key key e = refl

element_size : (type_byte : ℕ) (name value : List ℕ) → length (element type_byte name value) ≡ 2 + length name + length value
element_size type_byte name value = let h = length-append name (0 ∷ value) in omega (arith, h)

fields_size : (name : List ℕ) (value : Datum) (ms : Fields) → length (written_fields (field name value ms)) ≡ (2 + length name + length (written_value value)) + length (written_fields ms)
fields_size name value ms =
    length-append (element (type_byte_of value) name (written_value value)) (written_fields ms) ∙ ap (λ (n : ℕ). n + length (written_fields ms)) (element_size (type_byte_of value) name (written_value value))

-- a field is no longer than those of its document
inside_by : (name first : List ℕ) (value d : Datum) (ms : Fields) (b : Bool) → bytes_eq first name ≡ b → (get name ms ≡ Some d → 2 + length name + length (written_value d) ≤ length (written_fields ms)) → (if b then Some value else get name ms) ≡ Some d → 2 + length name + length (written_value d) ≤ length (written_fields (field first value ms))
inside_by name first value d ms true is later f =
    let same : value ≡ d = cc in
    let named : length first ≡ length name = ap (λ (s : List ℕ). length s) ((bytes_eq-Decides first name).0 is) in
    let long : length (written_value value) ≡ length (written_value d) = ap (λ (v : Datum). length (written_value v)) same in
    omega (arith, fields_size first value ms, named, long)
inside_by name first value d ms false is later f = omega (arith, fields_size first value ms, later f)

inside : (name : List ℕ) (ms : Fields) (d : Datum) → get name ms ≡ Some d → 2 + length name + length (written_value d) ≤ length (written_fields ms)
inside name no_fields d e = absurd (cc (e))
inside name (field first value ms) d e = inside_by name first value d ms (bytes_eq first name) refl (inside name ms d) e

-- the document that has a key alone is no longer than one that has it
pub key_fits : (document : Fields) (key : Datum) → valid_key document ≡ Ok key → FitsRecord document → IsWritable (key_document key)
key_fits document key e fits =
    let k = found_key document key e in
    let one = inside (codes "_id") document key k.0 in
    let size = fields_size (codes "_id") key no_fields in
    let flat : value_depth key ≡ 0 = flat_key key k.1 in
    (rw flat (omega arith), omega (arith, one, size, fits.1, length-framed (written_fields (key_document key)), length-framed (written_fields document)))
