-- Reading the fields of a specification one after the other, as a loop does.
use Rattle.std.proofs.Common.{◌≡◌, ℕ, ◌<◌, ◌≤◌, ◌+◌, List, [], ◌∷◌, ◌++◌, length, map, get_or, drop, Result, Ok, Err, refl, sym, ap, ◌∙◌, append_assoc, append-nil}
use Rattle.std.specs.Prelude.{Bool, true, false, codes, if◌then◌else◌}
use Rattle.std.specs.Str.{bytes_eq}
use Rattle.std.proofs.lemmas.List.{drop_all, map-append}
use Rattle.bson_values.specs.declared.value.Field.{Field}
use Rattle.bson_model.specs.Tree.{Datum, Fields}
use Rattle.bson_values.specs.View.{datum_of, fields_of}
use Rattle.field_paths.proofs.FieldLists.{next_field}
use Rattle.query_model.specs.Queries.{QueryFault}
use Rattle.query_model.specs.Reading.{◌>>=◌}
use Rattle.pipeline_model.specs.Operands.{Operand, read_operand}
use Rattle.pipeline_model.specs.GroupSpecs.{Accumulator, GroupField, GroupParts, read_accumulator, read_group_field, read_group_fields, with_field, with_key}
use Rattle.group_accum.specs.declared.parser.Parts.{Parts}
use Rattle.group_accum.specs.declared.spec.GroupField as spec
use Rattle.group_accum.specs.declared.spec.Operand as spec_operands
use Rattle.group_accum.specs.PartReading.{parts_of, then_field, with_parts}
use Rattle.group_accum.specs.View.{accumulator_of, group_field_of, operand_of}

-- with no part before
pub nothing_before : (read : Result GroupParts QueryFault) → with_parts (record { keys = []; fields = [] }) read ≡ read
nothing_before (Ok parts) = refl
nothing_before (Err e) = refl

pub nothing_left : (parts : GroupParts) → with_parts parts (Ok (record { keys = []; fields = [] })) ≡ Ok parts
nothing_left parts = λ i. Ok (record { keys = append-nil parts.keys i; fields = append-nil parts.fields i })

key_behind : (keys : List Operand) (fields : List GroupField) (x : Operand) (others : Result GroupParts QueryFault) →
    with_parts (record { keys = keys ++ x ∷ []; fields = fields }) others
    ≡ with_parts (record { keys = keys; fields = fields }) (others >>= λ parts. Ok (with_key x parts))
key_behind keys fields x (Ok parts) = λ i. Ok (record { keys = append_assoc keys (x ∷ []) parts.keys i; fields = fields ++ parts.fields })
key_behind keys fields x (Err e) = refl

field_behind : (keys : List Operand) (fields : List GroupField) (f : GroupField) (others : Result GroupParts QueryFault) →
    with_parts (record { keys = keys; fields = fields ++ f ∷ [] }) others
    ≡ with_parts (record { keys = keys; fields = fields }) (others >>= λ parts. Ok (with_field f parts))
field_behind keys fields f (Ok parts) = λ i. Ok (record { keys = keys ++ parts.keys; fields = append_assoc fields (f ∷ []) parts.fields i })
field_behind keys fields f (Err e) = refl

module _ (name : List ℕ) (d : Datum) where
  abbrev as_key : Result (GroupParts → GroupParts) QueryFault
  as_key = read_operand d >>= λ x. Ok (with_key x)

  abbrev as_field : Result (GroupParts → GroupParts) QueryFault
  as_field = read_accumulator d >>= λ by. Ok (with_field (record { name = name; accumulator = by }))

  pub key_read : (b : Bool) → bytes_eq name (codes "_id") ≡ b → b ≡ true → read_group_field name d ≡ as_key
  key_read true e t = ap (λ (c : Bool). if c then as_key else as_field) e
  key_read false e t = absurd cc

  pub field_read : (b : Bool) → bytes_eq name (codes "_id") ≡ b → b ≡ false → read_group_field name d ≡ as_field
  field_read true e t = absurd cc
  field_read false e t = ap (λ (c : Bool). if c then as_key else as_field) e

  pub key_pushed : (keys : List Operand) (fields : List GroupField) (x : Operand) → bytes_eq name (codes "_id") ≡ true → read_operand d ≡ Ok x →
      (others : Result GroupParts QueryFault) →
      with_parts (record { keys = keys ++ x ∷ []; fields = fields }) others ≡ with_parts (record { keys = keys; fields = fields }) (then_field (read_group_field name d) others)
  key_pushed keys fields x is read others =
      key_behind keys fields x others
      ∙ ap (λ (r : Result (GroupParts → GroupParts) QueryFault). with_parts (record { keys = keys; fields = fields }) (then_field r others))
      (sym (key_read true is refl ∙ ap (λ (r : Result Operand QueryFault). r >>= λ y. Ok (with_key y)) read))

  pub field_pushed : (keys : List Operand) (fields : List GroupField) (by : Accumulator) → bytes_eq name (codes "_id") ≡ false → read_accumulator d ≡ Ok by →
      (others : Result GroupParts QueryFault) →
      with_parts (record { keys = keys; fields = fields ++ record { name = name; accumulator = by } ∷ [] }) others
      ≡ with_parts (record { keys = keys; fields = fields }) (then_field (read_group_field name d) others)
  field_pushed keys fields by is read others =
      field_behind keys fields (record { name = name; accumulator = by }) others
      ∙ ap (λ (r : Result (GroupParts → GroupParts) QueryFault). with_parts (record { keys = keys; fields = fields }) (then_field r others))
      (sym (field_read false is refl ∙ ap (λ (r : Result Accumulator QueryFault). r >>= λ y. Ok (with_field (record { name = name; accumulator = y }))) read))

  pub key_fails : (f : QueryFault) → bytes_eq name (codes "_id") ≡ true → read_operand d ≡ Err f → read_group_field name d ≡ Err f
  key_fails f is read = key_read true is refl ∙ ap (λ (r : Result Operand QueryFault). r >>= λ y. Ok (with_key y)) read

  pub field_fails : (f : QueryFault) → bytes_eq name (codes "_id") ≡ false → read_accumulator d ≡ Err f → read_group_field name d ≡ Err f
  field_fails f is read =
      field_read false is refl ∙ ap (λ (r : Result Accumulator QueryFault). r >>= λ y. Ok (with_field (record { name = name; accumulator = y }))) read

-- the next field is valid
pub goes_on : (before now : GroupParts) (ms : List Field) (i : ℕ) (m : Field) (whole : Result GroupParts QueryFault) → i < length ms → m ≡ get_or ms i m →
    ((others : Result GroupParts QueryFault) → with_parts now others ≡ with_parts before (then_field (read_group_field m.name (datum_of m.value)) others)) →
    with_parts before (read_group_fields (fields_of (drop i ms))) ≡ whole → with_parts now (read_group_fields (fields_of (drop (i + 1) ms))) ≡ whole
goes_on before now ms i m whole less is step so_far =
    step (read_group_fields (fields_of (drop (i + 1) ms)))
    ∙ ap (λ (l : List Field). with_parts before (read_group_fields (fields_of l))) (sym (next_field ms i m less is)) ∙ so_far

-- the next field has a fault
pub fails_there : (before : GroupParts) (ms : List Field) (i : ℕ) (m : Field) (whole : Result GroupParts QueryFault) (f : QueryFault) → i < length ms → m ≡ get_or ms i m →
    with_parts before (read_group_fields (fields_of (drop i ms))) ≡ whole → read_group_field m.name (datum_of m.value) ≡ Err f → whole ≡ Err f
fails_there before ms i m whole f less is so_far e =
    sym so_far ∙ ap (λ (l : List Field). with_parts before (read_group_fields (fields_of l))) (next_field ms i m less is)
    ∙ ap (λ (r : Result (GroupParts → GroupParts) QueryFault). with_parts before (then_field r (read_group_fields (fields_of (drop (i + 1) ms))))) e

pub begins : (parts : Parts) (ms : List Field) (document : Fields) → parts.keys.items ≡ [] → parts.fields.items ≡ [] → fields_of ms ≡ document →
    with_parts (parts_of parts) (read_group_fields (fields_of ms)) ≡ read_group_fields document
begins parts ms document no_keys no_others is =
    (λ i. with_parts (record { keys = map operand_of (no_keys i); fields = map group_field_of (no_others i) }) (read_group_fields (fields_of ms)))
    ∙ nothing_before (read_group_fields (fields_of ms)) ∙ ap read_group_fields is

pub ends : (parts : GroupParts) (ms : List Field) (i : ℕ) (whole : Result GroupParts QueryFault) → length ms ≤ i →
    with_parts parts (read_group_fields (fields_of (drop i ms))) ≡ whole → whole ≡ Ok parts
ends parts ms i whole all so_far =
    sym so_far ∙ ap (λ (l : List Field). with_parts parts (read_group_fields (fields_of l))) (drop_all i ms all) ∙ nothing_left parts

-- what the program has read from one field
module _ (name : List ℕ) (d : Datum) (keys : List spec_operands.Operand) (fields : List spec.GroupField) where
  pub key_put : (now : List spec_operands.Operand) (x : spec_operands.Operand) → now ≡ keys ++ x ∷ [] → bytes_eq name (codes "_id") ≡ true → read_operand d ≡ Ok (operand_of x) →
      (others : Result GroupParts QueryFault) →
      with_parts (record { keys = map operand_of now; fields = map group_field_of fields }) others
      ≡ with_parts (record { keys = map operand_of keys; fields = map group_field_of fields }) (then_field (read_group_field name d) others)
  key_put now x put is read others =
      ap (λ (l : List Operand). with_parts (record { keys = l; fields = map group_field_of fields }) others)
      (ap (λ (l : List spec_operands.Operand). map operand_of l) put ∙ map-append operand_of keys (x ∷ []))
      ∙ key_pushed name d (map operand_of keys) (map group_field_of fields) (operand_of x) is read others

  pub field_put : (now : List spec.GroupField) (f : spec.GroupField) → now ≡ fields ++ f ∷ [] → bytes_eq name (codes "_id") ≡ false → f.name ≡ name →
      read_accumulator d ≡ Ok (accumulator_of f.accumulator) → (others : Result GroupParts QueryFault) →
      with_parts (record { keys = map operand_of keys; fields = map group_field_of now }) others
      ≡ with_parts (record { keys = map operand_of keys; fields = map group_field_of fields }) (then_field (read_group_field name d) others)
  field_put now f put is same read others =
      ap (λ (l : List GroupField). with_parts (record { keys = map operand_of keys; fields = l }) others)
      (ap (λ (l : List spec.GroupField). map group_field_of l) put ∙ map-append group_field_of fields (f ∷ [])
      ∙ ap (λ (n : List ℕ). map group_field_of fields ++ record { name = n; accumulator = accumulator_of f.accumulator } ∷ []) same)
      ∙ field_pushed name d (map operand_of keys) (map group_field_of fields) (accumulator_of f.accumulator) is read others
