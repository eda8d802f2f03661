-- A code that determines a document: a list of marks, parts before wholes, which a stack reads back.
use Rattle.std.specs.Prelude.{◌≡◌, ℕ, ℤ, pos, negsuc, List, [], ◌∷◌, ◌++◌, true, false, ◌==◌, if◌then◌else◌, refl}
use Rattle.std.specs.Coded.{Coded, code_by, coded×, coded_list, coded_ℕ, coded_ℤ}
use Rattle.std.proofs.Common.{ap, ◌∙◌}
use Rattle.bson_model.specs.Tree.{Datum, string_value, document_value, array_value, binary_value, object_id_value, boolean_value, date_value, null_value, int32_value, timestamp_value, int64_value, min_key_value, max_key_value, Items, no_items, item, Fields, no_fields, field}

-- kind, bytes, number
abbrev pub Mark : Type 0
Mark = ℕ × (List ℕ × ℤ)

-- an item of the stack
pub data Part : Type 0 where
  value_part : Datum → Part
  items_part : Items → Part
  fields_part : Fields → Part

abbrev mutual
  pub datum_marks : Datum → List Mark
  datum_marks (string_value s) = (2, (s, pos 0)) ∷ []
  datum_marks (document_value ms) = fields_marks ms ++ (3, ([], pos 0)) ∷ []
  datum_marks (array_value ds) = items_marks ds ++ (4, ([], pos 0)) ∷ []
  datum_marks (binary_value subtype content) = (5, (content, pos subtype)) ∷ []
  datum_marks (object_id_value content) = (7, (content, pos 0)) ∷ []
  datum_marks (boolean_value false) = (8, ([], pos 0)) ∷ []
  datum_marks (boolean_value true) = (8, ([], pos 1)) ∷ []
  datum_marks (date_value z) = (9, ([], z)) ∷ []
  datum_marks null_value = (10, ([], pos 0)) ∷ []
  datum_marks (int32_value z) = (16, ([], z)) ∷ []
  datum_marks (timestamp_value n) = (17, ([], pos n)) ∷ []
  datum_marks (int64_value z) = (18, ([], z)) ∷ []
  datum_marks min_key_value = (19, ([], pos 0)) ∷ []
  datum_marks max_key_value = (20, ([], pos 0)) ∷ []

  pub items_marks : Items → List Mark
  items_marks no_items = (21, ([], pos 0)) ∷ []
  items_marks (item d ds) = datum_marks d ++ (items_marks ds ++ (22, ([], pos 0)) ∷ [])

  pub fields_marks : Fields → List Mark
  fields_marks no_fields = (23, ([], pos 0)) ∷ []
  fields_marks (field name d ms) = datum_marks d ++ (fields_marks ms ++ (24, (name, pos 0)) ∷ [])

abbrev pub natural : ℤ → ℕ
natural (pos n) = n
natural (negsuc n) = n

-- a value without parts
abbrev pub scalar_of : ℕ → List ℕ → ℤ → Datum
scalar_of type_byte bytes z =
    if type_byte == 2 then string_value bytes
    else if type_byte == 5 then binary_value (natural z) bytes
    else if type_byte == 7 then object_id_value bytes
    else if type_byte == 8 then boolean_value (natural z == 1)
    else if type_byte == 9 then date_value z
    else if type_byte == 10 then null_value
    else if type_byte == 16 then int32_value z
    else if type_byte == 17 then timestamp_value (natural z)
    else if type_byte == 18 then int64_value z
    else if type_byte == 19 then min_key_value
    else max_key_value

abbrev pub to_document : List Part → List Part
to_document (fields_part ms ∷ ps) = value_part (document_value ms) ∷ ps
to_document ps = ps

abbrev pub to_array : List Part → List Part
to_array (items_part ds ∷ ps) = value_part (array_value ds) ∷ ps
to_array ps = ps

abbrev pub to_item : List Part → List Part
to_item (items_part ds ∷ value_part d ∷ ps) = items_part (item d ds) ∷ ps
to_item ps = ps

abbrev pub to_field : List ℕ → List Part → List Part
to_field name (fields_part ms ∷ value_part d ∷ ps) = fields_part (field name d ms) ∷ ps
to_field name ps = ps

abbrev pub read_mark : Mark → List Part → List Part
read_mark mark ps =
    if mark.0 == 3 then to_document ps
    else if mark.0 == 4 then to_array ps
    else if mark.0 == 21 then items_part no_items ∷ ps
    else if mark.0 == 22 then to_item ps
    else if mark.0 == 23 then fields_part no_fields ∷ ps
    else if mark.0 == 24 then to_field mark.1.0 ps
    else value_part (scalar_of mark.0 mark.1.0 mark.1.1) ∷ ps

abbrev pub read_marks : List Mark → List Part → List Part
read_marks [] ps = ps
read_marks (mark ∷ marks) ps = read_marks marks (read_mark mark ps)

abbrev pub first_items : List Part → Items
first_items (items_part ds ∷ ps) = ds
first_items ps = no_items

abbrev pub first_fields : List Part → Fields
first_fields (fields_part ms ∷ ps) = ms
first_fields ps = no_fields

abbrev pub read_marks-append : (a b : List Mark) (ps : List Part) → read_marks (a ++ b) ps ≡ read_marks b (read_marks a ps)
read_marks-append [] b ps = refl
read_marks-append (mark ∷ a) b ps = read_marks-append a b (read_mark mark ps)

abbrev mutual
  pub datum_back : (d : Datum) (ps : List Part) → read_marks (datum_marks d) ps ≡ value_part d ∷ ps
  datum_back (string_value s) ps = refl
  datum_back (document_value ms) ps =
      read_marks-append (fields_marks ms) ((3, ([], pos 0)) ∷ []) ps ∙ ap (λ (qs : List Part). to_document qs) (fields_back ms ps)
  datum_back (array_value ds) ps =
      read_marks-append (items_marks ds) ((4, ([], pos 0)) ∷ []) ps ∙ ap (λ (qs : List Part). to_array qs) (items_back ds ps)
  datum_back (binary_value subtype content) ps = refl
  datum_back (object_id_value content) ps = refl
  datum_back (boolean_value false) ps = refl
  datum_back (boolean_value true) ps = refl
  datum_back (date_value z) ps = refl
  datum_back null_value ps = refl
  datum_back (int32_value z) ps = refl
  datum_back (timestamp_value n) ps = refl
  datum_back (int64_value z) ps = refl
  datum_back min_key_value ps = refl
  datum_back max_key_value ps = refl

  pub items_back : (ds : Items) (ps : List Part) → read_marks (items_marks ds) ps ≡ items_part ds ∷ ps
  items_back no_items ps = refl
  items_back (item d ds) ps =
      read_marks-append (datum_marks d) (items_marks ds ++ (22, ([], pos 0)) ∷ []) ps
      ∙ ap (λ (qs : List Part). read_marks (items_marks ds ++ (22, ([], pos 0)) ∷ []) qs) (datum_back d ps)
      ∙ read_marks-append (items_marks ds) ((22, ([], pos 0)) ∷ []) (value_part d ∷ ps)
      ∙ ap (λ (qs : List Part). to_item qs) (items_back ds (value_part d ∷ ps))

  pub fields_back : (ms : Fields) (ps : List Part) → read_marks (fields_marks ms) ps ≡ fields_part ms ∷ ps
  fields_back no_fields ps = refl
  fields_back (field name d ms) ps =
      read_marks-append (datum_marks d) (fields_marks ms ++ (24, (name, pos 0)) ∷ []) ps
      ∙ ap (λ (qs : List Part). read_marks (fields_marks ms ++ (24, (name, pos 0)) ∷ []) qs) (datum_back d ps)
      ∙ read_marks-append (fields_marks ms) ((24, (name, pos 0)) ∷ []) (value_part d ∷ ps)
      ∙ ap (λ (qs : List Part). to_field name qs) (fields_back ms (value_part d ∷ ps))

abbrev pub marks_code : Coded (List Mark)
marks_code = coded_list (coded× coded_ℕ (coded× (coded_list coded_ℕ) coded_ℤ))

abbrev pub fields_code : Coded Fields
fields_code =
    code_by (List Mark) marks_code fields_marks (λ marks. first_fields (read_marks marks [])) (λ ms. ap (λ (ps : List Part). first_fields ps) (fields_back ms []))

abbrev pub items_code : Coded Items
items_code =
    code_by (List Mark) marks_code items_marks (λ marks. first_items (read_marks marks [])) (λ ds. ap (λ (ps : List Part). first_items ps) (items_back ds []))
