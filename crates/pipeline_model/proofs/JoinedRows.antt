-- Rows that are joined from joined rows are joined from all of them.
use Rattle.std.proofs.Common.{◌≡◌, zero, suc, ◌⊎◌, ⊎_elim, List, [], ◌∷◌, ◌++◌, map, refl, sym, ap, ◌∙◌, subst, arith}
use Rattle.std.specs.Prelude.{Bool, true, false, cond, ◌||◌, Contains, flat_map}
use Rattle.std.specs.List.{AllByRecursion, AllZip, list_any}
use Rattle.std.proofs.lemmas.List.{append_assoc, map-append}
use Rattle.std.proofs.lemmas.List.Elements.{Contains-append_left, Contains-append_right, Contains-append_cases, filter-append, filter_agree}
use Rattle.bson_model.specs.Tree.{Datum, Fields}
use Rattle.value_model.specs.Order.{same_value}
use Rattle.value_model.proofs.Spans.{same_value_equivalence}
use Rattle.pipeline_model.specs.GroupSpecs.{GroupSpec}
use Rattle.pipeline_model.specs.Groups.{Cell, PartialRow, own_row, AreCells, has_key, rows_with, IsMade, AreApart, IsJoined, IsGrouped}
use Rattle.pipeline_model.proofs.EachElement.{every_append, every_left, every_right, every_implies}
use Rattle.pipeline_model.proofs.JoinedCells.{cells_replaced}

abbrev keys : List PartialRow → List Datum
keys rows = map (λ r. r.key) rows

abbrev columns : List PartialRow → List (List Cell)
columns rows = map (λ r. r.cells) rows

-- keys that are one are had by the same rows
one_key : (k l : Datum) → same_value k l ≡ true → (row : PartialRow) → has_key k row ≡ has_key l row
one_key k l e row = same_value_equivalence.congr k l row.key e

any_of_one_key : (k l : Datum) → same_value k l ≡ true → (rows : List PartialRow) → list_any (has_key k) rows ≡ list_any (has_key l) rows
any_of_one_key k l e [] = refl
any_of_one_key k l e (row ∷ rows) = λ i. one_key k l e row i || any_of_one_key k l e rows i

none_of_one_key : (k l : Datum) → same_value k l ≡ true → (rows : List PartialRow) → AllByRecursion (λ other. has_key l other ≡ false) rows →
    rows_with k rows ≡ []
none_of_one_key k l e [] h = refl
none_of_one_key k l e (row ∷ rows) h = ap (λ b. cond b (row ∷ rows_with k rows) (rows_with k rows)) (one_key k l e row ∙ h.0) ∙ none_of_one_key k l e rows h.1

then_either : (b : Bool) (row : PartialRow) (rows : List PartialRow) → b ≡ false → rows ≡ [] → cond b (row ∷ rows) rows ≡ []
then_either true row rows e f = absurd (cc e)
then_either false row rows e f = f

not_had : (b : Bool) (k : Datum) (row : PartialRow) (joined : List PartialRow) → has_key k row ≡ b → list_any (has_key k) joined ≡ false →
    list_any (has_key row.key) joined ≡ true → b ≡ false
not_had true k row joined e none some = absurd (cc (none, some, any_of_one_key k row.key e joined))
not_had false k row joined e none some = refl

-- no row of what was joined has the key, where none of the joined rows has it
pub none_had : (k : Datum) (joined rows : List PartialRow) → list_any (has_key k) joined ≡ false →
    AllByRecursion (λ row. list_any (has_key row.key) joined ≡ true) rows → rows_with k rows ≡ []
none_had k joined [] e h = refl
none_had k joined (row ∷ rows) e h = then_either (has_key k row) row (rows_with k rows) (not_had (has_key k row) k row joined refl e h.0)
    (none_had k joined rows e h.1)

module _ (spec : GroupSpec) (rows : List PartialRow) (k : Datum) where
  pub data Found : List PartialRow → Type 0 where
    not_found : (joined : List PartialRow) → list_any (has_key k) joined ≡ false → rows_with k joined ≡ [] → Found joined
    one_found : (joined : List PartialRow) (row : PartialRow) → same_value k row.key ≡ true → rows_with k joined ≡ row ∷ [] → IsMade spec rows row →
        Found joined

  passed_over : (row : PartialRow) (joined : List PartialRow) → has_key k row ≡ false → Found joined → Found (row ∷ joined)
  passed_over row joined e (not_found others none empty) =
      not_found (row ∷ others) (ap (λ b. b || list_any (has_key k) others) e ∙ none)
      (ap (λ b. cond b (row ∷ rows_with k others) (rows_with k others)) e ∙ empty)
  passed_over row joined e (one_found others other same one made) =
      one_found (row ∷ others) other same (ap (λ b. cond b (row ∷ rows_with k others) (rows_with k others)) e ∙ one) made

  found_either : (b : Bool) (row : PartialRow) (joined : List PartialRow) → has_key k row ≡ b → IsMade spec rows row →
      AllByRecursion (λ other. has_key row.key other ≡ false) joined → Found joined → Found (row ∷ joined)
  found_either true row joined e made apart others =
      one_found (row ∷ joined) row e
      (ap (λ b. cond b (row ∷ rows_with k joined) (rows_with k joined)) e ∙ ap (λ l. row ∷ l) (none_of_one_key k row.key e joined apart)) made
  found_either false row joined e made apart others = passed_over row joined e others

  found : (joined : List PartialRow) → AllByRecursion (IsMade spec rows) joined → AreApart joined → Found joined
  found [] each apart = not_found [] refl refl
  found (row ∷ joined) each apart = found_either (has_key k row) row joined refl each.0 apart.0 (found joined each.1 apart.1)

  -- the cells of a row that is made of joined rows are made of all the rows
  replaced : (joined : List PartialRow) (a b : List (List Cell)) (cells : List Cell) → Found joined →
      AllByRecursion (λ row. list_any (has_key row.key) joined ≡ true) rows →
      AreCells spec.fields (a ++ (columns (rows_with k joined) ++ b)) cells → AreCells spec.fields (a ++ (columns (rows_with k rows) ++ b)) cells
  replaced joined a b cells (not_found others none empty) every h =
      subst (λ l. AreCells spec.fields (a ++ (columns l ++ b)) cells) (empty ∙ sym (none_had k others rows none every)) h
  replaced joined a b cells (one_found others row same one made) every h =
      cells_replaced spec.fields a b (columns (rows_with k rows)) row.cells cells
      (subst (λ l. AreCells spec.fields (a ++ (columns l ++ b)) cells) one h)
      (subst (λ l. AreCells spec.fields (columns l) row.cells) (sym (filter_agree (has_key k) (has_key row.key) (one_key k row.key same) rows)) made.cells)

module _ (spec : GroupSpec) where
  abbrev AreJoined : List (List PartialRow) → List (List PartialRow) → Type 0
  AreJoined sources joined = AllZip (IsJoined spec) sources joined

  columns_append : (k : Datum) (xs ys : List PartialRow) → columns (rows_with k (xs ++ ys)) ≡ columns (rows_with k xs) ++ columns (rows_with k ys)
  columns_append k xs ys = ap columns (filter-append (has_key k) xs ys) ∙ map-append (λ r. r.cells) (rows_with k xs) (rows_with k ys)

  all_replaced : (k : Datum) (sources joined : List (List PartialRow)) (a : List (List Cell)) (cells : List Cell) → AreJoined sources joined →
      AreCells spec.fields (a ++ columns (rows_with k (flat_map (λ p. p) joined))) cells →
      AreCells spec.fields (a ++ columns (rows_with k (flat_map (λ p. p) sources))) cells
  all_replaced k [] [] a cells h made = made
  all_replaced k [] (j ∷ joined) a cells h made = absurd h
  all_replaced k (s ∷ sources) [] a cells h made = absurd h
  all_replaced k (s ∷ sources) (j ∷ joined) a cells h made =
      let rest = columns (rows_with k (flat_map (λ p. p) joined)) in
      let later = columns (rows_with k (flat_map (λ p. p) sources)) in
      let first : AreCells spec.fields (a ++ (columns (rows_with k s) ++ rest)) cells =
      replaced spec s k j a rest cells (found spec s k j h.0.each h.0.apart) h.0.every
      (subst (λ l. AreCells spec.fields (a ++ l) cells) (columns_append k j (flat_map (λ p. p) joined)) made) in
      subst (λ l. AreCells spec.fields l cells) (append_assoc a (columns (rows_with k s)) later
      ∙ ap (λ l. a ++ l) (sym (columns_append k s (flat_map (λ p. p) sources))))
      (all_replaced k sources joined (a ++ columns (rows_with k s)) cells h.1
      (subst (λ l. AreCells spec.fields l cells) (sym (append_assoc a (columns (rows_with k s)) rest)) first))

  key_from : (source joined : List PartialRow) (k : Datum) → AllByRecursion (IsMade spec source) joined → Contains (keys joined) k → Contains (keys source) k
  key_from source [] k each there = absurd (omega (arith, there.1))
  key_from source (row ∷ joined) k each (zero, less, e) = subst (Contains (keys source)) e each.0.key
  key_from source (row ∷ joined) k each (suc i, less, e) = key_from source joined k each.1 (i, omega arith, e)

  keys_from : (sources joined : List (List PartialRow)) (k : Datum) → AreJoined sources joined →
      Contains (keys (flat_map (λ p. p) joined)) k → Contains (keys (flat_map (λ p. p) sources)) k
  keys_from [] [] k h there = there
  keys_from [] (j ∷ joined) k h there = absurd h
  keys_from (s ∷ sources) [] k h there = absurd h
  keys_from (s ∷ sources) (j ∷ joined) k h there =
      subst (λ l. Contains l k) (sym (map-append (λ r. r.key) s (flat_map (λ p. p) sources)))
      (⊎_elim (λ first. Contains-append_left (keys s) (keys (flat_map (λ p. p) sources)) k (key_from s j k h.0.each first))
      (λ later. Contains-append_right (keys s) (keys (flat_map (λ p. p) sources)) k (keys_from sources joined k h.1 later))
      (Contains-append_cases (keys j) (keys (flat_map (λ p. p) joined)) k
      (subst (λ l. Contains l k) (map-append (λ r. r.key) j (flat_map (λ p. p) joined)) there)))

  had_either : (b : Bool) (k : Datum) (row : PartialRow) (joined out : List PartialRow) → has_key k row ≡ b → (b || list_any (has_key k) joined) ≡ true →
      list_any (has_key row.key) out ≡ true → (list_any (has_key k) joined ≡ true → list_any (has_key k) out ≡ true) → list_any (has_key k) out ≡ true
  had_either true k row joined out e some there later = any_of_one_key k row.key e out ∙ there
  had_either false k row joined out e some there later = later some

  had : (k : Datum) (joined out : List PartialRow) → list_any (has_key k) joined ≡ true → AllByRecursion (λ row. list_any (has_key row.key) out ≡ true) joined →
      list_any (has_key k) out ≡ true
  had k [] out some h = absurd (cc some)
  had k (row ∷ joined) out some h = had_either (has_key k row) k row joined out refl some h.0 (λ later. had k joined out later h.1)

  every_left_part : (out s j : List PartialRow) → AllByRecursion (λ row. list_any (has_key row.key) j ≡ true) s →
      AllByRecursion (λ row. list_any (has_key row.key) out ≡ true) j → AllByRecursion (λ row. list_any (has_key row.key) out ≡ true) s
  every_left_part out s j h k = every_implies (λ row. list_any (has_key row.key) j ≡ true) (λ row. list_any (has_key row.key) out ≡ true)
      (λ row some. had row.key j out some k) s h

  every_source : (out : List PartialRow) (sources joined : List (List PartialRow)) → AreJoined sources joined →
      AllByRecursion (λ row. list_any (has_key row.key) out ≡ true) (flat_map (λ p. p) joined) →
      AllByRecursion (λ row. list_any (has_key row.key) out ≡ true) (flat_map (λ p. p) sources)
  every_source out [] [] h k = tt
  every_source out [] (j ∷ joined) h k = absurd h
  every_source out (s ∷ sources) [] h k = absurd h
  every_source out (s ∷ sources) (j ∷ joined) h k =
      let P = λ (row : PartialRow). list_any (has_key row.key) out ≡ true in
      every_append P s (flat_map (λ p. p) sources) (every_left_part out s j h.0.every (every_left P j (flat_map (λ p. p) joined) k))
      (every_source out sources joined h.1 (every_right P j (flat_map (λ p. p) joined) k))

  pub joined_again : (sources joined : List (List PartialRow)) (out : List PartialRow) → AreJoined sources joined →
      IsJoined spec (flat_map (λ p. p) joined) out → IsJoined spec (flat_map (λ p. p) sources) out
  joined_again sources joined out h k = record {
    each = every_implies (IsMade spec (flat_map (λ p. p) joined)) (IsMade spec (flat_map (λ p. p) sources))
        (λ row made. record { key = keys_from sources joined row.key h made.key; cells = all_replaced row.key sources joined [] row.cells h made.cells })
        out k.each;
    apart = k.apart;
    every = every_source out sources joined h k.every;
  }

  own_rows : (parts : List (List Fields)) → map (own_row spec) (flat_map (λ p. p) parts) ≡ flat_map (λ p. p) (map (map (own_row spec)) parts)
  own_rows [] = refl
  own_rows (p ∷ parts) = map-append (own_row spec) p (flat_map (λ q. q) parts) ∙ ap (λ l. map (own_row spec) p ++ l) (own_rows parts)

  each_joined : (parts : List (List Fields)) (grouped : List (List PartialRow)) → AllZip (IsGrouped spec) parts grouped →
      AreJoined (map (map (own_row spec)) parts) grouped
  each_joined [] [] h = tt
  each_joined [] (g ∷ grouped) h = absurd h
  each_joined (p ∷ parts) [] h = absurd h
  each_joined (p ∷ parts) (g ∷ grouped) h = (h.0, each_joined parts grouped h.1)

  -- the joined rows of parts are the rows of their documents
  pub grouped_parts : (parts : List (List Fields)) (grouped : List (List PartialRow)) (out : List PartialRow) → AllZip (IsGrouped spec) parts grouped →
      IsJoined spec (flat_map (λ p. p) grouped) out → IsGrouped spec (flat_map (λ p. p) parts) out
  grouped_parts parts grouped out h k =
      subst (λ rows. IsJoined spec rows out) (sym (own_rows parts)) (joined_again (map (map (own_row spec)) parts) grouped out (each_joined parts grouped h) k)
