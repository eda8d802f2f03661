-- One more row among joined rows: it is taken into the row of its key, or is a row of its own.
use Rattle.std.proofs.Common.{◌≡◌, List, [], ◌∷◌, ◌++◌, map, refl, sym, ap, ◌∙◌, subst, arith}
use Rattle.std.specs.Prelude.{Bool, true, false, cond, ◌||◌, Contains}
use Rattle.std.specs.List.{AllByRecursion, list_any}
use Rattle.std.proofs.lemmas.List.{append-nil, map-append}
use Rattle.std.proofs.lemmas.List.Elements.{Contains-append_left, Contains-append_right, filter-append}
use Rattle.bson_model.specs.Tree.{Datum}
use Rattle.value_model.specs.Order.{same_value}
use Rattle.value_model.proofs.Spans.{same_value_equivalence}
use Rattle.pipeline_model.specs.GroupSpecs.{GroupSpec}
use Rattle.pipeline_model.specs.Groups.{Cell, PartialRow, AreCells, has_key, rows_with, IsMade, AreApart, IsJoined}
use Rattle.pipeline_model.proofs.Absorbed.{absorb_row, empty_row, empty_row_is, row_absorbed}
use Rattle.pipeline_model.proofs.EachElement.{every_append, every_left, every_right, every_implies}
use Rattle.pipeline_model.proofs.JoinedRows.{none_had}
use Rattle.bson_model.proofs.Booleans.{neither}

abbrev columns : List PartialRow → List (List Cell)
columns rows = map (λ r. r.cells) rows

abbrev Others : Datum → List PartialRow → Type 0
Others key rows = AllByRecursion (λ row. same_value row.key key ≡ false) rows

turned : (a b : Datum) → same_value a b ≡ false → same_value b a ≡ false
turned a b e = same_value_equivalence.symm b a ∙ e

-- rows that are apart: those before and after one have other keys
others_before : (front back : List PartialRow) (m : PartialRow) → AreApart (front ++ m ∷ back) → Others m.key front
others_before [] back m h = tt
others_before (row ∷ front) back m h =
    ((every_right (λ other. has_key row.key other ≡ false) front (m ∷ back) h.0).0, others_before front back m h.1)

others_behind : (front back : List PartialRow) (m : PartialRow) → AreApart (front ++ m ∷ back) → AllByRecursion (λ row. has_key m.key row ≡ false) back
others_behind [] back m h = h.0
others_behind (row ∷ front) back m h = others_behind front back m h.1

apart_behind : (front back : List PartialRow) → AreApart (front ++ back) → AreApart back
apart_behind [] back h = h
apart_behind (row ∷ front) back h = apart_behind front back h.1

-- a row in place of another of its key, or between others of other keys
apart_with : (front back : List PartialRow) (m : PartialRow) → AreApart front → Others m.key front →
    AllByRecursion (λ row. AllByRecursion (λ other. has_key row.key other ≡ false) back) front →
    AllByRecursion (λ row. has_key m.key row ≡ false) back → AreApart back → AreApart (front ++ m ∷ back)
apart_with [] back m h o a b k = (b, k)
apart_with (row ∷ front) back m h o a b k =
    (every_append (λ other. has_key row.key other ≡ false) front (m ∷ back) h.0 (o.0, a.0), apart_with front back m h.1 o.1 a.1 b k)

apart_front : (front back : List PartialRow) → AreApart (front ++ back) → AreApart front
apart_front [] back h = tt
apart_front (row ∷ front) back h = (every_left (λ other. has_key row.key other ≡ false) front back h.0, apart_front front back h.1)

apart_across : (front back : List PartialRow) → AreApart (front ++ back) →
    AllByRecursion (λ row. AllByRecursion (λ other. has_key row.key other ≡ false) back) front
apart_across [] back h = tt
apart_across (row ∷ front) back h = (every_right (λ other. has_key row.key other ≡ false) front back h.0, apart_across front back h.1)

or_true : (b c : Bool) → c ≡ true → (b || c) ≡ true
or_true true c e = refl
or_true false c e = e

rest_not : (b c : Bool) → (b || c) ≡ false → c ≡ false
rest_not true c e = absurd (cc e)
rest_not false c e = e

first_or_more : (b : Bool) (k : Datum) (front back : List PartialRow) (m : PartialRow) → (b || list_any (has_key k) (front ++ back)) ≡ true →
    (list_any (has_key k) (front ++ back) ≡ true → list_any (has_key k) (front ++ m ∷ back) ≡ true) → (b || list_any (has_key k) (front ++ m ∷ back)) ≡ true
first_or_more true k front back m e more = refl
first_or_more false k front back m e more = more e

any_there : (k : Datum) (front back : List PartialRow) (m : PartialRow) → has_key k m ≡ true → list_any (has_key k) (front ++ m ∷ back) ≡ true
any_there k [] back m e = ap (λ b. b || list_any (has_key k) back) e
any_there k (row ∷ front) back m e = or_true (has_key k row) (list_any (has_key k) (front ++ m ∷ back)) (any_there k front back m e)

any_more : (k : Datum) (front back : List PartialRow) (m : PartialRow) → list_any (has_key k) (front ++ back) ≡ true →
    list_any (has_key k) (front ++ m ∷ back) ≡ true
any_more k [] back m e = or_true (has_key k m) (list_any (has_key k) back) e
any_more k (row ∷ front) back m e = first_or_more (has_key k row) k front back m e (any_more k front back m)

any_same : (k : Datum) (front back : List PartialRow) (m : PartialRow) (cells : List Cell) →
    list_any (has_key k) (front ++ m ∷ back) ≡ list_any (has_key k) (front ++ record { key = m.key; cells = cells } ∷ back)
any_same k [] back m cells = refl
any_same k (row ∷ front) back m cells = ap (λ b. has_key k row || b) (any_same k front back m cells)

none_in : (k : Datum) (rows : List PartialRow) → list_any (has_key k) rows ≡ false → AllByRecursion (λ row. has_key k row ≡ false) rows
none_in k [] e = tt
none_in k (row ∷ rows) e = (neither (has_key k row) (list_any (has_key k) rows) e, none_in k rows (rest_not (has_key k row) (list_any (has_key k) rows) e))

module _ (spec : GroupSpec) (sources : List PartialRow) (r : PartialRow) where
  with_key : (k : Datum) (b : Bool) → has_key k r ≡ b → rows_with k (sources ++ r ∷ []) ≡ rows_with k sources ++ cond b (r ∷ []) []
  with_key k b e = filter-append (has_key k) sources (r ∷ []) ∙ ap (λ c. rows_with k sources ++ cond c (r ∷ []) []) e

  there : (k : Datum) → Contains (map (λ s. s.key) sources) k → Contains (map (λ s. s.key) (sources ++ r ∷ [])) k
  there k h = subst (λ l. Contains l k) (sym (map-append (λ s. s.key) sources (r ∷ []))) (Contains-append_left (map (λ s. s.key) sources) (r.key ∷ []) k h)

  -- a row of another key stays as it is
  other_made : (w : PartialRow) → same_value w.key r.key ≡ false → IsMade spec sources w → IsMade spec (sources ++ r ∷ []) w
  other_made w e made = record {
    key = there w.key made.key;
    cells = subst (λ l. AreCells spec.fields (columns l) w.cells) (sym (with_key w.key false e ∙ append-nil (rows_with w.key sources))) made.cells;
  }

  others_made : (rows : List PartialRow) → Others r.key rows → AllByRecursion (IsMade spec sources) rows → AllByRecursion (IsMade spec (sources ++ r ∷ [])) rows
  others_made [] o h = tt
  others_made (w ∷ rows) o h = (other_made w o.0 h.0, others_made rows o.1 h.1)

  -- the row of its key takes it in
  taken_in : (m : PartialRow) → same_value m.key r.key ≡ true → IsMade spec sources m →
      IsMade spec (sources ++ r ∷ []) (record { key = m.key; cells = absorb_row spec.fields m.cells r.cells })
  taken_in m e made = record {
    key = there m.key made.key;
    cells = subst (λ l. AreCells spec.fields l (absorb_row spec.fields m.cells r.cells))
        (sym (ap columns (with_key m.key true e) ∙ map-append (λ s. s.cells) (rows_with m.key sources) (r ∷ [])))
        (row_absorbed spec.fields (columns (rows_with m.key sources)) m.cells r.cells made.cells);
  }

  by_itself : same_value r.key r.key ≡ true → rows_with r.key sources ≡ [] →
      IsMade spec (sources ++ r ∷ []) (record { key = r.key; cells = absorb_row spec.fields (empty_row spec.fields) r.cells })
  by_itself e none = record {
    key = subst (λ l. Contains l r.key) (sym (map-append (λ s. s.key) sources (r ∷ [])))
        (Contains-append_right (map (λ s. s.key) sources) (r.key ∷ []) r.key (0, omega arith, refl));
    cells = subst (λ l. AreCells spec.fields (columns l) (absorb_row spec.fields (empty_row spec.fields) r.cells))
        (sym (with_key r.key true e ∙ ap (λ l. l ++ r ∷ []) none)) (row_absorbed spec.fields [] (empty_row spec.fields) r.cells (empty_row_is spec.fields));
  }

  -- the key of a row that is not one with m's is not one with that of a row that is
  not_one : (m : PartialRow) → same_value m.key r.key ≡ true → (rows : List PartialRow) → Others m.key rows → Others r.key rows
  not_one m e rows h =
      every_implies (λ row. same_value row.key m.key ≡ false) (λ row. same_value row.key r.key ≡ false)
      (λ row f. same_value_equivalence.symm row.key r.key ∙ sym (same_value_equivalence.congr m.key r.key row.key e)
      ∙ same_value_equivalence.symm m.key row.key ∙ f) rows h

  pub known_row : (front back : List PartialRow) (m : PartialRow) → same_value m.key r.key ≡ true → IsJoined spec sources (front ++ m ∷ back) →
      IsJoined spec (sources ++ r ∷ []) (front ++ record { key = m.key; cells = absorb_row spec.fields m.cells r.cells } ∷ back)
  known_row front back m e h =
      let taken : PartialRow = record { key = m.key; cells = absorb_row spec.fields m.cells r.cells } in
      let before = others_before front back m h.apart in
      let behind = others_behind front back m h.apart in
      let made = every_right (IsMade spec sources) front (m ∷ back) h.each in
      let across = every_implies (λ row. AllByRecursion (λ other. has_key row.key other ≡ false) (m ∷ back))
      (λ row. AllByRecursion (λ other. has_key row.key other ≡ false) back)
      (λ row k. k.1) front (apart_across front (m ∷ back) h.apart) in
      record {
        each = every_append (IsMade spec (sources ++ r ∷ [])) front (taken ∷ back)
            (others_made front (not_one m e front before) (every_left (IsMade spec sources) front (m ∷ back) h.each)) (
              taken_in m e made.0,
              others_made back
                  (not_one m e back (every_implies (λ row. has_key m.key row ≡ false) (λ row. same_value row.key m.key ≡ false)
                  (λ row f. turned m.key row.key f) back behind)) made.1,
            );
        apart = apart_with front back taken (apart_front front (m ∷ back) h.apart) before across behind (apart_behind front (m ∷ back) h.apart).1;
        every = every_append (λ row. list_any (has_key row.key) (front ++ taken ∷ back) ≡ true) sources (r ∷ [])
            (every_implies (λ row. list_any (has_key row.key) (front ++ m ∷ back) ≡ true) (λ row. list_any (has_key row.key) (front ++ taken ∷ back) ≡ true)
            (λ row f. sym (any_same row.key front back m taken.cells) ∙ f) sources h.every)
            (any_there r.key front back taken (same_value_equivalence.symm r.key m.key ∙ e), tt);
      }

  pub new_row : (front back : List PartialRow) → list_any (has_key r.key) (front ++ back) ≡ false → IsJoined spec sources (front ++ back) →
      IsJoined spec (sources ++ r ∷ []) (front ++ record { key = r.key; cells = absorb_row spec.fields (empty_row spec.fields) r.cells } ∷ back)
  new_row front back none h =
      let alone : PartialRow = record { key = r.key; cells = absorb_row spec.fields (empty_row spec.fields) r.cells } in
      let itself : same_value r.key r.key ≡ true = same_value_equivalence.refl r.key in
      let away = none_in r.key (front ++ back) none in
      let flip = λ (row : PartialRow) (f : has_key r.key row ≡ false). turned r.key row.key f in
      let before : Others r.key front = every_implies (λ row. has_key r.key row ≡ false) (λ row. same_value row.key r.key ≡ false) flip front
      (every_left (λ row. has_key r.key row ≡ false) front back away) in
      let behind = every_right (λ row. has_key r.key row ≡ false) front back away in
      record {
        each = every_append (IsMade spec (sources ++ r ∷ [])) front (alone ∷ back)
            (others_made front before (every_left (IsMade spec sources) front back h.each)) (
              by_itself itself (none_had r.key (front ++ back) sources none h.every),
              others_made back (every_implies (λ row. has_key r.key row ≡ false) (λ row. same_value row.key r.key ≡ false) flip back behind)
                  (every_right (IsMade spec sources) front back h.each),
            );
        apart = apart_with front back alone (apart_front front back h.apart) before (apart_across front back h.apart) behind (apart_behind front back h.apart);
        every = every_append (λ row. list_any (has_key row.key) (front ++ alone ∷ back) ≡ true) sources (r ∷ [])
            (every_implies (λ row. list_any (has_key row.key) (front ++ back) ≡ true) (λ row. list_any (has_key row.key) (front ++ alone ∷ back) ≡ true)
            (λ row f. any_more row.key front back alone f) sources h.every)
            (any_there r.key front back alone itself, tt);
      }
