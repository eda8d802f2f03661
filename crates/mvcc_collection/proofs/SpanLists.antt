-- Documents that are listed span by span are listed in the order of keys.
use Rattle.std.proofs.Common.{◌≡◌, ℕ, suc, ◌+◌, ◌<◌, List, [], ◌∷◌, ◌++◌, length, get_or, drop, drop-cons, map, refl, sym, ap, subst, ◌∙◌, Less, add-one, append_assoc}
use Rattle.std.specs.Prelude.{Bool, true, false, cond, ◌||◌, Option, Some, None, if◌then◌else◌}
use Rattle.std.specs.List.{AllByRecursion}
use Rattle.std.specs.List.Sorted.{IsStrictlySortedBy}
use Rattle.std.specs.Map.{values_of}
use Rattle.std.specs.Ordering.{is_eq}
use Rattle.std.proofs.lemmas.List.{append-nil}
use Rattle.query_model.proofs.Entries.{AreAbove, itself}
use Rattle.bson_values.specs.Tree.{Datum, Fields}
use Rattle.value_compare.specs.Keys.{Span, AreAscending, IsBefore, inside, inside_some}
use Rattle.value_compare.specs.Order.{order}
use Rattle.value_compare.proofs.Flat.{order_total}
use Rattle.history_model.specs.Documents.{Rows, AreInOrder, ListsDocuments, document_under}

differ : true ≡ false → ⊥
differ h = cc

-- rows under keys that pass a test
module _ (passes : Datum → Bool) where
  abbrev AreOutside : Rows → Type 0
  AreOutside rows = (key : Datum) → passes key ≡ false → document_under key rows ≡ None

  none_behind : (b : Bool) (first : Fields) (rest : Option Fields) → cond b (Some first) rest ≡ None → rest ≡ None
  none_behind true first rest e = absurd cc
  none_behind false first rest e = e

  row_passes : (row : Datum × Fields) (rows : Rows) → AreOutside (row ∷ rows) → passes row.0 ≡ true
  row_passes row rows outside = by (passes row.0) refl
    where
      found : document_under row.0 (row ∷ rows) ≡ Some row.1
      found = ap (λ r. cond (is_eq r) (Some row.1) (document_under row.0 rows)) (itself order_total row.0)

      by : (b : Bool) → passes row.0 ≡ b → b ≡ true
      by true is = refl
      by false is = let e : None ≡ Some row.1 = sym (outside row.0 is) ∙ found in absurd cc

  rows_pass : (rows : Rows) → AreOutside rows → AllByRecursion (λ (row : Datum × Fields). passes row.0 ≡ true) rows
  rows_pass [] outside = tt
  rows_pass (row ∷ rows) outside = (
    row_passes row rows outside,
    rows_pass rows (λ key out. none_behind (is_eq (order key row.0)) row.1 (document_under key rows) (outside key out)),
  )

not_under : (b : Bool) (found : Option Fields) → b ≡ false → (if b then found else None) ≡ None
not_under b found e = ap (λ (c : Bool). if c then found else None) e

-- a key inside some of the spans that a span is before is above those inside that
above_span : (span : Span) (spans : List Span) → AllByRecursion (IsBefore span) spans → (a b : Datum) → inside span a ≡ true → inside_some spans b ≡ true →
    order a b ≡ Less
above_span span [] before a b in_span in_some = absurd cc
above_span span (next ∷ spans) before a b in_span in_some = by (inside next b) refl in_some (above_span span spans before.1 a b in_span)
  where
    by : (c : Bool) → inside next b ≡ c → (c || inside_some spans b) ≡ true → (inside_some spans b ≡ true → order a b ≡ Less) → order a b ≡ Less
    by true is some later = before.0 a b in_span is
    by false is some later = later some

rows_above : (span : Span) (spans : List Span) → AllByRecursion (IsBefore span) spans → (low : Datum) → inside span low ≡ true → (rows : Rows) →
    AllByRecursion (λ (row : Datum × Fields). inside_some spans row.0 ≡ true) rows → AreAbove order_total low rows
rows_above span spans before low in_span [] pass = tt
rows_above span spans before low in_span (row ∷ rows) pass = (
  above_span span spans before low row.0 in_span pass.0,
  rows_above span spans before low in_span rows pass.1,
)

above_joined : (low : Datum) (rows more : Rows) → AreAbove order_total low rows → AreAbove order_total low more → AreAbove order_total low (rows ++ more)
above_joined low [] more above over = over
above_joined low (row ∷ rows) more above over = (above.0, above_joined low rows more above.1 over)

rows_joined : (rows more : Rows) → AreInOrder rows → AreInOrder more → AllByRecursion (λ (row : Datum × Fields). AreAbove order_total row.0 more) rows →
    AreInOrder (rows ++ more)
unfolding IsStrictlySortedBy
rows_joined [] more ordered over apart = over
rows_joined (row ∷ rows) more ordered over apart = (above_joined row.0 rows more ordered.0 apart.0, rows_joined rows more ordered.1 over apart.1)

all_apart : (span : Span) (spans : List Span) → AllByRecursion (IsBefore span) spans → (rows more : Rows) →
    AllByRecursion (λ (row : Datum × Fields). inside span row.0 ≡ true) rows → AllByRecursion (λ (row : Datum × Fields). inside_some spans row.0 ≡ true) more →
    AllByRecursion (λ (row : Datum × Fields). AreAbove order_total row.0 more) rows
all_apart span spans before [] more pass over = tt
all_apart span spans before (row ∷ rows) more pass over = (
  rows_above span spans before row.0 pass.0 more over,
  all_apart span spans before rows more pass.1 over,
)

abbrev first_of : Option Fields → Option Fields → Option Fields
first_of None other = other
first_of (Some document) other = Some document

under_joined : (key : Datum) (rows more : Rows) → document_under key (rows ++ more) ≡ first_of (document_under key rows) (document_under key more)
under_joined key [] more = refl
under_joined key (row ∷ rows) more = by (is_eq (order key row.0)) (under_joined key rows more)
  where
    by : (b : Bool) → document_under key (rows ++ more) ≡ first_of (document_under key rows) (document_under key more) →
        cond b (Some row.1) (document_under key (rows ++ more)) ≡ first_of (cond b (Some row.1) (document_under key rows)) (document_under key more)
    by true rest = refl
    by false rest = rest

values_joined : (rows more : Rows) → values_of (rows ++ more) ≡ values_of rows ++ values_of more
values_joined [] more = refl
values_joined (row ∷ rows) more = ap (λ (l : List Fields). row.1 ∷ l) (values_joined rows more)

either_under : (a b : Bool) (under : Option Fields) → first_of (if a then under else None) (if b then under else None) ≡ (if a || b then under else None)
either_under true true None = refl
either_under true false None = refl
either_under true true (Some document) = refl
either_under true false (Some document) = refl
either_under false b under = refl

-- the documents of a span, and after them those of the spans that it is before
pub lists_more : (under : Datum → Option Fields) (span : Span) (spans : List Span) (documents more : List Fields) → AllByRecursion (IsBefore span) spans →
    ListsDocuments (λ key. if inside span key then under key else None) documents →
    ListsDocuments (λ key. if inside_some spans key then under key else None) more →
    ListsDocuments (λ key. if inside_some (span ∷ spans) key then under key else None) (documents ++ more)
lists_more under span spans documents more before first others = record {
  rows = first.rows ++ others.rows;
  ordered = rows_joined first.rows others.rows first.ordered others.ordered
      (all_apart span spans before first.rows others.rows
      (rows_pass (λ key. inside span key) first.rows (λ key out. first.found key ∙ not_under (inside span key) (under key) out))
      (rows_pass (λ key. inside_some spans key) others.rows (λ key out. others.found key ∙ not_under (inside_some spans key) (under key) out)));
  found = λ key.
      under_joined key first.rows others.rows
      ∙ ap (λ (o : Option Fields). first_of o (document_under key others.rows)) (first.found key)
      ∙ ap (λ (o : Option Fields). first_of (if inside span key then under key else None) o) (others.found key)
      ∙ either_under (inside span key) (inside_some spans key) (under key);
  shown = ap (λ (l : List Fields). l ++ more) first.shown ∙ ap (λ (l : List Fields). values_of first.rows ++ l) others.shown
      ∙ sym (values_joined first.rows others.rows);
}

no_rows : AreInOrder []
unfolding IsStrictlySortedBy
no_rows = tt

-- no span, no document
pub lists_none : (under : Datum → Option Fields) → ListsDocuments (λ key. if inside_some [] key then under key else None) []
lists_none under = record { rows = []; ordered = no_rows; found = λ key. refl; shown = refl }

-- A LOOP OVER SPANS

next_is : {A : Type 0} (xs : List A) (i : ℕ) (x : A) → i < length xs → x ≡ get_or xs i x → drop i xs ≡ x ∷ drop (i + 1) xs
next_is {A} xs i x less is = rw add-one (drop-cons xs i x less ∙ ap (λ (first : A). first ∷ drop (suc i) xs) (sym is))

module _ {A : Type 0} (see : A → Span) (xs : List A) (i : ℕ) (x : A) (less : i < length xs) (is : x ≡ get_or xs i x) where
  next_span : map see (drop i xs) ≡ see x ∷ map see (drop (i + 1) xs)
  next_span = ap (λ (l : List A). map see l) (next_is xs i x less is)

  pub later_ascend : AreAscending (map see (drop i xs)) → AreAscending (map see (drop (i + 1) xs))
  later_ascend ascending = (subst AreAscending next_span ascending).1

  -- the documents of the next span are appended to the others
  pub lists_next : (under all : Datum → Option Fields) (old new : List Fields) → AreAscending (map see (drop i xs)) →
      ((found : List Fields) → ListsDocuments (λ key. if inside_some (map see (drop i xs)) key then under key else None) found → ListsDocuments all (old ++ found)) →
      ((found : List Fields) × ListsDocuments (λ key. if inside (see x) key then under key else None) found × (new ≡ old ++ found)) →
      (more : List Fields) → ListsDocuments (λ key. if inside_some (map see (drop (i + 1) xs)) key then under key else None) more →
      ListsDocuments all (new ++ more)
  lists_next under all old new ascending listed step more later =
      let before = (subst AreAscending next_span ascending).0 in
      let both = lists_more under (see x) (map see (drop (i + 1) xs)) step.0 more before step.1 later in
      let here = subst (λ (spans : List Span). ListsDocuments (λ key. if inside_some spans key then under key else None) (step.0 ++ more)) (sym next_span) both in
      subst (λ (l : List Fields). ListsDocuments all l)
      (sym (append_assoc old step.0 more) ∙ ap (λ (l : List Fields). l ++ more) (sym step.2)) (listed (step.0 ++ more) here)

-- after the last span nothing is left to list
pub lists_all : {A : Type 0} (see : A → Span) (left : List A) (under all : Datum → Option Fields) (documents : List Fields) → left ≡ [] →
    ((found : List Fields) → ListsDocuments (λ key. if inside_some (map see left) key then under key else None) found → ListsDocuments all (documents ++ found)) →
    ListsDocuments all documents
lists_all {A} see left under all documents none listed =
    subst (λ (l : List Fields). ListsDocuments all l) (append-nil documents)
    (listed [] (subst (λ (l : List A). ListsDocuments (λ key. if inside_some (map see l) key then under key else None) []) (sym none) (lists_none under)))
