-- A cell that replaces others may be replaced by them.
use Rattle.std.proofs.Common.{◌≡◌, zero, suc, ◌+◌, ◌<◌, ◌⊎◌, ⊎_elim, ℤ, List, [], ◌∷◌, ◌++◌, map, length, refl, sym, ap, ◌∙◌, subst, arith}
use Rattle.std.specs.Prelude.{◌+ℤ◌, Bool, true, false, ◌&&◌, Contains, filter_map, if◌then◌else◌}
use Rattle.std.specs.List.{AllByRecursion}
use Rattle.std.specs.Ordering.{is_lt}
use lib.IntN.{+ℤ_assoc, +ℤ_idl}
use Rattle.std.proofs.lemmas.List.{map-append, length-append}
use Rattle.std.proofs.lemmas.List.Elements.{Contains-append_left, Contains-append_right, Contains-append_cases, filter_map-append, All-contains, All-from_recursion}
use Rattle.bson_model.specs.Tree.{Datum}
use Rattle.value_model.specs.Order.{order}
use Rattle.value_model.proofs.Flat.{order_total}
use Rattle.query_model.specs.Holds.{is_null}
use Rattle.pipeline_model.specs.SortKeys.{Direction, directed}
use Rattle.pipeline_model.specs.GroupSpecs.{Accumulator, sum_accumulator, count_accumulator, extreme_accumulator, GroupField}
use Rattle.pipeline_model.specs.Groups.{Cell, sum_cell, count_cell, extreme_cell, total, all_narrow, count_of, values_in, IsExtreme, IsCell, first_of, behind_first, AreCells}
use Rattle.pipeline_model.proofs.EachElement.{every_append, every_left, every_right, every_implies}
use Rattle.pipeline_model.proofs.SortOrder.{directed_total, below_chain}
use Rattle.bson_model.proofs.Booleans.{and_assoc}

pub total_append : (xs ys : List Cell) → total (xs ++ ys) ≡ total xs +ℤ total ys
total_append [] ys = sym (+ℤ_idl (total ys))
total_append (sum_cell z narrow ∷ xs) ys = ap (λ t. z +ℤ t) (total_append xs ys) ∙ sym (+ℤ_assoc z (total xs) (total ys))
total_append (count_cell n ∷ xs) ys = total_append xs ys
total_append (extreme_cell d ∷ xs) ys = total_append xs ys

pub narrow_append : (xs ys : List Cell) → all_narrow (xs ++ ys) ≡ (all_narrow xs && all_narrow ys)
narrow_append [] ys = refl
narrow_append (sum_cell z narrow ∷ xs) ys = ap (λ t. narrow && t) (narrow_append xs ys) ∙ and_assoc narrow (all_narrow xs) (all_narrow ys)
narrow_append (count_cell n ∷ xs) ys = narrow_append xs ys
narrow_append (extreme_cell d ∷ xs) ys = narrow_append xs ys

pub count_append : (xs ys : List Cell) → count_of (xs ++ ys) ≡ count_of xs + count_of ys
count_append [] ys = omega arith
count_append (sum_cell z narrow ∷ xs) ys = count_append xs ys
count_append (count_cell n ∷ xs) ys = omega (arith, count_append xs ys)
count_append (extreme_cell d ∷ xs) ys = count_append xs ys

one_more : (b : Bool) (d : Datum) (xs ys : List Datum) → (if b then (xs ++ ys) else d ∷ (xs ++ ys)) ≡ ((if b then xs else d ∷ xs) ++ ys)
one_more true d xs ys = refl
one_more false d xs ys = refl

pub values_append : (xs ys : List Cell) → values_in (xs ++ ys) ≡ values_in xs ++ values_in ys
values_append [] ys = refl
values_append (sum_cell z narrow ∷ xs) ys = values_append xs ys
values_append (count_cell n ∷ xs) ys = values_append xs ys
values_append (extreme_cell d ∷ xs) ys =
    ap (λ vs. if is_null d then vs else d ∷ vs) (values_append xs ys) ∙ one_more (is_null d) d (values_in xs) (values_in ys)

with_value : (b : Bool) (d : Datum) (vs : List Datum) → is_null d ≡ b → AllByRecursion (λ v. is_null v ≡ false) vs →
    AllByRecursion (λ v. is_null v ≡ false) (if b then vs else d ∷ vs)
with_value true d vs e h = h
with_value false d vs e h = (e, h)

pub none_null : (xs : List Cell) → AllByRecursion (λ v. is_null v ≡ false) (values_in xs)
none_null [] = tt
none_null (sum_cell z narrow ∷ xs) = none_null xs
none_null (count_cell n ∷ xs) = none_null xs
none_null (extreme_cell d ∷ xs) = with_value (is_null d) d (values_in xs) refl (none_null xs)

module _ (direction : Direction) where
  abbrev Low : Datum → List Datum → Type 0
  Low d vs = AllByRecursion (λ w. is_lt (directed direction order w d) ≡ false) vs

  extreme_if : (vs : List Datum) (d : Datum) → 0 < length vs → Contains vs d → Low d vs → IsExtreme direction vs d
  extreme_if [] d some there low = absurd (omega arith)
  extreme_if (v ∷ vs) d some there low = (there, low)

  extreme_there : (vs : List Datum) (d : Datum) → 0 < length vs → IsExtreme direction vs d → Contains vs d
  extreme_there [] d some h = absurd (omega arith)
  extreme_there (v ∷ vs) d some h = h.0

  extreme_low : (vs : List Datum) (d : Datum) → IsExtreme direction vs d → Low d vs
  extreme_low [] d h = tt
  extreme_low (v ∷ vs) d h = h.1

  one_there : (x d : Datum) → Contains (x ∷ []) d → x ≡ d
  one_there x d (zero, less, e) = e
  one_there x d (suc k, less, e) = absurd (omega arith)

  low_chain : (m d : Datum) → is_lt (directed direction order m d) ≡ false → (vs : List Datum) → Low m vs → Low d vs
  low_chain m d e vs low =
      every_implies (λ w. is_lt (directed direction order w m) ≡ false) (λ w. is_lt (directed direction order w d) ≡ false)
      (λ w f. below_chain (directed_total order direction order_total) d m w e f) vs low

  -- an extreme value replaced by those that it was chosen from
  extreme_replaced : (a b : List Datum) (v : Datum) (vs : List Datum) (m d : Datum) → IsExtreme direction (a ++ m ∷ b) d → IsExtreme direction (v ∷ vs) m →
      IsExtreme direction (a ++ ((v ∷ vs) ++ b)) d
  extreme_replaced a b v vs m d h k =
      let low = extreme_low (a ++ m ∷ b) d h in
      let right : Low d (m ∷ b) = every_right (λ w. is_lt (directed direction order w d) ≡ false) a (m ∷ b) low in
      extreme_if (a ++ ((v ∷ vs) ++ b)) d (omega (arith, length-append a (v ∷ (vs ++ b))))
      (⊎_elim (λ there. Contains-append_left a ((v ∷ vs) ++ b) d there)
      (λ there. Contains-append_right a ((v ∷ vs) ++ b) d
      (⊎_elim (λ first. Contains-append_left (v ∷ vs) b d (subst (Contains (v ∷ vs)) (one_there m d first) k.0))
      (λ later. Contains-append_right (v ∷ vs) b d later) (Contains-append_cases (m ∷ []) b d there)))
      (Contains-append_cases a (m ∷ b) d (extreme_there (a ++ m ∷ b) d (omega (arith, length-append a (m ∷ b))) h)))
      (every_append (λ w. is_lt (directed direction order w d) ≡ false) a ((v ∷ vs) ++ b)
      (every_left (λ w. is_lt (directed direction order w d) ≡ false) a (m ∷ b) low)
      (every_append (λ w. is_lt (directed direction order w d) ≡ false) (v ∷ vs) b (low_chain m d right.0 (v ∷ vs) k.1) right.1))

  values_replaced : (a b inner : List Datum) (m d : Datum) → AllByRecursion (λ v. is_null v ≡ false) inner →
      IsExtreme direction (a ++ (if is_null m then b else m ∷ b)) d → IsExtreme direction inner m → IsExtreme direction (a ++ (inner ++ b)) d
  values_replaced a b [] m d n h k = subst (λ x. IsExtreme direction (a ++ (if is_null x then b else x ∷ b)) d) k h
  values_replaced a b (v ∷ vs) m d n h k =
      let plain : is_null m ≡ false = All-contains (λ w. is_null w ≡ false) (v ∷ vs) m (All-from_recursion (λ w. is_null w ≡ false) (v ∷ vs) n) k.0 in
      extreme_replaced a b v vs m d (subst (λ c. IsExtreme direction (a ++ (if c then b else m ∷ b)) d) plain h) k

cell_replaced : (by : Accumulator) (a b inner : List Cell) (m cell : Cell) → IsCell by (a ++ m ∷ b) cell → IsCell by inner m →
    IsCell by (a ++ (inner ++ b)) cell
cell_replaced (sum_accumulator x) a b inner m cell h k =
    let opened : cell ≡ sum_cell (total (a ++ sum_cell (total inner) (all_narrow inner) ∷ b))
    (all_narrow (a ++ sum_cell (total inner) (all_narrow inner) ∷ b)) =
    subst (λ c. cell ≡ sum_cell (total (a ++ c ∷ b)) (all_narrow (a ++ c ∷ b))) k h in
    opened ∙ ap (λ t. sum_cell t (all_narrow (a ++ sum_cell (total inner) (all_narrow inner) ∷ b)))
    (total_append a (sum_cell (total inner) (all_narrow inner) ∷ b) ∙ ap (λ t. total a +ℤ t) (sym (total_append inner b)) ∙ sym (total_append a (inner ++ b)))
    ∙ ap (λ t. sum_cell (total (a ++ (inner ++ b))) t)
    (narrow_append a (sum_cell (total inner) (all_narrow inner) ∷ b) ∙ ap (λ t. all_narrow a && t) (sym (narrow_append inner b))
    ∙ sym (narrow_append a (inner ++ b)))
cell_replaced count_accumulator a b inner m cell h k =
    let opened : cell ≡ count_cell (count_of (a ++ count_cell (count_of inner) ∷ b)) = subst (λ c. cell ≡ count_cell (count_of (a ++ c ∷ b))) k h in
    opened ∙ ap count_cell (count_append a (count_cell (count_of inner) ∷ b) ∙ ap (λ t. count_of a + t) (sym (count_append inner b))
    ∙ sym (count_append a (inner ++ b)))
cell_replaced (extreme_accumulator direction x) a b inner m cell h k =
    let within : IsExtreme direction (values_in a ++ (if is_null k.0 then values_in b else k.0 ∷ values_in b)) h.0 =
    subst (λ vs. IsExtreme direction vs h.0) (ap (λ c. values_in (a ++ c ∷ b)) k.1 ∙ values_append a (extreme_cell k.0 ∷ b)) h.2 in
    let joined = values_replaced direction (values_in a) (values_in b) (values_in inner) k.0 h.0 (none_null inner) within k.2 in (
      h.0,
      h.1,
      subst (λ vs. IsExtreme direction vs h.0) (ap (λ vs. values_in a ++ vs) (sym (values_append inner b)) ∙ sym (values_append a (inner ++ b)))
          joined,
    )

-- the cells of a row replaced by those of the rows that it is made of
pub cells_replaced : (fields : List GroupField) (a b inner : List (List Cell)) (m cells : List Cell) →
    AreCells fields (a ++ m ∷ b) cells → AreCells fields inner m → AreCells fields (a ++ (inner ++ b)) cells
cells_replaced [] a b inner m cells h k = h
cells_replaced (f ∷ fields) a b inner m [] h k = absurd h
cells_replaced (f ∷ fields) a b inner [] (cell ∷ cells) h k = absurd k
cells_replaced (f ∷ fields) a b inner (first ∷ m) (cell ∷ cells) h k = (
  subst (λ xs. IsCell f.accumulator xs cell)
      (ap (λ xs. filter_map first_of a ++ xs) (sym (filter_map-append first_of inner b)) ∙ sym (filter_map-append first_of a (inner ++ b)))
      (cell_replaced f.accumulator (filter_map first_of a) (filter_map first_of b) (filter_map first_of inner) first cell
      (subst (λ xs. IsCell f.accumulator xs cell) (filter_map-append first_of a ((first ∷ m) ∷ b)) h.0) k.0),
  subst (λ xs. AreCells fields xs cells)
      (ap (λ xs. map behind_first a ++ xs) (sym (map-append behind_first inner b)) ∙ sym (map-append behind_first a (inner ++ b)))
      (cells_replaced fields (map behind_first a) (map behind_first b) (map behind_first inner) m cells
      (subst (λ xs. AreCells fields xs cells) (map-append behind_first a ((first ∷ m) ∷ b)) h.1) k.1),
)
