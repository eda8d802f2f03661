-- A sum of two values in one group.
use Rattle.std.proofs.Common.{◌≡◌, ℕ, zero, suc, ◌<◌, ◌⊎◌, inl, inr, List, [], ◌∷◌, length, refl, sym, ap, subst, ◌∙◌, arith}
use Rattle.std.specs.Prelude.{true, false, Contains, IsPermutation, map}
use Rattle.std.specs.List.{swap}
use Rattle.std.proofs.lemmas.List.Sorted.{IsPermutation-keeps}
use Rattle.bson_model.specs.Tree.{Datum, null_value}
use Rattle.value_model.specs.Order.{same_value}
use Rattle.pipeline_model.specs.Groups.{Cell, sum_cell, PartialRow, total, all_narrow, AreCells, rows_with, IsMade, IsJoined}
use Rattle.reply_laws.specs.SampleSums.{sum_spec}

-- two elements have two orders
pub two_orders : {X : Type 0} (x y : X) (ys : List X) → IsPermutation (x ∷ y ∷ []) ys → (ys ≡ x ∷ y ∷ []) ⊎ (ys ≡ y ∷ x ∷ [])
two_orders {X = X} x y ys permutes = IsPermutation-keeps (x ∷ y ∷ []) (λ l. (l ≡ x ∷ y ∷ []) ⊎ (l ≡ y ∷ x ∷ [])) (inl refl) step ys permutes
  where
    by_places : (a b : X) (i j : ℕ) → i < 2 → j < 2 → (swap (a ∷ b ∷ []) i j ≡ a ∷ b ∷ []) ⊎ (swap (a ∷ b ∷ []) i j ≡ b ∷ a ∷ [])
    by_places a b zero zero p q = inl refl
    by_places a b zero (suc zero) p q = inr refl
    by_places a b zero (suc (suc j)) p q = absurd (omega arith)
    by_places a b (suc zero) zero p q = inr refl
    by_places a b (suc zero) (suc zero) p q = inl refl
    by_places a b (suc zero) (suc (suc j)) p q = absurd (omega arith)
    by_places a b (suc (suc i)) j p q = absurd (omega arith)

    turned : (l k : List X) → (l ≡ x ∷ y ∷ []) ⊎ (l ≡ y ∷ x ∷ []) → k ≡ l → (k ≡ x ∷ y ∷ []) ⊎ (k ≡ y ∷ x ∷ [])
    turned l k (inl is) same = inl (same ∙ is)
    turned l k (inr is) same = inr (same ∙ is)

    either : (l : List X) → (l ≡ y ∷ x ∷ []) ⊎ (l ≡ x ∷ y ∷ []) → (l ≡ x ∷ y ∷ []) ⊎ (l ≡ y ∷ x ∷ [])
    either l (inl e) = inr e
    either l (inr e) = inl e

    step : (l : List X) (i j : ℕ) → i < length l → j < length l → (l ≡ x ∷ y ∷ []) ⊎ (l ≡ y ∷ x ∷ []) → (swap l i j ≡ x ∷ y ∷ []) ⊎ (swap l i j ≡ y ∷ x ∷ [])
    step l i j p q (inl is) =
        let long : length l ≡ 2 = ap length is in
        turned (swap (x ∷ y ∷ []) i j) (swap l i j) (by_places x y i j (omega arith) (omega arith)) (ap (λ (k : List X). swap k i j) is)
    step l i j p q (inr is) =
        let long : length l ≡ 2 = ap length is in
        turned (swap (y ∷ x ∷ []) i j) (swap l i j) (either (swap (y ∷ x ∷ []) i j) (by_places y x i j (omega arith) (omega arith)))
        (ap (λ (k : List X). swap k i j) is)

-- A GROUP

abbrev pub row_of : Cell → PartialRow
row_of cell = record { key = null_value; cells = cell ∷ [] }

abbrev pub rows_of : Cell → Cell → List PartialRow
rows_of c d = row_of c ∷ row_of d ∷ []

-- the row of both
abbrev pub joined_of : Cell → Cell → PartialRow
joined_of c d = row_of (sum_cell (total (c ∷ d ∷ [])) (all_narrow (c ∷ d ∷ [])))

module _ (c d : Cell) where
  null_key : (key : Datum) → Contains (null_value ∷ null_value ∷ []) key → key ≡ null_value
  null_key key (zero, below, is) = sym is
  null_key key (suc zero, below, is) = sym is
  null_key key (suc (suc k), below, is) = absurd (omega (arith, below))

  cells_are : (cells : List Cell) → AreCells sum_spec.fields ((c ∷ []) ∷ (d ∷ []) ∷ []) cells → cells
      ≡ sum_cell (total (c ∷ d ∷ [])) (all_narrow (c ∷ d ∷ [])) ∷ []
  cells_are [] are = absurd are
  cells_are (cell ∷ cells) are = let first = are.0 in let rest = are.1 in cc

  row_is : (row : PartialRow) → IsMade sum_spec (rows_of c d) row → row ≡ joined_of c d
  row_is row made =
      let key : row.key ≡ null_value = null_key row.key made.key in
      let cells : row.cells ≡ sum_cell (total (c ∷ d ∷ [])) (all_narrow (c ∷ d ∷ [])) ∷ [] =
      cells_are row.cells (subst (λ (k : Datum). AreCells sum_spec.fields (map (λ r. r.cells) (rows_with k (rows_of c d))) row.cells) key made.cells) in
      λ i. record { key = key i; cells = cells i }

  -- there is that row alone
  pub joined_is : (rows : List PartialRow) → IsJoined sum_spec (rows_of c d) rows → rows ≡ joined_of c d ∷ []
  joined_is [] joined = absurd (let e : false ≡ true = joined.every.0 in cc)
  joined_is (row ∷ []) joined = ap (λ (r : PartialRow). r ∷ []) (row_is row joined.each.0)
  joined_is (row ∷ other ∷ rows) joined =
      let first : row.key ≡ null_value = null_key row.key joined.each.0.key in
      let second : other.key ≡ null_value = null_key other.key joined.each.1.0.key in
      let apart : same_value row.key other.key ≡ false = joined.apart.0.0 in
      let e : true ≡ false = sym (ap (λ (k : Datum). same_value k other.key) first ∙ ap (λ (k : Datum). same_value null_value k) second) ∙ apart in
      absurd (cc)
