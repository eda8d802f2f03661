-- What the halves of all parts return together, for each way in which a pipeline is cut.
use Rattle.std.proofs.Common.{◌≡◌, ℕ, ◌+◌, ◌⊎◌, inl, inr, List, [], ◌∷◌, ◌++◌, map, length, take, refl, sym, ap, ◌∙◌, subst, arith}
use Rattle.std.specs.Prelude.{true, false, sum_by, flat_map, IsPermutation, IsSortedBy, Some, None}
use Rattle.std.specs.List.{AllByRecursion, AllZip}
use Rattle.std.proofs.lemmas.List.{length-append}
use Rattle.std.proofs.lemmas.List.Sums.{sum_by-cons}
use Rattle.std.proofs.lemmas.List.Sorted.{IsPermutation-refl, IsPermutation-append}
use Rattle.bson_model.specs.Tree.{Fields}
use Rattle.pipeline_model.specs.SortKeys.{SortSpec, comes_before}
use Rattle.pipeline_model.specs.GroupSpecs.{GroupSpec}
use Rattle.pipeline_model.specs.Groups.{PartialRow, IsGrouped, IsJoined, documents_of}
use Rattle.pipeline_model.specs.Stages.{Stage, sort_stage, limit_stage}
use Rattle.pipeline_model.specs.Runs.{Outcome, listed, overflowed, Runs, count_documents}
use Rattle.pipeline_model.specs.Halves.{Rows, document_rows, partial_rows, counted_rows, HalfEnd, documents_end, partials_end, counted_end, EndsIn, in_documents, in_partials, in_count, Joining, joined_in_order, joined_groups, joined_counts, joined_as_they_come, documents_in_part, partials_in_part, count_in_part, Joins, in_order, in_groups, in_overflow, in_sum, as_they_come}
use Rattle.pipeline_model.proofs.Fronts.{opened}
use Rattle.pipeline_model.proofs.OrderedLists.{Up, up_from_sorted}
use Rattle.pipeline_model.proofs.SortOrder.{documents_total, below_chain, below_one_way}

-- the ends of a half and the ways of merging, by the end and the way
abbrev Ended : HalfEnd → List Fields → Rows → Type 0
Ended documents_end left rows = rows ≡ document_rows left
Ended (partials_end spec) left rows = (partials : List PartialRow) × IsGrouped spec left partials × (rows ≡ partial_rows partials)
Ended counted_end left rows = rows ≡ counted_rows (length left)

ended : {last : HalfEnd} {left : List Fields} {rows : Rows} → EndsIn last left rows → Ended last left rows
ended (in_documents docs) = refl
ended (in_partials spec docs rows grouped) = (rows, grouped, refl)
ended (in_count docs) = refl

abbrev pub Joined : Joining → List Rows → Outcome → Type 0
Joined (joined_in_order spec) parts start =
    (sorted : List Fields) × IsPermutation (flat_map documents_in_part parts) sorted × IsSortedBy (comes_before spec) sorted × (start ≡ listed sorted)
Joined (joined_groups spec) parts start =
    (rows : List PartialRow) × IsJoined spec (flat_map partials_in_part parts) rows
    × (((documents : List Fields) × (documents_of spec rows ≡ Some documents) × (start ≡ listed documents))
    ⊎ ((documents_of spec rows ≡ None) × (start ≡ overflowed)))
Joined (joined_counts name) parts start = start ≡ listed (count_documents name (sum_by count_in_part parts))
Joined joined_as_they_come parts start = start ≡ listed (flat_map documents_in_part parts)

pub joined : {joining : Joining} {parts : List Rows} {start : Outcome} → Joins joining parts start → Joined joining parts start
joined (in_order spec parts sorted moved up) = (sorted, moved, up, refl)
joined (in_groups spec parts rows documents made shown) = (rows, made, inl (documents, shown, refl))
joined (in_overflow spec parts rows made none) = (rows, made, inr (none, refl))
joined (in_sum name parts) = refl
joined (as_they_come parts) = refl

-- what is returned for documents after the front
pub record Gives (stages : List Stage) (last : HalfEnd) (docs : List Fields) (rows : Rows) : Type 0 where
  pub left : List Fields
  pub runs : Runs stages docs (listed left)
  pub ends : EndsIn last left rows

abbrev pub AllGive : List Stage → HalfEnd → List (List Fields) → List Rows → Type 0
AllGive stages last parts rows = AllZip (Gives stages last) parts rows

one_list : {xs ys : List Fields} → listed xs ≡ listed ys → xs ≡ ys
one_list e = cc

abbrev pub chain_of : (spec : SortSpec) (x y z : Fields) → comes_before spec y x ≡ false → comes_before spec z y ≡ false → comes_before spec z x ≡ false
chain_of spec x y z = below_chain (documents_total spec) x y z

abbrev pub one_way_of : (spec : SortSpec) (x y : Fields) → comes_before spec y x ≡ true → comes_before spec x y ≡ false
one_way_of spec x y = below_one_way (documents_total spec) x y

abbrev pub IsUp : SortSpec → List Fields → Type 0
IsUp spec docs = Up (comes_before spec) (chain_of spec) (one_way_of spec) docs

-- the parts in order, of which the first n of each were returned
pub record Sorteds (spec : SortSpec) (n : ℕ) (parts : List (List Fields)) (rows : List Rows) : Type 0 where
  pub sorteds : List (List Fields)
  pub permutes : IsPermutation (flat_map (λ p. p) parts) (flat_map (λ p. p) sorteds)
  pub up : AllByRecursion (IsUp spec) sorteds
  pub given : flat_map documents_in_part rows ≡ flat_map (take n) sorteds

pub sorted_parts : (spec : SortSpec) (n : ℕ) (parts : List (List Fields)) (rows : List Rows) →
    AllGive (sort_stage spec ∷ limit_stage n ∷ []) documents_end parts rows → Sorteds spec n parts rows
sorted_parts spec n [] [] h = record { sorteds = []; permutes = IsPermutation-refl []; up = tt; given = refl }
sorted_parts spec n [] (r ∷ rows) h = absurd h
sorted_parts spec n (p ∷ parts) [] h = absurd h
sorted_parts spec n (p ∷ parts) (r ∷ rows) h =
    let others = sorted_parts spec n parts rows h.1 in
    let run = opened h.0.runs in
    let cut : h.0.left ≡ take n run.0 = one_list (opened (opened run.3)) in
    record {
      sorteds = run.0 ∷ others.sorteds;
      permutes = IsPermutation-append p run.0 (flat_map (λ q. q) parts) (flat_map (λ q. q) others.sorteds) run.1 others.permutes;
      up = (up_from_sorted (comes_before spec) (chain_of spec) (one_way_of spec) run.0 run.2, others.up);
      given = (λ i. documents_in_part (ended h.0.ends i) ++ others.given i) ∙ ap (λ l. l ++ flat_map (take n) others.sorteds) cut;
    }

-- the parts in order, all of which was returned
pub whole_parts : (spec : SortSpec) (parts : List (List Fields)) (rows : List Rows) → AllGive (sort_stage spec ∷ []) documents_end parts rows →
    IsPermutation (flat_map (λ p. p) parts) (flat_map documents_in_part rows)
whole_parts spec [] [] h = IsPermutation-refl []
whole_parts spec [] (r ∷ rows) h = absurd h
whole_parts spec (p ∷ parts) [] h = absurd h
whole_parts spec (p ∷ parts) (r ∷ rows) h =
    let run = opened h.0.runs in
    let same : run.0 ≡ documents_in_part r = sym (one_list (opened run.3)) ∙ ap documents_in_part (sym (ended h.0.ends)) in
    IsPermutation-append p (documents_in_part r) (flat_map (λ q. q) parts) (flat_map documents_in_part rows) (subst (IsPermutation p) same run.1)
    (whole_parts spec parts rows h.1)

pub limited_parts : (n : ℕ) (parts : List (List Fields)) (rows : List Rows) → AllGive (limit_stage n ∷ []) documents_end parts rows →
    flat_map documents_in_part rows ≡ flat_map (take n) parts
limited_parts n [] [] h = refl
limited_parts n [] (r ∷ rows) h = absurd h
limited_parts n (p ∷ parts) [] h = absurd h
limited_parts n (p ∷ parts) (r ∷ rows) h =
    let cut : h.0.left ≡ take n p = one_list (opened (opened h.0.runs)) in
    (λ i. documents_in_part (ended h.0.ends i) ++ limited_parts n parts rows h.1 i) ∙ ap (λ l. l ++ flat_map (take n) parts) cut

pub plain_parts : (parts : List (List Fields)) (rows : List Rows) → AllGive [] documents_end parts rows →
    flat_map documents_in_part rows ≡ flat_map (λ p. p) parts
plain_parts [] [] h = refl
plain_parts [] (r ∷ rows) h = absurd h
plain_parts (p ∷ parts) [] h = absurd h
plain_parts (p ∷ parts) (r ∷ rows) h =
    let same : h.0.left ≡ p = one_list (opened h.0.runs) in
    (λ i. documents_in_part (ended h.0.ends i) ++ plain_parts parts rows h.1 i) ∙ ap (λ l. l ++ flat_map (λ q. q) parts) same

pub counted_parts : (parts : List (List Fields)) (rows : List Rows) → AllGive [] counted_end parts rows →
    sum_by count_in_part rows ≡ length (flat_map (λ p. p) parts)
counted_parts [] [] h = refl
counted_parts [] (r ∷ rows) h = absurd h
counted_parts (p ∷ parts) [] h = absurd h
counted_parts (p ∷ parts) (r ∷ rows) h =
    let same : count_in_part r ≡ length p = ap count_in_part (ended h.0.ends) ∙ ap (λ (l : List Fields). length l) (one_list (opened h.0.runs)) in
    omega (arith, sum_by-cons count_in_part r rows, same, counted_parts parts rows h.1, length-append p (flat_map (λ q. q) parts))

pub grouped_rows : (spec : GroupSpec) (parts : List (List Fields)) (rows : List Rows) → AllGive [] (partials_end spec) parts rows →
    AllZip (IsGrouped spec) parts (map partials_in_part rows)
grouped_rows spec [] [] h = tt
grouped_rows spec [] (r ∷ rows) h = absurd h
grouped_rows spec (p ∷ parts) [] h = absurd h
grouped_rows spec (p ∷ parts) (r ∷ rows) h =
    let end = ended h.0.ends in (
      subst (IsGrouped spec p) (ap partials_in_part (sym end.2)) (subst (λ docs. IsGrouped spec docs end.0) (one_list (opened h.0.runs)) end.1),
      grouped_rows spec parts rows h.1,
    )

pub partials_flat : (rows : List Rows) → flat_map (λ p. p) (map partials_in_part rows) ≡ flat_map partials_in_part rows
partials_flat [] = refl
partials_flat (r ∷ rows) = ap (λ l. partials_in_part r ++ l) (partials_flat rows)
