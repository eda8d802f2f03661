-- The law of halves: merging the halves of parts gives a result of the whole pipeline on the joined documents of the parts.
use Rattle.std.proofs.Common.{◌≡◌, ℕ, zero, suc, ◌+◌, ◌-◌, ◌≤◌, ◌<◌, ◌^◌, ◌⊎◌, inl, inr, ⊎_elim, List, [], ◌∷◌, ◌++◌, map, length, take, drop, refl, sym, ap, ◌∙◌, subst, arith}
use Rattle.std.specs.Prelude.{true, nat_lt, flat_map, IsPermutation}
use Rattle.std.specs.List.{AllZip, list_all}
use Rattle.std.proofs.lemmas.Bool.{and_parts, cases_lt, ltb-true}
use Rattle.std.proofs.lemmas.List.{length-take, take_all, take-take, drop-take, length-append}
use Rattle.std.proofs.lemmas.List.Sorted.{IsPermutation-trans, length_permutation}
use Rattle.bson_model.specs.Tree.{Fields}
use Rattle.pipeline_model.specs.SortKeys.{SortSpec, comes_before}
use Rattle.pipeline_model.specs.GroupSpecs.{GroupSpec}
use Rattle.pipeline_model.specs.Groups.{IsJoined, IsGrouped}
use Rattle.pipeline_model.specs.Stages.{Stage, has_int64, match_stage, project_stage, group_stage, sort_stage, skip_stage, limit_stage, count_stage}
use Rattle.pipeline_model.specs.Runs.{Outcome, listed, Runs, group_run, overflow_run, sort_run, skip_run, limit_run, count_run, count_documents}
use Rattle.pipeline_model.specs.Halves.{Rows, documents_end, partials_end, counted_end, Half, IsHalf, Merge, joined_in_order, joined_groups, joined_counts, joined_as_they_come, partials_in_part, GoesOn, Merges}
use Rattle.pipeline_model.specs.Split.{front, behind_front, reach, cut, split}
use Rattle.pipeline_model.proofs.Fronts.{opened, enters, leaves, past_front, past_parts, past_length}
use Rattle.pipeline_model.proofs.OrderedLists.{up_from_sorted, sorted_from_up}
use Rattle.pipeline_model.proofs.CutParts.{complete}
use Rattle.pipeline_model.proofs.JoinedRows.{grouped_parts}
use Rattle.pipeline_laws.proofs.PartRows.{Joined, joined, AllGive, chain_of, one_way_of, IsUp, Sorteds, sorted_parts, whole_parts, limited_parts, plain_parts, counted_parts, grouped_rows, partials_flat}

goes_from : (stages : List Stage) (start out : Outcome) (docs : List Fields) → start ≡ listed docs → GoesOn stages start out → Runs stages docs out
goes_from stages start out docs e h = subst (λ s. GoesOn stages s out) e h

-- documents with the same first n
module _ (n : ℕ) (xs ys : List Fields) (same : take n xs ≡ take n ys) where
  fewer : (m : ℕ) → m ≤ n → take m xs ≡ take m ys
  fewer m le = sym (take-take m n xs le) ∙ ap (take m) same ∙ take-take m n ys le

  all_same : length xs ≤ n → length ys ≤ n → xs ≡ ys
  all_same short less = sym (take_all n xs short) ∙ same ∙ take_all n ys less

-- what makes a reach great enough: there are fewer documents than it, or its sum is exact
abbrev pub Reaches : List Stage → List Fields → Type 0
Reaches stages docs = (length docs < 2 ^ 62) ⊎ (list_all has_int64 stages ≡ true)

reaches_fewer : (stages : List Stage) (more docs : List Fields) → length docs ≤ length more → Reaches stages more → Reaches stages docs
reaches_fewer stages more docs less = ⊎_elim (λ few. inl (omega arith)) inr

small_behind : (stages : List Stage) → list_all has_int64 stages ≡ true → list_all has_int64 (behind_front stages) ≡ true
small_behind [] h = h
small_behind (match_stage asked ∷ rest) h = small_behind rest h
small_behind (project_stage rules ∷ rest) h = small_behind rest h
small_behind (stage ∷ rest) h = h

reaches_behind : (stages : List Stage) (docs : List Fields) → Reaches stages docs → Reaches (behind_front stages) docs
reaches_behind stages docs = ⊎_elim inl (λ small. inr (small_behind stages small))

-- the documents that are skipped and taken are the same
reached_exactly : (s n : ℕ) (xs ys : List Fields) → s + n ≤ 2 ^ 64 - 1 → take (reach s n) xs ≡ take (reach s n) ys → take n (drop s xs) ≡ take n (drop s ys)
reached_exactly s n xs ys exact same =
    sym (drop-take s n xs) ∙ ap (drop s) (fewer (reach s n) xs ys same (s + n) (omega arith)) ∙ drop-take s n ys

reached : (s n : ℕ) (xs ys : List Fields) → length xs < 2 ^ 62 → length ys < 2 ^ 62 → take (reach s n) xs ≡ take (reach s n) ys →
    take n (drop s xs) ≡ take n (drop s ys)
reached s n xs ys few less same =
    ⊎_elim (λ far. ap (λ zs. take n (drop s zs)) (all_same (reach s n) xs ys same (omega arith) (omega arith)))
    (λ near. reached_exactly s n xs ys (omega arith) same) (cases_lt (2 ^ 62) (s + n))

-- stages that give the same results from lists with the same first documents
abbrev Carries : ℕ → List Stage → Type 0
Carries n stages = (out : Outcome) (whole kept : List Fields) → Reaches stages whole → Reaches stages kept → take n whole ≡ take n kept →
    Runs stages kept out → Runs stages whole out

carries_limit : (n : ℕ) (rest : List Stage) → Carries n (limit_stage n ∷ rest)
carries_limit n rest out whole kept far near same h = limit_run n rest whole out (subst (λ docs. Runs rest docs out) (sym same) (opened h))

small_sum : (s n : ℕ) (rest : List Stage) → list_all has_int64 (skip_stage s ∷ limit_stage n ∷ rest) ≡ true → s + n ≤ 2 ^ 64 - 1
small_sum s n rest small =
    let parts = and_parts (nat_lt s (2 ^ 63)) _ small in
    let skipped : s < 2 ^ 63 = ltb-true s (2 ^ 63) parts.0 in
    let taken : n < 2 ^ 63 = ltb-true n (2 ^ 63) (and_parts (nat_lt n (2 ^ 63)) _ parts.1).0 in
    omega arith

carries_skip : (s n : ℕ) (rest : List Stage) → Carries (reach s n) (skip_stage s ∷ limit_stage n ∷ rest)
carries_skip s n rest out whole kept far near same h =
    let exactly = λ (small : list_all has_int64 (skip_stage s ∷ limit_stage n ∷ rest) ≡ true). reached_exactly s n whole kept (small_sum s n rest small) same in
    let alike : take n (drop s whole) ≡ take n (drop s kept) =
    ⊎_elim (λ few. ⊎_elim (λ less. reached s n whole kept few less same) exactly near) exactly far in
    skip_run s (limit_stage n ∷ rest) whole out (limit_run n rest (drop s whole) out (subst (λ docs. Runs rest docs out) (sym alike) (opened (opened h))))

kept_length : (n : ℕ) (parts : List (List Fields)) → length (flat_map (take n) parts) ≤ length (flat_map (λ p. p) parts)
kept_length n [] = omega arith
kept_length n (p ∷ parts) =
    omega (arith, length-append (take n p) (flat_map (take n) parts), length-append p (flat_map (λ q. q) parts), length-take n p, kept_length n parts)

-- a sort of which each part returns the first n
sorted_first : (spec : SortSpec) (n : ℕ) (go : List Stage) (parts : List (List Fields)) (rows : List Rows) (start out : Outcome) →
    Reaches go (flat_map (λ p. p) parts) → Carries n go → Sorteds spec n parts rows → Joined (joined_in_order spec) rows start → GoesOn go start out →
    Runs (sort_stage spec ∷ go) (flat_map (λ p. p) parts) out
sorted_first spec n go parts rows start out far carries sorteds merged h =
    let kept = merged.0 in
    let moved : IsPermutation (flat_map (take n) sorteds.sorteds) kept = subst (λ l. IsPermutation l kept) sorteds.given merged.1 in
    let up : IsUp spec kept = up_from_sorted (comes_before spec) (chain_of spec) (one_way_of spec) kept merged.2 in
    let done = complete (comes_before spec) (chain_of spec) (one_way_of spec) n sorteds.sorteds kept sorteds.up moved up in
    let same_many = length_permutation _ _ sorteds.permutes in
    let whole_many = length_permutation _ _ done.permutes in
    let kept_many = length_permutation _ _ moved in
    sort_run spec go (flat_map (λ p. p) parts) done.whole out (IsPermutation-trans _ _ _ sorteds.permutes done.permutes)
    (sorted_from_up (comes_before spec) (chain_of spec) (one_way_of spec) done.whole done.up)
    (carries out done.whole kept (reaches_fewer go _ done.whole (omega arith) far)
    (reaches_fewer go _ kept (omega (arith, kept_length n sorteds.sorteds)) far) done.front (goes_from go start out kept merged.3 h))

-- a sort of which each part returns all
sorted_all : (spec : SortSpec) (go : List Stage) (parts : List (List Fields)) (rows : List Rows) (start out : Outcome) →
    AllGive (sort_stage spec ∷ []) documents_end parts rows →
    Joined (joined_in_order spec) rows start → GoesOn go start out → Runs (sort_stage spec ∷ go) (flat_map (λ p. p) parts) out
sorted_all spec go parts rows start out given merged h =
    sort_run spec go (flat_map (λ p. p) parts) merged.0 out (IsPermutation-trans _ _ _ (whole_parts spec parts rows given) merged.1) merged.2
    (goes_from go start out merged.0 merged.3 h)

none_taken : (xs : List Fields) → take zero xs ≡ []
none_taken [] = refl
none_taken (x ∷ xs) = refl

taken : (m k : ℕ) (p q r : List Fields) → m ≤ k → take m q ≡ take m r → take m (take k p ++ q) ≡ take m (p ++ r)
taken m zero [] q r le same = same
taken m (suc k) [] q r le same = same
taken zero k (x ∷ p) q r le same = none_taken (take k (x ∷ p) ++ q) ∙ sym (none_taken (x ∷ (p ++ r)))
taken (suc m) zero (x ∷ p) q r le same = absurd (omega arith)
taken (suc m) (suc k) (x ∷ p) q r le same = ap (λ l. x ∷ l) (taken m k p q r (omega arith) (fewer (suc m) q r same m (omega arith)))

first_taken : (n : ℕ) (parts : List (List Fields)) → take n (flat_map (λ p. p) parts) ≡ take n (flat_map (take n) parts)
first_taken n [] = refl
first_taken n (p ∷ parts) = sym (taken n n p (flat_map (take n) parts) (flat_map (λ q. q) parts) (omega arith) (sym (first_taken n parts)))

-- the first n of each part, in their order
limited : (n : ℕ) (go : List Stage) (parts : List (List Fields)) (rows : List Rows) (start out : Outcome) →
    Reaches go (flat_map (λ p. p) parts) → Carries n go → AllGive (limit_stage n ∷ []) documents_end parts rows → Joined joined_as_they_come rows start → GoesOn go start out → Runs go (flat_map (λ p. p) parts) out
limited n go parts rows start out far carries given merged h =
    let kept = flat_map (take n) parts in
    let start_is : start ≡ listed kept = merged ∙ ap listed (limited_parts n parts rows given) in
    carries out (flat_map (λ p. p) parts) kept far (reaches_fewer go _ kept (omega (arith, kept_length n parts)) far) (first_taken n parts) (goes_from go start out kept start_is h)

plain : (go : List Stage) (parts : List (List Fields)) (rows : List Rows) (start out : Outcome) → AllGive [] documents_end parts rows →
    Joined joined_as_they_come rows start →
    GoesOn go start out → Runs go (flat_map (λ p. p) parts) out
plain go parts rows start out given merged h = goes_from go start out (flat_map (λ p. p) parts) (merged ∙ ap listed (plain_parts parts rows given)) h

counted : (name : List ℕ) (go : List Stage) (parts : List (List Fields)) (rows : List Rows) (start out : Outcome) → AllGive [] counted_end parts rows →
    Joined (joined_counts name) rows start → GoesOn go start out → Runs (count_stage name ∷ go) (flat_map (λ p. p) parts) out
counted name go parts rows start out given merged h =
    count_run name go (flat_map (λ p. p) parts) out
    (goes_from go start out (count_documents name (length (flat_map (λ p. p) parts)))
    (merged ∙ ap (λ n. listed (count_documents name n)) (counted_parts parts rows given)) h)

grouped : (spec : GroupSpec) (go : List Stage) (parts : List (List Fields)) (rows : List Rows) (start out : Outcome) →
    AllGive [] (partials_end spec) parts rows →
    Joined (joined_groups spec) rows start → GoesOn go start out → Runs (group_stage spec ∷ go) (flat_map (λ p. p) parts) out
grouped spec go parts rows start out given merged h =
    let made : IsGrouped spec (flat_map (λ p. p) parts) merged.0 =
    grouped_parts spec parts (map partials_in_part rows) merged.0 (grouped_rows spec parts rows given)
    (subst (λ l. IsJoined spec l merged.0) (sym (partials_flat rows)) merged.1) in
    ⊎_elim (λ shown. group_run spec go (flat_map (λ p. p) parts) merged.0 shown.0 out made shown.1 (goes_from go start out shown.0 shown.2 h))
    (λ none. subst (λ o. Runs (group_stage spec ∷ go) (flat_map (λ p. p) parts) o) (sym (subst (λ s. GoesOn go s out) none.1 h))
    (overflow_run spec go (flat_map (λ p. p) parts) merged.0 made none.0))
    merged.2

-- by the way in which the stages after the front are cut
cut_merges : (stages : List Stage) (parts : List (List Fields)) (rows : List Rows) (start out : Outcome) → Reaches stages (flat_map (λ p. p) parts) →
    AllGive (cut stages).stages (cut stages).last parts rows → Joined (cut stages).merge.joining rows start → GoesOn (cut stages).merge.stages start out →
    Runs stages (flat_map (λ p. p) parts) out
cut_merges (sort_stage spec ∷ skip_stage s ∷ limit_stage n ∷ rest) parts rows start out far given merged h =
    sorted_first spec (reach s n) (skip_stage s ∷ limit_stage n ∷ rest) parts rows start out far (carries_skip s n rest)
    (sorted_parts spec (reach s n) parts rows given) merged h
cut_merges (sort_stage spec ∷ limit_stage n ∷ rest) parts rows start out far given merged h =
    sorted_first spec n (limit_stage n ∷ rest) parts rows start out far (carries_limit n rest) (sorted_parts spec n parts rows given) merged h
cut_merges (sort_stage spec ∷ rest) parts rows start out far given merged h = sorted_all spec rest parts rows start out given merged h
cut_merges (group_stage spec ∷ rest) parts rows start out far given merged h = grouped spec rest parts rows start out given merged h
cut_merges (count_stage name ∷ rest) parts rows start out far given merged h = counted name rest parts rows start out given merged h
cut_merges (skip_stage s ∷ limit_stage n ∷ rest) parts rows start out far given merged h =
    limited (reach s n) (skip_stage s ∷ limit_stage n ∷ rest) parts rows start out far (carries_skip s n rest) given merged h
cut_merges (limit_stage n ∷ rest) parts rows start out far given merged h =
    limited n (limit_stage n ∷ rest) parts rows start out far (carries_limit n rest) given merged h
cut_merges stages parts rows start out far given merged h = plain stages parts rows start out given merged h

behind_front_given : (stages : List Stage) (parts : List (List Fields)) (rows : List Rows) → AllZip (IsHalf (split stages).0) parts rows →
    AllGive (cut (behind_front stages)).stages (cut (behind_front stages)).last (map (past_front stages) parts) rows
behind_front_given stages [] [] h = tt
behind_front_given stages [] (r ∷ rows) h = absurd h
behind_front_given stages (p ∷ parts) [] h = absurd h
behind_front_given stages (p ∷ parts) (r ∷ rows) h = (
  record { left = h.0.left; runs = leaves stages (cut (behind_front stages)).stages p (listed h.0.left) h.0.runs; ends = h.0.ends },
  behind_front_given stages parts rows h.1,
)

halves_of : (stages : List Stage) (parts : List (List Fields)) (rows : List Rows) (out : Outcome) → Reaches stages (flat_map (λ p. p) parts) →
    AllZip (IsHalf (split stages).0) parts rows → Merges (split stages).1 rows out → Runs stages (flat_map (λ p. p) parts) out
halves_of stages parts rows out far halves merged =
    let past = past_parts stages parts in
    enters stages (flat_map (λ p. p) parts) out
    (subst (λ docs. Runs (behind_front stages) docs out) (sym past)
    (cut_merges (behind_front stages) (map (past_front stages) parts) rows merged.start out
    (reaches_fewer (behind_front stages) (flat_map (λ p. p) parts) _
    (omega (arith, past_length stages (flat_map (λ p. p) parts), ap (λ (l : List Fields). length l) past)) (reaches_behind stages _ far))
    (behind_front_given stages parts rows halves) (joined merged.joins) merged.goes_on))

-- by which of the two makes the reach great enough
pub halves_merge : (stages : List Stage) (half : Half) (merge : Merge) (parts : List (List Fields)) (rows : List Rows) (out : Outcome) →
    Reaches stages (flat_map (λ p. p) parts) →
    split stages ≡ (half, merge) → AllZip (IsHalf half) parts rows → Merges merge rows out → Runs stages (flat_map (λ p. p) parts) out
halves_merge stages half merge parts rows out far e halves merged =
    halves_of stages parts rows out far (subst (λ s. AllZip (IsHalf s.0) parts rows) (sym e) halves) (subst (λ s. Merges s.1 rows out) (sym e) merged)
