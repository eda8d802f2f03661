-- Documents are sorted where their keys are.
use Rattle.std.proofs.Common.{◌≡◌, List, [], ◌∷◌, ◌++◌, length, map, refl, sym, ap, ◌∙◌, subst, append_assoc, arith}
use Rattle.std.specs.Prelude.{Bool, true, false, cond, filter, not, ◌&&◌, IsPermutation, IsSortedBy}
use Rattle.std.specs.List.{AllByRecursion}
use Rattle.std.specs.List.Sorted.{IsStableBy, ties}
use Rattle.std.specs.Ordering.{is_lt}
use Rattle.std.proofs.lemmas.Cmp.{on_total}
use Rattle.std.proofs.lemmas.List.{map-append}
use Rattle.std.proofs.lemmas.List.Sorted.{IsPermutation-map, length_permutation}
use Rattle.bson_values.specs.Tree.{Fields}
use Rattle.pipeline_model.specs.SortKeys.{SortSpec, comes_before, order_keys, sort_key}
use Rattle.pipeline_model.proofs.EachElement.{every_append, every_permuted}
use Rattle.pipeline_model.proofs.OrderedLists.{Up, sorted_from_up, up_from_sorted}
use Rattle.pipeline_model.proofs.SortOrder.{below_chain, below_one_way, documents_total, keys_total}
use Rattle.pipeline_eval.specs.declared.sorting.Keyed.{Keyed}
use Rattle.pipeline_eval.specs.Keyed.{HasKey, document_of, keys_before}

module _ (spec : SortSpec) where
  pub rows_chain : (x y z : Keyed) → keys_before spec y x ≡ false → keys_before spec z y ≡ false → keys_before spec z x ≡ false
  rows_chain x y z = below_chain (on_total (λ (row : Keyed). row.key) (keys_total spec)) x y z

  pub rows_one_way : (x y : Keyed) → keys_before spec y x ≡ true → keys_before spec x y ≡ false
  rows_one_way x y = below_one_way (on_total (λ (row : Keyed). row.key) (keys_total spec)) x y

  pub documents_chain : (x y z : Fields) → comes_before spec y x ≡ false → comes_before spec z y ≡ false → comes_before spec z x ≡ false
  documents_chain x y z = below_chain (documents_total spec) x y z

  pub documents_one_way : (x y : Fields) → comes_before spec y x ≡ true → comes_before spec x y ≡ false
  documents_one_way x y = below_one_way (documents_total spec) x y

  none_before : (row : Keyed) (rows : List Keyed) → HasKey spec row → AllByRecursion (HasKey spec) rows →
      AllByRecursion (λ other. keys_before spec other row ≡ false) rows →
      AllByRecursion (λ d. comes_before spec d (document_of row) ≡ false) (map document_of rows)
  none_before row [] h hs a = tt
  none_before row (other ∷ rows) h hs a =
      ((λ i. is_lt (order_keys spec (sym hs.0 i) (sym h i))) ∙ a.0, none_before row rows h hs.1 a.1)

  documents_up : (rows : List Keyed) → AllByRecursion (HasKey spec) rows → Up (keys_before spec) rows_chain rows_one_way rows →
      Up (comes_before spec) documents_chain documents_one_way (map document_of rows)
  documents_up [] hs u = tt
  documents_up (row ∷ rows) hs u = (none_before row rows hs.0 hs.1 u.0, documents_up rows hs.1 u.1)

  pub documents_sorted : (rows now : List Keyed) (documents : List Fields) → documents ≡ map document_of now → AllByRecursion (HasKey spec) rows →
      IsPermutation rows now → IsSortedBy (keys_before spec) now → IsSortedBy (comes_before spec) documents
  documents_sorted rows now documents are hs moved sorted =
      subst (λ (l : List Fields). IsSortedBy (comes_before spec) l) (sym are)
      (sorted_from_up (comes_before spec) documents_chain documents_one_way (map document_of now)
      (documents_up now (every_permuted (HasKey spec) rows now moved hs) (up_from_sorted (keys_before spec) rows_chain rows_one_way now sorted)))

  pub documents_moved : (rows now : List Keyed) (before documents : List Fields) → map document_of rows ≡ before → documents ≡ map document_of now →
      IsPermutation rows now → IsPermutation before documents
  documents_moved rows now before documents were are moved =
      subst (λ (l : List Fields). IsPermutation l documents) were
      (subst (λ (l : List Fields). IsPermutation (map document_of rows) l) (sym are) (IsPermutation-map document_of rows now moved))

-- the next row is appended
pub next_put : {A B C : Type 0} (f : A → C) (see : B → C) (done now : List A) (a : A) (left rest : List B) (b : B) (whole : List C) →
    now ≡ done ++ a ∷ [] → left ≡ b ∷ rest → f a ≡ see b → map f done ++ map see left ≡ whole → map f now ++ map see rest ≡ whole
next_put {A = A} {B = B} {C = C} f see done now a left rest b whole put is same so_far =
    ap (λ (l : List A). map f l ++ map see rest) put ∙ ap (λ (l : List C). l ++ map see rest) (map-append f done (a ∷ []))
    ∙ append_assoc (map f done) (f a ∷ []) (map see rest) ∙ ap (λ (c : C). map f done ++ c ∷ map see rest) same
    ∙ ap (λ (l : List B). map f done ++ map see l) (sym is) ∙ so_far

pub has_key_too : (spec : SortSpec) (rows now : List Keyed) (row : Keyed) → now ≡ rows ++ row ∷ [] → HasKey spec row → AllByRecursion (HasKey spec) rows →
    AllByRecursion (HasKey spec) now
has_key_too spec rows now row put h hs =
    subst (λ (l : List Keyed). AllByRecursion (HasKey spec) l) (sym put) (every_append (HasKey spec) rows (row ∷ []) hs (h, tt))

-- Rows that tie keep their order, and so do their documents.
module _ (spec : SortSpec) (x : Fields) (probe : Keyed) (is : probe.key ≡ sort_key spec x) where
  same_tie : (row : Keyed) → HasKey spec row → ties (comes_before spec) x (document_of row) ≡ ties (keys_before spec) probe row
  same_tie row h i = not (is_lt (order_keys spec (sym is i) (sym h i))) && not (is_lt (order_keys spec (sym h i) (sym is i)))

  one_kept : (row : Keyed) (b c : Bool) (rows : List Keyed) (docs : List Fields) → b ≡ c → docs ≡ map document_of rows →
      cond b (document_of row ∷ docs) docs ≡ map document_of (cond c (row ∷ rows) rows)
  one_kept row true true rows docs e are = λ i. document_of row ∷ are i
  one_kept row false false rows docs e are = are
  one_kept row true false rows docs e are = absurd (cc e)
  one_kept row false true rows docs e are = absurd (cc e)

  ties_seen : (rows : List Keyed) → AllByRecursion (HasKey spec) rows →
      filter (ties (comes_before spec) x) (map document_of rows) ≡ map document_of (filter (ties (keys_before spec) probe) rows)
  ties_seen [] hs = refl
  ties_seen (row ∷ rows) hs =
      one_kept row (ties (comes_before spec) x (document_of row)) (ties (keys_before spec) probe row) (filter (ties (keys_before spec) probe) rows)
      (filter (ties (comes_before spec) x) (map document_of rows)) (same_tie row hs.0) (ties_seen rows hs.1)

none_left : {X : Type 0} (xs : List X) → length xs ≡ 0 → xs ≡ []
none_left [] e = refl
none_left (x ∷ xs) e = absurd (omega arith)

stable_rows : (spec : SortSpec) (rows now : List Keyed) → AllByRecursion (HasKey spec) rows → IsPermutation rows now → IsStableBy (keys_before spec) rows now →
    IsStableBy (comes_before spec) (map document_of rows) (map document_of now)
stable_rows spec [] now hs moved stable x =
    ap (λ (l : List Keyed). filter (ties (comes_before spec) x) (map document_of l)) (none_left now (length_permutation [] now moved))
stable_rows spec (first ∷ rows) now hs moved stable x =
    let probe : Keyed = record { key = sort_key spec x; document = first.document } in
    ties_seen spec x probe refl now (every_permuted (HasKey spec) (first ∷ rows) now moved hs)
    ∙ ap (λ (l : List Keyed). map document_of l) (stable probe)
    ∙ sym (ties_seen spec x probe refl (first ∷ rows) hs)

pub documents_stable : (spec : SortSpec) (rows now : List Keyed) (before documents : List Fields) → map document_of rows ≡ before →
    documents ≡ map document_of now → AllByRecursion (HasKey spec) rows → IsPermutation rows now → IsStableBy (keys_before spec) rows now →
    IsStableBy (comes_before spec) before documents
documents_stable spec rows now before documents were are hs moved stable =
    subst (λ (l : List Fields). IsStableBy (comes_before spec) l documents) were
    (subst (λ (l : List Fields). IsStableBy (comes_before spec) (map document_of rows) l) (sym are) (stable_rows spec rows now hs moved stable))
