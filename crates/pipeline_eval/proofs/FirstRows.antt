-- What a sort with a limit keeps while documents are read: the first n of those that were read before the others, and the others.
use Rattle.std.proofs.Common.{◌≡◌, ℕ, ◌+◌, ◌-◌, ◌<◌, ◌≤◌, List, [], ◌∷◌, ◌++◌, length, get_or, map, take, drop, refl, sym, ap, ◌∙◌, subst, append_assoc, append-nil, add-one, arith}
use Rattle.std.specs.Prelude.{Bool, true, false, cond, IsPermutation, IsSortedBy}
use Rattle.std.specs.List.{AllByRecursion}
use Rattle.std.proofs.Math.Seq.{take-suc}
use Rattle.std.proofs.lemmas.List.{take-append-drop, take-append-le, drop-append-le, take_all, take-map, drop_all, length-take}
use Rattle.std.proofs.lemmas.List.Sorted.{IsPermutation-refl, IsPermutation-trans, IsPermutation-append_left, IsPermutation-append_right, IsPermutation-append_comm, IsPermutation-map}
use Rattle.pipeline_model.proofs.EachElement.{every_append, every_implies}
use Rattle.pipeline_model.proofs.OrderedLists.{Above, Up, sorted_from_up, up_across, up_append, up_from_sorted, up_left}
use Rattle.pipeline_model.proofs.TopRows.{AreFirst, first_of_more}
use Rattle.bson_values.specs.Tree.{Fields}
use Rattle.pipeline_model.specs.SortKeys.{SortSpec, comes_before}
use Rattle.pipeline_eval.specs.declared.sorting.Keyed.{Keyed}
use Rattle.pipeline_eval.specs.Keyed.{HasKey, document_of, keys_before}
use Rattle.pipeline_eval.specs.Tops.{AreTop, CameLate, IsTop}
use Rattle.pipeline_eval.proofs.Sorts.{documents_sorted, rows_chain, rows_one_way}

module _ {X : Type 0} (lt : X → X → Bool)
    (chain : (x y z : X) → lt y x ≡ false → lt z y ≡ false → lt z x ≡ false) (one_way : (x y : X) → lt y x ≡ true → lt x y ≡ false)
    (n : ℕ) (some : 1 ≤ n) where
  short : (xs : List X) → length (take n xs) ≤ n
  short xs = omega (arith, length-take n xs)

  -- one more is kept
  pub top_more : (cut : ℕ) (docs rows : List X) (x : X) → cut ≤ length rows → IsTop lt n cut docs rows → IsTop lt n cut (docs ++ x ∷ []) (rows ++ x ∷ [])
  top_more cut docs rows x within top = record {
    before = top.before;
    first = subst (λ (l : List X). AreFirst lt n top.before l) (sym (take-append-le cut rows (x ∷ []) within)) top.first;
    others =
        subst (λ (l : List X). IsPermutation (docs ++ x ∷ []) l)
        (append_assoc top.before (drop cut rows) (x ∷ []) ∙ ap (λ (l : List X). top.before ++ l) (sym (drop-append-le cut rows (x ∷ []) within)))
        (IsPermutation-append_left (x ∷ []) docs (top.before ++ drop cut rows) top.others);
  }

  -- of all that were read, the first n are the first n of the sorted rows
  first_of_all : (cut : ℕ) (docs rows sorted : List X) (top : IsTop lt n cut docs rows) → IsPermutation rows sorted → IsSortedBy lt sorted →
      AreFirst lt n (top.before ++ drop cut rows) (take n sorted)
  first_of_all cut docs rows sorted top moved up =
      first_of_more lt chain one_way n top.before (take cut rows) (drop cut rows) sorted some top.first
      (subst (λ (l : List X). IsPermutation l sorted) (sym (take-append-drop cut rows)) moved) up

  -- the rows are sorted and cut
  pub top_cut : (cut : ℕ) (docs rows sorted : List X) → IsTop lt n cut docs rows → IsPermutation rows sorted → IsSortedBy lt sorted →
      IsTop lt n n docs (take n sorted)
  top_cut cut docs rows sorted top moved up = record {
    before = top.before ++ drop cut rows;
    first =
        subst (λ (l : List X). AreFirst lt n (top.before ++ drop cut rows) l) (sym (take_all n (take n sorted) (short sorted)))
        (first_of_all cut docs rows sorted top moved up);
    others =
        subst (λ (l : List X). IsPermutation docs l)
        (sym (ap (λ (l : List X). (top.before ++ drop cut rows) ++ l) (drop_all n (take n sorted) (short sorted))
        ∙ append-nil (top.before ++ drop cut rows))) top.others;
  }

  pub top_done : (cut : ℕ) (docs rows sorted : List X) → IsTop lt n cut docs rows → IsPermutation rows sorted → IsSortedBy lt sorted →
      AreFirst lt n docs (take n sorted)
  top_done cut docs rows sorted top moved up =
      let all = first_of_all cut docs rows sorted top moved up in
      record { whole = all.whole; permutes = IsPermutation-trans _ _ _ top.others all.permutes; sorted = all.sorted; first = all.first }

  -- what does not sort before the last does not sort before any
  below_none : (front : List X) (last x : X) → Up lt chain one_way (front ++ last ∷ []) → lt x last ≡ false →
      AllByRecursion (λ y. Above lt chain one_way y (x ∷ [])) (front ++ last ∷ [])
  below_none front last x up late =
      every_append (λ y. Above lt chain one_way y (x ∷ [])) front (last ∷ [])
      (every_implies (λ y. Above lt chain one_way y (last ∷ [])) (λ y. Above lt chain one_way y (x ∷ [])) (λ y above. (chain y last x above.0 late, tt)) front
      (up_across lt chain one_way front (last ∷ []) up))
      ((late, tt), tt)

  taken_up : (docs kept : List X) → AreFirst lt n docs kept → Up lt chain one_way kept
  taken_up docs kept first =
      subst (λ (l : List X). Up lt chain one_way l) (sym first.first)
      (up_left lt chain one_way (take n first.whole) (drop n first.whole)
      (subst (λ (l : List X). Up lt chain one_way l) (sym (take-append-drop n first.whole)) (up_from_sorted lt chain one_way first.whole first.sorted)))

  -- one that sorts too late is dropped
  pub top_late : (docs rows : List X) (k : ℕ) (x last : X) → n ≡ k + 1 → n ≤ length rows → last ≡ get_or rows k last → lt x last ≡ false →
      IsTop lt n n docs rows → IsTop lt n n (docs ++ x ∷ []) rows
  top_late docs rows k x last is full there late top =
      let less : k < length rows = omega (arith, is, full) in
      let one_more : take (k + 1) rows ≡ take k rows ++ last ∷ [] =
      rw add-one (take-suc rows k last less ∙ ap (λ (y : X). take k rows ++ y ∷ []) (sym there)) in
      let kept : take n rows ≡ take k rows ++ last ∷ [] = ap (λ (m : ℕ). take m rows) is ∙ one_more in
      let up : Up lt chain one_way (take k rows ++ last ∷ []) =
      subst (λ (l : List X). Up lt chain one_way l) kept (taken_up top.before (take n rows) top.first) in
      let more : Up lt chain one_way (take n rows ++ x ∷ []) =
      subst (λ (l : List X). Up lt chain one_way (l ++ x ∷ [])) (sym kept)
      (up_append lt chain one_way (take k rows ++ last ∷ []) (x ∷ []) up (tt, tt) (below_none (take k rows) last x up late)) in
      let long : n ≤ length (take n rows) = omega (arith, length-take n rows, full) in
      record {
        before = top.before ++ x ∷ [];
        first =
            subst (λ (l : List X). AreFirst lt n (top.before ++ x ∷ []) l)
            (take-append-le n (take n rows) (x ∷ []) long ∙ take_all n (take n rows) (short rows))
            (first_of_more lt chain one_way n top.before (take n rows) (x ∷ []) (take n rows ++ x ∷ []) some top.first
            (IsPermutation-refl (take n rows ++ x ∷ [])) (sorted_from_up lt chain one_way (take n rows ++ x ∷ []) more));
        others =
            IsPermutation-trans _ _ _ (IsPermutation-append_left (x ∷ []) docs (top.before ++ drop n rows) top.others)
            (subst (λ (l : List X). IsPermutation ((top.before ++ drop n rows) ++ x ∷ []) l) (sym (append_assoc top.before (x ∷ []) (drop n rows)))
            (subst (λ (l : List X). IsPermutation l (top.before ++ (x ∷ [] ++ drop n rows))) (sym (append_assoc top.before (drop n rows) (x ∷ [])))
            (IsPermutation-append_right top.before (drop n rows ++ x ∷ []) (x ∷ [] ++ drop n rows) (IsPermutation-append_comm (drop n rows) (x ∷ [])))));
      }

module _ (spec : SortSpec) (n : ℕ) (some : 1 ≤ n) where
  pub late_put : (is_cut : Bool) (seen rows : List Keyed) (row : Keyed) → is_cut ≡ true → cond is_cut n 0 ≤ length rows → CameLate spec n rows row.key →
      AreTop spec n is_cut seen rows → AreTop spec n is_cut (seen ++ row ∷ []) rows
  late_put true seen rows row e within late top =
      top_late (keys_before spec) (rows_chain spec) (rows_one_way spec) n some seen rows (n - 1) row late.0 (omega arith) within late.1 late.2 top
  late_put false seen rows row e within late top = absurd (cc e)

  pub more_put : (is_cut : Bool) (seen rows now : List Keyed) (row : Keyed) → now ≡ rows ++ row ∷ [] → cond is_cut n 0 ≤ length rows →
      AreTop spec n is_cut seen rows → AreTop spec n is_cut (seen ++ row ∷ []) now
  more_put is_cut seen rows now row put within top =
      subst (λ (l : List Keyed). AreTop spec n is_cut (seen ++ row ∷ []) l) (sym put)
      (top_more (keys_before spec) (rows_chain spec) (rows_one_way spec) n some (cond is_cut n 0) seen rows row within top)

  pub rows_cut : (is_cut : Bool) (seen rows sorted now : List Keyed) → IsPermutation rows sorted → IsSortedBy (keys_before spec) sorted → now ≡ take n sorted →
      AreTop spec n is_cut seen rows → AreTop spec n true seen now
  rows_cut is_cut seen rows sorted now moved up cut top =
      subst (λ (l : List Keyed). AreTop spec n true seen l) (sym cut)
      (top_cut (keys_before spec) (rows_chain spec) (rows_one_way spec) n some (cond is_cut n 0) seen rows sorted top moved up)

  -- the documents of the first rows are the first documents
  pub documents_first : (is_cut : Bool) (seen rows sorted now : List Keyed) (docs left : List Fields) → map document_of seen ≡ docs →
      AllByRecursion (HasKey spec) seen → AreTop spec n is_cut seen rows → IsPermutation rows sorted → IsSortedBy (keys_before spec) sorted →
      now ≡ take n sorted → left ≡ map document_of now → AreFirst (comes_before spec) n docs left
  documents_first is_cut seen rows sorted now docs left are hs top moved up cut shown =
      let first = top_done (keys_before spec) (rows_chain spec) (rows_one_way spec) n some (cond is_cut n 0) seen rows sorted top moved up in
      record {
        whole = map document_of first.whole;
        permutes =
            subst (λ (l : List Fields). IsPermutation l (map document_of first.whole)) are (IsPermutation-map document_of seen first.whole first.permutes);
        sorted = documents_sorted spec seen first.whole (map document_of first.whole) refl hs first.permutes first.sorted;
        first = shown ∙ ap (λ (l : List Keyed). map document_of l) (cut ∙ first.first) ∙ sym (take-map document_of n first.whole);
      }
