-- Documents of one length: how long they are together, and which length is too much.
use Rattle.std.proofs.Common.{◌≡◌, ℕ, zero, suc, ◌+◌, ◌*◌, ◌<◌, ◌≤◌, List, [], ◌∷◌, length, take, refl, sym, ap, subst, ◌∙◌, arith, codes}
use Rattle.std.specs.Prelude.{Bool, true, false, cond, Option, Some, None, filter, nat_lt, IsPermutation}
use Rattle.std.specs.List.{AllByRecursion}
use Rattle.std.proofs.lemmas.List.Sums.{sum_by-cons}
use Rattle.std.proofs.lemmas.List.Sorted.{IsPermutation-refl, IsPermutation-trans, length_permutation}
use Rattle.bson_model.specs.Tree.{Fields}
use Rattle.base_model.specs.Times.{timestamp}
use Rattle.bson_model.specs.Limits.{most_bytes_kept}
use Rattle.bson_model.proofs.Booleans.{is_false}
use Rattle.pipeline_model.specs.SortKeys.{SortSpec}
use Rattle.pipeline_model.specs.Stages.{sort_stage, limit_stage}
use Rattle.pipeline_model.specs.Runs.{no_stage_run, listed}
use Rattle.pipeline_model.specs.Halves.{Rows, document_rows, documents_end, EndsIn, in_documents}
use Rattle.pipeline_model.specs.Lengths.{document_length, documents_length, most_bytes_answered, if_more, excess_of_half, excess_of_documents, excess_of_answer}
use Rattle.pipeline_model.proofs.EachElement.{every_permuted}
use Rattle.pipeline_model.proofs.Fronts.{Opens, opened}
use Rattle.pipeline_laws.proofs.SampleRuns.{less}
use Rattle.history_model.specs.History.{Entry}
use Rattle.history_model.specs.Documents.{documents_at}
use Rattle.reply_model.specs.Reads.{is_owned, owned_by, excess_answer, excess_half}
use Rattle.reply_laws.specs.SampleLengths.{Holds, IsTooLong}
use Rattle.reply_laws.proofs.SortedOrders.{length_filtered}
use Rattle.reply_laws.specs.SampleExchanges.{created}

-- all of these are as long
abbrev pub EachIs : ℕ → List Fields → Type 0
EachIs bytes documents = AllByRecursion (λ document. document_length document ≡ bytes) documents

pub length_together : (bytes : ℕ) (documents : List Fields) → EachIs bytes documents → documents_length documents ≡ length documents * bytes
length_together bytes [] each = omega arith
length_together bytes (d ∷ documents) each =
    let more = length_together bytes documents each.1 in
    sum_by-cons document_length d documents ∙ ap (λ k. k + documents_length documents) each.0 ∙ ap (λ k. bytes + k) more ∙ omega arith

each_passed : (bytes : ℕ) (test : Fields → Bool) (documents : List Fields) → EachIs bytes documents → EachIs bytes (filter test documents)
each_passed bytes test [] each = tt
each_passed bytes test (d ∷ documents) each = by_test (test d) (each_passed bytes test documents each.1)
  where
    by_test : (b : Bool) → EachIs bytes (filter test documents) → EachIs bytes (cond b (d ∷ filter test documents) (filter test documents))
    by_test true more = (each.0, more)
    by_test false more = more

each_taken : (bytes n : ℕ) (documents : List Fields) → EachIs bytes documents → EachIs bytes (take n documents)
each_taken bytes zero [] each = tt
each_taken bytes zero (d ∷ documents) each = tt
each_taken bytes (suc n) [] each = tt
each_taken bytes (suc n) (d ∷ documents) each = (each.0, each_taken bytes n documents each.1)

few_taken : (n : ℕ) (documents : List Fields) → length (take n documents) ≤ n
few_taken zero [] = omega arith
few_taken zero (d ∷ documents) = omega arith
few_taken (suc n) [] = omega arith
few_taken (suc n) (d ∷ documents) = omega (arith, few_taken n documents)

-- LENGTHS THAT ARE TOO MUCH

no_more : (limit k : ℕ) → k ≤ limit → if_more limit k ≡ None
no_more limit k few = ap (λ (b : Bool). cond b (Some k) None) (is_false (nat_lt limit k) (λ e. let over = less limit k e in omega arith))

more_is : (limit k n : ℕ) → if_more limit k ≡ Some n → (n ≡ k) × (limit < k)
more_is limit k n is = by_value (nat_lt limit k) refl is
  where
    by_value : (b : Bool) → nat_lt limit k ≡ b → cond b (Some k) None ≡ Some n → (n ≡ k) × (limit < k)
    by_value true e is = (let same : k ≡ n = cc in sym same, less limit k e)
    by_value false e is = absurd (cc)

none_longer : (bytes : ℕ) (documents : List Fields) → bytes ≤ most_bytes_kept → EachIs bytes documents → excess_of_documents documents ≡ None
none_longer bytes [] kept each = refl
none_longer bytes (d ∷ documents) kept each =
    ap (λ (o : Option ℕ). elim o as (λ (p : Option ℕ). Option ℕ) [ None ↦ excess_of_documents documents | Some n ↦ Some n ])
    (no_more most_bytes_kept (document_length d) (omega (arith, each.0)))
    ∙ none_longer bytes documents kept each.1

-- where no document is too long by itself, it is the length of all
answer_is : (bytes n : ℕ) (answer : List Fields) → bytes ≤ most_bytes_kept → EachIs bytes answer → excess_of_answer answer ≡ Some n
    → (n ≡ length answer * bytes) × (most_bytes_answered < length answer * bytes)
answer_is bytes n answer kept each is = by_more (if_more most_bytes_answered (documents_length answer)) refl is
  where
    by_more : (o : Option ℕ) → if_more most_bytes_answered (documents_length answer) ≡ o
        → elim o as (λ (p : Option ℕ). Option ℕ) [ None ↦ excess_of_documents answer | Some k ↦ Some k ] ≡ Some n
        → (n ≡ length answer * bytes) × (most_bytes_answered < length answer * bytes)
    by_more None e is = absurd (let f : None ≡ Some n = sym (none_longer bytes answer kept each) ∙ is in cc)
    by_more (Some k) e is =
        let same : k ≡ n = cc in
        let more = more_is most_bytes_answered (documents_length answer) k e in
        let whole = length_together bytes answer each in
        (sym same ∙ more.0 ∙ whole, subst (λ m. most_bytes_answered < m) whole more.1)

half_is : (bytes n : ℕ) (documents : List Fields) → EachIs bytes documents → excess_of_half (document_rows documents) ≡ Some n
    → (n ≡ length documents * bytes) × (most_bytes_answered < length documents * bytes)
half_is bytes n documents each is =
    let more = more_is most_bytes_answered (documents_length documents) n is in
    let whole = length_together bytes documents each in
    (more.0 ∙ whole, subst (λ m. most_bytes_answered < m) whole more.1)

-- READS

same_list : (documents others : List Fields) → listed documents ≡ listed others → documents ≡ others
same_list documents others e = cc

rows_are : (documents : List Fields) (rows : Rows) → EndsIn documents_end documents rows → rows ≡ document_rows documents
rows_are documents rows (in_documents docs) = refl

-- there are no more than that, each as long
pub record AreAtMost (bytes most : ℕ) (documents : List Fields) : Type 0 where
  pub few : length documents ≤ most
  pub each : EachIs bytes documents

moved_too : (bytes most : ℕ) (documents others : List Fields) → IsPermutation documents others → AreAtMost bytes most documents → AreAtMost bytes most others
moved_too bytes most documents others moved are = record {
  few = omega (arith, are.few, length_permutation documents others moved);
  each = every_permuted (λ document. document_length document ≡ bytes) documents others moved are.each;
}

owned_too : (bytes most shard time : ℕ) (documents : List Fields) → AreAtMost bytes most documents
    → AreAtMost bytes most (owned_by created (codes "d.c") shard time documents)
owned_too bytes most shard time documents are = record {
  few = omega (arith, are.few, length_filtered (is_owned created (codes "d.c") shard time) documents);
  each = each_passed bytes (is_owned created (codes "d.c") shard time) documents are.each;
}

-- what is too much is the length of some of these
pub record IsLengthOf (bytes most n : ℕ) : Type 0 where
  pub some : ℕ
  pub few : some ≤ most
  pub length_of : n ≡ some * bytes
  pub more : most_bytes_answered < some * bytes

module _ (history : List Entry) (bytes count n : ℕ) (held : Holds count bytes history) where
  abbrev there : List Fields
  there = documents_at history (codes "d.c") (timestamp 1000 4)

  all_there : AreAtMost bytes count there
  all_there = record { few = omega (arith, held.many); each = held.long }

  pub of_whole : bytes ≤ most_bytes_kept → IsTooLong history [] n → IsLengthOf bytes count n
  of_whole kept (excess_answer answer gives is) =
      let same : answer ≡ gives.ordered = same_list answer gives.ordered (opened gives.runs) in
      let are = moved_too bytes count there gives.ordered gives.permutes all_there in
      let such = answer_is bytes n gives.ordered kept are.each (subst (λ (l : List Fields). excess_of_answer l ≡ Some n) same is) in
      record { some = length gives.ordered; few = are.few; length_of = such.0; more = such.1 }
  of_whole kept (excess_half shard ordered rows moved half is) = of_half shard ordered rows half.left moved (same_list half.left ordered (opened half.runs))
      (rows_are half.left rows half.ends) is
    where
      of_half : (shard : ℕ) (ordered : List Fields) (rows : Rows) (left : List Fields)
          → IsPermutation (owned_by created (codes "d.c") shard (timestamp 1000 4) there) ordered
          → left ≡ ordered → rows ≡ document_rows left → excess_of_half rows ≡ Some n → IsLengthOf bytes count n
      of_half shard ordered rows left moved same ends is =
          let are = moved_too bytes count (owned_by created (codes "d.c") shard (timestamp 1000 4) there) ordered moved
          (owned_too bytes count shard (timestamp 1000 4) there all_there) in
          let such = half_is bytes n ordered are.each (subst (λ (r : Rows). excess_of_half r ≡ Some n) (ends ∙ ap document_rows same) is) in
          record { some = length ordered; few = are.few; length_of = such.0; more = such.1 }

  pub of_first : (spec : SortSpec) (most : ℕ) → bytes ≤ most_bytes_kept → IsTooLong history (sort_stage spec ∷ limit_stage most ∷ []) n
      → IsLengthOf bytes most n
  of_first spec most kept (excess_answer answer gives is) =
      let run = opened gives.runs in
      let same : answer ≡ take most run.0 = same_list answer (take most run.0) (opened (opened run.3)) in
      let are = moved_too bytes count there run.0 (IsPermutation-trans there gives.ordered run.0 gives.permutes run.1) all_there in
      let such = answer_is bytes n (take most run.0) kept (each_taken bytes most run.0 are.each)
      (subst (λ (l : List Fields). excess_of_answer l ≡ Some n) same is) in
      record { some = length (take most run.0); few = few_taken most run.0; length_of = such.0; more = such.1 }
  of_first spec most kept (excess_half shard ordered rows moved half is) = of_half shard ordered rows half.left moved (opened half.runs)
      (rows_are half.left rows half.ends) is
    where
      of_half : (shard : ℕ) (ordered : List Fields) (rows : Rows) (left : List Fields)
          → IsPermutation (owned_by created (codes "d.c") shard (timestamp 1000 4) there) ordered
          → Opens (sort_stage spec ∷ limit_stage most ∷ []) ordered (listed left) → rows ≡ document_rows left → excess_of_half rows ≡ Some n
          → IsLengthOf bytes most n
      of_half shard ordered rows left moved run ends is =
          let same : left ≡ take most run.0 = same_list left (take most run.0) (opened (opened run.3)) in
          let are = moved_too bytes count (owned_by created (codes "d.c") shard (timestamp 1000 4) there) run.0
          (IsPermutation-trans (owned_by created (codes "d.c") shard (timestamp 1000 4) there) ordered run.0 moved run.1)
          (owned_too bytes count shard (timestamp 1000 4) there all_there) in
          let such = half_is bytes n (take most run.0) (each_taken bytes most run.0 are.each)
          (subst (λ (r : Rows). excess_of_half r ≡ Some n) (ends ∙ ap document_rows same) is) in
          record { some = length (take most run.0); few = few_taken most run.0; length_of = such.0; more = such.1 }

  pub whole_is : (m : ℕ) → excess_of_answer there ≡ Some m → IsTooLong history [] m
  whole_is m is = excess_answer there (record { ordered = there; permutes = IsPermutation-refl there; runs = no_stage_run there }) is

-- A LONGER DOCUMENT

abbrev pub excess_by : List Fields → ℕ → Option ℕ
excess_by documents bytes = elim (if_more most_bytes_answered bytes) [ None ↦ excess_of_documents documents | Some n ↦ Some n ]

first_longer : (documents : List Fields) → length documents ≡ 1 → EachIs 16777217 documents → excess_of_documents documents ≡ Some 16777217
first_longer [] one each = absurd (omega (arith, one))
first_longer (d ∷ documents) one each =
    ap (λ k. elim (if_more most_bytes_kept k) as (λ (p : Option ℕ). Option ℕ) [ None ↦ excess_of_documents documents | Some n ↦ Some n ]) each.0

pub longer_is : (documents : List Fields) → length documents ≡ 1 → EachIs 16777217 documents → excess_of_answer documents ≡ Some 16777217
longer_is documents one each =
    let bytes : documents_length documents ≡ 16777217 = length_together 16777217 documents each ∙ ap (λ k. k * 16777217) one in
    ap (λ k. excess_by documents k) bytes ∙ first_longer documents one each

pub only_longer : (history : List Entry) (n : ℕ) → Holds 1 16777217 history → IsTooLong history [] n → n ≡ 16777217
only_longer history n held (excess_answer answer gives is) =
    let same : answer ≡ gives.ordered = same_list answer gives.ordered (opened gives.runs) in
    let there = documents_at history (codes "d.c") (timestamp 1000 4) in
    let are = moved_too 16777217 1 there gives.ordered gives.permutes (record { few = omega (arith, held.many); each = held.long }) in
    let one : length gives.ordered ≡ 1 = length_permutation there gives.ordered gives.permutes ∙ held.many in
    let both : Some n ≡ Some 16777217 = sym is ∙ ap excess_of_answer same ∙ longer_is gives.ordered one are.each in
    cc
only_longer history n held (excess_half shard ordered rows moved half is) =
    absurd (of_half ordered rows half.left moved (same_list half.left ordered (opened half.runs)) (rows_are half.left rows half.ends) is)
  where
    of_half : (ordered : List Fields) (rows : Rows) (left : List Fields) → IsPermutation
        (owned_by created (codes "d.c") shard (timestamp 1000 4) (documents_at history (codes "d.c") (timestamp 1000 4))) ordered
        → left ≡ ordered → rows ≡ document_rows left → excess_of_half rows ≡ Some n → ⊥
    of_half ordered rows left moved same ends is =
        let are = moved_too 16777217 1 (owned_by created (codes "d.c") shard (timestamp 1000 4)
        (documents_at history (codes "d.c") (timestamp 1000 4))) ordered moved
        (owned_too 16777217 1 shard (timestamp 1000 4) (documents_at history (codes "d.c") (timestamp 1000 4))
        (record { few = omega (arith, held.many); each = held.long })) in
        let such = half_is 16777217 n ordered are.each (subst (λ (r : Rows). excess_of_half r ≡ Some n) (ends ∙ ap document_rows same) is) in
        let few = are.few in
        let more = such.1 in
        omega arith
