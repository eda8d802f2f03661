-- For each size there is one batch of the documents that remain.
use Rattle.std.proofs.Common.{◌≡◌, ℕ, zero, suc, ◌≤◌, ◌⊎◌, inl, inr, ⊎_elim, List, length, take, sym, ap, ◌∙◌, subst, arith}
use Rattle.std.specs.Prelude.{Option, Some, None}
use Rattle.std.proofs.lemmas.Bool.{cases_lt}
use Rattle.std.proofs.lemmas.List.{length-take-le}
use Rattle.bson_model.specs.Tree.{Fields}
use Rattle.bson_model.specs.Limits.{most_bytes_kept}
use Rattle.pipeline_model.specs.Lengths.{documents_length}
use Rattle.pipeline_model.specs.Batches.{IsFew, IsSmall, MayBeBatch, IsBatch}

few_or_not : (size : Option ℕ) (n : ℕ) → IsFew size n ⊎ (IsFew size n → ⊥)
few_or_not None n = inl tt
few_or_not (Some most) n = ⊎_elim (λ more. inr (λ h. omega arith)) (λ few. inl few) (cases_lt most n)

small_or_not : (batch : List Fields) → IsSmall batch ⊎ (IsSmall batch → ⊥)
small_or_not batch =
    ⊎_elim
    (λ many. ⊎_elim (λ long. inr (λ h. ⊎_elim (λ one. omega arith) (λ short. omega arith) h)) (λ short. inl (inr short))
    (cases_lt most_bytes_kept (documents_length batch)))
    (λ one. inl (inl one))
    (cases_lt 1 (length batch))

greatest : (k n : ℕ) → k ≤ suc n → suc n ≤ k → k ≡ suc n
greatest k n le more = omega arith

module _ (size : Option ℕ) (remaining : List Fields) where
  may_or_not : (n : ℕ) → n ≤ length remaining → MayBeBatch size remaining n ⊎ (MayBeBatch size remaining n → ⊥)
  may_or_not n there =
      ⊎_elim
      (λ few. ⊎_elim (λ small. inl (record { there = there; few = few; small = small })) (λ never. inr (λ h. never h.small)) (small_or_not (take n remaining)))
      (λ never. inr (λ h. never h.few))
      (few_or_not size n)

  pub record Longest (most : ℕ) : Type 0 where
    pub length_is : ℕ
    pub may : MayBeBatch size remaining length_is
    pub longest : (k : ℕ) → k ≤ most → MayBeBatch size remaining k → k ≤ length_is

  no_more : (size' : Option ℕ) → IsFew size' 0
  no_more None = tt
  no_more (Some most) = omega arith

  none_small : (docs : List Fields) → length docs ≤ 1 → IsSmall docs
  none_small docs h = inl h

  longest : (n : ℕ) → n ≤ length remaining → Longest n
  longest zero there = record {
    length_is = zero;
    may = record {
      there = omega arith;
      few = no_more size;
      small = none_small (take zero remaining)
          (omega (arith, length-take-le zero remaining (omega arith)));
    };
    longest = λ k le h. le;
  }
  longest (suc n) there =
      let shorter = longest n (omega arith) in
      ⊎_elim (λ may. record { length_is = suc n; may = may; longest = λ k le h. le })
      (λ never. record {
        length_is = shorter.length_is;
        may = shorter.may;
        longest = λ k le h. ⊎_elim (λ less. shorter.longest k (omega arith) h)
            (λ more. absurd (never (subst (MayBeBatch size remaining) (greatest k n le more) h))) (cases_lt k (suc n));
      })
      (may_or_not (suc n) there)

  pub some_batch : (batch : List Fields) × IsBatch size remaining batch
  some_batch =
      let found = longest (length remaining) (omega arith) in
      let long : length (take found.length_is remaining) ≡ found.length_is = length-take-le found.length_is remaining found.may.there in (
        take found.length_is remaining,
        record {
          front = ap (λ n. take n remaining) (sym long);
          allowed = subst (MayBeBatch size remaining) (sym long) found.may;
          longest = λ n h. omega (arith, long, found.longest n h.there h);
        },
      )

  pub one_batch : (a b : List Fields) → IsBatch size remaining a → IsBatch size remaining b → a ≡ b
  one_batch a b h k =
      let same : length a ≡ length b = omega (arith, h.longest (length b) k.allowed, k.longest (length a) h.allowed) in
      h.front ∙ ap (λ n. take n remaining) same ∙ sym k.front
