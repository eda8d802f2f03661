-- How long a batch is, document by document.
use Rattle.std.proofs.Common.{◌≡◌, ℕ, suc, ◌+◌, [], ◌∷◌, ◌<◌, ◌≤◌, ◌-◌, ◌^◌, ◌⊎◌, inl, inr, ⊎_elim, List, ◌++◌, length, map, take, drop, get_or, Result, Ok, Err, refl, sym, ap, ◌∙◌, subst, add-one, arith}
use Rattle.std.specs.Prelude.{Bool, true, false, ◌&&◌, min, Option, Some, None, IfOk, OnOk, nat_lt}
use Rattle.std.proofs.lemmas.Bool.{cases_lt, leb-true, ltb-true, lt-ltb}
use Rattle.std.proofs.lemmas.List.{length-take-le, take-take, take-map, drop-map, length-map, map-append}
use Rattle.std.proofs.Math.ListN.{get_or-map}
use Rattle.std.proofs.Math.Seq.{take-append_seam, take-suc, drop-append_seam}
use Rattle.std.proofs.lemmas.List.Sums.{sum_by-take-le, sum_by_more}
use Rattle.std.proofs.lemmas.Bool.Decides.{leb_tells}
use Rattle.bson_model.specs.Tree.{Fields}
use Rattle.bson_model.specs.Limits.{most_bytes_kept}
use Rattle.pipeline_model.specs.Lengths.{document_length, documents_length}
use Rattle.pipeline_model.specs.Batches.{IsFew, MayBeBatch, IsBatch}
use Rattle.cursor_shelf.specs.Cursors.{IsLongest, is_reached}
use Rattle.bson_model.proofs.Booleans.{both}

few_none : (size : Option ℕ) → IsFew size 0
few_none None = tt
few_none (Some most) = omega arith

pub none_yet : (size : Option ℕ) (docs : List Fields) → MayBeBatch size docs 0
none_yet size docs = record { there = omega arith; few = few_none size; small = inl (omega (arith, length-take-le 0 docs (omega arith))) }

few_more : (size : Option ℕ) (n : ℕ) → is_reached size n ≡ false → IsFew size (n + 1)
few_more None n e = tt
few_more (Some most) n e = grind (arith, leb_tells)

few_all : (size : Option ℕ) (n m : ℕ) → is_reached size n ≡ true → IsFew size m → m ≤ n
few_all None n m e h = absurd cc
few_all (Some most) n m e h = omega (arith, leb-true most n e)

module _ (size : Option ℕ) (docs : List Fields) (n : ℕ) where
  -- one more document
  pub goes_on : n < length docs → is_reached size n ≡ false → (n ≡ 0) ⊎ (documents_length (take (n + 1) docs) ≤ most_bytes_kept) →
      MayBeBatch size docs (n + 1)
  goes_on less unreached short = record {
    there = omega arith;
    few = few_more size n unreached;
    small = ⊎_elim (λ first. inl (omega (arith, first, length-take-le (n + 1) docs (omega arith)))) (λ few. inr few) short;
  }

  pub stops_by_size : is_reached size n ≡ true → MayBeBatch size docs n → IsLongest size docs n
  stops_by_size reached may = record { may = may; longest = λ m h. few_all size n m reached h.few }

  -- more documents have no fewer bytes
  no_fewer : (m : ℕ) → n + 1 ≤ m → documents_length (take (n + 1) docs) ≤ documents_length (take m docs)
  no_fewer m le = rw (sym (take-take (n + 1) m docs le)) (sum_by-take-le document_length (take m docs) (n + 1))

  not_longer : (m : ℕ) → 0 < n → most_bytes_kept < documents_length (take (n + 1) docs) → MayBeBatch size docs m → n + 1 ≤ m → ⊥
  not_longer m some long h le =
      ⊎_elim (λ one. omega (arith, one, length-take-le m docs h.there)) (λ short. omega (arith, short, no_fewer m le)) h.small

  pub stops_by_bytes : 0 < n → most_bytes_kept < documents_length (take (n + 1) docs) → MayBeBatch size docs n → IsLongest size docs n
  stops_by_bytes some long may = record {
    may = may;
    longest = λ m h. ⊎_elim (λ less. absurd (not_longer m some long h (omega (arith, less)))) (λ le. le) (cases_lt n m);
  }

pub at_end : (size : Option ℕ) (docs : List Fields) (n : ℕ) → n ≡ length docs → MayBeBatch size docs n → IsLongest size docs n
at_end size docs n all may = record { may = may; longest = λ m h. omega (arith, all, h.there) }

-- this number of documents is the batch
pub is_batch : (size : Option ℕ) (docs : List Fields) (n : ℕ) → IsLongest size docs n → IsBatch size docs (take n docs)
is_batch size docs n h =
    let long : length (take n docs) ≡ n = length-take-le n docs h.may.there in
    record {
      front = ap (λ k. take k docs) (sym long);
      allowed = subst (MayBeBatch size docs) (sym long) h.may;
      longest = λ m k. omega (arith, long, h.longest m k);
    }

-- the bytes of the documents that were counted; each sum is at most the greatest number of 64 bits
pub more_bytes : (docs : List Fields) (n : ℕ) (d : Fields) (bytes size sum : ℕ) → n < length docs → d ≡ get_or docs n d →
    bytes ≡ min (documents_length (take n docs)) (2 ^ 64 - 1) → size ≡ min (document_length d) (2 ^ 64 - 1) → sum ≡ min (bytes + size) (2 ^ 64 - 1) →
    sum ≡ min (documents_length (take (n + 1) docs)) (2 ^ 64 - 1)
more_bytes docs n d bytes size sum less is so_far length_is sum_is =
    let whole : documents_length (take (n + 1) docs) ≡ documents_length (take n docs) + document_length d =
    sum_by_more document_length docs n d less ∙ ap (λ (x : Fields). documents_length (take n docs) + document_length x) (sym is) in
    omega (arith, whole, so_far, length_is, sum_is)

not_both : (a b : Bool) → (a && b) ≡ false → (a ≡ false) ⊎ (b ≡ false)
not_both true b e = inr e
not_both false b e = inl refl

not_less : (a b : ℕ) → nat_lt a b ≡ false → b ≤ a
not_less a b e = ⊎_elim (λ less. absurd (cc (e, lt-ltb a b less))) (λ le. le) (cases_lt a b)

module _ (size : Option ℕ) (docs : List Fields) (n bytes : ℕ) (so_far : bytes ≡ min (documents_length (take (n + 1) docs)) (2 ^ 64 - 1)) where
  pub may_go_on : n < length docs → is_reached size n ≡ false → (nat_lt 0 n && nat_lt most_bytes_kept bytes) ≡ false → MayBeBatch size docs (n + 1)
  may_go_on less unreached short = goes_on size docs n less unreached
      (⊎_elim (λ first. inl (omega (arith, not_less 0 n first))) (λ few. inr (omega (arith, so_far, not_less most_bytes_kept bytes few)))
      (not_both (nat_lt 0 n) (nat_lt most_bytes_kept bytes) short))

  pub is_longest : (nat_lt 0 n && nat_lt most_bytes_kept bytes) ≡ true → MayBeBatch size docs n → IsLongest size docs n
  is_longest long may =
      let h = both (nat_lt 0 n) (nat_lt most_bytes_kept bytes) long in
      stops_by_bytes size docs n (ltb-true 0 n h.0) (omega (arith, so_far, ltb-true most_bytes_kept bytes h.1)) may

pub front_is : {A : Type 0} (xs ys zs : List A) (n : ℕ) → xs ++ ys ≡ zs → length xs ≡ n → xs ≡ take n zs
front_is {A = A} xs ys zs n e l = sym (take-append_seam xs ys) ∙ ap (λ (z : List A). take (length xs) z) e ∙ ap (λ k. take k zs) l

pub rest_is : {A : Type 0} (xs ys zs : List A) (n : ℕ) → xs ++ ys ≡ zs → length xs ≡ n → ys ≡ drop n zs
rest_is {A = A} xs ys zs n e l = sym (drop-append_seam xs ys) ∙ ap (λ (z : List A). drop (length xs) z) e ∙ ap (λ k. drop k zs) l

-- the first documents, as they are seen
module _ {X : Type 0} (see : X → Fields) where
  pub taken_batch : (size : Option ℕ) (items docs front : List X) (n : ℕ) → items ≡ docs → IsLongest size (map see items) n → front ≡ take n items →
      IsBatch size (map see docs) (map see front)
  taken_batch size items docs front n same h e =
      subst (λ (l : List X). IsBatch size (map see l) (map see front)) same
      (subst (λ (l : List Fields). IsBatch size (map see items) l) (take-map see n items ∙ ap (λ (l : List X). map see l) (sym e))
      (is_batch size (map see items) n h))

  pub taken_rest : (size : Option ℕ) (items docs front after : List X) (n : ℕ) → items ≡ docs → IsLongest size (map see items) n → front ≡ take n items →
      after ≡ drop n items → map see after ≡ drop (length (map see front)) (map see docs)
  taken_rest size items docs front after n same h e k =
      let within : n ≤ length items = omega (arith, h.may.there, length-map items see) in
      let long : length (map see front) ≡ n = length-map front see ∙ ap (λ (l : List X). length l) e ∙ length-take-le n items within in
      ap (λ (l : List X). map see l) k ∙ sym (drop-map see n items) ∙ ap (λ m. drop m (map see items)) (sym long)
      ∙ ap (λ (l : List X). drop (length (map see front)) (map see l)) same

  -- one more is shared
  pub one_more : (items front new : List X) (place : ℕ) (there shared : X) → place < length items → there ≡ get_or items place there → see shared ≡ see there →
      new ≡ front ++ shared ∷ [] → map see front ≡ take place (map see items) → map see new ≡ take (place + 1) (map see items)
  one_more items front new place there shared inside is same grown so_far =
      let within : place < length (map see items) = omega (arith, inside, length-map items see) in
      let seen : see shared ≡ get_or (map see items) place (see there) = same ∙ ap see is ∙ sym (get_or-map see items place there) in
      ap (λ (l : List X). map see l) grown ∙ map-append see front (shared ∷ []) ∙ ap (λ (l : List Fields). l ++ see shared ∷ []) so_far
      ∙ ap (λ (d : Fields). take place (map see items) ++ d ∷ []) seen ∙ sym (rw add-one (take-suc (map see items) place (see there) within))

-- the batch that is shared, unless memory ran out
pub shared_batch : {V E : Type 0} (seen : V → List Fields) (r : Result V E) (size : Option ℕ) (docs : List Fields) (n : ℕ) → IsLongest size docs n →
    IfOk r (λ b. seen b ≡ take n docs) → IfOk r (λ b. IsBatch size docs (seen b))
shared_batch seen (Ok b) size docs n h e = subst (λ (l : List Fields). IsBatch size docs l) (sym e) (is_batch size docs n h)
shared_batch seen (Err e) size docs n h k = tt
