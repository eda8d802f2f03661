-- The answers that reads may get.
use Rattle.std.proofs.Common.{◌≡◌, ◌≢◌, ap, sym, subst, ◌∙◌, ℕ, ◌<◌, ◌-◌, ◌^◌, ◌⊎◌, inl, inr, ⊎_elim, List, [], ◌∷◌, ◌++◌, drop, length, Bool, true, false, arith}
use Rattle.std.specs.Prelude.{codes, min, option_map, Option, Some, None, Result, Ok, Err, pos}
use Rattle.group_accum.specs.Sizes.{capped}
use Rattle.command_model.specs.Answers.{Answer, count_answer, first_answer, refusal_answer}
use Rattle.pipeline_model.specs.Batches.{IsBatch}
use Rattle.base_model.specs.Errors.{overflow}
use Rattle.base_model.specs.Identities.{RequestId}
use Rattle.pipeline_model.specs.Halves.{Merge, Rows, MergesInTurn}
use Rattle.pipeline_model.specs.Lengths.{excess_of_answer}
use Rattle.node_model.specs.Letters.{Letter, HalfFault, half_excess, half_overflow}
use Rattle.base_model.specs.Refusals.{without_evidence}
use Rattle.node_model.specs.RouterNext.{also_part, awaited, rows_of}
use Rattle.node_model.specs.RouterRows.{as_before, batch_of, gives_number, new_cursor, next_number, router_excess, router_overflow, router_read, tells_batch, tells_cursor, tells_excess, tells_number, tells_overflow, too_much}
use Rattle.pipeline_model.specs.Runs.{Outcome, count_documents, listed, overflowed}
use Rattle.pipeline_model.specs.Split.{split}
use Rattle.pipeline_model.specs.Stages.{Stage}
use Rattle.node_model.specs.States.{Telling, as_number, in_batches, Open, Router, reading}
use Rattle.bson_model.specs.Tree.{Fields}
use Rattle.router_cursors.specs.Marks.{is_left}
use Rattle.router_node.specs.Tellings.{IsPart, MayTell, MayTellMerged, MayTellOf}

-- an excess that fits into 64 bits
pub not_capped : (excess : Option ℕ) (bytes : ℕ) → option_map capped excess ≡ Some bytes → bytes < 2 ^ 64 - 1 → excess ≡ Some bytes
not_capped None bytes e low = absurd (cc e)
not_capped (Some n) bytes e low =
    let same : min n (2 ^ 64 - 1) ≡ bytes = some_number (min n (2 ^ 64 - 1)) bytes e in
    let is : n ≡ bytes = omega (arith, same, low) in
    ap (λ (k : ℕ). Some k) is
  where
    some_number : (a b : ℕ) → ◌≡◌ {A = Option ℕ} (Some a) (Some b) → a ≡ b
    some_number a b e = cc

left_some : (documents : List Fields) → is_left documents ≡ true → documents ≢ []
left_some [] e = absurd (cc e)
left_some (d ∷ documents) e = λ none. absurd (cc none)

module _ (r : Router) (m : Letter) (q : Open) (at : ℕ) where
  module _ (size : ℕ) (single : Bool) (documents batch rest : List Fields) (short : excess_of_answer documents ≡ None) (is : IsBatch (Some size) documents batch) (left : rest ≡ drop (length batch) documents)
      (may : MayTellOf r m q at (in_batches size single) (listed documents)) where
    -- a first batch without a cursor
    pub may_batch : (answer : Answer) → (rest ≡ []) ⊎ (single ≡ true) → answer ≡ first_answer (batch_of q at (pos 0) batch) → MayTell r m q answer (as_before r)
    may_batch answer only told =
        subst (λ (a : Answer). MayTell r m q a (as_before r)) (sym told)
        (may (first_answer (batch_of q at (pos 0) batch)) (as_before r) (tells_batch size single documents batch short is
        (⊎_elim (λ none. inl (sym left ∙ none)) (λ one. inr one) only)))

    -- one with a cursor
    pub may_cursor : single ≡ false → is_left rest ≡ true
        → MayTell r m q (first_answer (batch_of q at (pos (next_number r)) batch)) (gives_number r (r.cursors ++ new_cursor r q at rest ∷ []))
    may_cursor many some =
        subst (λ (l : List Fields). MayTell r m q (first_answer (batch_of q at (pos (next_number r)) batch)) (gives_number r (r.cursors ++ new_cursor r q at l ∷ []))) (sym left)
        (subst (λ (b : Bool). MayTellOf r m q at (in_batches size b) (listed documents)) many may
        (first_answer (batch_of q at (pos (next_number r)) batch)) (gives_number r (r.cursors ++ new_cursor r q at (drop (length batch) documents) ∷ []))
        (tells_cursor size documents batch short is (subst (λ (l : List Fields). l ≢ []) left (left_some rest some))))

  -- a number
  pub may_number : (documents : List Fields) (n : ℕ) → MayTellOf r m q at as_number (listed documents) → documents ≡ count_documents (codes "n") n → MayTell r m q (count_answer n at) (as_before r)
  may_number documents n may is =
      subst (λ (l : List Fields). MayTellOf r m q at as_number (listed l)) is may (count_answer n at) (as_before r) (tells_number n)

  -- that the result is too large
  pub may_excess : (telling : Telling) (documents : List Fields) (bytes : ℕ) (answer : Answer) → MayTellOf r m q at telling (listed documents) → option_map capped (excess_of_answer documents) ≡ Some bytes
      → bytes < 2 ^ 64 - 1 → answer ≡ refusal_answer (too_much bytes) → MayTell r m q answer (as_before r)
  may_excess telling documents bytes answer may excess low told =
      subst (λ (a : Answer). MayTell r m q a (as_before r)) (sym told)
      (may (refusal_answer (too_much bytes)) (as_before r) (tells_excess telling documents bytes (not_capped (excess_of_answer documents) bytes excess low)))

-- the rows of a read merge to this
pub may_tell : (r : Router) (m : Letter) (q : Open) (at : ℕ) (telling : Telling) (by merge : Merge) (all : List Rows) (out : Outcome) → by ≡ merge → MayTellMerged r m q at telling merge all
    → MergesInTurn by all out → MayTellOf r m q at telling out
may_tell r m q at telling by merge all out same may merges = may out (subst (λ (x : Merge). MergesInTurn x all out) same merges)

pub may_overflow : (r : Router) (m : Letter) (q : Open) (at : ℕ) (telling : Telling) (answer : Answer) → MayTellOf r m q at telling overflowed → answer ≡ refusal_answer (without_evidence overflow)
    → MayTell r m q answer (as_before r)
may_overflow r m q at telling answer may told =
    subst (λ (a : Answer). MayTell r m q a (as_before r)) (sym told) (may (refusal_answer (without_evidence overflow)) (as_before r) (tells_overflow telling))

-- all parts of an open read have come
module _ (r : Router) (m : Letter) (id : RequestId) (q : Open) (told : Result Rows HalfFault) (named : Bool) (at : ℕ) (stages : List Stage) (telling : Telling) (part : IsPart r m id q told)
    (work : q.work ≡ reading named at stages telling) (last : awaited q.targets (also_part q.parts m.sender told) ≡ []) where
  pub may_merged : (all : List Rows) → rows_of q.targets (also_part q.parts m.sender told) ≡ Ok all → MayTellMerged r m q at telling (split stages).1 all
  may_merged all gathered = λ out merges answer f tells.
      router_read r m id told q named at stages telling all out answer f part.body part.opened work part.sent last gathered merges tells

  -- one has no rows
  pub may_fail : (answer : Answer) → rows_of q.targets (also_part q.parts m.sender told) ≡ Err half_overflow → answer ≡ refusal_answer (without_evidence overflow) → MayTell r m q answer (as_before r)
  may_fail answer gathered is =
      subst (λ (a : Answer). MayTell r m q a (as_before r)) (sym is) (router_overflow r m id told q named at stages telling part.body part.opened work part.sent last gathered)

  pub may_exceed : (bytes : ℕ) (answer : Answer) → rows_of q.targets (also_part q.parts m.sender told) ≡ Err (half_excess bytes) → answer ≡ refusal_answer (too_much bytes) → MayTell r m q answer (as_before r)
  may_exceed bytes answer gathered is =
      subst (λ (a : Answer). MayTell r m q a (as_before r)) (sym is) (router_excess r m id told bytes q named at stages telling part.body part.opened work part.sent last gathered)
