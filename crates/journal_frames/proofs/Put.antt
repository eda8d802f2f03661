-- The two steps of writing records to a disk.
use Rattle.std.proofs.Common.{◌≡◌, inl, ℕ, ◌+◌, List, [], ◌∷◌, ◌++◌, length, ◌∙◌, ap, subst, arith, length-append}
use Rattle.outside.specs.Disks.{After, Holds, LeavesOnly, Only, Outcomes, Torn}
use Rattle.journal_frames.specs.Files.{Fit, StandsWithOrWithout, blocks}
use Rattle.journal_frames.specs.Views.{at_rest}
use Rattle.journal_frames.proofs.Moments.{then_run, widened}
use Rattle.journal_frames.proofs.Staged.{held_behind, held_gate, staged, staged_open, torn_behind, torn_gate}

module _ (records : List (List ℕ)) (fits : Fit records) (end : ℕ) (size : end ≡ length (blocks records)) (more : List (List ℕ)) (fit : Fit more)
    (piece : List ℕ) (piece_is : 1 ∷ piece ≡ at_rest more) where
  -- the file after a crash in the first write
  pub first_held : (n : ℕ) (old c : List ℕ) → old ≡ at_rest records → Torn (end + 1) n old c → StandsWithOrWithout records more c
  first_held n old c is torn = inl (torn_behind records fits end size n c (subst (λ f. Torn (end + 1) n f c) is torn))

  pub first_crash : (n : ℕ) (old : Outcomes) → Only (at_rest records) old → (c : List ℕ) → After (Torn (end + 1) n) old c → StandsWithOrWithout records more c
  first_crash n old only c after = first_held n after.0 c (only after.0 after.1) after.2

  pub first_done : (old new : List ℕ) → old ≡ at_rest records → Holds (end + 1) piece old new → new ≡ staged records 0 piece
  first_done old new is holds = held_behind records fits end size piece new (subst (λ f. Holds (end + 1) piece f new) is holds)

  -- the file after a crash in the second write
  pub second_held : (old c : List ℕ) → old ≡ staged records 0 piece → Torn end 1 old c → StandsWithOrWithout records more c
  second_held old c is torn = torn_gate records fits end size more piece c fit piece_is (subst (λ f. Torn end 1 f c) is torn)

  pub second_crash : (file : List ℕ) (old : Outcomes) → file ≡ staged records 0 piece → Only file old → (c : List ℕ) → After (Torn end 1) old c
      → StandsWithOrWithout records more c
  second_crash file old is only c after = second_held after.0 c (only after.0 after.1 ∙ is) after.2

  pub second_done : (old new : List ℕ) → old ≡ staged records 0 piece → Holds end (1 ∷ []) old new → new ≡ at_rest (records ++ more)
  second_done old new is holds = held_gate records fits end size more piece new piece_is (subst (λ f. Holds end (1 ∷ []) f new) is holds)

  -- the offset of the next gate
  pub next_end : end + length piece ≡ length (blocks (records ++ more))
  next_end =
      let grown = ap length (staged_open records more piece piece_is) in
      omega (arith, size, grown, length-append (blocks records) (1 ∷ piece), length-append (blocks (records ++ more)) (0 ∷ []))

  module _ {D : Type 0} (moment : D → ℕ) (left_at : D → ℕ → Outcomes) (content : D → List ℕ) (may_leave : D → Outcomes) (n : ℕ) (old mid : D) where
    -- a crash at any moment of the first step, and of both
    pub first_run : LeavesOnly moment left_at old mid (After (Torn (end + 1) n) (may_leave old)) → Only (at_rest records) (may_leave old)
        → LeavesOnly moment left_at old mid (StandsWithOrWithout records more)
    first_run run only = widened moment left_at old mid _ (StandsWithOrWithout records more) run (first_crash n (may_leave old) only)

    pub both_runs : (new : D) → LeavesOnly moment left_at old mid (After (Torn (end + 1) n) (may_leave old))
        → Only (at_rest records) (may_leave old) → content mid ≡ staged records 0 piece → Only (content mid) (may_leave mid)
        → LeavesOnly moment left_at mid new (After (Torn end 1) (may_leave mid))
        → LeavesOnly moment left_at old new (StandsWithOrWithout records more)
    both_runs new run only done durable second = then_run moment left_at old mid new (StandsWithOrWithout records more) _ (first_run run only)
        second (second_crash (content mid) (may_leave mid) done durable)
