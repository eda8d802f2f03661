-- What a call says about a log that it did not change, or appended to.
use Rattle.std.proofs.Common.{◌≡◌, ℕ, List, [], ◌++◌, IsTrue, sym, arith, append-nil}
use Rattle.outside.specs.Disks.{LeavesOnly, Outcomes}
use Rattle.outside.specs.Logs.{LogFacts, WithOrWithout}
use Rattle.node_traits.specs.Calls.{Appended, LeavesThen, LeftOff, log_call}

module _ {L : Type 0} (facts : LogFacts L) where
  -- a log that is unchanged has no record more
  pub left_alone : (log : L) → Appended (log_call facts log log) []
  left_alone log = record {
    grown = λ told. sym (append-nil (facts.records log));
    whole = λ told. record {
      later = omega arith;
      before = λ t file le left. left;
      each = λ t file past to left. absurd (omega (arith, past, to));
    };
  }

  later_too : (old new : L) (P : Outcomes) → LeavesOnly facts.moment facts.left_at old new P → LeavesThen facts.moment facts.left_at old new P
  later_too old new P only = record {
    later = only.later;
    before = only.before;
    each = λ t file past to left. only.each t file (omega (arith, past)) to left;
  }

  -- what an append says
  pub was_appended : (old new : L) (more : List (List ℕ)) → (IsTrue facts.tells → facts.records new ≡ facts.records old ++ more) → (IsTrue facts.tells
      → LeavesOnly facts.moment facts.left_at old new (λ file. WithOrWithout (facts.finds file) (facts.records old) more))
      → Appended (log_call facts old new) more
  was_appended old new more grown whole = record { grown = grown; whole = λ told. later_too old new _ (whole told) }

  -- what a call says that failed at a disk
  pub was_left_off : (old new : L) (more : List (List ℕ)) → WithOrWithout (facts.holds new) (facts.records old) more → (IsTrue facts.tells
      → LeavesOnly facts.moment facts.left_at old new (λ file. WithOrWithout (facts.finds file) (facts.records old) more))
      → LeftOff (log_call facts old new) more
  was_left_off old new more left whole = record { left = left; whole = λ told. later_too old new _ (whole told) }
