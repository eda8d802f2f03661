-- Steps of a sequence of calls of a disk.
use Rattle.std.proofs.Common.{◌≡◌, ⊎_elim, ℕ, List, subst, arith}
use Rattle.std.proofs.lemmas.Bool.{cases_lt}
use Rattle.outside.specs.Disks.{Elapses, LeavesOnly, Outcomes}

module _ {D : Type 0} (moment : D → ℕ) (left_at : D → ℕ → Outcomes) where
  -- before the first call
  pub started : (old : D) (P : Outcomes) → ((c : List ℕ) → left_at old (moment old) c → P c) → LeavesOnly moment left_at old old P
  started old P here = record {
    later = omega arith;
    each = λ t c from to left.
        let same : t ≡ moment old = omega (arith, from, to) in
        here c (subst (λ n. left_at old n c) same left);
    before = λ t c le left. left;
  }

  -- two sequences, one after the other
  pub then_run : (old mid new : D) (P Q : Outcomes) → LeavesOnly moment left_at old mid P → LeavesOnly moment left_at mid new Q → ((c : List ℕ) → Q c → P c) → LeavesOnly moment left_at old new P
  then_run old mid new P Q first second wide = record {
    later = omega (arith, first.later, second.later);
    each = λ t c from to left. ⊎_elim (λ past. wide c (second.each t c (omega (arith, past)) to left))
        (λ within. first.each t c from within (second.before t c within left)) (cases_lt (moment mid) t);
    before = λ t c le left. first.before t c le (second.before t c (omega (arith, le, first.later)) left);
  }

  -- one more call, after which a crash results in a file with P
  pub goes_on : (old mid new : D) (P may_leave : Outcomes) → LeavesOnly moment left_at old mid P → Elapses (moment mid) (moment new) (left_at mid) (left_at new) may_leave → ((c : List ℕ) → may_leave c → P c) → LeavesOnly moment left_at old new P
  goes_on old mid new P may_leave so_far call now = record {
    later = omega (arith, so_far.later, call.later);
    each = λ t c from to left. ⊎_elim (λ past. ⊎_elim (λ was. so_far.each (moment mid) c so_far.later (omega arith) was) (λ left_now. now c left_now) (call.during t c past to left))
        (λ within. so_far.each t c from within (call.nothing_else t c within left)) (cases_lt (moment mid) t);
    before = λ t c le left. so_far.before t c le (call.nothing_else t c (omega (arith, le, so_far.later)) left);
  }

  -- where P implies Q
  pub widened : (old new : D) (P Q : Outcomes) → LeavesOnly moment left_at old new P → ((c : List ℕ) → P c → Q c) → LeavesOnly moment left_at old new Q
  widened old new P Q run wide = record {
    later = run.later;
    each = λ t c from to left. wide c (run.each t c from to left);
    before = run.before;
  }
