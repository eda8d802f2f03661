-- A write or a cut that was cut short.
use Rattle.std.proofs.Common.{◌≡◌, ℕ, ◌+◌, min, List, length, take, drop, refl, sym, ◌∙◌, ap, arith}
use Rattle.std.proofs.lemmas.List.{take_all, take_min, length-take, length-drop}
use Rattle.outside.specs.Disks.{After, Cut, Elapses, Follows, Holds, LeavesOnly, Outcomes, Torn, Within}
use Rattle.journal_frames.proofs.Moments.{goes_on, started}

-- nothing may have been written yet
pub torn_nothing : (at n : ℕ) (bytes : List ℕ) → Torn at n bytes bytes
torn_nothing at n bytes = record { before = take_min at bytes; after = refl; no_shorter = omega arith; no_longer = omega arith }

pub cut_nothing : (n : ℕ) (bytes : List ℕ) → Cut n bytes bytes
cut_nothing n bytes = record { no_shorter = omega arith; prefix = sym (take_all (length bytes) bytes (omega arith)) }

-- all may have been written
pub torn_all : (at : ℕ) (piece old new : List ℕ) → Holds at piece old new → Torn at (length piece) old new
torn_all at piece old new holds =
    let prefix = ap length holds.before in
    let here = ap length holds.here in
    let behind = ap length holds.after in
    record {
      before = holds.before;
      after = holds.after;
      no_shorter = omega (arith, prefix, here, behind, length-take (min at (length old)) new, length-take at old, length-take (length piece) (drop at new), length-drop at new, length-drop (at + length piece) new, length-drop (at + length piece) old);
      no_longer = omega (arith, prefix, here, behind, length-take (min at (length old)) new, length-take at old, length-take (length piece) (drop at new), length-drop at new, length-drop (at + length piece) new, length-drop (at + length piece) old);
    }

pub cut_all : (n : ℕ) (old new : List ℕ) → new ≡ take n old → Cut n old new
cut_all n old new is =
    let long = ap length is ∙ length-take n old in
    record { no_shorter = omega (arith, long); prefix = is ∙ sym (ap (λ (m : ℕ). take m old) long ∙ take_min n old) }

module _ {D : Type 0} (moment : D → ℕ) (left_at : D → ℕ → Outcomes) (may_leave : D → Outcomes) (step : List ℕ → List ℕ → Type 0) where
  -- A change and a sync: each crash since the start results in an old outcome after a part of the change.
  pub change_run : (old new : D) → ((c : List ℕ) → left_at old (moment old) c → may_leave old c) → ((d : List ℕ) → step d d) → Follows step (may_leave old) (may_leave new) → Elapses (moment old) (moment new) (left_at old) (left_at new) (may_leave new) → LeavesOnly moment left_at old new (After step (may_leave old))
  change_run old new only nothing follows call =
      goes_on moment left_at old old new (After step (may_leave old)) (may_leave new)
      (started moment left_at old (After step (may_leave old)) (λ c left. (c, only c left, nothing c))) call follows

  pub synced_run : (old mid new : D) → LeavesOnly moment left_at old mid (After step (may_leave old)) → Follows step (may_leave old) (may_leave mid) → Within (may_leave mid) (may_leave new) → Elapses (moment mid) (moment new) (left_at mid) (left_at new) (may_leave new) → LeavesOnly moment left_at old new (After step (may_leave old))
  synced_run old mid new so_far follows within call = goes_on moment left_at old mid new (After step (may_leave old)) (may_leave new) so_far call (λ c left. follows c (within c left))
