-- A file that is read in several reads.
use Rattle.std.proofs.Common.{◌≡◌, ℕ, ◌+◌, ◌-◌, ◌≤◌, List, ◌++◌, length, take, drop, refl, sym, ◌∙◌, ap, arith, Bool, IsTrue, length-append}
use Rattle.std.proofs.Math.Seq.{take-add, take-append-add}
use Rattle.std.proofs.lemmas.List.{length-take, length-drop, length-take-le}
use Rattle.outside.specs.Disks.{Elapses, Outcomes, Within}
use Rattle.journal_frames.specs.Views.{IsUndisturbed}
use Rattle.journal_frames.proofs.Moments.{goes_on, started}

module _ {D : Type 0} (content : D → List ℕ) (may_leave : D → Outcomes) (moment : D → ℕ) (left_at : D → ℕ → Outcomes) where
  pub not_yet : (old : D) → ((c : List ℕ) → left_at old (moment old) c → may_leave old c) → IsUndisturbed content may_leave moment left_at old old
  not_yet old only = record { same = refl; crash = λ c left. left; any_moment = started moment left_at old (may_leave old) only }

  pub one_more : (old mid new : D) → IsUndisturbed content may_leave moment left_at old mid → content new ≡ content mid → Within (may_leave mid) (may_leave new) → Elapses (moment mid) (moment new) (left_at mid) (left_at new) (may_leave new) → IsUndisturbed content may_leave moment left_at old new
  one_more old mid new so_far same within call = record {
    same = same ∙ so_far.same;
    crash = λ c left. so_far.crash c (within c left);
    any_moment = goes_on moment left_at old mid new (may_leave old) (may_leave new) so_far.any_moment call (λ c left. so_far.crash c (within c left));
  }

-- writing to a window of the buffer does not change the buffer's length
pub window_len : (buf window : List ℕ) (at : ℕ) → at ≤ length buf → length window ≡ length (take (length buf - at) (drop at buf)) → length (take at buf ++ (window ++ drop (length buf - at) (drop at buf))) ≡ length buf
window_len buf window at within len =
    omega (arith, within, len, length-append (take at buf) (window ++ drop (length buf - at) (drop at buf)), length-append window (drop (length buf - at) (drop at buf)), length-take at buf, length-take (length buf - at) (drop at buf), length-drop at buf, length-drop (length buf - at) (drop at buf))

-- n more bytes were read after those already read
pub read_on : (file buf window buf' : List ℕ) (at n : ℕ) → take at buf ≡ take at file → at ≤ length buf → buf' ≡ take at buf ++ window → take n window ≡ take n (drop at file) → take (at + n) buf' ≡ take (at + n) file
read_on file buf window buf' at n so_far within is piece =
    let long : length (take at buf) ≡ at = length-take-le at buf within in
    ap (λ (l : List ℕ). take (at + n) l) is
    ∙ ap (λ (m : ℕ). take (m + n) (take at buf ++ window)) (sym long)
    ∙ take-append-add (take at buf) window n
    ∙ ap (λ (l : List ℕ). l ++ take n window) so_far
    ∙ ap (λ (l : List ℕ). take at file ++ l) piece
    ∙ sym (take-add at n file)

-- the part of the file that is read
pub record IsReading (tells : Bool) {D : Type 0} (content : D → List ℕ) (may_leave : D → Outcomes) (moment : D → ℕ) (left_at : D → ℕ → Outcomes) (faults : D → ℕ) (place : D → List ℕ) (old disk : D) (size : ℕ) (buf : List ℕ) (at : ℕ) : Type 0 where
  pub within : at ≤ length buf
  pub len : length buf ≡ size
  pub bytes : IsTrue tells → take at buf ≡ take at (content old)
  pub undisturbed : IsTrue tells → IsUndisturbed content may_leave moment left_at old disk
  pub calm : faults disk ≡ faults old
  pub in_place : place disk ≡ place old
