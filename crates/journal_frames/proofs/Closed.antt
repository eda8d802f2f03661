-- The steps of closing the end of a file, over a disk.
use Rattle.std.proofs.Common.{◌≡◌, ◌⊎◌, inl, inr, ℕ, zero, suc, ◌+◌, ◌-◌, ◌<◌, ◌≤◌, List, [], ◌∷◌, ◌++◌, length, take, refl, sym, ◌∙◌, ap, subst, arith, length-append}
use Rattle.outside.specs.Disks.{After, Cut, Holds, LeavesOnly, Only, Outcomes, Torn}
use Rattle.journal_frames.specs.Files.{Fit, IsShut, Stands, blocks}
use Rattle.journal_frames.specs.Views.{at_rest}
use Rattle.journal_frames.proofs.Moments.{then_run, widened}
use Rattle.journal_frames.proofs.Staged.{held_at, holds_is, stands_last, torn_at}

-- the gate after the records, and what follows it
split_gate : (records : List (List ℕ)) (rest old : List ℕ) → old ≡ blocks records ++ rest → IsShut rest ⊎ (old ≡ []) → 0 < length old → (gate : ℕ) × (more : List ℕ) × (old ≡ blocks records ++ gate ∷ more) × IsShut (gate ∷ more)
split_gate records [] old is (inl shut) some = absurd shut
split_gate records (gate ∷ more) old is (inl shut) some = (gate, more, is, shut)
split_gate records rest old is (inr none) some = absurd (omega (arith, ap length none, some))

shut_prefix : (n gate : ℕ) (more : List ℕ) → IsShut (gate ∷ more) → IsShut (gate ∷ take n more)
shut_prefix zero gate more shut = tt
shut_prefix (suc n) gate [] shut = tt
shut_prefix (suc n) gate (b ∷ more) shut = shut

take_behind : (prefix : List ℕ) (n gate : ℕ) (more : List ℕ) → take (length prefix + 1 + n) (prefix ++ gate ∷ more) ≡ prefix ++ gate ∷ take n more
take_behind [] n gate more = let one : 0 + 1 + n ≡ suc n = omega arith in rw one refl
take_behind (b ∷ prefix) n gate more = let more_by : suc (length prefix) + 1 + n ≡ suc (length prefix + 1 + n) = omega arith in rw more_by (ap (λ (l : List ℕ). b ∷ l) (take_behind prefix n gate more))

module _ (records : List (List ℕ)) (fits : Fit records) (end : ℕ) (size : end ≡ length (blocks records)) where
  cut_at : (old : List ℕ) → Stands old records → 0 < length old → (n : ℕ) → (gate : ℕ) × (more : List ℕ) × (take (end + 1 + n) old ≡ blocks records ++ gate ∷ take n more) × IsShut (gate ∷ take n more) × (end + 1 ≤ length old)
  cut_at old stands some n =
      let g = split_gate records stands.rest old stands.split stands.shut some in
      let at : end + 1 + n ≡ length (blocks records) + 1 + n = omega (arith, size) in
      (g.0, g.1, ap (λ (m : ℕ). take m old) at ∙ ap (λ (f : List ℕ). take (length (blocks records) + 1 + n) f) g.2 ∙ take_behind (blocks records) n g.0 g.1, shut_prefix n g.0 g.1 g.3, omega (arith, size, ap length g.2, length-append (blocks records) (g.0 ∷ g.1)))

  -- the file after a crash in a cut after the gate
  pub cut_held : (old c : List ℕ) → Stands old records → 0 < length old → Cut (end + 1) old c → Stands c records
  cut_held old c stands some cut =
      let whole = cut_at old stands some 0 in
      let long : end + 1 + (length c - (end + 1)) ≡ length c = omega (arith, cut.no_shorter, whole.4) in
      let g = cut_at old stands some (length c - (end + 1)) in
      let is : c ≡ blocks records ++ g.0 ∷ take (length c - (end + 1)) g.1 = cut.prefix ∙ sym (ap (λ (n : ℕ). take n old) long) ∙ g.2 in
      record { rest = g.0 ∷ take (length c - (end + 1)) g.1; fits = fits; split = is; shut = inl g.3 }

  pub cut_crash : (file : List ℕ) (old : Outcomes) → Only file old → Stands file records → 0 < length file → (c : List ℕ) → After (Cut (end + 1)) old c → Stands c records
  cut_crash file old only stands some c after = cut_held file c stands some (subst (λ f. Cut (end + 1) f c) (only after.0 after.1) after.2)

  -- the file after such a cut ends with the gate
  pub cut_done : (old : List ℕ) → Stands old records → 0 < length old → (gate : ℕ) × (take (end + 1) old ≡ blocks records ++ gate ∷ [])
  cut_done old stands some =
      let g = cut_at old stands some 0 in
      let at : end + 1 ≡ end + 1 + 0 = omega arith in
      (g.0, ap (λ (n : ℕ). take n old) at ∙ g.2)

  -- the file after a crash while the gate is closed
  pub close_held : (gate : ℕ) (old c : List ℕ) → old ≡ blocks records ++ gate ∷ [] → Torn end 1 old c → Stands c records
  close_held gate old c is torn =
      let at = torn_at records fits end size gate [] c (subst (λ f. Torn end 1 f c) is torn) in
      subst (λ f. Stands f records) (sym at.1) (stands_last records at.0 fits)

  pub close_crash : (gate : ℕ) (file : List ℕ) (old : Outcomes) → file ≡ blocks records ++ gate ∷ [] → Only file old → (c : List ℕ) → After (Torn end 1) old c → Stands c records
  close_crash gate file old is only c after = close_held gate after.0 c (only after.0 after.1 ∙ is) after.2

  pub close_done : (gate : ℕ) (old c : List ℕ) → old ≡ blocks records ++ gate ∷ [] → Holds end (0 ∷ []) old c → c ≡ at_rest records
  close_done gate old c is holds = held_at records fits end size 0 gate [] c (subst (λ f. Holds end (0 ∷ []) f c) is holds)

  module _ {D : Type 0} (moment : D → ℕ) (left_at : D → ℕ → Outcomes) (content : D → List ℕ) (may_leave : D → Outcomes) (old mid : D) where
    -- a crash at any moment of the cut, and of both steps
    pub cut_run : LeavesOnly moment left_at old mid (After (Cut (end + 1)) (may_leave old)) → Only (content old) (may_leave old) → Stands (content old) records → 0 < length (content old) → LeavesOnly moment left_at old mid (λ c. Stands c records)
    cut_run run only stands some = widened moment left_at old mid _ (λ c. Stands c records) run (cut_crash (content old) (may_leave old) only stands some)

    pub close_run : (new : D) (gate : ℕ) → LeavesOnly moment left_at old mid (λ c. Stands c records) → content mid ≡ blocks records ++ gate ∷ [] → Only (content mid) (may_leave mid) → LeavesOnly moment left_at mid new (After (Torn end 1) (may_leave mid)) → LeavesOnly moment left_at old new (λ c. Stands c records)
    close_run new gate run is only second = then_run moment left_at old mid new (λ c. Stands c records) _ run second (close_crash gate (content mid) (may_leave mid) is only)

pub none_in_empty : (records : List (List ℕ)) (rest : List ℕ) → [] ≡ blocks records ++ rest → records ≡ []
none_in_empty [] rest is = refl
none_in_empty (r ∷ records) rest is = absurd (omega (arith, ap length is))

-- an empty file, which gets its first gate
first_byte : (c : List ℕ) → Torn 0 1 [] c → Stands c []
first_byte [] torn = record { rest = []; fits = tt; split = refl; shut = inr refl }
first_byte (g ∷ []) torn = stands_last [] g tt
first_byte (g ∷ b ∷ c) torn = absurd (omega (arith, torn.no_longer))

first_held : (records : List (List ℕ)) (c : List ℕ) → Stands [] records → Torn 0 1 [] c → Stands c records
first_held records c stands torn = subst (λ rs. Stands c rs) (sym (none_in_empty records stands.rest stands.split)) (first_byte c torn)

pub first_gate_held : (records : List (List ℕ)) (old c : List ℕ) → old ≡ [] → Stands old records → Torn 0 1 old c → Stands c records
first_gate_held records old c is stands torn = first_held records c (subst (λ f. Stands f records) is stands) (subst (λ f. Torn 0 1 f c) is torn)

pub first_gate_crash : (records : List (List ℕ)) (file : List ℕ) (old : Outcomes) → file ≡ [] → Stands file records → Only file old → (c : List ℕ) → After (Torn 0 1) old c → Stands c records
first_gate_crash records file old is stands only c after = first_gate_held records file c is stands (subst (λ f. Torn 0 1 f c) (only after.0 after.1) after.2)

pub first_gate_done : (records : List (List ℕ)) (old c : List ℕ) → old ≡ [] → Stands old records → Holds 0 (0 ∷ []) old c → c ≡ at_rest records
first_gate_done records old c is stands holds =
    holds_is 0 (0 ∷ []) [] c (omega arith) (subst (λ f. Holds 0 (0 ∷ []) f c) is holds) ∙ ap at_rest (sym (none_in_empty records stands.rest (sym is ∙ stands.split)))
