-- Cuts of a call, and one more.
use Rattle.std.proofs.Common.{◌≡◌, inl, inr, ℕ, zero, suc, ◌≤◌, List, [], ◌∷◌, ◌++◌, map, refl, sym, subst, arith}
use Rattle.std.proofs.lemmas.Grind.{common_steps}
use Rattle.std.specs.Prelude.{Some}
use Rattle.std.specs.List.{slice_get, slice_set}
use Rattle.outside.specs.Disks.{Outcomes}
use Rattle.outside.specs.Notes.{Note}
use Rattle.driver_steps.specs.Cuts.{Cut, IsRow, HasCuts, AtMostOneMoved, Between, MightLeave, Along}

-- each moment is at most that of another row
abbrev pub AreUpTo : List ℕ → List ℕ → Type 0
AreUpTo [] [] = Unit {0}
AreUpTo (a ∷ firsts) (b ∷ nexts) = (a ≤ b) × AreUpTo firsts nexts
AreUpTo firsts nexts = ⊥

pub up_to_same : (firsts : List ℕ) → AreUpTo firsts firsts
up_to_same [] = tt
up_to_same (a ∷ firsts) = (omega arith, up_to_same firsts)

pub up_to_then : (firsts nexts lasts : List ℕ) → AreUpTo firsts nexts → AreUpTo nexts lasts → AreUpTo firsts lasts
up_to_then [] [] [] first second = tt
up_to_then [] [] (c ∷ lasts) first second = absurd second
up_to_then [] (b ∷ nexts) lasts first second = absurd first
up_to_then (a ∷ firsts) [] lasts first second = absurd first
up_to_then (a ∷ firsts) (b ∷ nexts) [] first second = absurd second
up_to_then (a ∷ firsts) (b ∷ nexts) (c ∷ lasts) first second = (omega (arith, first.0, second.0), up_to_then firsts nexts lasts first.1 second.1)

pub moved_up : (firsts nexts : List ℕ) → AtMostOneMoved firsts nexts → AreUpTo firsts nexts
moved_up [] [] moved = tt
moved_up [] (b ∷ nexts) moved = absurd moved
moved_up (a ∷ firsts) [] moved = absurd moved
moved_up (a ∷ firsts) (b ∷ nexts) (inl more) = (omega (arith, more.0), moved_up firsts nexts more.1)
moved_up (a ∷ firsts) (b ∷ nexts) (inr one) = (one.0, subst (λ xs. AreUpTo firsts xs) one.1 (up_to_same firsts))

pub between_up : (firsts ts nexts : List ℕ) → Between firsts ts nexts → AreUpTo ts nexts
between_up [] [] [] within = tt
between_up [] [] (b ∷ nexts) within = absurd within
between_up [] (t ∷ ts) nexts within = absurd within
between_up (a ∷ firsts) [] nexts within = absurd within
between_up (a ∷ firsts) (t ∷ ts) [] within = absurd within
between_up (a ∷ firsts) (t ∷ ts) (b ∷ nexts) within = (within.1, between_up firsts ts nexts within.2)

-- ALONG

module _ {W : Type 0} (R : Cut W → Cut W → Type 0) (up : (a b : Cut W) → R a b → AreUpTo a.moments b.moments) where
  pub along_up : (first : Cut W) (cuts : List (Cut W)) (last : Cut W) → Along R first cuts last → AreUpTo first.moments last.moments
  along_up first [] last same = subst (λ (x : Cut W). AreUpTo first.moments x.moments) same (up_to_same first.moments)
  along_up first (next ∷ more) last along =
      up_to_then first.moments next.moments last.moments (up first next along.0) (along_up next more last along.1)

  -- another relation of those that are not after the last one
  pub along_as : (S : Cut W → Cut W → Type 0) (last : Cut W) → ((a b : Cut W) → AreUpTo b.moments last.moments → R a b → S a b)
      → (first : Cut W) (cuts : List (Cut W)) → Along R first cuts last → Along S first cuts last
  along_as S last turn first [] same = same
  along_as S last turn first (next ∷ more) along =
      (turn first next (along_up next more last along.1) along.0, along_as S last turn next more along.1)

-- one more
pub along_then : {X : Type 0} (R : X → X → Type 0) (first : X) (cuts : List X) (last next : X) → Along R first cuts last → R last next
    → Along R first (cuts ++ next ∷ []) next
along_then {X} R first [] last next same move = (subst (λ (x : X). R x next) (sym same) move, refl)
along_then R first (cut ∷ cuts) last next along move = (along.0, along_then R cut cuts last next along.1 move)

-- NOTES

pub has_cuts_then : (places : List (List ℕ)) (notes : List Note) (cuts : List (List ℕ)) (cut : List ℕ) (row again : List Note)
    → HasCuts places notes cuts → IsRow places cut row → IsRow places cut again → HasCuts places (notes ++ (row ++ again)) (cuts ++ cut ∷ [])
has_cuts_then places notes [] cut row again has first second = (notes, row, again, [], grind (arith, common_steps), first, second, tt)
has_cuts_then places notes (c ∷ cuts) cut row again has first second = (
  has.0,
  has.1,
  has.2,
  has.3 ++ (row ++ again),
  grind (arith, common_steps, has.4),
  has.5,
  has.6,
  has_cuts_then places has.3 cuts cut row again has.7 first second,
)

-- notes that are no cut
pub has_cuts_more : (places : List (List ℕ)) (notes : List Note) (cuts : List (List ℕ)) (more : List Note) → HasCuts places notes cuts
    → HasCuts places (notes ++ more) cuts
has_cuts_more places notes [] more has = tt
has_cuts_more places notes (c ∷ cuts) more has =
    (has.0, has.1, has.2, has.3 ++ more, grind (arith, common_steps, has.4), has.5, has.6, has_cuts_more places has.3 cuts more has.7)

-- ONE DISK OF ALL

module _ {S : Type 0} (moment : S → ℕ) where
  -- where one is another, at most one moved
  pub one_moved : (disks : List S) (at : ℕ) (s t : S) → slice_get disks at ≡ Some s → moment s ≤ moment t
      → AtMostOneMoved (map moment disks) (map moment (slice_set disks at t))
  one_moved [] at s t got le = absurd (cc)
  one_moved (x ∷ disks) zero s t got le =
      let same : x ≡ s = cc in
      inr (subst (λ (z : S). moment z ≤ moment t) (sym same) le, refl)
  one_moved (x ∷ disks) (suc at) s t got le = inl (refl, one_moved disks at s t got le)

  -- what a crash might have left at earlier moments is as it was
  pub earlier : (left_at : S → ℕ → Outcomes) (disks : List S) (at : ℕ) (s t : S) → slice_get disks at ≡ Some s
      → ((k : ℕ) (c : List ℕ) → k ≤ moment s → left_at t k c → left_at s k c) → (ts : List ℕ) (files : List (List ℕ))
      → AreUpTo ts (map moment disks) → MightLeave left_at (slice_set disks at t) ts files → MightLeave left_at disks ts files
  earlier left_at [] at s t got past ts files up left = absurd (cc)
  earlier left_at (x ∷ disks) at s t got past [] files up left = absurd up
  earlier left_at (x ∷ disks) zero s t got past (k ∷ ts) [] up left = absurd left
  earlier left_at (x ∷ disks) (suc at) s t got past (k ∷ ts) [] up left = absurd left
  earlier left_at (x ∷ disks) zero s t got past (k ∷ ts) (f ∷ files) up left =
      let same : x ≡ s = cc in
      (subst (λ (z : S). left_at z k f) (sym same) (past k f (subst (λ (z : S). k ≤ moment z) same up.0) left.0), left.1)
  earlier left_at (x ∷ disks) (suc at) s t got past (k ∷ ts) (f ∷ files) up left =
      (left.0, earlier left_at disks at s t got past ts files up.1 left.1)
