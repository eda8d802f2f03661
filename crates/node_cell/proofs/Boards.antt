-- Disks as they were seen, one after another.
use Rattle.std.proofs.Common.{◌≡◌, ℕ, zero, suc, ◌<◌, ◌≤◌, ◌+◌, List, [], ◌∷◌, ◌++◌, length, set, take, get_or, refl, sym, ap, ◌∙◌, append_assoc, add-one, arith}
use Rattle.outside.specs.Logs.{LogFacts}
use Rattle.outside.specs.Notes.{Note, Sight}
use Rattle.driver_steps.specs.declared.seat.Seat.{Seat}
use Rattle.node_cell.specs.Board.{notes_at, pairs_of}
use Rattle.node_cell.specs.Views.{Sights, sight_of, sights_of}

-- one disk more was seen
pub seen_next : {N L : Type 0} (facts : LogFacts L) (seats : List (Seat N L)) (i : ℕ) (s : Seat N L) (now then : List Sight) (d : Sight) → i < length seats
    → s ≡ get_or seats i s → pairs_of now ≡ sights_of facts (take i seats) → then ≡ now ++ d ∷ [] → (d.place, d.moment) ≡ sight_of facts s.log
    → pairs_of then ≡ sights_of facts (take (i + 1) seats)
seen_next {N} {L} facts seats i s now then d inside is so_far more same =
    rw add-one (ap pairs_of more ∙ (pairs_more now ∙ (ap (λ (l : Sights). l ++ (d.place, d.moment) ∷ []) so_far
    ∙ (ap (λ (x : List ℕ × ℕ). sights_of facts (take i seats) ++ x ∷ []) same ∙ sym (sights_next seats i inside is)))))
  where
    pairs_more : (seen : List Sight) → pairs_of (seen ++ d ∷ []) ≡ pairs_of seen ++ (d.place, d.moment) ∷ []
    pairs_more [] = refl
    pairs_more (x ∷ seen) = ap (λ (l : Sights). (x.place, x.moment) ∷ l) (pairs_more seen)

    sights_next : (all : List (Seat N L)) (k : ℕ) → k < length all → s ≡ get_or all k s
        → sights_of facts (take (suc k) all) ≡ sights_of facts (take k all) ++ sight_of facts s.log ∷ []
    sights_next [] k below got = absurd (omega (arith, below))
    sights_next (x ∷ all) zero below got = ap (λ (z : Seat N L). sight_of facts z.log ∷ []) (sym got)
    sights_next (x ∷ all) (suc k) below got = ap (λ (l : Sights). sight_of facts x.log ∷ l) (sights_next all k (omega (arith, below)) got)

-- one disk more was noted
pub noted_next : (before : ℕ) (seen : List Sight) (i : ℕ) (d : Sight) (first now then : List Note) (n : Note) → i < length seen → d ≡ get_or seen i d
    → now ≡ first ++ notes_at before (pairs_of (take i seen)) → then ≡ now ++ n ∷ []
    → n ≡ record { place = d.place; moment = d.moment; length = before }
    → then ≡ first ++ notes_at before (pairs_of (take (i + 1) seen))
noted_next before seen i d first now then n inside is so_far more same =
    rw add-one (more ∙ (ap (λ (l : List Note). l ++ n ∷ []) so_far
    ∙ (append_assoc first (notes_at before (pairs_of (take i seen))) (n ∷ [])
    ∙ ap (λ (l : List Note). first ++ l) (ap (λ (m : Note). notes_at before (pairs_of (take i seen)) ++ m ∷ []) same ∙ sym (next seen i inside is)))))
  where
    next : (all : List Sight) (k : ℕ) → k < length all → d ≡ get_or all k d
        → notes_at before (pairs_of (take (suc k) all)) ≡ notes_at before (pairs_of (take k all))
        ++ record { place = d.place; moment = d.moment; length = before } ∷ []
    next [] k below got = absurd (omega (arith, below))
    next (x ∷ all) zero below got = ap (λ (z : Sight). record { place = z.place; moment = z.moment; length = before } ∷ []) (sym got)
    next (x ∷ all) (suc k) below got = ap (λ (l : List Note). record { place = x.place; moment = x.moment; length = before } ∷ l) (next all k (omega (arith, below)) got)

-- one disk is seen anew
pub pairs_set : (seen : List Sight) (at : ℕ) (d : Sight) → pairs_of (set seen at d) ≡ set (pairs_of seen) at (d.place, d.moment)
pairs_set [] at d = refl
pairs_set (x ∷ seen) zero d = refl
pairs_set (x ∷ seen) (suc at) d = ap (λ (l : Sights). (x.place, x.moment) ∷ l) (pairs_set seen at d)

-- where there is none at that place nothing changes
pub set_beyond : {A : Type 0} (l : List A) (at : ℕ) (x : A) → length l ≤ at → set l at x ≡ l
set_beyond [] at x far = refl
set_beyond (y ∷ l) zero x far = absurd (omega (arith, far))
set_beyond (y ∷ l) (suc at) x far = ap (λ r. y ∷ r) (set_beyond l at x (omega (arith, far)))

pub take_whole : {A : Type 0} (l : List A) (k : ℕ) → length l ≤ k → take k l ≡ l
take_whole [] zero far = refl
take_whole [] (suc k) far = refl
take_whole (x ∷ l) zero far = absurd (omega (arith, far))
take_whole (x ∷ l) (suc k) far = ap (λ r. x ∷ r) (take_whole l k (omega (arith, far)))
