-- Marks of messages that were delivered.
use Rattle.std.proofs.Common.{◌≡◌, ℕ, zero, suc, ◌+◌, ◌<◌, ◌≤◌, List, [], ◌∷◌, ◌++◌, length, get_or, refl, sym, ap, subst, arith, true, false}
use Rattle.std.proofs.Common.{add-one}
use Rattle.std.specs.Prelude.{Bool}
use Rattle.std.specs.List.{slice_set}
use Rattle.sim_driver.specs.Scripts.{AreDelivered, is_delivered, marked}

pub delivered_length : (before : ℕ) (ds : List Bool) → AreDelivered before ds → before ≤ length ds
delivered_length zero ds all = omega arith
delivered_length (suc n) [] all = absurd all
delivered_length (suc n) (d ∷ ds) all = omega (arith, delivered_length n ds all.1)

pub delivered_at : (before : ℕ) (ds : List Bool) (place : ℕ) → AreDelivered before ds → place < before → is_delivered ds place ≡ true
delivered_at zero ds place all below = absurd (omega (arith, below))
delivered_at (suc n) [] place all below = absurd all
delivered_at (suc n) (d ∷ ds) zero all below = all.0
delivered_at (suc n) (d ∷ ds) (suc place) all below = delivered_at n ds place all.1 (omega (arith, below))

pub fewer_delivered : (n : ℕ) (ds : List Bool) → AreDelivered (suc n) ds → AreDelivered n ds
fewer_delivered zero ds all = tt
fewer_delivered (suc n) [] all = absurd all
fewer_delivered (suc n) (d ∷ ds) all = (all.0, fewer_delivered n ds all.1)

-- one more is
more_delivered : (n : ℕ) (ds : List Bool) → AreDelivered n ds → n < length ds → get_or ds n false ≡ true → AreDelivered (suc n) ds
more_delivered n [] all within is = absurd (omega (arith, within))
more_delivered zero (d ∷ ds) all within is = (is, tt)
more_delivered (suc n) (d ∷ ds) all within is = (all.0, more_delivered n ds all.1 (omega (arith, within)) is)

pub one_more_delivered : (n : ℕ) (ds : List Bool) → AreDelivered n ds → n < length ds → get_or ds n false ≡ true → AreDelivered (n + 1) ds
one_more_delivered n ds all within is = subst (λ (k : ℕ). AreDelivered k ds) (sym (add-one n)) (more_delivered n ds all within is)

-- a place that is there needs no other value
pub same_get : (ds : List Bool) (n : ℕ) (b c : Bool) → n < length ds → get_or ds n b ≡ get_or ds n c
same_get [] n b c within = absurd (omega (arith, within))
same_get (d ∷ ds) zero b c within = refl
same_get (d ∷ ds) (suc n) b c within = same_get ds n b c (omega (arith, within))

pub delivered_get : (ds : List Bool) (place : ℕ) → is_delivered ds place ≡ get_or ds place false
delivered_get [] place = refl
delivered_get (d ∷ ds) zero = refl
delivered_get (d ∷ ds) (suc place) = delivered_get ds place

pub delivered_past : (ds : List Bool) (place : ℕ) → length ds ≤ place → is_delivered ds place ≡ false
delivered_past [] place past = refl
delivered_past (d ∷ ds) zero past = absurd (omega (arith, past))
delivered_past (d ∷ ds) (suc place) past = delivered_past ds place (omega (arith, past))

-- room is made for marks
pub marked_more : (place : ℕ) (ds : List Bool) → length ds ≤ place → marked place (ds ++ false ∷ []) ≡ marked place ds
marked_more zero [] past = refl
marked_more (suc place) [] past = refl
marked_more zero (d ∷ ds) past = absurd (omega (arith, past))
marked_more (suc place) (d ∷ ds) past = ap (λ (l : List Bool). d ∷ l) (marked_more place ds (omega (arith, past)))

pub marked_set : (place : ℕ) (ds : List Bool) → place < length ds → marked place ds ≡ slice_set ds place true
marked_set place [] within = absurd (omega (arith, within))
marked_set zero (d ∷ ds) within = refl
marked_set (suc place) (d ∷ ds) within = ap (λ (l : List Bool). d ∷ l) (marked_set place ds (omega (arith, within)))

pub kept_more : (before : ℕ) (ds : List Bool) → AreDelivered before ds → AreDelivered before (ds ++ false ∷ [])
kept_more zero ds all = tt
kept_more (suc n) [] all = absurd all
kept_more (suc n) (d ∷ ds) all = (all.0, kept_more n ds all.1)

pub kept_marked : (before place : ℕ) (ds : List Bool) → AreDelivered before ds → AreDelivered before (marked place ds)
kept_marked zero place ds all = tt
kept_marked (suc n) place [] all = absurd all
kept_marked (suc n) zero (d ∷ ds) all = (refl, all.1)
kept_marked (suc n) (suc place) (d ∷ ds) all = (all.0, kept_marked n place ds all.1)

-- the marks go no further than the last one that was set
pub marked_length : (place n : ℕ) (ds : List Bool) → length ds ≤ n → place < n → length (marked place ds) ≤ n
marked_length zero n [] most below = omega (arith, below)
marked_length zero n (d ∷ ds) most below = most
marked_length (suc place) zero ds most below = absurd (omega (arith, below))
marked_length (suc place) (suc n) [] most below = omega (arith, marked_length place n [] (omega arith) (omega (arith, below)))
marked_length (suc place) (suc n) (d ∷ ds) most below = omega (arith, marked_length place n ds (omega (arith, most)) (omega (arith, below)))
