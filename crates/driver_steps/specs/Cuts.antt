-- All disks at one moment, by the notes of a sink, and the files after a crash at each moment of a call, of all disks together (own).
use Rattle.std.specs.Prelude.{◌≡◌, ◌⊎◌, ℕ, ◌≤◌, List, [], ◌∷◌, ◌++◌, map}
use Rattle.outside.specs.Disks.{Outcomes}
use Rattle.outside.specs.Notes.{Note}

-- a row of notes: disks at these places, in order, at these moments
pub record IsRow (places : List (List ℕ)) (moments : List ℕ) (row : List Note) : Type 0 where
  pub there : map (λ (n : Note). n.place) row ≡ places
  pub then : map (λ (n : Note). n.moment) row ≡ moments

-- Among the notes are these cuts, in order. A cut is a row of the disks and then another one at the same moments. A disk whose clock shows one moment twice did
-- not change between, so at the end of the first row all disks were at these moments at once.
abbrev pub HasCuts : (places : List (List ℕ)) → List Note → (cuts : List (List ℕ)) → Type 0
HasCuts places notes [] = Unit {0}
HasCuts places notes (cut ∷ cuts) = (others row again rest : List Note) × (notes ≡ others ++ row ++ again ++ rest)
    × IsRow places cut row × IsRow places cut again × HasCuts places rest cuts

-- from one cut to the next at most one disk's clock advanced
abbrev pub AtMostOneMoved : List ℕ → List ℕ → Type 0
AtMostOneMoved [] [] = Unit {0}
AtMostOneMoved (a ∷ firsts) (b ∷ nexts) = ((a ≡ b) × AtMostOneMoved firsts nexts) ⊎ ((a ≤ b) × (firsts ≡ nexts))
AtMostOneMoved firsts nexts = ⊥

-- moments from those of one cut to those of the next, disk by disk
abbrev pub Between : List ℕ → List ℕ → List ℕ → Type 0
Between [] [] [] = Unit {0}
Between (a ∷ firsts) (t ∷ ts) (b ∷ nexts) = (a ≤ t) × (t ≤ b) × Between firsts ts nexts
Between firsts ts nexts = ⊥

-- a crash at these moments might have resulted in these files, disk by disk
abbrev pub MightLeave : {S : Type 0} → (S → ℕ → Outcomes) → List S → List ℕ → List (List ℕ) → Type 0
MightLeave left_at [] [] [] = Unit {0}
MightLeave left_at (s ∷ disks) (t ∷ ts) (f ∷ files) = left_at s t f × MightLeave left_at disks ts files
MightLeave left_at disks ts files = ⊥

-- all disks at one moment, and the world whose journals they store then
pub record Cut (W : Type 0) : Type 0 where
  pub moments : List ℕ
  pub world : W

-- From a cut to the next at most one disk moved, the world of the one leads to that of the other, and after a crash meanwhile an opening finds in the files of
-- all disks together what one of both worlds stores.
pub record OneMove {S W : Type 0} (left_at : S → ℕ → Outcomes) (leads : W → W → Type 0) (found : List (List ℕ) → W → Type 0) (disks : List S)
    (a b : Cut W) : Type 0 where
  pub moved : AtMostOneMoved a.moments b.moments
  pub led : leads a.world b.world
  pub whole : (ts : List ℕ) (files : List (List ℕ)) → Between a.moments ts b.moments → MightLeave left_at disks ts files
      → found files a.world ⊎ found files b.world

-- R holds from each to the next, from a first one by these to a last one
abbrev pub Along : {X : Type 0} (R : X → X → Type 0) → (first : X) → List X → (last : X) → Type 0
Along R first [] last = first ≡ last
Along R first (next ∷ more) last = R first next × Along R next more last

-- The disks are in these places. The notes have cuts from the first one, at these moments, where the disks store one world, to the present, where they store
-- another, and after a crash at any moment from the first one on an opening finds in the files of all disks together what a world on the way stores.
pub record LeaveTogether {S W : Type 0} (place : S → List ℕ) (moment : S → ℕ) (left_at : S → ℕ → Outcomes) (leads : W → W → Type 0)
    (found : List (List ℕ) → W → Type 0) (places_are : List (List ℕ)) (from : List ℕ) (disks : List S) (start end : W) (notes : List Note) : Type 0 where
  pub places : map place disks ≡ places_are
  pub here : (files : List (List ℕ)) → MightLeave left_at disks from files → found files start
  pub cuts : List (Cut W)
  pub noted : HasCuts places_are notes (from ∷ map (λ (c : Cut W). c.moments) cuts)
  pub along : Along (OneMove left_at leads found disks) (record { moments = from; world = start }) cuts
      (record { moments = map moment disks; world = end })
