-- Marks at the indices of runs.
use Rattle.std.proofs.Common.{◌≡◌, refl, ap, sym, ◌∙◌, ℕ, ◌+◌, ◌<◌, ◌≤◌, List, [], ◌∷◌, take, set, replicate, length, get_or, Bool, true, false, ◌==◌, ◌||◌, arith}
use Rattle.std.proofs.Math.Bool.{or_assoc, or-true, or-false}
use Rattle.std.proofs.lemmas.Bool.{eqb-true, eqb-false}
use Rattle.std.proofs.lemmas.List.{get_or-replicate, get_or-set_other, get_or-set_same, length-replicate, take_all}
use Rattle.std.proofs.lemmas.List.Folds.{list_any_more}
use Rattle.std.specs.List.{list_any}
use Rattle.node_model.specs.RouterRequests.{has_index}
use Rattle.write_runs.specs.Marks.{AreMarks, in_one_of}
use Rattle.write_runs.specs.Runs.{runs_view}
use Rattle.write_runs.specs.declared.run.Run.{Run}

-- a place is marked
pub marked : (marks : List Bool) (place : ℕ) → place < length marks → (i : ℕ) → i < length marks
    → get_or (set marks place true) i false ≡ (get_or marks i false || (place == i))
marked marks place within i less = by_test (place == i) refl
  where
    by_test : (b : Bool) → (place == i) ≡ b → get_or (set marks place true) i false ≡ (get_or marks i false || b)
    by_test true same =
        ap (λ n. get_or (set marks place true) n false) (sym (eqb-true place i same)) ∙ get_or-set_same marks place true false within ∙ sym (or-true (get_or marks i false))
    by_test false other =
        get_or-set_other marks place i true false (λ same. eqb-false place i other (sym same)) ∙ sym (or-false (get_or marks i false))

-- one that is none is not
pub not_marked : (marks : List Bool) (place : ℕ) → length marks ≤ place → (i : ℕ) → i < length marks
    → get_or marks i false ≡ (get_or marks i false || (place == i))
not_marked marks place past i less = by_test (place == i) refl
  where
    by_test : (b : Bool) → (place == i) ≡ b → get_or marks i false ≡ (get_or marks i false || b)
    by_test true same = absurd (let is : place ≡ i = eqb-true place i same in omega (arith, past, less, is))
    by_test false other = sym (or-false (get_or marks i false))

-- these marks are the old ones and those of a test
abbrev pub Marked : (old now : List Bool) → (ℕ → Bool) → Type 0
Marked old now test = (i : ℕ) → i < length old → get_or now i false ≡ (get_or old i false || test i)

-- one more thing that marks
module _ {X : Type 0} (test : ℕ → X → Bool) (old now new : List Bool) (xs : List X) (k : ℕ) (x : X) (within : k < length xs) (here : x ≡ get_or xs k x) where
  pub more_marked : length now ≡ length old → Marked old now (λ i. list_any (test i) (take k xs)) → Marked now new (λ i. test i x)
      → Marked old new (λ i. list_any (test i) (take (k + 1) xs))
  more_marked long inv step = λ i less.
      step i (omega (arith, less, long)) ∙ ap (λ b. b || test i x) (inv i less)
      ∙ or_assoc (get_or old i false) (list_any (test i) (take k xs)) (test i x)
      ∙ ap (λ b. get_or old i false || b) (ap (λ y. list_any (test i) (take k xs) || test i y) here ∙ sym (list_any_more (test i) xs k x within))

pub all_marked : {X : Type 0} (test : ℕ → X → Bool) (old now : List Bool) (xs : List X) (k : ℕ) → length xs ≤ k
    → Marked old now (λ i. list_any (test i) (take k xs)) → Marked old now (λ i. list_any (test i) xs)
all_marked test old now xs k end inv = λ i less.
    inv i less ∙ ap (λ l. get_or old i false || list_any (test i) l) (take_all k xs end)

-- where none was marked the marks are those of the test
pub from_none : (count : ℕ) (blank marks : List Bool) (test : ℕ → Bool) → blank ≡ replicate count false → length marks ≡ length blank
    → Marked blank marks test → AreMarks marks test
from_none count blank marks test none long inv = λ i less.
    let inside : i < length blank = omega (arith, less, long) in
    let count_is : length blank ≡ count = ap (λ (l : List Bool). length l) none ∙ length-replicate count false in
    inv i inside ∙ ap (λ b. b || test i) (ap (λ (l : List Bool). get_or l i false) none ∙ get_or-replicate count i false false (omega (arith, inside, count_is)))

any_seen : (runs : List Run) (i : ℕ) → list_any (λ (run : Run). has_index run.indices.items i) runs ≡ in_one_of (runs_view runs) i
any_seen [] i = refl
any_seen (run ∷ runs) i = ap (λ b. has_index run.indices.items i || b) (any_seen runs i)

pub marks_seen : (marks : List Bool) (runs : List Run) → AreMarks marks (λ i. list_any (λ (run : Run). has_index run.indices.items i) runs)
    → AreMarks marks (in_one_of (runs_view runs))
marks_seen marks runs are = λ i less. are i less ∙ any_seen runs i
