-- Runs by their turns.
use Rattle.std.proofs.Common.{◌≡◌, refl, ap, sym, ◌∙◌, ℕ, ◌+◌, ◌<◌, List, [], ◌∷◌, ◌++◌, append-nil, drop, length, get_or, Bool, true, false, ◌==◌, ◌&&◌, if◌then◌else◌}
use Rattle.std.proofs.Math.Bool.{or-false}
use Rattle.std.proofs.lemmas.List.{map-append}
use Rattle.std.specs.Prelude.{Option, Some, not, nat_lt}
use Rattle.node_model.specs.RouterRequests.{first_index, tries_at, turn_after}
use Rattle.node_model.specs.RouterNext.{is_bound, run_with, without_run}
use Rattle.node_model.specs.States as states
use Rattle.reply_model.specs.Outcomes.{Try}
use Rattle.write_runs.proofs.Placing.{equal_back, differ_back}
use Rattle.write_runs.proofs.Steps.{next_cut}
use Rattle.write_runs.specs.Runs.{run_view, runs_view}
use Rattle.write_runs.specs.declared.run.Run.{Run}

pub flipped : (a b : ℕ) → (a == b) ≡ (b == a)
flipped a b = by_test (a == b) refl
  where
    by_test : (is : Bool) → (a == b) ≡ is → is ≡ (b == a)
    by_test true same = sym (equal_back a b same)
    by_test false other = sym (differ_back a b other)

-- a run by its turn and its first statement
abbrev pub is_about : (turn first : ℕ) → List (List Try) → states.Run → Bool
is_about turn first tries run = (first_index run.indices == first) && (turn_after (tries_at (first_index run.indices) tries) == turn)

module _ (runs : List Run) (i : ℕ) (run : Run) (less : i < length runs) (here : run ≡ get_or runs i run) where
  module _ (turn first : ℕ) (c : states.Course) where
    with_by : (b : Bool) → is_about turn first c.tries (run_view run) ≡ b
        → run_with turn first c (runs_view (drop i runs)) ≡ (if b then Some (run_view run) else run_with turn first c (runs_view (drop (i + 1) runs)))
    with_by b is =
        ap (λ (l : List Run). run_with turn first c (runs_view l)) (next_cut runs i run less here)
        ∙ ap (λ (b : Bool). if b then Some (run_view run) else run_with turn first c (runs_view (drop (i + 1) runs))) is

    pub run_found : (whole : Option states.Run) → is_about turn first c.tries (run_view run) ≡ true → run_with turn first c (runs_view (drop i runs)) ≡ whole
        → Some (run_view run) ≡ whole
    run_found whole is inv = sym (with_by true is) ∙ inv

    pub run_other : (whole : Option states.Run) → is_about turn first c.tries (run_view run) ≡ false → run_with turn first c (runs_view (drop i runs)) ≡ whole
        → run_with turn first c (runs_view (drop (i + 1) runs)) ≡ whole
    run_other whole is inv = sym (with_by false is) ∙ inv

-- RUNS BUT ONE

module _ (first : ℕ) where
  pub without_both : (run : states.Run) (runs : List states.Run) → without_run first (run ∷ runs) ≡ without_run first (run ∷ []) ++ without_run first runs
  without_both run runs = by_test (first_index run.indices == first)
    where
      by_test : (b : Bool) → (if not b then run ∷ without_run first runs else without_run first runs) ≡ (if not b then run ∷ [] else []) ++ without_run first runs
      by_test true = refl
      by_test false = refl

  abbrev kept : states.Run → Bool → List states.Run
  kept run b = if not b then run ∷ [] else []

  pub run_dropped : (run : states.Run) (old : List states.Run) → (first_index run.indices == first) ≡ true → old ≡ old ++ without_run first (run ∷ [])
  run_dropped run old is = sym (ap (λ (b : Bool). old ++ kept run b) is ∙ append-nil old)

  pub run_kept : (run copy : Run) (old new : List Run) → (first_index run.indices.items == first) ≡ false → run_view copy ≡ run_view run → new ≡ old ++ copy ∷ []
      → runs_view new ≡ runs_view old ++ without_run first (run_view run ∷ [])
  run_kept run copy old new is same pushed =
      ap (λ (l : List Run). runs_view l) pushed ∙ map-append run_view old (copy ∷ [])
      ∙ ap (λ (r : states.Run). runs_view old ++ r ∷ []) same
      ∙ sym (ap (λ (b : Bool). runs_view old ++ kept (run_view run) b) is)

-- BOUND TOGETHER

pub one_bound : (ordered : Bool) (run : states.Run) → (ordered && nat_lt 1 (length run.indices)) ≡ is_bound ordered (run ∷ [])
one_bound ordered run = ap (λ (b : Bool). ordered && b) (sym (or-false (nat_lt 1 (length run.indices))))
