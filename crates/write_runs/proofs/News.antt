-- Which statements are to be sent.
use Rattle.std.proofs.Common.{◌≡◌, ◌≢◌, refl, ap, sym, ◌∙◌, ℕ, List, [], ◌∷◌, length, Bool, true, false, ◌==◌, ◌&&◌, ◌||◌, if◌then◌else◌}
use Rattle.std.proofs.Math.Dec.{eqb-suc-zero}
use Rattle.std.specs.Prelude.{Option, Some, None, filter, not}
use Rattle.std.specs.List.{list_any}
use Rattle.base_model.specs.Identities.{RequestId}
use Rattle.command_model.specs.Writes.{ClientNumber}
use Rattle.node_model.specs.Letters as letters
use Rattle.node_model.specs.RouterRequests.{is_sent, unanswered, unsent}
use Rattle.node_model.specs.States.{Run}
use Rattle.protocol_model.specs.Statements.{statement_view}
use Rattle.protocol_model.specs.declared.statement.Statement.{Statement}
use Rattle.reply_model.specs.Exchanges.{number_for}
use Rattle.reply_model.specs.Outcomes.{StatementOutcome, Try, has_outcome}
use Rattle.write_runs.specs.Marks.{in_one_of, is_new}
use Rattle.write_runs.specs.Runs.{runs_view}
use Rattle.write_runs.specs.declared.run.Run as program

pub index_is : (given : Option ClientNumber) (id : RequestId) (n : ℕ) → (number_for given id n).index ≡ n
index_is None id n = refl
index_is (Some by) id n = refl

pub new_by_index : (given : Option ClientNumber) (id : RequestId) (answers : List (Option StatementOutcome)) (runs : List Run) (s : Statement)
    → (not (has_outcome answers s.index) && not (in_one_of runs s.index)) ≡ is_new answers runs (statement_view given id s)
new_by_index given id answers runs s = ap (λ n. not (has_outcome answers n) && not (in_one_of runs n)) (sym (index_is given id s.index))

module _ {X : Type 0} (p : X → Bool) where
  pub none_pass : (xs : List X) → list_any p xs ≡ false → filter p xs ≡ []
  none_pass [] none = refl
  none_pass (x ∷ xs) none = by_test (p x) none (none_pass xs)
    where
      by_test : (b : Bool) → (b || list_any p xs) ≡ false → (list_any p xs ≡ false → filter p xs ≡ []) → (if b then x ∷ filter p xs else filter p xs) ≡ []
      by_test true none later = absurd (cc none)
      by_test false none later = later none

  pub some_pass : (xs : List X) → list_any p xs ≡ true → filter p xs ≢ []
  some_pass [] some = absurd (cc some)
  some_pass (x ∷ xs) some = by_test (p x) some (some_pass xs)
    where
      by_test : (b : Bool) → (b || list_any p xs) ≡ true → (list_any p xs ≡ true → filter p xs ≢ []) → (if b then x ∷ filter p xs else filter p xs) ≢ []
      by_test true some later = λ e. cc e
      by_test false some later = later some

  pub twice : (q : X → Bool) (xs : List X) → filter q (filter p xs) ≡ filter (λ x. p x && q x) xs
  twice q [] = refl
  twice q (x ∷ xs) = by_test (p x) (twice q xs)
    where
      by_test : (b : Bool) → filter q (filter p xs) ≡ filter (λ y. p y && q y) xs
          → filter q (if b then x ∷ filter p xs else filter p xs)
          ≡ (if b && q x then x ∷ filter (λ y. p y && q y) xs else filter (λ y. p y && q y) xs)
      by_test true more = ap (λ l. if q x then x ∷ l else l) more
      by_test false more = more

none_sent : (statements : List letters.Statement) → filter (λ (s : letters.Statement). not (is_sent [] s)) statements ≡ statements
none_sent [] = refl
none_sent (s ∷ statements) = ap (λ l. s ∷ l) (none_sent statements)

module _ (statements : List letters.Statement) (answers : List (Option StatementOutcome)) (tries : List (List Try)) where
  pub unsent_any : (runs : List Run) → unsent false statements (record { answers = answers; tries = tries; runs = runs }) ≡ filter (is_new answers runs) statements
  unsent_any runs = twice (λ (s : letters.Statement). not (has_outcome answers s.number.index)) (λ (s : letters.Statement). not (is_sent runs s)) statements

  -- where a write waits for no run
  pub unsent_new : (ordered : Bool) (runs : List program.Run) → (ordered && not (length runs == 0)) ≡ false
      → unsent ordered statements (record { answers = answers; tries = tries; runs = runs_view runs }) ≡ filter (is_new answers (runs_view runs)) statements
  unsent_new false runs none = unsent_any (runs_view runs)
  unsent_new true [] none = sym (none_sent (unanswered statements answers)) ∙ unsent_any []
  unsent_new true (run ∷ runs) none = absurd (cc (sym (ap (λ b. not b) (eqb-suc-zero (length runs))) ∙ none))

  -- where it waits for one nothing is sent
  pub unsent_none : (ordered : Bool) (runs : List program.Run) → (ordered && not (length runs == 0)) ≡ true
      → unsent ordered statements (record { answers = answers; tries = tries; runs = runs_view runs }) ≡ []
  unsent_none false runs waits = absurd (cc waits)
  unsent_none true [] waits = absurd (cc waits)
  unsent_none true (run ∷ runs) waits = refl
