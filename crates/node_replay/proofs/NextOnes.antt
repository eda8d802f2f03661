-- Of an ordered write the statements that are under way are the first ones that are not answered.
use Rattle.std.proofs.Common.{◌≡◌, ◌⊎◌, inl, inr, ℕ, zero, suc, ◌+◌, ◌<◌, List, [], ◌∷◌, ◌++◌, refl, sym, ap, subst, ◌∙◌, arith, Bool}
use Rattle.std.specs.Prelude.{Option, Some, None, true, false, not, filter, nat_lt, ◌==◌, ◌&&◌, if◌then◌else◌}
use Rattle.std.proofs.lemmas.Bool.{ltb-true, ltb-false}
use Rattle.std.proofs.lemmas.Bool.Decides.{Decides-eqb}
use Rattle.std.proofs.lemmas.List.Elements.{filter-append}
use Rattle.history_model.proofs.Lists.{in_cons, in_none}
use Rattle.history_model.specs.History.{Operation, IsIn}
use Rattle.command_model.specs.Writes.{ClientNumber}
use Rattle.chunk_model.specs.Tables.{Table}
use Rattle.base_model.specs.Identities.{RequestId}
use Rattle.reply_model.specs.Exchanges.{number_for}
use Rattle.reply_model.specs.Outcomes.{StatementOutcome, Try, has_outcome}
use Rattle.node_model.specs.Letters.{Statement}
use Rattle.node_model.specs.States.{Run, Course}
use Rattle.node_model.specs.RouterRequests.{statements_from, is_on, shard_for, run_to, indices_of, run_of, next_run, unanswered, runs_by, first_index}
use Rattle.node_model.specs.RouterNext.{has_before, left_of, without_run}
use Rattle.node_laws.proofs.Outcomes.{HasMore, index_is}

abbrev Answers : Type 0
Answers = List (Option StatementOutcome)

-- those of these indices whose statements are not answered
abbrev pub left_in : List ℕ → Answers → List ℕ
left_in indices answers = filter (λ i. not (has_outcome answers i)) indices

-- these are the first statements that are not answered
abbrev pub AreNext : List Statement → Answers → List ℕ → Type 0
AreNext statements answers indices = (back : List ℕ) × (left_in (indices_of statements) answers ≡ indices ++ back)

-- one run is under way at most, of the next statements
abbrev pub OneNext : List Statement → Answers → List Run → Type 0
OneNext statements answers [] = Unit {0}
OneNext statements answers (run ∷ runs) = AreNext statements answers run.indices × (runs ≡ [])

-- ALL BEFORE THEM ARE ANSWERED

all_before : (index : ℕ) (answers : Answers) → ((i : ℕ) → i < index → has_outcome answers i ≡ true) → has_before index answers ≡ true
all_before zero answers each = refl
all_before (suc index) [] each = absurd (let h = each 0 (omega arith) in cc)
all_before (suc index) (x ∷ answers) each =
    ap (λ b. b && has_before index answers) (each 0 (omega arith)) ∙ all_before index answers (λ i less. each (suc i) (omega arith))

module _ (given : Option ClientNumber) (id : RequestId) (answers : Answers) where
  first_before : (at : ℕ) (operations : List Operation) (index : ℕ) (more : List ℕ) → ((i : ℕ) → i < at → has_outcome answers i ≡ true)
      → left_in (indices_of (statements_from given id at operations)) answers ≡ index ∷ more → (i : ℕ) → i < index → has_outcome answers i ≡ true
  first_before at [] index more before same i less = absurd (cc)
  first_before at (operation ∷ operations) index more before same i less =
      by_test (has_outcome answers (number_for given id at).index) refl same (λ h rest. first_before (at + 1) operations index more h rest i less)
    where
      own : (number_for given id at).index ≡ at
      own = index_is given id at

      up_to : has_outcome answers (number_for given id at).index ≡ true → (j : ℕ) → j < at + 1 → has_outcome answers j ≡ true
      up_to h j below = by_place (nat_lt j at) refl
        where
          by_place : (b : Bool) → nat_lt j at ≡ b → has_outcome answers j ≡ true
          by_place true e = before j (ltb-true j at e)
          by_place false e =
              let le = ltb-false j at e in
              let is : j ≡ at = omega (arith, le, below) in
              subst (λ n. has_outcome answers n ≡ true) (own ∙ sym is) h

      by_test : (b : Bool) → has_outcome answers (number_for given id at).index ≡ b
          → (if not b then (number_for given id at).index ∷ left_in (indices_of (statements_from given id (at + 1) operations)) answers
          else left_in (indices_of (statements_from given id (at + 1) operations)) answers) ≡ index ∷ more
          → (((j : ℕ) → j < at + 1 → has_outcome answers j ≡ true)
          → left_in (indices_of (statements_from given id (at + 1) operations)) answers ≡ index ∷ more → has_outcome answers i ≡ true)
          → has_outcome answers i ≡ true
      by_test true h rest later = later (up_to h) rest
      by_test false h first later = let is : (number_for given id at).index ≡ index = cc in before i (omega (arith, is, own, less))

  pub next_before : (operations : List Operation) (index : ℕ) (rest : List ℕ) → AreNext (statements_from given id 0 operations) answers (index ∷ rest)
      → has_before index answers ≡ true
  next_before operations index rest (back, same) =
      all_before index answers (λ i less. first_before 0 operations index (rest ++ back) (λ j none. absurd (omega arith)) same i less)

-- THE NEXT ONES

pub left_indices : (statements : List Statement) (answers : Answers) → indices_of (unanswered statements answers) ≡ left_in (indices_of statements) answers
left_indices [] answers = refl
left_indices (s ∷ statements) answers = by_test (not (has_outcome answers s.number.index)) (left_indices statements answers)
  where
    by_test : (b : Bool) → indices_of (unanswered statements answers) ≡ left_in (indices_of statements) answers
        → indices_of (if b then s ∷ unanswered statements answers else unanswered statements answers)
        ≡ (if b then s.number.index ∷ left_in (indices_of statements) answers else left_in (indices_of statements) answers)
    by_test true more = ap (λ l. s.number.index ∷ l) more
    by_test false more = more

none_back : (xs : List ℕ) → xs ≡ xs ++ []
none_back [] = refl
none_back (x ∷ xs) = ap (λ l. x ∷ l) (none_back xs)

pub all_next : (statements : List Statement) (answers : Answers) → AreNext statements answers (indices_of (unanswered statements answers))
all_next statements answers = ([], sym (left_indices statements answers) ∙ none_back (indices_of (unanswered statements answers)))

-- what is not answered later was not answered before
left_later : (indices : List ℕ) (old new : Answers) → HasMore old new → left_in indices new ≡ left_in (left_in indices old) new
left_later [] old new more = refl
left_later (i ∷ indices) old new more = by_test (has_outcome old i) refl (left_later indices old new more)
  where
    answered : (b : Bool) → has_outcome new i ≡ b → b ≡ true
        → (if not b then i ∷ left_in indices new else left_in indices new) ≡ left_in indices new
    answered true h e = refl
    answered false h e = absurd (cc)

    by_test : (b : Bool) → has_outcome old i ≡ b → left_in indices new ≡ left_in (left_in indices old) new
        → left_in (i ∷ indices) new ≡ left_in (if not b then i ∷ left_in indices old else left_in indices old) new
    by_test true h rest = answered (has_outcome new i) refl (more i h) ∙ rest
    by_test false h rest = ap (λ l. if not (has_outcome new i) then i ∷ l else l) rest

pub next_later : (statements : List Statement) (old new : Answers) (indices : List ℕ) → HasMore old new → AreNext statements old indices
    → AreNext statements new (left_in indices new)
next_later statements old new indices more (back, same) = (
  left_in back new,
  left_later (indices_of statements) old new more
      ∙ ap (λ l. left_in l new) same
      ∙ filter-append (λ i. not (has_outcome new i)) indices back,
)

-- RUNS

pub one_later : (statements : List Statement) (old new : Answers) (runs : List Run) → HasMore old new → OneNext statements old runs
    → OneNext statements new (left_of new runs)
one_later statements old new [] more one = tt
one_later statements old new (run ∷ runs) more (next, none) =
    by_rest (left_in run.indices new) (next_later statements old new run.indices more next)
  where
    last : left_of new runs ≡ []
    last = ap (λ l. left_of new l) none

    by_rest : (rest : List ℕ) → AreNext statements new rest → OneNext statements new (elim rest as (λ (l : List ℕ). List Run) [
      | [] ↦ left_of new runs
      | i ∷ indices ↦ record { shard = run.shard; sent = run.sent; indices = i ∷ indices } ∷ left_of new runs
    ])
    by_rest [] all = subst (λ l. OneNext statements new l) (sym last) tt
    by_rest (i ∷ indices) all = (all, last)

-- without the one that there is
pub one_without : (statements : List Statement) (old new : Answers) (run : Run) (runs : List Run) → IsIn run runs → OneNext statements old runs
    → OneNext statements new (without_run (first_index run.indices) runs)
one_without statements old new run [] there one = absurd (in_none run there)
one_without statements old new run (x ∷ runs) there (next, none) =
    subst (λ l. OneNext statements new (without_run (first_index run.indices) (x ∷ l))) (sym none)
    (by_test (first_index x.indices == first_index run.indices) ((Decides-eqb (first_index x.indices) (first_index run.indices)).1
    (ap (λ (y : Run). first_index y.indices) (sym (same (in_cons run x runs there))))))
  where
    same : (run ≡ x) ⊎ IsIn run runs → run ≡ x
    same (inl is) = is
    same (inr later) = absurd (in_none run (subst (λ l. IsIn run l) none later))

    by_test : (b : Bool) → b ≡ true → OneNext statements new (if not b then x ∷ [] else [])
    by_test true e = tt
    by_test false e = absurd (cc)

-- the run that is under way
pub one_is_next : (statements : List Statement) (answers : Answers) (run : Run) (runs : List Run) → IsIn run runs → OneNext statements answers runs
    → AreNext statements answers run.indices
one_is_next statements answers run [] there one = absurd (in_none run there)
one_is_next statements answers run (x ∷ runs) there (next, none) = by_place (in_cons run x runs there)
  where
    by_place : (run ≡ x) ⊎ IsIn run runs → AreNext statements answers run.indices
    by_place (inl is) = subst (λ (y : Run). AreNext statements answers y.indices) (sym is) next
    by_place (inr later) = absurd (in_none run (subst (λ l. IsIn run l) none later))

-- WHAT A TABLE SENDS

run_split : (t : Table) (tries : List (List Try)) (shard : ℕ) (statements : List Statement)
    → (back : List Statement) × (statements ≡ run_to t tries shard statements ++ back)
run_split t tries shard [] = ([], refl)
run_split t tries shard (s ∷ statements) = by_test (is_on shard (shard_for t tries s)) (run_split t tries shard statements)
  where
    by_test : (b : Bool) → (back : List Statement) × (statements ≡ run_to t tries shard statements ++ back)
        → (back : List Statement) × (s ∷ statements ≡ (if b then s ∷ run_to t tries shard statements else []) ++ back)
    by_test true (back, more) = (back, ap (λ l. s ∷ l) more)
    by_test false more = (s ∷ statements, refl)

indices_joined : (xs ys : List Statement) → indices_of (xs ++ ys) ≡ indices_of xs ++ indices_of ys
indices_joined [] ys = refl
indices_joined (s ∷ xs) ys = ap (λ l. s.number.index ∷ l) (indices_joined xs ys)

next_one : (t : Table) (tries : List (List Try)) (statements : List Statement) (answers : Answers) (left : List Statement)
    → unanswered statements answers ≡ left → OneNext statements answers (next_run t tries left)
next_one t tries statements answers [] same = tt
next_one t tries statements answers (s ∷ left) same = by_shard (shard_for t tries s)
  where
    by_shard : (o : Option ℕ) → OneNext statements answers (elim o as (λ (o : Option ℕ). List Run) [
      | None ↦ []
      | Some shard ↦ run_of t shard (run_to t tries shard (s ∷ left)) ∷ []
    ])
    by_shard None = tt
    by_shard (Some shard) =
        let parts = run_split t tries shard (s ∷ left) in (
          (
            indices_of parts.0,
            sym (left_indices statements answers)
                ∙ ap indices_of (same ∙ parts.1) ∙ indices_joined (run_to t tries shard (s ∷ left)) parts.0,
          ),
          refl,
        )

pub one_more : (table : Option Table) (statements : List Statement) (c : Course) → OneNext statements c.answers c.runs
    → OneNext statements c.answers (c.runs ++ runs_by true table statements c)
one_more table statements c one = by_runs c.runs one table
  where
    by_runs : (runs : List Run) → OneNext statements c.answers runs → (table : Option Table)
        → OneNext statements c.answers (runs ++ runs_by true table statements (record { answers = c.answers; tries = c.tries; runs = runs }))
    by_runs [] one None = tt
    by_runs [] one (Some t) = next_one t c.tries statements c.answers (unanswered statements c.answers) refl
    by_runs (run ∷ runs) (next, none) None = (next, ap (λ l. l ++ []) none)
    by_runs (run ∷ runs) (next, none) (Some t) = (next, ap (λ l. l ++ []) none)
