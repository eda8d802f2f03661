-- What is given up of an open write fits.
use Rattle.std.proofs.Common.{◌≡◌, ◌≢◌, ◌⊎◌, inl, inr, ℕ, zero, suc, ◌+◌, ◌<◌, ◌≤◌, List, [], ◌∷◌, ◌++◌, refl, sym, ap, subst, ◌∙◌, arith, Bool}
use Rattle.std.specs.Prelude.{Option, Some, None, true, false, not, filter, length, drop, nat_lt, ◌-◌, ◌==◌, ◌&&◌, ◌||◌, if◌then◌else◌}
use Rattle.std.specs.List.{AllByRecursion}
use Rattle.std.proofs.lemmas.Bool.{eqb-true, eqb-false, ltb-false}
use Rattle.history_model.proofs.Lists.{all_weaken, all_at, in_none, in_cons, in_first, in_later}
use Rattle.history_model.specs.History.{Operation, IsIn}
use Rattle.base_model.specs.Refusals.{Refusal}
use Rattle.base_model.specs.Identities.{RequestId}
use Rattle.command_model.specs.Writes.{ClientNumber, WriteKind}
use Rattle.reply_model.specs.Exchanges.{Asked, Answered, number_for}
use Rattle.reply_model.specs.Outcomes.{StatementOutcome, was_refused, has_outcome, with_outcome, dones_from}
use Rattle.node_model.specs.Letters.{Statement}
use Rattle.node_model.specs.States.{Run, Course, writing, Open, Router}
use Rattle.node_model.specs.RouterRequests.{id_of, statements_from, indices_of, has_index, is_sent, in_run, unanswered, unsent}
use Rattle.node_model.specs.RouterNext.{is_answered, with_outcomes, given_up, is_bound, run_with}
use Rattle.node_laws.proofs.Views.{View}
use Rattle.node_laws.proofs.Facts.{reach_in, WorkFits, RunFits, AreSeen, IsOpenOf}
use Rattle.node_laws.proofs.Lists.{all_filtered}
use Rattle.node_laws.proofs.Outcomes.{Answers, IsFront, NoneEnds, open_ends, index_is, statements_long, front_left, with_front}
use Rattle.node_laws.proofs.SentRuns.{IsNextRun}
use Rattle.node_laws.proofs.SentParts.{drop_from, drop_long, dones_most}
use Rattle.node_laws.proofs.Raises.{with_more}
use Rattle.node_laws.proofs.OrderedGives.{next_place, cut_none, cut_given, given_ends, found_at}
use Rattle.node_laws.proofs.GivesUp.{IsGivenNext, given_run, given_unsent, given_open, GivesWell, GivesFit}

-- LISTS

filter_all : {X : Type 0} (p : X → Bool) (xs : List X) → ((x : X) → p x ≡ true) → length (filter p xs) ≡ length xs
filter_all p [] all = refl
filter_all p (x ∷ xs) all = ap (λ b. length (if b then x ∷ filter p xs else filter p xs)) (all x) ∙ ap suc (filter_all p xs all)

-- of statements from a place on all but one have another index
other_from : (given : Option ClientNumber) (id : RequestId) (i n : ℕ) (operations : List Operation)
    → length (statements_from given id n operations) ≤ length (filter (λ (s : Statement). not ((i == s.number.index) || false)) (statements_from given id n operations)) + 1
other_from given id i n [] = omega arith
other_from given id i n (operation ∷ operations) = by_test (i == n) refl (other_from given id i (n + 1) operations) (λ less. later_from (n + 1) operations less)
  where
    later_from : (m : ℕ) (rest : List Operation) → i < m
        → length (filter (λ (s : Statement). not ((i == s.number.index) || false)) (statements_from given id m rest)) ≡ length (statements_from given id m rest)
    later_from m [] less = refl
    later_from m (x ∷ rest) less = by_other (i == m) refl (later_from (m + 1) rest (omega (arith, less)))
      where
        by_other : (b : Bool) → (i == m) ≡ b
            → length (filter (λ (s : Statement). not ((i == s.number.index) || false)) (statements_from given id (m + 1) rest)) ≡ length (statements_from given id (m + 1) rest)
            → length (filter (λ (s : Statement). not ((i == s.number.index) || false)) (statements_from given id m (x ∷ rest))) ≡ length (statements_from given id m (x ∷ rest))
        by_other true h more = absurd (let e = eqb-true i m h in omega (arith, e, less))
        by_other false h more =
            ap (λ b. length (if not (b || false) then record { number = number_for given id m; operation = x } ∷
            filter (λ (s : Statement). not ((i == s.number.index) || false)) (statements_from given id (m + 1) rest)
            else filter (λ (s : Statement). not ((i == s.number.index) || false)) (statements_from given id (m + 1) rest)))
            (ap (λ k. i == k) (index_is given id m) ∙ h) ∙ ap suc more

    Kept : List Statement
    Kept = filter (λ (s : Statement). not ((i == s.number.index) || false)) (statements_from given id (n + 1) operations)

    by_test : (b : Bool) → (i == n) ≡ b → length (statements_from given id (n + 1) operations) ≤ length Kept + 1
        → (i < n + 1 → length Kept ≡ length (statements_from given id (n + 1) operations))
        → length (statements_from given id n (operation ∷ operations))
        ≤ length (filter (λ (s : Statement). not ((i == s.number.index) || false)) (statements_from given id n (operation ∷ operations))) + 1
    by_test true h more all =
        let e = eqb-true i n h in
        let same = all (omega (arith, e)) in
        subst (λ b. suc (length (statements_from given id (n + 1) operations))
        ≤ length (if not (b || false) then record { number = number_for given id n; operation = operation } ∷ Kept else Kept) + 1)
        (sym (ap (λ k. i == k) (index_is given id n) ∙ h)) (omega (arith, same))
    by_test false h more all =
        subst (λ b. suc (length (statements_from given id (n + 1) operations))
        ≤ length (if not (b || false) then record { number = number_for given id n; operation = operation } ∷ Kept else Kept) + 1)
        (sym (ap (λ k. i == k) (index_is given id n) ∙ h)) (omega (arith, more))

-- a run that is found is one of them
run_found : (turn first : ℕ) (c : Course) (runs : List Run) (run : Run) → run_with turn first c runs ≡ Some run → IsIn run runs
run_found turn first c [] run e = absurd (cc)
run_found turn first c (x ∷ runs) run e = by_test _ e (λ f. run_found turn first c runs run f)
  where
    by_test : (b : Bool) → (if b then Some x else run_with turn first c runs) ≡ Some run → (run_with turn first c runs ≡ Some run → IsIn run runs)
        → IsIn run (x ∷ runs)
    by_test true f more = let same : x ≡ run = cc in subst (λ y. IsIn y (x ∷ runs)) same (in_first x runs)
    by_test false f more = in_later run x runs (more f)

-- not bound: at most one statement
free_one : (indices : List ℕ) → (nat_lt 1 (length indices) || false) ≡ false → length indices ≤ 1
free_one indices h = ltb-false 1 (length indices) (by_or (nat_lt 1 (length indices)) h)
  where
    by_or : (b : Bool) → (b || false) ≡ false → b ≡ false
    by_or true e = e
    by_or false e = refl

-- where each place has an outcome it is answered
full_ordered : (first : ℕ) (answers : Answers) → length (dones_from first answers) ≡ length answers → is_answered true answers ≡ true
full_ordered first [] all = refl
full_ordered first (None ∷ answers) all = absurd (let most = dones_most (first + 1) answers in omega (arith, most, all))
full_ordered first (Some x ∷ answers) all = by_test _ (full_ordered (first + 1) answers (omega (arith, all)))
  where
    by_test : (b : Bool) → is_answered true answers ≡ true → (if true && b then true else is_answered true answers) ≡ true
    by_test true h = refl
    by_test false h = h

full_loose : (answers : Answers) → ((i : ℕ) → i < length answers → has_outcome answers i ≡ true) → is_answered false answers ≡ true
full_loose [] all = refl
full_loose (None ∷ answers) all = absurd (let h : false ≡ true = all 0 (omega arith) in cc)
full_loose (Some x ∷ answers) all = full_loose answers (λ i less. all (suc i) (omega (arith, less)))

with_sets : (index : ℕ) (x : StatementOutcome) (answers : Answers) → index < length answers → has_outcome (with_outcome index x answers) index ≡ true
with_sets index x [] less = absurd (omega (arith, less))
with_sets zero x (None ∷ answers) less = refl
with_sets zero x (Some y ∷ answers) less = refl
with_sets (suc index) x (y ∷ answers) less = with_sets index x answers (omega (arith, less))

same_long : (index : ℕ) (x : StatementOutcome) (answers : Answers) → length (with_outcome index x answers) ≡ length answers
same_long index x [] = refl
same_long zero x (None ∷ answers) = refl
same_long zero x (Some y ∷ answers) = refl
same_long (suc index) x (y ∷ answers) = ap suc (same_long index x answers)

all_long : (indices : List ℕ) (x : StatementOutcome) (answers : Answers) → length (with_outcomes indices x answers) ≡ length answers
all_long [] x answers = refl
all_long (index ∷ indices) x answers = same_long index x (with_outcomes indices x answers) ∙ all_long indices x answers

all_set : (indices : List ℕ) (x : StatementOutcome) (answers : Answers) (i : ℕ) → IsIn i indices → i < length answers
    → has_outcome (with_outcomes indices x answers) i ≡ true
all_set [] x answers i there less = absurd (in_none i there)
all_set (index ∷ indices) x answers i there less = by_place (in_cons i index indices there) (λ j. all_set indices x answers i j less)
  where
    by_place : (i ≡ index) ⊎ IsIn i indices → (IsIn i indices → has_outcome (with_outcomes indices x answers) i ≡ true)
        → has_outcome (with_outcome index x (with_outcomes indices x answers)) i ≡ true
    by_place (inl same) more =
        subst (λ k. has_outcome (with_outcome index x (with_outcomes indices x answers)) k ≡ true) (sym same)
        (with_sets index x (with_outcomes indices x answers) (let long = all_long indices x answers in omega (arith, long, less, same)))
    by_place (inr j) more = with_more index x (with_outcomes indices x answers) i (more j)

-- a statement without an outcome is among those that are open
open_in : (given : Option ClientNumber) (id : RequestId) (answers : Answers) (i n : ℕ) (operations : List Operation) → n ≤ i → i < n + length operations
    → has_outcome answers i ≡ false → IsIn i (indices_of (unanswered (statements_from given id n operations) answers))
open_in given id answers i n [] least most none = absurd (omega (arith, least, most))
open_in given id answers i n (operation ∷ operations) least most none =
    by_place (i == n) refl (has_outcome answers (number_for given id n).index) refl (λ le less. open_in given id answers i (n + 1) operations le less none)
  where
    Rest : List Statement
    Rest = unanswered (statements_from given id (n + 1) operations) answers

    by_place : (b : Bool) → (i == n) ≡ b → (e : Bool) → has_outcome answers (number_for given id n).index ≡ e
        → (n + 1 ≤ i → i < n + 1 + length operations → IsIn i (indices_of Rest))
        → IsIn i (indices_of (if not e then record { number = number_for given id n; operation = operation } ∷ Rest else Rest))
    by_place true h true k more =
        let here : has_outcome answers i ≡ true = ap (λ m. has_outcome answers m) (eqb-true i n h ∙ sym (index_is given id n)) ∙ k in
        absurd (let both : false ≡ true = sym none ∙ here in cc)
    by_place true h false k more =
        subst (λ m. IsIn m (indices_of (record { number = number_for given id n; operation = operation } ∷ Rest)))
        (index_is given id n ∙ sym (eqb-true i n h)) (in_first (number_for given id n).index (indices_of Rest))
    by_place false h e k more = by_e e (more (above least (eqb-false i n h)) (omega (arith, most)))
      where
        above : n ≤ i → i ≢ n → n + 1 ≤ i
        above le other = by_k (i - n) refl
          where
            by_k : (k : ℕ) → i - n ≡ k → n + 1 ≤ i
            by_k zero z = absurd (other (omega (arith, z, le)))
            by_k (suc k) z = omega (arith, z, le)

        by_e : (f : Bool) → IsIn i (indices_of Rest)
            → IsIn i (indices_of (if not f then record { number = number_for given id n; operation = operation } ∷ Rest else Rest))
        by_e true j = j
        by_e false j = in_later i (number_for given id n).index (indices_of Rest) j

-- OF AN ORDERED WRITE

module _ (given : Option ClientNumber) (id : RequestId) (operations : List Operation) (statements : List Statement) (c : Course)
    (all : statements ≡ statements_from given id 0 operations) (long : length c.answers ≡ length statements) (front : IsFront c.answers)
    (goes : NoneEnds c.answers) (one : length c.runs ≤ 1)
    (runs : AllByRecursion (λ run. AllByRecursion (λ i. i < length statements) run.indices × IsNextRun statements c.answers run) c.runs) where
  abbrev K : ℕ
  K = length (dones_from 0 c.answers)

  -- they have none yet, or the first of them is the next one
  abbrev IsNext : List ℕ → Type 0
  IsNext indices = (indices ≡ []) ⊎ ((rest : List ℕ) × (indices ≡ K ∷ rest))

  long_all : length statements ≡ length operations
  long_all = ap (λ (l : List Statement). length l) all ∙ statements_long given id 0 operations

  most : K ≤ length operations
  most = let m = dones_most 0 c.answers in omega (arith, m, long, long_all)

  left : unanswered statements c.answers ≡ statements_from given id (0 + K) (drop K operations)
  left = ap (λ l. unanswered l c.answers) all ∙ front_left given id c.answers operations (long ∙ long_all) front ∙ drop_from given id K 0 operations most

  open_next : IsNext (indices_of (unanswered statements c.answers))
  open_next = subst (λ l. IsNext (indices_of l)) (sym left) (by_rest (drop K operations))
    where
      by_rest : (rest : List Operation) → IsNext (indices_of (statements_from given id (0 + K) rest))
      by_rest [] = inl refl
      by_rest (x ∷ rest) = inr (
        indices_of (statements_from given id (0 + K + 1) rest),
        ap (λ m. m ∷ indices_of (statements_from given id (0 + K + 1) rest))
            (index_is given id (0 + K) ∙ omega arith),
      )

  unsent_next : IsNext (indices_of (unsent true statements c))
  unsent_next = by_runs c.runs
    where
      by_runs : (rs : List Run) → IsNext (indices_of (elim rs as (λ (l : List Run). List Statement) [ [] ↦ unanswered statements c.answers | run ∷ more ↦ [] ]))
      by_runs [] = open_next
      by_runs (run ∷ more) = inl refl

  -- the first of the open ones has the next index
  first_is : (x : Statement) (rest : List Statement) → unanswered statements c.answers ≡ x ∷ rest → x.number.index ≡ K
  first_is x rest same = by_rest (drop K operations) (sym left ∙ same)
    where
      by_rest : (others : List Operation) → statements_from given id (0 + K) others ≡ x ∷ rest → x.number.index ≡ K
      by_rest [] e = absurd (cc)
      by_rest (y ∷ others) e =
          let head : record { number = number_for given id (0 + K); operation = y } ≡ x = cc in
          sym (ap (λ (s : Statement). s.number.index) head) ∙ index_is given id (0 + K) ∙ omega arith

  run_next : (run : Run) → IsIn run c.runs → (nat_lt 1 (length run.indices) || false) ≡ false → IsNext run.indices
  run_next run i free = by_indices run.indices refl (free_one run.indices free)
    where
      f : AllByRecursion (λ i. i < length statements) run.indices × IsNextRun statements c.answers run
      f = all_at (λ run. AllByRecursion (λ i. i < length statements) run.indices × IsNextRun statements c.answers run) run c.runs runs i

      own : (j : ℕ) → run.indices ≡ j ∷ [] → (part : List Statement) → in_run run statements ≡ part → part ≢ []
          → AllByRecursion (λ (s : Statement). Unit {0} × (has_index run.indices s.number.index ≡ true)) part → j ≡ K
      own j is [] same some each = absurd (some refl)
      own j is (x ∷ part) same some each =
          let at : x.number.index ≡ K = first_is x (part ++ f.1.0) (f.1.1 ∙ ap (λ l. l ++ f.1.0) same) in
          let has : has_index (j ∷ []) x.number.index ≡ true = subst (λ l. has_index l x.number.index ≡ true) is each.0.1 in
          eqb-true j x.number.index (by_or (j == x.number.index) has) ∙ at
        where
          by_or : (b : Bool) → (b || false) ≡ true → b ≡ true
          by_or true e = e
          by_or false e = e

      units : (xs : List Statement) → AllByRecursion (λ (s : Statement). Unit {0}) xs
      units [] = tt
      units (x ∷ xs) = (tt, units xs)

      by_indices : (indices : List ℕ) → run.indices ≡ indices → length indices ≤ 1 → IsNext indices
      by_indices [] is le = inl refl
      by_indices (j ∷ []) is le =
          let within : j < length statements = (subst (λ l. AllByRecursion (λ i. i < length statements) l) is f.0).0 in
          let some : in_run run statements ≢ [] = λ none. found_at given id j 0 operations (omega arith) (omega (arith, within, long_all))
          (ap (λ l. filter (λ (s : Statement). has_index (j ∷ []) s.number.index) l) (sym all)
          ∙ ap (λ l. filter (λ (s : Statement). has_index l s.number.index) statements) (sym is) ∙ none) in
          inr (
            [],
            ap (λ m. m ∷ []) (own j is (in_run run statements) refl some
                (all_filtered (λ (s : Statement). Unit {0}) (λ (s : Statement). has_index run.indices s.number.index) statements (units statements))),
          )
      by_indices (j ∷ k ∷ rest) is le = absurd (omega (arith, le))

  -- no more was sent than what is answered and one more
  sent_most : is_bound true c.runs ≡ false → length statements - length (unsent false statements c) ≤ K + 1
  sent_most free =
      let dropped = drop_long K operations most in
      let long_open : length (unanswered statements c.answers) ≡ length (drop K operations) =
      ap (λ (l : List Statement). length l) left ∙ statements_long given id (0 + K) (drop K operations) in
      let few = by_runs c.runs one free in
      omega (arith, dropped, long_open, few, long_all)
    where
      by_runs : (rs : List Run) → length rs ≤ 1 → is_bound true rs ≡ false
          → length (unanswered statements c.answers) ≤ length (filter (λ (s : Statement). not (is_sent rs s)) (unanswered statements c.answers)) + 1
      by_runs [] le free = let same = filter_all (λ (s : Statement). true) (unanswered statements c.answers) (λ s. refl) in omega (arith, same)
      by_runs (run ∷ []) le free = by_indices run.indices (free_one run.indices free)
        where
          by_indices : (indices : List ℕ) → length indices ≤ 1 → length (unanswered statements c.answers)
              ≤ length (filter (λ (s : Statement). not (has_index indices s.number.index || false)) (unanswered statements c.answers)) + 1
          by_indices [] one_at = let same = filter_all (λ (s : Statement). true) (unanswered statements c.answers) (λ s. refl) in omega (arith, same)
          by_indices (j ∷ []) one_at =
              subst (λ l. length l ≤ length (filter (λ (s : Statement). not (((j == s.number.index) || false) || false)) l) + 1) (sym left)
              (by_same (other_from given id j (0 + K) (drop K operations)))
            where
              same_test : (xs : List Statement) → filter (λ (s : Statement). not ((j == s.number.index) || false)) xs
                  ≡ filter (λ (s : Statement). not (((j == s.number.index) || false) || false)) xs
              same_test [] = refl
              same_test (x ∷ xs) = by_b (j == x.number.index) (same_test xs)
                where
                  by_b : (b : Bool) → filter (λ (s : Statement). not ((j == s.number.index) || false)) xs
                      ≡ filter (λ (s : Statement). not (((j == s.number.index) || false) || false)) xs
                      → (if not (b || false) then x ∷ filter (λ (s : Statement). not ((j == s.number.index) || false)) xs
                      else filter (λ (s : Statement). not ((j == s.number.index) || false)) xs)
                      ≡ (if not ((b || false) || false) then x ∷ filter (λ (s : Statement). not (((j == s.number.index) || false) || false)) xs
                      else filter (λ (s : Statement). not (((j == s.number.index) || false) || false)) xs)
                  by_b true e = e
                  by_b false e = ap (λ l. x ∷ l) e

              by_same : length (statements_from given id (0 + K) (drop K operations))
                  ≤ length (filter (λ (s : Statement). not ((j == s.number.index) || false)) (statements_from given id (0 + K) (drop K operations))) + 1
                  → length (statements_from given id (0 + K) (drop K operations))
                  ≤ length (filter (λ (s : Statement). not (((j == s.number.index) || false) || false)) (statements_from given id (0 + K) (drop K operations))) + 1
              by_same le = subst (λ l. length (statements_from given id (0 + K) (drop K operations)) ≤ length l + 1)
                  (same_test (statements_from given id (0 + K) (drop K operations))) le
          by_indices (j ∷ k ∷ rest) one_at = absurd (omega (arith, one_at))
      by_runs (run ∷ other ∷ rest) le free = absurd (omega (arith, le))

  -- so what is given up is the next one, if any, where no run is bound
  pub given_next : (indices : List ℕ) → IsGivenNext true statements c indices → (indices ≡ []) ⊎ (((rest : List ℕ) × (indices ≡ K ∷ rest)) × (is_bound true c.runs ≡ false))
  given_next _ (given_run turn first run has free) =
      by_next (run_next run (run_found turn first c c.runs run has) free) (alone c.runs one (run_found turn first c c.runs run has))
    where
      alone : (rs : List Run) → length rs ≤ 1 → IsIn run rs → is_bound true rs ≡ false
      alone [] le i = refl
      alone (x ∷ []) le i = by_place (in_cons run x [] i)
        where
          by_place : (run ≡ x) ⊎ IsIn run [] → is_bound true (x ∷ []) ≡ false
          by_place (inl same) = subst (λ y. is_bound true (y ∷ []) ≡ false) same free
          by_place (inr j) = absurd (in_none run j)
      alone (x ∷ y ∷ rest) le i = absurd (omega (arith, le))

      by_next : IsNext run.indices → is_bound true c.runs ≡ false
          → (run.indices ≡ []) ⊎ (((rest : List ℕ) × (run.indices ≡ K ∷ rest)) × (is_bound true c.runs ≡ false))
      by_next (inl none) h = inl none
      by_next (inr some) h = inr (some, h)
  given_next _ given_unsent = by_runs c.runs refl
    where
      by_runs : (rs : List Run) → c.runs ≡ rs → (indices_of (elim rs as (λ (l : List Run). List Statement) [ [] ↦ unanswered statements c.answers | run ∷ more ↦ [] ]) ≡ [])
          ⊎ (((rest : List ℕ) × (indices_of (elim rs as (λ (l : List Run). List Statement) [ [] ↦ unanswered statements c.answers | run ∷ more ↦ [] ]) ≡ K ∷ rest))
          × (is_bound true c.runs ≡ false))
      by_runs [] is = by_next open_next
        where
          by_next : IsNext (indices_of (unanswered statements c.answers)) → (indices_of (unanswered statements c.answers) ≡ [])
              ⊎ (((rest : List ℕ) × (indices_of (unanswered statements c.answers) ≡ K ∷ rest)) × (is_bound true c.runs ≡ false))
          by_next (inl none) = inl none
          by_next (inr some) = inr (some, ap (λ l. is_bound true l) is)
      by_runs (run ∷ more) is = inl refl
  given_next _ (given_open free) = by_next open_next
    where
      by_next : IsNext (indices_of (unanswered statements c.answers)) → (indices_of (unanswered statements c.answers) ≡ [])
          ⊎ (((rest : List ℕ) × (indices_of (unanswered statements c.answers) ≡ K ∷ rest)) × (is_bound true c.runs ≡ false))
      by_next (inl none) = inl none
      by_next (inr some) = inr (some, free)

  pub ordered_well : (v : View) (own : RequestId) (refusal : Refusal) (indices : List ℕ) → IsGivenNext true statements c indices
      → GivesWell v own true (length statements - length (unsent false statements c)) (given_up true refusal indices c.answers)
  ordered_well v own refusal indices next = by_next (given_next indices next)
    where
      by_next : (indices ≡ []) ⊎ (((rest : List ℕ) × (indices ≡ K ∷ rest)) × (is_bound true c.runs ≡ false))
          → GivesWell v own true (length statements - length (unsent false statements c)) (given_up true refusal indices c.answers)
      by_next (inl none) = subst (λ l. GivesWell v own true (length statements - length (unsent false statements c)) (given_up true refusal l c.answers)) (sym none)
          (record { front = λ e. front; cut = λ e le. cut_none v.reached own 0 c.answers goes })
      by_next (inr ((rest, is), free)) =
          subst (λ l. GivesWell v own true (length statements - length (unsent false statements c)) (given_up true refusal l c.answers)) (sym is) (record {
            front = λ e. with_front K (was_refused refusal) c.answers front goes (next_place 0 c.answers front goes);
            cut = λ e le. cut_given v.reached own refusal 0 K c.answers goes (let few = sent_most free in omega (arith, le, few));
          })

  pub ordered_ends : (refusal : Refusal) → is_answered true (given_up true refusal (indices_of (unanswered statements c.answers)) c.answers) ≡ true
  ordered_ends refusal = by_next open_next
    where
      none_open : indices_of (unanswered statements c.answers) ≡ [] → is_answered true c.answers ≡ true
      none_open none =
          let long_left : length (indices_of (unanswered statements c.answers)) ≡ 0 = ap (λ (l : List ℕ). length l) none in
          let mapped = map_long (unanswered statements c.answers) in
          let long_open : length (unanswered statements c.answers) ≡ length (drop K operations) =
          ap (λ (l : List Statement). length l) left ∙ statements_long given id (0 + K) (drop K operations) in
          let dropped = drop_long K operations most in
          full_ordered 0 c.answers (omega (arith, long_left, mapped, long_open, dropped, long, long_all))
        where
          map_long : (xs : List Statement) → length (indices_of xs) ≡ length xs
          map_long [] = refl
          map_long (x ∷ xs) = ap suc (map_long xs)

      by_next : IsNext (indices_of (unanswered statements c.answers))
          → is_answered true (given_up true refusal (indices_of (unanswered statements c.answers)) c.answers) ≡ true
      by_next (inl none) =
          subst (λ l. is_answered true (given_up true refusal l c.answers) ≡ true) (sym none) (none_open none)
      by_next (inr (rest, is)) =
          subst (λ l. is_answered true (given_up true refusal l c.answers) ≡ true) (sym is) (given_ends refusal 0 c.answers front goes)

-- OF ANOTHER

loose_ends : (given : Option ClientNumber) (id : RequestId) (operations : List Operation) (answers : Answers) (refusal : Refusal)
    → length answers ≡ length operations
    → is_answered false (given_up false refusal (indices_of (unanswered (statements_from given id 0 operations) answers)) answers) ≡ true
loose_ends given id operations answers refusal long = by_indices Indices refl
  where
    Indices : List ℕ
    Indices = indices_of (unanswered (statements_from given id 0 operations) answers)

    each : (indices : List ℕ) → Indices ≡ indices → (i : ℕ) → i < length answers → has_outcome (with_outcomes indices (was_refused refusal) answers) i ≡ true
    each indices is i less = by_has (has_outcome answers i) refl
      where
        kept : (rest : List ℕ) → has_outcome answers i ≡ true → has_outcome (with_outcomes rest (was_refused refusal) answers) i ≡ true
        kept [] h = h
        kept (index ∷ rest) h = with_more index (was_refused refusal) (with_outcomes rest (was_refused refusal) answers) i (kept rest h)

        by_has : (b : Bool) → has_outcome answers i ≡ b → has_outcome (with_outcomes indices (was_refused refusal) answers) i ≡ true
        by_has true h = kept indices h
        by_has false h = all_set indices (was_refused refusal) answers i
            (subst (λ l. IsIn i l) is (open_in given id answers i 0 operations (omega arith) (omega (arith, less, long)) h)) less

    by_indices : (indices : List ℕ) → Indices ≡ indices → is_answered false (given_up false refusal indices answers) ≡ true
    by_indices [] is = full_loose answers (λ i less. each [] is i less)
    by_indices (index ∷ rest) is =
        full_loose (with_outcomes (index ∷ rest) (was_refused refusal) answers)
        (λ i less. each (index ∷ rest) is i (let long_too = all_long (index ∷ rest) (was_refused refusal) answers in omega (arith, less, long_too)))

-- AN OPEN WRITE

pub gives_fit : GivesFit
gives_fit = record {
  well = λ v asked answered r q o kind ordered statements c refusal indices work next. by_order v asked answered r q o kind ordered statements c refusal indices work next;
  answered = λ v asked answered r q o kind ordered statements c refusal work. by_end v asked answered r q o kind ordered statements c refusal work;
}
  where
    both_runs : (v : View) (time : ℕ) (namespace : List ℕ) (statements : List Statement) (answers : Answers) (runs : List Run)
        → AllByRecursion (RunFits v time namespace true statements answers) runs
        → AllByRecursion (λ run. AllByRecursion (λ i. i < length statements) run.indices × IsNextRun statements answers run) runs
    both_runs v time namespace statements answers runs all =
        all_weaken (RunFits v time namespace true statements answers)
        (λ run. AllByRecursion (λ i. i < length statements) run.indices × IsNextRun statements answers run) runs (λ run f. (f.within, f.next refl)) all

    by_order : (v : View) (asked : List Asked) (answered : List Answered) (r : Router) (q : Open) → IsOpenOf v asked answered r q → (kind : WriteKind)
        (ordered : Bool) (statements : List Statement) (c : Course) (refusal : Refusal) (indices : List ℕ) → q.work ≡ writing kind ordered statements c
        → IsGivenNext ordered statements c indices → GivesWell v (id_of r q.count) ordered (reach_in q.work) (given_up ordered refusal indices c.answers)
    by_order v asked answered r q o kind false statements c refusal indices work next = record { front = λ e. absurd (cc); cut = λ e le. absurd (cc) }
    by_order v asked answered r q o kind true statements c refusal indices work next =
        let does : WorkFits o.request q.namespace (writing kind true statements c) = subst (λ x. WorkFits o.request q.namespace x) work o.work in
        let seen : AreSeen v r.time o.request (writing kind true statements c) = subst (λ x. AreSeen v r.time o.request x) work o.seen in
        subst (λ x. GivesWell v (id_of r q.count) true (reach_in x) (given_up true refusal indices c.answers)) (sym work)
        (ordered_well does.0.number o.request.id does.0.operations statements c does.5 does.6.long (does.6.front refl)
        (open_ends c.answers (does.6.front refl) does.6.open_yet) (does.6.one refl)
        (both_runs v r.time does.0.namespace statements c.answers c.runs (seen does.0 does.1).1) v (id_of r q.count) refusal indices next)

    by_end : (v : View) (asked : List Asked) (answered : List Answered) (r : Router) (q : Open) → IsOpenOf v asked answered r q → (kind : WriteKind)
        (ordered : Bool) (statements : List Statement) (c : Course) (refusal : Refusal) → q.work ≡ writing kind ordered statements c
        → is_answered ordered (given_up ordered refusal (indices_of (unanswered statements c.answers)) c.answers) ≡ true
    by_end v asked answered r q o kind true statements c refusal work =
        let does : WorkFits o.request q.namespace (writing kind true statements c) = subst (λ x. WorkFits o.request q.namespace x) work o.work in
        let seen : AreSeen v r.time o.request (writing kind true statements c) = subst (λ x. AreSeen v r.time o.request x) work o.seen in
        ordered_ends does.0.number o.request.id does.0.operations statements c does.5 does.6.long (does.6.front refl)
        (open_ends c.answers (does.6.front refl) does.6.open_yet) (does.6.one refl)
        (both_runs v r.time does.0.namespace statements c.answers c.runs (seen does.0 does.1).1) refusal
    by_end v asked answered r q o kind false statements c refusal work =
        let does : WorkFits o.request q.namespace (writing kind false statements c) = subst (λ x. WorkFits o.request q.namespace x) work o.work in
        subst (λ l. is_answered false (given_up false refusal (indices_of (unanswered l c.answers)) c.answers) ≡ true) (sym does.5)
        (loose_ends does.0.number o.request.id does.0.operations c.answers refusal
        (does.6.long ∙ ap (λ (l : List Statement). length l) does.5 ∙ statements_long does.0.number o.request.id 0 does.0.operations))
