-- Of an ordered write the statements of a run are below those that were not sent.
use Rattle.std.proofs.Common.{◌≡◌, ◌⊎◌, inl, inr, ℕ, zero, suc, ◌+◌, ◌<◌, ◌≤◌, List, [], ◌∷◌, ◌++◌, refl, sym, ap, subst, ◌∙◌, arith, Bool}
use Rattle.std.specs.Prelude.{Option, Some, None, true, false, not, filter, length, drop, ◌-◌, ◌||◌, if◌then◌else◌}
use Rattle.std.specs.List.{AllByRecursion}
use Rattle.std.proofs.lemmas.List.{length-append}
use Rattle.std.proofs.lemmas.List.Elements.{filter-append}
use Rattle.history_model.proofs.Lists.{all_weaken, in_cons, in_none}
use Rattle.history_model.specs.History.{Operation, IsIn}
use Rattle.command_model.specs.Writes.{ClientNumber}
use Rattle.base_model.specs.Identities.{RequestId}
use Rattle.reply_model.specs.Exchanges.{number_for}
use Rattle.reply_model.specs.Outcomes.{dones_from}
use Rattle.node_model.specs.Letters.{Statement}
use Rattle.node_model.specs.States.{Run, Course}
use Rattle.node_model.specs.RouterRequests.{statements_from, has_index, is_sent, in_run, unanswered, unsent}
use Rattle.node_laws.proofs.Lists.{all_filtered}
use Rattle.node_laws.proofs.Outcomes.{Answers, IsFront, index_is, statements_long, front_left}
use Rattle.node_laws.proofs.SentRuns.{IsNextRun}

-- LISTS

pub filter_none : {X : Type 0} (p : X → Bool) (xs : List X) → AllByRecursion (λ x. p x ≡ false) xs → filter p xs ≡ []
filter_none p [] all = refl
filter_none p (x ∷ xs) all = ap (λ b. if b then x ∷ filter p xs else filter p xs) all.0 ∙ filter_none p xs all.1

pub filter_most : {X : Type 0} (p : X → Bool) (xs : List X) → length (filter p xs) ≤ length xs
filter_most p [] = omega arith
filter_most p (x ∷ xs) = by_test (p x) (filter_most p xs)
  where
    by_test : (b : Bool) → length (filter p xs) ≤ length xs → length (if b then x ∷ filter p xs else filter p xs) ≤ suc (length xs)
    by_test true le = omega (arith, le)
    by_test false le = omega (arith, le)

-- where each item that passes one test passes another
pub filter_less : {X : Type 0} (p q : X → Bool) (xs : List X) → AllByRecursion (λ x. p x ≡ true → q x ≡ true) xs → length (filter p xs) ≤ length (filter q xs)
filter_less p q [] all = omega arith
filter_less p q (x ∷ xs) all = by_test (p x) (q x) all.0 (filter_less p q xs all.1)
  where
    by_test : (b c : Bool) → (b ≡ true → c ≡ true) → length (filter p xs) ≤ length (filter q xs)
        → length (if b then x ∷ filter p xs else filter p xs) ≤ length (if c then x ∷ filter q xs else filter q xs)
    by_test true true h le = omega (arith, le)
    by_test true false h le = absurd (let e : false ≡ true = h refl in cc)
    by_test false true h le = omega (arith, le)
    by_test false false h le = le

pub drop_long : {X : Type 0} (n : ℕ) (xs : List X) → n ≤ length xs → length (drop n xs) + n ≡ length xs
drop_long zero xs le = omega arith
drop_long (suc n) [] le = absurd (omega arith)
drop_long (suc n) (x ∷ xs) le = let more = drop_long n xs (omega arith) in omega (arith, more)

pub dones_most : (index : ℕ) (answers : Answers) → length (dones_from index answers) ≤ length answers
dones_most index [] = omega arith
dones_most index (None ∷ answers) = let more = dones_most (index + 1) answers in omega (arith, more)
dones_most index (Some x ∷ answers) = let more = dones_most (index + 1) answers in omega (arith, more)

-- STATEMENTS

pub drop_from : (given : Option ClientNumber) (id : RequestId) (n index : ℕ) (operations : List Operation) → n ≤ length operations
    → drop n (statements_from given id index operations) ≡ statements_from given id (index + n) (drop n operations)
drop_from given id zero index operations le = ap (λ k. statements_from given id k operations) (omega arith)
drop_from given id (suc n) index [] le = absurd (omega arith)
drop_from given id (suc n) index (operation ∷ operations) le =
    drop_from given id n (index + 1) operations (omega arith) ∙ ap (λ k. statements_from given id k (drop n operations)) (omega arith)

part_below : (given : Option ClientNumber) (id : RequestId) (n : ℕ) (operations : List Operation) (part back : List Statement)
    → part ++ back ≡ statements_from given id n operations → AllByRecursion (λ (s : Statement). s.number.index < n + length part) part
part_below given id n operations [] back same = tt
part_below given id n [] (s ∷ part) back same = absurd (cc)
part_below given id n (operation ∷ operations) (s ∷ part) back same =
    let head : s ≡ record { number = number_for given id n; operation = operation } = cc in
    let rest : part ++ back ≡ statements_from given id (n + 1) operations = cc in
    let at : s.number.index ≡ n = ap (λ (x : Statement). x.number.index) head ∙ index_is given id n in (
      omega (arith, at),
      all_weaken (λ (x : Statement). x.number.index < n + 1 + length part) (λ (x : Statement). x.number.index < n + length (s ∷ part)) part
          (λ x less. omega (arith, less)) (part_below given id (n + 1) operations part back rest),
    )

-- a statement of one of some runs was sent
pub sent_by_run : (run : Run) (runs : List Run) (s : Statement) → IsIn run runs → has_index run.indices s.number.index ≡ true → is_sent runs s ≡ true
sent_by_run run [] s i has = absurd (in_none run i)
sent_by_run run (r ∷ runs) s i has = by_place (in_cons run r runs i) (λ j. sent_by_run run runs s j has)
  where
    either : (a b : Bool) → (a ≡ true) ⊎ (b ≡ true) → (a || b) ≡ true
    either true b e = refl
    either false b (inl e) = absurd (cc)
    either false b (inr e) = e

    by_place : (run ≡ r) ⊎ IsIn run runs → (IsIn run runs → is_sent runs s ≡ true) → is_sent (r ∷ runs) s ≡ true
    by_place (inl same) later =
        either (has_index r.indices s.number.index) (is_sent runs s) (inl (subst (λ (x : Run). has_index x.indices s.number.index ≡ true) same has))
    by_place (inr j) later = either (has_index r.indices s.number.index) (is_sent runs s) (inr (later j))

pub run_below : (given : Option ClientNumber) (id : RequestId) (operations : List Operation) (statements : List Statement) (c : Course) (run : Run)
    → statements ≡ statements_from given id 0 operations → length c.answers ≡ length statements → IsFront c.answers
    → IsNextRun statements c.answers run → IsIn run c.runs
    → AllByRecursion (λ (s : Statement). s.number.index < length statements - length (unsent false statements c)) (in_run run statements)
run_below given id operations statements c run all long front (back, next) there =
    let long_all : length statements ≡ length operations = ap (λ (l : List Statement). length l) all ∙ statements_long given id 0 operations in
    let most : length (dones_from 0 c.answers) ≤ length operations = (let m = dones_most 0 c.answers in omega (arith, m, long, long_all)) in
    let left : unanswered statements c.answers ≡ statements_from given id (0 + length (dones_from 0 c.answers)) (drop (length (dones_from 0 c.answers)) operations) =
    ap (λ l. unanswered l c.answers) all ∙ front_left given id c.answers operations (long ∙ long_all) front
    ∙ drop_from given id (length (dones_from 0 c.answers)) 0 operations most in
    let parts : in_run run statements ++ back ≡ statements_from given id (0 + length (dones_from 0 c.answers)) (drop (length (dones_from 0 c.answers)) operations) =
    sym next ∙ left in
    let rest : length (in_run run statements) + length back ≡ length (drop (length (dones_from 0 c.answers)) operations) =
    sym (length-append (in_run run statements) back) ∙ ap (λ (l : List Statement). length l) parts
    ∙ statements_long given id (0 + length (dones_from 0 c.answers)) (drop (length (dones_from 0 c.answers)) operations) in
    let dropped = drop_long (length (dones_from 0 c.answers)) operations most in
    let fewer : length (unsent false statements c) ≤ length back = not_sent in
    all_weaken (λ (s : Statement). s.number.index < 0 + length (dones_from 0 c.answers) + length (in_run run statements))
    (λ (s : Statement). s.number.index < length statements - length (unsent false statements c)) (in_run run statements)
    (λ s less. omega (arith, less, rest, dropped, fewer, long_all))
    (part_below given id (0 + length (dones_from 0 c.answers)) (drop (length (dones_from 0 c.answers)) operations) (in_run run statements) back parts)
  where
    none_left : filter (λ (s : Statement). not (is_sent c.runs s)) (in_run run statements) ≡ []
    none_left =
        filter_none (λ (s : Statement). not (is_sent c.runs s)) (in_run run statements)
        (all_weaken (λ (s : Statement). Unit {0} × (has_index run.indices s.number.index ≡ true)) (λ (s : Statement). not (is_sent c.runs s) ≡ false)
        (in_run run statements) (λ s h. ap not (sent_by_run run c.runs s there h.1))
        (all_filtered (λ (s : Statement). Unit {0}) (λ (s : Statement). has_index run.indices s.number.index) statements
        (all_units statements)))
      where
        all_units : (xs : List Statement) → AllByRecursion (λ (s : Statement). Unit {0}) xs
        all_units [] = tt
        all_units (x ∷ xs) = (tt, all_units xs)

    not_sent : length (unsent false statements c) ≤ length back
    not_sent =
        let same : unsent false statements c ≡ filter (λ (s : Statement). not (is_sent c.runs s)) back =
        ap (λ l. filter (λ (s : Statement). not (is_sent c.runs s)) l) next
        ∙ filter-append (λ (s : Statement). not (is_sent c.runs s)) (in_run run statements) back
        ∙ ap (λ l. l ++ filter (λ (s : Statement). not (is_sent c.runs s)) back) none_left in
        let long : length (unsent false statements c) ≡ length (filter (λ (s : Statement). not (is_sent c.runs s)) back) =
        ap (λ (l : List Statement). length l) same in
        let most = filter_most (λ (s : Statement). not (is_sent c.runs s)) back in
        omega (arith, long, most)
