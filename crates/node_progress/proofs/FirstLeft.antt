-- The first statement of a write that is not answered, and its outcome when that arrives.
use Rattle.std.proofs.Common.{◌≡◌, ◌≢◌, ◌⊎◌, inl, inr, ℕ, zero, suc, ◌+◌, ◌<◌, ◌≤◌, List, [], ◌∷◌, ◌++◌, refl, sym, ap, subst, ◌∙◌, arith, Bool}
use Rattle.std.specs.Prelude.{Option, Some, None, is_some, true, false, not, filter, length, ◌==◌, nat_le, ◌&&◌, ◌||◌, if◌then◌else◌}
use Rattle.std.specs.List.{AllByRecursion}
use Rattle.std.proofs.lemmas.Bool.{eqb-true, eqb-false, leb-true, leb-false}
use Rattle.history_model.specs.History.{Operation}
use Rattle.command_model.specs.Writes.{ClientNumber}
use Rattle.base_model.specs.Identities.{RequestId}
use Rattle.reply_model.specs.Exchanges.{number_for}
use Rattle.reply_model.specs.Outcomes.{StatementOutcome, Done, refusal_in, has_outcome, with_outcome}
use Rattle.node_model.specs.Letters.{Statement}
use Rattle.node_model.specs.RouterRequests.{statements_from, unanswered}
use Rattle.node_model.specs.RouterNext.{has_before, with_done, noted, is_answered}
use Rattle.node_laws.proofs.Outcomes.{index_is, noted_more}

abbrev Answers : Type 0
Answers = List (Option StatementOutcome)

true_false : {X : Type 0} → true ≡ false → X
true_false e = absurd (cc e)

-- FILTERS

-- what fails before the first that passes
pub record FirstPassed {X : Type 0} (p : X → Bool) (xs : List X) (y : X) : Type 0 where
  pub before : List X
  pub back : List X
  pub all : xs ≡ before ++ y ∷ back
  pub fail : AllByRecursion (λ x. p x ≡ false) before
  pub passes : p y ≡ true

first_passed : {X : Type 0} (p : X → Bool) (xs : List X) (y : X) (ys : List X) → filter p xs ≡ y ∷ ys → FirstPassed p xs y
first_passed p [] y ys e = absurd (cc e)
first_passed {X = X} p (x ∷ xs) y ys e = by_test (p x) refl e (λ f. first_passed p xs y ys f)
  where
    by_test : (b : Bool) → p x ≡ b → (if b then x ∷ filter p xs else filter p xs) ≡ y ∷ ys → (filter p xs ≡ y ∷ ys → FirstPassed p xs y)
        → FirstPassed p (x ∷ xs) y
    by_test true h e later =
        let same : x ≡ y = cc e in
        subst (λ z. FirstPassed p (x ∷ xs) z) same (record { before = []; back = xs; all = refl; fail = tt; passes = h })
    by_test false h e later =
        let f = later e in
        record { before = x ∷ f.before; back = f.back; all = ap (λ l. x ∷ l) f.all; fail = (h, f.fail); passes = f.passes }

none_passed : {X : Type 0} (p : X → Bool) (xs : List X) → filter p xs ≡ [] → AllByRecursion (λ x. p x ≡ false) xs
none_passed p [] e = tt
none_passed p (x ∷ xs) e = by_test (p x) refl e (λ f. none_passed p xs f)
  where
    by_test : (b : Bool) → p x ≡ b → (if b then x ∷ filter p xs else filter p xs) ≡ [] → (filter p xs ≡ [] → AllByRecursion (λ x. p x ≡ false) xs)
        → (p x ≡ false) × AllByRecursion (λ x. p x ≡ false) xs
    by_test true h e later = absurd (cc e)
    by_test false h e later = (h, later e)

not_false : (b : Bool) → not b ≡ false → b ≡ true
not_false true e = refl
not_false false e = absurd (cc e)

not_true : (b : Bool) → not b ≡ true → b ≡ false
not_true true e = absurd (cc e)
not_true false e = refl

-- STATEMENTS BY THEIR INDICES

-- at a place is the statement with its index
pub record IsAt (given : Option ClientNumber) (id : RequestId) (index : ℕ) (operations : List Operation) (before : List Statement) (s : Statement) : Type 0 where
  pub numbered : s.number.index ≡ index + length before
  pub within : length before < length operations

at_place : (given : Option ClientNumber) (id : RequestId) (index : ℕ) (operations : List Operation) (before : List Statement) (s : Statement)
    (back : List Statement) → statements_from given id index operations ≡ before ++ s ∷ back → IsAt given id index operations before s
at_place given id index [] [] s back e = absurd (cc e)
at_place given id index [] (x ∷ before) s back e = absurd (cc e)
at_place given id index (operation ∷ operations) [] s back e =
    let same : record { number = number_for given id index; operation = operation } ≡ s = cc e in
    let at : s.number.index ≡ index = ap (λ (x : Statement). x.number.index) (sym same) ∙ index_is given id index in
    record { numbered = omega (arith, at); within = omega arith }
at_place given id index (operation ∷ operations) (x ∷ before) s back e =
    let rest = at_place given id (index + 1) operations before s back (cc e) in
    let at = rest.numbered in
    let within = rest.within in
    record { numbered = omega (arith, at); within = omega (arith, within) }

-- what holds of the index of each before a place
below_place : (given : Option ClientNumber) (id : RequestId) (index : ℕ) (operations : List Operation) (before : List Statement) (s : Statement)
    (back : List Statement) (P : ℕ → Type 0) → statements_from given id index operations ≡ before ++ s ∷ back
    → AllByRecursion (λ (x : Statement). P x.number.index) before → (i : ℕ) → index ≤ i → i < index + length before → P i
below_place given id index [] [] s back P e all i from below = absurd (cc e)
below_place given id index [] (x ∷ before) s back P e all i from below = absurd (cc e)
below_place given id index (operation ∷ operations) [] s back P e all i from below = absurd (omega (arith, from, below))
below_place given id index (operation ∷ operations) (x ∷ before) s back P e all i from below =
    by_place (i == index) refl (λ le. below_place given id (index + 1) operations before s back P (cc e) all.1 i le (omega (arith, below)))
  where
    by_place : (b : Bool) → (i == index) ≡ b → (index + 1 ≤ i → P i) → P i
    by_place true h later =
        let same : i ≡ index = eqb-true i index h in
        let first : record { number = number_for given id index; operation = operation } ≡ x = cc e in
        let at : x.number.index ≡ index = ap (λ (y : Statement). y.number.index) (sym first) ∙ index_is given id index in
        subst P (at ∙ sym same) all.0
    by_place false h later = later (let apart : i ≢ index = eqb-false i index h in by_less (nat_le i index) refl apart)
      where
        by_less : (t : Bool) → nat_le i index ≡ t → i ≢ index → index + 1 ≤ i
        by_less true le apart = absurd (apart (let l : i ≤ index = leb-true i index le in omega (arith, l, from)))
        by_less false le apart = let l : index < i = leb-false i index le in omega (arith, l)

-- and of each
each_index : (given : Option ClientNumber) (id : RequestId) (index : ℕ) (operations : List Operation) (P : ℕ → Type 0)
    → AllByRecursion (λ (x : Statement). P x.number.index) (statements_from given id index operations) → (i : ℕ) → index ≤ i
    → i < index + length operations → P i
each_index given id index [] P all i from below = absurd (omega (arith, from, below))
each_index given id index (operation ∷ operations) P all i from below =
    by_place (i == index) refl (λ le. each_index given id (index + 1) operations P all.1 i le (omega (arith, below)))
  where
    by_less : (t : Bool) → nat_le i index ≡ t → i ≢ index → index + 1 ≤ i
    by_less true le apart = absurd (apart (let l : i ≤ index = leb-true i index le in omega (arith, l, from)))
    by_less false le apart = let l : index < i = leb-false i index le in omega (arith, l)

    by_place : (b : Bool) → (i == index) ≡ b → (index + 1 ≤ i → P i) → P i
    by_place true h later = subst P (index_is given id index ∙ sym (eqb-true i index h)) all.0
    by_place false h later = later (by_less (nat_le i index) refl (eqb-false i index h))

-- OUTCOMES

all_before : (k : ℕ) (answers : Answers) → ((i : ℕ) → i < k → has_outcome answers i ≡ true) → has_before k answers ≡ true
all_before zero answers have = refl
all_before (suc k) [] have = let h = have 0 (omega arith) in absurd (cc h)
all_before (suc k) (x ∷ answers) have =
    ap (λ b. b && has_before k answers) (have 0 (omega arith)) ∙ all_before k answers (λ i less. have (suc i) (omega (arith, less)))

all_answered : (ordered : Bool) (answers : Answers) → ((i : ℕ) → i < length answers → has_outcome answers i ≡ true) → is_answered ordered answers ≡ true
all_answered ordered [] have = refl
all_answered ordered (None ∷ answers) have = let h = have 0 (omega arith) in absurd (cc h)
all_answered ordered (Some x ∷ answers) have =
    by_test (ordered && is_some (refusal_in x)) (all_answered ordered answers (λ i less. have (suc i) (omega (arith, less))))
  where
    by_test : (b : Bool) → is_answered ordered answers ≡ true → (if b then true else is_answered ordered answers) ≡ true
    by_test true rest = refl
    by_test false rest = rest

with_has : (i : ℕ) (x : StatementOutcome) (answers : Answers) → i < length answers → has_outcome (with_outcome i x answers) i ≡ true
with_has i x [] less = absurd (omega (arith, less))
with_has zero x (None ∷ answers) less = refl
with_has zero x (Some y ∷ answers) less = refl
with_has (suc i) x (y ∷ answers) less = with_has i x answers (omega (arith, less))

-- an outcome that has its turn is noted
pub noted_has : (ordered : Bool) (answers : Answers) (d : Done) (dones : List Done) → has_before d.index answers ≡ true → d.index < length answers
    → has_outcome (noted ordered answers (d ∷ dones)) d.index ≡ true
noted_has ordered answers d dones before within =
    noted_more ordered (with_done ordered d answers) dones d.index
    (subst (λ b. has_outcome (if not ordered || b then with_outcome d.index d.answer answers else answers) d.index ≡ true) (sym before) (by_order ordered))
  where
    by_order : (o : Bool) → has_outcome (if not o || true then with_outcome d.index d.answer answers else answers) d.index ≡ true
    by_order true = with_has d.index d.answer answers within
    by_order false = with_has d.index d.answer answers within

-- where no other statement has an outcome nothing is noted
keeps_or_has : (i : ℕ) (x : StatementOutcome) (answers : Answers) → (with_outcome i x answers ≡ answers)
    ⊎ ((has_outcome (with_outcome i x answers) i ≡ true) × (has_outcome answers i ≡ false) × (i < length answers))
keeps_or_has i x [] = inl refl
keeps_or_has zero x (None ∷ answers) = inr (refl, refl, omega arith)
keeps_or_has zero x (Some y ∷ answers) = inl refl
keeps_or_has (suc i) x (y ∷ answers) = by_rest (keeps_or_has i x answers)
  where
    by_rest : (with_outcome i x answers ≡ answers)
        ⊎ ((has_outcome (with_outcome i x answers) i ≡ true) × (has_outcome answers i ≡ false) × (i < length answers))
        → (y ∷ with_outcome i x answers ≡ y ∷ answers)
        ⊎ ((has_outcome (with_outcome i x answers) i ≡ true) × (has_outcome answers i ≡ false) × (suc i < suc (length answers)))
    by_rest (inl same) = inl (ap (λ l. y ∷ l) same)
    by_rest (inr (has, none, less)) = inr (has, none, omega (arith, less))

pub noted_same : (ordered : Bool) (answers : Answers) (dones : List Done)
    → ((i : ℕ) → i < length answers → has_outcome answers i ≡ false → has_outcome (noted ordered answers dones) i ≡ false)
    → noted ordered answers dones ≡ answers
noted_same ordered answers [] none = refl
noted_same ordered answers (d ∷ dones) none =
    by_test (not ordered || has_before d.index answers) refl none (λ f. noted_same ordered answers dones f)
  where
    next : Bool → Answers
    next b = if b then with_outcome d.index d.answer answers else answers

    by_test : (b : Bool) → (not ordered || has_before d.index answers) ≡ b
        → ((i : ℕ) → i < length answers → has_outcome answers i ≡ false
        → has_outcome (noted ordered (if not ordered || has_before d.index answers then with_outcome d.index d.answer answers else answers) dones) i ≡ false)
        → (((i : ℕ) → i < length answers → has_outcome answers i ≡ false → has_outcome (noted ordered answers dones) i ≡ false)
        → noted ordered answers dones ≡ answers)
        → noted ordered (if not ordered || has_before d.index answers then with_outcome d.index d.answer answers else answers) dones ≡ answers
    by_test false h none later =
        let is : noted ordered (if not ordered || has_before d.index answers then with_outcome d.index d.answer answers else answers) dones
        ≡ noted ordered answers dones = ap (λ b. noted ordered (next b) dones) h in
        is ∙ later (λ i less e. ap (λ l. has_outcome l i) (sym is) ∙ none i less e)
    by_test true h none later = by_kept (keeps_or_has d.index d.answer answers)
      where
        is : noted ordered (if not ordered || has_before d.index answers then with_outcome d.index d.answer answers else answers) dones
            ≡ noted ordered (with_outcome d.index d.answer answers) dones
        is = ap (λ b. noted ordered (next b) dones) h

        by_kept : (with_outcome d.index d.answer answers ≡ answers)
            ⊎ ((has_outcome (with_outcome d.index d.answer answers) d.index ≡ true) × (has_outcome answers d.index ≡ false) × (d.index < length answers))
            → noted ordered (if not ordered || has_before d.index answers then with_outcome d.index d.answer answers else answers) dones ≡ answers
        by_kept (inl same) =
            let all : noted ordered (if not ordered || has_before d.index answers then with_outcome d.index d.answer answers else answers) dones
            ≡ noted ordered answers dones = is ∙ ap (λ l. noted ordered l dones) same in
            all ∙ later (λ i less e. ap (λ l. has_outcome l i) (sym all) ∙ none i less e)
        by_kept (inr (has, missing, less)) =
            let kept : has_outcome (noted ordered (with_outcome d.index d.answer answers) dones) d.index ≡ true =
            noted_more ordered (with_outcome d.index d.answer answers) dones d.index has in
            let lost : has_outcome (noted ordered (with_outcome d.index d.answer answers) dones) d.index ≡ false =
            ap (λ l. has_outcome l d.index) (sym is) ∙ none d.index less missing in
            true_false (sym kept ∙ lost)

-- THE FIRST STATEMENT THAT IS NOT ANSWERED

pub record IsFirstLeft (answers : Answers) (s : Statement) : Type 0 where
  pub before : has_before s.number.index answers ≡ true
  pub missing : has_outcome answers s.number.index ≡ false
  pub within : s.number.index < length answers

pub first_left : (given : Option ClientNumber) (id : RequestId) (operations : List Operation) (answers : Answers) (s : Statement) (more : List Statement)
    → length answers ≡ length operations → unanswered (statements_from given id 0 operations) answers ≡ s ∷ more → IsFirstLeft answers s
first_left given id operations answers s more long left =
    let f = first_passed (λ (x : Statement). not (has_outcome answers x.number.index)) (statements_from given id 0 operations) s more left in
    let at = at_place given id 0 operations f.before s f.back f.all in
    let index = at.numbered in
    let within = at.within in
    record {
      before = ap (λ n. has_before n answers) (let e : s.number.index ≡ length f.before = omega (arith, index) in e)
          ∙ all_before (length f.before) answers (λ i less. not_false (has_outcome answers i)
          (below_place given id 0 operations f.before s f.back (λ n. not (has_outcome answers n) ≡ false) f.all f.fail i (omega arith) (omega (arith, less))));
      missing = not_true (has_outcome answers s.number.index) f.passes;
      within = omega (arith, index, within, long);
    }

-- there is one where the write is not answered
pub some_left : (given : Option ClientNumber) (id : RequestId) (operations : List Operation) (ordered : Bool) (answers : Answers)
    → length answers ≡ length operations → is_answered ordered answers ≡ false
    → (s : Statement) × (more : List Statement) × (unanswered (statements_from given id 0 operations) answers ≡ s ∷ more)
some_left given id operations ordered answers long open_yet = by_list (unanswered (statements_from given id 0 operations) answers) refl
  where
    by_list : (l : List Statement) → unanswered (statements_from given id 0 operations) answers ≡ l
        → (s : Statement) × (more : List Statement) × (unanswered (statements_from given id 0 operations) answers ≡ s ∷ more)
    by_list (s ∷ more) e = (s, more, e)
    by_list [] e =
        let none = none_passed (λ (x : Statement). not (has_outcome answers x.number.index)) (statements_from given id 0 operations) e in
        let whole : is_answered ordered answers ≡ true = all_answered ordered answers (λ i less. not_false (has_outcome answers i)
        (each_index given id 0 operations (λ n. not (has_outcome answers n) ≡ false) none i (omega arith) (omega (arith, less, long)))) in
        true_false (sym whole ∙ open_yet)

-- an index that is not answered is that of a statement that is not
pub index_left : (given : Option ClientNumber) (id : RequestId) (operations : List Operation) (answers : Answers) (P : ℕ → Type 0)
    → length answers ≡ length operations
    → AllByRecursion (λ (x : Statement). has_outcome answers x.number.index ≡ false → P x.number.index) (statements_from given id 0 operations)
    → (i : ℕ) → i < length answers → has_outcome answers i ≡ false → P i
index_left given id operations answers P long all i less none =
    each_index given id 0 operations (λ n. has_outcome answers n ≡ false → P n) all i (omega arith) (omega (arith, less, long)) none
