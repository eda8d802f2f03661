-- The outcomes that a router notes: those of an ordered write have their turn.
use Rattle.std.proofs.Common.{◌≡◌, ℕ, zero, suc, ◌+◌, ◌<◌, List, [], ◌∷◌, refl, sym, subst, arith, Bool}
use Rattle.std.specs.Prelude.{length, Option, Some, None, is_some, true, false, not, ◌&&◌, ◌||◌, if◌then◌else◌}
use Rattle.std.specs.List.{AllByRecursion}
use Rattle.history_model.specs.History.{Operation}
use Rattle.reply_model.specs.Outcomes.{StatementOutcome, Done, refusal_in, with_outcome, dones_from, none_yet}
use Rattle.node_model.specs.RouterNext.{has_before, with_done, noted, is_answered}
use Rattle.node_laws.proofs.Outcomes.{AreNone, no_dones}
use Rattle.node_replay.specs.Acknowledged.{AreInTurn, are_all}

abbrev Answers : Type 0
Answers = List (Option StatementOutcome)

-- the first statements have outcomes, and no others
abbrev pub IsPrefix : Answers → Type 0
IsPrefix [] = Unit {0}
IsPrefix (None ∷ answers) = AreNone answers
IsPrefix (Some x ∷ answers) = IsPrefix answers

-- what holds with the outcome and without it holds after it is noted
by_noted : (P : Answers → Type 0) (ordered : Bool) (d : Done) (answers : Answers)
    → ((not ordered || has_before d.index answers) ≡ true → P (with_outcome d.index d.answer answers)) → P answers → P (with_done ordered d answers)
by_noted P ordered d answers with_it without_it = by_test (not ordered || has_before d.index answers) refl
  where
    by_test : (b : Bool) → (not ordered || has_before d.index answers) ≡ b → P (if b then with_outcome d.index d.answer answers else answers)
    by_test true h = with_it h
    by_test false h = without_it

pub with_all : (P : Done → Type 0) (first index : ℕ) (x : StatementOutcome) (answers : Answers)
    → (index < length answers → P (record { index = first + index; answer = x })) → AllByRecursion P (dones_from first answers)
    → AllByRecursion P (dones_from first (with_outcome index x answers))
with_all P first index x [] new all = tt
with_all P first zero x (None ∷ answers) new all = (subst (λ n. P (record { index = n; answer = x })) (omega arith) (new (omega arith)), all)
with_all P first zero x (Some y ∷ answers) new all = all
with_all P first (suc index) x (None ∷ answers) new all =
    with_all P (first + 1) index x answers (λ less. subst (λ n. P (record { index = n; answer = x })) (omega arith) (new (omega (arith, less)))) all
with_all P first (suc index) x (Some y ∷ answers) new all = (
  all.0,
  with_all P (first + 1) index x answers (λ less. subst (λ n. P (record { index = n; answer = x })) (omega arith) (new (omega (arith, less)))) all.1,
)

pub all_noted : (P : Done → Type 0) (ordered : Bool) (answers : Answers) (dones : List Done) → AllByRecursion P (dones_from 0 answers) → AllByRecursion P dones
    → AllByRecursion P (dones_from 0 (noted ordered answers dones))
all_noted P ordered answers [] old new = old
all_noted P ordered answers (d ∷ dones) old new =
    all_noted P ordered (with_done ordered d answers) dones
    (by_noted (λ a. AllByRecursion P (dones_from 0 a)) ordered d answers
    (λ h. with_all P 0 d.index d.answer answers (λ less. subst (λ n. P (record { index = n; answer = d.answer })) (omega arith) new.0) old) old) new.1

none_before : (answers : Answers) → AreNone answers → IsPrefix answers
none_before [] none = tt
none_before (None ∷ answers) none = none
none_before (Some x ∷ answers) none = absurd none

pub with_prefix : (index : ℕ) (x : StatementOutcome) (answers : Answers) → IsPrefix answers → has_before index answers ≡ true
    → IsPrefix (with_outcome index x answers)
with_prefix index x [] all before = tt
with_prefix zero x (None ∷ answers) all before = none_before answers all
with_prefix zero x (Some y ∷ answers) all before = all
with_prefix (suc index) x (None ∷ answers) all before = absurd (cc)
with_prefix (suc index) x (Some y ∷ answers) all before = with_prefix index x answers all before

pub noted_prefix : (answers : Answers) (dones : List Done) → IsPrefix answers → IsPrefix (noted true answers dones)
noted_prefix answers [] all = all
noted_prefix answers (d ∷ dones) all =
    noted_prefix (with_done true d answers) dones (by_noted IsPrefix true d answers (λ h. with_prefix d.index d.answer answers all h) all)

-- they are in turn
pub prefix_turns : (index : ℕ) (answers : Answers) → IsPrefix answers → AreInTurn index (dones_from index answers)
prefix_turns index [] all = tt
prefix_turns index (None ∷ answers) all = subst (λ l. AreInTurn index l) (sym (no_dones (index + 1) answers all)) tt
prefix_turns index (Some x ∷ answers) all = (refl, prefix_turns (index + 1) answers all)

pub full_turns : (index : ℕ) (answers : Answers) → is_answered false answers ≡ true → AreInTurn index (dones_from index answers)
full_turns index [] whole = tt
full_turns index (None ∷ answers) whole = absurd (cc)
full_turns index (Some x ∷ answers) whole = (refl, full_turns (index + 1) answers whole)

-- where a write is answered they are those of all its statements
pub all_done : (ordered : Bool) (index : ℕ) (answers : Answers) (operations : List Operation) → length answers ≡ length operations
    → is_answered ordered answers ≡ true → are_all ordered operations (dones_from index answers) ≡ true
all_done ordered index [] [] long whole = refl
all_done ordered index [] (operation ∷ operations) long whole = absurd (omega arith)
all_done ordered index (x ∷ answers) [] long whole = absurd (omega arith)
all_done ordered index (None ∷ answers) (operation ∷ operations) long whole = absurd (cc)
all_done ordered index (Some x ∷ answers) (operation ∷ operations) long whole =
    by_test (ordered && is_some (refusal_in x)) whole (λ rest. all_done ordered (index + 1) answers operations (omega arith) rest)
  where
    by_test : (b : Bool) → (if b then true else is_answered ordered answers) ≡ true
        → (is_answered ordered answers ≡ true → are_all ordered operations (dones_from (index + 1) answers) ≡ true)
        → (if b then true else are_all ordered operations (dones_from (index + 1) answers)) ≡ true
    by_test true h more = refl
    by_test false h more = more h

-- nothing is noted of a write that begins
pub nothing_noted : {A : Type 0} (P : Done → Type 0) (index : ℕ) (xs : List A) → AllByRecursion P (dones_from index (none_yet xs))
nothing_noted P index [] = tt
nothing_noted P index (x ∷ xs) = nothing_noted P (index + 1) xs

pub nothing_before : {A : Type 0} (xs : List A) → IsPrefix (none_yet xs)
nothing_before [] = tt
nothing_before (x ∷ xs) = all_none xs
  where
    all_none : {A : Type 0} (xs : List A) → AreNone (none_yet xs)
    all_none [] = tt
    all_none (x ∷ xs) = all_none xs
