-- What is given up of a write fits: of an ordered one it is the next statement, and no other is under way.
use Rattle.std.proofs.Common.{◌≡◌, ◌≢◌, ℕ, zero, suc, ◌+◌, ◌<◌, ◌≤◌, List, [], ◌∷◌, refl, sym, subst, arith, Bool}
use Rattle.std.specs.Prelude.{Option, Some, None, is_some, true, false, filter, length, ◌-◌, ◌==◌, ◌&&◌, ◌||◌, if◌then◌else◌}
use Rattle.std.proofs.lemmas.Bool.{eqb-false}
use Rattle.history_model.specs.History.{Operation}
use Rattle.base_model.specs.Refusals.{Refusal}
use Rattle.base_model.specs.Identities.{RequestId}
use Rattle.command_model.specs.Writes.{ClientNumber}
use Rattle.reply_model.specs.Outcomes.{StatementOutcome, was_done, was_refused, WasRefused, refusal_in, with_outcome, dones_from}
use Rattle.reply_model.specs.Exchanges.{number_for}
use Rattle.node_model.specs.Letters.{Statement}
use Rattle.node_model.specs.RouterRequests.{statements_from, has_index}
use Rattle.node_model.specs.RouterNext.{has_before, is_answered}
use Rattle.node_laws.proofs.Views.{Reach, reach_of}
use Rattle.node_laws.proofs.Facts.{AreCut}
use Rattle.node_laws.proofs.Outcomes.{Answers, IsFront, AreNone, NoneEnds, no_dones, index_is}

-- THE FIRST OUTCOMES

-- the next place is after all that there are
pub next_place : (first : ℕ) (answers : Answers) → IsFront answers → NoneEnds answers → has_before (length (dones_from first answers)) answers ≡ true
next_place first [] front goes = refl
next_place first (None ∷ answers) front goes =
    subst (λ l. has_before (length l) (None ∷ answers) ≡ true) (sym (no_dones (first + 1) answers front)) refl
next_place first (Some x ∷ answers) front goes =
    next_place (first + 1) answers (subst (λ b. elim b as (λ z. Type 0) [ true ↦ AreNone answers | false ↦ IsFront answers ]) goes.0 front) goes.1

-- where none ends the write, none was refused
none_refused : (x : StatementOutcome) → is_some (refusal_in x) ≡ false → WasRefused x → ⊥
none_refused x good refused = by_outcome x good refused
  where
    by_outcome : (y : StatementOutcome) → is_some (refusal_in y) ≡ false → WasRefused y → ⊥
    by_outcome (was_refused refusal) good refused = cc
    by_outcome (was_done time outcome) good refused = refused

pub cut_none : (notes : List Reach) (own : RequestId) (first : ℕ) (answers : Answers) → NoneEnds answers → AreCut notes own (dones_from first answers)
cut_none notes own first [] goes = tt
cut_none notes own first (None ∷ answers) goes = cut_none notes own (first + 1) answers goes
cut_none notes own first (Some x ∷ answers) goes =
    ((λ refused young. absurd (none_refused x goes.0 refused)), cut_none notes own (first + 1) answers goes.1)

pub cut_given : (notes : List Reach) (own : RequestId) (refusal : Refusal) (first index : ℕ) (answers : Answers) → NoneEnds answers
    → reach_of own notes ≤ first + index + 1 → AreCut notes own (dones_from first (with_outcome index (was_refused refusal) answers))
cut_given notes own refusal first index [] goes le = tt
cut_given notes own refusal first zero (None ∷ answers) goes le =
    ((λ refused young. omega (arith, le)), cut_none notes own (first + 1) answers goes)
cut_given notes own refusal first zero (Some y ∷ answers) goes le =
    ((λ refused young. absurd (none_refused y goes.0 refused)), cut_none notes own (first + 1) answers goes.1)
cut_given notes own refusal first (suc index) (None ∷ answers) goes le = cut_given notes own refusal (first + 1) index answers goes (omega (arith, le))
cut_given notes own refusal first (suc index) (Some y ∷ answers) goes le =
    ((λ refused young. absurd (none_refused y goes.0 refused)), cut_given notes own refusal (first + 1) index answers goes.1 (omega (arith, le)))

-- the first that is open is refused, which ends an ordered write
pub given_ends : (refusal : Refusal) (first : ℕ) (answers : Answers) → IsFront answers → NoneEnds answers
    → is_answered true (with_outcome (length (dones_from first answers)) (was_refused refusal) answers) ≡ true
given_ends refusal first [] front goes = refl
given_ends refusal first (None ∷ answers) front goes =
    subst (λ l. is_answered true (with_outcome (length l) (was_refused refusal) (None ∷ answers)) ≡ true) (sym (no_dones (first + 1) answers front)) refl
given_ends refusal first (Some x ∷ answers) front goes =
    by_test (is_some (refusal_in x))
    (given_ends refusal (first + 1) answers (subst (λ b. elim b as (λ z. Type 0) [ true ↦ AreNone answers | false ↦ IsFront answers ]) goes.0 front) goes.1)
  where
    by_test : (b : Bool) → is_answered true (with_outcome (length (dones_from (first + 1) answers)) (was_refused refusal) answers) ≡ true
        → (if true && b then true else is_answered true (with_outcome (length (dones_from (first + 1) answers)) (was_refused refusal) answers)) ≡ true
    by_test true h = refl
    by_test false h = h

-- STATEMENTS FROM A PLACE ON

-- the one with an index is found
pub found_at : (given : Option ClientNumber) (id : RequestId) (i n : ℕ) (operations : List Operation) → n ≤ i → i < n + length operations
    → filter (λ (s : Statement). has_index (i ∷ []) s.number.index) (statements_from given id n operations) ≢ []
found_at given id i n [] least most none = absurd (omega (arith, least, most))
found_at given id i n (operation ∷ operations) least most none =
    by_test (i == n) refl (λ le less more. found_at given id i (n + 1) operations le less more)
  where
    other_than : n ≤ i → i ≢ n → n < i
    other_than le other = by_place (i - n) refl
      where
        by_place : (k : ℕ) → i - n ≡ k → n < i
        by_place zero e = absurd (other (omega (arith, e, le)))
        by_place (suc k) e = omega (arith, e, le)

    Rest : List Statement
    Rest = filter (λ (s : Statement). has_index (i ∷ []) s.number.index) (statements_from given id (n + 1) operations)

    whole : (if (i == n) || false then record { number = number_for given id n; operation = operation } ∷ Rest else Rest) ≡ []
    whole = subst (λ k. (if (i == k) || false then record { number = number_for given id n; operation = operation } ∷ Rest else Rest) ≡ []) (index_is given id n) none

    by_test : (b : Bool) → (i == n) ≡ b → (n + 1 ≤ i → i < n + 1 + length operations → Rest ≢ []) → ⊥
    by_test true h more =
        let e : record { number = number_for given id n; operation = operation } ∷ Rest ≡ [] =
        subst (λ b. (if b || false then record { number = number_for given id n; operation = operation } ∷ Rest else Rest) ≡ []) h whole in cc
    by_test false h more =
        more (let other = eqb-false i n h in omega (arith, least, other_than least other)) (omega (arith, most))
        (subst (λ b. (if b || false then record { number = number_for given id n; operation = operation } ∷ Rest else Rest) ≡ []) h whole)
