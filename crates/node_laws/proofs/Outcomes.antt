-- The outcomes of an open write, by index: of an ordered one the first statements have theirs, and after one that ends it none has.
use Rattle.std.proofs.Common.{◌≡◌, ◌⊎◌, inl, inr, ℕ, zero, suc, ◌+◌, ◌<◌, List, [], ◌∷◌, ◌++◌, refl, sym, ap, subst, ◌∙◌, arith, append_assoc, Bool}
use Rattle.std.specs.Prelude.{Option, Some, None, is_some, true, false, not, length, drop, ◌&&◌, ◌||◌, if◌then◌else◌}
use Rattle.std.specs.List.{AllByRecursion}
use Rattle.base_model.specs.Refusals.{Refusal}
use Rattle.command_model.specs.Writes.{ClientNumber, WriteCommand}
use Rattle.history_model.specs.History.{Operation, Entry}
use Rattle.base_model.specs.Identities.{RequestId}
use Rattle.reply_model.specs.Exchanges.{number_for}
use Rattle.reply_model.specs.Outcomes.{StatementOutcome, was_refused, Done, refusal_in, has_outcome, with_outcome, dones_from, none_yet}
use Rattle.reply_model.specs.Right.{ends}
use Rattle.node_model.specs.Letters.{Statement}
use Rattle.node_model.specs.RouterRequests.{statements_from, unanswered}
use Rattle.node_model.specs.RouterNext.{has_before, with_done, noted, is_answered}
use Rattle.node_laws.proofs.WriteFacts.{IsAnswerOf, by_entry, by_older, IsDoneAt, AreAnswers, OnlyLast}
use Rattle.node_laws.proofs.AnswerTimes.{IsBelow, AreBelow}

abbrev pub Answers : Type 0
Answers = List (Option StatementOutcome)

-- a statement of a write was given up, for one of these reasons
pub record IsGivenUpAt (gave : Refusal → Type 0) (write : WriteCommand) (d : Done) : Type 0 where
  pub within : d.index < length write.operations
  pub refusal : Refusal
  pub is : d.answer ≡ was_refused refusal
  pub why : gave refusal

-- the outcome of a statement, or why it was given up
abbrev pub IsOutcomeAt : (gave : Refusal → Type 0) → List Entry → (time : ℕ) → WriteCommand → RequestId → Done → Type 0
IsOutcomeAt gave history time write id d = IsDoneAt history time write id d ⊎ IsGivenUpAt gave write d

-- each that there is is the outcome of a statement of a write, the first of that with this index
abbrev pub AreOutcomes : (gave : Refusal → Type 0) → List Entry → (time : ℕ) → WriteCommand → RequestId → (index : ℕ) → Answers → Type 0
AreOutcomes gave history time write id index [] = Unit {0}
AreOutcomes gave history time write id index (None ∷ answers) = AreOutcomes gave history time write id (index + 1) answers
AreOutcomes gave history time write id index (Some x ∷ answers) =
    IsOutcomeAt gave history time write id (record { index = index; answer = x }) × AreOutcomes gave history time write id (index + 1) answers

abbrev pub AreNone : Answers → Type 0
AreNone [] = Unit {0}
AreNone (None ∷ answers) = AreNone answers
AreNone (Some x ∷ answers) = ⊥

-- the first statements have outcomes, and after one that ends an ordered write none has
abbrev pub IsFront : Answers → Type 0
IsFront [] = Unit {0}
IsFront (None ∷ answers) = AreNone answers
IsFront (Some x ∷ answers) = elim (is_some (refusal_in x)) [ true ↦ AreNone answers | false ↦ IsFront answers ]

-- none ends an ordered write
abbrev pub NoneEnds : Answers → Type 0
NoneEnds [] = Unit {0}
NoneEnds (None ∷ answers) = NoneEnds answers
NoneEnds (Some x ∷ answers) = (is_some (refusal_in x) ≡ false) × NoneEnds answers

abbrev FrontBy : Bool → Answers → Type 0
FrontBy b answers = elim b [ true ↦ AreNone answers | false ↦ IsFront answers ]

-- NONE

pub none_front : (answers : Answers) → AreNone answers → IsFront answers
none_front [] none = tt
none_front (None ∷ answers) none = none
none_front (Some x ∷ answers) none = absurd none

none_end : (answers : Answers) → AreNone answers → NoneEnds answers
none_end [] none = tt
none_end (None ∷ answers) none = none_end answers none
none_end (Some x ∷ answers) none = absurd none

pub no_dones : (index : ℕ) (answers : Answers) → AreNone answers → dones_from index answers ≡ []
no_dones index [] none = refl
no_dones index (None ∷ answers) none = no_dones (index + 1) answers none
no_dones index (Some x ∷ answers) none = absurd none

pub none_are : {A : Type 0} (xs : List A) → AreNone (none_yet xs)
none_are [] = tt
none_are (x ∷ xs) = none_are xs

pub none_long : {A : Type 0} (xs : List A) → length (none_yet xs) ≡ length xs
none_long [] = refl
none_long (x ∷ xs) = ap suc (none_long xs)

pub none_outcomes : {A : Type 0} (gave : Refusal → Type 0) (history : List Entry) (time : ℕ) (write : WriteCommand) (id : RequestId) (index : ℕ) (xs : List A)
    → AreOutcomes gave history time write id index (none_yet xs)
none_outcomes gave history time write id index [] = tt
none_outcomes gave history time write id index (x ∷ xs) = none_outcomes gave history time write id (index + 1) xs

-- WHAT AN OPEN WRITE HAS

true_not : {X : Type 0} → true ≡ false → X
true_not e = absurd (cc)

-- where an ordered write is not answered none of its outcomes ends it
pub open_ends : (answers : Answers) → IsFront answers → is_answered true answers ≡ false → NoneEnds answers
open_ends [] front open_yet = tt
open_ends (None ∷ answers) front open_yet = none_end answers front
open_ends (Some x ∷ answers) front open_yet = by_test (is_some (refusal_in x)) refl front open_yet (λ f o. open_ends answers f o)
  where
    by_test : (b : Bool) → is_some (refusal_in x) ≡ b → FrontBy b answers → (if true && b then true else is_answered true answers) ≡ false
        → (IsFront answers → is_answered true answers ≡ false → NoneEnds answers) → (is_some (refusal_in x) ≡ false) × NoneEnds answers
    by_test true h f o more = true_not o
    by_test false h f o more = (h, more f o)

pub goes_dones : (index : ℕ) (answers : Answers) → NoneEnds answers → AllByRecursion (λ d. ends true d ≡ false) (dones_from index answers)
goes_dones index [] goes = tt
goes_dones index (None ∷ answers) goes = goes_dones (index + 1) answers goes
goes_dones index (Some x ∷ answers) goes = (goes.0, goes_dones (index + 1) answers goes.1)

-- of an ordered write that is not answered none was given up
pub front_answers : (gave : Refusal → Type 0) (history : List Entry) (time : ℕ) (write : WriteCommand) (id : RequestId) (index : ℕ) (answers : Answers)
    → IsFront answers → NoneEnds answers → AreOutcomes gave history time write id index answers
    → AreAnswers history time write id index (dones_from index answers)
front_answers gave history time write id index [] front goes all = tt
front_answers gave history time write id index (None ∷ answers) front goes all =
    subst (λ l. AreAnswers history time write id index l) (sym (no_dones (index + 1) answers front)) tt
front_answers gave history time write id index (Some x ∷ answers) front goes all = (
  refl,
  by_outcome all.0,
  front_answers gave history time write id (index + 1) answers (subst (λ b. FrontBy b answers) goes.0 front) goes.1 all.1,
)
  where
    by_outcome : IsOutcomeAt gave history time write id (record { index = index; answer = x }) → IsDoneAt history time write id (record { index = index; answer = x })
    by_outcome (inl done) = done
    by_outcome (inr given) = absurd (true_not (sym (ap (λ (y : StatementOutcome). is_some (refusal_in y)) given.is) ∙ goes.0))

-- so its outcomes are those of entries
pub open_outcomes : (gave : Refusal → Type 0) (history : List Entry) (time : ℕ) (write : WriteCommand) (id : RequestId) (index : ℕ) (answers : Answers)
    → NoneEnds answers → AreOutcomes gave history time write id index answers → AreOutcomes (λ r. ⊥) history time write id index answers
open_outcomes gave history time write id index [] goes all = tt
open_outcomes gave history time write id index (None ∷ answers) goes all = open_outcomes gave history time write id (index + 1) answers goes all
open_outcomes gave history time write id index (Some x ∷ answers) goes all =
    (by_outcome all.0, open_outcomes gave history time write id (index + 1) answers goes.1 all.1)
  where
    by_outcome : IsOutcomeAt gave history time write id (record { index = index; answer = x })
        → IsOutcomeAt (λ r. ⊥) history time write id (record { index = index; answer = x })
    by_outcome (inl done) = inl done
    by_outcome (inr given) = absurd (true_not (sym (ap (λ (y : StatementOutcome). is_some (refusal_in y)) given.is) ∙ goes.0))

-- outcomes are of entries that are not above the time
pub outcomes_below : (gave : Refusal → Type 0) (history : List Entry) (time : ℕ) (write : WriteCommand) (id : RequestId) (index : ℕ) (answers : Answers)
    → AreOutcomes gave history time write id index answers → AreBelow time (dones_from index answers)
outcomes_below gave history time write id index [] all = tt
outcomes_below gave history time write id index (None ∷ answers) all = outcomes_below gave history time write id (index + 1) answers all
outcomes_below gave history time write id index (Some x ∷ answers) all =
    (by_outcome all.0, outcomes_below gave history time write id (index + 1) answers all.1)
  where
    of_answer : (answer : StatementOutcome) → IsAnswerOf history time (number_for write.number id index) answer → IsBelow time answer
    of_answer _ (by_entry e i numbered past) = past
    of_answer _ (by_older e i session less past) = tt

    by_outcome : IsOutcomeAt gave history time write id (record { index = index; answer = x }) → IsBelow time x
    by_outcome (inl done) = of_answer x done.answer
    by_outcome (inr given) = subst (λ (y : StatementOutcome). IsBelow time y) (sym given.is) tt

-- for more reasons
pub outcomes_weaken : (gave more : Refusal → Type 0) (history : List Entry) (time : ℕ) (write : WriteCommand) (id : RequestId) (index : ℕ) (answers : Answers)
    → ((r : Refusal) → gave r → more r) → AreOutcomes gave history time write id index answers → AreOutcomes more history time write id index answers
outcomes_weaken gave more history time write id index [] f all = tt
outcomes_weaken gave more history time write id index (None ∷ answers) f all = outcomes_weaken gave more history time write id (index + 1) answers f all
outcomes_weaken gave more history time write id index (Some x ∷ answers) f all =
    (by_outcome all.0, outcomes_weaken gave more history time write id (index + 1) answers f all.1)
  where
    by_outcome : IsOutcomeAt gave history time write id (record { index = index; answer = x })
        → IsOutcomeAt more history time write id (record { index = index; answer = x })
    by_outcome (inl done) = inl done
    by_outcome (inr given) = inr (record { within = given.within; refusal = given.refusal; is = given.is; why = f given.refusal given.why })

-- WHAT IS NOTED

pub with_long : (index : ℕ) (x : StatementOutcome) (answers : Answers) → length (with_outcome index x answers) ≡ length answers
with_long index x [] = refl
with_long zero x (None ∷ answers) = refl
with_long zero x (Some y ∷ answers) = refl
with_long (suc index) x (y ∷ answers) = ap suc (with_long index x answers)

-- what holds with the outcome and without it holds after it is noted
by_noted : (P : Answers → Type 0) (ordered : Bool) (d : Done) (answers : Answers)
    → ((not ordered || has_before d.index answers) ≡ true → P (with_outcome d.index d.answer answers)) → P answers → P (with_done ordered d answers)
by_noted P ordered d answers with_it without_it = by_test (not ordered || has_before d.index answers) refl
  where
    by_test : (b : Bool) → (not ordered || has_before d.index answers) ≡ b → P (if b then with_outcome d.index d.answer answers else answers)
    by_test true h = with_it h
    by_test false h = without_it

pub noted_long : (ordered : Bool) (answers : Answers) (dones : List Done) → length (noted ordered answers dones) ≡ length answers
noted_long ordered answers [] = refl
noted_long ordered answers (d ∷ dones) =
    noted_long ordered (with_done ordered d answers) dones
    ∙ by_noted (λ a. length a ≡ length answers) ordered d answers (λ h. with_long d.index d.answer answers) refl

pub with_outcomes : (gave : Refusal → Type 0) (history : List Entry) (time : ℕ) (write : WriteCommand) (id : RequestId) (first index : ℕ) (x : StatementOutcome) (answers : Answers)
    → IsOutcomeAt gave history time write id (record { index = first + index; answer = x }) → AreOutcomes gave history time write id first answers
    → AreOutcomes gave history time write id first (with_outcome index x answers)
with_outcomes gave history time write id first index x [] done all = tt
with_outcomes gave history time write id first zero x (None ∷ answers) done all =
    (subst (λ n. IsOutcomeAt gave history time write id (record { index = n; answer = x })) (omega arith) done, all)
with_outcomes gave history time write id first zero x (Some y ∷ answers) done all = all
with_outcomes gave history time write id first (suc index) x (None ∷ answers) done all =
    with_outcomes gave history time write id (first + 1) index x answers
    (subst (λ n. IsOutcomeAt gave history time write id (record { index = n; answer = x })) (omega arith) done) all
with_outcomes gave history time write id first (suc index) x (Some y ∷ answers) done all = (
  all.0,
  with_outcomes gave history time write id (first + 1) index x answers
      (subst (λ n. IsOutcomeAt gave history time write id (record { index = n; answer = x })) (omega arith) done) all.1,
)

pub noted_outcomes : (gave : Refusal → Type 0) (history : List Entry) (time : ℕ) (write : WriteCommand) (id : RequestId) (ordered : Bool) (answers : Answers) (dones : List Done)
    → AreOutcomes gave history time write id 0 answers → AllByRecursion (IsDoneAt history time write id) dones
    → AreOutcomes gave history time write id 0 (noted ordered answers dones)
noted_outcomes gave history time write id ordered answers [] all news = all
noted_outcomes gave history time write id ordered answers (d ∷ dones) all news =
    noted_outcomes gave history time write id ordered (with_done ordered d answers) dones
    (by_noted (AreOutcomes gave history time write id 0) ordered d answers
    (λ h. with_outcomes gave history time write id 0 d.index d.answer answers
    (subst (λ n. IsOutcomeAt gave history time write id (record { index = n; answer = d.answer })) (omega arith) (inl news.0)) all) all) news.1

pub with_front : (index : ℕ) (x : StatementOutcome) (answers : Answers) → IsFront answers → NoneEnds answers → has_before index answers ≡ true
    → IsFront (with_outcome index x answers)
with_front index x [] front goes before = tt
with_front zero x (None ∷ answers) none goes before = by_test (is_some (refusal_in x))
  where
    by_test : (b : Bool) → FrontBy b answers
    by_test true = none
    by_test false = none_front answers none
with_front zero x (Some y ∷ answers) front goes before = front
with_front (suc index) x (None ∷ answers) front goes before = absurd (cc)
with_front (suc index) x (Some y ∷ answers) front goes before =
    subst (λ b. FrontBy b (with_outcome index x answers)) (sym goes.0)
    (with_front index x answers (subst (λ b. FrontBy b answers) goes.0 front) goes.1 before)

with_ends : (index : ℕ) (x : StatementOutcome) (answers : Answers) → is_some (refusal_in x) ≡ false → NoneEnds answers
    → NoneEnds (with_outcome index x answers)
with_ends index x [] good goes = tt
with_ends zero x (None ∷ answers) good goes = (good, goes)
with_ends zero x (Some y ∷ answers) good goes = goes
with_ends (suc index) x (None ∷ answers) good goes = with_ends index x answers good goes
with_ends (suc index) x (Some y ∷ answers) good goes = (goes.0, with_ends index x answers good goes.1)

-- of an ordered write, where only the last that arrives ends it
pub noted_front : (answers : Answers) (dones : List Done) → IsFront answers → NoneEnds answers → OnlyLast true dones → IsFront (noted true answers dones)
noted_front answers [] front goes last = front
noted_front answers (d ∷ dones) front goes last =
    by_end (is_some (refusal_in d.answer)) refl (λ f g. noted_front (with_done true d answers) dones f g last.1)
  where
    here : IsFront (with_done true d answers)
    here = by_noted IsFront true d answers (λ h. with_front d.index d.answer answers front goes h) front

    by_end : (b : Bool) → is_some (refusal_in d.answer) ≡ b
        → (IsFront (with_done true d answers) → NoneEnds (with_done true d answers) → IsFront (noted true (with_done true d answers) dones))
        → IsFront (noted true (with_done true d answers) dones)
    by_end true h more = subst (λ l. IsFront (noted true (with_done true d answers) l)) (sym (last.0 h)) here
    by_end false h more = more here (by_noted NoneEnds true d answers (λ b. with_ends d.index d.answer answers h goes) goes)

-- MORE OUTCOMES

-- what has an outcome keeps one
abbrev pub HasMore : (old new : Answers) → Type 0
HasMore old new = (index : ℕ) → has_outcome old index ≡ true → has_outcome new index ≡ true

pub with_more : (index : ℕ) (x : StatementOutcome) (answers : Answers) (i : ℕ) → has_outcome answers i ≡ true → has_outcome (with_outcome index x answers) i ≡ true
with_more index x [] i h = h
with_more zero x (None ∷ answers) zero h = refl
with_more zero x (None ∷ answers) (suc i) h = h
with_more zero x (Some y ∷ answers) i h = h
with_more (suc index) x (y ∷ answers) zero h = h
with_more (suc index) x (y ∷ answers) (suc i) h = with_more index x answers i h

pub noted_more : (ordered : Bool) (answers : Answers) (dones : List Done) → HasMore answers (noted ordered answers dones)
noted_more ordered answers [] i h = h
noted_more ordered answers (d ∷ dones) i h =
    noted_more ordered (with_done ordered d answers) dones i
    (by_noted (λ a. has_outcome a i ≡ true) ordered d answers (λ b. with_more d.index d.answer answers i h) h)

-- THE STATEMENTS THAT ARE NOT ANSWERED

pub index_is : (given : Option ClientNumber) (id : RequestId) (n : ℕ) → (number_for given id n).index ≡ n
index_is None id n = refl
index_is (Some by) id n = refl

pub statements_long : (given : Option ClientNumber) (id : RequestId) (index : ℕ) (operations : List Operation)
    → length (statements_from given id index operations) ≡ length operations
statements_long given id index [] = refl
statements_long given id index (operation ∷ operations) = ap suc (statements_long given id (index + 1) operations)

-- at the place after others
has_after : (front : Answers) (x : Option StatementOutcome) (answers : Answers) → has_outcome (front ++ x ∷ answers) (length front) ≡ is_some x
has_after [] x answers = refl
has_after (y ∷ front) x answers = has_after front x answers

pushed : {X : Type 0} (xs : List X) (x : X) → length (xs ++ x ∷ []) ≡ length xs + 1
pushed [] x = refl
pushed (y ∷ xs) x = let n = pushed xs x in omega (arith, n)

module _ (given : Option ClientNumber) (id : RequestId) where
  -- the statements from the end of others' outcomes on, of which the others have outcomes
  abbrev Left : Answers → ℕ → List Operation → List Statement
  Left answers index operations = unanswered (statements_from given id index operations) answers

  head_is : (front : Answers) (x : Option StatementOutcome) (answers : Answers)
      → has_outcome (front ++ x ∷ answers) (number_for given id (length front)).index ≡ is_some x
  head_is front x answers = ap (λ n. has_outcome (front ++ x ∷ answers) n) (index_is given id (length front)) ∙ has_after front x answers

  -- by the first of them
  left_first : (front : Answers) (x : Option StatementOutcome) (answers : Answers) (operation : Operation) (operations : List Operation)
      → Left (front ++ x ∷ answers) (length front) (operation ∷ operations)
      ≡ (if not (is_some x) then record { number = number_for given id (length front); operation = operation }
      ∷ Left ((front ++ x ∷ []) ++ answers) (length (front ++ x ∷ [])) operations else Left ((front ++ x ∷ []) ++ answers) (length (front ++ x ∷ [])) operations)
  left_first front x answers operation operations =
      ap (λ t. if not t then record { number = number_for given id (length front); operation = operation }
      ∷ Left (front ++ x ∷ answers) (length front + 1) operations else Left (front ++ x ∷ answers) (length front + 1) operations) (head_is front x answers)
      ∙ ap (λ l. if not (is_some x) then record { number = number_for given id (length front); operation = operation } ∷ l else l)
      (ap (λ n. Left (front ++ x ∷ answers) n operations) (sym (pushed front x))
      ∙ ap (λ a. Left a (length (front ++ x ∷ [])) operations) (sym (append_assoc front (x ∷ []) answers)))

  next_ones : (front : Answers) (x : Option StatementOutcome) (operations : List Operation)
      → statements_from given id (length (front ++ x ∷ [])) operations ≡ statements_from given id (length front + 1) operations
  next_ones front x operations = ap (λ n. statements_from given id n operations) (pushed front x)

  all_left : (front answers : Answers) (operations : List Operation) → length answers ≡ length operations → AreNone answers
      → Left (front ++ answers) (length front) operations ≡ statements_from given id (length front) operations
  all_left front [] [] long none = refl
  all_left front [] (operation ∷ operations) long none = absurd (omega arith)
  all_left front (x ∷ answers) [] long none = absurd (omega arith)
  all_left front (Some x ∷ answers) (operation ∷ operations) long none = absurd none
  all_left front (None ∷ answers) (operation ∷ operations) long none =
      left_first front None answers operation operations
      ∙ ap (λ l. record { number = number_for given id (length front); operation = operation } ∷ l)
      (all_left (front ++ None ∷ []) answers operations (omega arith) none ∙ next_ones front None operations)

  -- of an ordered write they are those after the first ones
  left_behind : (front answers : Answers) (operations : List Operation) → length answers ≡ length operations → IsFront answers
      → Left (front ++ answers) (length front) operations
      ≡ drop (length (dones_from (length front) answers)) (statements_from given id (length front) operations)
  left_behind front [] [] long is = refl
  left_behind front [] (operation ∷ operations) long is = absurd (omega arith)
  left_behind front (x ∷ answers) [] long is = absurd (omega arith)
  left_behind front (None ∷ answers) (operation ∷ operations) long is =
      all_left front (None ∷ answers) (operation ∷ operations) long is
      ∙ ap (λ (l : List Done). drop (length l) (statements_from given id (length front) (operation ∷ operations))) (sym (no_dones (length front + 1) answers is))
  left_behind front (Some x ∷ answers) (operation ∷ operations) long is =
      left_first front (Some x) answers operation operations
      ∙ by_test (is_some (refusal_in x)) is (λ f. left_behind (front ++ Some x ∷ []) answers operations (omega arith) f)
      ∙ ap (λ n. drop (length (dones_from n answers)) (statements_from given id n operations)) (pushed front (Some x))
    where
      by_test : (b : Bool) → FrontBy b answers
          → (IsFront answers → Left ((front ++ Some x ∷ []) ++ answers) (length (front ++ Some x ∷ [])) operations
          ≡ drop (length (dones_from (length (front ++ Some x ∷ [])) answers)) (statements_from given id (length (front ++ Some x ∷ [])) operations))
          → Left ((front ++ Some x ∷ []) ++ answers) (length (front ++ Some x ∷ [])) operations
          ≡ drop (length (dones_from (length (front ++ Some x ∷ [])) answers)) (statements_from given id (length (front ++ Some x ∷ [])) operations)
      by_test true none more =
          all_left (front ++ Some x ∷ []) answers operations (omega arith) none
          ∙ ap (λ (l : List Done). drop (length l) (statements_from given id (length (front ++ Some x ∷ [])) operations))
          (sym (no_dones (length (front ++ Some x ∷ [])) answers none))
      by_test false f more = more f

pub front_left : (given : Option ClientNumber) (id : RequestId) (answers : Answers) (operations : List Operation) → length answers ≡ length operations
    → IsFront answers
    → unanswered (statements_from given id 0 operations) answers ≡ drop (length (dones_from 0 answers)) (statements_from given id 0 operations)
front_left given id answers operations long front = left_behind given id [] answers operations long front
