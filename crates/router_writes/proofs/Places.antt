-- Outcomes by index: which are new, and what becomes of the first statement without one.
use Rattle.std.proofs.Common.{◌≡◌, ◌≢◌, refl, ap, sym, ◌∙◌, subst, ℕ, zero, suc, ◌+◌, ◌<◌, ◌≤◌, List, [], ◌∷◌, ◌++◌, append-nil, drop, length, map, get_or, Bool, true, false, MatchBool, arith}
use Rattle.std.specs.Prelude.{Option, Some, None, is_none, not, ◌&&◌, ◌||◌, if◌then◌else◌}
use Rattle.std.specs.List.{slice_set}
use Rattle.std.specs.Option.{option_map}
use Rattle.std.proofs.lemmas.List.{at_drop_all, map-set}
use Rattle.reply_model.specs.Outcomes.{Done, StatementOutcome, with_outcome, none_yet}
use Rattle.node_model.specs.RouterNext.{has_before, with_done}
use Rattle.protocol_model.specs.declared.statement.Done as places
use Rattle.protocol_model.specs.declared.statement.StatementOutcome as program
use Rattle.protocol_model.specs.Statements.{answer_view, done_view}
use Rattle.router_writes.specs.Places.{is_open, is_new, first_open, answered}
use Rattle.write_runs.specs.Runs.{answers_view}

abbrev Answers : Type 0
Answers = List (Option StatementOutcome)

-- BEFORE THE FIRST STATEMENT WITHOUT AN OUTCOME

before_yes : (index : ℕ) (answers : Answers) → index ≤ first_open answers → has_before index answers ≡ true
before_yes zero answers le = refl
before_yes (suc index) [] le = absurd (omega (arith, le))
before_yes (suc index) (None ∷ answers) le = absurd (omega (arith, le))
before_yes (suc index) (Some x ∷ answers) le = before_yes index answers (omega (arith, le))

before_no : (index : ℕ) (answers : Answers) → first_open answers < index → has_before index answers ≡ false
before_no zero answers lt = absurd (omega (arith, lt))
before_no (suc index) [] lt = refl
before_no (suc index) (None ∷ answers) lt = refl
before_no (suc index) (Some x ∷ answers) lt = before_no index answers (omega (arith, lt))

pub first_within : (answers : Answers) → first_open answers ≤ length answers
first_within [] = omega arith
first_within (None ∷ answers) = omega arith
first_within (Some x ∷ answers) = omega (arith, first_within answers)

first_here : (i : ℕ) (answers : Answers) → is_open i answers ≡ true → i ≤ first_open answers → i ≡ first_open answers
first_here i [] opens le = absurd (cc)
first_here zero (None ∷ answers) opens le = refl
first_here zero (Some x ∷ answers) opens le = absurd (cc)
first_here (suc i) (None ∷ answers) opens le = absurd (omega (arith, le))
first_here (suc i) (Some x ∷ answers) opens le = ap suc (first_here i answers opens (omega (arith, le)))

first_later : (i : ℕ) (answers : Answers) → is_open i answers ≡ false → i < length answers → i ≤ first_open answers → i + 1 ≤ first_open answers
first_later i [] shut within le = absurd (omega (arith, within))
first_later zero (None ∷ answers) shut within le = absurd (cc)
first_later zero (Some x ∷ answers) shut within le = omega arith
first_later (suc i) (None ∷ answers) shut within le = absurd (omega (arith, le))
first_later (suc i) (Some x ∷ answers) shut within le = omega (arith, first_later i answers shut (omega (arith, within)) (omega (arith, le)))

-- THE PROGRAM'S PLACES

-- the place with this index has no outcome
pub open_place : (answers : List (Option program.StatementOutcome)) (i : ℕ) (a : Option program.StatementOutcome) → i < length answers → a ≡ get_or answers i a
    → is_open i (answers_view answers) ≡ is_none a
open_place [] i a within here = absurd (omega (arith, within))
open_place (None ∷ answers) zero a within here = ap (λ (o : Option program.StatementOutcome). is_none o) (sym here)
open_place (Some x ∷ answers) zero a within here = ap (λ (o : Option program.StatementOutcome). is_none o) (sym here)
open_place (x ∷ answers) (suc i) a within here = open_place answers i a (omega (arith, within)) here

-- what the test for none means
pub none_is : (some none : Bool) → some ≡ not none → not some ≡ none
none_is some true is = ap not is
none_is some false is = ap not is

-- there is no such place
pub shut_past : (answers : Answers) (i : ℕ) → length answers ≤ i → is_open i answers ≡ false
shut_past [] i past = refl
shut_past (x ∷ answers) zero past = absurd (omega (arith, past))
shut_past (x ∷ answers) (suc i) past = shut_past answers i (omega (arith, past))

pub length_view : (answers : List (Option program.StatementOutcome)) → length (answers_view answers) ≡ length answers
length_view [] = refl
length_view (x ∷ answers) = ap suc (length_view answers)

pub first_found : (answers : List (Option program.StatementOutcome)) (i : ℕ) (a : Option program.StatementOutcome) → i < length answers → a ≡ get_or answers i a
    → is_none a ≡ true → i ≤ first_open (answers_view answers) → i ≡ first_open (answers_view answers)
first_found answers i a within here none le = first_here i (answers_view answers) (open_place answers i a within here ∙ none) le

pub first_further : (answers : List (Option program.StatementOutcome)) (i : ℕ) (a : Option program.StatementOutcome) → i < length answers → a ≡ get_or answers i a
    → is_none a ≡ false → i ≤ first_open (answers_view answers) → i + 1 ≤ first_open (answers_view answers)
first_further answers i a within here some le =
    first_later i (answers_view answers) (open_place answers i a within here ∙ some) (omega (arith, length_view answers, within)) le

pub first_past : (answers : List (Option program.StatementOutcome)) (i : ℕ) → length answers ≤ i → i ≤ first_open (answers_view answers)
    → i ≡ first_open (answers_view answers)
first_past answers i past le = omega (arith, first_within (answers_view answers), length_view answers, past, le)

-- WHICH OUTCOMES ARE NEW

pub late_old : (index : ℕ) (answers : Answers) → first_open answers < index → is_new true index answers ≡ false
late_old index answers lt = ap (λ (b : Bool). b && is_open index answers) (before_no index answers lt)

in_turn : (ordered : Bool) (index : ℕ) (answers : Answers) → (ordered ≡ true → index ≤ first_open answers) → (not ordered || has_before index answers) ≡ true
in_turn true index answers le = before_yes index answers (le refl)
in_turn false index answers le = refl

pub new_in_turn : (ordered : Bool) (index : ℕ) (answers : Answers) → (ordered ≡ true → index ≤ first_open answers) → is_new ordered index answers ≡ is_open index answers
new_in_turn ordered index answers le = ap (λ (b : Bool). b && is_open index answers) (in_turn ordered index answers le)

pub new_here : (ordered : Bool) (answers : List (Option program.StatementOutcome)) (i : ℕ) (a : Option program.StatementOutcome) → i < length answers → a ≡ get_or answers i a
    → (ordered ≡ true → i ≤ first_open (answers_view answers)) → is_new ordered i (answers_view answers) ≡ is_none a
new_here ordered answers i a within here le = new_in_turn ordered i (answers_view answers) le ∙ open_place answers i a within here

pub old_past : (ordered : Bool) (answers : List (Option program.StatementOutcome)) (i : ℕ) → length answers ≤ i
    → (ordered ≡ true → i ≤ first_open (answers_view answers)) → is_new ordered i (answers_view answers) ≡ false
old_past ordered answers i past le = new_in_turn ordered i (answers_view answers) le ∙ shut_past (answers_view answers) i (omega (arith, length_view answers, past))

-- WHAT BECOMES OF THE OUTCOMES

pub open_within : (i : ℕ) (answers : Answers) → is_open i answers ≡ true → i < length answers
open_within i [] opens = absurd (cc)
open_within zero (x ∷ answers) opens = omega arith
open_within (suc i) (x ∷ answers) opens = omega (arith, open_within i answers opens)

open_set : (i : ℕ) (x : StatementOutcome) (answers : Answers) → is_open i answers ≡ true → with_outcome i x answers ≡ slice_set answers i (Some x)
open_set i x [] opens = absurd (cc)
open_set zero x (None ∷ answers) opens = refl
open_set zero x (Some y ∷ answers) opens = absurd (cc)
open_set (suc i) x (y ∷ answers) opens = ap (λ (l : Answers). y ∷ l) (open_set i x answers opens)

pub shut_same : (i : ℕ) (x : StatementOutcome) (answers : Answers) → is_open i answers ≡ false → with_outcome i x answers ≡ answers
shut_same i x [] shut = refl
shut_same zero x (None ∷ answers) shut = absurd (cc)
shut_same zero x (Some y ∷ answers) shut = refl
shut_same (suc i) x (y ∷ answers) shut = ap (λ (l : Answers). y ∷ l) (shut_same i x answers shut)

open_more : (i : ℕ) (x : StatementOutcome) (answers : Answers) → is_open i answers ≡ true → answered (with_outcome i x answers) ≡ suc (answered answers)
open_more i x [] opens = absurd (cc)
open_more zero x (None ∷ answers) opens = refl
open_more zero x (Some y ∷ answers) opens = absurd (cc)
open_more (suc i) x (None ∷ answers) opens = open_more i x answers opens
open_more (suc i) x (Some y ∷ answers) opens = ap suc (open_more i x answers opens)

-- the first statement without an outcome is not before the one that was
first_kept : (i : ℕ) (x : StatementOutcome) (answers : Answers) → first_open answers ≤ first_open (with_outcome i x answers)
first_kept i x [] = omega arith
first_kept zero x (None ∷ answers) = omega arith
first_kept zero x (Some y ∷ answers) = omega arith
first_kept (suc i) x (None ∷ answers) = omega arith
first_kept (suc i) x (Some y ∷ answers) = omega (arith, first_kept i x answers)

both_true : (a b : Bool) → (a && b) ≡ true → (a ≡ true) × (b ≡ true)
both_true true b h = (refl, h)
both_true false b h = absurd (cc)

new_open : (ordered : Bool) (i : ℕ) (answers : Answers) → is_new ordered i answers ≡ true → ((not ordered || has_before i answers) ≡ true) × (is_open i answers ≡ true)
new_open ordered i answers new = both_true (not ordered || has_before i answers) (is_open i answers) new

pub new_within : (ordered : Bool) (i : ℕ) (answers : List (Option program.StatementOutcome)) → is_new ordered i (answers_view answers) ≡ true → i < length answers
new_within ordered i answers new =
    omega (arith, open_within i (answers_view answers) (new_open ordered i (answers_view answers) new).1, length_view answers)

new_with : (ordered : Bool) (d : Done) (answers : Answers) → is_new ordered d.index answers ≡ true → with_done ordered d answers ≡ with_outcome d.index d.answer answers
new_with ordered d answers new =
    ap (λ (b : Bool). if b then with_outcome d.index d.answer answers else answers) (new_open ordered d.index answers new).0

-- what is new is stored at its place
pub new_set : (ordered : Bool) (d : Done) (answers : Answers) → is_new ordered d.index answers ≡ true → slice_set answers d.index (Some d.answer) ≡ with_done ordered d answers
new_set ordered d answers new =
    sym (new_with ordered d answers new ∙ open_set d.index d.answer answers (new_open ordered d.index answers new).1)

-- then more statements have outcomes
pub new_more : (ordered : Bool) (d : Done) (answers : Answers) → is_new ordered d.index answers ≡ true → answered answers < answered (with_done ordered d answers)
new_more ordered d answers new =
    let e = ap (λ (l : Answers). answered l) (new_with ordered d answers new) in
    omega (arith, e, open_more d.index d.answer answers (new_open ordered d.index answers new).1)

pub new_first : (ordered : Bool) (d : Done) (answers : Answers) → is_new ordered d.index answers ≡ true → first_open answers ≤ first_open (with_done ordered d answers)
new_first ordered d answers new =
    let e = ap (λ (l : Answers). first_open l) (new_with ordered d answers new) in omega (arith, e, first_kept d.index d.answer answers)

-- what is not new changes nothing
pub old_same : (ordered : Bool) (d : Done) (answers : Answers) → is_new ordered d.index answers ≡ false → with_done ordered d answers ≡ answers
old_same ordered d answers old = by_turn (not ordered || has_before d.index answers) old
  where
    by_turn : (b : Bool) → (b && is_open d.index answers) ≡ false → (if b then with_outcome d.index d.answer answers else answers) ≡ answers
    by_turn true shut = shut_same d.index d.answer answers shut
    by_turn false _ = refl

-- the program's list after an outcome was stored at its place
pub stored : (ordered : Bool) (done : places.Done) (old new : List (Option program.StatementOutcome)) (outcome : program.StatementOutcome)
    → is_new ordered done.index (answers_view old) ≡ true → new ≡ slice_set old done.index (Some outcome) → answer_view outcome ≡ answer_view done.answer
    → answers_view new ≡ with_done ordered (done_view done) (answers_view old)
stored ordered done old new outcome fresh put same =
    ap (λ (l : List (Option program.StatementOutcome)). answers_view l) put
    ∙ map-set (λ (a : Option program.StatementOutcome). option_map answer_view a) old done.index (Some outcome)
    ∙ ap (λ (x : StatementOutcome). slice_set (answers_view old) done.index (Some x)) same
    ∙ new_set ordered (done_view done) (answers_view old) fresh

-- no statement has an outcome, whatever its number
none_of_views : {A B : Type 0} (f : A → B) (statements : List A) → none_yet (map f statements) ≡ none_yet statements
none_of_views f [] = refl
none_of_views f (s ∷ statements) = ap (λ (l : Answers). None ∷ l) (none_of_views f statements)

pub none_whole : {A B : Type 0} (f : A → B) (items : List (Option program.StatementOutcome)) (i : ℕ) (statements : List A) → length statements ≤ i
    → answers_view items ++ none_yet (drop i statements) ≡ none_yet statements → answers_view items ≡ none_yet (map f statements)
none_whole {A} {B} f items i statements past inv =
    sym (append-nil (answers_view items))
    ∙ sym (at_drop_all (λ (l : List A). answers_view items ++ none_yet l) statements i past)
    ∙ inv
    ∙ sym (none_of_views f statements)

-- ALL THAT ARRIVE

-- the answers changed to these, or are the same
abbrev pub AreChanged : (changed : Bool) → (before after : Answers) → Type 0
AreChanged changed before after = MatchBool changed (answered before < answered after) (after ≡ before)

pub changed_on : (changed : Bool) (before old new : Answers) → AreChanged changed before old → answered old < answered new → answered before < answered new
changed_on true before old new all more = omega (arith, all, more)
changed_on false before old new all more = omega (arith, ap (λ (l : Answers). answered l) all, more)

pub same_on : (changed : Bool) (before old new : Answers) → AreChanged changed before old → new ≡ old → AreChanged changed before new
same_on changed before old new all same = subst (λ (l : Answers). AreChanged changed before l) (sym same) all

pub more_differ : (before after : Answers) → answered before < answered after → after ≢ before
more_differ before after more = λ same. absurd (omega (arith, ap (λ (l : Answers). answered l) same, more))
