-- What of an open write was sent: which statements are in a run, who owns them, and that those of an ordered write are the next ones.
use Rattle.std.proofs.Common.{◌≡◌, ℕ, suc, append-nil, ◌+◌, ◌<◌, ◌≤◌, List, [], ◌∷◌, ◌++◌, refl, sym, ap, subst, ◌∙◌, arith, Bool}
use Rattle.std.specs.Prelude.{Option, Some, None, true, false, not, filter, length, ◌==◌, ◌&&◌, ◌||◌, if◌then◌else◌}
use Rattle.std.specs.List.{AllByRecursion}
use Rattle.std.proofs.lemmas.Bool.{eqb-true}
use Rattle.std.proofs.lemmas.Bool.Decides.{Decides-eqb}
use Rattle.std.proofs.lemmas.List.Elements.{filter-append}
use Rattle.history_model.proofs.Lists.{all_weaken, all_filter}
use Rattle.command_model.specs.Writes.{ClientNumber}
use Rattle.history_model.specs.History.{Operation}
use Rattle.base_model.specs.Identities.{RequestId}
use Rattle.reply_model.specs.Exchanges.{number_for}
use Rattle.reply_model.specs.Outcomes.{Try, StatementOutcome, has_outcome}
use Rattle.chunk_model.specs.Tables.{Table}
use Rattle.chunk_model.specs.Verdicts.{sent_by}
use Rattle.node_model.specs.Letters.{Statement}
use Rattle.node_model.specs.States.{Run}
use Rattle.node_model.specs.RouterRequests.{statements_from, tries_at, reaches, owner_of_statement, shard_for, is_on, run_to, indices_of, run_of, next_run, shards_for, all_runs, has_index, is_sent, unanswered, runs_by, in_run}
use Rattle.node_model.specs.RouterNext.{left_of}
use Rattle.node_laws.proofs.Lists.{all_of, all_mapped, all_filtered, all_prefix}
use Rattle.node_laws.proofs.Outcomes.{HasMore, index_is, statements_long}

-- FILTERS

pub twice : {X : Type 0} (p q : X → Bool) (xs : List X) → filter q (filter p xs) ≡ filter (λ x. p x && q x) xs
twice p q [] = refl
twice p q (x ∷ xs) = by_test (p x) (twice p q xs)
  where
    by_test : (b : Bool) → filter q (filter p xs) ≡ filter (λ y. p y && q y) xs
        → filter q (if b then x ∷ filter p xs else filter p xs)
        ≡ (if b && q x then x ∷ filter (λ y. p y && q y) xs else filter (λ y. p y && q y) xs)
    by_test true more = ap (λ l. if q x then x ∷ l else l) more
    by_test false more = more

same_filter : {X : Type 0} (p q : X → Bool) (xs : List X) → AllByRecursion (λ x. p x ≡ q x) xs → filter p xs ≡ filter q xs
same_filter p q [] all = refl
same_filter p q (x ∷ xs) all =
    ap (λ l. if p x then x ∷ l else l) (same_filter p q xs all.1) ∙ ap (λ b. if b then x ∷ filter q xs else filter q xs) all.0

-- what holds of those that pass a test holds of each that passes it
all_passing : {X : Type 0} (P : X → Type 0) (test : X → Bool) (xs : List X) → AllByRecursion P (filter test xs)
    → AllByRecursion (λ x. test x ≡ true → P x) xs
all_passing P test [] all = tt
all_passing P test (x ∷ xs) all = by_test (test x) all (λ more. all_passing P test xs more)
  where
    by_test : (b : Bool) → AllByRecursion P (if b then x ∷ filter test xs else filter test xs)
        → (AllByRecursion P (filter test xs) → AllByRecursion (λ y. test y ≡ true → P y) xs)
        → (b ≡ true → P x) × AllByRecursion (λ y. test y ≡ true → P y) xs
    by_test true all more = ((λ h. all.0), more all.1)
    by_test false all more = ((λ h. absurd (cc)), more all)

pub passing_all : {X : Type 0} (P : X → Type 0) (test : X → Bool) (xs : List X) → AllByRecursion (λ x. test x ≡ true → P x) xs
    → AllByRecursion P (filter test xs)
passing_all P test xs all =
    all_weaken (λ x. (test x ≡ true → P x) × (test x ≡ true)) P (filter test xs) (λ x h. h.0 h.1)
    (all_filtered (λ x. test x ≡ true → P x) test xs all)

-- STATEMENTS IN ORDER OF THEIR INDICES

abbrev pub AreRising : List Statement → Type 0
AreRising [] = Unit {0}
AreRising (s ∷ statements) = AllByRecursion (λ (x : Statement). s.number.index < x.number.index) statements × AreRising statements

from_least : (given : Option ClientNumber) (id : RequestId) (index : ℕ) (operations : List Operation)
    → AllByRecursion (λ (s : Statement). index ≤ s.number.index) (statements_from given id index operations)
from_least given id index [] = tt
from_least given id index (operation ∷ operations) = (
  (let at = index_is given id index in omega (arith, at)),
  all_weaken (λ (s : Statement). index + 1 ≤ s.number.index) (λ (s : Statement). index ≤ s.number.index) (statements_from given id (index + 1) operations)
      (λ s le. omega arith) (from_least given id (index + 1) operations),
)

pub statements_rise : (given : Option ClientNumber) (id : RequestId) (index : ℕ) (operations : List Operation)
    → AreRising (statements_from given id index operations)
statements_rise given id index [] = tt
statements_rise given id index (operation ∷ operations) = (
  all_weaken (λ (s : Statement). index + 1 ≤ s.number.index) (λ (s : Statement). (number_for given id index).index < s.number.index)
      (statements_from given id (index + 1) operations) (λ s le. let at = index_is given id index in omega (arith, at, le)) (from_least given id (index + 1) operations),
  statements_rise given id (index + 1) operations,
)

not_equal : (a b : ℕ) → a < b → (a == b) ≡ false
not_equal a b less = by_test (a == b) refl
  where
    by_test : (t : Bool) → (a == b) ≡ t → (a == b) ≡ false
    by_test true h = absurd (let same : a ≡ b = eqb-true a b h in omega arith)
    by_test false h = h

not_above : (a b : ℕ) → a < b → (b == a) ≡ false
not_above a b less = by_test (b == a) refl
  where
    by_test : (t : Bool) → (b == a) ≡ t → (b == a) ≡ false
    by_test true h = absurd (let same : b ≡ a = eqb-true b a h in omega arith)
    by_test false h = h

-- an index below all
index_none : (n : ℕ) (statements : List Statement) → AllByRecursion (λ (s : Statement). n < s.number.index) statements
    → has_index (indices_of statements) n ≡ false
index_none n [] all = refl
index_none n (s ∷ statements) all = ap (λ b. b || has_index (indices_of statements) n) (not_above n s.number.index all.0) ∙ index_none n statements all.1

none_picked : (statements : List Statement) → filter (λ (s : Statement). has_index [] s.number.index) statements ≡ []
none_picked [] = refl
none_picked (s ∷ statements) = none_picked statements

-- by their indices the first of some statements are found among all
pub picked : (p : Statement → Bool) (statements part back : List Statement) → AreRising statements → part ++ back ≡ filter p statements
    → filter (λ (s : Statement). has_index (indices_of part) s.number.index) statements ≡ part
picked p [] [] back rising same = refl
picked p [] (x ∷ part) back rising same = absurd (cc)
picked p (s ∷ statements) part back rising same =
    by_test (p s) part same (λ part back e. picked p statements part back rising.1 e)
  where
    -- one of the others
    other : (part : List Statement) → AllByRecursion (λ (x : Statement). s.number.index < x.number.index) part
        → filter (λ (x : Statement). has_index (indices_of part) x.number.index) statements ≡ part
        → (if has_index (indices_of part) s.number.index then s ∷ filter (λ (x : Statement). has_index (indices_of part) x.number.index) statements
        else filter (λ (x : Statement). has_index (indices_of part) x.number.index) statements) ≡ part
    other part above more =
        ap (λ b. if b then s ∷ filter (λ (x : Statement). has_index (indices_of part) x.number.index) statements
        else filter (λ (x : Statement). has_index (indices_of part) x.number.index) statements) (index_none s.number.index part above) ∙ more

    first : (part : List Statement) → filter (λ (x : Statement). has_index (indices_of part) x.number.index) statements ≡ part
        → filter (λ (x : Statement). has_index (indices_of (s ∷ part)) x.number.index) (s ∷ statements) ≡ s ∷ part
    first part more =
        ap (λ b. if b || has_index (indices_of part) s.number.index
        then s ∷ filter (λ (x : Statement). (s.number.index == x.number.index) || has_index (indices_of part) x.number.index) statements
        else filter (λ (x : Statement). (s.number.index == x.number.index) || has_index (indices_of part) x.number.index) statements)
        ((Decides-eqb s.number.index s.number.index).1 refl)
        ∙ ap (λ l. s ∷ l) (same_filter (λ (x : Statement). (s.number.index == x.number.index) || has_index (indices_of part) x.number.index)
        (λ (x : Statement). has_index (indices_of part) x.number.index) statements
        (all_weaken (λ (x : Statement). s.number.index < x.number.index)
        (λ (x : Statement). ((s.number.index == x.number.index) || has_index (indices_of part) x.number.index) ≡ has_index (indices_of part) x.number.index)
        statements (λ x less. ap (λ b. b || has_index (indices_of part) x.number.index) (not_equal s.number.index x.number.index less)) rising.0) ∙ more)

    above : (part back : List Statement) → part ++ back ≡ filter p statements → AllByRecursion (λ (x : Statement). s.number.index < x.number.index) part
    above part back e =
        all_prefix (λ (x : Statement). s.number.index < x.number.index) part back
        (subst (λ l. AllByRecursion (λ (x : Statement). s.number.index < x.number.index) l) (sym e)
        (all_filter (λ (x : Statement). s.number.index < x.number.index) p statements rising.0))

    with_first : (part : List Statement) → part ++ back ≡ s ∷ filter p statements
        → ((part back : List Statement) → part ++ back ≡ filter p statements
        → filter (λ (x : Statement). has_index (indices_of part) x.number.index) statements ≡ part)
        → filter (λ (x : Statement). has_index (indices_of part) x.number.index) (s ∷ statements) ≡ part
    with_first [] e more = none_picked (s ∷ statements)
    with_first (x ∷ part) e more =
        let head : s ≡ x = cc in
        let tail : part ++ back ≡ filter p statements = cc in
        subst (λ y. filter (λ (z : Statement). has_index (indices_of (y ∷ part)) z.number.index) (s ∷ statements) ≡ y ∷ part) head
        (first part (more part back tail))

    by_test : (b : Bool) → (part : List Statement) → part ++ back ≡ (if b then s ∷ filter p statements else filter p statements)
        → ((part back : List Statement) → part ++ back ≡ filter p statements
        → filter (λ (x : Statement). has_index (indices_of part) x.number.index) statements ≡ part)
        → filter (λ (x : Statement). has_index (indices_of part) x.number.index) (s ∷ statements) ≡ part
    by_test true part e more = with_first part e more
    by_test false part e more = other part (above part back e) (more part back e)

-- RUNS

-- statements of one owner, by a table
abbrev pub OwnedBy : Table → ℕ → Statement → Type 0
OwnedBy t shard s = owner_of_statement t s ≡ Some shard

-- of a run each statement has this
abbrev pub InRun : Run → (Statement → Type 0) → List Statement → Type 0
InRun run P statements = AllByRecursion (λ (s : Statement). has_index run.indices s.number.index ≡ true → P s) statements

-- the statements of a run are the next ones that are not answered
abbrev pub IsNextRun : List Statement → List (Option StatementOutcome) → Run → Type 0
IsNextRun statements answers run = (back : List Statement) × (unanswered statements answers ≡ in_run run statements ++ back)

owner_on : (shard : ℕ) (owner : Option ℕ) → is_on shard owner ≡ true → owner ≡ Some shard
owner_on shard None on = absurd (cc)
owner_on shard (Some n) on = ap (λ m. Some m) (eqb-true n shard on)

-- a statement goes to the owner of its key
for_owner : (t : Table) (tries : List (List Try)) (s : Statement) (shard : ℕ) → shard_for t tries s ≡ Some shard → owner_of_statement t s ≡ Some shard
for_owner t tries s shard goes = by_test (reaches t (tries_at s.number.index tries)) goes
  where
    by_test : (b : Bool) → (if b then owner_of_statement t s else None) ≡ Some shard → owner_of_statement t s ≡ Some shard
    by_test true e = e
    by_test false e = absurd (cc)

run_split : (t : Table) (tries : List (List Try)) (shard : ℕ) (statements : List Statement)
    → (back : List Statement) × (run_to t tries shard statements ++ back ≡ statements)
run_split t tries shard [] = ([], refl)
run_split t tries shard (s ∷ statements) = by_test (is_on shard (shard_for t tries s)) (run_split t tries shard statements)
  where
    by_test : (a : Bool) → (back : List Statement) × (run_to t tries shard statements ++ back ≡ statements)
        → (back : List Statement) × ((if a then s ∷ run_to t tries shard statements else []) ++ back ≡ s ∷ statements)
    by_test true more = (more.0, ap (λ l. s ∷ l) more.1)
    by_test false more = (s ∷ statements, refl)

run_owned : (t : Table) (tries : List (List Try)) (shard : ℕ) (statements : List Statement)
    → AllByRecursion (OwnedBy t shard) (run_to t tries shard statements)
run_owned t tries shard [] = tt
run_owned t tries shard (s ∷ statements) = by_test (is_on shard (shard_for t tries s)) refl (run_owned t tries shard statements)
  where
    by_test : (a : Bool) → is_on shard (shard_for t tries s) ≡ a → AllByRecursion (OwnedBy t shard) (run_to t tries shard statements)
        → AllByRecursion (OwnedBy t shard) (if a then s ∷ run_to t tries shard statements else [])
    by_test true h more = (for_owner t tries s shard (owner_on shard (shard_for t tries s) h), more)
    by_test false h more = tt

from_most : (given : Option ClientNumber) (id : RequestId) (index : ℕ) (operations : List Operation)
    → AllByRecursion (λ (s : Statement). s.number.index < index + length operations) (statements_from given id index operations)
from_most given id index [] = tt
from_most given id index (operation ∷ operations) = (
  (let at = index_is given id index in omega (arith, at)),
  all_weaken (λ (s : Statement). s.number.index < index + 1 + length operations) (λ (s : Statement). s.number.index < index + length (operation ∷ operations))
      (statements_from given id (index + 1) operations) (λ s less. omega (arith, less)) (from_most given id (index + 1) operations),
)

pub statements_within : (given : Option ClientNumber) (id : RequestId) (operations : List Operation)
    → AllByRecursion (λ (s : Statement). s.number.index < length (statements_from given id 0 operations)) (statements_from given id 0 operations)
statements_within given id operations =
    all_weaken (λ (s : Statement). s.number.index < 0 + length operations) (λ (s : Statement). s.number.index < length (statements_from given id 0 operations))
    (statements_from given id 0 operations) (λ s less. let long = statements_long given id 0 operations in omega (arith, less, long)) (from_most given id 0 operations)

-- what is known of a run that a table gives
pub record IsRunBy (t : Table) (ordered : Bool) (statements : List Statement) (answers : List (Option StatementOutcome)) (run : Run) : Type 0 where
  pub versions : run.sent ≡ sent_by t run.shard
  pub owned : InRun run (OwnedBy t run.shard) statements
  pub next : ordered ≡ true → IsNextRun statements answers run
  pub within : AllByRecursion (λ i. i < length statements) run.indices

-- the statements have indices below their number
abbrev pub AreWithin : List Statement → Type 0
AreWithin statements = AllByRecursion (λ (s : Statement). s.number.index < length statements) statements

-- so have those of a part of some
part_within : (p : Statement → Bool) (statements part back : List Statement) → AreWithin statements → part ++ back ≡ filter p statements
    → AllByRecursion (λ i. i < length statements) (indices_of part)
part_within p statements part back below same =
    all_mapped (λ i. i < length statements) (λ (s : Statement). s.number.index) part
    (front_of part (subst (λ l. AllByRecursion (λ (s : Statement). s.number.index < length statements) l) (sym same)
    (all_filter (λ (s : Statement). s.number.index < length statements) p statements below)))
  where
    front_of : (xs : List Statement) → AllByRecursion (λ (s : Statement). s.number.index < length statements) (xs ++ back)
        → AllByRecursion (λ (s : Statement). s.number.index < length statements) xs
    front_of [] all = tt
    front_of (x ∷ xs) all = (all.0, front_of xs all.1)

-- the statements of a part of some are owned where the part is
part_owned : (t : Table) (shard : ℕ) (p : Statement → Bool) (statements part back : List Statement) → AreRising statements → part ++ back ≡ filter p statements
    → AllByRecursion (OwnedBy t shard) part → InRun (run_of t shard part) (OwnedBy t shard) statements
part_owned t shard p statements part back rising same owned =
    all_passing (OwnedBy t shard) (λ (s : Statement). has_index (indices_of part) s.number.index) statements
    (subst (λ l. AllByRecursion (OwnedBy t shard) l) (sym (picked p statements part back rising same)) owned)

module _ (t : Table) (tries : List (List Try)) (statements : List Statement) (answers : List (Option StatementOutcome)) (rising : AreRising statements)
    (below : AreWithin statements) where
  -- of an ordered write
  next_runs : (left : List Statement) → unanswered statements answers ≡ left → AllByRecursion (IsRunBy t true statements answers) (next_run t tries left)
  next_runs [] same = tt
  next_runs (s ∷ left) same = by_owner (shard_for t tries s)
    where
      by_owner : (owner : Option ℕ) → AllByRecursion (IsRunBy t true statements answers) (elim owner as (λ (o : Option ℕ). List Run) [
        | None ↦ []
        | Some shard ↦ run_of t shard (run_to t tries shard (s ∷ left)) ∷ []
      ])
      by_owner None = tt
      by_owner (Some shard) =
          let parts = run_split t tries shard (s ∷ left) in (
            record {
              versions = refl;
              within = part_within (λ (x : Statement). not (has_outcome answers x.number.index)) statements (run_to t tries shard (s ∷ left)) parts.0 below
                  (parts.1 ∙ sym same);
              owned = part_owned t shard (λ (x : Statement). not (has_outcome answers x.number.index)) statements (run_to t tries shard (s ∷ left)) parts.0 rising
                  (parts.1 ∙ sym same) (run_owned t tries shard (s ∷ left));
              next = λ ordered. (
                parts.0,
                same ∙ sym parts.1 ∙ ap (λ l. l ++ parts.0) (sym (picked
                    (λ (x : Statement). not (has_outcome answers x.number.index)) statements (run_to t tries shard (s ∷ left)) parts.0 rising (parts.1 ∙ sym same))),
              );
            },
            tt,
          )

  -- of an unordered one, of which these are left
  other_runs : (p : Statement → Bool) → AllByRecursion (IsRunBy t false statements answers) (all_runs t tries (filter p statements))
  other_runs p =
      all_mapped (IsRunBy t false statements answers)
      (λ shard. run_of t shard (filter (λ (s : Statement). is_on shard (shard_for t tries s)) (filter p statements))) (shards_for t tries (filter p statements))
      (all_of (λ shard. IsRunBy t false statements answers
      (run_of t shard (filter (λ (s : Statement). is_on shard (shard_for t tries s)) (filter p statements)))) (shards_for t tries (filter p statements))
      (λ shard. record { versions = refl; owned = owned shard; next = λ ordered. absurd (cc); within = within shard }))
    where
      none_back : (xs : List Statement) → xs ++ [] ≡ xs
      none_back [] = refl
      none_back (x ∷ xs) = ap (λ l. x ∷ l) (none_back xs)

      within : (shard : ℕ) → AllByRecursion (λ i. i < length statements)
          (indices_of (filter (λ (s : Statement). is_on shard (shard_for t tries s)) (filter p statements)))
      within shard =
          part_within (λ (s : Statement). p s && is_on shard (shard_for t tries s)) statements
          (filter (λ (s : Statement). is_on shard (shard_for t tries s)) (filter p statements)) [] below
          (none_back (filter (λ (s : Statement). is_on shard (shard_for t tries s)) (filter p statements))
          ∙ twice p (λ (s : Statement). is_on shard (shard_for t tries s)) statements)

      owned : (shard : ℕ) → InRun (run_of t shard (filter (λ (s : Statement). is_on shard (shard_for t tries s)) (filter p statements)))
          (OwnedBy t shard) statements
      owned shard =
          part_owned t shard (λ (s : Statement). p s && is_on shard (shard_for t tries s)) statements
          (filter (λ (s : Statement). is_on shard (shard_for t tries s)) (filter p statements)) [] rising
          (none_back (filter (λ (s : Statement). is_on shard (shard_for t tries s)) (filter p statements))
          ∙ twice p (λ (s : Statement). is_on shard (shard_for t tries s)) statements)
          (all_weaken (λ (s : Statement). Unit {0} × (is_on shard (shard_for t tries s) ≡ true)) (OwnedBy t shard)
          (filter (λ (s : Statement). is_on shard (shard_for t tries s)) (filter p statements))
          (λ s h. for_owner t tries s shard (owner_on shard (shard_for t tries s) h.1))
          (all_filtered (λ (s : Statement). Unit {0}) (λ (s : Statement). is_on shard (shard_for t tries s)) (filter p statements)
          (all_of (λ (s : Statement). Unit {0}) (filter p statements) (λ s. tt))))

  pub runs_are : (ordered : Bool) (runs : List Run)
      → AllByRecursion (IsRunBy t ordered statements answers) (runs_by ordered (Some t) statements (record { answers = answers; tries = tries; runs = runs }))
  runs_are true [] = next_runs (unanswered statements answers) refl
  runs_are true (run ∷ runs) = tt
  runs_are false runs =
      subst (λ l. AllByRecursion (IsRunBy t false statements answers) (all_runs t tries l))
      (sym (twice (λ (s : Statement). not (has_outcome answers s.number.index)) (λ (s : Statement). not (is_sent runs s)) statements))
      (other_runs (λ (s : Statement). not (has_outcome answers s.number.index) && not (is_sent runs s)))

-- of an ordered write at most one run is under way
next_one : (t : Table) (tries : List (List Try)) (left : List Statement) → length (next_run t tries left) ≤ 1
next_one t tries [] = omega arith
next_one t tries (s ∷ left) = by_owner (shard_for t tries s)
  where
    by_owner : (owner : Option ℕ) → length (elim owner as (λ (o : Option ℕ). List Run) [
      | None ↦ []
      | Some shard ↦ run_of t shard (run_to t tries shard (s ∷ left)) ∷ []
    ]) ≤ 1
    by_owner None = omega arith
    by_owner (Some shard) = omega arith

pub one_more : (ordered : Bool) (table : Option Table) (statements : List Statement) (answers : List (Option StatementOutcome)) (tries : List (List Try))
    (runs : List Run) → ordered ≡ true → length runs ≤ 1
    → length (runs ++ runs_by ordered table statements (record { answers = answers; tries = tries; runs = runs })) ≤ 1
one_more false table statements answers tries runs in_order le = absurd (cc)
one_more true None statements answers tries runs in_order le = subst (λ (l : List Run). length l ≤ 1) (sym (append-nil runs)) le
one_more true (Some t) statements answers tries [] in_order le = next_one t tries (unanswered statements answers)
one_more true (Some t) statements answers tries (run ∷ runs) in_order le = subst (λ (l : List Run). length l ≤ 1) (sym (append-nil (run ∷ runs))) le

-- WHAT IS LEFT OF RUNS

pub left_long : (answers : List (Option StatementOutcome)) (runs : List Run) → length runs ≤ 1 → length (left_of answers runs) ≤ 1
left_long answers runs le = let most = left_most runs in omega (arith, most, le)
  where
    left_most : (rs : List Run) → length (left_of answers rs) ≤ length rs
    left_most [] = omega arith
    left_most (run ∷ rs) = by_rest (filter (λ i. not (has_outcome answers i)) run.indices) (left_most rs)
      where
        by_rest : (rest : List ℕ) → length (left_of answers rs) ≤ length rs → length (elim rest as (λ (l : List ℕ). List Run) [
          | [] ↦ left_of answers rs
          | i ∷ indices ↦ record { shard = run.shard; sent = run.sent; indices = i ∷ indices } ∷ left_of answers rs
        ]) ≤ suc (length rs)
        by_rest [] more = omega (arith, more)
        by_rest (i ∷ indices) more = omega (arith, more)

pub index_left : (q : ℕ → Bool) (indices : List ℕ) (n : ℕ) → has_index (filter q indices) n ≡ (has_index indices n && q n)
index_left q [] n = refl
index_left q (i ∷ indices) n = by_test (q i) refl (i == n) refl (index_left q indices n)
  where
    by_test : (b : Bool) → q i ≡ b → (e : Bool) → (i == n) ≡ e → has_index (filter q indices) n ≡ (has_index indices n && q n)
        → has_index (if b then i ∷ filter q indices else filter q indices) n ≡ ((e || has_index indices n) && q n)
    by_test true h true same more =
        ap (λ x. x || has_index (filter q indices) n) same ∙ sym h ∙ ap q (eqb-true i n same)
    by_test true h false other more = ap (λ x. x || has_index (filter q indices) n) other ∙ more
    by_test false h true same more = more ∙ by_own (has_index indices n) (q n) (sym (ap q (eqb-true i n same)) ∙ h)
      where
        by_own : (x y : Bool) → y ≡ false → (x && y) ≡ y
        by_own true y none = refl
        by_own false y none = sym none
    by_test false h false other more = more

-- the run with what is left of its statements
abbrev pub rest_of : List (Option StatementOutcome) → Run → Run
rest_of answers run = record { shard = run.shard; sent = run.sent; indices = filter (λ i. not (has_outcome answers i)) run.indices }

pub all_left : (P : Run → Type 0) (answers : List (Option StatementOutcome)) (runs : List Run) → AllByRecursion (λ run. P (rest_of answers run)) runs
    → AllByRecursion P (left_of answers runs)
all_left P answers [] all = tt
all_left P answers (run ∷ runs) all =
    by_rest (filter (λ i. not (has_outcome answers i)) run.indices) all.0 (all_left P answers runs all.1)
  where
    by_rest : (rest : List ℕ) → P (record { shard = run.shard; sent = run.sent; indices = rest }) → AllByRecursion P (left_of answers runs)
        → AllByRecursion P (elim rest as (λ (l : List ℕ). List Run) [
          | [] ↦ left_of answers runs
          | i ∷ indices ↦ record { shard = run.shard; sent = run.sent; indices = i ∷ indices } ∷ left_of answers runs
        ])
    by_rest [] own more = more
    by_rest (i ∷ indices) own more = (own, more)

both_true : (a b : Bool) → (a && b) ≡ true → a ≡ true
both_true true b h = refl
both_true false b h = h

pub rest_owned : (P : Statement → Type 0) (statements : List Statement) (answers : List (Option StatementOutcome)) (run : Run) → InRun run P statements
    → InRun (rest_of answers run) P statements
rest_owned P statements answers run all =
    all_weaken (λ (s : Statement). has_index run.indices s.number.index ≡ true → P s)
    (λ (s : Statement). has_index (filter (λ i. not (has_outcome answers i)) run.indices) s.number.index ≡ true → P s) statements
    (λ s h is. h (both_true (has_index run.indices s.number.index) (not (has_outcome answers s.number.index))
    (sym (index_left (λ i. not (has_outcome answers i)) run.indices s.number.index) ∙ is))) all

-- what is not answered later was not answered before
left_later : (statements : List Statement) (old new : List (Option StatementOutcome)) → HasMore old new
    → unanswered statements new ≡ filter (λ (s : Statement). not (has_outcome new s.number.index)) (unanswered statements old)
left_later statements old new more =
    same_filter (λ (s : Statement). not (has_outcome new s.number.index))
    (λ (s : Statement). not (has_outcome old s.number.index) && not (has_outcome new s.number.index)) statements
    (all_of (λ (s : Statement). not (has_outcome new s.number.index) ≡ (not (has_outcome old s.number.index) && not (has_outcome new s.number.index))) statements
    (λ s. by_test (has_outcome old s.number.index) s.number.index refl))
    ∙ sym (twice (λ (s : Statement). not (has_outcome old s.number.index)) (λ (s : Statement). not (has_outcome new s.number.index)) statements)
  where
    by_test : (b : Bool) (n : ℕ) → has_outcome old n ≡ b → not (has_outcome new n) ≡ (not b && not (has_outcome new n))
    by_test true n h = ap not (more n h)
    by_test false n h = refl

pub rest_next : (statements : List Statement) (old new : List (Option StatementOutcome)) (run : Run) → HasMore old new → IsNextRun statements old run
    → IsNextRun statements new (rest_of new run)
rest_next statements old new run more (back, same) = (
  filter (λ (s : Statement). not (has_outcome new s.number.index)) back,
  left_later statements old new more
      ∙ ap (λ l. filter (λ (s : Statement). not (has_outcome new s.number.index)) l) same
      ∙ filter-append (λ (s : Statement). not (has_outcome new s.number.index)) (in_run run statements) back
      ∙ ap (λ l. l ++ filter (λ (s : Statement). not (has_outcome new s.number.index)) back)
      (twice (λ (s : Statement). has_index run.indices s.number.index) (λ (s : Statement). not (has_outcome new s.number.index)) statements
      ∙ sym (same_filter (λ (s : Statement). has_index (filter (λ i. not (has_outcome new i)) run.indices) s.number.index)
      (λ (s : Statement). has_index run.indices s.number.index && not (has_outcome new s.number.index)) statements
      (all_of (λ (s : Statement). has_index (filter (λ i. not (has_outcome new i)) run.indices) s.number.index
      ≡ (has_index run.indices s.number.index && not (has_outcome new s.number.index))) statements
      (λ s. index_left (λ i. not (has_outcome new i)) run.indices s.number.index)))),
)
