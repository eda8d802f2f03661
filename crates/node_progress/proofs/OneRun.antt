-- An open write whose statements all go to the first shard: it has no run, or one, of all that is not answered.
use Rattle.std.proofs.Common.{◌≡◌, ◌≢◌, ◌⊎◌, inl, inr, ℕ, ◌+◌, List, [], ◌∷◌, refl, sym, ap, subst, ◌∙◌, append-nil, Bool}
use Rattle.std.specs.Prelude.{Option, Some, None, true, false, not, filter, length, map, ◌==◌, ◌||◌, if◌then◌else◌}
use Rattle.std.specs.List.{AllByRecursion, list_any}
use Rattle.std.proofs.lemmas.Bool.Decides.{Decides-eqb}
use Rattle.bson_model.specs.Tree.{Datum}
use Rattle.value_model.specs.Keys.{is_key}
use Rattle.history_model.specs.History.{Operation, IsIn, key_written}
use Rattle.history_model.proofs.Lists.{all_from, in_cons, in_none}
use Rattle.history_model.proofs.Keyed.{written_is_key}
use Rattle.command_model.specs.Writes.{ClientNumber}
use Rattle.command_model.proofs.Judged.{HasKey}
use Rattle.chunk_model.specs.Tables.{Table, first_shard, owner_now}
use Rattle.base_model.specs.Identities.{RequestId}
use Rattle.reply_model.specs.Outcomes.{StatementOutcome, Done, Try, has_outcome}
use Rattle.node_model.specs.Letters.{Statement}
use Rattle.node_model.specs.States.{Run, Course}
use Rattle.node_model.specs.RouterRequests.{statements_from, tries_at, reaches, owner_of_statement, shard_for, is_on, run_to, indices_of, run_of, next_run, shards_for, all_runs, has_index, is_sent, unanswered, unsent, runs_by, in_run}
use Rattle.node_model.specs.RouterNext.{noted, is_answered, left_of, served_in_part}
use Rattle.node_laws.proofs.Outcomes.{HasMore}
use Rattle.node_laws.proofs.SentRuns.{AreRising, statements_rise, picked}
use Rattle.node_progress.proofs.Members.{in_filter}
use Rattle.node_progress.proofs.Versions.{IsFirst}
use Rattle.node_progress.proofs.FirstLeft.{IsFirstLeft, first_left, some_left, noted_same, index_left}

abbrev Answers : Type 0
Answers = List (Option StatementOutcome)

-- WHAT IS LEFT OF A WRITE

-- the statement's operation has a key
abbrev pub IsKeyed : Statement → Type 0
IsKeyed s = (key : Datum) × (key_written s.operation ≡ Some key) × (is_key key ≡ true)

-- the statements are those of operations with keys, and each has a place for its outcome
pub record AreStated (statements : List Statement) (answers : Answers) : Type 0 where
  pub given : Option ClientNumber
  pub id : RequestId
  pub operations : List Operation
  pub are : statements ≡ statements_from given id 0 operations
  pub keys : AllByRecursion HasKey operations
  pub long : length answers ≡ length operations

-- some statements are not answered, and all before the first of these are
pub record HasNext (statements : List Statement) (answers : Answers) : Type 0 where
  pub first : Statement
  pub more : List Statement
  pub left : unanswered statements answers ≡ first ∷ more
  pub next : IsFirstLeft answers first
  pub rising : AreRising statements
  pub keyed : AllByRecursion IsKeyed statements

pub keyed_from : (given : Option ClientNumber) (id : RequestId) (index : ℕ) (operations : List Operation) → AllByRecursion HasKey operations
    → AllByRecursion IsKeyed (statements_from given id index operations)
keyed_from given id index [] keys = tt
keyed_from given id index (operation ∷ operations) keys =
    ((keys.0.0, keys.0.1, written_is_key operation keys.0.0 keys.0.1), keyed_from given id (index + 1) operations keys.1)

pub going_of : (ordered : Bool) (statements : List Statement) (answers : Answers) → AreStated statements answers → is_answered ordered answers ≡ false
    → HasNext statements answers
going_of ordered statements answers stated open_still =
    let left = some_left stated.given stated.id stated.operations ordered answers stated.long open_still in
    subst (λ l. HasNext l answers) (sym stated.are) (record {
      first = left.0;
      more = left.1;
      left = left.2;
      next = first_left stated.given stated.id stated.operations answers left.0 left.1 stated.long left.2;
      rising = statements_rise stated.given stated.id 0 stated.operations;
      keyed = keyed_from stated.given stated.id 0 stated.operations stated.keys;
    })

pub stated_keyed : (statements : List Statement) (answers : Answers) → AreStated statements answers → AllByRecursion IsKeyed statements
stated_keyed statements answers stated =
    subst (λ l. AllByRecursion IsKeyed l) (sym stated.are) (keyed_from stated.given stated.id 0 stated.operations stated.keys)

-- the run that is under way is of all that is not answered
pub record OneRun (statements : List Statement) (c : Course) : Type 0 where
  pub run : Run
  pub alone : c.runs ≡ run ∷ []
  pub there : run.shard ≡ first_shard
  pub all : run.indices ≡ indices_of (unanswered statements c.answers)

-- LISTS

none_kept : {X : Type 0} (p : X → Bool) (xs : List X) → AllByRecursion (λ x. p x ≡ false) xs → filter p xs ≡ []
none_kept p [] none = refl
none_kept p (x ∷ xs) none = ap (λ b. if b then x ∷ filter p xs else filter p xs) none.0 ∙ none_kept p xs none.1

pub kept_keyed : (p : Statement → Bool) (statements : List Statement) → AllByRecursion IsKeyed statements → AllByRecursion IsKeyed (filter p statements)
kept_keyed p [] keyed = tt
kept_keyed p (s ∷ statements) keyed = by_test (p s) (kept_keyed p statements keyed.1)
  where
    by_test : (b : Bool) → AllByRecursion IsKeyed (filter p statements) → AllByRecursion IsKeyed (if b then s ∷ filter p statements else filter p statements)
    by_test true more = (keyed.0, more)
    by_test false more = more

either : (b : Bool) → (b || true) ≡ true
either true = refl
either false = refl

has_own : (l : List Statement) (s : Statement) → IsIn s l → has_index (indices_of l) s.number.index ≡ true
has_own [] s i = absurd (in_none s i)
has_own (x ∷ l) s i = by_place (in_cons s x l i) (λ j. has_own l s j)
  where
    by_place : (s ≡ x) ⊎ IsIn s l → (IsIn s l → has_index (indices_of l) s.number.index ≡ true)
        → ((x.number.index == s.number.index) || has_index (indices_of l) s.number.index) ≡ true
    by_place (inl same) later =
        ap (λ b. b || has_index (indices_of l) s.number.index)
        ((Decides-eqb x.number.index s.number.index).1 (ap (λ (y : Statement). y.number.index) (sym same)))
    by_place (inr j) later = ap (λ b. (x.number.index == s.number.index) || b) (later j) ∙ either (x.number.index == s.number.index)

kept_indices : (p : ℕ → Bool) (l : List Statement) → filter p (indices_of l) ≡ indices_of (filter (λ (s : Statement). p s.number.index) l)
kept_indices p [] = refl
kept_indices p (s ∷ l) = by_test (p s.number.index) (kept_indices p l)
  where
    by_test : (b : Bool) → filter p (indices_of l) ≡ indices_of (filter (λ (s : Statement). p s.number.index) l)
        → (if b then s.number.index ∷ filter p (indices_of l) else filter p (indices_of l))
        ≡ indices_of (if b then s ∷ filter (λ (s : Statement). p s.number.index) l else filter (λ (s : Statement). p s.number.index) l)
    by_test true more = ap (λ x. s.number.index ∷ x) more
    by_test false more = more

none_any : (p : ℕ → Bool) (l : List Statement) (s : Statement) → list_any p (indices_of l) ≡ false → IsIn s l → p s.number.index ≡ false
none_any p [] s none i = absurd (in_none s i)
none_any p (x ∷ l) s none i = by_test (p x.number.index) refl none (in_cons s x l i) (λ e j. none_any p l s e j)
  where
    by_test : (b : Bool) → p x.number.index ≡ b → (b || list_any p (indices_of l)) ≡ false → (s ≡ x) ⊎ IsIn s l
        → (list_any p (indices_of l) ≡ false → IsIn s l → p s.number.index ≡ false) → p s.number.index ≡ false
    by_test true h none place later = absurd (cc none)
    by_test false h none (inl same) later = ap (λ (y : Statement). p y.number.index) same ∙ h
    by_test false h none (inr j) later = later none j

-- no statement met a later table
abbrev pub AreUntried : List (List Try) → Type 0
AreUntried tries = (index : ℕ) → tries_at index tries ≡ []

-- BY A TABLE

module _ (t : Table) (first : IsFirst t) (tries : List (List Try)) (untried : AreUntried tries) where
  pub owner_of : (s : Statement) → IsKeyed s → owner_of_statement t s ≡ Some first_shard
  owner_of s is =
      ap (λ o. elim o as (λ (o : Option Datum). Option ℕ) [ None ↦ None | Some key ↦ owner_now t key ]) is.1 ∙ first.now is.0 is.2

  goes_first : (s : Statement) → IsKeyed s → shard_for t tries s ≡ Some first_shard
  goes_first s is = ap (λ l. if reaches t l then owner_of_statement t s else None) (untried s.number.index) ∙ owner_of s is

  on_first : (s : Statement) → IsKeyed s → is_on first_shard (shard_for t tries s) ≡ true
  on_first s is = ap (λ o. is_on first_shard o) (goes_first s is)

  run_all : (statements : List Statement) → AllByRecursion IsKeyed statements → run_to t tries first_shard statements ≡ statements
  run_all [] keyed = refl
  run_all (s ∷ statements) keyed =
      ap (λ b. if b then s ∷ run_to t tries first_shard statements else []) (on_first s keyed.0) ∙ ap (λ l. s ∷ l) (run_all statements keyed.1)

  all_there : (statements : List Statement) → AllByRecursion IsKeyed statements
      → filter (λ (s : Statement). is_on first_shard (shard_for t tries s)) statements ≡ statements
  all_there [] keyed = refl
  all_there (s ∷ statements) keyed =
      ap (λ b. if b then s ∷ filter (λ (x : Statement). is_on first_shard (shard_for t tries x)) statements
      else filter (λ (x : Statement). is_on first_shard (shard_for t tries x)) statements) (on_first s keyed.0)
      ∙ ap (λ l. s ∷ l) (all_there statements keyed.1)

  one_shard : (s : Statement) (more : List Statement) → IsKeyed s → AllByRecursion IsKeyed more → shards_for t tries (s ∷ more) ≡ first_shard ∷ []
  one_shard s [] is keyed =
      ap (λ o. elim o as (λ (o : Option ℕ). List ℕ) [ None ↦ [] | Some shard ↦ shard ∷ [] ]) (goes_first s is)
  one_shard s (x ∷ more) is keyed =
      ap (λ o. elim o as (λ (o : Option ℕ). List ℕ) [
        | None ↦ shards_for t tries (x ∷ more)
        | Some shard ↦ shard ∷ filter (λ other. not (other == shard)) (shards_for t tries (x ∷ more))
      ]) (goes_first s is)
      ∙ ap (λ l. first_shard ∷ filter (λ other. not (other == first_shard)) l) (one_shard x more keyed.0 keyed.1)

  pub next_one : (s : Statement) (more : List Statement) → IsKeyed s → AllByRecursion IsKeyed more
      → next_run t tries (s ∷ more) ≡ run_of t first_shard (s ∷ more) ∷ []
  next_one s more is keyed =
      ap (λ o. elim o as (λ (o : Option ℕ). List Run) [ None ↦ [] | Some shard ↦ run_of t shard (run_to t tries shard (s ∷ more)) ∷ [] ]) (goes_first s is)
      ∙ ap (λ l. run_of t first_shard l ∷ []) (run_all (s ∷ more) (is, keyed))

  pub all_one : (s : Statement) (more : List Statement) → IsKeyed s → AllByRecursion IsKeyed more
      → all_runs t tries (s ∷ more) ≡ run_of t first_shard (s ∷ more) ∷ []
  all_one s more is keyed =
      ap (λ shards. map (λ shard. run_of t shard (filter (λ (x : Statement). is_on shard (shard_for t tries x)) (s ∷ more))) shards)
      (one_shard s more is keyed)
      ∙ ap (λ l. run_of t first_shard l ∷ []) (all_there (s ∷ more) (is, keyed))

-- WHERE NOTHING WAS SENT

abbrev pub unsent_course : List (List Try) → Answers → Course
unsent_course tries answers = record { answers = answers; tries = tries; runs = [] }

abbrev pub run_course : List (List Try) → Answers → Run → Course
run_course tries answers run = record { answers = answers; tries = tries; runs = run ∷ [] }

nothing_sent : (statements : List Statement) → filter (λ (s : Statement). not (is_sent [] s)) statements ≡ statements
nothing_sent [] = refl
nothing_sent (s ∷ statements) = ap (λ l. s ∷ l) (nothing_sent statements)

pub all_unsent : (ordered : Bool) (statements : List Statement) (tries : List (List Try)) (answers : Answers)
    → unsent ordered statements (unsent_course tries answers) ≡ unanswered statements answers
all_unsent true statements tries answers = refl
all_unsent false statements tries answers = nothing_sent (unanswered statements answers)

-- the one run that a table gives
abbrev pub run_left : Table → List Statement → Answers → Run
run_left t statements answers = run_of t first_shard (unanswered statements answers)

pub gives_one : (t : Table) → IsFirst t → (ordered : Bool) (statements : List Statement) (tries : List (List Try)) → AreUntried tries → (answers : Answers)
    → HasNext statements answers → runs_by ordered (Some t) statements (unsent_course tries answers) ≡ run_left t statements answers ∷ []
gives_one t first ordered statements tries untried answers n =
    by_order ordered ∙ ap (λ l. run_of t first_shard l ∷ []) (sym n.left)
  where
    keyed : AllByRecursion IsKeyed (n.first ∷ n.more)
    keyed = subst (λ l. AllByRecursion IsKeyed l) n.left (kept_keyed (λ (s : Statement). not (has_outcome answers s.number.index)) statements n.keyed)

    by_order : (o : Bool) → runs_by o (Some t) statements (unsent_course tries answers) ≡ run_of t first_shard (n.first ∷ n.more) ∷ []
    by_order true = ap (λ l. next_run t tries l) n.left ∙ next_one t first tries untried n.first n.more keyed.0 keyed.1
    by_order false =
        ap (λ l. all_runs t tries l) (nothing_sent (unanswered statements answers) ∙ n.left) ∙ all_one t first tries untried n.first n.more keyed.0 keyed.1

-- what is to be sent has keys
pub unsent_keyed : (ordered : Bool) (statements : List Statement) (c : Course) → AllByRecursion IsKeyed statements
    → AllByRecursion IsKeyed (unsent ordered statements c)
unsent_keyed true statements c keyed = by_runs c.runs
  where
    by_runs : (runs : List Run) → AllByRecursion IsKeyed (elim runs as (λ (l : List Run). List Statement) [
      | [] ↦ unanswered statements c.answers
      | run ∷ more ↦ []
    ])
    by_runs [] = kept_keyed (λ (s : Statement). not (has_outcome c.answers s.number.index)) statements keyed
    by_runs (run ∷ more) = tt
unsent_keyed false statements c keyed =
    kept_keyed (λ (s : Statement). not (is_sent c.runs s)) (unanswered statements c.answers)
    (kept_keyed (λ (s : Statement). not (has_outcome c.answers s.number.index)) statements keyed)

-- WHERE ONE RUN IS UNDER WAY

-- nothing is left to send
pub none_unsent : (ordered : Bool) (statements : List Statement) (tries : List (List Try)) (answers : Answers) (run : Run)
    → run.indices ≡ indices_of (unanswered statements answers) → unsent ordered statements (run_course tries answers run) ≡ []
none_unsent true statements tries answers run all = refl
none_unsent false statements tries answers run all =
    none_kept (λ (s : Statement). not (is_sent (run ∷ []) s)) (unanswered statements answers)
    (all_from (λ (s : Statement). not (is_sent (run ∷ []) s) ≡ false) (unanswered statements answers)
    (λ s i. ap (λ b. not (b || false)) (ap (λ l. has_index l s.number.index) all ∙ has_own (unanswered statements answers) s i)))

pub gives_none : (ordered : Bool) (o : Option Table) (statements : List Statement) (tries : List (List Try)) (answers : Answers) (run : Run)
    → run.indices ≡ indices_of (unanswered statements answers) → runs_by ordered o statements (run_course tries answers run) ≡ []
gives_none ordered None statements tries answers run all = refl
gives_none true (Some t) statements tries answers run all = refl
gives_none false (Some t) statements tries answers run all =
    ap (λ l. all_runs t tries l) (none_unsent false statements tries answers run all)

-- its statements are those that are not answered
pub in_one : (statements : List Statement) (answers : Answers) (run : Run) → AreRising statements → run.indices ≡ indices_of (unanswered statements answers)
    → in_run run statements ≡ unanswered statements answers
in_one statements answers run rising all =
    ap (λ l. filter (λ (s : Statement). has_index l s.number.index) statements) all
    ∙ picked (λ (s : Statement). not (has_outcome answers s.number.index)) statements (unanswered statements answers) [] rising
    (append-nil (unanswered statements answers))

-- AFTER MORE OUTCOMES

fewer : (statements : List Statement) (old new : Answers) → HasMore old new
    → unanswered statements new ≡ filter (λ (s : Statement). not (has_outcome new s.number.index)) (unanswered statements old)
fewer [] old new more = refl
fewer (s ∷ statements) old new more = by_test (has_outcome old s.number.index) (more s.number.index) (fewer statements old new more)
  where
    by_test : (a : Bool) → (a ≡ true → has_outcome new s.number.index ≡ true)
        → unanswered statements new ≡ filter (λ (x : Statement). not (has_outcome new x.number.index)) (unanswered statements old)
        → (if not (has_outcome new s.number.index) then s ∷ unanswered statements new else unanswered statements new)
        ≡ filter (λ (x : Statement). not (has_outcome new x.number.index)) (if not a then s ∷ unanswered statements old else unanswered statements old)
    by_test true h e = ap (λ b. if not b then s ∷ unanswered statements new else unanswered statements new) (h refl) ∙ e
    by_test false h e = ap (λ l. if not (has_outcome new s.number.index) then s ∷ l else l) e

-- what is left of a run
abbrev pub rest_run : Run → List Statement → Answers → Run
rest_run run statements answers = record { shard = run.shard; sent = run.sent; indices = indices_of (unanswered statements answers) }

pub one_rest : (statements : List Statement) (old new : Answers) (run : Run) → HasMore old new → HasNext statements new
    → run.indices ≡ indices_of (unanswered statements old) → left_of new (run ∷ []) ≡ rest_run run statements new ∷ []
one_rest statements old new run more n all =
    ap (λ l. elim l as (λ (l : List ℕ). List Run) [
      | [] ↦ []
      | i ∷ indices ↦ record { shard = run.shard; sent = run.sent; indices = i ∷ indices } ∷ []
    ]) (left ∙ ap (λ l. indices_of l) n.left)
    ∙ ap (λ l. record { shard = run.shard; sent = run.sent; indices = indices_of l } ∷ []) (sym n.left)
  where
    left : filter (λ i. not (has_outcome new i)) run.indices ≡ indices_of (unanswered statements new)
    left =
        ap (λ l. filter (λ i. not (has_outcome new i)) l) all
        ∙ (kept_indices (λ i. not (has_outcome new i)) (unanswered statements old) ∙ ap (λ l. indices_of l) (sym (fewer statements old new more)))

-- the run was served in part, where an outcome is new
pub served_one : (ordered : Bool) (statements : List Statement) (answers : Answers) (dones : List Done) (run : Run) → AreStated statements answers
    → run.indices ≡ indices_of (unanswered statements answers) → noted ordered answers dones ≢ answers
    → served_in_part (noted ordered answers dones) (run ∷ []) ≡ run ∷ []
served_one ordered statements answers dones run stated all news =
    by_test (list_any (has_outcome (noted ordered answers dones)) run.indices) refl
  where
    keeps_none : list_any (has_outcome (noted ordered answers dones)) run.indices ≡ false → (s : Statement) → IsIn s statements
        → has_outcome answers s.number.index ≡ false → has_outcome (noted ordered answers dones) s.number.index ≡ false
    keeps_none h s i none =
        none_any (has_outcome (noted ordered answers dones)) (unanswered statements answers) s
        (ap (λ l. list_any (has_outcome (noted ordered answers dones)) l) (sym all) ∙ h)
        (in_filter (λ (x : Statement). not (has_outcome answers x.number.index)) s statements i (ap (λ b. not b) none))

    same : list_any (has_outcome (noted ordered answers dones)) run.indices ≡ false → noted ordered answers dones ≡ answers
    same h =
        noted_same ordered answers dones (λ i less none.
        index_left stated.given stated.id stated.operations answers (λ n. has_outcome (noted ordered answers dones) n ≡ false) stated.long
        (subst (λ l. AllByRecursion (λ (x : Statement). has_outcome answers x.number.index ≡ false
        → has_outcome (noted ordered answers dones) x.number.index ≡ false) l) stated.are
        (all_from (λ (x : Statement). has_outcome answers x.number.index ≡ false → has_outcome (noted ordered answers dones) x.number.index ≡ false)
        statements (λ x j. keeps_none h x j))) i less none)

    by_test : (b : Bool) → list_any (has_outcome (noted ordered answers dones)) run.indices ≡ b → (if b then run ∷ [] else []) ≡ run ∷ []
    by_test true h = refl
    by_test false h = absurd (news (same h))
