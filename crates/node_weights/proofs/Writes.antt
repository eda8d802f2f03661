-- How the turns of a write fall: where statements are answered, and where some are sent.
use Rattle.std.proofs.Common.{◌≡◌, ◌≢◌, ◌⊎◌, inl, inr, ℕ, zero, suc, ◌<◌, ◌≤◌, List, [], ◌∷◌, ◌++◌, length, refl, sym, subst, ap, ◌∙◌, arith, Bool}
use Rattle.std.specs.Prelude.{Option, Some, None, true, false, not, map, filter, ◌==◌, ◌||◌, if◌then◌else◌}
use Rattle.std.proofs.lemmas.Bool.{eqb-false}
use Rattle.history_model.specs.History.{IsIn}
use Rattle.history_model.proofs.Lists.{in_first, in_later, in_back, in_none, in_cons}
use Rattle.base_model.specs.Refusals.{Refusal}
use Rattle.chunk_model.specs.Tables.{Table}
use Rattle.reply_model.specs.Outcomes.{Done, StatementOutcome, Try, was_refused, with_outcome}
use Rattle.reply_model.specs.Reads.{is_on}
use Rattle.node_model.specs.Letters.{Statement}
use Rattle.node_model.specs.RouterNext.{has_before, with_done, noted, with_outcomes, given_up}
use Rattle.node_model.specs.RouterRequests.{shard_for, run_to, run_of, next_run, shards_for, all_runs, indices_of, has_index, is_sent, unanswered, unsent, runs_by, with_runs}
use Rattle.node_model.specs.States.{Run, Course}
use Rattle.node_laws.proofs.SentParts.{sent_by_run}
use Rattle.node_progress.proofs.Members.{in_filter, in_filtered}
use Rattle.node_weights.specs.Weights.{without_outcome}
use Rattle.node_weights.proofs.Sums.{less_pass}

abbrev Answers : Type 0
Answers = List (Option StatementOutcome)

-- STATEMENTS THAT ARE ANSWERED

-- the same are answered, or more
abbrev Grows : Answers → Answers → Type 0
Grows old new = (new ≡ old) ⊎ (without_outcome new < without_outcome old)

with_outcome_grows : (index : ℕ) (x : StatementOutcome) (answers : Answers) → Grows answers (with_outcome index x answers)
with_outcome_grows index x [] = inl refl
with_outcome_grows zero x (None ∷ answers) = inr (omega arith)
with_outcome_grows zero x (Some y ∷ answers) = inl refl
with_outcome_grows (suc index) x (y ∷ answers) = behind y (with_outcome_grows index x answers)
  where
    behind : (z : Option StatementOutcome) → Grows answers (with_outcome index x answers) → Grows (z ∷ answers) (z ∷ with_outcome index x answers)
    behind z (inl same) = inl (ap (λ l. z ∷ l) same)
    behind None (inr less) = inr (omega (arith, less))
    behind (Some w) (inr less) = inr less

grows_then : (a b c : Answers) → Grows a b → Grows b c → Grows a c
grows_then a b c (inl same) later = subst (λ l. Grows l c) same later
grows_then a b c (inr less) (inl same) = inr (let e = ap without_outcome same in omega (arith, less, e))
grows_then a b c (inr less) (inr more) = inr (omega (arith, less, more))

noted_grows : (ordered : Bool) (answers : Answers) (dones : List Done) → Grows answers (noted ordered answers dones)
noted_grows ordered answers [] = inl refl
noted_grows ordered answers (d ∷ dones) =
    grows_then answers (with_done ordered d answers) (noted ordered (with_done ordered d answers) dones) (by_before (not ordered || has_before d.index answers))
    (noted_grows ordered (with_done ordered d answers) dones)
  where
    by_before : (b : Bool) → Grows answers (if b then with_outcome d.index d.answer answers else answers)
    by_before true = with_outcome_grows d.index d.answer answers
    by_before false = inl refl

-- outcomes that are new answer statements
pub noted_less : (ordered : Bool) (answers : Answers) (dones : List Done) → noted ordered answers dones ≢ answers
    → without_outcome (noted ordered answers dones) < without_outcome answers
noted_less ordered answers dones new = by_growth (noted_grows ordered answers dones)
  where
    by_growth : Grows answers (noted ordered answers dones) → without_outcome (noted ordered answers dones) < without_outcome answers
    by_growth (inl same) = absurd (new same)
    by_growth (inr less) = less

fewer : (old new : Answers) → Grows old new → without_outcome new ≤ without_outcome old
fewer old new (inl same) = let e = ap without_outcome same in omega (arith, e)
fewer old new (inr less) = omega (arith, less)

all_grow : (indices : List ℕ) (x : StatementOutcome) (answers : Answers) → Grows answers (with_outcomes indices x answers)
all_grow [] x answers = inl refl
all_grow (index ∷ indices) x answers =
    grows_then answers (with_outcomes indices x answers) (with_outcome index x (with_outcomes indices x answers)) (all_grow indices x answers)
    (with_outcome_grows index x (with_outcomes indices x answers))

-- where statements are given up no more are open
pub given_fewer : (ordered : Bool) (refusal : Refusal) (indices : List ℕ) (answers : Answers)
    → without_outcome (given_up ordered refusal indices answers) ≤ without_outcome answers
given_fewer ordered refusal [] answers = omega arith
given_fewer true refusal (index ∷ indices) answers =
    fewer answers (with_outcome index (was_refused refusal) answers) (with_outcome_grows index (was_refused refusal) answers)
given_fewer false refusal (index ∷ indices) answers =
    fewer answers (with_outcomes (index ∷ indices) (was_refused refusal) answers) (all_grow (index ∷ indices) (was_refused refusal) answers)

-- STATEMENTS THAT ARE SENT

same_index : (n : ℕ) → (n == n) ≡ true
same_index n = by_test (n == n) refl
  where
    by_test : (b : Bool) → (n == n) ≡ b → b ≡ true
    by_test true h = refl
    by_test false h = absurd (eqb-false n n h refl)

index_in : (s : Statement) (statements : List Statement) → IsIn s statements → has_index (indices_of statements) s.number.index ≡ true
index_in s [] there = absurd (in_none s there)
index_in s (x ∷ statements) there = by_place (in_cons s x statements there) (λ i. index_in s statements i)
  where
    own : (b c : Bool) → b ≡ true → (b || c) ≡ true
    own true c h = refl
    own false c h = absurd (cc)

    other : (b c : Bool) → c ≡ true → (b || c) ≡ true
    other true c h = refl
    other false c h = h

    by_place : (s ≡ x) ⊎ IsIn s statements → (IsIn s statements → has_index (indices_of statements) s.number.index ≡ true)
        → has_index (indices_of (x ∷ statements)) s.number.index ≡ true
    by_place (inl same) later =
        own (x.number.index == s.number.index) (has_index (indices_of statements) s.number.index)
        (subst (λ (y : Statement). (y.number.index == s.number.index) ≡ true) same (same_index s.number.index))
    by_place (inr i) later = other (x.number.index == s.number.index) (has_index (indices_of statements) s.number.index) (later i)

-- one of these statements is in the first of these runs
record IsSentNow (statements : List Statement) (more : List Run) : Type 0 where
  statement : Statement
  run : Run
  there : IsIn statement statements
  sent : IsIn run more
  among : has_index run.indices statement.number.index ≡ true

on_own : (shard : ℕ) (o : Option ℕ) → o ≡ Some shard → is_on shard o ≡ true
on_own shard None e = absurd (cc)
on_own shard (Some owner) e =
    let same : owner ≡ shard = cc in
    subst (λ n. (n == shard) ≡ true) (sym same) (same_index shard)

next_sent : (t : Table) (tries : List (List Try)) (statements : List Statement) (run : Run) (more : List Run) → next_run t tries statements ≡ run ∷ more
    → IsSentNow statements (run ∷ more)
next_sent t tries [] run more is = absurd (cc)
next_sent t tries (s ∷ statements) run more is = by_shard (shard_for t tries s) refl is
  where
    head_in : (shard : ℕ) (b : Bool) → b ≡ true
        → IsIn s (if b then s ∷ run_to t tries shard statements else [])
    head_in shard true h = in_first s (run_to t tries shard statements)
    head_in shard false h = absurd (cc)

    by_shard : (o : Option ℕ) → shard_for t tries s ≡ o → (elim o as (λ (x : Option ℕ). List Run) [
      | None ↦ []
      | Some shard ↦ run_of t shard (run_to t tries shard (s ∷ statements)) ∷ []
    ]) ≡ run ∷ more → IsSentNow (s ∷ statements) (run ∷ more)
    by_shard None h e = absurd (cc)
    by_shard (Some shard) h e =
        let same : run_of t shard (run_to t tries shard (s ∷ statements)) ≡ run = cc e in
        record {
          statement = s;
          run = run;
          there = in_first s statements;
          sent = in_first run more;
          among = subst (λ (x : Run). has_index x.indices s.number.index ≡ true) same
              (index_in s (run_to t tries shard (s ∷ statements)) (head_in shard (is_on shard (shard_for t tries s)) (on_own shard (shard_for t tries s) h)));
        }

-- a shard that statements go to has one of them
record GoesTo (t : Table) (tries : List (List Try)) (statements : List Statement) (shard : ℕ) : Type 0 where
  statement : Statement
  there : IsIn statement statements
  goes : shard_for t tries statement ≡ Some shard

shard_has : (t : Table) (tries : List (List Try)) (statements : List Statement) (shard : ℕ) (others : List ℕ)
    → shards_for t tries statements ≡ shard ∷ others → GoesTo t tries statements shard
shard_has t tries [] shard others is = absurd (cc)
shard_has t tries (s ∷ statements) shard others is = by_shard (shard_for t tries s) refl is (λ e. shard_has t tries statements shard others e)
  where
    by_shard : (o : Option ℕ) → shard_for t tries s ≡ o → (elim o as (λ (x : Option ℕ). List ℕ) [
      | None ↦ shards_for t tries statements
      | Some own ↦ own ∷ filter (λ other. not (other == own)) (shards_for t tries statements)
    ]) ≡ shard ∷ others → (shards_for t tries statements ≡ shard ∷ others → GoesTo t tries statements shard) → GoesTo t tries (s ∷ statements) shard
    by_shard None h e later =
        let g = later e in
        record { statement = g.statement; there = in_later g.statement s statements g.there; goes = g.goes }
    by_shard (Some own) h e later =
        let same : own ≡ shard = cc e in
        record { statement = s; there = in_first s statements; goes = h ∙ ap (λ (n : ℕ). Some n) same }

all_sent : (t : Table) (tries : List (List Try)) (statements : List Statement) (run : Run) (more : List Run) → all_runs t tries statements ≡ run ∷ more
    → IsSentNow statements (run ∷ more)
all_sent t tries statements run more is = by_shards (shards_for t tries statements) refl is
  where
    run_for : ℕ → Run
    run_for shard = run_of t shard (filter (λ (s : Statement). is_on shard (shard_for t tries s)) statements)

    by_shards : (shards : List ℕ) → shards_for t tries statements ≡ shards → map run_for shards ≡ run ∷ more → IsSentNow statements (run ∷ more)
    by_shards [] h e = absurd (cc)
    by_shards (shard ∷ others) h e =
        let same : run_for shard ≡ run = cc e in
        let g = shard_has t tries statements shard others h in
        record {
          statement = g.statement;
          run = run;
          there = g.there;
          sent = in_first run more;
          among = subst (λ (x : Run). has_index x.indices g.statement.number.index ≡ true) same
              (index_in g.statement (filter (λ (s : Statement). is_on shard (shard_for t tries s)) statements)
              (in_filter (λ (s : Statement). is_on shard (shard_for t tries s)) g.statement statements g.there
              (on_own shard (shard_for t tries g.statement) g.goes)));
        }

-- what was not sent before, of the statements that are not answered
more_sent : (statements : List Statement) (c : Course) (more : List Run) (s : Statement) (run : Run) → IsIn s (unanswered statements c.answers)
    → is_sent c.runs s ≡ false → IsIn run more → has_index run.indices s.number.index ≡ true
    → length (unsent false statements (with_runs c more)) < length (unsent false statements c)
more_sent statements c more s run open_yet fresh there among =
    less_pass (λ (x : Statement). not (is_sent (c.runs ++ more) x)) (λ (x : Statement). not (is_sent c.runs x)) s (unanswered statements c.answers)
    (λ x not_sent. before c.runs x not_sent) (ap not (sent_by_run run (c.runs ++ more) s (in_back run c.runs more there) among)) (ap not fresh) open_yet
  where
    before : (runs : List Run) (x : Statement) → not (is_sent (runs ++ more) x) ≡ true → not (is_sent runs x) ≡ true
    before [] x h = refl
    before (r ∷ runs) x h = by_own (has_index r.indices x.number.index) h (λ k. before runs x k)
      where
        by_own : (b : Bool) → not (b || is_sent (runs ++ more) x) ≡ true → (not (is_sent (runs ++ more) x) ≡ true → not (is_sent runs x) ≡ true)
            → not (b || is_sent runs x) ≡ true
        by_own true h later = h
        by_own false h later = later h

-- where a table sends a run, fewer statements are left to send
pub run_less : (ordered : Bool) (table : Option Table) (statements : List Statement) (c : Course) (run : Run) (more : List Run)
    → runs_by ordered table statements c ≡ run ∷ more → length (unsent false statements (with_runs c (run ∷ more))) < length (unsent false statements c)
run_less ordered None statements c run more is = absurd (cc)
run_less true (Some t) statements c run more is = by_runs c.runs refl is
  where
    by_runs : (runs : List Run) → c.runs ≡ runs
        → next_run t c.tries (elim runs as (λ (l : List Run). List Statement) [ [] ↦ unanswered statements c.answers | x ∷ others ↦ [] ]) ≡ run ∷ more
        → length (unsent false statements (with_runs c (run ∷ more))) < length (unsent false statements c)
    by_runs [] none e =
        let now = next_sent t c.tries (unanswered statements c.answers) run more e in
        more_sent statements c (run ∷ more) now.statement now.run now.there (ap (λ l. is_sent l now.statement) none) now.sent now.among
    by_runs (x ∷ others) some e = absurd (cc)
run_less false (Some t) statements c run more is =
    let now = all_sent t c.tries (unsent false statements c) run more is in
    let there = in_filtered (λ (s : Statement). not (is_sent c.runs s)) now.statement (unanswered statements c.answers) now.there in
    more_sent statements c (run ∷ more) now.statement now.run there.0 (not_true (is_sent c.runs now.statement) there.1) now.sent now.among
  where
    not_true : (a : Bool) → not a ≡ true → a ≡ false
    not_true true h = absurd (cc)
    not_true false h = refl
