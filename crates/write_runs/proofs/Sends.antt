-- What a table sends of a write.
use Rattle.std.proofs.Common.{◌≡◌, refl, ap, sym, ◌∙◌, ℕ, List, [], ◌∷◌, map, length, Bool, true, false, ◌==◌}
use Rattle.std.proofs.Math.Dec.{eqb-suc-zero}
use Rattle.std.specs.Prelude.{Option, Some, None, filter}
use Rattle.chunk_model.specs.Tables.{Table}
use Rattle.chunk_model.specs.Verdicts.{sent_by}
use Rattle.node_model.specs.Letters.{Statement}
use Rattle.node_model.specs.RouterRequests.{all_runs, indices_of, next_run, run_of, run_to, runs_by, shard_for, unanswered, unsent}
use Rattle.node_model.specs.States.{Course, Run}
use Rattle.reply_model.specs.Outcomes.{StatementOutcome, Try}
use Rattle.chunk_table.specs.VerdictMeanings.{sent_view}
use Rattle.write_runs.proofs.Lefts.{made}
use Rattle.write_runs.proofs.News.{unsent_any}
use Rattle.write_runs.specs.Marks.{is_new}
use Rattle.write_runs.specs.Places.{all_placed, first_in, place_view}
use Rattle.write_runs.specs.Runs.{run_view, runs_view}
use Rattle.write_runs.specs.declared.places.Place.{Place}
use Rattle.write_runs.specs.declared.run.Run as program

-- THE NEXT RUN

pub run_is : (t : Table) (tries : List (List Try)) (shard : ℕ) (statements : List Statement) (run : program.Run) → run.shard.0 ≡ shard
    → sent_view run.sent ≡ sent_by t shard → run.indices.items ≡ indices_of (run_to t tries shard statements)
    → run_view run ≡ run_of t shard (run_to t tries shard statements)
run_is t tries shard statements run to sent indices =
    ap (λ n. made n (sent_view run.sent) run.indices.items) to ∙ ap (λ v. made shard v run.indices.items) sent ∙ ap (λ l. made shard (sent_by t shard) l) indices

module _ (t : Table) (tries : List (List Try)) where
  abbrev next_by : List Statement → Option ℕ → List Run
  next_by statements owner = elim owner as (λ (o : Option ℕ). List Run) [ None ↦ [] | Some to ↦ run_of t to (run_to t tries to statements) ∷ [] ]

  -- it is that of the shard that the first statement can be sent to
  pub next_is : (statements : List Statement) (s : Statement) (shard : ℕ) (run : Run) → Some s ≡ first_in statements → shard_for t tries s ≡ Some shard
      → run ≡ run_of t shard (run_to t tries shard statements) → run ∷ [] ≡ next_run t tries statements
  next_is [] s shard run first owned is = absurd (cc first)
  next_is (x ∷ statements) s shard run first owned is =
      let same : s ≡ x = cc first in
      ap (λ r. r ∷ []) is ∙ sym (ap (λ (o : Option ℕ). next_by (x ∷ statements) o) (ap (λ y. shard_for t tries y) (sym same) ∙ owned))

  -- there is none where the table cannot send it
  pub next_waits : (statements : List Statement) (s : Statement) → Some s ≡ first_in statements → shard_for t tries s ≡ None → [] ≡ next_run t tries statements
  next_waits [] s first none = absurd (cc first)
  next_waits (x ∷ statements) s first none =
      let same : s ≡ x = cc first in
      sym (ap (λ (o : Option ℕ). next_by (x ∷ statements) o) (ap (λ y. shard_for t tries y) (sym same) ∙ none))

  pub none_next : (statements : List Statement) → None ≡ first_in statements → [] ≡ next_run t tries statements
  none_next [] first = refl
  none_next (x ∷ statements) first = absurd (cc first)

-- BY THE ORDER

module _ (t : Table) (statements : List Statement) (answers : List (Option StatementOutcome)) (tries : List (List Try)) (ordered : Bool) where
  -- a write whose statements go out in any order
  pub any_runs : (c : Course) (more : List Run) → ordered ≡ false → more ≡ all_runs t c.tries (unsent false statements c) → more ≡ runs_by ordered (Some t) statements c
  any_runs c more is same = same ∙ ap (λ o. runs_by o (Some t) statements c) (sym is)

  -- one that waits for none
  pub next_runs : (runs : List program.Run) (more : List Run) → ordered ≡ true → (length runs == 0) ≡ true → more ≡ next_run t tries (unanswered statements answers)
      → more ≡ runs_by ordered (Some t) statements (record { answers = answers; tries = tries; runs = runs_view runs })
  next_runs [] more is none same = same ∙ ap (λ o. runs_by o (Some t) statements (record { answers = answers; tries = tries; runs = [] })) (sym is)
  next_runs (run ∷ runs) more is none same = absurd (cc (sym (eqb-suc-zero (length runs)) ∙ none))

  -- one that waits for some
  pub waiting_runs : (runs : List program.Run) → ordered ≡ true → (length runs == 0) ≡ false
      → [] ≡ runs_by ordered (Some t) statements (record { answers = answers; tries = tries; runs = runs_view runs })
  waiting_runs [] is some = absurd (cc some)
  waiting_runs (run ∷ runs) is some = ap (λ o. runs_by o (Some t) statements (record { answers = answers; tries = tries; runs = runs_view (run ∷ runs) })) (sym is)

-- places of what is to be sent
pub placed_unsent : (t : Table) (tries : List (List Try)) (statements : List Statement) (answers : List (Option StatementOutcome)) (runs : List Run) (places : List Place)
    → map place_view places ≡ all_placed t tries (filter (is_new answers runs) statements)
    → map place_view places ≡ all_placed t tries (unsent false statements (record { answers = answers; tries = tries; runs = runs }))
placed_unsent t tries statements answers runs places are = are ∙ ap (λ l. all_placed t tries l) (sym (unsent_any statements answers tries runs))
