-- What is not answered of runs.
use Rattle.std.proofs.Common.{◌≡◌, refl, ap, sym, ◌∙◌, ℕ, List, [], ◌∷◌, ◌++◌, length, Bool, true, false, ◌==◌, append-nil, if◌then◌else◌}
use Rattle.std.proofs.Math.Dec.{eqb-suc-zero}
use Rattle.std.proofs.lemmas.List.{map-append}
use Rattle.std.specs.Prelude.{Option, filter, not}
use Rattle.std.specs.List.{list_any}
use Rattle.chunk_model.specs.Verdicts as verdicts
use Rattle.chunk_table.specs.VerdictMeanings.{sent_view}
use Rattle.node_model.specs.RouterNext.{left_of, served_in_part}
use Rattle.node_model.specs.States as states
use Rattle.reply_model.specs.Outcomes.{StatementOutcome, has_outcome}
use Rattle.write_runs.specs.Runs.{run_view, runs_view}
use Rattle.write_runs.specs.declared.run.Run.{Run}

abbrev pub made : ℕ → verdicts.Sent → List ℕ → states.Run
made shard sent indices = record { shard = shard; sent = sent; indices = indices }

module _ (answers : List (Option StatementOutcome)) where
  -- what is left of a run, by its indices that are left
  abbrev rest_by : states.Run → List ℕ → List states.Run → List states.Run
  rest_by run indices others = elim indices as (λ (l : List ℕ). List states.Run) [
    | [] ↦ others
    | i ∷ more ↦ record { shard = run.shard; sent = run.sent; indices = i ∷ more } ∷ others
  ]

  left_one : (run : states.Run) (indices : List ℕ) → indices ≡ filter (λ i. not (has_outcome answers i)) run.indices → left_of answers (run ∷ []) ≡ rest_by run indices []
  left_one run indices is = ap (λ l. rest_by run l []) (sym is)

  pub left_both : (run : states.Run) (runs : List states.Run) → left_of answers (run ∷ runs) ≡ left_of answers (run ∷ []) ++ left_of answers runs
  left_both run runs = by_rest (filter (λ i. not (has_outcome answers i)) run.indices)
    where
      by_rest : (indices : List ℕ) → rest_by run indices (left_of answers runs) ≡ rest_by run indices [] ++ left_of answers runs
      by_rest [] = refl
      by_rest (i ∷ indices) = refl

  left_none : (run : states.Run) (indices : List ℕ) (old : List states.Run) → indices ≡ filter (λ i. not (has_outcome answers i)) run.indices
      → (length indices == 0) ≡ true → old ≡ old ++ left_of answers (run ∷ [])
  left_none run [] old is none = sym (ap (λ l. old ++ l) (left_one run [] is) ∙ append-nil old)
  left_none run (i ∷ indices) old is none = absurd (cc (sym (eqb-suc-zero (length indices)) ∙ none))

  pub nothing_left : (run : Run) (whole indices : List ℕ) (list : List Run) → whole ≡ run.indices.items → indices ≡ filter (λ i. not (has_outcome answers i)) whole
      → (length indices == 0) ≡ true → runs_view list ≡ runs_view list ++ left_of answers (run_view run ∷ [])
  nothing_left run whole indices list all is none =
      left_none (run_view run) indices (runs_view list) (is ∙ ap (λ l. filter (λ i. not (has_outcome answers i)) l) all) none

  something_left : (run : states.Run) (indices : List ℕ) → indices ≡ filter (λ i. not (has_outcome answers i)) run.indices
      → (length indices == 0) ≡ false → record { shard = run.shard; sent = run.sent; indices = indices } ∷ [] ≡ left_of answers (run ∷ [])
  something_left run [] is some = absurd (cc some)
  something_left run (i ∷ indices) is some = sym (left_one run (i ∷ indices) is)

  pub rest_pushed : (run rest : Run) (whole : List ℕ) (old new : List Run) → whole ≡ run.indices.items
      → rest.indices.items ≡ filter (λ i. not (has_outcome answers i)) whole → (length rest.indices.items == 0) ≡ false
      → rest.shard.0 ≡ run.shard.0 → sent_view rest.sent ≡ sent_view run.sent → new ≡ old ++ rest ∷ []
      → runs_view new ≡ runs_view old ++ left_of answers (run_view run ∷ [])
  rest_pushed run rest whole old new all is some shard sent pushed =
      ap (λ (l : List Run). runs_view l) pushed ∙ map-append run_view old (rest ∷ [])
      ∙ ap (λ l. runs_view old ++ l)
      (ap (λ n. made n (sent_view rest.sent) rest.indices.items ∷ []) shard
      ∙ ap (λ v. made run.shard.0 v rest.indices.items ∷ []) sent
      ∙ something_left (run_view run) rest.indices.items (is ∙ ap (λ l. filter (λ i. not (has_outcome answers i)) l) all) some)

  -- what is left of a run of which some statements are answered, and of another one
  pub served_both : (run : states.Run) (runs : List states.Run) → left_of answers (served_in_part answers (run ∷ runs))
      ≡ left_of answers (served_in_part answers (run ∷ [])) ++ left_of answers (served_in_part answers runs)
  served_both run runs = by_test (list_any (has_outcome answers) run.indices)
    where
      by_test : (b : Bool) → left_of answers (if b then run ∷ served_in_part answers runs else served_in_part answers runs)
          ≡ left_of answers (if b then run ∷ [] else []) ++ left_of answers (served_in_part answers runs)
      by_test true = left_both run (served_in_part answers runs)
      by_test false = refl

  pub is_served : (run : Run) (whole : List ℕ) → whole ≡ run.indices.items → list_any (has_outcome answers) whole ≡ true
      → left_of answers (run_view run ∷ []) ≡ left_of answers (served_in_part answers (run_view run ∷ []))
  is_served run whole all served =
      sym (ap (λ (b : Bool). left_of answers (if b then run_view run ∷ [] else [])) (ap (λ l. list_any (has_outcome answers) l) (sym all) ∙ served))

  pub not_served : (run : Run) (whole : List ℕ) (old : List states.Run) → whole ≡ run.indices.items → list_any (has_outcome answers) whole ≡ false
      → old ≡ old ++ left_of answers (served_in_part answers (run_view run ∷ []))
  not_served run whole old all none =
      sym (ap (λ (b : Bool). old ++ left_of answers (if b then run_view run ∷ [] else [])) (ap (λ l. list_any (has_outcome answers) l) (sym all) ∙ none) ∙ append-nil old)
