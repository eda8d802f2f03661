-- Statements that are refused, one after another.
use Rattle.std.proofs.Common.{◌≡◌, refl, ap, sym, ◌∙◌, ℕ, zero, suc, ◌+◌, ◌<◌, List, [], ◌∷◌, drop, length, get_or, Bool, true, false, ◌==◌, if◌then◌else◌, add-one, drop-cons}
use Rattle.std.proofs.lemmas.List.{get_or_default}
use Rattle.std.specs.Prelude.{Option, Some, None}
use Rattle.std.specs.List.{slice_set}
use Rattle.base_model.specs.Refusals.{Refusal}
use Rattle.chunk_model.specs.Versions.{Version}
use Rattle.node_model.specs.RouterRequests.{first_index, tries_at, with_tries}
use Rattle.node_model.specs.RouterNext.{after_stale, given_up, with_outcomes, without_run, worn_out}
use Rattle.node_model.specs.States.{Course, Run}
use Rattle.protocol_model.specs.Statements.{answer_view}
use Rattle.protocol_model.specs.declared.statement.StatementOutcome as program
use Rattle.reply_model.specs.Outcomes.{StatementOutcome, Try, most_tries, stale_refusal, was_refused, with_outcome}
use Rattle.router_writes.proofs.Places.{stored}
use Rattle.router_writes.specs.Places.{is_open}
use Rattle.write_runs.specs.Runs.{answers_view}

abbrev Answers : Type 0
Answers = List (Option StatementOutcome)

next_cut : {X : Type 0} (xs : List X) (i : ℕ) (x : X) → i < length xs → x ≡ get_or xs i x → drop i xs ≡ x ∷ drop (i + 1) xs
next_cut xs i x less here = rw add-one (drop-cons xs i x less ∙ ap (λ y. y ∷ drop (suc i) xs) (sym here))

-- the outcomes of two statements, or twice that of one
outcomes_both : (i j : ℕ) (x y : StatementOutcome) → (i ≡ j → x ≡ y) → (answers : Answers) → with_outcome i x (with_outcome j y answers) ≡ with_outcome j y (with_outcome i x answers)
outcomes_both i j x y same [] = refl
outcomes_both zero zero x y same (None ∷ answers) = ap (λ (o : Option StatementOutcome). o ∷ answers) (ap (λ (z : StatementOutcome). Some z) (sym (same refl)))
outcomes_both zero zero x y same (Some z ∷ answers) = refl
outcomes_both zero (suc j) x y same (None ∷ answers) = refl
outcomes_both zero (suc j) x y same (Some z ∷ answers) = refl
outcomes_both (suc i) zero x y same (None ∷ answers) = refl
outcomes_both (suc i) zero x y same (Some z ∷ answers) = refl
outcomes_both (suc i) (suc j) x y same (z ∷ answers) = ap (λ (l : Answers). z ∷ l) (outcomes_both i j x y (λ e. same (ap suc e)) answers)

-- a statement that is open is refused
pub refused_here : (index : ℕ) (old new : List (Option program.StatementOutcome)) (outcome : program.StatementOutcome) (refusal : Refusal)
    → is_open index (answers_view old) ≡ true → new ≡ slice_set old index (Some outcome) → answer_view outcome ≡ was_refused refusal
    → answers_view new ≡ with_outcome index (was_refused refusal) (answers_view old)
refused_here index old new outcome refusal opens put same =
    stored false (record { index = index; answer = outcome }) old new outcome opens put refl
    ∙ ap (λ (x : StatementOutcome). with_outcome index x (answers_view old)) same

-- GIVEN UP

module _ (refusal : Refusal) where
  all_given : (indices : List ℕ) (answers : Answers) → given_up false refusal indices answers ≡ with_outcomes indices (was_refused refusal) answers
  all_given [] answers = refl
  all_given (i ∷ indices) answers = refl

  given_later : (i : ℕ) (indices : List ℕ) (answers : Answers)
      → with_outcomes indices (was_refused refusal) (with_outcome i (was_refused refusal) answers) ≡ with_outcome i (was_refused refusal) (with_outcomes indices (was_refused refusal) answers)
  given_later i [] answers = refl
  given_later i (j ∷ indices) answers =
      ap (λ (l : Answers). with_outcome j (was_refused refusal) l) (given_later i indices answers)
      ∙ outcomes_both j i (was_refused refusal) (was_refused refusal) (λ e. refl) (with_outcomes indices (was_refused refusal) answers)

  module _ (ordered : Bool) (indices : List ℕ) (k d : ℕ) (less : k < length indices) (now new whole : Answers)
      (shared : Refusal) (same : shared ≡ refusal) (put : new ≡ with_outcome (get_or indices k d) (was_refused shared) now) (inv : given_up ordered refusal (drop k indices) now ≡ whole) where
    is : new ≡ with_outcome (get_or indices k d) (was_refused refusal) now
    is = put ∙ ap (λ (r : Refusal). with_outcome (get_or indices k d) (was_refused r) now) same

    cut_given : (o : Bool) → ordered ≡ o → given_up o refusal (get_or indices k d ∷ drop (k + 1) indices) now ≡ whole
    cut_given o by =
        sym (ap (λ (b : Bool). given_up b refusal (drop k indices) now) by ∙ ap (λ (l : List ℕ). given_up o refusal l now) (next_cut indices k (get_or indices k d) less (get_or_default indices k d (get_or indices k d) less))) ∙ inv

    -- of an ordered write it is the last
    pub first_given : ordered ≡ true → new ≡ whole
    first_given by = is ∙ cut_given true by

    pub next_given : ordered ≡ false → given_up ordered refusal (drop (k + 1) indices) new ≡ whole
    next_given by =
        ap (λ (b : Bool). given_up b refusal (drop (k + 1) indices) new) by ∙ all_given (drop (k + 1) indices) new
        ∙ ap (λ (l : Answers). with_outcomes (drop (k + 1) indices) (was_refused refusal) l) is ∙ given_later (get_or indices k d) (drop (k + 1) indices) now
        ∙ cut_given false by

-- WORN OUT

module _ (tries : List (List Try)) where
  -- a statement is refused if it has had all its tries
  abbrev worn : ℕ → Answers → Answers
  worn index answers = worn_out true (index ∷ []) tries answers

  abbrev by_all : ℕ → Bool → Answers → Answers
  by_all index all answers = if all then with_outcome index (was_refused (stale_refusal (tries_at index tries))) answers else answers

  worn_both : (i j : ℕ) (answers : Answers) → worn i (worn j answers) ≡ worn j (worn i answers)
  worn_both i j answers = by_tests (length (tries_at i tries) == most_tries) (length (tries_at j tries) == most_tries)
    where
      by_tests : (b c : Bool) → by_all i b (by_all j c answers) ≡ by_all j c (by_all i b answers)
      by_tests true true =
          outcomes_both i j (was_refused (stale_refusal (tries_at i tries))) (was_refused (stale_refusal (tries_at j tries)))
          (λ e. ap (λ (n : ℕ). was_refused (stale_refusal (tries_at n tries))) e) answers
      by_tests true false = refl
      by_tests false true = refl
      by_tests false false = refl

  worn_later : (i : ℕ) (indices : List ℕ) (answers : Answers) → worn_out false indices tries (worn i answers) ≡ worn i (worn_out false indices tries answers)
  worn_later i [] answers = refl
  worn_later i (j ∷ indices) answers =
      ap (λ (l : Answers). worn j l) (worn_later i indices answers) ∙ worn_both j i (worn_out false indices tries answers)

  module _ (ordered : Bool) (indices : List ℕ) (k d : ℕ) (less : k < length indices) (now new whole : Answers)
      (is : new ≡ worn_out true (get_or indices k d ∷ []) tries now) (inv : worn_out ordered (drop k indices) tries now ≡ whole) where
    cut_worn : (o : Bool) → ordered ≡ o → worn_out o (get_or indices k d ∷ drop (k + 1) indices) tries now ≡ whole
    cut_worn o same =
        sym (ap (λ (b : Bool). worn_out b (drop k indices) tries now) same ∙ ap (λ (l : List ℕ). worn_out o l tries now) (next_cut indices k (get_or indices k d) less (get_or_default indices k d (get_or indices k d) less))) ∙ inv

    -- of an ordered write it is the last
    pub first_worn : ordered ≡ true → new ≡ whole
    first_worn same = is ∙ cut_worn true same

    pub next_worn : ordered ≡ false → worn_out ordered (drop (k + 1) indices) tries new ≡ whole
    next_worn same =
        ap (λ (b : Bool). worn_out b (drop (k + 1) indices) tries new) same
        ∙ ap (λ (l : Answers). worn_out false (drop (k + 1) indices) tries l) is ∙ worn_later (get_or indices k d) (drop (k + 1) indices) now
        ∙ cut_worn false same

  pub worn_here : (index : ℕ) (own : List Try) (refusal : Refusal) (old new : Answers) → own ≡ tries_at index tries → (length own == most_tries) ≡ true
      → refusal ≡ stale_refusal own → new ≡ with_outcome index (was_refused refusal) old → new ≡ worn_out true (index ∷ []) tries old
  worn_here index own refusal old new at all because is =
      is ∙ ap (λ (r : Refusal). with_outcome index (was_refused r) old) (because ∙ ap (λ (l : List Try). stale_refusal l) at)
      ∙ sym (ap (λ (b : Bool). by_all index b old) (ap (λ (l : List Try). length l == most_tries) (sym at) ∙ all))

  pub not_worn : (index : ℕ) (own : List Try) (old : Answers) → own ≡ tries_at index tries → (length own == most_tries) ≡ false
      → old ≡ worn_out true (index ∷ []) tries old
  not_worn index own old at some = sym (ap (λ (b : Bool). by_all index b old) (ap (λ (l : List Try). length l == most_tries) (sym at) ∙ some))

-- THE COURSE

abbrev course_made : Answers → List (List Try) → List Run → Course
course_made answers tries runs = record { answers = answers; tries = tries; runs = runs }

pub stale_is : (ordered : Bool) (c : Course) (run : Run) (met : Version) (answers : Answers) (tries : List (List Try)) (runs : List Run)
    → tries ≡ with_tries (record { sent = run.sent.collection; met = met }) run.indices c.tries → answers ≡ worn_out ordered run.indices tries c.answers
    → runs ≡ without_run (first_index run.indices) c.runs
    → record { answers = answers; tries = tries; runs = runs } ≡ after_stale ordered c run met
stale_is ordered c run met answers tries runs tries_is answers_are runs_are =
    ap (λ (a : Answers). course_made a tries runs) answers_are
    ∙ ap (λ (t : List (List Try)). course_made (worn_out ordered run.indices t c.answers) t runs) tries_is
    ∙ ap (λ (r : List Run). course_made (after_stale ordered c run met).answers (after_stale ordered c run met).tries r) runs_are
