-- From the result of the stages to what is returned.
use Rattle.std.proofs.Common.{◌≡◌, ℕ, List, Result, Ok, Err, length, refl, sym, ap, ◌∙◌, subst}
use Rattle.std.specs.Prelude.{IfOk, Option, Some, None, option_map}
use Rattle.bson_values.specs.Tree.{Fields}
use Rattle.group_accum.specs.Sizes.{capped}
use Rattle.pipeline_model.specs.Groups.{IsGrouped, PartialRow}
use Rattle.pipeline_model.specs.GroupSpecs.{GroupSpec}
use Rattle.pipeline_model.specs.Halves.{EndsIn, Half, IsHalf, Rows, counted_end, counted_rows, in_count, in_partials, partial_rows, partials_end}
use Rattle.pipeline_model.specs.Lengths.{excess_of_answer, excess_of_half}
use Rattle.pipeline_model.specs.Runs.{Runs, listed, overflowed}
use Rattle.pipeline_model.specs.Stages.{Stage}
use Rattle.pipeline_eval.specs.declared.fault.EvalFault.{EvalFault}
use Rattle.pipeline_eval.specs.declared.fault.EvalFault.TheVariants.{Overflow, TooMuch, Memory}
use Rattle.pipeline_eval.specs.Evals.{Answers, HalfAnswers, RunsTo}

-- a fact that follows from what a call that succeeds promises
pub if_ok : {V E : Type 0} (r : Result V E) (P Q : V → Type 0) → ((x : V) → P x → Q x) → IfOk r P → IfOk r Q
if_ok (Ok x) P Q f h = f x h
if_ok (Err e) P Q f h = tt

-- the rows of groups are what a half returns
pub partials_given : (spec own : GroupSpec) (docs : List Fields) (rows shown : List PartialRow) → own ≡ spec → IsGrouped own docs rows → shown ≡ rows →
    EndsIn (partials_end spec) docs (partial_rows shown)
partials_given spec own docs rows shown same grouped is =
    in_partials spec docs shown
    (subst (λ (l : List PartialRow). IsGrouped spec docs l) (sym is) (subst (λ (s : GroupSpec). IsGrouped s docs rows) same grouped))

-- and so is the number of documents
pub count_given : (docs : List Fields) (n : ℕ) (rows : Rows) → n ≡ length docs → rows ≡ counted_rows n → EndsIn counted_end docs rows
count_given docs n rows is are =
    subst (λ (r : Rows). EndsIn counted_end docs r) (sym (are ∙ ap (λ (m : ℕ). counted_rows m) is)) (in_count docs)

-- where no excess is returned there is none
none_told : (found : Option ℕ) → None ≡ option_map capped found → found ≡ None
none_told None e = refl
none_told (Some n) e = absurd (cc e)

module _ (stages own : List Stage) (docs : List Fields) (is : own ≡ stages) where
  pub stopped_too : {X Y : Type 0} (see : X → List Fields) (look : Y → List Fields) (e : EvalFault) → RunsTo see own docs (Err e) →
      Answers look stages docs (Err e)
  stopped_too see look Overflow h = subst (λ (l : List Stage). Runs l docs overflowed) is h
  stopped_too see look (TooMuch n) h = absurd h
  stopped_too see look Memory h = tt

  pub answered : (shown : List Fields) → Runs own docs (listed shown) → None ≡ option_map capped (excess_of_answer shown) →
      Runs stages docs (listed shown) × (excess_of_answer shown ≡ None)
  answered shown run within = (subst (λ (l : List Stage). Runs l docs (listed shown)) is run, none_told (excess_of_answer shown) within)

  pub was_too_much : (shown : List Fields) (n : ℕ) → Runs own docs (listed shown) → Some n ≡ option_map capped (excess_of_answer shown) →
      (documents : List Fields) × Runs stages docs (listed documents) × (option_map capped (excess_of_answer documents) ≡ Some n)
  was_too_much shown n run above = (shown, subst (λ (l : List Stage). Runs l docs (listed shown)) is run, sym above)

module _ (half : Half) (docs : List Fields) (own : List Stage) (is : own ≡ half.stages) where
  there : (P : List Stage → Type 0) → P own → P half.stages
  there P h = subst (λ (l : List Stage). P l) is h

  pub half_stopped : {X Y : Type 0} (see : X → List Fields) (look : Y → Rows) (e : EvalFault) → RunsTo see own docs (Err e) →
      HalfAnswers look half docs (Err e)
  half_stopped see look Overflow h = there (λ l. Runs l docs overflowed) h
  half_stopped see look (TooMuch n) h = absurd h
  half_stopped see look Memory h = tt

  is_half : (left : List Fields) (rows : Rows) → Runs own docs (listed left) → EndsIn half.last left rows → IsHalf half docs rows
  is_half left rows run ends = record { left = left; runs = there (λ l. Runs l docs (listed left)) run; ends = ends }

  pub half_answered : (left : List Fields) (rows : Rows) → Runs own docs (listed left) → EndsIn half.last left rows →
      None ≡ option_map capped (excess_of_half rows) → IsHalf half docs rows × (excess_of_half rows ≡ None)
  half_answered left rows run ends within = (is_half left rows run ends, none_told (excess_of_half rows) within)

  pub half_too_much : (left : List Fields) (rows : Rows) (n : ℕ) → Runs own docs (listed left) → EndsIn half.last left rows →
      Some n ≡ option_map capped (excess_of_half rows) →
      (all : Rows) × IsHalf half docs all × (option_map capped (excess_of_half all) ≡ Some n)
  half_too_much left rows n run ends above = (rows, is_half left rows run ends, sym above)
