-- Stages, one after the other.
use Rattle.std.proofs.Common.{Global, Vec, ◌≡◌, ℕ, List, [], ◌∷◌, map, take, drop, Result, Ok, Err, refl, sym, ap, ◌∙◌, subst, arith}
use Rattle.std.specs.Arc.{arc_value}
use Rattle.std.specs.declared.sync.Arc.{Arc}
use Rattle.std.specs.Prelude.{IsPermutation, IsSortedBy, Option, Some, None, filter, length, unwrap_or}
use Rattle.std.proofs.lemmas.List.{drop-map, take-map, take-take}
use Rattle.bson_values.specs.Tree.{Fields}
use Rattle.query_model.specs.Holds.{holds}
use Rattle.query_model.specs.Queries.{Query}
use Rattle.pipeline_lang.specs.declared.stage.Stage as lang
use Rattle.pipeline_lang.specs.declared.stage.Stage.TheVariants as stages
use Rattle.pipeline_lang.specs.View.{stage_of}
use Rattle.pipeline_model.specs.Groups.{IsGrouped, PartialRow, documents_of}
use Rattle.pipeline_model.specs.GroupSpecs.{GroupSpec}
use Rattle.pipeline_model.specs.Projections.{Projection, project}
use Rattle.pipeline_model.specs.SortKeys.{SortSpec, comes_before}
use Rattle.pipeline_model.specs.Runs.{Outcome, listed, overflowed, Runs, no_stage_run, match_run, project_run, sort_run, skip_run, limit_run, count_run, group_run, overflow_run, count_documents}
use Rattle.pipeline_model.proofs.Fronts.{opened}
use Rattle.pipeline_model.proofs.TopRows.{AreFirst}
use Rattle.pipeline_model.specs.Stages.{Stage, match_stage, project_stage, group_stage, sort_stage, skip_stage, limit_stage, count_stage}
use Rattle.pipeline_eval.specs.declared.fault.EvalFault.{EvalFault}
use Rattle.pipeline_eval.specs.declared.fault.EvalFault.TheVariants.{Overflow, TooMuch, Memory}
use Rattle.pipeline_eval.specs.Evals.{Does, DoesBefore, RunsTo, limit_in_front}

-- the documents that a function returns
abbrev pub documents_in : Vec (Arc Fields Global) Global → List Fields
documents_in ds = map arc_value ds.items

-- The later stages run on the documents that were the result.
abbrev pub GoesOn : Stage → List Fields → List Fields → Type 0
GoesOn stage docs left = (rest : List Stage) (out : Outcome) → Runs rest left out → Runs (stage ∷ rest) docs out

pub matched : (asked : Query) (docs left : List Fields) → left ≡ filter (holds asked) docs → GoesOn (match_stage asked) docs left
matched asked docs left e rest out run = match_run asked rest docs out (subst (λ (l : List Fields). Runs rest l out) e run)

pub was_projected : (rules : Projection) (docs left : List Fields) → left ≡ map (project rules) docs → GoesOn (project_stage rules) docs left
was_projected rules docs left e rest out run = project_run rules rest docs out (subst (λ (l : List Fields). Runs rest l out) e run)

pub was_sorted : (spec : SortSpec) (docs left : List Fields) → IsPermutation docs left → IsSortedBy (comes_before spec) left →
    GoesOn (sort_stage spec) docs left
was_sorted spec docs left p s rest out run = sort_run spec rest docs left out p s run

pub was_counted : (name : List ℕ) (n : ℕ) (docs left : List Fields) → left ≡ count_documents name n → n ≡ length docs → GoesOn (count_stage name) docs left
was_counted name n docs left e is rest out run =
    count_run name rest docs out (subst (λ (m : ℕ). Runs rest (count_documents name m) out) is (subst (λ (l : List Fields). Runs rest l out) e run))

pub was_skipped : {A : Type 0} (see : A → Fields) (n : ℕ) (xs left : List A) → left ≡ drop n xs → GoesOn (skip_stage n) (map see xs) (map see left)
was_skipped {A = A} see n xs left e rest out run =
    skip_run n rest (map see xs) out (subst (λ (l : List Fields). Runs rest l out) (sym (drop-map see n xs))
    (subst (λ (l : List A). Runs rest (map see l) out) e run))

pub was_limited : {A : Type 0} (see : A → Fields) (n : ℕ) (xs left : List A) → left ≡ take n xs → GoesOn (limit_stage n) (map see xs) (map see left)
was_limited {A = A} see n xs left e rest out run =
    limit_run n rest (map see xs) out (subst (λ (l : List Fields). Runs rest l out) (sym (take-map see n xs))
    (subst (λ (l : List A). Runs rest (map see l) out) e run))

module _ (spec own : GroupSpec) (docs : List Fields) (rows : List PartialRow) (same : own ≡ spec) (grouped : IsGrouped own docs rows) where
  there : IsGrouped spec docs rows
  there = subst (λ (s : GroupSpec). IsGrouped s docs rows) same grouped

  pub was_grouped : (by : GroupSpec) (left : List Fields) → by ≡ own → documents_of by rows ≡ Some left → GoesOn (group_stage spec) docs left
  was_grouped by left is e rest out run =
      group_run spec rest docs rows left out there (subst (λ (s : GroupSpec). documents_of s rows ≡ Some left) (is ∙ same) e) run

  pub group_overflows : (by : GroupSpec) → by ≡ own → documents_of by rows ≡ None → (rest : List Stage) → Runs (group_stage spec ∷ rest) docs overflowed
  group_overflows by is e rest = overflow_run spec rest docs rows there (subst (λ (s : GroupSpec). documents_of s rows ≡ None) (is ∙ same) e)

-- what holds before any stage holds before a limit
pub before_any : {X : Type 0} (limit : Option ℕ) (see : X → List Fields) (stage : Stage) (docs : List Fields) (result : Result X EvalFault) →
    Does see stage docs result → DoesBefore limit see stage docs result
before_any limit see stage docs (Ok x) h = λ rest out begins run. h rest out run
before_any limit see stage docs (Err Overflow) h = h
before_any limit see stage docs (Err (TooMuch n)) h = h
before_any limit see stage docs (Err Memory) h = h

-- the effect of a stage on documents, seen as another stage and list that are equal
pub does_as : {X : Type 0} (limit : Option ℕ) (see : X → List Fields) (stage own : Stage) (docs seen : List Fields) (result : Result X EvalFault) →
    own ≡ stage → seen ≡ docs → DoesBefore limit see own seen result → DoesBefore limit see stage docs result
does_as limit see stage own docs seen result same are h =
    subst (λ (s : Stage). DoesBefore limit see s docs result) same (subst (λ (ds : List Fields). DoesBefore limit see own ds result) are h)

-- a stage other than a limit
pub no_limit : (stage : lang.Stage) (rest : List Stage) → ((n : ℕ) → stage ≡ stages.Limit n → ⊥) → limit_in_front (stage_of stage ∷ rest) ≡ None
no_limit (stages.Match asked) rest other = refl
no_limit (stages.Project rules) rest other = refl
no_limit (stages.Group spec) rest other = refl
no_limit (stages.Sort spec) rest other = refl
no_limit (stages.Skip n) rest other = refl
no_limit (stages.Limit n) rest other = absurd (other n refl)
no_limit (stages.Count name) rest other = refl

same_number : (m n : ℕ) → (let a : Option ℕ = Some m in a) ≡ Some n → m ≡ n
same_number m n e = ap (λ (o : Option ℕ). unwrap_or o m) e

-- before a limit the first documents in order suffice
pub first_was_sorted : (spec : SortSpec) (n : ℕ) (docs left : List Fields) → AreFirst (comes_before spec) n docs left →
    (rest : List Stage) (out : Outcome) → limit_in_front rest ≡ Some n → Runs rest left out → Runs (sort_stage spec ∷ rest) docs out
first_was_sorted spec n docs left first [] out begins run = absurd (cc begins)
first_was_sorted spec n docs left first (match_stage asked ∷ rest) out begins run = absurd (cc begins)
first_was_sorted spec n docs left first (project_stage rules ∷ rest) out begins run = absurd (cc begins)
first_was_sorted spec n docs left first (group_stage by ∷ rest) out begins run = absurd (cc begins)
first_was_sorted spec n docs left first (sort_stage by ∷ rest) out begins run = absurd (cc begins)
first_was_sorted spec n docs left first (skip_stage m ∷ rest) out begins run = absurd (cc begins)
first_was_sorted spec n docs left first (count_stage name ∷ rest) out begins run = absurd (cc begins)
first_was_sorted spec n docs left first (limit_stage m ∷ rest) out begins run =
    let same : take m left ≡ take m first.whole = ap (λ (l : List Fields). take m l) first.first
    ∙ take-take m n first.whole (omega (arith, same_number m n begins)) in
    sort_run spec (limit_stage m ∷ rest) docs first.whole out first.permutes first.sorted
    (limit_run m rest first.whole out (subst (λ (l : List Fields). Runs rest l out) same (opened run)))

-- the next stage
pub next_stage : (stages now : List Stage) (stage : Stage) (limit : Option ℕ) (left after : List Fields) (out : Outcome) (whole : Type 0) →
    stages ≡ stage ∷ now → limit ≡ limit_in_front now →
    ((rest : List Stage) (end : Outcome) → limit_in_front rest ≡ limit → Runs rest after end → Runs (stage ∷ rest) left end) →
    (Runs stages left out → whole) → Runs now after out → whole
next_stage stages now stage limit left after out whole is begins goes so_far run =
    so_far (subst (λ (l : List Stage). Runs l left out) (sym is) (goes now out (sym begins) run))

pub stopped : {X Y : Type 0} (limit : Option ℕ) (see : X → List Fields) (look : Y → List Fields) (e : EvalFault) (stages now : List Stage) (stage : Stage)
    (left : List Fields) (whole : List Stage) (docs : List Fields) → stages ≡ stage ∷ now → ((out : Outcome) → Runs stages left out → Runs whole docs out) →
    DoesBefore limit see stage left (Err e) → RunsTo look whole docs (Err e)
stopped limit see look Overflow stages now stage left whole docs is so_far h =
    so_far overflowed (subst (λ (l : List Stage). Runs l left overflowed) (sym is) (h now))
stopped limit see look (TooMuch n) stages now stage left whole docs is so_far h = absurd h
stopped limit see look Memory stages now stage left whole docs is so_far h = tt

pub all_ran : (stages : List Stage) (left : List Fields) (whole : List Stage) (docs : List Fields) → stages ≡ [] →
    ((out : Outcome) → Runs stages left out → Runs whole docs out) → Runs whole docs (listed left)
all_ran stages left whole docs none so_far = so_far (listed left) (subst (λ (l : List Stage). Runs l left (listed left)) (sym none) (no_stage_run left))
