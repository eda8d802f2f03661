-- The numbers of documents that a command skips or keeps are less than 2^63.
use Rattle.std.proofs.Common.{◌≡◌, ℕ, List, [], ◌∷◌, ◌++◌, refl, ◌∙◌, Bool, true, false, Option, Some, None, Ok, Err, if◌then◌else◌, codes}
use Rattle.std.specs.Prelude.{Result, nat_lt}
use Rattle.std.specs.List.{list_all}
use Rattle.std.proofs.lemmas.List.Folds.{list_all-append}
use Rattle.bson_model.specs.Tree.{Datum, array_value, document_value, Items, no_items, item, Fields, no_fields, field, get}
use Rattle.query_model.specs.Queries.{QueryFault}
use Rattle.query_model.specs.Reading.{read_query}
use Rattle.pipeline_model.specs.Projections.{Projection}
use Rattle.pipeline_model.specs.SortKeys.{read_sort}
use Rattle.pipeline_model.specs.Stages.{Stage, match_stage, sort_stage, skip_stage, limit_stage, project_stage, count_stage, has_int64, read_natural, read_pipeline}
use Rattle.pipeline_model.proofs.SmallNumbers.{read_int64}
use Rattle.command_model.specs.Reading.{unless_zero}
use Rattle.command_model.specs.Find.{find_stages, read_shown, shown_stages, stage_counted, stage_given}
use Rattle.command_model.specs.Aggregate.{stages_asked}
use Rattle.command_model.specs.Count.{count_stages}

abbrev pub HaveInt64 : List Stage → Type 0
HaveInt64 stages = list_all has_int64 stages ≡ true

both_have : (xs ys : List Stage) → HaveInt64 xs → HaveInt64 ys → HaveInt64 (xs ++ ys)
both_have xs ys first others = list_all-append has_int64 xs ys ∙ (rw (first, others) refl)

-- a number that is read is less than 2^63, as `$skip` requires
skip_read : (value : Datum) (n : ℕ) → read_natural value ≡ Ok n → HaveInt64 (skip_stage n ∷ [])
skip_read value n is = read_int64 (item (document_value (field (codes "$skip") value no_fields)) no_items) (skip_stage n ∷ []) (rw is refl)

module _ (stage : ℕ → Stage) (alike : (n : ℕ) → HaveInt64 (skip_stage n ∷ []) → HaveInt64 (stage n ∷ [])) where
  counted_unless_zero : (b : Bool) (n : ℕ) → HaveInt64 (skip_stage n ∷ []) → HaveInt64 (elim (if b then Some n else None) [ None ↦ [] | Some m ↦ stage m ∷ [] ])
  counted_unless_zero true n int64 = alike n int64
  counted_unless_zero false n int64 = refl

  counted_read : (value : Datum) (read : Result ℕ QueryFault) → read_natural value ≡ read →
      HaveInt64 (elim (unless_zero (elim read [ Ok n ↦ Some n | Err fault ↦ None ])) [ None ↦ [] | Some m ↦ stage m ∷ [] ])
  counted_read value (Ok n) is = counted_unless_zero (nat_lt 0 n) n (skip_read value n is)
  counted_read value (Err fault) is = refl

  counted : (o : Option Datum) →
      HaveInt64 (elim (unless_zero (elim o [ None ↦ None | Some value ↦ elim (read_natural value) [ Ok n ↦ Some n | Err fault ↦ None ] ])) [ None ↦ [] | Some m ↦ stage m ∷ [] ])
  counted None = refl
  counted (Some value) = counted_read value (read_natural value) refl

skip_int64 : (ms : Fields) → HaveInt64 (stage_counted skip_stage (codes "skip") ms)
skip_int64 ms = counted skip_stage (λ n int64. int64) (get (codes "skip") ms)

limit_int64 : (ms : Fields) → HaveInt64 (stage_counted limit_stage (codes "limit") ms)
limit_int64 ms = counted limit_stage (λ n int64. int64) (get (codes "limit") ms)

-- a stage read from a document skips nothing
module _ {A : Type 0} (read : Fields → Result A QueryFault) (stage : A → Stage) (none : (x : A) → has_int64 (stage x) ≡ true) where
  words_read : (r : Result A QueryFault) → HaveInt64 (elim r [ Ok x ↦ stage x ∷ [] | Err fault ↦ [] ])
  words_read (Ok x) = rw (none x) refl
  words_read (Err fault) = refl

  words_given : (o : Option Datum) → HaveInt64 (elim o [ Some (document_value words) ↦ elim (read words) [ Ok x ↦ stage x ∷ [] | Err fault ↦ [] ] | other ↦ [] ])
  words_given (Some (document_value words)) = words_read (read words)
  words_given (Some value) = refl
  words_given None = refl

  given : (name : List ℕ) (ms : Fields) → HaveInt64 (stage_given read stage name ms)
  given name ms = words_given (get name ms)

shown_read : (r : Result (Option Projection) QueryFault) → HaveInt64 (elim r [ Ok shown ↦ elim shown [ None ↦ [] | Some rules ↦ project_stage rules ∷ [] ] | Err fault ↦ [] ])
shown_read (Ok None) = refl
shown_read (Ok (Some rules)) = refl
shown_read (Err fault) = refl

shown_int64 : (o : Option Datum) → HaveInt64 (shown_stages o)
shown_int64 (Some (document_value words)) = shown_read (read_shown words)
shown_int64 (Some value) = refl
shown_int64 None = refl

from_skip : (ms : Fields) (last : List Stage) → HaveInt64 last → HaveInt64 (stage_counted skip_stage (codes "skip") ms ++ (stage_counted limit_stage (codes "limit") ms ++ last))
from_skip ms last int64 =
    let skipped : List Stage = stage_counted skip_stage (codes "skip") ms in
    let limited : List Stage = stage_counted limit_stage (codes "limit") ms in
    both_have skipped (limited ++ last) (skip_int64 ms) (both_have limited last (limit_int64 ms) int64)

pub numbers_of_find : (ms : Fields) → HaveInt64 (find_stages ms)
numbers_of_find ms =
    let matched : List Stage = stage_given read_query match_stage (codes "filter") ms in
    let sorted : List Stage = stage_given read_sort sort_stage (codes "sort") ms in
    let last : List Stage = shown_stages (get (codes "projection") ms) in
    let others : List Stage = stage_counted skip_stage (codes "skip") ms ++ (stage_counted limit_stage (codes "limit") ms ++ last) in
    both_have matched (sorted ++ others) (given read_query match_stage (λ x. refl) (codes "filter") ms)
    (both_have sorted others (given read_sort sort_stage (λ x. refl) (codes "sort") ms) (from_skip ms last (shown_int64 (get (codes "projection") ms))))

pub numbers_of_count : (ms : Fields) → HaveInt64 (count_stages ms)
numbers_of_count ms =
    let matched : List Stage = stage_given read_query match_stage (codes "query") ms in
    let last : List Stage = count_stage (codes "n") ∷ [] in
    let others : List Stage = stage_counted skip_stage (codes "skip") ms ++ (stage_counted limit_stage (codes "limit") ms ++ last) in
    both_have matched others (given read_query match_stage (λ x. refl) (codes "query") ms) (from_skip ms last refl)

pipeline_read : (array : Items) (r : Result (List Stage) QueryFault) → read_pipeline array ≡ r → HaveInt64 (elim r [ Ok read ↦ read | Err fault ↦ [] ])
pipeline_read array (Ok stages) is = read_int64 array stages is
pipeline_read array (Err fault) is = refl

pub numbers_of_pipeline : (o : Option Datum) → HaveInt64 (stages_asked o)
numbers_of_pipeline (Some (array_value array)) = pipeline_read array (read_pipeline array) refl
numbers_of_pipeline (Some value) = refl
numbers_of_pipeline None = refl
