-- The constants of a pipeline that was read have no nested values.
use Rattle.std.proofs.Common.{◌≡◌, ℕ, List, [], ◌∷◌, refl}
use Rattle.std.specs.Prelude.{Bool, true, false, ◌&&◌, Option, Some, None, Result, Ok, Err, ok_or, nat_lt, length}
use Rattle.std.specs.List.{list_all}
use Rattle.std.specs.Str.{bytes_eq}
use Rattle.bson_model.specs.Tree.{Datum, string_value, document_value, array_value, Items, Fields, no_fields, field}
use Rattle.query_model.specs.Paths.{elements, is_scalar}
use Rattle.query_model.specs.Queries.{QueryFault, unknown_operator, bad_operand, named}
use Rattle.query_model.specs.Reading.{◌>>=◌, read_query}
use Rattle.pipeline_model.specs.Operands.{Operand, path_operand, constant_operand, is_plain, named_path, read_name, read_operand}
use Rattle.pipeline_model.specs.Projections.{read_projection}
use Rattle.pipeline_model.specs.SortKeys.{read_sort}
use Rattle.pipeline_model.specs.GroupSpecs.{Accumulator, GroupField, GroupSpec, is_plain_field, is_plain_group, AccumulatorName, sum_name, min_name, max_name, count_name, accumulators, accumulate, read_accumulator, GroupParts, read_group_field, read_group_fields, with_one_key, read_group}
use Rattle.pipeline_model.specs.Stages.{Stage, limit_stage, count_stage, is_plain_stage, StageName, match_name, project_name, group_name, sort_name, skip_name, limit_name, count_name as count_stage_name, stage_names, may_count, read_natural, read_stage_of, read_stage, read_stages, read_pipeline}
use Rattle.query_model.proofs.DocumentKeys.{IfRead, if_read, then_read}
use Rattle.pipeline_model.proofs.StagesRead.{then_any, read_all}

abbrev IsPlain : Operand → Type 0
IsPlain x = is_plain x ≡ true

plain_string : (s : List ℕ) (o : Option (List ℕ)) →
    IfRead IsPlain (elim o as (λ p. Result Operand QueryFault)
    [ None ↦ Ok (constant_operand (string_value s)) | Some name ↦ read_name name >>= λ path. Ok (path_operand path) ])
plain_string s None = refl
plain_string s (Some name) = then_any IsPlain (read_name name) (λ path. Ok (path_operand path)) (λ path. refl)

plain_operand : (d : Datum) → IfRead IsPlain (read_operand d)
plain_operand (string_value s) = plain_string s (named_path s)
plain_operand (document_value ms) = tt
plain_operand (array_value ds) = tt
plain_operand d = refl

abbrev IsPlainAccumulator : Accumulator → Type 0
IsPlainAccumulator by = (name : List ℕ) → is_plain_field (record { name = name; accumulator = by }) ≡ true

plain_accumulate : (which : AccumulatorName) (d : Datum) → IfRead IsPlainAccumulator (accumulate which d)
plain_accumulate sum_name d = then_read IsPlain IsPlainAccumulator (read_operand d) _ (plain_operand d) (λ x h name. h)
plain_accumulate min_name d = then_read IsPlain IsPlainAccumulator (read_operand d) _ (plain_operand d) (λ x h name. h)
plain_accumulate max_name d = then_read IsPlain IsPlainAccumulator (read_operand d) _ (plain_operand d) (λ x h name. h)
plain_accumulate count_name (document_value no_fields) = λ name. refl
plain_accumulate count_name d = tt

plain_accumulator : (d : Datum) → IfRead IsPlainAccumulator (read_accumulator d)
plain_accumulator (document_value (field name d no_fields)) =
    then_any IsPlainAccumulator (ok_or (named accumulators name) unknown_operator) _ (λ which. plain_accumulate which d)
plain_accumulator d = tt

pub record ArePlain (parts : GroupParts) : Type 0 where
  pub keys : list_all is_plain parts.keys ≡ true
  pub fields : list_all is_plain_field parts.fields ≡ true

abbrev KeepsPlain : (GroupParts → GroupParts) → Type 0
KeepsPlain add = (parts : GroupParts) → ArePlain parts → ArePlain (add parts)

plain_group_field : (name : List ℕ) (d : Datum) → IfRead KeepsPlain (read_group_field name d)
plain_group_field name d =
    if_read KeepsPlain (bytes_eq name _) _ _
    (then_read IsPlain KeepsPlain (read_operand d) _ (plain_operand d) (λ x h parts k. record { keys = λ i. h i && k.keys i; fields = k.fields }))
    (then_read IsPlainAccumulator KeepsPlain (read_accumulator d) _ (plain_accumulator d)
    (λ by h parts k. record { keys = k.keys; fields = λ i. h name i && k.fields i }))

plain_group_fields : (ms : Fields) → IfRead ArePlain (read_group_fields ms)
plain_group_fields no_fields = record { keys = refl; fields = refl }
plain_group_fields (field name d ms) =
    then_read KeepsPlain ArePlain (read_group_field name d) _ (plain_group_field name d)
    (λ add keeps. then_read ArePlain ArePlain (read_group_fields ms) _ (plain_group_fields ms) (λ others h. keeps others h))

abbrev IsPlainGroup : GroupSpec → Type 0
IsPlainGroup spec = is_plain_group spec ≡ true

only : (b : Bool) → (b && true) ≡ true → b ≡ true
only true e = refl
only false e = e

first_plain : (x : Operand) → (is_plain x && true) ≡ true → is_plain x ≡ true
first_plain (path_operand path) e = refl
first_plain (constant_operand d) e = only (is_scalar d) e

one_plain_key : (keys : List Operand) (fields : List GroupField) → list_all is_plain keys ≡ true → list_all is_plain_field fields ≡ true →
    IfRead IsPlainGroup (with_one_key (record { keys = keys; fields = fields }))
one_plain_key [] fields h k = tt
one_plain_key (x ∷ []) fields h k = λ i. first_plain x h i && k i
one_plain_key (x ∷ y ∷ keys) fields h k = tt

plain_group : (ms : Fields) → IfRead IsPlainGroup (read_group ms)
plain_group ms = then_read ArePlain IsPlainGroup (read_group_fields ms) with_one_key (plain_group_fields ms)
    (λ parts h. one_plain_key parts.keys parts.fields h.keys h.fields)

abbrev IsPlainStage : Stage → Type 0
IsPlainStage stage = is_plain_stage stage ≡ true

plain_stage_of : (which : StageName) (d : Datum) → IfRead IsPlainStage (read_stage_of which d)
plain_stage_of match_name (document_value ms) = then_any IsPlainStage (read_query ms) _ (λ asked. refl)
plain_stage_of project_name (document_value ms) = then_any IsPlainStage (read_projection ms) _ (λ rules. refl)
plain_stage_of group_name (document_value ms) = then_read IsPlainGroup IsPlainStage (read_group ms) _ (plain_group ms) (λ spec h. h)
plain_stage_of sort_name (document_value ms) = then_any IsPlainStage (read_sort ms) _ (λ spec. refl)
plain_stage_of skip_name d = then_any IsPlainStage (read_natural d) _ (λ n. refl)
plain_stage_of limit_name d = then_any IsPlainStage (read_natural d) _ (λ n. if_read IsPlainStage (nat_lt 0 n) (Ok (limit_stage n)) (Err bad_operand) refl tt)
plain_stage_of count_stage_name (string_value s) = if_read IsPlainStage (may_count s) (Ok (count_stage s)) (Err bad_operand) refl tt
plain_stage_of which d = tt

pub read_plain : (array : Items) (stages : List Stage) → read_pipeline array ≡ Ok stages → list_all is_plain_stage stages ≡ true
read_plain = read_all is_plain_stage plain_stage_of
