-- How many documents a pipeline that was read passes over or keeps is below 2^63.
use Rattle.std.proofs.Common.{◌≡◌, ℕ, List, refl}
use Rattle.std.specs.Prelude.{ℤ, pos, negsuc, Bool, true, false, ◌^◌, Result, Ok, Err, ok_or, nat_lt, if◌then◌else◌}
use Rattle.std.specs.List.{list_all}
use Rattle.bson_model.specs.Tree.{Datum, string_value, document_value, Items}
use Rattle.query_model.specs.Queries.{QueryFault, bad_operand}
use Rattle.query_model.specs.Reading.{◌>>=◌, read_query}
use Rattle.pipeline_model.specs.Operands.{whole_number}
use Rattle.pipeline_model.specs.Projections.{read_projection}
use Rattle.pipeline_model.specs.SortKeys.{read_sort}
use Rattle.pipeline_model.specs.GroupSpecs.{read_group}
use Rattle.pipeline_model.specs.Stages.{Stage, limit_stage, count_stage, has_int64, StageName, match_name, project_name, group_name, sort_name, skip_name, limit_name, count_name as count_stage_name, may_count, as_natural, read_natural, read_stage_of, read_pipeline}
use Rattle.query_model.proofs.DocumentKeys.{IfRead, if_read, then_read}
use Rattle.pipeline_model.proofs.StagesRead.{then_any, read_all}

abbrev IsSmall : ℕ → Type 0
IsSmall n = nat_lt n (2 ^ 63) ≡ true

small_if : (b : Bool) (n : ℕ) → nat_lt n (2 ^ 63) ≡ b → IfRead IsSmall (if b then Ok n else Err bad_operand)
small_if true n e = e
small_if false n e = tt

natural_small : (n : ℤ) → IfRead IsSmall (as_natural n)
natural_small (pos n) = small_if (nat_lt n (2 ^ 63)) n refl
natural_small (negsuc n) = tt

read_small : (d : Datum) → IfRead IsSmall (read_natural d)
read_small d = then_any IsSmall (ok_or (whole_number d) bad_operand) _ natural_small

abbrev HasInt64 : Stage → Type 0
HasInt64 stage = has_int64 stage ≡ true

int64_of : (which : StageName) (d : Datum) → IfRead HasInt64 (read_stage_of which d)
int64_of match_name (document_value ms) = then_any HasInt64 (read_query ms) _ (λ asked. refl)
int64_of project_name (document_value ms) = then_any HasInt64 (read_projection ms) _ (λ rules. refl)
int64_of group_name (document_value ms) = then_any HasInt64 (read_group ms) _ (λ spec. refl)
int64_of sort_name (document_value ms) = then_any HasInt64 (read_sort ms) _ (λ spec. refl)
int64_of skip_name d = then_read IsSmall HasInt64 (read_natural d) _ (read_small d) (λ n h. h)
int64_of limit_name d = then_read IsSmall HasInt64 (read_natural d) _ (read_small d) (λ n h. if_read HasInt64 (nat_lt 0 n) (Ok (limit_stage n)) (Err bad_operand) h tt)
int64_of count_stage_name (string_value s) = if_read HasInt64 (may_count s) (Ok (count_stage s)) (Err bad_operand) refl tt
int64_of which d = tt

pub read_int64 : (array : Items) (stages : List Stage) → read_pipeline array ≡ Ok stages → list_all has_int64 stages ≡ true
read_int64 = read_all has_int64 int64_of
