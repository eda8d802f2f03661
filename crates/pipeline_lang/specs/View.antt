-- Stages as plain data, and how they are read step by step.
use Rattle.std.specs.Prelude.{ℕ, List, Result, Ok, Err, ok_or, nat_lt, if◌then◌else◌}
use Rattle.std.specs.Arc.{arc_value}
use Rattle.bson_model.specs.Tree.{Datum}
use Rattle.query_model.specs.Queries.{QueryFault, bad_operand, named, unknown_operator}
use Rattle.query_model.specs.Reading.{◌>>=◌}
use Rattle.pipeline_model.specs.Stages as model
use Rattle.pipeline_model.specs.Stages.{match_stage, project_stage, group_stage, sort_stage, skip_stage, limit_stage, count_stage, match_name, project_name, group_name, sort_name, skip_name, limit_name, count_name, read_stage_of, stage_names}
use Rattle.pipeline_lang.specs.declared.parser.StageName.{StageName}
use Rattle.pipeline_lang.specs.declared.parser.StageName.TheVariants as names
use Rattle.pipeline_lang.specs.declared.stage.Stage.{Stage}
use Rattle.pipeline_lang.specs.declared.stage.Stage.TheVariants as stages

abbrev pub stage_of : Stage → model.Stage
stage_of (stages.Match asked) = match_stage (arc_value asked)
stage_of (stages.Project rules) = project_stage (arc_value rules)
stage_of (stages.Group spec) = group_stage (arc_value spec)
stage_of (stages.Sort spec) = sort_stage (arc_value spec)
stage_of (stages.Skip n) = skip_stage n
stage_of (stages.Limit n) = limit_stage n
stage_of (stages.Count name) = count_stage name

abbrev pub name_of : StageName → model.StageName
name_of names.Match = match_name
name_of names.Project = project_name
name_of names.Group = group_name
name_of names.Sort = sort_name
name_of names.Skip = skip_name
name_of names.Limit = limit_name
name_of names.Count = count_name

-- the stage of that name with an operand
abbrev pub read_named : List ℕ → Datum → Result model.Stage QueryFault
read_named name d = ok_or (named stage_names name) unknown_operator >>= λ which. read_stage_of which d

abbrev pub at_least_one : ℕ → Result model.Stage QueryFault
at_least_one n = if nat_lt 0 n then Ok (limit_stage n) else Err bad_operand
