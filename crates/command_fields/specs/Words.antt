-- The operands of a pipeline in a command's fields.
use Rattle.std.specs.Prelude.{List, [], ◌∷◌, Option, Some, None, Result, Ok, Err}
use Rattle.bson_model.specs.Tree.{Datum, document_value, array_value, Fields}
use Rattle.cluster_base.specs.Codes.{meaning_of}
use Rattle.cluster_base.specs.declared.code.Code.{Code}
use Rattle.command_model.specs.Checks.{Verdict}
use Rattle.base_model.specs.Errors.{ErrorCode, bad_value, type_mismatch}
use Rattle.command_model.specs.Find.{read_shown}
use Rattle.pipeline_lang.specs.View.{stage_of}
use Rattle.pipeline_lang.specs.declared.stage.Stage as program
use Rattle.pipeline_lang.specs.declared.stage.Pipeline.{Pipeline}
use Rattle.pipeline_model.specs.Stages.{Stage, match_stage, sort_stage, project_stage, read_pipeline}
use Rattle.pipeline_model.specs.SortKeys.{read_sort}
use Rattle.query_model.specs.Queries.{QueryFault}
use Rattle.query_model.specs.Reading.{◌>>=◌, read_query}
use Rattle.command_fields.specs.declared.words.WordKind.{WordKind}
use Rattle.command_fields.specs.declared.words.WordKind.TheVariants.{Filter, Sort, Projection}

-- the document that a field is
abbrev pub words_given : Option Datum → Option Fields
words_given (Some (document_value ms)) = Some ms
words_given value = None

-- what an operand of this kind reads as: a stage, or none
abbrev pub read_words : WordKind → Fields → Result (List Stage) QueryFault
read_words Filter ms = read_query ms >>= λ asked. Ok (match_stage asked ∷ [])
read_words Sort ms = read_sort ms >>= λ spec. Ok (sort_stage spec ∷ [])
read_words Projection ms = read_shown ms >>= λ shown. Ok (elim shown [ None ↦ [] | Some rules ↦ project_stage rules ∷ [] ])

abbrev pub stage_list : Option program.Stage → List Stage
stage_list None = []
stage_list (Some stage) = stage_of stage ∷ []

-- what is read, or the error that its field returns
abbrev pub or_bad_value : Result (List Stage) QueryFault → Result (List Stage) ErrorCode
or_bad_value (Ok stages) = Ok stages
or_bad_value (Err fault) = Err bad_value

abbrev pub word_read : WordKind → Option Datum → Result (List Stage) ErrorCode
word_read kind value = elim (words_given value) [ None ↦ Ok [] | Some ms ↦ or_bad_value (read_words kind ms) ]

abbrev pub word_view : Result (Option program.Stage) Code → Result (List Stage) ErrorCode
word_view (Ok stage) = Ok (stage_list stage)
word_view (Err code) = Err (meaning_of code)

abbrev pub pipeline_read : Option Datum → Result (List Stage) ErrorCode
pipeline_read (Some (array_value stages)) = or_bad_value (read_pipeline stages)
pipeline_read value = Ok []

abbrev pub pipeline_view : Result Pipeline Code → Result (List Stage) ErrorCode
pipeline_view (Ok pipeline) = Ok pipeline
pipeline_view (Err code) = Err (meaning_of code)

-- the error of what can't be read
abbrev pub told : {X : Type 0} → Result X ErrorCode → Verdict
told (Ok x) = None
told (Err error) = Some error

abbrev pub or_no_stages : Result (List Stage) ErrorCode → List Stage
or_no_stages (Ok stages) = stages
or_no_stages (Err error) = []

-- the check of an array, given its result
abbrev pub array_needed : Verdict → Datum → Verdict
array_needed verdict (array_value stages) = verdict
array_needed verdict value = Some type_mismatch
