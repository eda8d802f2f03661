-- `aggregate` (MongoDB manual, "aggregate"; the order of refusals is own): the stages of a pipeline, and how large the first batch is.
use Rattle.std.specs.Prelude.{List, [], ◌∷◌, false, Option, Some, None, Ok, Err, codes}
use Rattle.bson_model.specs.Tree.{Datum, array_value, get}
use Rattle.base_model.specs.Errors.{failed_to_parse, type_mismatch}
use Rattle.base_model.specs.Names.{full_name}
use Rattle.pipeline_model.specs.Stages.{Stage, read_pipeline}
use Rattle.command_model.specs.Checks.{Verdict, first_of}
use Rattle.command_model.specs.Fields.{Rule, boolean_needed, check_inner_fields, check_required, common_rules, document_needed}
use Rattle.command_model.specs.Forms.{CommandForm, check_collection, nothing_judged, string_or}
use Rattle.command_model.specs.Statements.{document_or_none}
use Rattle.command_model.specs.Reading.{natural_needed, number_given, unless_faulty, check_concern, time_given}
use Rattle.command_model.specs.Find.{Find}

abbrev pub pipeline_needed : Datum → Verdict
pipeline_needed (array_value stages) = unless_faulty (read_pipeline stages)
pipeline_needed value = Some type_mismatch

abbrev pub stages_asked : Option Datum → List Stage
stages_asked (Some (array_value stages)) = elim (read_pipeline stages) [ Ok read ↦ read | Err fault ↦ [] ]
stages_asked value = []

abbrev pub cursor_rules : List Rule
cursor_rules = record { name = codes "batchSize"; check = natural_needed } ∷ []

abbrev pub aggregate_rules : List Rule
aggregate_rules =
    record { name = codes "pipeline"; check = pipeline_needed }
    ∷ record { name = codes "cursor"; check = document_needed (check_inner_fields cursor_rules) }
    ∷ record { name = codes "readConcern"; check = document_needed check_concern }
    ∷ record { name = codes "allowDiskUse"; check = boolean_needed }
    ∷ common_rules

abbrev pub aggregate_form : CommandForm Find
aggregate_form = record {
  check_own = check_collection;
  rules = λ database. aggregate_rules;
  unlisted = Some failed_to_parse;
  sequence = None;
  check_needed = λ document sequences. first_of (check_required (codes "pipeline") document ∷ check_required (codes "cursor") document ∷ []);
  check_last = nothing_judged;
  command = λ database own document sequences. record {
    reading = record {
      namespace = full_name database (string_or [] (Some own));
      stages = stages_asked (get (codes "pipeline") document);
      at = time_given (codes "atClusterTime") (get (codes "readConcern") document);
      after = time_given (codes "afterClusterTime") (get (codes "readConcern") document);
    };
    batches = record { size = number_given (codes "batchSize") (document_or_none (get (codes "cursor") document)); single = false };
  };
}
