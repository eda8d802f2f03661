-- `count` (MongoDB manual, "count"; the order of refusals is own): the number of documents that match the query, after those that are skipped, and at most a
-- limit.
use Rattle.std.specs.Prelude.{ℕ, List, [], ◌∷◌, ◌++◌, Some, None, codes}
use Rattle.bson_model.specs.Tree.{timestamp_value, Fields, field, get}
use Rattle.base_model.specs.Errors.{failed_to_parse}
use Rattle.base_model.specs.Names.{full_name}
use Rattle.query_model.specs.Reading.{read_query}
use Rattle.pipeline_model.specs.Stages.{Stage, match_stage, skip_stage, limit_stage, count_stage}
use Rattle.command_model.specs.AnswerParts.{count, ok, operation_time_at}
use Rattle.command_model.specs.Fields.{Rule, common_rules, document_needed}
use Rattle.command_model.specs.Forms.{CommandForm, check_collection, nothing_judged, string_or}
use Rattle.command_model.specs.Reading.{Reading, natural_needed, unless_faulty, check_concern, time_given}
use Rattle.command_model.specs.Find.{stage_given, stage_counted}

abbrev pub count_rules : List Rule
count_rules =
    record { name = codes "query"; check = document_needed (λ ms. unless_faulty (read_query ms)) }
    ∷ record { name = codes "skip"; check = natural_needed }
    ∷ record { name = codes "limit"; check = natural_needed }
    ∷ record { name = codes "readConcern"; check = document_needed check_concern }
    ∷ common_rules

abbrev pub count_stages : Fields → List Stage
count_stages ms =
    stage_given read_query match_stage (codes "query") ms
    ++ (stage_counted skip_stage (codes "skip") ms
    ++ (stage_counted limit_stage (codes "limit") ms
    ++ count_stage (codes "n") ∷ []))

abbrev pub count_form : CommandForm Reading
count_form = record {
  check_own = check_collection;
  rules = λ database. count_rules;
  unlisted = Some failed_to_parse;
  sequence = None;
  check_needed = nothing_judged;
  check_last = nothing_judged;
  command = λ database own document sequences. record {
    namespace = full_name database (string_or [] (Some own));
    stages = count_stages document;
    at = time_given (codes "atClusterTime") (get (codes "readConcern") document);
    after = time_given (codes "afterClusterTime") (get (codes "readConcern") document);
  };
}

-- the number, and the time of the read
abbrev pub count_document : ℕ → ℕ → Fields
count_document n time = field (codes "n") (count n) (field (codes "atClusterTime") (timestamp_value time) (ok (operation_time_at time)))
