-- `find` (MongoDB manual, "find"; the order of refusals is own): the stages are a filter, a sort, a skip, a limit, and a projection, each where it is given.
use Rattle.std.specs.Prelude.{ℕ, List, [], ◌∷◌, ◌++◌, false, Option, Some, None, Result, Ok, Err, codes}
use Rattle.bson_model.specs.Tree.{Datum, document_value, Fields, no_fields, field, get}
use Rattle.base_model.specs.Errors.{failed_to_parse}
use Rattle.base_model.specs.Names.{full_name}
use Rattle.query_model.specs.Queries.{QueryFault}
use Rattle.query_model.specs.Reading.{◌>>=◌, read_query}
use Rattle.pipeline_model.specs.Projections.{Projection, read_projection}
use Rattle.pipeline_model.specs.SortKeys.{read_sort}
use Rattle.pipeline_model.specs.Stages.{Stage, match_stage, sort_stage, skip_stage, limit_stage, project_stage}
use Rattle.command_model.specs.Fields.{Rule, boolean_needed, boolean_or, common_rules, document_needed, false_needed, rules_by}
use Rattle.command_model.specs.Forms.{CommandForm, check_collection, nothing_judged, string_or}
use Rattle.command_model.specs.Reading.{Reading, Batches, natural_needed, number_given, unless_zero, unless_faulty, check_concern, time_given}

-- to return the documents in batches
pub record Find : Type 0 where
  pub reading : Reading
  pub batches : Batches

-- a stage whose operand is a document, where it is given
abbrev pub stage_given : {A : Type 0} → (Fields → Result A QueryFault) → (A → Stage) → List ℕ → Fields → List Stage
stage_given read stage name ms = elim (get name ms) [
  | Some (document_value words) ↦ elim (read words) [ Ok x ↦ stage x ∷ [] | Err fault ↦ [] ]
  | other ↦ []
]

-- the projection, or none where it is empty and all fields are kept (MongoDB manual, "find", "Projections"; `$project` refuses an empty one)
abbrev pub read_shown : Fields → Result (Option Projection) QueryFault
read_shown no_fields = Ok None
read_shown (field name value ms) = read_projection (field name value ms) >>= λ rules. Ok (Some rules)

abbrev pub shown_stages : Option Datum → List Stage
shown_stages (Some (document_value words)) = elim (read_shown words) [ Ok shown ↦ elim shown [ None ↦ [] | Some rules ↦ project_stage rules ∷ [] ] | Err fault ↦ [] ]
shown_stages value = []

-- a stage whose operand is a number, where one is given that is not 0
abbrev pub stage_counted : (ℕ → Stage) → List ℕ → Fields → List Stage
stage_counted stage name ms = elim (unless_zero (number_given name ms)) [ None ↦ [] | Some n ↦ stage n ∷ [] ]

-- options that are accepted only where they are false, their default (MongoDB manual, "find"): some drivers send them with each find
abbrev pub only_false : List (List ℕ)
only_false = codes "returnKey" ∷ codes "showRecordId" ∷ codes "tailable" ∷ codes "awaitData" ∷ []

abbrev pub find_rules : List Rule
find_rules =
    record { name = codes "filter"; check = document_needed (λ ms. unless_faulty (read_query ms)) }
    ∷ record { name = codes "sort"; check = document_needed (λ ms. unless_faulty (read_sort ms)) }
    ∷ record { name = codes "projection"; check = document_needed (λ ms. unless_faulty (read_shown ms)) }
    ∷ record { name = codes "skip"; check = natural_needed }
    ∷ record { name = codes "limit"; check = natural_needed }
    ∷ record { name = codes "batchSize"; check = natural_needed }
    ∷ record { name = codes "singleBatch"; check = boolean_needed }
    ∷ record { name = codes "allowDiskUse"; check = boolean_needed }
    ∷ record { name = codes "noCursorTimeout"; check = boolean_needed }
    ∷ record { name = codes "allowPartialResults"; check = boolean_needed }
    ∷ record { name = codes "readConcern"; check = document_needed check_concern }
    ∷ (rules_by false_needed only_false ++ common_rules)

abbrev pub find_stages : Fields → List Stage
find_stages ms =
    stage_given read_query match_stage (codes "filter") ms
    ++ (stage_given read_sort sort_stage (codes "sort") ms
    ++ (stage_counted skip_stage (codes "skip") ms
    ++ (stage_counted limit_stage (codes "limit") ms
    ++ shown_stages (get (codes "projection") ms))))

abbrev pub find_form : CommandForm Find
find_form = record {
  check_own = check_collection;
  rules = λ database. find_rules;
  unlisted = Some failed_to_parse;
  sequence = None;
  check_needed = nothing_judged;
  check_last = nothing_judged;
  command = λ database own document sequences. record {
    reading = record {
      namespace = full_name database (string_or [] (Some own));
      stages = find_stages document;
      at = time_given (codes "atClusterTime") (get (codes "readConcern") document);
      after = time_given (codes "afterClusterTime") (get (codes "readConcern") document);
    };
    batches = record { size = number_given (codes "batchSize") document; single = boolean_or false (get (codes "singleBatch") document) };
  };
}
