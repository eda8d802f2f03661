-- `getMore` (MongoDB manual, "getMore"; the order of refusals is own). It is answered with a batch under `nextBatch`.
use Rattle.std.specs.Prelude.{ℕ, ℤ, List, [], ◌∷◌, Option, Some, None, codes, is_some, if◌then◌else◌}
use Rattle.bson_model.specs.Tree.{Datum, get}
use Rattle.base_model.specs.Errors.{failed_to_parse, invalid_namespace, type_mismatch}
use Rattle.base_model.specs.Names.{full_name}
use Rattle.pipeline_model.specs.Operands.{whole_number}
use Rattle.command_model.specs.Checks.{Verdict, unless_passes}
use Rattle.command_model.specs.Cursors.{is_open_database, number_in}
use Rattle.command_model.specs.Fields.{Rule, check_required, common_rules}
use Rattle.command_model.specs.Forms.{CommandForm, check_collection, nothing_judged, string_or}
use Rattle.command_model.specs.Reading.{natural_needed, number_given}

-- to return the next batch of a cursor, of at most this many documents, where a size is given
pub record GetMore : Type 0 where
  pub namespace : List ℕ
  pub cursor : ℤ
  pub size : Option ℕ

-- its own field is the cursor
abbrev pub check_cursor : (database : List ℕ) → Datum → Verdict
check_cursor database value = if is_some (whole_number value) then unless_passes (is_open_database database) invalid_namespace else Some type_mismatch

abbrev pub more_rules : (database : List ℕ) → List Rule
more_rules database =
    record { name = codes "collection"; check = check_collection database }
    ∷ record { name = codes "batchSize"; check = natural_needed }
    ∷ common_rules

abbrev pub more_form : CommandForm GetMore
more_form = record {
  check_own = check_cursor;
  rules = more_rules;
  unlisted = Some failed_to_parse;
  sequence = None;
  check_needed = λ document sequences. check_required (codes "collection") document;
  check_last = nothing_judged;
  command = λ database own document sequences. record {
    namespace = full_name database (string_or [] (get (codes "collection") document));
    cursor = number_in own;
    size = number_given (codes "batchSize") document;
  };
}
