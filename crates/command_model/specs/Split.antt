-- `split` (MongoDB manual, "split"; the order of refusals is own): the chunk that has a key is divided there, and the upper part begins with the key.
use Rattle.std.specs.Prelude.{ℕ, List, [], ◌∷◌, Some, None, codes}
use Rattle.std.specs.Option.{unwrap_or}
use Rattle.bson_model.specs.Tree.{Datum, null_value, get}
use Rattle.base_model.specs.Errors.{failed_to_parse}
use Rattle.command_model.specs.AdminCommands.{check_full_name, key_given, key_needed}
use Rattle.command_model.specs.Fields.{Rule, check_required, common_rules}
use Rattle.command_model.specs.Forms.{CommandForm, nothing_judged, string_or}

-- to divide a chunk of a collection at a key
pub record SplitCommand : Type 0 where
  pub namespace : List ℕ
  pub middle : Datum

abbrev pub split_rules : List Rule
split_rules = record { name = codes "middle"; check = key_needed } ∷ common_rules

abbrev pub split_form : CommandForm SplitCommand
split_form = record {
  check_own = check_full_name;
  rules = λ database. split_rules;
  unlisted = Some failed_to_parse;
  sequence = None;
  check_needed = λ document sequences. check_required (codes "middle") document;
  check_last = nothing_judged;
  command = λ database own document sequences. record {
    namespace = string_or [] (Some own);
    middle = unwrap_or (key_given (get (codes "middle") document)) null_value;
  };
}
