-- `killCursors` (MongoDB manual, "killCursors"; the order of refusals and of the answer's fields is own).
use Rattle.std.specs.Prelude.{ℕ, ℤ, List, [], ◌∷◌, Bool, true, ◌&&◌, Option, Some, None, codes, is_some}
use Rattle.bson_model.specs.Tree.{Datum, array_value, int64_value, Items, no_items, item, Fields, no_fields, field, get}
use Rattle.base_model.specs.Errors.{failed_to_parse, type_mismatch}
use Rattle.base_model.specs.Names.{full_name}
use Rattle.pipeline_model.specs.Operands.{whole_number}
use Rattle.command_model.specs.AnswerParts.{ok}
use Rattle.command_model.specs.Checks.{Verdict, unless_passes}
use Rattle.command_model.specs.Cursors.{number_in}
use Rattle.command_model.specs.Fields.{Rule, check_required, common_rules}
use Rattle.command_model.specs.Forms.{CommandForm, check_collection, nothing_judged, string_or}

-- to close cursors, in order
pub record KillCursors : Type 0 where
  pub namespace : List ℕ
  pub cursors : List ℤ

abbrev pub are_whole_numbers : Items → Bool
are_whole_numbers no_items = true
are_whole_numbers (item value values) = is_some (whole_number value) && are_whole_numbers values

abbrev pub numbers_in : Items → List ℤ
numbers_in no_items = []
numbers_in (item value values) = number_in value ∷ numbers_in values

abbrev pub cursors_needed : Datum → Verdict
cursors_needed (array_value values) = unless_passes (are_whole_numbers values) type_mismatch
cursors_needed value = Some type_mismatch

abbrev pub kill_rules : (database : List ℕ) → List Rule
kill_rules database = record { name = codes "cursors"; check = cursors_needed } ∷ common_rules

abbrev pub cursors_named : Option Datum → List ℤ
cursors_named (Some (array_value values)) = numbers_in values
cursors_named value = []

abbrev pub kill_form : CommandForm KillCursors
kill_form = record {
  check_own = check_collection;
  rules = kill_rules;
  unlisted = Some failed_to_parse;
  sequence = None;
  check_needed = λ document sequences. check_required (codes "cursors") document;
  check_last = nothing_judged;
  command = λ database own document sequences. record {
    namespace = full_name database (string_or [] (Some own));
    cursors = cursors_named (get (codes "cursors") document);
  };
}

abbrev pub number_items : List ℤ → Items
number_items [] = no_items
number_items (n ∷ numbers) = item (int64_value n) (number_items numbers)

-- the cursors that were closed, and those that were not found
abbrev pub killed_document : (killed missing : List ℤ) → Fields
killed_document killed missing =
    field (codes "cursorsKilled") (array_value (number_items killed))
    (field (codes "cursorsNotFound") (array_value (number_items missing))
    (field (codes "cursorsAlive") (array_value no_items)
    (field (codes "cursorsUnknown") (array_value no_items) (ok no_fields))))
