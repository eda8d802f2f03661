-- `shardCollection` (MongoDB manual, "shardCollection"; the order of refusals and of the answer's fields is own): the documents of a collection are divided
-- among shards by the ranges of their `_id`.
use Rattle.std.specs.Prelude.{ℕ, pos, List, [], ◌∷◌, Bool, false, Some, None, codes}
use Rattle.std.specs.Ordering.{int_eq}
use Rattle.bson_model.specs.Tree.{Datum, string_value, Fields, field}
use Rattle.base_model.specs.Errors.{bad_value, failed_to_parse}
use Rattle.pipeline_model.specs.Operands.{whole_number}
use Rattle.command_model.specs.AdminCommands.{check_full_name, only_id}
use Rattle.command_model.specs.AnswerParts.{ok, operation_time_at}
use Rattle.command_model.specs.Checks.{Verdict, unless_passes}
use Rattle.command_model.specs.Fields.{Rule, check_required, common_rules, document_needed}
use Rattle.command_model.specs.Forms.{CommandForm, nothing_judged, string_or}

abbrev pub is_one : Datum → Bool
is_one value = elim (whole_number value) [ None ↦ false | Some n ↦ int_eq n (pos 1) ]

-- {_id: 1}, the one shard key that collections may have
abbrev pub is_shard_key : Fields → Bool
is_shard_key ms = elim (only_id ms) [ None ↦ false | Some value ↦ is_one value ]

abbrev pub shard_key_needed : Datum → Verdict
shard_key_needed = document_needed (λ ms. unless_passes (is_shard_key ms) bad_value)

abbrev pub shard_collection_rules : List Rule
shard_collection_rules = record { name = codes "key"; check = shard_key_needed } ∷ common_rules

-- its value is the collection's full name
abbrev pub shard_collection_form : CommandForm (List ℕ)
shard_collection_form = record {
  check_own = check_full_name;
  rules = λ database. shard_collection_rules;
  unlisted = Some failed_to_parse;
  sequence = None;
  check_needed = λ document sequences. check_required (codes "key") document;
  check_last = nothing_judged;
  command = λ database own document sequences. string_or [] (Some own);
}

abbrev pub sharded_document : (namespace : List ℕ) → (time : ℕ) → Fields
sharded_document namespace time = field (codes "collectionsharded") (string_value namespace) (ok (operation_time_at time))
