-- The rules already read, and those of what is left, are those of the whole.
use Rattle.std.proofs.Common.{◌≡◌, drop}
use Rattle.bson_values.specs.View.{fields_of}
use Rattle.field_paths.proofs.FieldLists.{read_each, with_front}
use Rattle.pipeline_model.specs.Projections.{read_rules}
use Rattle.projection.specs.RuleReading.{read_rule}
use Rattle.projection.specs.View.{rules_of}
use Rattle.projection.proofs.parser.parse_rules.Given as goal

abbrev pub invariant-loop-field : goal.invariant-loop-field
invariant-loop-field l = with_front (rules_of l.rules.items) (read_each read_rule (fields_of (drop l.field-index l.field-items))) ≡ read_rules l.document
