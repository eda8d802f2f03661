-- The stages already read, and those of what is left, are those of the whole.
use Rattle.std.proofs.Common.{◌≡◌, drop, map}
use Rattle.bson_values.specs.View.{items_of}
use Rattle.field_paths.proofs.FieldLists.{with_front}
use Rattle.query_model.specs.Paths.{elements}
use Rattle.pipeline_model.specs.Stages.{read_stages}
use Rattle.pipeline_lang.specs.View.{stage_of}
use Rattle.pipeline_lang.proofs.parser.parse_stages.Given as goal

abbrev pub invariant-loop-value : goal.invariant-loop-value
invariant-loop-value l =
    with_front (map stage_of l.stages.items) (read_stages (elements (items_of (drop l.value-index l.value-items)))) ≡ read_stages (elements l.array)
