-- What is left of the array has documents only where the whole has.
use Rattle.std.proofs.Common.{◌≡◌, drop}
use Rattle.std.specs.Prelude.{is_some}
use Rattle.bson_values.specs.View.{items_of}
use Rattle.query_model.specs.Paths.{elements}
use Rattle.query_model.specs.Reading.{all_documents}
use Rattle.match_expr.proofs.operators.has_documents_only.Given as goal

abbrev pub invariant-loop-value : goal.invariant-loop-value
invariant-loop-value l =
    is_some (all_documents (elements (items_of (drop l.value-index l.value-items)))) ≡ is_some (all_documents (elements l.array))
