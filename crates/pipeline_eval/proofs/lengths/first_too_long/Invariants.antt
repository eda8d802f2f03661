-- None of those that were visited is too long.
use Rattle.std.proofs.Common.{◌≡◌, drop, map}
use Rattle.std.specs.Arc.{arc_value}
use Rattle.pipeline_model.specs.Lengths.{excess_of_documents}
use Rattle.pipeline_eval.proofs.lengths.first_too_long.Given as goal

abbrev pub invariant-loop-document : goal.invariant-loop-document
invariant-loop-document l = excess_of_documents (map arc_value (drop l.document-index l.documents)) ≡ excess_of_documents (map arc_value l.documents)
