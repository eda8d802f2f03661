-- The documents that are done, and those that are left, are all.
use Rattle.std.proofs.Common.{◌≡◌, ◌++◌, drop, map}
use Rattle.std.specs.Arc.{arc_value}
use Rattle.pipeline_eval.proofs.half.share_all.Given as goal

abbrev pub invariant-loop-document : goal.invariant-loop-document
invariant-loop-document l = map arc_value l.all.items ++ map arc_value (drop l.document-index l.documents) ≡ map arc_value l.documents
