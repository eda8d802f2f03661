-- The documents that are done, and those that are left, are all.
use Rattle.std.proofs.Common.{◌≡◌, ◌++◌, drop, map}
use Rattle.std.specs.Arc.{arc_value}
use Rattle.pipeline_eval.proofs.kept.share_found.Given as goal

abbrev pub invariant-loop-document : goal.invariant-loop-document
invariant-loop-document l =
    map arc_value l.all.items ++ map (λ d. arc_value d.now) (drop l.document-index l.documents) ≡ map (λ d. arc_value d.now) l.documents
