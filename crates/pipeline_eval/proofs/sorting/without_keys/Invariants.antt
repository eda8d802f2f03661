-- The documents that are done, and those of the rows that are left, are all.
use Rattle.std.proofs.Common.{◌≡◌, ◌++◌, map}
use Rattle.std.specs.Arc.{arc_value}
use Rattle.std.specs.VecDeque.{deque_len}
use Rattle.pipeline_eval.specs.Keyed.{document_of}
use Rattle.pipeline_eval.proofs.sorting.without_keys.Given as goal

abbrev pub invariant-rows : goal.invariant-rows
invariant-rows l = map arc_value l.documents.items ++ map document_of l.rest.items ≡ map document_of l.initial.rest.items

abbrev pub decreases-rows : goal.decreases-rows
decreases-rows l = deque_len l.rest
