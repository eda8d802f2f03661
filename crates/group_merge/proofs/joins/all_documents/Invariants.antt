-- The documents that are done, and those of the parts that are left, are all documents.
use Rattle.std.proofs.Common.{◌≡◌, ◌++◌, map}
use Rattle.std.specs.Prelude.{flat_map}
use Rattle.std.specs.Arc.{arc_value}
use Rattle.std.specs.VecDeque.{deque_len}
use Rattle.pipeline_eval.specs.Rows.{rows_of}
use Rattle.pipeline_model.specs.Halves.{documents_in_part}
use Rattle.group_merge.proofs.joins.all_documents.Given as goal

abbrev pub invariant-parts : goal.invariant-parts
invariant-parts l =
    map arc_value l.all.items ++ flat_map documents_in_part (map rows_of l.rest.items) ≡ flat_map documents_in_part (map rows_of l.initial.rest.items)

abbrev pub decreases-parts : goal.decreases-parts
decreases-parts l = deque_len l.rest
