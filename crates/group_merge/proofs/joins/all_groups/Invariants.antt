-- The rows are those of the parts that were visited, joined.
use Rattle.std.proofs.Common.{◌≡◌, map}
use Rattle.std.specs.Prelude.{flat_map}
use Rattle.std.specs.Arc.{arc_value}
use Rattle.std.specs.VecDeque.{deque_len}
use Rattle.group_accum.specs.GroupParts.{rows_in, spec_in}
use Rattle.pipeline_eval.specs.Rows.{rows_of}
use Rattle.pipeline_model.specs.Halves.{partials_in_part}
use Rattle.group_merge.proofs.Parts.{AreSoFar}
use Rattle.group_merge.proofs.joins.all_groups.Given as goal

abbrev pub invariant-parts : goal.invariant-parts
invariant-parts l = record {
  spec : spec_in l.groups ≡ arc_value l.fn.spec;
  rows : AreSoFar rows_of partials_in_part (arc_value l.fn.spec) l.rest.items (rows_in l.groups) (flat_map partials_in_part (map rows_of l.initial.rest.items));
}

abbrev pub decreases-parts : goal.decreases-parts
decreases-parts l = deque_len l.rest
