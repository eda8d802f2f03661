-- The documents that are done, and those of the rows that are left, are those of all rows.
use Rattle.std.proofs.Common.{◌≡◌, ◌++◌, map}
use Rattle.std.specs.Prelude.{option_map}
use Rattle.std.specs.Arc.{arc_value}
use Rattle.std.specs.BTreeMap.{btree_map_len}
use Rattle.pipeline_model.specs.Groups.{documents_of}
use Rattle.group_accum.specs.Rows.{rows_of}
use Rattle.group_accum.proofs.groups.Groups.finish.Given as goal

abbrev pub invariant-rows : goal.invariant-rows
invariant-rows l =
    option_map (λ ds. map arc_value l.shown.items ++ ds) (documents_of (arc_value l.fn.self.spec) (rows_of l.rest.entries))
    ≡ documents_of (arc_value l.fn.self.spec) (rows_of l.initial.rest.entries)

abbrev pub decreases-rows : goal.decreases-rows
decreases-rows l = btree_map_len l.rest
