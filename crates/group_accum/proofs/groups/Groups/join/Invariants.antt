-- The rows that were absorbed, and those that are left, are all of them.
use Rattle.std.proofs.Common.{◌≡◌, ◌++◌, List}
use Rattle.std.specs.BTreeMap.{btree_map_len}
use Rattle.pipeline_model.specs.Groups.{IsJoined, PartialRow}
use Rattle.group_accum.specs.GroupParts.{documents_in, rows_in, spec_in}
use Rattle.group_accum.specs.Rows.{rows_of}
use Rattle.group_accum.proofs.groups.Groups.join.Given as goal

abbrev pub invariant-rows : goal.invariant-rows
invariant-rows l = record {
  spec : spec_in l.self ≡ spec_in l.fn.self;
  documents : documents_in l.self ≡ documents_in l.fn.self;
  rows : (before : List PartialRow) → IsJoined (spec_in l.fn.self) before (rows_in l.fn.self) →
      (taken : List PartialRow) × (taken ++ rows_of l.rest.entries ≡ rows_of l.initial.rest.entries)
      × IsJoined (spec_in l.fn.self) (before ++ taken) (rows_in l.self);
}

abbrev pub decreases-rows : goal.decreases-rows
decreases-rows l = btree_map_len l.rest
