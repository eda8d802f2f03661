-- The rows that are done, and the documents that are left, are all documents; each row has its key.
use Rattle.std.proofs.Common.{◌≡◌, ◌++◌, map}
use Rattle.std.specs.Arc.{arc_value}
use Rattle.std.specs.List.{AllByRecursion}
use Rattle.std.specs.VecDeque.{deque_len}
use Rattle.pipeline_eval.specs.Keyed.{HasKey, document_of}
use Rattle.pipeline_eval.proofs.sorting.with_keys.Given as goal

abbrev pub invariant-rows : goal.invariant-rows
invariant-rows l = record {
  documents : map document_of l.rows.items ++ map arc_value l.rest.items ≡ map arc_value l.initial.rest.items;
  keys : AllByRecursion (HasKey l.spec) l.rows.items;
}

abbrev pub decreases-rows : goal.decreases-rows
decreases-rows l = deque_len l.rest
