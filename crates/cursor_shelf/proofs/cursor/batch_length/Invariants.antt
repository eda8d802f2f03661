-- The documents that were counted may be a batch, and these are their bytes.
use Rattle.std.proofs.Common.{◌≡◌, ◌-◌, ◌^◌, map, take}
use Rattle.std.specs.Prelude.{min}
use Rattle.std.specs.Arc.{arc_value}
use Rattle.pipeline_model.specs.Lengths.{documents_length}
use Rattle.pipeline_model.specs.Batches.{MayBeBatch}
use Rattle.cursor_shelf.proofs.cursor.batch_length.Given as goal

abbrev pub invariant-loop-count : goal.invariant-loop-count
invariant-loop-count l = record {
  bytes : l.bytes ≡ min (documents_length (take l.count (map arc_value l.remaining.items))) (2 ^ 64 - 1);
  may : MayBeBatch l.size (map arc_value l.remaining.items) l.count;
}
