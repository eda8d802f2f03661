-- What contracts see of a source's part: which move it is, what is stored of the copy, which keys have a place among the changed ones, and
-- whether the next batch and the next section have room.
use Rattle.std.specs.Prelude.{◌≡◌, Bool, Option, Some, is_some, false}
use Rattle.std.specs.BTreeMap.{get_by}
use Rattle.std.specs.Option.{option_map}
use Rattle.std.specs.Ordering.{is_lt}
use Rattle.bson_values.specs.Tree.{Datum}
use Rattle.cluster_base.specs.declared.identity.RequestId.{RequestId}
use Rattle.value_compare.specs.Bounds.{bound_of}
use Rattle.value_compare.specs.Keys.{Range, order_bounds}
use Rattle.value_compare.specs.Order.{order}
use Rattle.history_model.specs.Documents.{Rows}
use Rattle.record_model.specs.Moves.{Batch}
use Rattle.shard_records.specs.Batches.{batch_view}
use Rattle.move_model.specs.Batches.{batch_of}
use Rattle.move_model.specs.Sources.{Source, Stage, unanswered_stage, ready_stage, at_end_stage}
use Rattle.migration_source.specs.Changed.{changed_among}
use Rattle.migration_source.specs.declared.giving.GiveStage.{GiveStage}
use Rattle.migration_source.specs.declared.giving.GiveStage.TheVariants.{Unanswered, Ready, AtEnd}
use Rattle.migration_source.specs.declared.giving.Giving.{Giving}

abbrev pub id_of : Giving → RequestId
id_of g = g.id

abbrev pub source_of : Giving → Source
source_of g = record {
  range = g.range;
  number = g.number;
  cursor = bound_of g.cursor;
  changed = changed_among g.marks.entries;
  unanswered = g.unanswered;
}

-- the next `changed` of the key has room
abbrev pub has_place : Giving → Datum → Bool
has_place g key = is_some (get_by (order key) g.marks)

-- the batch that is ready to be handed out next, if there is one
abbrev pub ready_of : Giving → Option Batch
ready_of g = option_map (λ p. batch_view p.batch) g.prepared

-- the next `next_batch` over these documents has room
abbrev pub HasBatch : Giving → Rows → Type 0
HasBatch g rows = ready_of g ≡ Some (batch_of (source_of g) rows)

-- the range that is ready for the next section, if there is one
abbrev pub spare_of : Giving → Option Range
spare_of g = g.spare

-- the next `enter_section` has room
abbrev pub HasSection : Giving → Type 0
HasSection g = spare_of g ≡ Some g.range

-- the cursor reached the end of the range
abbrev pub IsAtEnd : Source → Type 0
IsAtEnd s = is_lt (order_bounds s.cursor s.range.max) ≡ false

abbrev pub stage_view : GiveStage → Stage
stage_view (Unanswered number) = unanswered_stage number
stage_view Ready = ready_stage
stage_view (AtEnd left) = at_end_stage left
