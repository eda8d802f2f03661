use Rattle.std.proofs.Common.{◌≡◌, ◌+◌, ◌*◌, ◌<◌, length}
use Rattle.bson_values.specs.Readers.{value_at}
use Rattle.bson_values.proofs.ReaderLoops.{ReadsOn, ReadsItemsOn}
use Rattle.bson_values.proofs.reader.+reader.Given as goal

abbrev pub decreases-read_value : goal.decreases-read_value
decreases-read_value l = 4 * l.level

abbrev pub decreases-put_value : goal.decreases-put_value
decreases-put_value l = 4 * l.level + 1

abbrev pub decreases-put_field : goal.decreases-put_field
decreases-put_field l = 4 * l.level + 2

abbrev pub decreases-read_item : goal.decreases-read_item
decreases-read_item l = 4 * l.level + 1

abbrev pub decreases-read_document : goal.decreases-read_document
decreases-read_document l = 4 * l.level + 3

abbrev pub decreases-read_array : goal.decreases-read_array
decreases-read_array l = 4 * l.level + 3

abbrev pub invariant-read_document-fields : goal.invariant-read_document-fields
invariant-read_document-fields l = record {
  below : length l.left < l.total;
  used : length l.initial.left + l.space ≡ length l.left + l.initial.space;
  read : ReadsOn l.total (value_at l.total l.level) l.initial.space l.initial.left l.document l.space l.left;
}

abbrev pub decreases-read_document-fields : goal.decreases-read_document-fields
decreases-read_document-fields l = length l.left

abbrev pub invariant-read_array-items : goal.invariant-read_array-items
invariant-read_array-items l = record {
  below : length l.left < l.total;
  used : length l.initial.left + l.space ≡ length l.left + l.initial.space;
  read : ReadsItemsOn l.total (value_at l.total l.level) l.initial.space l.initial.left l.array l.space l.left;
}

abbrev pub decreases-read_array-items : goal.decreases-read_array-items
decreases-read_array-items l = length l.left
