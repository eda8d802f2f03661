-- Values, ranges of keys, and the words of operations may go to other threads, and be read by several.
use denote.Param.Send.{IsSend, IsSync, sendable}
use Rattle.std.proofs.Crossing.{crosses}
use Rattle.bson_values.proofs.value.Array.TheLaws.TheKnot as knot
use Rattle.bson_values.proofs.text.Blob.TheSendSync.{the_send as Blob-send, the_sync as Blob-sync}
use Rattle.bson_values.proofs.text.Name.TheSendSync.{the_send as Name-send, the_sync as Name-sync}
use Rattle.bson_values.proofs.text.Text.TheSendSync.{the_send as Text-send, the_sync as Text-sync}
use Rattle.bson_values.proofs.value.Aligned.TheSendSync.{the_field_send as Aligned-send, the_field_sync as Aligned-sync}
use Rattle.bson_values.specs.contracts.value.Document as Document
use Rattle.bson_values.specs.contracts.value.Array as Array
use Rattle.bson_values.specs.contracts.value.Value as Value
use Rattle.value_compare.specs.contracts.key.Key as Key
use Rattle.value_compare.specs.contracts.span.Bound as Bound
use Rattle.value_compare.specs.contracts.span.KeyRange as KeyRange
use Rattle.value_compare.specs.contracts.words.Reply as Reply
use Rattle.value_compare.specs.contracts.words.OpWords as OpWords
use Rattle.value_compare.specs.contracts.span.Span as Span
use Rattle.value_compare.specs.contracts.span_list.SpanList as SpanList

pub Document-send : IsSend Document.the_field.row
Document-send = search (sendable, crosses, knot.crosses, Name-send, Text-send, Blob-send, Aligned-send) depth 30

pub Document-sync : IsSync Document.the_field.row
Document-sync = search (sendable, crosses, knot.crosses, Name-sync, Text-sync, Blob-sync, Aligned-sync) depth 30

pub Array-send : IsSend Array.the_field.row
Array-send = search (sendable, crosses, knot.crosses, Name-send, Text-send, Blob-send, Aligned-send) depth 30

pub Array-sync : IsSync Array.the_field.row
Array-sync = search (sendable, crosses, knot.crosses, Name-sync, Text-sync, Blob-sync, Aligned-sync) depth 30

pub Value-send : IsSend Value.the_field.row
Value-send = search (sendable, crosses, knot.crosses, Name-send, Text-send, Blob-send, Aligned-send) depth 30

pub Value-sync : IsSync Value.the_field.row
Value-sync = search (sendable, crosses, knot.crosses, Name-sync, Text-sync, Blob-sync, Aligned-sync) depth 30

pub Key-send : IsSend Key.the_field.row
Key-send = search (sendable, crosses, Value-send) depth 30

pub Key-sync : IsSync Key.the_field.row
Key-sync = search (sendable, crosses, Value-sync) depth 30

pub Bound-send : IsSend Bound.the_field.row
Bound-send = search (sendable, crosses, Key-send) depth 30

pub Bound-sync : IsSync Bound.the_field.row
Bound-sync = search (sendable, crosses, Key-sync) depth 30

pub KeyRange-send : IsSend KeyRange.the_field.row
KeyRange-send = search (sendable, crosses, Bound-send) depth 30

pub KeyRange-sync : IsSync KeyRange.the_field.row
KeyRange-sync = search (sendable, crosses, Bound-sync) depth 30

pub Reply-send : IsSend Reply.the_field.row
Reply-send = search (sendable, crosses, Key-send) depth 30

pub OpWords-send : IsSend OpWords.the_field.row
OpWords-send = search (sendable, crosses, Document-send) depth 30

pub OpWords-sync : IsSync OpWords.the_field.row
OpWords-sync = search (sendable, crosses, Document-sync) depth 30

pub Span-send : IsSend Span.the_field.row
Span-send = search (sendable, crosses, KeyRange-send, Key-send) depth 30

pub Span-sync : IsSync Span.the_field.row
Span-sync = search (sendable, crosses, KeyRange-sync, Key-sync) depth 30

pub SpanList-send : IsSend SpanList.the_field.row
SpanList-send = search (sendable, crosses, Span-send) depth 30

pub SpanList-sync : IsSync SpanList.the_field.row
SpanList-sync = search (sendable, crosses, Span-sync) depth 30
