-- Pipelines and their rows may go to other threads, and so may cursors.
use denote.Param.Send.{IsSend, IsSync, sendable}
use Rattle.std.proofs.Crossing.{crosses}
use Rattle.std.proofs.MapsCrossing as maps
use Rattle.bson_values.proofs.text.Name.TheSendSync.{the_send as Name-send, the_sync as Name-sync}
use Rattle.cluster_base.proofs.namespace.Namespace.TheSendSync.{the_send as Namespace-send}
use Rattle.cluster_base.proofs.time.Time.TheSendSync.{the_field_send as Time-send}
use Rattle.pipeline_eval.proofs.rows.PartCount.TheSendSync.{the_send as PartCount-send}
use Rattle.projection.proofs.projections.Projection.TheSendSync.{the_send as Projection-send, the_sync as Projection-sync}
use Rattle.sort_keys.proofs.parser.SortSpec.TheSendSync.{the_send as SortSpec-send, the_sync as SortSpec-sync}
use Rattle.thread_laws.proofs.Queries.{Expr-send, Expr-sync, GroupSpec-send, GroupSpec-sync, PartialList-send}
use Rattle.thread_laws.proofs.Values.{Document-send, Document-sync, SpanList-send, SpanList-sync}
use Rattle.pipeline_lang.specs.contracts.stage.Stage as Stage
use Rattle.pipeline_lang.specs.contracts.stage.Pipeline as Pipeline
use Rattle.pipeline_lang.specs.contracts.halves.HalfEnd as HalfEnd
use Rattle.pipeline_lang.specs.contracts.halves.Half as Half
use Rattle.pipeline_lang.specs.contracts.halves.Joining as Joining
use Rattle.pipeline_lang.specs.contracts.halves.Merge as Merge
use Rattle.pipeline_eval.specs.contracts.rows.Rows as Rows
use Rattle.cursor_shelf.specs.contracts.cursor.Cursor as Cursor
use Rattle.cursor_shelf.specs.contracts.shelf.Shelf as Shelf

-- what a stage shares
ruleset shared = (Expr-send, Expr-sync, Projection-send, Projection-sync, GroupSpec-send, GroupSpec-sync, SortSpec-send, SortSpec-sync)

pub Stage-send : IsSend Stage.the_field.row
Stage-send = search (sendable, crosses, shared, Name-send) depth 30

pub Stage-sync : IsSync Stage.the_field.row
Stage-sync = search (sendable, crosses, shared, Name-sync) depth 30

pub Pipeline-send : IsSend Pipeline.the_field.row
Pipeline-send = search (sendable, crosses, Stage-send) depth 30

pub Pipeline-sync : IsSync Pipeline.the_field.row
Pipeline-sync = search (sendable, crosses, Stage-sync) depth 30

pub HalfEnd-send : IsSend HalfEnd.the_field.row
HalfEnd-send = search (sendable, crosses, GroupSpec-send, GroupSpec-sync) depth 30

pub HalfEnd-sync : IsSync HalfEnd.the_field.row
HalfEnd-sync = search (sendable, crosses, GroupSpec-send, GroupSpec-sync) depth 30

pub Half-send : IsSend Half.the_field.row
Half-send = search (sendable, crosses, SpanList-send, Pipeline-send, HalfEnd-send) depth 30

pub Half-sync : IsSync Half.the_field.row
Half-sync = search (sendable, crosses, SpanList-sync, Pipeline-sync, HalfEnd-sync) depth 30

pub Joining-send : IsSend Joining.the_field.row
Joining-send = search (sendable, crosses, SortSpec-send, SortSpec-sync, GroupSpec-send, GroupSpec-sync, Name-send) depth 30

pub Merge-send : IsSend Merge.the_field.row
Merge-send = search (sendable, crosses, Joining-send, Pipeline-send) depth 30

pub Rows-send : IsSend Rows.the_field.row
Rows-send = search (sendable, crosses, Document-send, Document-sync, PartialList-send, PartCount-send) depth 30

pub Cursor-send : IsSend Cursor.the_field.row
Cursor-send = search (sendable, crosses, Namespace-send, Time-send, Document-send, Document-sync) depth 30

pub Shelf-send : IsSend Shelf.the_field.row
Shelf-send = search (sendable, crosses, maps.crosses, Cursor-send) depth 30
