-- Tables of chunks may go to other threads, and so may the catalogue.
use denote.Param.Send.{IsSend, IsSync, sendable}
use Rattle.std.proofs.Crossing.{crosses}
use Rattle.std.proofs.MapsCrossingOver as sets
use Rattle.chunk_table.proofs.chunk.OwnedList.TheSendSync.{the_send as OwnedList-send, the_sync as OwnedList-sync}
use Rattle.chunk_table.proofs.version.Version.TheSendSync.{the_field_send as Version-send, the_field_sync as Version-sync}
use Rattle.cluster_base.proofs.identity.NodeId.TheSendSync.{the_field_send as NodeId-send}
use Rattle.cluster_base.proofs.identity.RequestId.TheSendSync.{the_field_send as RequestId-send}
use Rattle.cluster_base.proofs.namespace.Namespace.TheSendSync.{the_send as Namespace-send, the_sync as Namespace-sync}
use Rattle.cluster_base.proofs.time.Time.TheSendSync.{the_field_send as Time-send, the_field_sync as Time-sync}
use Rattle.ghost_list.proofs.list.GhostList.TheSendSync.{the_send as GhostList-send}
use Rattle.thread_laws.proofs.IndexSets.{IndexSet-send}
use Rattle.thread_laws.proofs.Values.{Key-send, KeyRange-send, KeyRange-sync}
use Rattle.chunk_table.specs.contracts.chunk.Chunk as Chunk
use Rattle.chunk_table.specs.contracts.table.Table as Table
use Rattle.route_cache.specs.contracts.cache.RouteCache as RouteCache
use Rattle.route_cache.specs.contracts.entry.NamedTable as NamedTable
use Rattle.route_cache.specs.contracts.index.TableIndex as TableIndex
use Rattle.chunk_catalogue.specs.contracts.change.ChangeFields as ChangeFields
use Rattle.chunk_catalogue.specs.contracts.catalogue.Catalogue as Catalogue

pub Chunk-send : IsSend Chunk.the_field.row
Chunk-send = search (sendable, crosses, KeyRange-send, Version-send, OwnedList-send) depth 30

pub Chunk-sync : IsSync Chunk.the_field.row
Chunk-sync = search (sendable, crosses, KeyRange-sync, Version-sync, OwnedList-sync) depth 30

pub Table-send : IsSend Table.the_field.row
Table-send = search (sendable, crosses, Namespace-send, Time-send, Chunk-send) depth 30

pub Table-sync : IsSync Table.the_field.row
Table-sync = search (sendable, crosses, Namespace-sync, Time-sync, Chunk-sync) depth 30

NamedTable-send : IsSend NamedTable.the_field.row
NamedTable-send = search (sendable, crosses, Table-send, Table-sync) depth 30

pub TableIndex-send : IsSend TableIndex.the_field.row
TableIndex-send = search (sendable, crosses, IndexSet-send, NamedTable-send) depth 30

pub RouteCache-send : IsSend RouteCache.the_field.row
RouteCache-send = search (sendable, TableIndex-send) depth 30

pub ChangeFields-send : IsSend ChangeFields.the_field.row
ChangeFields-send = search (sendable, crosses, Namespace-send, Time-send, Key-send, RequestId-send, KeyRange-send, NodeId-send) depth 30

pub Catalogue-send : IsSend Catalogue.the_field.row
Catalogue-send = search (sendable, crosses, sets.crosses, TableIndex-send, Table-send, RequestId-send, GhostList-send, ChangeFields-send) depth 30
