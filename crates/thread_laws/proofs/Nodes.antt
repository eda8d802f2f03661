-- Nodes may go to other threads.
use denote.Param.Send.{IsSend, sendable}
use denote.Param.SendFields.{as_row_send}
use Rattle.std.proofs.Crossing.{crosses}
use Rattle.std.proofs.MapsCrossing as maps
use Rattle.cluster_base.proofs.identity.NodeId.TheSendSync.{the_field_send as NodeId-send}
use Rattle.cluster_base.proofs.identity.Stmt.TheSendSync.{the_field_send as Stmt-send}
use Rattle.cluster_base.proofs.namespace.Namespace.TheSendSync.{the_send as Namespace-send}
use Rattle.cluster_base.proofs.time.Time.TheSendSync.{the_field_send as Time-send}
use Rattle.command_replies.proofs.answer.ClientNumber.TheSendSync.{the_field_send as ClientNumber-send}
use Rattle.command_replies.proofs.answer.WriteKind.TheSendSync.{the_field_send as WriteKind-send}
use Rattle.ghost_list.proofs.list.GhostList.TheSendSync.{the_send as GhostList-send}
use Rattle.node_traits.proofs.count.StepCount.TheSendSync.{the_send as StepCount-send}
use Rattle.read_parts.proofs.parts.Target.TheSendSync.{the_field_send as Target-send}
use Rattle.router_cursors.proofs.mark.Mark.TheSendSync.{the_field_send as Mark-send}
use Rattle.router_requests.proofs.read.Telling.TheSendSync.{the_field_send as Telling-send}
use Rattle.router_requests.proofs.work.Wait.TheSendSync.{the_field_send as Wait-send}
use Rattle.shard_store.proofs.fault.WriteFault.TheSendSync.{the_field_send as WriteFault-send}
use Rattle.write_runs.proofs.run.Run.TheSendSync.{the_field_send as Run-send}
use Rattle.thread_laws.proofs.Chunks.{Catalogue-send, RouteCache-send}
use Rattle.thread_laws.proofs.History.{Book-send, Collection-send}
use Rattle.protocol_model.proofs.reads.HalfFault.TheSendSync.{the_field_send as HalfFault-send}
use Rattle.protocol_model.proofs.refused.Try.TheSendSync.{the_field_send as Try-send}
use Rattle.thread_laws.proofs.Messages.{Head-send, Message-send, Statement-send, StatementOutcome-send}
use Rattle.thread_laws.proofs.Pipelines.{Half-send, Half-sync, Merge-send, Pipeline-send, Rows-send, Shelf-send}
use Rattle.thread_laws.proofs.Values.{Document-send, Document-sync, Key-send, OpWords-send, OpWords-sync, Reply-send}
use Rattle.shard_store.specs.contracts.collections.Collections as Collections
use Rattle.shard_store.specs.contracts.entry.Words as Words
use Rattle.shard_store.specs.contracts.entry.Left as Left
use Rattle.shard_store.specs.contracts.outcome.EntryOutcome as EntryOutcome
use Rattle.shard_store.specs.contracts.entry.Planned as Planned
use Rattle.shard_store.specs.contracts.store.ShardStore as ShardStore
use Rattle.config_node.specs.contracts.state.ConfigNode as ConfigNode
use Rattle.router_cursors.specs.contracts.list.CursorList as CursorList
use Rattle.read_parts.specs.contracts.parts.Part as Part
use Rattle.router_requests.specs.contracts.read.Parts as Parts
use Rattle.router_requests.specs.contracts.read.OpenRead as OpenRead
use Rattle.router_requests.specs.contracts.write.OpenWrite as OpenWrite
use Rattle.router_requests.specs.contracts.work.Work as Work
use Rattle.router_requests.specs.contracts.work.OpenRequest as OpenRequest
use Rattle.router_requests.specs.contracts.list.OpenList as OpenList
use Rattle.shard_node.specs.contracts.node.ShardNode as ShardNode
use Rattle.router_node.specs.contracts.node.RouterNode as RouterNode
use Rattle.any_node.specs.contracts.AnyNode as AnyNode

pub Collections-send : IsSend Collections.the_field.row
Collections-send = search (sendable, crosses, maps.crosses, Collection-send) depth 30

pub Words-send : IsSend Words.the_field.row
Words-send = search (sendable, crosses, Document-send, Document-sync, OpWords-send, OpWords-sync) depth 30

pub Left-send : IsSend Left.the_field.row
Left-send = search (sendable, crosses, Document-send, Document-sync) depth 30

pub EntryOutcome-send : IsSend EntryOutcome.the_field.row
EntryOutcome-send = search (sendable, crosses, Reply-send, WriteFault-send) depth 30

pub Planned-send : IsSend Planned.the_field.row
Planned-send = search (sendable, crosses, Stmt-send, Time-send, Words-send, Key-send, Left-send, EntryOutcome-send) depth 30

pub ShardStore-send : IsSend ShardStore.the_field.row
ShardStore-send = search (sendable, crosses, NodeId-send, Time-send, Collections-send, Book-send, GhostList-send, Namespace-send, Planned-send) depth 30

pub ConfigNode-send : IsSend ConfigNode.the_field.row
ConfigNode-send = search (sendable, crosses, NodeId-send, StepCount-send, Time-send, Catalogue-send) depth 30

pub CursorList-send : IsSend CursorList.the_field.row
CursorList-send = search (sendable, crosses, Shelf-send, GhostList-send, Namespace-send, Mark-send) depth 30

pub Parts-send : IsSend Parts.the_field.row
Parts-send = search (sendable, crosses, Pipeline-send, Half-send, Half-sync, Merge-send) depth 30

pub OpenRead-send : IsSend OpenRead.the_field.row
OpenRead-send = search (sendable, crosses, Time-send, Parts-send, Telling-send) depth 30

pub OpenWrite-send : IsSend OpenWrite.the_field.row
OpenWrite-send = search (sendable, crosses, WriteKind-send, ClientNumber-send, Statement-send, StatementOutcome-send, Try-send, Run-send) depth 30

pub Work-send : IsSend Work.the_field.row
Work-send = search (sendable, crosses, OpenWrite-send, OpenRead-send, Key-send) depth 30

pub Part-send : IsSend Part.the_field.row
Part-send = search (sendable, crosses, NodeId-send, Rows-send, HalfFault-send) depth 30

pub OpenRequest-send : IsSend OpenRequest.the_field.row
OpenRequest-send = search (sendable, crosses, Head-send, Try-send, Namespace-send, NodeId-send, Wait-send, Target-send, Part-send, Work-send) depth 30

pub OpenList-send : IsSend OpenList.the_field.row
OpenList-send = search (sendable, crosses, OpenRequest-send) depth 30

pub ShardNode-send : IsSend ShardNode.the_field.row
ShardNode-send = search (sendable, crosses, NodeId-send, StepCount-send, Time-send, RouteCache-send, ShardStore-send, Message-send) depth 30

pub RouterNode-send : IsSend RouterNode.the_field.row
RouterNode-send = search (sendable, crosses, NodeId-send, Time-send, RouteCache-send, OpenList-send, CursorList-send, StepCount-send) depth 30

pub AnyNode-send : IsSend AnyNode.the_field.row
AnyNode-send = search (sendable, crosses, ConfigNode-send, ShardNode-send, RouterNode-send) depth 30

pub node_sends : IsSend AnyNode.the_row
node_sends = as_row_send AnyNode.the_field AnyNode-send
