-- Messages and inputs may go to other threads.
use denote.Param.Send.{IsSend, sendable}
use denote.Param.SendFields.{as_row_send}
use Rattle.std.proofs.Crossing.{crosses}
use Rattle.chunk_table.proofs.verdict.Sent.TheSendSync.{the_field_send as Sent-send}
use Rattle.cluster_base.proofs.code.Code.TheSendSync.{the_field_send as Code-send}
use Rattle.cluster_base.proofs.identity.NodeId.TheSendSync.{the_field_send as NodeId-send}
use Rattle.cluster_base.proofs.identity.RequestId.TheSendSync.{the_field_send as RequestId-send}
use Rattle.cluster_base.proofs.namespace.Namespace.TheSendSync.{the_send as Namespace-send}
use Rattle.cluster_base.proofs.time.Time.TheSendSync.{the_field_send as Time-send}
use Rattle.command_replies.proofs.answer.ClientNumber.TheSendSync.{the_field_send as ClientNumber-send}
use Rattle.command_replies.proofs.refusal.Refusal.TheSendSync.{the_field_send as Refusal-send, the_field_sync as Refusal-sync}
use Rattle.ghost_list.proofs.list.GhostList.TheSendSync.{the_send as GhostList-send}
use Rattle.opmsg_frames.proofs.request.Form.TheSendSync.{the_field_send as Form-send}
use Rattle.protocol_model.proofs.reads.HalfFault.TheSendSync.{the_field_send as HalfFault-send}
use Rattle.protocol_model.proofs.reads.TimeAsk.TheSendSync.{the_field_send as TimeAsk-send}
use Rattle.protocol_model.proofs.reads.TimeTold.TheSendSync.{the_field_send as TimeTold-send}
use Rattle.protocol_model.proofs.refused.Refused.TheSendSync.{the_field_send as Refused-send}
use Rattle.protocol_model.proofs.splits.SplitDone.TheSendSync.{the_field_send as SplitDone-send}
use Rattle.protocol_model.proofs.tables.At.TheSendSync.{the_field_send as At-send}
use Rattle.protocol_model.proofs.tables.TableAsk.TheSendSync.{the_field_send as TableAsk-send}
use Rattle.thread_laws.proofs.Chunks.{Table-send, Table-sync}
use Rattle.thread_laws.proofs.Pipelines.{Half-send, Half-sync, Rows-send}
use Rattle.thread_laws.proofs.Values.{Document-send, Document-sync, Key-send, Key-sync, OpWords-send, OpWords-sync}
use Rattle.thread_laws.proofs.Wire.{Request-send}
use Rattle.protocol_model.specs.contracts.tables.TableTold as TableTold
use Rattle.protocol_model.specs.contracts.splits.SplitAsk as SplitAsk
use Rattle.protocol_model.specs.contracts.document.NewDocument as NewDocument
use Rattle.protocol_model.specs.contracts.change.NewChange as NewChange
use Rattle.protocol_model.specs.contracts.statement.Operation as Operation
use Rattle.protocol_model.specs.contracts.statement.Statement as Statement
use Rattle.protocol_model.specs.contracts.writes.WriteAsk as WriteAsk
use Rattle.protocol_model.specs.contracts.statement.Outcome as Outcome
use Rattle.protocol_model.specs.contracts.statement.StatementOutcome as StatementOutcome
use Rattle.protocol_model.specs.contracts.statement.Done as Done
use Rattle.protocol_model.specs.contracts.writes.WriteDone as WriteDone
use Rattle.protocol_model.specs.contracts.reads.ReadAsk as ReadAsk
use Rattle.protocol_model.specs.contracts.reads.HalfAsk as HalfAsk
use Rattle.protocol_model.specs.contracts.reads.ReadRows as ReadRows
use Rattle.protocol_model.specs.contracts.body.Body as Body
use Rattle.protocol_model.specs.contracts.message.Message as Message
use Rattle.protocol_model.specs.contracts.head.Head as Head
use Rattle.protocol_model.specs.contracts.input.Input as Input

pub TableTold-send : IsSend TableTold.the_field.row
TableTold-send = search (sendable, crosses, Namespace-send, At-send, Table-send, Table-sync) depth 30

pub SplitAsk-send : IsSend SplitAsk.the_field.row
SplitAsk-send = search (sendable, crosses, RequestId-send, Namespace-send, Key-send) depth 30

pub NewDocument-send : IsSend NewDocument.the_field.row
NewDocument-send = search (sendable, crosses, Document-send, Document-sync) depth 30

pub NewChange-send : IsSend NewChange.the_field.row
NewChange-send = search (sendable, crosses, OpWords-send, OpWords-sync) depth 30

pub Operation-send : IsSend Operation.the_field.row
Operation-send = search (sendable, crosses, NewDocument-send, NewChange-send) depth 30

pub Statement-send : IsSend Statement.the_field.row
Statement-send = search (sendable, crosses, Operation-send) depth 30

pub WriteAsk-send : IsSend WriteAsk.the_field.row
WriteAsk-send = search (sendable, crosses, RequestId-send, Namespace-send, ClientNumber-send, Statement-send, Sent-send) depth 30

pub Outcome-send : IsSend Outcome.the_field.row
Outcome-send = search (sendable, crosses, Key-send, Key-sync, Code-send) depth 30

pub StatementOutcome-send : IsSend StatementOutcome.the_field.row
StatementOutcome-send = search (sendable, crosses, Time-send, Outcome-send, Refusal-send, Refusal-sync) depth 30

pub Done-send : IsSend Done.the_field.row
Done-send = search (sendable, crosses, StatementOutcome-send) depth 30

pub WriteDone-send : IsSend WriteDone.the_field.row
WriteDone-send = search (sendable, crosses, RequestId-send, Done-send) depth 30

pub ReadAsk-send : IsSend ReadAsk.the_field.row
ReadAsk-send = search (sendable, crosses, RequestId-send, Namespace-send, Time-send, Half-send, Half-sync, Sent-send) depth 30

pub HalfAsk-send : IsSend HalfAsk.the_field.row
HalfAsk-send = search (sendable, crosses, RequestId-send, Namespace-send, Time-send, Half-send, Half-sync, Document-send, Document-sync) depth 30

pub ReadRows-send : IsSend ReadRows.the_field.row
ReadRows-send = search (sendable, crosses, RequestId-send, Rows-send, HalfFault-send) depth 30

pub Body-send : IsSend Body.the_field.row
Body-send = search (
  sendable,
  crosses,
  TableAsk-send,
  TableTold-send,
  SplitAsk-send,
  SplitDone-send,
  WriteAsk-send,
  WriteDone-send,
  ReadAsk-send,
  HalfAsk-send,
  ReadRows-send,
  Refused-send,
  TimeAsk-send,
  TimeTold-send,
) depth 30

pub Message-send : IsSend Message.the_field.row
Message-send = search (sendable, crosses, NodeId-send, Time-send, Body-send) depth 30

pub message_sends : IsSend Message.the_row
message_sends = as_row_send Message.the_field Message-send

pub Head-send : IsSend Head.the_field.row
Head-send = search (sendable, crosses, Form-send, GhostList-send, Request-send) depth 30

pub Input-send : IsSend Input.the_field.row
Input-send = search (sendable, crosses, Request-send, Message-send) depth 30

pub input_sends : IsSend Input.the_row
input_sends = as_row_send Input.the_field Input-send
