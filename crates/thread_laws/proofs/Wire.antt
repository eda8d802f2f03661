-- Requests may go to other threads.
use denote.Param.Send.{IsSend, sendable}
use denote.Param.SendFields.{as_row_send}
use Rattle.std.proofs.Crossing.{crosses}
use Rattle.bytes.proofs.shared.Bytes.TheSendSync as bytes
use Rattle.bson_values.proofs.fault.BsonFault.TheSendSync.{the_field_send as BsonFault-send}
use Rattle.bson_values.proofs.text.Text.TheSendSync.{the_send as Text-send}
use Rattle.opmsg_frames.proofs.request.Form.TheSendSync.{the_field_send as Form-send}
use Rattle.thread_laws.proofs.Values.{Document-send}
use Rattle.opmsg_frames.specs.contracts.lists.DocList as DocList
use Rattle.opmsg_frames.specs.contracts.lists.Sequence as Sequence
use Rattle.opmsg_frames.specs.contracts.lists.SequenceList as SequenceList
use Rattle.opmsg_frames.specs.contracts.request.Body as Body
use Rattle.opmsg_frames.specs.contracts.request.Request as Request

pub DocList-send : IsSend DocList.the_field.row
DocList-send = search (sendable, crosses, Document-send) depth 30

pub Sequence-send : IsSend Sequence.the_field.row
Sequence-send = search (sendable, crosses, Text-send, DocList-send) depth 30

pub SequenceList-send : IsSend SequenceList.the_field.row
SequenceList-send = search (sendable, crosses, Sequence-send) depth 30

pub Body-send : IsSend Body.the_field.row
Body-send = search (sendable, crosses, Document-send, SequenceList-send, BsonFault-send) depth 30

pub Request-send : IsSend Request.the_field.row
Request-send = search (sendable, crosses, bytes.the_send, Form-send, Body-send) depth 30

pub request_sends : IsSend Request.the_row
request_sends = as_row_send Request.the_field Request-send
