use denote.Param.Send.{sendable}
use Rattle.thread_laws.proofs.Wire.{request_sends}
use Rattle.thread_laws.proofs.laws.request_sends.Goals as goal

pub sends-requires-send-T : goal.sends-requires-send-T
sends-requires-send-T c κs = search (sendable, request_sends)
