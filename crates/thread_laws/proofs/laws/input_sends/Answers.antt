use denote.Param.Send.{sendable}
use Rattle.thread_laws.proofs.Messages.{input_sends}
use Rattle.thread_laws.proofs.laws.input_sends.Goals as goal

pub sends-requires-send-T : goal.sends-requires-send-T
sends-requires-send-T c κs = search (sendable, input_sends)
