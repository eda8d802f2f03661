use denote.Param.Send.{sendable}
use Rattle.thread_laws.proofs.Nodes.{node_sends}
use Rattle.thread_laws.proofs.laws.node_sends.Goals as goal

pub sends-requires-send-T : goal.sends-requires-send-T
sends-requires-send-T c κs = search (sendable, node_sends)
