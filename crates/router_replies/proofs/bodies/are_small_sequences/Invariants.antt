use Rattle.std.proofs.Common.{drop}
use Rattle.opmsg_frames.specs.Lists.{pairs_of}
use Rattle.router_replies.specs.Bodies.{AreSmallSequences}
use Rattle.router_replies.proofs.bodies.are_small_sequences.Given as goal

abbrev pub invariant-loop-sequence : goal.invariant-loop-sequence
invariant-loop-sequence l = AreSmallSequences (pairs_of (drop l.sequence-index l.sequences)) → AreSmallSequences (pairs_of l.sequences)
