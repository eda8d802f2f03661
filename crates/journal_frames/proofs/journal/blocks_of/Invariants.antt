use Rattle.std.proofs.Common.{◌≡◌, ◌++◌, drop}
use Rattle.journal_frames.specs.Files.{blocks}
use Rattle.journal_frames.proofs.journal.blocks_of.Given as goal

abbrev pub invariant-loop-bytes : goal.invariant-loop-bytes
invariant-loop-bytes l = l.blocks.items ++ blocks (drop l.bytes-index l.bodies) ≡ blocks l.bodies
