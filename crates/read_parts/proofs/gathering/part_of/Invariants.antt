use Rattle.std.proofs.Common.{◌≡◌, drop, map}
use Rattle.node_model.specs.RouterNext.{part_of}
use Rattle.read_parts.specs.Parts.{part_view}
use Rattle.read_parts.proofs.gathering.part_of.Given as goal

abbrev pub invariant-loop-part : goal.invariant-loop-part
invariant-loop-part l = part_of l.shard.0 (map part_view (drop l.part-index l.parts)) ≡ part_of l.shard.0 (map part_view l.parts)
