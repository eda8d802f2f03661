use Rattle.std.proofs.Common.{◌≡◌, drop, map}
use Rattle.std.specs.Prelude.{is_some}
use Rattle.node_model.specs.RouterNext.{part_of}
use Rattle.read_parts.specs.Parts.{part_view}
use Rattle.read_parts.proofs.parts.has_part.Given as goal

abbrev pub invariant-loop-part : goal.invariant-loop-part
invariant-loop-part l = is_some (part_of l.shard.0 (map part_view (drop l.part-index l.parts))) ≡ is_some (part_of l.shard.0 (map part_view l.parts))
