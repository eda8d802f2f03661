use Rattle.std.proofs.Common.{◌≡◌, drop, map}
use Rattle.node_model.specs.RouterNext.{is_target}
use Rattle.read_parts.specs.Parts.{target_view}
use Rattle.read_parts.proofs.parts.is_target.Given as goal

abbrev pub invariant-loop-target : goal.invariant-loop-target
invariant-loop-target l = is_target l.shard.0 (map target_view (drop l.target-index l.targets)) ≡ is_target l.shard.0 (map target_view l.targets)
