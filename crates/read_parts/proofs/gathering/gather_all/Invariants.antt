use Rattle.std.proofs.Common.{◌≡◌, drop, map}
use Rattle.node_model.specs.RouterNext as nexts
use Rattle.pipeline_eval.specs.Rows.{rows_of}
use Rattle.protocol_model.specs.Bodies.{rows_view}
use Rattle.read_parts.proofs.Gathered.{with_front}
use Rattle.read_parts.specs.Parts.{part_view, target_view}
use Rattle.read_parts.proofs.gathering.gather_all.Given as goal

abbrev pub invariant-loop-target : goal.invariant-loop-target
invariant-loop-target l =
    nexts.rows_of (map target_view l.targets) (nexts.also_part (map part_view l.parts) l.sender.0 (rows_view l.told))
    ≡ with_front (map rows_of l.all.items) (nexts.rows_of (map target_view (drop l.target-index l.targets)) (nexts.also_part (map part_view l.parts) l.sender.0 (rows_view l.told)))
