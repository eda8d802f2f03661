use Rattle.std.proofs.Common.{◌≡◌, drop, map}
use Rattle.std.specs.Prelude.{Result}
use Rattle.pipeline_model.specs.Halves.{Rows}
use Rattle.node_model.specs.Letters.{HalfFault}
use Rattle.node_model.specs.RouterNext.{also_part, awaited}
use Rattle.read_parts.specs.Parts.{part_view, target_view}
use Rattle.read_parts.proofs.parts.have_all_come.Given as goal

abbrev pub invariant-loop-target : goal.invariant-loop-target
invariant-loop-target l = (told : Result Rows HalfFault)
    → awaited (map target_view (drop l.target-index l.targets)) (also_part (map part_view l.parts) l.sender.0 told)
    ≡ awaited (map target_view l.targets) (also_part (map part_view l.parts) l.sender.0 told)
