use Rattle.std.proofs.Common.{◌≡◌, ◌++◌, drop, map}
use Rattle.std.specs.Arc.{arc_value}
use Rattle.node_model.specs.RouterRequests.{asks_to_read, id_of}
use Rattle.node_model.specs.RouterNext.{awaited}
use Rattle.pipeline_lang.specs.Halves.{half_of}
use Rattle.protocol_model.specs.Messages.{letter_of}
use Rattle.read_parts.specs.Parts.{part_view, target_view}
use Rattle.router_requests.specs.Askers.{asker_view}
use Rattle.router_requests.proofs.asker.Asker.asks_to_read.Given as goal

abbrev pub invariant-loop-target : goal.invariant-loop-target
invariant-loop-target l =
    map (λ m. letter_of m) l.asks.items
    ++ asks_to_read (asker_view l.self) l.time.0 (id_of (asker_view l.self) l.count) l.namespace l.turn l.at.0 (half_of (arc_value l.half)) (awaited (map target_view (drop l.target-index l.targets)) (map part_view l.parts))
    ≡ asks_to_read (asker_view l.self) l.time.0 (id_of (asker_view l.self) l.count) l.namespace l.turn l.at.0 (half_of (arc_value l.half)) (awaited (map target_view l.targets) (map part_view l.parts))
