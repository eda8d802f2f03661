use Rattle.std.proofs.Common.{◌≡◌, drop, map}
use Rattle.std.specs.List.{list_all}
use Rattle.chunk_table.specs.Meanings.{chunk_view}
use Rattle.node_model.specs.RouterRequests.{has_owner}
use Rattle.read_parts.proofs.targets.are_owned.Given as goal

abbrev pub invariant-loop-chunk : goal.invariant-loop-chunk
invariant-loop-chunk l = list_all (has_owner l.at.0) (map chunk_view (drop l.chunk-index l.chunks)) ≡ list_all (has_owner l.at.0) (map chunk_view l.chunks)
