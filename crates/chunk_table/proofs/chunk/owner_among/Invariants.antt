use Rattle.std.proofs.Common.{◌≡◌, drop, map}
use Rattle.chunk_model.specs.Tables.{owner_among}
use Rattle.chunk_table.specs.Meanings.{owned_view}
use Rattle.chunk_table.proofs.chunk.owner_among.Given as goal

abbrev pub invariant-loop-owned : goal.invariant-loop-owned
invariant-loop-owned l =
    owner_among l.time.0 (map owned_view (drop l.owned-index l.owners)) ≡ owner_among l.time.0 (map owned_view l.owners)
