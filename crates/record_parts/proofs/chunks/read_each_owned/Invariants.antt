use Rattle.std.proofs.Common.{map}
use Rattle.chunk_table.specs.Meanings.{owned_view}
use Rattle.record_parts.specs.Readers.{owned_at}
use Rattle.record_parts.proofs.Items.{ReadSoFar}
use Rattle.record_parts.proofs.chunks.read_each_owned.Given as goal

abbrev pub invariant-loop : goal.invariant-loop
invariant-loop l = ReadSoFar owned_at l.count l.counter (map owned_view l.owners.items) l.left l.bytes
