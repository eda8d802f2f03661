use Rattle.std.proofs.Common.{take, length, ◌≡◌}
use Rattle.chunk_table.specs.Meanings.{owned_view}
use Rattle.record_model.specs.RecordFormat.{IsSoundOwned, spelled_owned}
use Rattle.shard_records.proofs.Lists.{PutSoFar}
use Rattle.shard_records.proofs.tables.put_each_owned.Given as goal

abbrev pub invariant-loop-owned : goal.invariant-loop-owned
invariant-loop-owned l = PutSoFar spelled_owned IsSoundOwned owned_view l.owners l.owned-index l.fn.out.items l.out.items
