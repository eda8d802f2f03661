use Rattle.std.proofs.Common.{map}
use Rattle.std.specs.List.{AllByRecursion}
use Rattle.shard_records.specs.Sizes.{IsWritableSession}
use Rattle.statement_views.specs.Views.{session_record_view}
use Rattle.record_reader.specs.RecordReaders.{session_record_at}
use Rattle.record_parts.proofs.Items.{ReadSoFar}
use Rattle.record_reader.proofs.sessions.read_each_session.Given as goal

abbrev pub invariant-loop : goal.invariant-loop
invariant-loop l = record {
  so_far : ReadSoFar session_record_at l.count l.counter (map session_record_view l.sessions.items) l.left l.bytes;
  held : AllByRecursion IsWritableSession (map session_record_view l.sessions.items);
}
