use Rattle.std.proofs.Common.{map}
use Rattle.std.specs.List.{AllByRecursion}
use Rattle.shard_records.specs.Sizes.{IsWritableStatement}
use Rattle.statement_views.specs.Views.{statement_record_view}
use Rattle.record_reader.specs.RecordReaders.{statement_record_at}
use Rattle.record_parts.proofs.Items.{ReadSoFar}
use Rattle.record_reader.proofs.sessions.read_each_statement.Given as goal

abbrev pub invariant-loop : goal.invariant-loop
invariant-loop l = record {
  so_far : ReadSoFar statement_record_at l.count l.counter (map statement_record_view l.statements.items) l.left l.bytes;
  held : AllByRecursion IsWritableStatement (map statement_record_view l.statements.items);
}
