use Rattle.std.proofs.Common.{take, length, ◌≡◌}
use Rattle.statement_views.specs.Views.{session_record_view}
use Rattle.record_model.specs.MoveFormat.{IsSoundSessionRecord, spelled_session_record}
use Rattle.shard_records.proofs.Lists.{PutSoFar}
use Rattle.shard_records.proofs.session_writer.put_each_session.Given as goal

abbrev pub invariant-loop-kept : goal.invariant-loop-kept
invariant-loop-kept l = PutSoFar spelled_session_record IsSoundSessionRecord session_record_view l.records l.kept-index l.fn.out.items l.out.items
