-- What the parts of moves and the changes of the catalogue of the program are.
use Rattle.cluster_base.specs.declared.identity.RequestId.{RequestId}
use Rattle.base_model.specs.Identities as identities
use Rattle.chunk_model.specs.Catalogue.{Split, Commit, Resolve, Purge}
use Rattle.chunk_table.specs.Meanings.{version_view}
use Rattle.statement_views.specs.Views.{sessions_view}
use Rattle.record_model.specs.Moves as moves
use Rattle.shard_records.specs.Batches.{batch_view}
use Rattle.shard_records.specs.declared.moves.MoveStart.{MoveStart}
use Rattle.shard_records.specs.declared.moves.SectionStart.{SectionStart}
use Rattle.shard_records.specs.declared.moves.MoveEnd.{MoveEnd}
use Rattle.shard_records.specs.declared.moves.ReceiveStart.{ReceiveStart}
use Rattle.shard_records.specs.declared.moves.ReceivedBatch.{ReceivedBatch}
use Rattle.shard_records.specs.declared.moves.ReceiveDone.{ReceiveDone}
use Rattle.shard_records.specs.declared.moves.Deletion.{Deletion}
use Rattle.shard_records.specs.declared.changes.SplitChange.{SplitChange}
use Rattle.shard_records.specs.declared.changes.CommitChange.{CommitChange}
use Rattle.shard_records.specs.declared.changes.ResolveChange.{ResolveChange}
use Rattle.shard_records.specs.declared.changes.PurgeChange.{PurgeChange}

abbrev pub request_view : RequestId → identities.RequestId
request_view r = record { router = r.router.0; life = r.life; count = r.count }

abbrev pub move_start_view : MoveStart → moves.MoveStart
move_start_view m = record {
  id = request_view m.id;
  namespace = m.namespace;
  range = m.range;
  to = m.to.0;
  version = version_view m.version;
  time = m.time.0;
}

abbrev pub section_view : SectionStart → moves.Section
section_view s = record { id = request_view s.id; time = s.time.0 }

abbrev pub move_end_view : MoveEnd → moves.MoveEnd
move_end_view m = record { id = request_view m.id; committed = m.committed; table = m.table; time = m.time.0; due = m.due }

abbrev pub receive_start_view : ReceiveStart → moves.ReceiveStart
receive_start_view m = record {
  id = request_view m.id;
  namespace = m.namespace;
  range = m.range;
  from = m.from.0;
  table = m.table;
  time = m.time.0;
}

abbrev pub received_view : ReceivedBatch → moves.ReceivedBatch
received_view b = record { id = request_view b.id; time = b.time.0; batch = batch_view b.batch }

abbrev pub receive_done_view : ReceiveDone → moves.ReceiveDone
receive_done_view r = record { id = request_view r.id; sessions = sessions_view r.sessions }

abbrev pub deletion_view : Deletion → moves.Deletion
deletion_view d = record { namespace = d.namespace; range = d.range; until = d.until.0 }

abbrev pub split_view : SplitChange → Split
split_view s = record { namespace = s.namespace; middle = s.middle; at = s.at.0 }

abbrev pub commit_view : CommitChange → Commit
commit_view c = record {
  id = request_view c.id;
  namespace = c.namespace;
  range = c.range;
  from = c.from.0;
  to = c.to.0;
  at = c.at.0;
}

abbrev pub resolve_view : ResolveChange → Resolve
resolve_view r = record { id = request_view r.id; namespace = r.namespace; range = r.range; at = r.at.0 }

abbrev pub purge_view : PurgeChange → Purge
purge_view p = record { namespace = p.namespace; below = p.below.0; at = p.at.0 }
