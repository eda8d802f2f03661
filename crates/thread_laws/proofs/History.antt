-- Sessions and collections may go to other threads.
use denote.Param.Send.{IsSend, sendable}
use Rattle.std.proofs.Crossing.{crosses}
use Rattle.std.proofs.MapsCrossing as maps
use Rattle.cluster_base.proofs.identity.Session.TheSendSync.{the_field_send as Session-send}
use Rattle.cluster_base.proofs.time.Time.TheSendSync.{the_field_send as Time-send}
use Rattle.session_book.proofs.book.Place.TheSendSync.{the_field_send as Place-send}
use Rattle.thread_laws.proofs.Values.{Document-send, Document-sync, Key-send, Reply-send}
use Rattle.statement_views.specs.contracts.sessions.StatementRecord as StatementRecord
use Rattle.session_book.specs.contracts.session.Kept as Kept
use Rattle.session_book.specs.contracts.book.Book as Book
use Rattle.mvcc_collection.specs.contracts.chain.Version as Version
use Rattle.mvcc_collection.specs.contracts.chain.Chain as Chain
use Rattle.mvcc_collection.specs.contracts.collection.Collection as Collection

pub StatementRecord-send : IsSend StatementRecord.the_field.row
StatementRecord-send = search (sendable, crosses, Time-send, Reply-send) depth 30

pub Kept-send : IsSend Kept.the_field.row
Kept-send = search (sendable, crosses, StatementRecord-send) depth 30

pub Book-send : IsSend Book.the_field.row
Book-send = search (sendable, crosses, maps.crosses, Session-send, Kept-send, Place-send) depth 30

pub Version-send : IsSend Version.the_field.row
Version-send = search (sendable, crosses, Time-send, Document-send, Document-sync) depth 30

pub Chain-send : IsSend Chain.the_field.row
Chain-send = search (sendable, crosses, Version-send) depth 30

pub Collection-send : IsSend Collection.the_field.row
Collection-send = search (sendable, crosses, maps.crosses, Key-send, Chain-send) depth 30
